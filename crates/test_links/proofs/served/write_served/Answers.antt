use Rattle.std.proofs.Common.{length, ap, arith}
use Rattle.std.proofs.lemmas.List.{length-take}
use Rattle.test_links.proofs.FewLinks.{links_in_le}
use Rattle.test_links.proofs.served.write_served.Goals as goal

pub new-requires : goal.new-requires
new-requires c =
    let few = links_in_le c.truncate.new.self in
    omega (arith, few, ap length c.truncate.ensures, length-take 5000 c.in_ok-nexts.nexts)
