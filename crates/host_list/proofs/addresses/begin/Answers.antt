use Rattle.std.proofs.Common.{refl}
use Rattle.host_list.specs.declared.addresses.Standing.TheVariants.{One}
use Rattle.host_list.proofs.AtAddress.{inserted}
use Rattle.host_list.proofs.addresses.begin.Goals as goal

pub returns-clause-ok : goal.returns-clause-ok
returns-clause-ok c = inserted c.args.addresses.now c.args.address c.insert.new.self (One c.args.entry) c.args.entry c.in_ok-insert.ensures.updates refl c.requires
