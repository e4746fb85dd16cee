use Rattle.std.proofs.Common.{◌-◌, length, take, drop, ap, arith, length-drop}
use Rattle.std.proofs.lemmas.List.{take_all}
use Rattle.pkt_view.specs.Frame.{V6}
use Rattle.pkt_view.proofs.frame.ipv6_view.Goals as goal

pub returns-clause-parts : goal.returns-clause-parts
returns-clause-parts c =
    let payload = c.args.payload.now in
    ap (V6 (take 40 payload)) (take_all (length payload - 40) (drop 40 payload) (omega (arith, length-drop 40 payload)))
