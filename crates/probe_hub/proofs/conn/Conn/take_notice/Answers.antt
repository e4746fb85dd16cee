use Rattle.std.proofs.Common.{List, ap}
use Rattle.probe_hub.specs.declared.notices.Notice.{Notice}
use Rattle.probe_hub.specs.Conn.{with_number}
use Rattle.probe_hub.proofs.Places.{both}
use Rattle.probe_hub.proofs.conn.Conn.take_notice.Goals as goal

pub returns-in-Some : goal.returns-in-Some
returns-in-Some c =
    let it = c.args.self.now in
    both (ap (λ (ns : List Notice). record it { peer = record it.peer { waiting = ns } }) c.take_first.ensures.rest) (ap (with_number it.number) c.in-Some.ensures.first)

pub returns-in-None : goal.returns-in-None
returns-in-None c =
    let it = c.args.self.now in
    both (ap (λ (ns : List Notice). record it { peer = record it.peer { waiting = ns } }) c.take_first.ensures.rest) (ap (with_number it.number) c.in-None.ensures.first)
