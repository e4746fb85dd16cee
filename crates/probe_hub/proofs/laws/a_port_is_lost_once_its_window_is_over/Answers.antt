use Rattle.std.proofs.Common.{ap}
use Rattle.probe_hub.specs.Marks.{mark_of}
use Rattle.probe_hub.specs.Peer.{is_of, mark_watched}
use Rattle.probe_hub.proofs.Losing.{gets_lost, stays}
use Rattle.probe_hub.proofs.laws.a_port_is_lost_once_its_window_is_over.Goals as goal

pub returns-clause-over : goal.returns-clause-over
returns-clause-over c = gets_lost

pub returns-clause-before : goal.returns-clause-before
returns-clause-before c = stays

pub returns-clause-unwatched : goal.returns-clause-unwatched
returns-clause-unwatched c = λ moment end p none. ap (λ w. mark_watched moment w (is_of end.dp p.dp) (mark_of p.marks end.port)) none
