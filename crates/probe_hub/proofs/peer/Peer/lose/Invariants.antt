use Rattle.std.proofs.Common.{◌≡◌, drop}
use Rattle.probe_hub.specs.Peer.{lost_all}
use Rattle.probe_hub.proofs.peer.Peer.lose.Given as goal

abbrev pub invariant-loop-end : goal.invariant-loop-end
invariant-loop-end l = lost_all l.moment (drop l.end-index l.ends) l.self ≡ lost_all l.moment l.ends l.initial.self
