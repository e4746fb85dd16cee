use Rattle.std.proofs.Common.{◌≡◌, drop}
use Rattle.probe_hub.specs.Peer.{released_all}
use Rattle.probe_hub.proofs.peer.Peer.release.Given as goal

abbrev pub invariant-loop-end : goal.invariant-loop-end
invariant-loop-end l = released_all l.next.ends (drop l.end-index l.ends) l.self ≡ released_all l.next.ends l.ends l.initial.self
