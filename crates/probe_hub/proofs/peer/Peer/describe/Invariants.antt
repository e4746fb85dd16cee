use Rattle.std.proofs.Common.{◌≡◌, drop}
use Rattle.probe_hub.specs.Peer.{described}
use Rattle.probe_hub.proofs.peer.Peer.describe.Given as goal

abbrev pub invariant-loop-port : goal.invariant-loop-port
invariant-loop-port l = described l.moment (drop l.port-index l.ports) l.self ≡ described l.moment l.ports l.initial.self
