use Rattle.std.proofs.Common.{◌≡◌, drop}
use Rattle.probe_hub.specs.Probing.{probed_all}
use Rattle.probe_hub.proofs.probing.Probing.probe_all.Given as goal

abbrev pub invariant-loop-end : goal.invariant-loop-end
invariant-loop-end l = probed_all l.conns l.moment (drop l.end-index l.ends) l.self ≡ probed_all l.conns l.moment l.ends l.initial.self
