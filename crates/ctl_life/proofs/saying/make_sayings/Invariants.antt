use Rattle.std.proofs.Common.{◌≡◌, map, take}
use Rattle.ctl_life.specs.Sayings.{saying_of}
use Rattle.ctl_life.proofs.saying.make_sayings.Given as goal

abbrev pub invariant-loop-one : goal.invariant-loop-one
invariant-loop-one l = l.made ≡ map saying_of (take l.one-index l.said)
