use Rattle.std.proofs.Common.{◌≡◌, take}
use Rattle.warm_plan.specs.Parts.{keys_of}
use Rattle.warm_plan.proofs.plan.keys_of.Given as goal

-- the keys so far
abbrev pub invariant-loop-entry : goal.invariant-loop-entry
invariant-loop-entry l = l.keys ≡ keys_of (take l.entry-index l.entries)
