use Rattle.std.proofs.Common.{◌≡◌, ◌++◌, drop}
use Rattle.std.specs.List.{flat_map}
use Rattle.conf_resolve.specs.Resolved.{ports_of}
use Rattle.conf_resolve.proofs.rules.push_outputs.Given as goal

-- what is left completes the list
abbrev pub invariant-loop-output : goal.invariant-loop-output
invariant-loop-output l = l.ports ++ flat_map ports_of (drop l.output-index l.outputs) ≡ l.fn.ports ++ flat_map ports_of l.outputs
