use Rattle.std.proofs.Common.{◌≡◌, ◌++◌, take}
use Rattle.std.specs.List.{flat_map}
use Rattle.of_wire.specs.Parts.{action_bytes}
use Rattle.of_wire.proofs.actions.put_actions.Given as goal

abbrev pub invariant-loop-action : goal.invariant-loop-action
invariant-loop-action l = l.out ≡ l.fn.out ++ flat_map action_bytes (take l.action-index l.actions)
