use Rattle.std.proofs.Common.{◌≡◌, ◌*◌, ◌≤◌, length, take}
use Rattle.std.specs.List.{flat_map}
use Rattle.of_wire.specs.Parts.{action_bytes}
use Rattle.of_wire.proofs.actions.actions_len.Given as goal

abbrev pub invariant-loop-action : goal.invariant-loop-action
invariant-loop-action l = (l.total ≡ length (flat_map action_bytes (take l.action-index l.actions))) × (l.total ≤ 40 * l.action-index)
