use Rattle.std.proofs.Common.{◌≡◌, ◌+◌, ◌*◌, ◌≤◌, length, take}
use Rattle.std.specs.List.{flat_map}
use Rattle.of_wire.specs.Parts.{field_bytes}
use Rattle.of_wire.proofs.matches.match_len.Given as goal

abbrev pub invariant-loop-field : goal.invariant-loop-field
invariant-loop-field l = (l.total ≡ 4 + length (flat_map field_bytes (take l.field-index l.fields))) × (l.total ≤ 4 + 36 * l.field-index)
