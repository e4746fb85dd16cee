use Rattle.std.proofs.Common.{◌≡◌, take}
use Rattle.std.specs.List.{flat_map}
use Rattle.hub_drive.specs.Driving.{line_by}
use Rattle.hub_drive.proofs.sayings.make_lines.Given as goal

abbrev pub invariant-loop-saying : goal.invariant-loop-saying
invariant-loop-saying l = l.lines ≡ flat_map line_by (take l.saying-index l.sayings)
