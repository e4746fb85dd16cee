use Rattle.std.proofs.Common.{◌≡◌, take}
use Rattle.std.specs.List.{flat_map}
use Rattle.bgp_drive.specs.Speech.{sayings_by}
use Rattle.bgp_drive.proofs.lines.sayings_of.Given as goal

abbrev pub invariant-loop-saying : goal.invariant-loop-saying
invariant-loop-saying l = l.sayings ≡ flat_map sayings_by (take l.saying-index l.says)
