use Rattle.std.proofs.Common.{◌≡◌, take}
use Rattle.std.specs.List.{flat_map}
use Rattle.hub_drive.specs.Driving.{written_by}
use Rattle.hub_drive.proofs.sayings.make_records.Given as goal

abbrev pub invariant-loop-saying : goal.invariant-loop-saying
invariant-loop-saying l = l.bytes ≡ flat_map (written_by l.moment) (take l.saying-index l.sayings)
