use Rattle.std.proofs.Common.{◌≡◌, take}
use Rattle.std.specs.List.{flat_map}
use Rattle.bgp_drive.specs.Speech.{record_by}
use Rattle.bgp_drive.proofs.records.records_of.Given as goal

abbrev pub invariant-loop-saying : goal.invariant-loop-saying
invariant-loop-saying l = l.bytes ≡ flat_map (record_by l.moment) (take l.saying-index l.says)
