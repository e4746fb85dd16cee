use Rattle.recording.proofs.Whole.{way_tells}
use Rattle.recording.proofs.laws.a_way_tells_records.Goals as goal

pub returns : goal.returns
returns g c = way_tells g.S.Source.left g.S.Source.may
