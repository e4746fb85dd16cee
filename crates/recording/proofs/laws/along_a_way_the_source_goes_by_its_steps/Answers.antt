use Rattle.recording.proofs.Whole.{source_goes}
use Rattle.recording.proofs.laws.along_a_way_the_source_goes_by_its_steps.Goals as goal

pub returns : goal.returns
returns g c = source_goes g.S.Source.left g.S.Source.may
