use Rattle.recording.proofs.Whole.{read_and_told}
use Rattle.recording.proofs.laws.a_record_tells_its_own_before_the_next_is_read.Goals as goal

pub returns : goal.returns
returns g c = read_and_told g.S.Source.left g.S.Source.may
