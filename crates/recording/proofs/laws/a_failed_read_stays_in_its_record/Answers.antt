use Rattle.recording.proofs.Whole.{read_inside}
use Rattle.recording.proofs.laws.a_failed_read_stays_in_its_record.Goals as goal

pub returns : goal.returns
returns g c = read_inside g.S.Source.left g.S.Source.may
