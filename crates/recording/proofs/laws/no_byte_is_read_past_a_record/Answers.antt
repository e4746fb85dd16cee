use Rattle.recording.proofs.Whole.{read_behind}
use Rattle.recording.proofs.laws.no_byte_is_read_past_a_record.Goals as goal

pub returns : goal.returns
returns g c = read_behind g.S.Source.left g.S.Source.may
