use Rattle.law_texts.proofs.ScanLaws.{scan_found, scan_read}
use Rattle.law_texts.proofs.scalars.a_scalar_is_read_as_it_is_written.Goals as goal

pub returns : goal.returns
returns c = λ flow rest s after. (scan_found flow rest s after, scan_read flow rest s after)
