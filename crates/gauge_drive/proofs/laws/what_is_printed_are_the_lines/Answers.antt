use Rattle.gauge_drive.proofs.Printing.{prints_lines}
use Rattle.gauge_drive.proofs.laws.what_is_printed_are_the_lines.Goals as goal

pub returns : goal.returns
returns c = record { recorded = prints_lines; served = prints_lines }
