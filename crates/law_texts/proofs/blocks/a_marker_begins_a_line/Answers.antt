use Rattle.law_texts.proofs.BlockLaws.{marker_found, marker_there, start_found, start_there}
use Rattle.law_texts.proofs.blocks.a_marker_begins_a_line.Goals as goal

pub returns : goal.returns
returns c = record { marker = λ c line. (marker_found c line, marker_there c line); start = λ state. (start_found state, start_there state) }
