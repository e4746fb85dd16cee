use Rattle.std.proofs.Common.{refl}
use Rattle.hex.specs.Hex.{decode_pairs}
use Rattle.pkt_view.specs.Frame.{tag_count}
use Rattle.pkt_view.specs.Numbers.{number_at}
use Rattle.command_line.specs.Meaning.{meaning}
use Rattle.command_line.specs.Parts.{parted, parts_of}
use Rattle.command_line.proofs.worked.words_behind_trace.Goals as goal

pub returns-clause-both_cases : goal.returns-clause-both_cases
unfolding meaning parts_of parted decode_pairs tag_count number_at
returns-clause-both_cases c = refl

pub returns-clause-no_digit : goal.returns-clause-no_digit
unfolding meaning parts_of parted decode_pairs
returns-clause-no_digit c = refl

pub returns-clause-no_type : goal.returns-clause-no_type
unfolding meaning parts_of parted decode_pairs tag_count number_at
returns-clause-no_type c = refl

pub returns-clause-tag_alone : goal.returns-clause-tag_alone
unfolding meaning parts_of parted decode_pairs tag_count number_at
returns-clause-tag_alone c = refl
