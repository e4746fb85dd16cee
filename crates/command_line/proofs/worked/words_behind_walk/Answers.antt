use Rattle.std.proofs.Common.{refl}
use Rattle.hex.specs.Hex.{decode_pairs}
use Rattle.pkt_view.specs.Frame.{tag_count}
use Rattle.pkt_view.specs.Numbers.{number_at}
use Rattle.command_line.specs.Meaning.{meaning}
use Rattle.command_line.specs.Parts.{parted, parts_of}
use Rattle.command_line.proofs.worked.words_behind_walk.Goals as goal

pub returns-clause-tagged : goal.returns-clause-tagged
unfolding meaning parts_of parted decode_pairs tag_count number_at
returns-clause-tagged c = refl

pub returns-clause-no_type : goal.returns-clause-no_type
unfolding meaning parts_of parted decode_pairs tag_count number_at
returns-clause-no_type c = refl
