use Rattle.law_texts.proofs.PartLaws.{part_found, part_read}
use Rattle.law_texts.proofs.lines.the_next_part_stands_behind_spaces.Goals as goal

pub returns : goal.returns
returns c = λ fresh rest part. (part_found fresh rest part, part_read fresh rest part)
