use Rattle.yaml_subset.proofs.PrintedText.{reads_back}
use Rattle.law_texts.proofs.TextLaws.{printed_alone, printed_one}
use Rattle.law_texts.proofs.texts.a_canonical_text_has_its_tree.Goals as goal

pub returns : goal.returns
returns c = record { has = reads_back; alone = printed_alone; one = printed_one }
