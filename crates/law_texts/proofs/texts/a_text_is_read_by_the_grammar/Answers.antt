use Rattle.yaml_subset.proofs.GrammarLines.{text_split}
use Rattle.yaml_subset.proofs.GrammarTexts.{text_read}
use Rattle.yaml_subset.proofs.TextFaults.{text_told, text_tells}
use Rattle.law_texts.proofs.TextLaws.{no_tree, its_fault}
use Rattle.law_texts.proofs.texts.a_text_is_read_by_the_grammar.Goals as goal

pub returns : goal.returns
returns c = record {
  tree = λ text t. (text_split text t, text_read text t);
  fault = λ text f. (text_told text f, text_tells text f);
  refused = λ text. (no_tree text, its_fault text);
}
