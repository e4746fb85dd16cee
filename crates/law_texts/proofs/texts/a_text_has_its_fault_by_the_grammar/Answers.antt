use Rattle.yaml_subset.proofs.TextFaults.{text_told, text_tells}
use Rattle.law_texts.proofs.OpenedLines.{fault_there, fault_told}
use Rattle.law_texts.proofs.texts.a_text_has_its_fault_by_the_grammar.Goals as goal

pub returns : goal.returns
returns c = record {
  fault = λ text f. (fault_there text f, fault_told text f);
  read = λ text f. (λ e. fault_there text f (text_told text f e), λ h. text_tells text f (fault_told text f h));
}
