use Rattle.law_keys.proofs.MeansLaw.{law, refusal_law}
use Rattle.law_keys.proofs.documents.a_document_gives_what_it_means.Goals as goal

pub returns : goal.returns
returns c = record {
  accepted = λ t conf. law c.a_document_has_no_fault_where_it_is_right_by_its_keys.ensures c.a_raw_configuration_says_what_is_written.ensures c.no_other_raw_configuration_says_what_is_written.ensures t conf;
  refused = λ t fault. refusal_law c.a_document_has_no_fault_where_it_is_right_by_its_keys.ensures c.a_raw_configuration_says_what_is_written.ensures c.no_other_raw_configuration_says_what_is_written.ensures c.a_fault_is_told_where_its_cause_holds.ensures t fault;
}
