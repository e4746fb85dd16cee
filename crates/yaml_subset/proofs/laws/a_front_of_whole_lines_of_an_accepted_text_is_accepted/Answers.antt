use Rattle.yaml_subset.proofs.FrontLaws.{front_accepted}
use Rattle.yaml_subset.proofs.laws.a_front_of_whole_lines_of_an_accepted_text_is_accepted.Goals as goal

pub returns : goal.returns
returns c = front_accepted
