use Rattle.law_json.proofs.Whole.{agree}
use Rattle.law_json.proofs.laws.equal_texts_show_the_same.Goals as goal

pub returns : goal.returns
returns c = agree
