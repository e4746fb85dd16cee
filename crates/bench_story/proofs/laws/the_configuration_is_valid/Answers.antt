use Rattle.bench_story.proofs.Valid.{setup_valid}
use Rattle.bench_story.proofs.laws.the_configuration_is_valid.Goals as goal

pub returns : goal.returns
returns c = setup_valid
