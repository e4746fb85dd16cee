use Rattle.law_texts.proofs.NoScalarLaws.{none_told, none_stands, no_value_told, no_value_stands, no_key_told, no_key_stands}
use Rattle.law_texts.proofs.scalars.a_scalar_that_stands_for_nothing_is_refused_for_its_cause.Goals as goal

pub returns : goal.returns
returns c = record {
  alone = λ s cause. (none_told s cause, none_stands s cause);
  there = λ s after cause. (no_value_told s after cause, no_value_stands s after cause);
  as_key = λ s cause. (no_key_told s cause, no_key_stands s cause);
}
