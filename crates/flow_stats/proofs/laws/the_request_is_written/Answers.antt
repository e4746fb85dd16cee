use Rattle.std.proofs.Common.{lit<, lit≤, refl, arith}
use Rattle.of_wire.specs.Numbers.{number_in}
use Rattle.of_wire.specs.Parts.{number}
use Rattle.of13_codec.specs.Messages.{written}
use Rattle.of13_codec.proofs.Multiparts.{own_cases}
use Rattle.flow_stats.proofs.laws.the_request_is_written.Goals as goal

pub returns-clause-well_formed : goal.returns-clause-well_formed
unfolding number number_in
returns-clause-well_formed c = (
  lit< tt,
  record {
    other = own_cases 18 ⊥ (λ x. omega arith) (λ x. omega arith) (λ x. omega arith) (λ x. omega arith) (λ x. omega arith) (λ x. omega arith) (λ x. omega arith) (λ x. omega arith) (λ x. omega arith);
    part = λ k. (lit≤ tt, λ e. omega (arith, e), λ e. omega (arith, e));
  },
)

pub returns-clause-fits : goal.returns-clause-fits
unfolding number
returns-clause-fits c = lit< tt

pub returns-clause-third : goal.returns-clause-third
unfolding number written
returns-clause-third c = refl
