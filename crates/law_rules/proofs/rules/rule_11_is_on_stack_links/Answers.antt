use Rattle.law_checks.proofs.KeptLinks.{stacks_kept}
use Rattle.law_checks.proofs.Links.{far_ends_named, stacks_valid}
use Rattle.law_rules.proofs.rules.rule_11_is_on_stack_links.Goals as goal

pub returns : goal.returns
returns c = λ o. (λ none. (far_ends_named o none, stacks_valid o none), λ is. stacks_kept o is.0 is.1)
