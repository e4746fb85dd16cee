use Rattle.law_checks.proofs.KeptLinks.{mirrors_kept}
use Rattle.law_checks.proofs.Links.{mirrored_named, mirrors_valid}
use Rattle.law_rules.proofs.Apart.{numbers_differ}
use Rattle.law_rules.proofs.rules.rule_10_is_on_mirrors.Goals as goal

pub returns : goal.returns
returns c = λ o differ. (λ none. (mirrored_named o none, mirrors_valid o none), λ is. mirrors_kept o (numbers_differ o differ) is.0 is.1)
