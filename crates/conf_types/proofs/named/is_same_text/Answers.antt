use Rattle.std.proofs.Common.{◌∙◌, ℕ, List, ap}
use Rattle.std.specs.Cmp.Lexicographic.{texts_ties}
use Rattle.conf_types.specs.Lists.{is_same}
use Rattle.conf_types.proofs.named.is_same_text.Goals as goal

pub returns : goal.returns
returns c = c.eq.ensures ∙ texts_ties c.as_str.result.now c.as_str-2.result.now ∙ ap (λ (x : List ℕ). is_same x c.as_str-2.result.now) c.as_str.ensures ∙ ap (λ (x : List ℕ). is_same c.args.a.now x) c.as_str-2.ensures
