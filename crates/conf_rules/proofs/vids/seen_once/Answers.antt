use Rattle.std.proofs.Common.{rules, false, replicate, ap, sym, ◌∙◌, ◌||◌, ◌==◌}
use Rattle.std.specs.Prelude.{slice_index_or}
use Rattle.std.proofs.lemmas.List.{get_or-replicate}
use Rattle.std.specs.Option.{option_map_or}
use Rattle.conf_rules.proofs.SeenVids.{seen_more}
use Rattle.conf_rules.proofs.vids.seen_once.Goals as goal

pub returns-in-Some : goal.returns-in-Some
returns-in-Some c = λ n lt.
    ap (λ t. slice_index_or t n false) c.see_vid.ensures.is
    ∙ seen_more (replicate 4096 false) c.in-Some.vid n (search rules)
    ∙ ap (λ b. b || c.in-Some.vid == n) (get_or-replicate 4096 n false false lt)
    ∙ ap (λ o. option_map_or (λ v. v == n) o false) (sym c.in-Some.is)

pub returns-in_default : goal.returns-in_default
returns-in_default c = λ n lt. get_or-replicate 4096 n false false lt ∙ ap (λ o. option_map_or (λ v. v == n) o false) (sym c.in_default.is)
