use Rattle.std.proofs.Common.{◌≡◌, ◌||◌, Bool, true, false, cond, List, ℕ, string_bytes, refl, ap, ◌∙◌}
use Rattle.std.specs.BTreeSet.{contains_text}
use Rattle.std.specs.Str.{bytes_eq}
use Rattle.std.proofs.lemmas.Map.Text.{btree_set_updates_text}
use Rattle.prom_text.specs.Blocks.{flow_name}
use Rattle.prom_text.proofs.rows.see_flow.Goals as goal

cond_or : (b a : Bool) → cond b true a ≡ a || b
cond_or true true = refl
cond_or true false = refl
cond_or false true = refl
cond_or false false = refl

pub returns-clause-is : goal.returns-clause-is
returns-clause-is c = λ t.
    let bytes = string_bytes c.in_ok-from_str.field-0 in
    let seen = c.args.seen.now in
    let same : bytes ≡ flow_name c.args.flow.now = c.in_ok-from_str.ensures.ok ∙ c.as_str-2.ensures ∙ c.in_ok-name.ensures in
    btree_set_updates_text bytes seen c.insert.new.self true c.in_ok-insert.ensures.updates t
    ∙ cond_or (bytes_eq bytes t) (contains_text seen t) ∙ ap (λ (x : List ℕ). contains_text seen t || bytes_eq x t) same
