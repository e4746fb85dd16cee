use Rattle.std.proofs.Common.{◌≡◌, ℕ, List, true, false, is_some, string_bytes, ap, sym, ◌∙◌}
use Rattle.std.specs.BTreeMap.{get_by_text}
use Rattle.std.proofs.lemmas.Map.Text.{btree_map_updates_text}
use Rattle.conf_resolve.proofs.Naming.{one_kept, one_more}
use Rattle.conf_resolve.proofs.by_name.add_first.Goals as goal

pub returns-then-contains_key : goal.returns-then-contains_key
returns-then-contains_key g c =
    let at = get_by_text c.args.values.now in
    let name : List ℕ = c.args.name.now in
    let there : is_some (at name) ≡ true = ap (λ (n : List ℕ). is_some (at n)) (sym c.as_str-name.ensures) ∙ sym c.contains_key.ensures ∙ c.if-contains_key.true in
    one_kept at name c.args.value there

pub returns : goal.returns
returns g c =
    let at = get_by_text c.args.values.now in
    let name : List ℕ = c.args.name.now in
    let absent : is_some (at name) ≡ false = ap (λ (n : List ℕ). is_some (at n)) (sym c.as_str-name.ensures) ∙ sym c.contains_key.ensures ∙ c.if-contains_key.false in
    let key : string_bytes c.in_ok-key.key ≡ name = c.in_ok-key.ensures.ok ∙ c.as_str-name.ensures in
    let sets = btree_map_updates_text (string_bytes c.in_ok-key.key) c.args.values.now c.insert.new.self _ c.in_ok-insert.ensures.updates in
    one_more at name c.args.value (get_by_text c.insert.new.self) absent (rw key at sets)
