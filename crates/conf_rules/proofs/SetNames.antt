-- Names that are set in a map.
use Rattle.std.proofs.Common.{◌≡◌, ℕ, cond, List, Option, sym, ap, ◌∙◌}
use Rattle.std.specs.BTreeMap.{BTreeMap, UpdatesBy, get_by_text}
use Rattle.std.specs.Cmp.Lexicographic.{slice_cmp}
use Rattle.std.specs.Ordering.{nat_cmp}
use Rattle.std.specs.String.{string_bytes, string_cmp}
use Rattle.std.specs.declared.string.String.{String}
use Rattle.std.specs.declared.alloc.Global.{Global}
use Rattle.std.proofs.lemmas.Map.Text.{btree_map_updates_text, is_eq-slice_cmp}
use Rattle.conf_types.specs.Lists.{is_same}

-- a name, set in a map
pub text_set : {X : Type 0} (bs name : List ℕ) (m n : BTreeMap (String Global) X) (w : Option X) → bs ≡ name → UpdatesBy string_cmp (λ k. slice_cmp nat_cmp bs (string_bytes k)) m n w
    → (t : List ℕ) → get_by_text n t ≡ cond (is_same name t) w (get_by_text m t)
text_set bs name m n w e u t =
    btree_map_updates_text bs m n w u t ∙ ap (λ b. cond b w (get_by_text m t)) (sym (is_eq-slice_cmp bs t) ∙ ap (λ k. is_same k t) e)
