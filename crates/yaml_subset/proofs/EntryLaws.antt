use Rattle.std.proofs.Common.{◌≡◌, ℕ, Bool, true, false, cond, ◌||◌, List, [], ◌∷◌, ◌++◌, refl, sym, ◌∙◌, ap, ℤ}
use Rattle.std.specs.Ordering.{int_cmp, int_eq, nat_cmp}
use Rattle.std.specs.Cmp.Lexicographic.{slice_cmp}
use Rattle.std.specs.Str.{bytes_eq}
use Rattle.std.specs.String.{string_bytes, string_cmp}
use Rattle.std.specs.BTreeSet.{BTreeSet, UpdatesBy}
use Rattle.std.specs.declared.string.String.{String}
use Rattle.std.specs.declared.alloc.Global.{Global}
use Rattle.std.proofs.lemmas.Map.Text.{btree_set_updates_text}
use Rattle.yaml_tree.specs.declared.tree.Tree.{Tree}
use Rattle.yaml_tree.specs.declared.tree.Key.{Key}
use Rattle.yaml_tree.specs.declared.tree.Key.TheVariants as key
use Rattle.yaml_tree.specs.declared.tree.Pair.{Pair}
use Rattle.yaml_subset.specs.Entries.{key_eq, has_key}
use Rattle.yaml_subset.specs.Seen.{HaveKeys}

or_assoc : (a b c : Bool) → a || (b || c) ≡ (a || b) || c
or_assoc true b c = refl
or_assoc false b c = refl

or_false : (a : Bool) → a || false ≡ a
or_false true = refl
or_false false = refl

cond_or : (b a : Bool) → cond b true a ≡ a || b
cond_or true true = refl
cond_or true false = refl
cond_or false true = refl
cond_or false false = refl

-- an entry more has its own key, and those before it keep theirs
has_key-append : (pairs : List Pair) (p : Pair) (k : Key) → has_key (pairs ++ p ∷ []) k ≡ has_key pairs k || key_eq p.key k
unfolding has_key
has_key-append [] p k = or_false (key_eq p.key k)
has_key-append (q ∷ qs) p k = ap (λ b. key_eq q.key k || b) (has_key-append qs p k) ∙ or_assoc (key_eq q.key k) (has_key qs k) (key_eq p.key k)

pub with_int_keys : (pairs : List Pair) (ints ints' : BTreeSet ℤ) (texts : BTreeSet (String Global)) (n : ℤ) (v : Tree)
    → HaveKeys pairs ints texts → UpdatesBy int_cmp (int_cmp n) ints ints' true
    → HaveKeys (pairs ++ (record { key = key.Int n; value = v }) ∷ []) ints' texts
with_int_keys pairs ints ints' texts n v have u = record {
  ints_agree = λ m. u.0 m ∙ ap (λ a. cond (int_eq n m) true a) (have.ints_agree m) ∙ cond_or (int_eq n m) (has_key pairs (key.Int m)) ∙ sym (has_key-append pairs (record { key = key.Int n; value = v }) (key.Int m));
  texts_agree = λ bs. have.texts_agree bs ∙ sym (or_false (has_key pairs (key.Text bs))) ∙ sym (has_key-append pairs (record { key = key.Int n; value = v }) (key.Text bs));
}

pub with_text_keys : (pairs : List Pair) (ints : BTreeSet ℤ) (texts texts' : BTreeSet (String Global)) (text : List ℕ) (v : Tree)
    → HaveKeys pairs ints texts → UpdatesBy string_cmp (λ k. slice_cmp nat_cmp text (string_bytes k)) texts texts' true
    → HaveKeys (pairs ++ (record { key = key.Text text; value = v }) ∷ []) ints texts'
with_text_keys pairs ints texts texts' text v have u = record {
  ints_agree = λ m. have.ints_agree m ∙ sym (or_false (has_key pairs (key.Int m))) ∙ sym (has_key-append pairs (record { key = key.Text text; value = v }) (key.Int m));
  texts_agree = λ bs. btree_set_updates_text text texts texts' true u bs ∙ ap (λ a. cond (bytes_eq text bs) true a) (have.texts_agree bs) ∙ cond_or (bytes_eq text bs) (has_key pairs (key.Text bs)) ∙ sym (has_key-append pairs (record { key = key.Text text; value = v }) (key.Text bs));
}
