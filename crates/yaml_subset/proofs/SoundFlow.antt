-- Scalars, keys and values on one line are sound, and nest no more than they may.
use Rattle.std.proofs.Common.{◌≡◌, ◌⊎◌, inl, inr, ℕ, zero, suc, ◌<◌, ◌==◌, nat_lt, pos, ◌-ℤ◌, true, false, Bool, cond, ◌&&◌, List, [], ◌∷◌, ◌++◌, drop, Option, Some, None, Ok, Err, refl, sym, ◌∙◌, subst, arith, ltb-true, lt-ltb}
use Rattle.std.specs.Option.{option_and_then}
use Rattle.std.specs.Str.{is_utf8}
use Rattle.yaml_subset.specs.declared.fault.YamlForm.TheVariants as form
use Rattle.yaml_subset.specs.declared.fault.YamlForm.TheVariants.{MergeKey}
use Rattle.yaml_subset.specs.declared.fault.YamlCause.TheVariants.{LeftOut, Syntax}
use Rattle.yaml_subset.specs.declared.numbers.Number.{Number}
use Rattle.yaml_subset.specs.declared.numbers.Number.TheVariants.{Not, Whole, Wide}
use Rattle.yaml_subset.specs.declared.scalars.Scanned.{Scanned}
use Rattle.yaml_tree.specs.declared.tree.Tree.{Tree}
use Rattle.yaml_tree.specs.declared.tree.Tree.TheVariants as tree
use Rattle.yaml_tree.specs.declared.tree.Key.{Key}
use Rattle.yaml_tree.specs.declared.tree.Key.TheVariants as keys
use Rattle.yaml_tree.specs.declared.tree.Pair.{Pair}
use Rattle.yaml_subset.specs.Characters.{begins, marks}
use Rattle.yaml_subset.specs.Numbers.{greatest, magnitude, signed, whole_or, number_in, decimal, number_of}
use Rattle.yaml_subset.specs.Scalars.{text_of, is_null, is_true_word, is_false_word, is_merge, text_tree, number_or_text, plain_value, scalar_value, as_key, key_of, value_at}
use Rattle.yaml_subset.specs.LineValue.{IsScalar, AreFlowItems, IsFlowValue, AreFlowEntries, IsNested, IsFlow, IsLineValue}
use Rattle.yaml_subset.specs.ReadBack.{is_i128, is_key, is_sound}
use Rattle.yaml_subset.proofs.Holding.{Holds, holds_ok, holds_err, holds_bind, holds_if}
use Rattle.yaml_subset.proofs.PrintedNumbers.{minus_is}
use Rattle.yaml_subset.proofs.PrintedTrees.{at_kind, sound_int, sound_text}
use Rattle.yaml_subset.proofs.SoundTrees.{IsWithin, within_more, null_within, bool_within, int_within, text_within, ItemsWithin, no_items, items_more, list_within, PairsWithin, no_pairs, pairs_more, map_within}

-- a number is an i128
abbrev NumberSound : Number → Type 0
NumberSound Not = Unit {0}
NumberSound (Whole n) = is_i128 n ≡ true
NumberSound Wide = Unit {0}

minus_sound : (m : ℕ) → m < greatest → is_i128 (pos 0 -ℤ pos m) ≡ true
minus_sound zero l = refl
minus_sound (suc n) l = rw (minus_is n) (lt-ltb n greatest (omega arith))

whole_sound : (found : Option ℕ) (negative : Bool) → NumberSound (whole_or (option_and_then (λ m. signed negative m) found))
unfolding signed
whole_sound None negative = tt
whole_sound (Some m) negative = by_size (nat_lt m greatest) (negative && m == greatest) refl
  where
    by_sign : (negative : Bool) → m < greatest → is_i128 (cond negative (pos 0 -ℤ pos m) (pos m)) ≡ true
    by_sign true l = minus_sound m l
    by_sign false l = lt-ltb m greatest l

    by_size : (small last : Bool) → nat_lt m greatest ≡ small
        → NumberSound (whole_or (cond small (Some (cond negative (pos 0 -ℤ pos m) (pos m))) (cond last (Some (pos 0 -ℤ pos greatest)) None)))
    by_size true last e = by_sign negative (ltb-true m greatest e)
    by_size false true e = refl
    by_size false false e = tt

number_in_sound : (negative : Bool) (base : ℕ) (digits : List ℕ) → NumberSound (number_in negative base digits)
unfolding number_in
number_in_sound negative base digits = whole_sound (magnitude base 0 digits) negative

either_number : (b : Bool) (x y : Number) → NumberSound x → NumberSound y → NumberSound (cond b x y)
either_number true x y h k = h
either_number false x y h k = k

decimal_sound : (text : List ℕ) → NumberSound (decimal text)
unfolding decimal
decimal_sound text = either_number _ _ Not (number_in_sound (begins 45 text) 10 _) tt

number_sound : (text : List ℕ) → NumberSound (number_of text)
unfolding number_of
number_sound text = either_number _ _ _ (number_in_sound false 16 (drop 2 text)) (decimal_sound text)

text_tree_within : (bytes : List ℕ) → Holds (IsWithin 0) (text_tree bytes)
unfolding text_of
text_tree_within bytes =
    holds_bind _ _ (λ (text : List ℕ). is_utf8 text ≡ true) (IsWithin 0)
    (holds_if (is_utf8 bytes) (Ok bytes) (Err Syntax) (λ text. is_utf8 text ≡ true) (λ e. holds_ok (λ (text : List ℕ). is_utf8 text ≡ true) bytes e) (λ e. holds_err (λ (text : List ℕ). is_utf8 text ≡ true) Syntax))
    (λ text u. holds_ok (IsWithin 0) (tree.Text text) (text_within text u))

number_or_text_within : (n : Number) (text : List ℕ) → NumberSound n → Holds (IsWithin 0) (number_or_text n text)
number_or_text_within Not text h = text_tree_within text
number_or_text_within (Whole n) text h = holds_ok (IsWithin 0) (tree.Int n) (int_within n h)
number_or_text_within Wide text h = holds_err (IsWithin 0) (LeftOut form.Wide)

plain_within : (text : List ℕ) → Holds (IsWithin 0) (plain_value text)
unfolding plain_value
plain_within text =
    holds_if (is_null text) _ _ (IsWithin 0) (λ e. holds_ok (IsWithin 0) tree.Null (null_within 0))
    (λ e. holds_if (is_true_word text) _ _ (IsWithin 0) (λ e. holds_ok (IsWithin 0) (tree.Bool true) (bool_within true))
    (λ e. holds_if (is_false_word text) _ _ (IsWithin 0) (λ e. holds_ok (IsWithin 0) (tree.Bool false) (bool_within false))
    (λ e. number_or_text_within (number_of text) text (number_sound text))))

scalar_within : (s : Scanned) → Holds (IsWithin 0) (scalar_value s)
unfolding scalar_value
scalar_within s = holds_if (s.plain) _ _ (IsWithin 0) (λ e. plain_within s.text) (λ e. text_tree_within s.text)

abbrev KeySound : Key → Type 0
KeySound k = is_key k ≡ true

as_key_sound : (v : Tree) → is_sound v ≡ true → Holds KeySound (as_key v)
as_key_sound = at_kind (λ v. is_sound v ≡ true → Holds KeySound (as_key v)) (record {
  null = λ h. holds_err KeySound Syntax;
  bool = λ b h. holds_err KeySound Syntax;
  int = λ n h. holds_ok KeySound (keys.Int n) (sym (sound_int n) ∙ h);
  text = λ text h. holds_ok KeySound (keys.Text text) (sym (sound_text text) ∙ h);
  list = λ items h. holds_err KeySound Syntax;
  map = λ pairs h. holds_err KeySound Syntax;
})

pub key_sound : (s : Scanned) → Holds KeySound (key_of s)
unfolding key_of
key_sound s =
    holds_if (is_merge s) _ _ KeySound (λ e. holds_err KeySound (LeftOut MergeKey))
    (λ e. holds_bind _ _ (IsWithin 0) KeySound (scalar_within s) (λ v w. as_key_sound v w.sound))

-- ---- flow lists and maps

abbrev AreSound : ℕ → (List ℕ → Tree → List ℕ → Type 0) → Type 0
AreSound n Value = (start : List ℕ) (v : Tree) (after : List ℕ) → Value start v after → IsWithin n v

value_within : (s : Scanned) (after : List ℕ) → Holds (IsWithin 0) (value_at s after)
unfolding value_at
value_within s after = holds_if (marks 58 after && is_merge s) _ _ (IsWithin 0) (λ e. holds_err (IsWithin 0) (LeftOut MergeKey)) (λ e. scalar_within s)

scalar_sound : (n : ℕ) (flow : Bool) (rest : List ℕ) (v : Tree) (after : List ℕ) → IsScalar flow rest v after → IsWithin n v
scalar_sound n flow rest v after s = within_more 0 n v (omega arith) ((value_within s.0 after).at v s.2)

items_sound : (n : ℕ) (Value : List ℕ → Tree → List ℕ → Type 0) → AreSound n Value → (vs : List Tree) (inside after : List ℕ) → AreFlowItems Value inside vs after → ItemsWithin n vs
items_sound n Value sound [] inside after are = no_items n
items_sound n Value sound (v ∷ vs) inside after are =
    items_more n v vs (sound are.1.start v are.1.after are.1.value) (by_end are.2 (λ next a. items_sound n Value sound vs next after a))
  where
    by_end : ((are.0 ≡ 93 ∷ after) × (vs ≡ [])) ⊎ ((next : List ℕ) × (are.0 ≡ 44 ∷ next) × AreFlowItems Value next vs after)
        → ((next : List ℕ) → AreFlowItems Value next vs after → ItemsWithin n vs) → ItemsWithin n vs
    by_end (inl w) rec = subst (ItemsWithin n) (sym w.1) (no_items n)
    by_end (inr w) rec = rec w.0 w.2

flow_value_sound : (n : ℕ) (Value : List ℕ → Tree → List ℕ → Type 0) → AreSound n Value → AreSound n (IsFlowValue Value)
flow_value_sound n Value sound part v after (inl w) = subst (IsWithin n) (sym w.1) (null_within n)
flow_value_sound n Value sound part v after (inr w) = sound part v after w.1

entries_sound : (n : ℕ) (Value : List ℕ → Tree → List ℕ → Type 0) → AreSound n Value → (ps before : List Pair) (inside after : List ℕ) → AreFlowEntries Value before inside ps after → PairsWithin n before ps
entries_sound n Value sound [] before inside after are = no_pairs n before
entries_sound n Value sound (p ∷ ps) before inside after are =
    let e = are.1 in
    pairs_more n before p ps ((key_sound e.scanned).at p.key e.key) e.first (flow_value_sound n Value sound e.part p.value e.after e.value)
    (by_end are.2 (λ next a. entries_sound n Value sound ps (before ++ p ∷ []) next after a))
  where
    by_end : ((are.0 ≡ 125 ∷ after) × (ps ≡ [])) ⊎ ((next : List ℕ) × (are.0 ≡ 44 ∷ next) × AreFlowEntries Value (before ++ p ∷ []) next ps after)
        → ((next : List ℕ) → AreFlowEntries Value (before ++ p ∷ []) next ps after → PairsWithin n (before ++ p ∷ []) ps) → PairsWithin n (before ++ p ∷ []) ps
    by_end (inl w) rec = subst (PairsWithin n (before ++ p ∷ [])) (sym w.1) (no_pairs n (before ++ p ∷ []))
    by_end (inr w) rec = rec w.0 w.2

nested_sound : (n : ℕ) → AreSound n (IsFlow n) → AreSound n (IsNested (IsFlow n))
nested_sound n sound start v after (inl s) = scalar_sound n true start v after s
nested_sound n sound start v after (inr f) = sound start v after f

flow_sound : (n : ℕ) → AreSound n (IsFlow n)
flow_sound zero start v after f = absurd f
flow_sound (suc n) start v after (inl l) =
    subst (IsWithin (suc n)) (sym l.is) (list_within n l.items (items_sound n (IsNested (IsFlow n)) (nested_sound n (flow_sound n)) l.items l.inside after l.are))
flow_sound (suc n) start v after (inr m) =
    subst (IsWithin (suc n)) (sym m.is) (map_within n m.pairs (entries_sound n (IsNested (IsFlow n)) (nested_sound n (flow_sound n)) m.pairs [] m.inside after m.are))

pub line_sound : (n : ℕ) (part : List ℕ) (v : Tree) → IsLineValue n part v → IsWithin n v
line_sound n part v (after, inl s, end) = scalar_sound n false part v after s
line_sound n part v (after, inr f, end) = flow_sound n part v after f
