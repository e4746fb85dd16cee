-- Scalars have the values for which they stand.
use Rattle.std.proofs.Common.{◌≡◌, inl, inr, ℕ, Bool, true, false, cond, ◌&&◌, List, codes, Result, Ok, Err, refl, sym, ◌∙◌, ap, subst, ℤ}
use Rattle.std.specs.Bool.{Decides}
use Rattle.std.specs.Str.{is_utf8}
use Rattle.std.proofs.lemmas.Bool.Decides.{Decides-and, Decides-or, not_from_Decides}
use Rattle.std.proofs.lemmas.Slice.Eq.{bytes_eq-Decides}
use Rattle.yaml_subset.specs.declared.fault.YamlForm.TheVariants.{MergeKey}
use Rattle.yaml_subset.specs.declared.fault.YamlCause.{YamlCause}
use Rattle.yaml_subset.specs.declared.fault.YamlCause.TheVariants.{LeftOut, Syntax}
use Rattle.yaml_subset.specs.declared.numbers.Number.{Number}
use Rattle.yaml_subset.specs.declared.numbers.Number.TheVariants.{Not, Whole, Wide}
use Rattle.yaml_subset.specs.declared.scalars.Scanned.{Scanned}
use Rattle.yaml_tree.specs.declared.tree.Tree.{Tree}
use Rattle.yaml_tree.specs.declared.tree.Tree.TheVariants as tree
use Rattle.yaml_tree.specs.declared.tree.Key.{Key}
use Rattle.yaml_tree.specs.declared.tree.Key.TheVariants as key
use Rattle.yaml_subset.specs.Characters.{marks}
use Rattle.yaml_subset.specs.Numbers.{decimal, number_of}
use Rattle.yaml_subset.specs.Scalars.{text_of, is_null, is_true_word, is_false_word, text_tree, number_or_text, plain_value, scalar_value, as_key, is_merge, key_of, value_at}
use Rattle.yaml_subset.specs.Gives.{◌>>=◌}
use Rattle.yaml_subset.proofs.LineValues.{bind_ok}
use Rattle.law_texts.specs.Numbers.{IsWhole, IsNumber}
use Rattle.law_texts.specs.Scalars.{IsNullWord, IsTrueWord, IsFalseWord, StandsFor, quoted, null_word, true_word, false_word, whole, plain_text, IsMerge, IsValueOf, as_tree, IsKeyOf}
use Rattle.law_texts.proofs.DigitLaws.{whole_found, whole_read, none_found, none_read}

abbrev given : Tree → Result Tree YamlCause
given v = Ok v

same_tree : (u v : Tree) → given u ≡ given v → v ≡ u
same_tree u v h = cc

-- ---- words

pub null_decides : (bytes : List ℕ) → Decides (is_null bytes) (IsNullWord bytes)
null_decides bytes = Decides-or _ _ (bytes_eq-Decides bytes (codes "~")) (bytes_eq-Decides bytes (codes "null"))

pub true_decides : (bytes : List ℕ) → Decides (is_true_word bytes) (IsTrueWord bytes)
true_decides bytes =
    Decides-or _ _ (Decides-or _ _ (bytes_eq-Decides bytes (codes "true")) (bytes_eq-Decides bytes (codes "True"))) (bytes_eq-Decides bytes (codes "TRUE"))

pub false_decides : (bytes : List ℕ) → Decides (is_false_word bytes) (IsFalseWord bytes)
false_decides bytes =
    Decides-or _ _ (Decides-or _ _ (bytes_eq-Decides bytes (codes "false")) (bytes_eq-Decides bytes (codes "False"))) (bytes_eq-Decides bytes (codes "FALSE"))

pub false_from : {P : Type 0} (b : Bool) → Decides b P → (P → ⊥) → b ≡ false
false_from true d none = absurd (none (d.0 refl))
false_from false d none = refl

-- no word is a number
pub null_no_number : (bytes : List ℕ) → IsNullWord bytes → number_of bytes ≡ Not
unfolding number_of decimal
null_no_number bytes (inl e) = ap number_of e ∙ refl
null_no_number bytes (inr e) = ap number_of e ∙ refl

pub true_no_number : (bytes : List ℕ) → IsTrueWord bytes → number_of bytes ≡ Not
unfolding number_of decimal
true_no_number bytes (inl (inl e)) = ap number_of e ∙ refl
true_no_number bytes (inl (inr e)) = ap number_of e ∙ refl
true_no_number bytes (inr e) = ap number_of e ∙ refl

pub false_no_number : (bytes : List ℕ) → IsFalseWord bytes → number_of bytes ≡ Not
unfolding number_of decimal
false_no_number bytes (inl (inl e)) = ap number_of e ∙ refl
false_no_number bytes (inl (inr e)) = ap number_of e ∙ refl
false_no_number bytes (inr e) = ap number_of e ∙ refl

never_whole : (bytes : List ℕ) (n : ℤ) → number_of bytes ≡ Whole n → number_of bytes ≡ Not → ⊥
never_whole bytes n h k = cc

-- ---- values

text_is : (bytes : List ℕ) → is_utf8 bytes ≡ true → text_tree bytes ≡ Ok (tree.Text bytes)
unfolding text_of
text_is bytes h = rw h refl

text_parts : (bytes : List ℕ) (v : Tree) → text_tree bytes ≡ Ok v → (is_utf8 bytes ≡ true) × (v ≡ tree.Text bytes)
unfolding text_of
text_parts bytes v h = by_test (is_utf8 bytes) refl h
  where
    kept : List ℕ → Result (List ℕ) YamlCause
    kept xs = Ok xs

    by_test : (b : Bool) → is_utf8 bytes ≡ b → (cond b (Ok bytes) (Err Syntax) >>= λ (xs : List ℕ). given (tree.Text xs)) ≡ given v → (is_utf8 bytes ≡ true) × (v ≡ tree.Text bytes)
    by_test true e h = (e, same_tree (tree.Text bytes) v h)
    by_test false e h = absurd cc

plain_found : (bytes : List ℕ) (v : Tree) (s : Scanned) → s.plain ≡ true → s.text ≡ bytes → plain_value bytes ≡ Ok v → StandsFor s v
unfolding plain_value
plain_found bytes v s p same h = by_words (is_null bytes) (is_true_word bytes) (is_false_word bytes) refl refl refl h
  where
    none : {P : Type 0} (b : Bool) → Decides b P → b ≡ false → P → ⊥
    none b d e = not_from_Decides b d e

    by_number : is_null bytes ≡ false → is_true_word bytes ≡ false → is_false_word bytes ≡ false → (n : Number) → number_of bytes ≡ n → number_or_text n bytes ≡ given v → StandsFor s v
    by_number a b d Not e h =
        let t = text_parts bytes v h in
        plain_text p (λ w. none (is_null bytes) (null_decides bytes) a (subst IsNullWord same w)) (λ w. none (is_true_word bytes) (true_decides bytes) b (subst IsTrueWord same w))
        (λ w. none (is_false_word bytes) (false_decides bytes) d (subst IsFalseWord same w)) (λ w. none_found bytes e (subst IsNumber same w))
        (ap is_utf8 same ∙ t.0) (t.1 ∙ ap tree.Text (sym same))
    by_number a b d (Whole n) e h = whole p n (subst (λ (xs : List ℕ). IsWhole xs n) (sym same) (whole_found bytes n e)) (same_tree (tree.Int n) v h)
    by_number a b d Wide e h = absurd cc

    by_words : (a b d : Bool) → is_null bytes ≡ a → is_true_word bytes ≡ b → is_false_word bytes ≡ d
        → cond a (given tree.Null) (cond b (given (tree.Bool true)) (cond d (given (tree.Bool false)) (number_or_text (number_of bytes) bytes))) ≡ given v → StandsFor s v
    by_words true b d e f g h = null_word p (subst IsNullWord (sym same) ((null_decides bytes).0 e)) (same_tree tree.Null v h)
    by_words false true d e f g h = true_word p (subst IsTrueWord (sym same) ((true_decides bytes).0 f)) (same_tree (tree.Bool true) v h)
    by_words false false true e f g h = false_word p (subst IsFalseWord (sym same) ((false_decides bytes).0 g)) (same_tree (tree.Bool false) v h)
    by_words false false false e f g h = by_number e f g (number_of bytes) refl h

pub value_found : (s : Scanned) (v : Tree) → scalar_value s ≡ Ok v → StandsFor s v
unfolding scalar_value
value_found s v h = by_plain s.plain refl h
  where
    by_plain : (b : Bool) → s.plain ≡ b → cond b (plain_value s.text) (text_tree s.text) ≡ given v → StandsFor s v
    by_plain true e h = plain_found s.text v s e refl h
    by_plain false e h = let t = text_parts s.text v h in quoted e t.0 t.1

pub plain_is : (s : Scanned) → s.plain ≡ true → scalar_value s ≡ plain_value s.text
unfolding scalar_value
plain_is s e = rw e refl

null_is : (bytes : List ℕ) → is_null bytes ≡ true → plain_value bytes ≡ Ok tree.Null
unfolding plain_value
null_is bytes e = rw e refl

true_is : (bytes : List ℕ) → IsTrueWord bytes → plain_value bytes ≡ Ok (tree.Bool true)
unfolding plain_value
true_is bytes (inl (inl e)) = ap plain_value e ∙ refl
true_is bytes (inl (inr e)) = ap plain_value e ∙ refl
true_is bytes (inr e) = ap plain_value e ∙ refl

false_is : (bytes : List ℕ) → IsFalseWord bytes → plain_value bytes ≡ Ok (tree.Bool false)
unfolding plain_value
false_is bytes (inl (inl e)) = ap plain_value e ∙ refl
false_is bytes (inl (inr e)) = ap plain_value e ∙ refl
false_is bytes (inr e) = ap plain_value e ∙ refl

pub number_is : (bytes : List ℕ) → (IsNullWord bytes → ⊥) → (IsTrueWord bytes → ⊥) → (IsFalseWord bytes → ⊥) → plain_value bytes ≡ number_or_text (number_of bytes) bytes
unfolding plain_value
number_is bytes a b d =
    let e = false_from (is_null bytes) (null_decides bytes) a in
    let f = false_from (is_true_word bytes) (true_decides bytes) b in
    let g = false_from (is_false_word bytes) (false_decides bytes) d in
    rw (e, f, g) refl

pub value_read : (s : Scanned) (v : Tree) → StandsFor s v → scalar_value s ≡ Ok v
unfolding scalar_value
value_read s v (quoted p u e) = rw p (text_is s.text u ∙ ap given (sym e))
value_read s v (null_word p w e) = plain_is s p ∙ null_is s.text ((null_decides s.text).1 w) ∙ ap given (sym e)
value_read s v (true_word p w e) = plain_is s p ∙ true_is s.text w ∙ ap given (sym e)
value_read s v (false_word p w e) = plain_is s p ∙ false_is s.text w ∙ ap given (sym e)
value_read s v (whole p n w e) =
    let is = whole_read s.text n w in
    plain_is s p
    ∙ number_is s.text (λ k. never_whole s.text n is (null_no_number s.text k)) (λ k. never_whole s.text n is (true_no_number s.text k)) (λ k. never_whole s.text n is (false_no_number s.text k))
    ∙ ap (λ (i : Number). number_or_text i s.text) is ∙ ap given (sym e)
value_read s v (plain_text p a b d none u e) =
    plain_is s p ∙ number_is s.text a b d ∙ ap (λ (i : Number). number_or_text i s.text) (none_read s.text none) ∙ text_is s.text u ∙ ap given (sym e)

-- ---- `<<`

pub merge_decides : (s : Scanned) → Decides (is_merge s) (IsMerge s)
merge_decides s = Decides-and s.plain _ (λ e. e, λ e. e) (bytes_eq-Decides s.text (codes "<<"))

pub at_found : (s : Scanned) (after : List ℕ) (v : Tree) → value_at s after ≡ Ok v → IsValueOf s after v
unfolding value_at
at_found s after v h = by_tests (marks 58 after) (is_merge s) refl refl h
  where
    by_tests : (c m : Bool) → marks 58 after ≡ c → is_merge s ≡ m → cond (c && m) (Err (LeftOut MergeKey)) (scalar_value s) ≡ given v → IsValueOf s after v
    by_tests true true e f h = absurd cc
    by_tests true false e f h = record { stands = value_found s v h; no_merge = λ w colon. not_from_Decides (is_merge s) (merge_decides s) f w }
    by_tests false m e f h = record { stands = value_found s v h; no_merge = λ w colon. cc }

pub at_read : (s : Scanned) (after : List ℕ) (v : Tree) → IsValueOf s after v → value_at s after ≡ Ok v
unfolding value_at
at_read s after v w = by_tests (marks 58 after) (is_merge s) refl refl
  where
    by_tests : (c m : Bool) → marks 58 after ≡ c → is_merge s ≡ m → cond (c && m) (Err (LeftOut MergeKey)) (scalar_value s) ≡ given v
    by_tests true true e f = absurd (w.no_merge ((merge_decides s).0 f) e)
    by_tests true false e f = value_read s v w.stands
    by_tests false m e f = value_read s v w.stands

-- ---- keys

abbrev given_key : Key → Result Key YamlCause
given_key k = Ok k

key_tree : (v : Tree) (k : Key) → as_key v ≡ Ok k → v ≡ as_tree k
key_tree (tree.Int n) k h = let e : key.Int n ≡ k = cc in ap as_tree e
key_tree (tree.Text bytes) k h = let e : key.Text bytes ≡ k = cc in ap as_tree e
key_tree _ k h = absurd cc

tree_key : (k : Key) → as_key (as_tree k) ≡ Ok k
tree_key (key.Int n) = refl
tree_key (key.Text bytes) = refl

pub key_found : (s : Scanned) (k : Key) → key_of s ≡ Ok k → IsKeyOf s k
unfolding key_of
key_found s k h = by_merge (is_merge s) refl h
  where
    by_merge : (m : Bool) → is_merge s ≡ m → cond m (Err (LeftOut MergeKey)) (scalar_value s >>= as_key) ≡ given_key k → IsKeyOf s k
    by_merge true e h = absurd cc
    by_merge false e h =
        let b = bind_ok (scalar_value s) as_key k h in
        record { stands = value_found s (as_tree k) (b.1 ∙ ap given (key_tree b.0 k b.2)); no_merge = not_from_Decides (is_merge s) (merge_decides s) e }

pub key_read : (s : Scanned) (k : Key) → IsKeyOf s k → key_of s ≡ Ok k
unfolding key_of
key_read s k w =
    let m = false_from (is_merge s) (merge_decides s) w.no_merge in
    let v = value_read s (as_tree k) w.stands in
    rw (m, v) (tree_key k)
