-- Scalars that stand for nothing are refused for the cause of that.
use Rattle.std.proofs.Common.{◌≡◌, ◌⊎◌, inl, inr, ℕ, Bool, true, false, cond, ◌&&◌, List, Result, Ok, Err, refl, sym, ◌∙◌, ap, subst, ℤ}
use Rattle.std.specs.Bool.{Decides}
use Rattle.std.specs.Str.{is_utf8}
use Rattle.std.proofs.lemmas.Bool.Decides.{not_from_Decides}
use Rattle.yaml_subset.specs.declared.fault.YamlForm.TheVariants as form
use Rattle.yaml_subset.specs.declared.fault.YamlForm.TheVariants.{MergeKey}
use Rattle.yaml_subset.specs.declared.fault.YamlCause.{YamlCause}
use Rattle.yaml_subset.specs.declared.fault.YamlCause.TheVariants.{LeftOut, Syntax}
use Rattle.yaml_subset.specs.declared.numbers.Number.{Number}
use Rattle.yaml_subset.specs.declared.numbers.Number.TheVariants.{Not, Whole, Wide}
use Rattle.yaml_subset.specs.declared.scalars.Scanned.{Scanned}
use Rattle.yaml_tree.specs.declared.tree.Tree.{Tree}
use Rattle.yaml_tree.specs.declared.tree.Tree.TheVariants as tree
use Rattle.yaml_tree.specs.declared.tree.Key.{Key}
use Rattle.yaml_subset.specs.Characters.{marks}
use Rattle.yaml_subset.specs.Numbers.{number_of}
use Rattle.yaml_subset.specs.Scalars.{text_of, is_null, is_true_word, is_false_word, text_tree, number_or_text, plain_value, scalar_value, as_key, is_merge, key_of, value_at}
use Rattle.yaml_subset.specs.Gives.{◌>>=◌}
use Rattle.law_texts.specs.Numbers.{IsNumber}
use Rattle.law_texts.specs.Scalars.{IsNullWord, IsTrueWord, IsFalseWord, StandsFor, quoted, null_word, true_word, false_word, whole, plain_text, IsMerge, IsWide, StandsForNone, wide_number, no_text, no_plain_text, IsNoValueOf, merge_value, stands_for_none, IsNoKeyOf, merge_key, no_value, null_key, bool_key}
use Rattle.law_texts.proofs.DigitLaws.{whole_found, whole_read, none_found, none_read, number_or_not}
use Rattle.law_texts.proofs.ScalarLaws.{null_decides, true_decides, false_decides, false_from, null_no_number, true_no_number, false_no_number, plain_is, number_is, merge_decides, value_found, value_read}

abbrev given : Tree → Result Tree YamlCause
given v = Ok v

abbrev refused : YamlCause → Result Tree YamlCause
refused cause = Err cause

same_cause : (a b : YamlCause) → refused a ≡ refused b → b ≡ a
same_cause a b h = cc

-- ---- numbers

never_both : (text : List ℕ) (n : ℤ) → number_of text ≡ Wide → number_of text ≡ Whole n → ⊥
never_both text n h k = cc

never_none : (text : List ℕ) → number_of text ≡ Wide → number_of text ≡ Not → ⊥
never_none text h k = cc

pub wide_found : (text : List ℕ) → number_of text ≡ Wide → IsWide text
wide_found text h = (by_either (number_or_not text), λ n w. never_both text n h (whole_read text n w))
  where
    by_either : IsNumber text ⊎ (number_of text ≡ Not) → IsNumber text
    by_either (inl w) = w
    by_either (inr e) = absurd (never_none text h e)

pub wide_read : (text : List ℕ) → IsWide text → number_of text ≡ Wide
wide_read text w = by_number (number_of text) refl
  where
    by_number : (n : Number) → number_of text ≡ n → n ≡ Wide
    by_number Not e = absurd (none_found text e w.0)
    by_number (Whole n) e = absurd (w.1 n (whole_found text n e))
    by_number Wide e = refl

-- ---- values

text_none : (bytes : List ℕ) → is_utf8 bytes ≡ false → text_tree bytes ≡ refused Syntax
unfolding text_of
text_none bytes h = rw h refl

text_refused : (bytes : List ℕ) (cause : YamlCause) → text_tree bytes ≡ refused cause → (is_utf8 bytes ≡ false) × (cause ≡ Syntax)
unfolding text_of
text_refused bytes cause h = by_test (is_utf8 bytes) refl h
  where
    by_test : (b : Bool) → is_utf8 bytes ≡ b → (cond b (Ok bytes) (Err Syntax) >>= λ (xs : List ℕ). given (tree.Text xs)) ≡ refused cause → (is_utf8 bytes ≡ false) × (cause ≡ Syntax)
    by_test true e h = absurd cc
    by_test false e h = (e, same_cause Syntax cause h)

plain_none : (bytes : List ℕ) (cause : YamlCause) (s : Scanned) → s.plain ≡ true → s.text ≡ bytes → plain_value bytes ≡ refused cause → StandsForNone s cause
unfolding plain_value
plain_none bytes cause s p same h = by_words (is_null bytes) (is_true_word bytes) (is_false_word bytes) refl refl refl h
  where
    none : {P : Type 0} (b : Bool) → Decides b P → b ≡ false → P → ⊥
    none b d e = not_from_Decides b d e

    by_number : is_null bytes ≡ false → is_true_word bytes ≡ false → is_false_word bytes ≡ false → (n : Number) → number_of bytes ≡ n → number_or_text n bytes ≡ refused cause → StandsForNone s cause
    by_number a b d Not e h =
        let t = text_refused bytes cause h in
        no_plain_text p (λ w. none (is_null bytes) (null_decides bytes) a (subst IsNullWord same w)) (λ w. none (is_true_word bytes) (true_decides bytes) b (subst IsTrueWord same w))
        (λ w. none (is_false_word bytes) (false_decides bytes) d (subst IsFalseWord same w)) (λ w. none_found bytes e (subst IsNumber same w))
        (ap is_utf8 same ∙ t.0) t.1
    by_number a b d (Whole n) e h = absurd cc
    by_number a b d Wide e h = wide_number p (subst IsWide (sym same) (wide_found bytes e)) (same_cause (LeftOut form.Wide) cause h)

    by_words : (a b d : Bool) → is_null bytes ≡ a → is_true_word bytes ≡ b → is_false_word bytes ≡ d
        → cond a (given tree.Null) (cond b (given (tree.Bool true)) (cond d (given (tree.Bool false)) (number_or_text (number_of bytes) bytes))) ≡ refused cause → StandsForNone s cause
    by_words true b d e f g h = absurd cc
    by_words false true d e f g h = absurd cc
    by_words false false true e f g h = absurd cc
    by_words false false false e f g h = by_number e f g (number_of bytes) refl h

pub none_told : (s : Scanned) (cause : YamlCause) → scalar_value s ≡ Err cause → StandsForNone s cause
unfolding scalar_value
none_told s cause h = by_plain s.plain refl h
  where
    by_plain : (b : Bool) → s.plain ≡ b → cond b (plain_value s.text) (text_tree s.text) ≡ refused cause → StandsForNone s cause
    by_plain true e h = plain_none s.text cause s e refl h
    by_plain false e h = let t = text_refused s.text cause h in no_text e t.0 t.1

pub none_stands : (s : Scanned) (cause : YamlCause) → StandsForNone s cause → scalar_value s ≡ Err cause
unfolding scalar_value
none_stands s cause (wide_number p w e) =
    let is = wide_read s.text w in
    plain_is s p
    ∙ number_is s.text (λ k. never_none s.text is (null_no_number s.text k)) (λ k. never_none s.text is (true_no_number s.text k)) (λ k. never_none s.text is (false_no_number s.text k))
    ∙ ap (λ (i : Number). number_or_text i s.text) is ∙ ap refused (sym e)
none_stands s cause (no_text p u e) = rw p (text_none s.text u ∙ ap refused (sym e))
none_stands s cause (no_plain_text p a b d none u e) =
    plain_is s p ∙ number_is s.text a b d ∙ ap (λ (i : Number). number_or_text i s.text) (none_read s.text none) ∙ text_none s.text u ∙ ap refused (sym e)

-- ---- `<<`

pub no_value_told : (s : Scanned) (after : List ℕ) (cause : YamlCause) → value_at s after ≡ Err cause → IsNoValueOf s after cause
unfolding value_at
no_value_told s after cause h = by_tests (marks 58 after) (is_merge s) refl refl h
  where
    by_tests : (c m : Bool) → marks 58 after ≡ c → is_merge s ≡ m → cond (c && m) (refused (LeftOut MergeKey)) (scalar_value s) ≡ refused cause → IsNoValueOf s after cause
    by_tests true true e f h = merge_value ((merge_decides s).0 f) e (same_cause (LeftOut MergeKey) cause h)
    by_tests true false e f h = stands_for_none (λ w colon. not_from_Decides (is_merge s) (merge_decides s) f w) (none_told s cause h)
    by_tests false m e f h = stands_for_none (λ w colon. cc) (none_told s cause h)

pub no_value_stands : (s : Scanned) (after : List ℕ) (cause : YamlCause) → IsNoValueOf s after cause → value_at s after ≡ Err cause
unfolding value_at
no_value_stands s after cause (merge_value w colon e) = let m = (merge_decides s).1 w in rw (colon, m) (ap refused (sym e))
no_value_stands s after cause (stands_for_none other none) = by_tests (marks 58 after) (is_merge s) refl refl
  where
    by_tests : (c m : Bool) → marks 58 after ≡ c → is_merge s ≡ m → cond (c && m) (refused (LeftOut MergeKey)) (scalar_value s) ≡ refused cause
    by_tests true true e f = absurd (other ((merge_decides s).0 f) e)
    by_tests true false e f = none_stands s cause none
    by_tests false m e f = none_stands s cause none

-- ---- keys

abbrev no_key : YamlCause → Result Key YamlCause
no_key cause = Err cause

same_reason : (a b : YamlCause) → no_key a ≡ no_key b → b ≡ a
same_reason a b h = cc

no_key_tree : (s : Scanned) (v : Tree) → StandsFor s v → ((n : ℤ) → v ≡ tree.Int n → ⊥) → ((text : List ℕ) → v ≡ tree.Text text → ⊥) → (v ≡ tree.Null) ⊎ ((b : Bool) × (v ≡ tree.Bool b))
no_key_tree s v (quoted p u e) i t = absurd (t s.text e)
no_key_tree s v (null_word p w e) i t = inl e
no_key_tree s v (true_word p w e) i t = inr (true, e)
no_key_tree s v (false_word p w e) i t = inr (false, e)
no_key_tree s v (whole p n w e) i t = absurd (i n e)
no_key_tree s v (plain_text p a b d n u e) i t = absurd (t s.text e)

int_key : (v : Tree) (n : ℤ) (cause : YamlCause) → v ≡ tree.Int n → as_key v ≡ no_key cause → ⊥
int_key v n cause e h = let k : as_key (tree.Int n) ≡ no_key cause = ap as_key (sym e) ∙ h in cc

text_key : (v : Tree) (text : List ℕ) (cause : YamlCause) → v ≡ tree.Text text → as_key v ≡ no_key cause → ⊥
text_key v text cause e h = let k : as_key (tree.Text text) ≡ no_key cause = ap as_key (sym e) ∙ h in cc

pub no_key_told : (s : Scanned) (cause : YamlCause) → key_of s ≡ Err cause → IsNoKeyOf s cause
unfolding key_of
no_key_told s cause h = by_merge (is_merge s) refl h
  where
    by_kind : (IsMerge s → ⊥) → (v : Tree) → StandsFor s v → as_key v ≡ no_key cause → (v ≡ tree.Null) ⊎ ((b : Bool) × (v ≡ tree.Bool b)) → IsNoKeyOf s cause
    by_kind other v stands h (inl e) = let k : as_key tree.Null ≡ no_key cause = ap as_key (sym e) ∙ h in null_key other (subst (StandsFor s) e stands) (same_reason Syntax cause k)
    by_kind other v stands h (inr b) = let k : as_key (tree.Bool b.0) ≡ no_key cause = ap as_key (sym b.1) ∙ h in bool_key other b.0 (subst (StandsFor s) b.1 stands) (same_reason Syntax cause k)

    by_value : (IsMerge s → ⊥) → (r : Result Tree YamlCause) → scalar_value s ≡ r → (r >>= as_key) ≡ no_key cause → IsNoKeyOf s cause
    by_value other (Err c) e h = no_value other (none_told s cause (e ∙ ap refused (sym (same_reason c cause h))))
    by_value other (Ok v) e h =
        let stands = value_found s v e in
        by_kind other v stands h (no_key_tree s v stands (λ n i. int_key v n cause i h) (λ text t. text_key v text cause t h))

    by_merge : (m : Bool) → is_merge s ≡ m → cond m (Err (LeftOut MergeKey)) (scalar_value s >>= as_key) ≡ no_key cause → IsNoKeyOf s cause
    by_merge true e h = merge_key ((merge_decides s).0 e) (same_reason (LeftOut MergeKey) cause h)
    by_merge false e h = by_value (not_from_Decides (is_merge s) (merge_decides s) e) (scalar_value s) refl h

pub no_key_stands : (s : Scanned) (cause : YamlCause) → IsNoKeyOf s cause → key_of s ≡ Err cause
unfolding key_of
no_key_stands s cause (merge_key w e) = let m = (merge_decides s).1 w in rw m (ap no_key (sym e))
no_key_stands s cause (no_value other none) =
    let m = false_from (is_merge s) (merge_decides s) other in
    let v = none_stands s cause none in
    rw (m, v) refl
no_key_stands s cause (null_key other stands e) =
    let m = false_from (is_merge s) (merge_decides s) other in
    let v = value_read s tree.Null stands in
    rw (m, v) (ap no_key (sym e))
no_key_stands s cause (bool_key other b stands e) =
    let m = false_from (is_merge s) (merge_decides s) other in
    let v = value_read s (tree.Bool b) stands in
    rw (m, v) (ap no_key (sym e))
