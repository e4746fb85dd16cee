-- What is printed of a Null, a Bool, an Int or a text is scanned as a scalar of that value.
use Rattle.std.proofs.Common.{◌≡◌, ℕ, suc, ◌<◌, ◌==◌, Bool, true, false, cond, ◌&&◌, ◌||◌, List, [], ◌∷◌, ◌++◌, Ok, refl, arith, append_assoc, ltb-true, ℤ, pos, negsuc}
use Rattle.std.specs.Prelude.{codes}
use Rattle.std.specs.Char.{is_ascii_alphabetic, is_ascii_alphanumeric}
use Rattle.std.specs.Fmt.{decimal, signed_decimal}
use Rattle.std.specs.List.{list_all}
use Rattle.std.specs.Str.{IsUtf8, is_utf8, bytes_eq}
use Rattle.std.proofs.lemmas.Str.{IsUtf8-append, IsUtf8-from_is_utf8}
use Rattle.std.proofs.lemmas.Bool.{and_parts, or_parts, not-true}
use Rattle.std.proofs.lemmas.Bool.Decides.{nat_tests}
use Rattle.yaml_subset.specs.declared.numbers.Number.TheVariants.{Not, Whole}
use Rattle.yaml_subset.specs.declared.scalars.Scanned.{Scanned}
use Rattle.yaml_tree.specs.declared.tree.Tree.{Tree}
use Rattle.yaml_tree.specs.declared.tree.Tree.TheVariants as tree
use Rattle.yaml_tree.specs.declared.tree.Key.{Key}
use Rattle.yaml_tree.specs.declared.tree.Key.TheVariants as keys
use Rattle.yaml_subset.specs.Characters.{marks}
use Rattle.yaml_subset.specs.Numbers.{is_digit, number_of}
use Rattle.yaml_subset.specs.Numbers.{decimal as decimal_number}
use Rattle.yaml_subset.specs.Scalars.{scan, text_of, plain_value, scalar_value, as_key, key_of}
use Rattle.yaml_subset.specs.Blocks.{is_marker}
use Rattle.yaml_subset.specs.Printed.{all_escaped, is_plain_byte, is_word_of_its_own, stays_plain, text_scalar, key_scalar}
use Rattle.yaml_subset.specs.ReadBack.{is_i128, is_key}
use Rattle.yaml_subset.proofs.PrintedQuotes.{all_escaped_read}
use Rattle.yaml_subset.proofs.PrintedPlain.{ends_scalar, told_apart, plainly, scan_plain, no_fault, no_fault_minus}
use Rattle.yaml_subset.proofs.PrintedNumbers.{Digits, digits_of, positive_number, negative_number}
use Rattle.yaml_subset.proofs.PrintedLines.{is_row_byte, all_append, all_weaker, utf8_from, is_ascii_byte, plain_ascii, plain_row, all_escaped_rows, all_escaped_utf8}

-- what a printed scalar may begin with
abbrev pub can_start : ℕ → Bool
can_start c = is_ascii_alphanumeric c || (c == 45 || c == 34)

-- the text is a scalar of this value
pub record IsScalar (text : List ℕ) (v : Tree) : Type 0 where
  pub scanned : Scanned
  pub head : ℕ
  pub tail : List ℕ
  pub is : text ≡ head ∷ tail
  pub start : can_start head ≡ true
  pub scans : (after : List ℕ) → ends_scalar after ≡ true → scan false (text ++ after) ≡ Ok (scanned, after)
  pub value : scalar_value scanned ≡ Ok v
  pub no_merge : (scanned.plain && bytes_eq scanned.text (codes "<<")) ≡ false
  pub no_dash : (after : List ℕ) → marks 45 (text ++ after) ≡ false
  pub no_marker : (after : List ℕ) → is_marker 45 (text ++ after) ≡ false
  pub rows : list_all is_row_byte text ≡ true
  pub utf8 : IsUtf8 text

alphanumeric_starts : (c : ℕ) → is_ascii_alphanumeric c ≡ true → can_start c ≡ true
alphanumeric_starts c h = rw h refl

-- a plain scalar that begins with a letter or a digit
pub plain_is : (c : ℕ) (cs : List ℕ) (v : Tree) → is_ascii_alphanumeric c ≡ true → list_all is_plain_byte (c ∷ cs) ≡ true → plain_value (c ∷ cs) ≡ Ok v → IsScalar (c ∷ cs) v
unfolding scalar_value
plain_is c cs v a h e =
    let t = (and_parts (is_plain_byte c) (list_all is_plain_byte cs) h).0 in
    let m : (c == 45) ≡ false = told_apart is_ascii_alphanumeric c 45 a refl in
    record {
      scanned = plainly (c ∷ cs);
      head = c;
      tail = cs;
      is = refl;
      start = alphanumeric_starts c a;
      scans = λ after f. scan_plain c cs after h (no_fault c (cs ++ after) t m) f;
      value = e;
      no_merge = rw (told_apart is_ascii_alphanumeric c 60 a refl) refl;
      no_dash = λ after. rw m refl;
      no_marker = λ after. rw m refl;
      rows = all_weaker is_plain_byte is_row_byte plain_row (c ∷ cs) h;
      utf8 = utf8_from (c ∷ cs) (all_weaker is_plain_byte is_ascii_byte plain_ascii (c ∷ cs) h);
    }

digit_plain : (c : ℕ) → is_digit c ≡ true → is_plain_byte c ≡ true
digit_plain c h = grind (arith, nat_tests)

digit_alphanumeric : (c : ℕ) → is_digit c ≡ true → is_ascii_alphanumeric c ≡ true
digit_alphanumeric c h = grind (arith, nat_tests)

-- a number below zero
minus_is : (c : ℕ) (cs : List ℕ) (v : Tree) → list_all is_digit (c ∷ cs) ≡ true → plain_value (45 ∷ c ∷ cs) ≡ Ok v → IsScalar (45 ∷ c ∷ cs) v
unfolding scalar_value
minus_is c cs v h e =
    let d = (and_parts (is_digit c) (list_all is_digit cs) h).0 in
    let p : list_all is_plain_byte (45 ∷ c ∷ cs) ≡ true = all_weaker is_digit is_plain_byte digit_plain (c ∷ cs) h in
    let gap : (c == 32) ≡ false = told_apart is_digit c 32 d refl in
    record {
      scanned = plainly (45 ∷ c ∷ cs);
      head = 45;
      tail = c ∷ cs;
      is = refl;
      start = refl;
      scans = λ after f. scan_plain 45 (c ∷ cs) after p (no_fault_minus (c ∷ (cs ++ after)) gap) f;
      value = e;
      no_merge = refl;
      no_dash = λ after. gap;
      no_marker = λ after. rw (told_apart is_digit c 45 d refl) refl;
      rows = all_weaker is_plain_byte is_row_byte plain_row (45 ∷ c ∷ cs) p;
      utf8 = utf8_from (45 ∷ c ∷ cs) (all_weaker is_plain_byte is_ascii_byte plain_ascii (45 ∷ c ∷ cs) p);
    }

-- a text between double quotes
quoted_is : (text : List ℕ) → is_utf8 text ≡ true → IsScalar (34 ∷ (all_escaped text ++ 34 ∷ [])) (tree.Text text)
unfolding scalar_value text_of scan
quoted_is text u = record {
  scanned = record { plain = false; text = text };
  head = 34;
  tail = all_escaped text ++ 34 ∷ [];
  is = refl;
  start = refl;
  scans = λ after f. rw (append_assoc (all_escaped text) (34 ∷ []) after, all_escaped_read text [] after) refl;
  value = rw u refl;
  no_merge = refl;
  no_dash = λ after. refl;
  no_marker = λ after. refl;
  rows = all_append is_row_byte (all_escaped text) (34 ∷ []) (all_escaped_rows text) refl;
  utf8 = IsUtf8-append (34 ∷ []) (all_escaped text ++ 34 ∷ []) (utf8_from (34 ∷ []) refl)
      (IsUtf8-append (all_escaped text) (34 ∷ []) (all_escaped_utf8 text (IsUtf8-from_is_utf8 text u)) (utf8_from (34 ∷ []) refl));
}

pub null_is : IsScalar (codes "null") tree.Null
unfolding plain_value
null_is = plain_is 110 (codes "ull") tree.Null refl refl refl

pub true_is : IsScalar (codes "true") (tree.Bool true)
unfolding plain_value
true_is = plain_is 116 (codes "rue") (tree.Bool true) refl refl refl

pub false_is : IsScalar (codes "false") (tree.Bool false)
unfolding plain_value
false_is = plain_is 102 (codes "alse") (tree.Bool false) refl refl refl

-- a number is none of the words
number_value : (c : ℕ) (cs : List ℕ) (z : ℤ) → (is_digit c || c == 45) ≡ true → number_of (c ∷ cs) ≡ Whole z → plain_value (c ∷ cs) ≡ Ok (tree.Int z)
unfolding plain_value
number_value c cs z h e =
    let at : (k : ℕ) → (is_digit k || k == 45) ≡ false → (c == k) ≡ false = λ k f. told_apart (λ b. is_digit b || b == 45) c k h f in
    rw (at 126 refl, at 110 refl, at 116 refl, at 84 refl, at 102 refl, at 70 refl, e) refl

positive_is : (n : ℕ) (ds : List ℕ) → Digits n ds → is_i128 (pos n) ≡ true → IsScalar ds (tree.Int (pos n))
positive_is n [] d h = let l : 0 < 0 = d.some in absurd (omega arith)
positive_is n (c ∷ cs) d h =
    let t = (and_parts (is_digit c) (list_all is_digit cs) d.digits).0 in
    plain_is c cs (tree.Int (pos n)) (digit_alphanumeric c t) (all_weaker is_digit is_plain_byte digit_plain (c ∷ cs) d.digits)
    (number_value c cs (pos n) (rw t refl) (positive_number n (ltb-true _ _ h) (c ∷ cs) d))

negative_is : (n : ℕ) (ds : List ℕ) → Digits (suc n) ds → is_i128 (negsuc n) ≡ true → IsScalar (45 ∷ ds) (tree.Int (negsuc n))
negative_is n [] d h = let l : 0 < 0 = d.some in absurd (omega arith)
negative_is n (c ∷ cs) d h =
    minus_is c cs (tree.Int (negsuc n)) d.digits (number_value 45 (c ∷ cs) (negsuc n) refl (negative_number n (ltb-true _ _ h) (c ∷ cs) d))

pub int_is : (z : ℤ) → is_i128 z ≡ true → IsScalar (signed_decimal z) (tree.Int z)
int_is (pos n) h = let l = ltb-true _ _ h in positive_is n (decimal n) (digits_of n (omega arith)) h
int_is (negsuc n) h = let l = ltb-true _ _ h in negative_is n (decimal (suc n)) (digits_of (suc n) (omega arith)) h

letter_alphanumeric : (c : ℕ) → is_ascii_alphabetic c ≡ true → is_ascii_alphanumeric c ≡ true
letter_alphanumeric c h = grind (arith, nat_tests)

letter_no_digit : (c : ℕ) → is_ascii_alphabetic c ≡ true → is_digit c ≡ false
letter_no_digit c h = grind (arith, nat_tests)

no_number : (c : ℕ) (cs : List ℕ) → is_ascii_alphabetic c ≡ true → number_of (c ∷ cs) ≡ Not
unfolding number_of decimal_number
no_number c cs a = rw (told_apart is_ascii_alphabetic c 48 a refl, told_apart is_ascii_alphabetic c 45 a refl, letter_no_digit c a) refl

no_word : (a b c d e f g : Bool) → (a || (b || (c || (d || (e || (f || g)))))) ≡ false
    → (a ≡ false) × (b ≡ false) × (c ≡ false) × (d ≡ false) × (e ≡ false) × (f ≡ false) × (g ≡ false)
no_word a b c d e f g h =
    let p = or_parts a (b || (c || (d || (e || (f || g))))) h in
    let q = or_parts b (c || (d || (e || (f || g)))) p.1 in
    let r = or_parts c (d || (e || (f || g))) q.1 in
    let s = or_parts d (e || (f || g)) r.1 in
    let t = or_parts e (f || g) s.1 in
    let u = or_parts f g t.1 in
    (p.0, q.0, r.0, s.0, t.0, u.0, u.1)

text_value : (c : ℕ) (cs : List ℕ) → is_ascii_alphabetic c ≡ true → is_word_of_its_own (c ∷ cs) ≡ false → is_utf8 (c ∷ cs) ≡ true → plain_value (c ∷ cs) ≡ Ok (tree.Text (c ∷ cs))
unfolding plain_value text_of
text_value c cs a w u =
    let e = no_word (bytes_eq (c ∷ cs) (codes "null")) (bytes_eq (c ∷ cs) (codes "true")) (bytes_eq (c ∷ cs) (codes "True")) (bytes_eq (c ∷ cs) (codes "TRUE"))
    (bytes_eq (c ∷ cs) (codes "false")) (bytes_eq (c ∷ cs) (codes "False")) (bytes_eq (c ∷ cs) (codes "FALSE")) w in
    rw (told_apart is_ascii_alphabetic c 126 a refl, e.0, e.1, e.2, e.3, e.4, e.5, e.6, no_number c cs a, u) refl

text_by : (b : Bool) (text : List ℕ) → stays_plain text ≡ b → is_utf8 text ≡ true → IsScalar (cond b text (34 ∷ (all_escaped text ++ 34 ∷ []))) (tree.Text text)
text_by false text e u = quoted_is text u
text_by true [] e u = absurd cc
text_by true (c ∷ cs) e u =
    let p = and_parts _ _ e in
    let q = and_parts _ _ p.1 in
    plain_is c cs (tree.Text (c ∷ cs)) (letter_alphanumeric c p.0) q.0 (text_value c cs p.0 (not-true _ q.1) u)

pub text_is : (text : List ℕ) → is_utf8 text ≡ true → IsScalar (text_scalar text) (tree.Text text)
unfolding text_scalar
text_is text u = text_by (stays_plain text) text refl u

-- the text is a scalar that stands for this key
pub record IsKey (text : List ℕ) (k : Key) : Type 0 where
  pub value : Tree
  pub scalar : IsScalar text value
  pub key : as_key value ≡ Ok k

pub key_is : (k : Key) → is_key k ≡ true → IsKey (key_scalar k) k
key_is (keys.Int n) h = record { value = tree.Int n; scalar = int_is n h; key = refl }
key_is (keys.Text text) h = record { value = tree.Text text; scalar = text_is text h; key = refl }

pub key_read : (text : List ℕ) (k : Key) (i : IsKey text k) → key_of i.scalar.scanned ≡ Ok k
unfolding key_of
key_read text k i = rw (i.scalar.no_merge, i.scalar.value) i.key
