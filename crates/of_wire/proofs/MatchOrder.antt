-- Matches compare as the bytes that are written of them.
use Rattle.std.proofs.Common.{◌≡◌, ℕ, zero, suc, ◌+◌, ◌-◌, ◌*◌, ◌/◌, ◌%◌, ◌^◌, ◌<◌, ◌≤◌, Bool, true, false, eqb, List, [], ◌∷◌, ◌++◌, length, replicate, refl, sym, ap, ◌∙◌, subst, arith, append_assoc, mod-eq_of_lt}
use Rattle.std.specs.Prelude.{sum_by}
use Rattle.std.specs.Int.{byte_at, bytes_high_first}
use Rattle.std.specs.List.{flat_map, AllByRecursion}
use Rattle.std.specs.declared.cmp.Ordering.{Ordering}
use Rattle.std.specs.declared.cmp.Ordering.TheVariants.{Less, Equal, Greater}
use Rattle.std.specs.Ordering.{nat_cmp, bool_cmp, ordering_then}
use Rattle.std.specs.Cmp.Lexicographic.{slice_cmp}
use Rattle.std.proofs.lemmas.Bool.{eqb-true, eqb-false, not-true, not-false}
use Rattle.std.proofs.lemmas.Bool.Decides.{nat_tests}
use Rattle.std.proofs.lemmas.Cmp.{ranked, by_ranked, tied_itself, nat_list_cmp_total}
use Rattle.std.proofs.lemmas.List.{length-append}
use Rattle.std.proofs.lemmas.List.Sums.{sum_by-cons}
use Rattle.std.proofs.lemmas.Nat.{mod-pow-add, row_fits, pow_pos, mod_below}
use Rattle.byteorder.proofs.Bytes.{pow256}
use Rattle.net_base.specs.declared.field.Field.{Field}
use Rattle.net_base.specs.declared.field.FieldId.{FieldId}
use Rattle.net_base.specs.FieldId.{number_of, byte_len_of, all_ones}
use Rattle.of_match.specs.KeyOrder.{is_masked, field_len, field_cmp, match_cmp}
use Rattle.net_base.specs.WellFormed.{Fits, AreAscending, IsWellFormed}
use Rattle.net_base.proofs.Rows.{same_field, low_number}
use Rattle.of_wire.specs.Parts.{number, field_bytes, match_bytes}
use Rattle.of_wire.proofs.Bounds.{ascending_fit}
use Rattle.of_wire.proofs.Lengths.{number_length, field_plain, field_masked}

abbrev lex : List ℕ → List ℕ → Ordering
lex = slice_cmp nat_cmp

-- ---- orderings

then_assoc : (a b c : Ordering) → ordering_then (ordering_then a b) c ≡ ordering_then a (ordering_then b c)
then_assoc Less b c = refl
then_assoc Equal b c = refl
then_assoc Greater b c = refl

then_equal : (a : Ordering) → ordering_then a Equal ≡ a
then_equal Less = refl
then_equal Equal = refl
then_equal Greater = refl

-- what decides only where the first is equal
then_where : (a b c : Ordering) → (a ≡ Equal → b ≡ c) → ordering_then a b ≡ ordering_then a c
then_where Less b c h = refl
then_where Equal b c h = h refl
then_where Greater b c h = refl

equal_parts : (a b : Ordering) → ordering_then a b ≡ Equal → (a ≡ Equal) × (b ≡ Equal)
equal_parts Less b e = absurd cc
equal_parts Equal b e = (refl, e)
equal_parts Greater b e = absurd cc

-- ---- numbers

cmp_less : (x y : ℕ) → x < y → nat_cmp x y ≡ Less
cmp_less x y h = grind (arith, nat_tests)

cmp_equal : (x y : ℕ) → x ≡ y → nat_cmp x y ≡ Equal
cmp_equal x y h = grind (arith, nat_tests)

cmp_greater : (x y : ℕ) → y < x → nat_cmp x y ≡ Greater
cmp_greater x y h = grind (arith, nat_tests)

cmp_same : (x y : ℕ) → nat_cmp x y ≡ Equal → x ≡ y
cmp_same x y e = grind (arith, nat_tests)

-- each of two numbers under a digit
cmp_digits : (m a b r s : ℕ) → r < m → s < m → nat_cmp (a * m + r) (b * m + s) ≡ ordering_then (nat_cmp a b) (nat_cmp r s)
cmp_digits m a b r s lr ls =
    by_ranked (a < b) (a ≡ b) (b < a) (nat_cmp a b) (ranked a b (nat_cmp a b) refl)
    (λ e lt. cmp_less (a * m + r) (b * m + s) (omega (arith, row_fits a m b m lt (omega arith))) ∙ ap (λ o. ordering_then o (nat_cmp r s)) (sym e))
    (λ e same. ap (λ x. nat_cmp (a * m + r) (x * m + s)) (sym same) ∙ cmp_low (a * m) r s ∙ ap (λ o. ordering_then o (nat_cmp r s)) (sym e))
    (λ e gt. cmp_greater (a * m + r) (b * m + s) (omega (arith, row_fits b m a m gt (omega arith))) ∙ ap (λ o. ordering_then o (nat_cmp r s)) (sym e))
  where
    cmp_low : (c x y : ℕ) → nat_cmp (c + x) (c + y) ≡ nat_cmp x y
    cmp_low c x y = grind (arith, nat_tests)

-- ---- bytes

lex_same : (xs : List ℕ) → lex xs xs ≡ Equal
lex_same xs = tied_itself nat_list_cmp_total xs

lex_append : (xs ys us vs : List ℕ) → length xs ≡ length ys → lex (xs ++ us) (ys ++ vs) ≡ ordering_then (lex xs ys) (lex us vs)
lex_append [] [] us vs e = refl
lex_append [] (y ∷ ys) us vs e = absurd (omega (arith, e))
lex_append (x ∷ xs) [] us vs e = absurd (omega (arith, e))
lex_append (x ∷ xs) (y ∷ ys) us vs e = ap (ordering_then (nat_cmp x y)) (lex_append xs ys us vs (omega (arith, e))) ∙ sym (then_assoc (nat_cmp x y) (lex xs ys) (lex us vs))

-- a byte of a number
byte_is : (k v : ℕ) → byte_at k v ≡ v / 2 ^ (8 * k) % 2 ^ 8
byte_is zero v = omega arith
byte_is (suc k) v = ap (λ m. v / m % 256) (pow256 (suc k))

bytes_lex : (n a b : ℕ) → lex (bytes_high_first n a) (bytes_high_first n b) ≡ nat_cmp (a % 2 ^ (8 * n)) (b % 2 ^ (8 * n))
bytes_lex zero a b = sym (cmp_equal (a % 2 ^ (8 * 0)) (b % 2 ^ (8 * 0)) (omega arith))
bytes_lex (suc k) a b =
    let m = 2 ^ (8 * k) in
    let e : 8 * suc k ≡ 8 + 8 * k = omega arith in
    (λ i. ordering_then (nat_cmp (byte_is k a i) (byte_is k b i)) (bytes_lex k a b i))
    ∙ sym (cmp_digits m (a / m % 2 ^ 8) (b / m % 2 ^ 8) (a % m) (b % m) (mod_below a m (pow_pos (8 * k))) (mod_below b m (pow_pos (8 * k))))
    ∙ sym (λ i. nat_cmp (mod-pow-add a 8 (8 * k) i) (mod-pow-add b 8 (8 * k) i)) ∙ ap (λ j. nat_cmp (a % 2 ^ j) (b % 2 ^ j)) (sym e)

-- numbers that fit compare as their bytes
number_lex : (n a b : ℕ) → a ≤ 2 ^ (8 * n) - 1 → b ≤ 2 ^ (8 * n) - 1 → lex (number n a) (number n b) ≡ nat_cmp a b
unfolding number
number_lex n a b la lb =
    bytes_lex n a b ∙ (λ i. nat_cmp (below (2 ^ (8 * n)) a (pow_pos (8 * n)) la i) (below (2 ^ (8 * n)) b (pow_pos (8 * n)) lb i))
  where
    below : (m x : ℕ) → 0 < m → x ≤ m - 1 → x % m ≡ x
    below m x pos le = mod-eq_of_lt {n = x} {m = m} (omega arith)

number_same : (n v : ℕ) (xs ys : List ℕ) → lex (number n v ++ xs) (number n v ++ ys) ≡ lex xs ys
number_same n v xs ys = lex_append (number n v) (number n v) xs ys refl ∙ ap (λ o. ordering_then o (lex xs ys)) (lex_same (number n v))

-- ---- a field

-- number and mask flag
abbrev head_of : Bool → ℕ → ℕ
head_of false n = 2 * n
head_of true n = 2 * n + 1

-- the length, the value, and the mask if there is one
abbrev tail_of : Bool → ℕ → ℕ → ℕ → List ℕ
tail_of false len value mask = number 1 len ++ number len value
tail_of true len value mask = number 1 (2 * len) ++ (number len value ++ number len mask)

full : (f : Field) → is_masked f ≡ false → eqb f.mask (all_ones f.id) ≡ true
full f e = not-false (eqb f.mask (all_ones f.id)) e

part : (f : Field) → is_masked f ≡ true → eqb f.mask (all_ones f.id) ≡ false
part f e = not-true (eqb f.mask (all_ones f.id)) e

parts_of : (f : Field) (m : Bool) → is_masked f ≡ m → field_bytes f ≡ (number 2 0x8000 ++ number 1 (head_of m (number_of f.id))) ++ tail_of m (byte_len_of f.id) f.value f.mask
parts_of f false e = rw (full f e) (simp append_assoc)
parts_of f true e = rw (part f e) (simp append_assoc)

field_length : (f : Field) (m : Bool) → is_masked f ≡ m → field_len f ≡ length (field_bytes f)
field_length f false e = rw e (field_plain f (eqb-true f.mask (all_ones f.id) (full f e)))
field_length f true e = rw e (field_masked f (eqb-false f.mask (all_ones f.id) (part f e)))

-- header bytes decide first
head_lex : (x y : ℕ) (p q : List ℕ) → x < 256 → y < 256 → lex ((number 2 0x8000 ++ number 1 x) ++ p) ((number 2 0x8000 ++ number 1 y) ++ q) ≡ ordering_then (nat_cmp x y) (lex p q)
unfolding number
head_lex x y p q lx ly = λ i. ordering_then (nat_cmp (mod-eq_of_lt {n = x} {m = 256} lx i) (mod-eq_of_lt {n = y} {m = 256} ly i)) (lex p q)

head_cmp : (m n : Bool) (a b : ℕ) → nat_cmp (head_of m a) (head_of n b) ≡ ordering_then (nat_cmp a b) (bool_cmp m n)
head_cmp m n a b =
    by_ranked (a < b) (a ≡ b) (b < a) (nat_cmp a b) (ranked a b (nat_cmp a b) refl)
    (λ e lt. less m n lt ∙ ap (λ o. ordering_then o (bool_cmp m n)) (sym e))
    (λ e same. equal m n same ∙ ap (λ o. ordering_then o (bool_cmp m n)) (sym e))
    (λ e gt. greater m n gt ∙ ap (λ o. ordering_then o (bool_cmp m n)) (sym e))
  where
    less : (m n : Bool) → a < b → nat_cmp (head_of m a) (head_of n b) ≡ Less
    less false false lt = cmp_less (2 * a) (2 * b) (omega arith)
    less false true lt = cmp_less (2 * a) (2 * b + 1) (omega arith)
    less true false lt = cmp_less (2 * a + 1) (2 * b) (omega arith)
    less true true lt = cmp_less (2 * a + 1) (2 * b + 1) (omega arith)

    equal : (m n : Bool) → a ≡ b → nat_cmp (head_of m a) (head_of n b) ≡ bool_cmp m n
    equal false false e = cmp_equal (2 * a) (2 * b) (omega arith)
    equal false true e = cmp_less (2 * a) (2 * b + 1) (omega arith)
    equal true false e = cmp_greater (2 * a + 1) (2 * b) (omega arith)
    equal true true e = cmp_equal (2 * a + 1) (2 * b + 1) (omega arith)

    greater : (m n : Bool) → b < a → nat_cmp (head_of m a) (head_of n b) ≡ Greater
    greater false false gt = cmp_greater (2 * a) (2 * b) (omega arith)
    greater false true gt = cmp_greater (2 * a) (2 * b + 1) (omega arith)
    greater true false gt = cmp_greater (2 * a + 1) (2 * b) (omega arith)
    greater true true gt = cmp_greater (2 * a + 1) (2 * b + 1) (omega arith)

-- of one field, with a mask or without
tail_lex : (m : Bool) (len v k w l : ℕ) (p q : List ℕ) → v ≤ 2 ^ (8 * len) - 1 → k ≤ 2 ^ (8 * len) - 1 → w ≤ 2 ^ (8 * len) - 1 → l ≤ 2 ^ (8 * len) - 1 → (m ≡ false → k ≡ l)
    → lex (tail_of m len v k ++ p) (tail_of m len w l ++ q) ≡ ordering_then (ordering_then (nat_cmp v w) (nat_cmp k l)) (lex p q)
tail_lex false len v k w l p q hv hk hw hl same =
    lex_append (number 1 len ++ number len v) (number 1 len ++ number len w) p q (omega (arith, length-append (number 1 len) (number len v), length-append (number 1 len) (number len w), number_length len v, number_length len w))
    ∙ ap (λ o. ordering_then o (lex p q)) (number_same 1 len (number len v) (number len w) ∙ number_lex len v w hv hw ∙ sym (ap (ordering_then (nat_cmp v w)) (cmp_equal k l (same refl)) ∙ then_equal (nat_cmp v w)))
tail_lex true len v k w l p q hv hk hw hl same =
    lex_append (number 1 (2 * len) ++ (number len v ++ number len k)) (number 1 (2 * len) ++ (number len w ++ number len l)) p q
    (omega (
      arith,
      length-append (number 1 (2 * len)) (number len v ++ number len k),
      length-append (number 1 (2 * len)) (number len w ++ number len l),
      length-append (number len v) (number len k),
      length-append (number len w) (number len l),
      number_length len v,
      number_length len w,
      number_length len k,
      number_length len l,
    ))
    ∙ ap (λ o. ordering_then o (lex p q)) (number_same 1 (2 * len) (number len v ++ number len k) (number len w ++ number len l)
    ∙ lex_append (number len v) (number len w) (number len k) (number len l) (number_length len v ∙ sym (number_length len w)) ∙ (λ i. ordering_then (number_lex len v w hv hw i) (number_lex len k l hk hl i)))

small : (id : FieldId) (m : Bool) → head_of m (number_of id) < 256
small id false = omega (arith, low_number id)
small id true = omega (arith, low_number id)

module _ (f g : Field) (fits_f : Fits f) (fits_g : Fits g) (p q : List ℕ) where
  field_at : (m n : Bool) → is_masked f ≡ m → is_masked g ≡ n → lex (field_bytes f ++ p) (field_bytes g ++ q) ≡ ordering_then (field_cmp f g) (lex p q)
  field_at m n e d =
      let values = ordering_then (nat_cmp f.value g.value) (nat_cmp f.mask g.mask) in
      let behind_f = tail_of m (byte_len_of f.id) f.value f.mask ++ p in
      let behind_g = tail_of n (byte_len_of g.id) g.value g.mask ++ q in
      let heads = ordering_then (nat_cmp (number_of f.id) (number_of g.id)) (bool_cmp m n) in
      let apart : lex (field_bytes f ++ p) (field_bytes g ++ q) ≡ ordering_then heads (lex behind_f behind_g) =
      (λ i. lex (parts_of f m e i ++ p) (parts_of g n d i ++ q))
      ∙ (λ i. lex (append_assoc (number 2 0x8000 ++ number 1 (head_of m (number_of f.id))) (tail_of m (byte_len_of f.id) f.value f.mask) p i) (append_assoc (number 2 0x8000 ++ number 1 (head_of n (number_of g.id))) (tail_of n (byte_len_of g.id) g.value g.mask) q i))
      ∙ head_lex (head_of m (number_of f.id)) (head_of n (number_of g.id)) behind_f behind_g (small f.id m) (small g.id n)
      ∙ ap (λ o. ordering_then o (lex behind_f behind_g)) (head_cmp m n (number_of f.id) (number_of g.id)) in
      apart ∙ then_where heads (lex behind_f behind_g) (ordering_then values (lex p q)) (λ same. alike same)
      ∙ sym (then_assoc heads values (lex p q)) ∙ ap (λ o. ordering_then o (lex p q)) (then_assoc (nat_cmp (number_of f.id) (number_of g.id)) (bool_cmp m n) values)
      ∙ (λ i. ordering_then (ordering_then (nat_cmp (number_of f.id) (number_of g.id)) (ordering_then (bool_cmp (back e i) (back d i)) values)) (lex p q))
    where
      back : {b c : Bool} → b ≡ c → c ≡ b
      back e = sym e

      bools : (b c : Bool) → bool_cmp b c ≡ Equal → b ≡ c
      bools false false e = refl
      bools false true e = absurd cc
      bools true false e = absurd cc
      bools true true e = refl

      masks : (id : FieldId) → f.id ≡ id → g.id ≡ id → m ≡ n → m ≡ false → f.mask ≡ g.mask
      masks id same_f same_g same none =
          eqb-true f.mask (all_ones f.id) (full f (e ∙ none)) ∙ ap all_ones (same_f ∙ sym same_g) ∙ sym (eqb-true g.mask (all_ones g.id) (full g (d ∙ sym same ∙ none)))

      alike : ordering_then (nat_cmp (number_of f.id) (number_of g.id)) (bool_cmp m n) ≡ Equal
          → lex (tail_of m (byte_len_of f.id) f.value f.mask ++ p) (tail_of n (byte_len_of g.id) g.value g.mask ++ q) ≡ ordering_then (ordering_then (nat_cmp f.value g.value) (nat_cmp f.mask g.mask)) (lex p q)
      alike same =
          let both = equal_parts (nat_cmp (number_of f.id) (number_of g.id)) (bool_cmp m n) same in
          let id : f.id ≡ g.id = same_field f.id g.id (cmp_same (number_of f.id) (number_of g.id) both.0) in
          let flag : m ≡ n = bools m n both.1 in
          let fit : (x : ℕ) → x ≤ all_ones g.id → x ≤ 2 ^ (8 * byte_len_of f.id) - 1 = λ x le. subst (λ (i : FieldId). x ≤ 2 ^ (8 * byte_len_of i) - 1) (sym id) le in
          (λ i. lex (tail_of m (byte_len_of f.id) f.value f.mask ++ p) (tail_of (sym flag i) (byte_len_of (sym id i)) g.value g.mask ++ q))
          ∙ tail_lex m (byte_len_of f.id) f.value f.mask g.value g.mask p q fits_f.value fits_f.mask (fit g.value fits_g.value) (fit g.mask fits_g.mask) (masks g.id id refl flag)

  field_lex : lex (field_bytes f ++ p) (field_bytes g ++ q) ≡ ordering_then (field_cmp f g) (lex p q)
  field_lex = field_at (is_masked f) (is_masked g) refl refl

-- ---- fields

begins : (f : Field) (rest : List ℕ) → (behind : List ℕ) × (field_bytes f ++ rest ≡ 128 ∷ behind)
unfolding number
begins f rest = (0 ∷ (number 1 (head_of (is_masked f) (number_of f.id)) ++ tail_of (is_masked f) (byte_len_of f.id) f.value f.mask) ++ rest, ap (λ bytes. bytes ++ rest) (parts_of f (is_masked f) refl))

fields_lex : (a b : List Field) → AllByRecursion Fits a → AllByRecursion Fits b → lex (flat_map field_bytes a) (flat_map field_bytes b) ≡ slice_cmp field_cmp a b
fields_lex [] [] fa fb = refl
fields_lex [] (g ∷ b) fa fb = let k = begins g (flat_map field_bytes b) in ap (lex []) k.1
fields_lex (f ∷ a) [] fa fb = let k = begins f (flat_map field_bytes a) in ap (λ bytes. lex bytes []) k.1
fields_lex (f ∷ a) (g ∷ b) fa fb =
    field_lex f g fa.0 fb.0 (flat_map field_bytes a) (flat_map field_bytes b) ∙ ap (ordering_then (field_cmp f g)) (fields_lex a b fa.1 fb.1)

-- ---- lengths

fields_length : (a : List Field) → sum_by field_len a ≡ length (flat_map field_bytes a)
fields_length [] = refl
fields_length (f ∷ a) =
    sum_by-cons field_len f a ∙ (λ i. field_length f (is_masked f) refl i + fields_length a i) ∙ sym (length-append (field_bytes f) (flat_map field_bytes a))

short : (a : List Field) → AreAscending a → 4 + length (flat_map field_bytes a) ≤ 2 ^ (8 * 2) - 1
short a up = omega (arith, ascending_fit a up)

-- ---- matches

-- the fields, behind the type and the length
abbrev bytes_of : List Field → List ℕ
bytes_of a = flat_map field_bytes a

abbrev whole : List Field → List ℕ
whole a = number 2 1 ++ number 2 (4 + length (bytes_of a)) ++ bytes_of a

abbrev pad : List Field → List ℕ
pad a = replicate ((8 - length (whole a) % 8) % 8) 0

whole_length : (a : List Field) → length (whole a) ≡ 4 + length (bytes_of a)
whole_length a =
    omega (arith, length-append (number 2 1 ++ number 2 (4 + length (bytes_of a))) (bytes_of a), length-append (number 2 1) (number 2 (4 + length (bytes_of a))), number_length 2 1, number_length 2 (4 + length (bytes_of a)))

-- matches of one length have one padding
pads : (a b : List Field) → length (bytes_of a) ≡ length (bytes_of b) → lex (pad a) (pad b) ≡ Equal
pads a b e =
    let same : pad a ≡ pad b = ap (λ n. replicate ((8 - n % 8) % 8) 0) (whole_length a ∙ ap (λ n. 4 + n) e ∙ sym (whole_length b)) in
    ap (lex (pad a)) (sym same) ∙ lex_same (pad a)

padded_lex : (a b : List Field) → IsWellFormed a → IsWellFormed b → nat_cmp (4 + length (bytes_of a)) (4 + length (bytes_of b)) ≡ Equal → lex (bytes_of a ++ pad a) (bytes_of b ++ pad b) ≡ slice_cmp field_cmp a b
padded_lex a b wa wb same =
    let e : length (bytes_of a) ≡ length (bytes_of b) = omega (arith, cmp_same (4 + length (bytes_of a)) (4 + length (bytes_of b)) same) in
    lex_append (bytes_of a) (bytes_of b) (pad a) (pad b) e ∙ ap (ordering_then (lex (bytes_of a) (bytes_of b))) (pads a b e) ∙ then_equal (lex (bytes_of a) (bytes_of b))
    ∙ fields_lex a b wa.fitting wb.fitting

split_match : (a : List Field) → match_bytes a ≡ number 2 1 ++ (number 2 (4 + length (bytes_of a)) ++ (bytes_of a ++ pad a))
split_match a =
    append_assoc (number 2 1 ++ number 2 (4 + length (bytes_of a))) (bytes_of a) (pad a) ∙ append_assoc (number 2 1) (number 2 (4 + length (bytes_of a))) (bytes_of a ++ pad a)

pub matches_lex : (a b : List Field) → IsWellFormed a → IsWellFormed b → match_cmp a b ≡ lex (match_bytes a) (match_bytes b)
matches_lex a b wa wb =
    let na = 4 + length (bytes_of a) in
    let nb = 4 + length (bytes_of b) in
    let bytes : lex (match_bytes a) (match_bytes b) ≡ ordering_then (nat_cmp na nb) (slice_cmp field_cmp a b) =
    (λ i. lex (split_match a i) (split_match b i))
    ∙ number_same 2 1 (number 2 na ++ (bytes_of a ++ pad a)) (number 2 nb ++ (bytes_of b ++ pad b))
    ∙ lex_append (number 2 na) (number 2 nb) (bytes_of a ++ pad a) (bytes_of b ++ pad b) (number_length 2 na ∙ sym (number_length 2 nb))
    ∙ ap (λ o. ordering_then o (lex (bytes_of a ++ pad a) (bytes_of b ++ pad b))) (number_lex 2 na nb (short a wa.ascending) (short b wb.ascending))
    ∙ then_where (nat_cmp na nb) (lex (bytes_of a ++ pad a) (bytes_of b ++ pad b)) (slice_cmp field_cmp a b) (padded_lex a b wa wb) in
    (λ i. ordering_then (nat_cmp (4 + fields_length a i) (4 + fields_length b i)) (slice_cmp field_cmp a b)) ∙ sym bytes
