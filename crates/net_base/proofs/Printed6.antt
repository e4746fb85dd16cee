-- What is written of an IPv6 address spells it, and is text.
use Rattle.std.proofs.Common.{◌≡◌, ℕ, zero, suc, ◌+◌, ◌-◌, ◌*◌, ◌/◌, ◌%◌, ◌^◌, ◌<◌, ◌≤◌, Bool, true, false, cond, List, [], ◌∷◌, ◌++◌, length, take, drop, refl, sym, ap, subst, ◌∙◌, inl, inr, add-one, zero-add, arith, length-drop}
use Rattle.std.specs.Prelude.{◌==◌, nat_le, replicate}
use Rattle.std.specs.Str.{IsUtf8}
use Rattle.std.specs.List.{AllByRecursion}
use Rattle.std.specs.Char.{digit_char}
use Rattle.std.proofs.lemmas.Str.{IsUtf8-append, IsUtf8-nil}
use Rattle.std.proofs.lemmas.List.{length-take-le}
use Rattle.std.proofs.lemmas.Nat.{mod-pow-add}
use Rattle.std.proofs.Math.Nat.{mod-eq_of_lt}
use Rattle.net_base.specs.Address.{decimal}
use Rattle.net_base.specs.Address6.{whole, groups_of, IsGroup, SpellsGroups, SpellsIp6, SpellsNet6, group_text, groups_text, zeros_in_front, longest_zeros, ip6_text, net6_text}
use Rattle.net_base.proofs.Addresses.{at_below, no_more, is_most, less_or_not, char_hex, ascii_utf8, one_utf8, char_ascii, decimal_utf8}
use Rattle.net_base.proofs.Cut.{equal_at}
use Rattle.net_base.proofs.Groups.{IsDigit, group1, group2, group3, group4}

-- ---- a group

one_digit : (g : ℕ) → g < 16 → group_text g ≡ digit_char g ∷ []
one_digit g h = rw (at_below g 16 h) refl

two_digits : (g : ℕ) → 16 ≤ g → g < 256 → group_text g ≡ digit_char (g / 16) ∷ digit_char (g % 16) ∷ []
two_digits g l h = rw (no_more g 16 l, at_below g 256 h) refl

three_digits : (g : ℕ) → 256 ≤ g → g < 4096 → group_text g ≡ digit_char (g / 256) ∷ digit_char (g / 16 % 16) ∷ digit_char (g % 16) ∷ []
three_digits g l h = rw (no_more g 16 (omega arith), no_more g 256 l, at_below g 4096 h) refl

four_digits : (g : ℕ) → 4096 ≤ g → group_text g ≡ digit_char (g / 4096) ∷ digit_char (g / 256 % 16) ∷ digit_char (g / 16 % 16) ∷ digit_char (g % 16) ∷ []
four_digits g l = rw (no_more g 16 (omega arith), no_more g 256 (omega arith), no_more g 4096 l) refl

digit_of : (d : ℕ) → d < 16 → IsDigit (digit_char d) d
digit_of d h = let c = char_hex d h in record { hex = c.0; value = c.1 }

split2 : (g : ℕ) → 16 * (g / 16) + g % 16 ≡ g
split2 g = omega arith

split3 : (g : ℕ) → 256 * (g / 256) + (16 * (g / 16 % 16) + g % 16) ≡ g
split3 g = omega arith

split4 : (g : ℕ) → 256 * (16 * (g / 4096) + g / 256 % 16) + (16 * (g / 16 % 16) + g % 16) ≡ g
split4 g = omega arith

low : (g : ℕ) → g % 16 < 16
low g = omega arith

high2 : (g : ℕ) → g < 256 → g / 16 < 16
high2 g h = omega arith

high3 : (g : ℕ) → g < 4096 → g / 256 < 16
high3 g h = omega arith

high4 : (g : ℕ) → g < 2 ^ 16 → g / 4096 < 16
high4 g h = omega arith

pub group_spelled : (g : ℕ) → g < 2 ^ 16 → IsGroup (group_text g) g
group_spelled g h = elim (less_or_not g 16) [
  | inl p ↦ subst (λ t. IsGroup t g) (sym (one_digit g p)) (group1 (digit_char g) g g (digit_of g p) refl)
  | inr p ↦ elim (less_or_not g 256) [
    | inl q ↦ subst (λ t. IsGroup t g) (sym (two_digits g p q)) (group2 _ _ (g / 16) (g % 16) g (digit_of (g / 16) (high2 g q)) (digit_of (g % 16) (low g)) (split2 g))
    | inr q ↦ elim (less_or_not g 4096) [
      | inl r ↦
          subst (λ t. IsGroup t g) (sym (three_digits g q r))
          (group3 _ _ _ (g / 256) (g / 16 % 16) (g % 16) g (digit_of (g / 256) (high3 g r)) (digit_of (g / 16 % 16) (low (g / 16))) (digit_of (g % 16) (low g)) (split3 g))
      | inr r ↦
          subst (λ t. IsGroup t g) (sym (four_digits g r)) (
          group4 _ _ _ _ (g / 4096) (g / 256 % 16) (g / 16 % 16) (g % 16) g (digit_of (g / 4096) (high4 g h)) (digit_of (g / 256 % 16) (low (g / 256))) (digit_of (g / 16 % 16) (low (g / 16)))
          (digit_of (g % 16) (low g)) (split4 g)
          )
    ]
  ]
]

group_utf8 : (g : ℕ) → g < 2 ^ 16 → IsUtf8 (group_text g)
group_utf8 g h = elim (less_or_not g 16) [
  | inl p ↦ subst IsUtf8 (sym (one_digit g p)) (ascii_utf8 (digit_char g ∷ []) (char_ascii g p, tt))
  | inr p ↦ elim (less_or_not g 256) [
    | inl q ↦
        subst IsUtf8 (sym (two_digits g p q)) (ascii_utf8 (digit_char (g / 16) ∷ digit_char (g % 16) ∷ []) (char_ascii (g / 16) (high2 g q), (char_ascii (g % 16) (low g), tt)))
    | inr q ↦ elim (less_or_not g 4096) [
      | inl r ↦
          subst IsUtf8 (sym (three_digits g q r))
          (ascii_utf8 (digit_char (g / 256) ∷ digit_char (g / 16 % 16) ∷ digit_char (g % 16) ∷ []) (char_ascii (g / 256) (high3 g r), (char_ascii (g / 16 % 16) (low (g / 16)), (char_ascii (g % 16) (low g), tt))))
      | inr r ↦
          subst IsUtf8 (sym (four_digits g r)) (
          ascii_utf8 (digit_char (g / 4096) ∷ digit_char (g / 256 % 16) ∷ digit_char (g / 16 % 16) ∷ digit_char (g % 16) ∷ [])
          (char_ascii (g / 4096) (high4 g h), (char_ascii (g / 256 % 16) (low (g / 256)), (char_ascii (g / 16 % 16) (low (g / 16)), (char_ascii (g % 16) (low g), tt))))
          )
    ]
  ]
]

-- ---- groups

abbrev AreGroups : List ℕ → Type 0
AreGroups groups = AllByRecursion (λ group. group < 2 ^ 16) groups

text_spelled : (groups : List ℕ) → AreGroups groups → SpellsGroups (groups_text groups) groups
text_spelled [] h = refl
text_spelled (g ∷ []) h = group_spelled g h.0
text_spelled (g ∷ next ∷ groups) h = (group_text g, groups_text (next ∷ groups), refl, group_spelled g h.0, text_spelled (next ∷ groups) h.1)

colon_utf8 : IsUtf8 (58 ∷ [])
colon_utf8 = one_utf8 58 (omega arith)

text_utf8 : (groups : List ℕ) → AreGroups groups → IsUtf8 (groups_text groups)
text_utf8 [] h = IsUtf8-nil
text_utf8 (g ∷ []) h = group_utf8 g h.0
text_utf8 (g ∷ next ∷ groups) h =
    IsUtf8-append (group_text g) (58 ∷ groups_text (next ∷ groups)) (group_utf8 g h.0) (IsUtf8-append (58 ∷ []) (groups_text (next ∷ groups)) colon_utf8 (text_utf8 (next ∷ groups) h.1))

fit_front : (n : ℕ) (groups : List ℕ) → AreGroups groups → AreGroups (take n groups)
fit_front zero groups h = tt
fit_front (suc n) [] h = tt
fit_front (suc n) (g ∷ groups) h = (h.0, fit_front n groups h.1)

fit_back : (n : ℕ) (groups : List ℕ) → AreGroups groups → AreGroups (drop n groups)
fit_back zero groups h = h
fit_back (suc n) [] h = tt
fit_back (suc n) (g ∷ groups) h = fit_back n groups h.1

-- ---- the eight groups of an address

fits : (n : ℕ) → n % 2 ^ 16 < 2 ^ 16
fits n = omega arith

groups_fit : (ip : ℕ) → AreGroups (groups_of ip)
unfolding groups_of
groups_fit ip = (fits _, (fits _, (fits _, (fits _, (fits _, (fits _, (fits _, (fits _, tt))))))))

eight : (ip : ℕ) → length (groups_of ip) ≡ 8
unfolding groups_of
eight ip = refl

one_time : (n : ℕ) → n * 1 + 0 ≡ n
one_time n = omega arith

module _ (ip : ℕ) where
  last : ip % 2 ^ 16 * 1 + 0 ≡ ip % 2 ^ 16
  last = one_time (ip % 2 ^ 16)

  seventh : ip / 2 ^ 16 % 2 ^ 16 * 2 ^ 16 + (ip % 2 ^ 16 * 1 + 0) ≡ ip % 2 ^ 32
  seventh = ap (λ n. ip / 2 ^ 16 % 2 ^ 16 * 2 ^ 16 + n) last ∙ sym (mod-pow-add ip 16 16)

  whole_back : whole (groups_of ip) ≡ ip % 2 ^ 128
  unfolding groups_of
  whole_back =
      ap (λ n. ip / 2 ^ 112 % 2 ^ 16 * 2 ^ 112 + n) (
      ap (λ n. ip / 2 ^ 96 % 2 ^ 16 * 2 ^ 96 + n) (
      ap (λ n. ip / 2 ^ 80 % 2 ^ 16 * 2 ^ 80 + n) (
      ap (λ n. ip / 2 ^ 64 % 2 ^ 16 * 2 ^ 64 + n) (
      ap (λ n. ip / 2 ^ 48 % 2 ^ 16 * 2 ^ 48 + n) (ap (λ n. ip / 2 ^ 32 % 2 ^ 16 * 2 ^ 32 + n) seventh ∙ sym (mod-pow-add ip 16 32))
      ∙ sym (mod-pow-add ip 16 48)
      )
      ∙ sym (mod-pow-add ip 16 64)
      )
      ∙ sym (mod-pow-add ip 16 80)
      )
      ∙ sym (mod-pow-add ip 16 96)
      )
      ∙ sym (mod-pow-add ip 16 112)

-- ---- the longest row of zeros

pub record IsFront (groups : List ℕ) (n : ℕ) : Type 0 where
  pub within : n ≤ length groups
  pub row : replicate n 0 ++ drop n groups ≡ groups

zeros_there : (groups : List ℕ) → IsFront groups (zeros_in_front groups)
zeros_there [] = record { within = omega arith; row = refl }
zeros_there (g ∷ groups) = by (g == 0) refl (zeros_there groups)
  where
    by : (b : Bool) → (g == 0) ≡ b → IsFront groups (zeros_in_front groups) → IsFront (g ∷ groups) (cond b (zeros_in_front groups + 1) 0)
    by false e more = record { within = omega arith; row = refl }
    by true e more =
        let n = zeros_in_front groups in
        let one : n + 1 ≡ suc n = add-one n in
        let here : g ≡ 0 = equal_at g 0 e in
        subst (IsFront (g ∷ groups)) (sym one) (record { within = omega (arith, more.within); row = λ i. sym here i ∷ more.row i })

pub record IsRow (groups : List ℕ) (zeros : ℕ × ℕ) : Type 0 where
  pub within : zeros.0 + zeros.1 ≤ length groups
  pub row : take zeros.0 groups ++ replicate zeros.1 0 ++ drop (zeros.0 + zeros.1) groups ≡ groups

here_first : (g : ℕ) (groups : List ℕ) → IsRow (g ∷ groups) (0, zeros_in_front (g ∷ groups))
here_first g groups =
    let front = zeros_there (g ∷ groups) in
    let n = zeros_in_front (g ∷ groups) in
    record { within = omega (arith, front.within); row = ap (λ m. replicate n 0 ++ drop m (g ∷ groups)) (zero-add n) ∙ front.row }

later_on : (g : ℕ) (groups : List ℕ) (z : ℕ × ℕ) → IsRow groups z → IsRow (g ∷ groups) (z.0 + 1, z.1)
later_on g groups z there =
    let one : z.0 + 1 ≡ suc z.0 = add-one z.0 in
    let place : z.0 + 1 + z.1 ≡ suc (z.0 + z.1) = omega arith in
    record {
      within = omega (arith, there.within);
      row = (λ i. take (one i) (g ∷ groups) ++ replicate z.1 0 ++ drop (place i) (g ∷ groups)) ∙ ap (λ w. g ∷ w) there.row;
    }

row_there : (groups : List ℕ) → IsRow groups (longest_zeros groups)
row_there [] = record { within = omega arith; row = refl }
row_there (g ∷ groups) = by (nat_le (longest_zeros groups).1 (zeros_in_front (g ∷ groups))) (row_there groups)
  where
    by : (b : Bool) → IsRow groups (longest_zeros groups) → IsRow (g ∷ groups) (cond b (0, zeros_in_front (g ∷ groups)) ((longest_zeros groups).0 + 1, (longest_zeros groups).1))
    by true more = here_first g groups
    by false more = later_on g groups (longest_zeros groups) more

-- ---- the address

short_spelled : (groups : List ℕ) (zeros : ℕ × ℕ) → length groups ≡ 8 → AreGroups groups → IsRow groups zeros → (b : Bool) → nat_le 2 zeros.1 ≡ b
    → SpellsIp6 (cond b (groups_text (take zeros.0 groups) ++ 58 ∷ 58 ∷ groups_text (drop (zeros.0 + zeros.1) groups)) (groups_text groups)) (whole groups)
short_spelled groups zeros eight fit there false e = inl (record { groups = groups; spelled = text_spelled groups fit; count = eight; value = refl })
short_spelled groups zeros eight fit there true e =
    let some = is_most 2 zeros.1 e in
    let before = length-take-le zeros.0 groups (omega (arith, there.within)) in
    let behind = length-drop (zeros.0 + zeros.1) groups in
    let gap : 8 - (length (take zeros.0 groups) + length (drop (zeros.0 + zeros.1) groups)) ≡ zeros.1 = omega (arith, before, behind, eight, there.within) in
    inr (record {
      front = take zeros.0 groups;
      back = drop (zeros.0 + zeros.1) groups;
      before = groups_text (take zeros.0 groups);
      behind = groups_text (drop (zeros.0 + zeros.1) groups);
      row = refl;
      spelled_front = text_spelled (take zeros.0 groups) (fit_front zeros.0 groups fit);
      spelled_back = text_spelled (drop (zeros.0 + zeros.1) groups) (fit_back (zeros.0 + zeros.1) groups fit);
      count = omega (arith, before, behind, eight, there.within, some);
      value = ap whole (sym there.row ∙ ap (λ n. take zeros.0 groups ++ replicate n 0 ++ drop (zeros.0 + zeros.1) groups) (sym gap));
    })

pub ip6_spelled : (ip : ℕ) → ip < 2 ^ 128 → SpellsIp6 (ip6_text ip) ip
ip6_spelled ip h =
    subst (SpellsIp6 (ip6_text ip)) (whole_back ip ∙ mod-eq_of_lt h) (short_spelled (groups_of ip) (longest_zeros (groups_of ip)) (eight ip) (groups_fit ip) (row_there (groups_of ip)) (nat_le 2 (longest_zeros (groups_of ip)).1) refl)

pub net6_spelled : (ip len : ℕ) → ip < 2 ^ 128 → len ≤ 128 → SpellsNet6 (net6_text ip len) ip len
net6_spelled ip len h most = record { address = ip6_text ip; row = refl; spelled = ip6_spelled ip h; most = most }

short_utf8 : (groups : List ℕ) (zeros : ℕ × ℕ) → AreGroups groups → (b : Bool) → IsUtf8 (cond b (groups_text (take zeros.0 groups) ++ 58 ∷ 58 ∷ groups_text (drop (zeros.0 + zeros.1) groups)) (groups_text groups))
short_utf8 groups zeros fit false = text_utf8 groups fit
short_utf8 groups zeros fit true =
    let back = groups_text (drop (zeros.0 + zeros.1) groups) in
    let behind = IsUtf8-append (58 ∷ []) back colon_utf8 (text_utf8 (drop (zeros.0 + zeros.1) groups) (fit_back (zeros.0 + zeros.1) groups fit)) in
    IsUtf8-append (groups_text (take zeros.0 groups)) (58 ∷ 58 ∷ back) (text_utf8 (take zeros.0 groups) (fit_front zeros.0 groups fit)) (IsUtf8-append (58 ∷ []) (58 ∷ back) colon_utf8 behind)

pub ip6_utf8 : (ip : ℕ) → IsUtf8 (ip6_text ip)
ip6_utf8 ip = short_utf8 (groups_of ip) (longest_zeros (groups_of ip)) (groups_fit ip) (nat_le 2 (longest_zeros (groups_of ip)).1)

pub net6_utf8 : (ip len : ℕ) → len < 256 → IsUtf8 (net6_text ip len)
net6_utf8 ip len h = IsUtf8-append (ip6_text ip) (47 ∷ decimal len) (ip6_utf8 ip) (IsUtf8-append (47 ∷ []) (decimal len) (one_utf8 47 (omega arith)) (decimal_utf8 len h))
