-- What texts that spell addresses of IPv6 are like, and how large these are.
use Rattle.std.proofs.Common.{◌≡◌, ℕ, zero, suc, ◌+◌, ◌-◌, ◌*◌, ◌^◌, ◌<◌, ◌≤◌, ◌==◌, Bool, true, false, List, [], ◌∷◌, ◌++◌, length, length-append, refl, sym, ap, ◌∙◌, inl, inr, subst, arith}
use Rattle.std.specs.Prelude.{IsTrue, replicate}
use Rattle.std.specs.Char.{digit_value, is_ascii_hexdigit}
use Rattle.std.specs.List.{AllByRecursion, list_any}
use Rattle.std.proofs.Math.Nat.{mul-le-mul_right, pow-le-pow_right}
use Rattle.std.proofs.lemmas.Bool.{or_from, or_right}
use Rattle.std.proofs.lemmas.Bool.Decides.{nat_tests}
use Rattle.std.proofs.lemmas.List.{length-replicate}
use Rattle.std.proofs.lemmas.List.Folds.{list_any-append}
use Rattle.std.proofs.lemmas.Nat.{pow-add}
use Rattle.net_base.specs.Address.{decimal}
use Rattle.net_base.specs.Address6.{whole, hex_value, IsGroup, SpellsGroups, SpellsIp6, SpellsNet6}

-- ---- slashes

-- the text has a slash
abbrev pub has_slash : List ℕ → Bool
has_slash text = list_any (λ c. c == 47) text

digit_no_slash : (c : ℕ) → IsTrue (is_ascii_hexdigit c) → (c == 47) ≡ false
digit_no_slash c h = grind (arith, nat_tests)

digits_no_slash : (cs : List ℕ) → AllByRecursion (λ c. IsTrue (is_ascii_hexdigit c)) cs → has_slash cs ≡ false
digits_no_slash [] all = refl
digits_no_slash (c ∷ cs) all = or_from (c == 47) (has_slash cs) (digit_no_slash c all.0) (digits_no_slash cs all.1)

groups_no_slash : (text groups : List ℕ) → SpellsGroups text groups → has_slash text ≡ false
groups_no_slash text [] s = ap has_slash s
groups_no_slash text (group ∷ []) s = digits_no_slash text s.each
groups_no_slash text (group ∷ next ∷ groups) s =
    ap has_slash s.2 ∙ list_any-append (λ c. c == 47) s.0 (58 ∷ s.1)
    ∙ or_from (has_slash s.0) (has_slash (58 ∷ s.1)) (digits_no_slash s.0 s.3.each) (groups_no_slash s.1 (next ∷ groups) s.4)

pub ip6_no_slash : (text : List ℕ) (ip : ℕ) → SpellsIp6 text ip → has_slash text ≡ false
ip6_no_slash text ip (inl s) = groups_no_slash text s.groups s.spelled
ip6_no_slash text ip (inr s) =
    ap has_slash s.row ∙ list_any-append (λ c. c == 47) s.before (58 ∷ 58 ∷ s.behind)
    ∙ or_from (has_slash s.before) (has_slash (58 ∷ 58 ∷ s.behind)) (groups_no_slash s.before s.front s.spelled_front) (groups_no_slash s.behind s.back s.spelled_back)

pub net6_slash : (text : List ℕ) (ip len : ℕ) → SpellsNet6 text ip len → has_slash text ≡ true
net6_slash text ip len s = ap has_slash s.row ∙ list_any-append (λ c. c == 47) s.address (47 ∷ decimal len) ∙ or_right (has_slash s.address) true refl

-- ---- numbers

hex_below : (c : ℕ) → IsTrue (is_ascii_hexdigit c) → digit_value c < 16
hex_below c h = grind (arith, nat_tests)

-- a digit more in front
one_more : (size d p v : ℕ) → d < size → v < p → d * p + v < size * p
one_more size d p v h below = let most : (d + 1) * p ≤ size * p = mul-le-mul_right {m = d + 1} {n = size} p (omega (arith, h)) in omega (arith, most, below)

value_below : (cs : List ℕ) → AllByRecursion (λ c. IsTrue (is_ascii_hexdigit c)) cs → hex_value cs < 16 ^ length cs
value_below [] all = omega arith
value_below (c ∷ cs) all =
    let n = length cs in
    let size : 16 ^ (1 + n) ≡ 16 ^ 1 * 16 ^ n = pow-add 16 1 n in
    let place : 1 + n ≡ suc n = omega arith in
    let more : digit_value c * 16 ^ n + hex_value cs < 16 * 16 ^ n = one_more 16 (digit_value c) (16 ^ n) (hex_value cs) (hex_below c all.0) (value_below cs all.1) in
    subst (λ (k : ℕ). digit_value c * 16 ^ n + hex_value cs < 16 ^ k) place (subst (λ (m : ℕ). digit_value c * 16 ^ n + hex_value cs < m) (sym size) more)

group_below : (text : List ℕ) (group : ℕ) → IsGroup text group → group < 2 ^ 16
group_below text group is =
    let below = value_below text is.each in
    let most : 16 ^ length text ≤ 16 ^ 4 = pow-le-pow_right {n = 16} (omega arith) {i = length text} {j = 4} is.most in
    let value = is.value in
    omega (arith, below, most, value)

abbrev AreGroups : List ℕ → Type 0
AreGroups groups = AllByRecursion (λ group. group < 2 ^ 16) groups

groups_below : (text groups : List ℕ) → SpellsGroups text groups → AreGroups groups
groups_below text [] s = tt
groups_below text (group ∷ []) s = (group_below text group s, tt)
groups_below text (group ∷ next ∷ groups) s = (group_below s.0 group s.3, groups_below s.1 (next ∷ groups) s.4)

joined : (xs ys : List ℕ) → AreGroups xs → AreGroups ys → AreGroups (xs ++ ys)
joined [] ys a b = b
joined (x ∷ xs) ys a b = (a.0, joined xs ys a.1 b)

zeros : (k : ℕ) → AreGroups (replicate k 0)
zeros zero = tt
zeros (suc k) = (omega arith, zeros k)

whole_below : (groups : List ℕ) → AreGroups groups → whole groups < 2 ^ (16 * length groups)
whole_below [] all = omega arith
whole_below (group ∷ groups) all =
    let k = 16 * length groups in
    let size : 2 ^ (16 + k) ≡ 2 ^ 16 * 2 ^ k = pow-add 2 16 k in
    let place : 16 + k ≡ 16 * suc (length groups) = omega arith in
    let more : group * 2 ^ k + whole groups < 2 ^ 16 * 2 ^ k = one_more (2 ^ 16) group (2 ^ k) (whole groups) all.0 (whole_below groups all.1) in
    subst (λ (n : ℕ). group * 2 ^ k + whole groups < 2 ^ n) place (subst (λ (m : ℕ). group * 2 ^ k + whole groups < m) (sym size) more)

eight_below : (groups : List ℕ) → AreGroups groups → length groups ≡ 8 → whole groups < 2 ^ 128
eight_below groups all count = let places : 16 * length groups ≡ 128 = omega (arith, count) in subst (λ (n : ℕ). whole groups < 2 ^ n) places (whole_below groups all)

pub ip6_below : (text : List ℕ) (ip : ℕ) → SpellsIp6 text ip → ip < 2 ^ 128
ip6_below text ip (inl s) = subst (λ (n : ℕ). n < 2 ^ 128) (sym s.value) (eight_below s.groups (groups_below text s.groups s.spelled) s.count)
ip6_below text ip (inr s) =
    let k = 8 - (length s.front + length s.back) in
    let front = joined s.front (replicate k 0) (groups_below s.before s.front s.spelled_front) (zeros k) in
    let all = joined (s.front ++ replicate k 0) s.back front (groups_below s.behind s.back s.spelled_back) in
    let parts = length-append (s.front ++ replicate k 0) s.back in
    let earlier = length-append s.front (replicate k 0) in
    let middle = length-replicate {A = ℕ} k 0 in
    let few = s.count in
    let count : length (s.front ++ replicate k 0 ++ s.back) ≡ 8 = omega (arith, parts, earlier, middle, few) in
    subst (λ (n : ℕ). n < 2 ^ 128) (sym s.value) (eight_below (s.front ++ replicate k 0 ++ s.back) all count)
