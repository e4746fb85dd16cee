-- Groups as a number, and how many they are, as the code finds them.
use Rattle.std.proofs.Common.{◌≡◌, ℕ, zero, suc, ◌+◌, ◌-◌, ◌*◌, ◌%◌, ◌^◌, ◌<◌, ◌≤◌, List, [], ◌∷◌, length, Option, Some, None, refl, sym, ap, subst, ◌∙◌, add-one, arith}
use Rattle.std.specs.Option.{option_map}
use Rattle.std.proofs.lemmas.Nat.{pow_pos, pow-add, pow_below}
use Rattle.std.proofs.Math.Nat.{mod-eq_of_lt, mul-le-mul_right}
use Rattle.std.proofs.Math.Pow.{pow_mono}
use Rattle.net_base.specs.AddressReading.{◌>>=◌, cut_at}
use Rattle.net_base.specs.Address6.{whole}
use Rattle.net_base.specs.Address6Reading.{group_of, group_and, groups_in, side_of, summed, in_front, sum_in, side_sum}

-- ---- sizes

one_more : (group value k : ℕ) → group < 2 ^ 16 → value < 2 ^ k → group * 2 ^ k + value < 2 ^ (16 + k)
one_more group value k h below =
    let size : 2 ^ (16 + k) ≡ 2 ^ 16 * 2 ^ k = pow-add 2 16 k in
    let most : group * 2 ^ k ≤ 65535 * 2 ^ k = mul-le-mul_right {m = group} {n = 65535} (2 ^ k) (omega (arith, h)) in
    omega (arith, size, most, below)

front_below : (group value k : ℕ) → group < 2 ^ 16 → value < 2 ^ (16 * k) → group * 2 ^ (16 * k) + value < 2 ^ (16 * (k + 1))
front_below group value k h below =
    let place : 16 + 16 * k ≡ 16 * (k + 1) = omega arith in
    subst (λ (n : ℕ). group * 2 ^ (16 * k) + value < 2 ^ n) place (one_more group value (16 * k) h below)

front_fits : (group value k : ℕ) → group < 2 ^ 16 → k ≤ 7 → value < 2 ^ (16 * k) → group * 2 ^ (16 * k) + value < 2 ^ 128
front_fits group value k h few below =
    let most : 2 ^ (16 * (k + 1)) ≤ 2 ^ 128 = pow_mono {i = 16 * (k + 1)} {j = 128} (omega (arith, few)) in
    let own = front_below group value k h below in
    omega (arith, own, most)

shifted_fits : (group k : ℕ) → group < 2 ^ 16 → k ≤ 7 → group * 2 ^ (16 * k) < 2 ^ 128
shifted_fits group k h few =
    let positive : 0 < 2 ^ (16 * k) = pow_pos (16 * k) in
    let own = front_fits group 0 k h few positive in
    omega (arith, own)

-- the groups of the front, f of them, at the top of eight, and those behind them, b at most k
both_fit : (front f k back b : ℕ) → f + k ≡ 8 → b ≤ k → front < 2 ^ (16 * f) → back < 2 ^ (16 * b) → front * 2 ^ (16 * k) + back < 2 ^ 128
both_fit front f k back b eight few front_fits back_fits =
    let room : (front + 1) * 2 ^ (16 * k) ≤ 2 ^ (16 * f) * 2 ^ (16 * k) = mul-le-mul_right {m = front + 1} {n = 2 ^ (16 * f)} (2 ^ (16 * k)) (omega (arith, front_fits)) in
    let places : 16 * f + 16 * k ≡ 128 = omega (arith, eight) in
    let size : 2 ^ (16 * f) * 2 ^ (16 * k) ≡ 2 ^ 128 = sym (pow-add 2 (16 * f) (16 * k)) ∙ ap (λ (n : ℕ). 2 ^ n) places in
    let small : 2 ^ (16 * b) ≤ 2 ^ (16 * k) = pow_mono {i = 16 * b} {j = 16 * k} (omega (arith, few)) in
    omega (arith, room, size, small, back_fits)

spread_fits : (front f back b : ℕ) → f ≤ 8 → f + b ≤ 7 → front < 2 ^ (16 * f) → back < 2 ^ (16 * b) → front * 2 ^ (16 * (8 - f)) + back < 2 ^ 128
spread_fits front f back b most few front_fits back_fits = both_fit front f (8 - f) back b (omega (arith, most)) (omega (arith, few)) front_fits back_fits

top_fits : (front f : ℕ) → f ≤ 7 → front < 2 ^ (16 * f) → front * 2 ^ (16 * (8 - f)) < 2 ^ 128
top_fits front f most front_fits =
    let own = both_fit front f (8 - f) 0 0 (omega (arith, most)) (omega arith) front_fits (omega arith) in
    omega (arith, own)

-- the same with the size as a shift finds it
shift_is : (n : ℕ) → n < 128 → 1 * 2 ^ n % 2 ^ 128 ≡ 2 ^ n
shift_is n h =
    let below : 2 ^ n < 2 ^ 128 = pow_below n 128 h in
    let one : 1 * 2 ^ n ≡ 2 ^ n = omega arith in
    ap (λ (m : ℕ). m % 2 ^ 128) one ∙ mod-eq_of_lt below

module _ (group value k : ℕ) (group_fits : group < 2 ^ 16) (few : k ≤ 7) where
  k_shift : 1 * 2 ^ (16 * k) % 2 ^ 128 ≡ 2 ^ (16 * k)
  k_shift = shift_is (16 * k) (omega (arith, few))

  pub product_fits : group * (1 * 2 ^ (16 * k) % 2 ^ 128) < 2 ^ 128
  product_fits = subst (λ (n : ℕ). group * n < 2 ^ 128) (sym k_shift) (shifted_fits group k group_fits few)

  pub sum_fits : value < 2 ^ (16 * k) → group * (1 * 2 ^ (16 * k) % 2 ^ 128) + value < 2 ^ 128
  sum_fits below = subst (λ (n : ℕ). group * n + value < 2 ^ 128) (sym k_shift) (front_fits group value k group_fits few below)

  pub sum_below : value < 2 ^ (16 * k) → group * (1 * 2 ^ (16 * k) % 2 ^ 128) + value < 2 ^ (16 * (k + 1))
  sum_below below = subst (λ (n : ℕ). group * n + value < 2 ^ (16 * (k + 1))) (sym k_shift) (front_below group value k group_fits below)

module _ (front f : ℕ) (some : 1 ≤ f) (most : f ≤ 7) (front_fits : front < 2 ^ (16 * f)) where
  f_shift : 1 * 2 ^ (16 * (8 - f)) % 2 ^ 128 ≡ 2 ^ (16 * (8 - f))
  f_shift = shift_is (16 * (8 - f)) (omega (arith, some))

  pub top_product_fits : front * (1 * 2 ^ (16 * (8 - f)) % 2 ^ 128) < 2 ^ 128
  top_product_fits = subst (λ (n : ℕ). front * n < 2 ^ 128) (sym f_shift) (top_fits front f most front_fits)

  pub top_sum_fits : (back b : ℕ) → f + b ≤ 7 → back < 2 ^ (16 * b) → front * (1 * 2 ^ (16 * (8 - f)) % 2 ^ 128) + back < 2 ^ 128
  top_sum_fits back b few back_fits = subst (λ (n : ℕ). front * n + back < 2 ^ 128) (sym f_shift) (spread_fits front f back b (omega (arith, most)) few front_fits back_fits)

-- no group is nothing
pub nothing_front : (front f back : ℕ) → f ≡ 0 → front < 2 ^ (16 * f) → front * 2 ^ (16 * (8 - f)) + back ≡ back
nothing_front front f back e h =
    let below : front < 1 = subst (λ (n : ℕ). front < 2 ^ (16 * n)) e h in
    let nothing : front ≡ 0 = omega (arith, below) in
    let all : 0 * 2 ^ (16 * (8 - f)) + back ≡ back = omega arith in
    ap (λ (n : ℕ). n * 2 ^ (16 * (8 - f)) + back) nothing ∙ all

-- ---- a group, and those behind it

one_read : (first : Option ℕ) → option_map summed (first >>= λ group. Some (group ∷ [])) ≡ (first >>= λ group. Some (in_front group (0, 0)))
unfolding in_front
one_read None = refl
one_read (Some group) = refl

more_read : (first : Option ℕ) (others : Option (List ℕ))
    → option_map summed (first >>= λ group. others >>= λ groups. Some (group ∷ groups)) ≡ (first >>= λ group. option_map summed others >>= λ sum. Some (in_front group sum))
unfolding in_front
more_read None others = refl
more_read (Some group) None = refl
more_read (Some group) (Some groups) = λ i. Some (group * 2 ^ (16 * length groups) + whole groups, sym (add-one (length groups)) i)

pub sum_none : (most : ℕ) (text : List ℕ) → most ≡ 0 → sum_in most text ≡ None
unfolding sum_in groups_in
sum_none zero text e = refl
sum_none (suc most) text e = absurd (omega (arith, e))

last_sum : (most : ℕ) (text : List ℕ) → cut_at 58 text ≡ None → sum_in (suc most) text ≡ (group_of text >>= λ group. Some (in_front group (0, 0)))
unfolding sum_in groups_in
last_sum most text cut = ap (λ r. option_map summed (group_and (groups_in most) text r)) cut ∙ one_read (group_of text)

next_sum : (most : ℕ) (text first rest : List ℕ) → cut_at 58 text ≡ Some (first, rest)
    → sum_in (suc most) text ≡ (group_of first >>= λ group. sum_in most rest >>= λ sum. Some (in_front group sum))
unfolding sum_in groups_in
next_sum most text first rest cut = ap (λ r. option_map summed (group_and (groups_in most) text r)) cut ∙ more_read (group_of first) (groups_in most rest)

pub sum_last : (most : ℕ) (text : List ℕ) → ¬ (most ≡ 0) → cut_at 58 text ≡ None → sum_in most text ≡ (group_of text >>= λ group. Some (in_front group (0, 0)))
sum_last zero text some cut = absurd (some refl)
sum_last (suc most) text some cut = last_sum most text cut

sum_next : (most : ℕ) (text first rest : List ℕ) → ¬ (most ≡ 0) → cut_at 58 text ≡ Some (first, rest)
    → sum_in most text ≡ (group_of first >>= λ group. sum_in (most - 1) rest >>= λ sum. Some (in_front group sum))
sum_next zero text first rest some cut = absurd (some refl)
sum_next (suc most) text first rest some cut =
    let less : suc most - 1 ≡ most = omega arith in
    next_sum most text first rest cut ∙ ap (λ (n : ℕ). group_of first >>= λ group. sum_in n rest >>= λ sum. Some (in_front group sum)) (sym less)

module _ (most : ℕ) (text first rest : List ℕ) (some : ¬ (most ≡ 0)) (cut : cut_at 58 text ≡ Some (first, rest)) where
  after : Option ℕ → Option (ℕ × ℕ)
  after read = read >>= λ group. sum_in (most - 1) rest >>= λ sum. Some (in_front group sum)

  pub first_unread : None ≡ group_of first → None ≡ sum_in most text
  unfolding after
  first_unread none = sym (sum_next most text first rest some cut ∙ ap after (sym none))

  module _ (group : ℕ) (read : Some group ≡ group_of first) where
    pub rest_unread : None ≡ sum_in (most - 1) rest → None ≡ sum_in most text
    unfolding after
    rest_unread none =
        sym (sum_next most text first rest some cut ∙ ap after (sym read) ∙ ap (λ r. r >>= λ sum. Some (in_front group sum)) (sym none))

    pub both_read : (sum : ℕ × ℕ) → Some sum ≡ sum_in (most - 1) rest → Some (in_front group sum) ≡ sum_in most text
    unfolding after
    both_read sum found =
        sym (sum_next most text first rest some cut ∙ ap after (sym read) ∙ ap (λ r. r >>= λ sum. Some (in_front group sum)) (sym found))

-- ---- a side of the gap

pub side_none : (text : List ℕ) → length text ≡ 0 → side_sum text ≡ Some (0, 0)
unfolding side_sum side_of
side_none [] h = refl
side_none (b ∷ text) h = absurd (omega (arith, h))

pub side_some : (text : List ℕ) → 1 ≤ length text → side_sum text ≡ sum_in 8 text
unfolding side_sum side_of sum_in
side_some [] h = absurd (omega (arith, h))
side_some (b ∷ text) h = refl
