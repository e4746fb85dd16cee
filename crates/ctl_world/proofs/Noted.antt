-- From which numbers on connections stand, where a number is noted or left.
use Rattle.std.proofs.Common.{◌≡◌, ℕ, ◌==◌, ◌≤◌, Bool, true, false, cond, Option, Some, None, inl, inr, refl, sym, ap, ◌∙◌, arith, eq-eqb, nat_le}
use Rattle.std.specs.Option.{option_map_or}
use Rattle.std.proofs.lemmas.Bool.{cases_Bool, eqb-true, false≢true}
use Rattle.std.proofs.lemmas.Bool.Decides.{nat_tests}
use Rattle.net_base.specs.declared.numbers.DpId.{DpId}
use Rattle.indexmap.specs.IndexMap.{IndexMap, get, Updates, UpdatesBy}
use Rattle.ctl_world.specs.Firsts.{begins, first_number, is_dp}

pub same_dp : (a b : DpId) → (a.0 == b.0) ≡ true → a ≡ b
same_dp a b e = let same = eqb-true a.0 b.0 e in λ i. record { 0 = same i }

pub le_true : (a b : ℕ) → a ≤ b → nat_le a b ≡ true
le_true a b less = grind (arith, nat_tests)

pub le_is : (a b : ℕ) → nat_le a b ≡ true → a ≤ b
le_is a b is = grind (arith, nat_tests)

-- a number is there, and is no greater than this one
abbrev is_from : Option ℕ → ℕ → Bool
is_from o number = option_map_or (λ n. nat_le n number) o false

between : (o : Option ℕ) (number n : ℕ) → is_from o number ≡ false → is_from o n ≡ true → nat_le number n ≡ true
between None number n off is = absurd (false≢true is)
between (Some m) number n off is = grind (arith, nat_tests)

later : (o : Option ℕ) (m n : ℕ) → m ≤ n → is_from o m ≡ true → is_from o n ≡ true
later None m n less is = is
later (Some k) m n less is = le_true k n (omega (arith, less, le_is k m is))

pub begins_later : {S : Type 0} (firsts : Option (IndexMap DpId ℕ S)) (dp : DpId) (m n : ℕ) → m ≤ n → begins firsts dp m ≡ true → begins firsts dp n ≡ true
begins_later firsts dp m n less is = later (first_number firsts dp) m n less is

pub begins_none : (S : Type 0) (dp : DpId) (n : ℕ) → begins {S = S} None dp n ≡ true
begins_none S dp n = le_true 0 n (omega arith)

module _ {S : Type 0} (old new : IndexMap DpId ℕ S) (dp : DpId) where
  module _ (number : ℕ) (up : Updates is_dp old new dp (Some number)) where
    pub put_keeps : begins (Some old) dp number ≡ false → (d : DpId) (n : ℕ) → begins (Some old) d n ≡ true → begins (Some new) d n ≡ true
    put_keeps off d n is =
        elim (cases_Bool (is_dp dp d)) [
          | inl same ↦
              let none : is_from (get is_dp old d) number ≡ false = ap (λ k. is_from (get is_dp old k) number) (sym (same_dp dp d same)) ∙ off in
              ap (λ o. is_from o n) (up.0 d ∙ ap (λ b. cond b (Some number) (get is_dp old d)) same) ∙ between (get is_dp old d) number n none is
          | inr other ↦ ap (λ o. is_from o n) (up.0 d ∙ ap (λ b. cond b (Some number) (get is_dp old d)) other) ∙ is
        ]

    pub put_notes : begins (Some new) dp number ≡ true
    put_notes =
        ap (λ o. is_from o number) (up.0 dp ∙ ap (λ b. cond b (Some number) (get is_dp old dp)) (eq-eqb dp.0 dp.0 refl)) ∙ le_true number number (omega arith)

  pub left_keeps : UpdatesBy is_dp (is_dp dp) old new None → (d : DpId) (n : ℕ) → (dp.0 == d.0) ≡ false → begins (Some old) d n ≡ true → begins (Some new) d n ≡ true
  left_keeps up d n other is = ap (λ o. is_from o n) (up.0 d ∙ ap (λ b. cond b None (get is_dp old d)) other) ∙ is
