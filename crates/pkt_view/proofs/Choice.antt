-- Either way of a choice.
use Rattle.std.proofs.Common.{◌≡◌, Bool, true, false, cond, ◌&&◌, ◌||◌, ◌⊎◌, inl, inr, refl}

-- what holds of both choices, each where the test went that way, holds of the choice
pub by_if : {A : Type 0} (P : A → Type 0) (b : Bool) (x y : A) → (b ≡ true → P x) → (b ≡ false → P y) → P (cond b x y)
by_if P true x y f g = f refl
by_if P false x y f g = g refl

pub and_left : (a b : Bool) → (a && b) ≡ true → a ≡ true
and_left true b e = refl
and_left false b e = e

pub and_right : (a b : Bool) → (a && b) ≡ true → b ≡ true
and_right true b e = e
and_right false b e = absurd (cc e)

pub or_cases : (a b : Bool) → (a || b) ≡ true → (a ≡ true) ⊎ (b ≡ true)
or_cases true b e = inl refl
or_cases false b e = inr e

pub and_both : (a b : Bool) → a ≡ true → b ≡ true → (a && b) ≡ true
and_both true b e f = f
and_both false b e f = e

pub if_true : {A : Type 0} (b : Bool) (x y : A) → b ≡ true → cond b x y ≡ x
if_true true x y e = refl
if_true false x y e = absurd (cc e)

pub if_false : {A : Type 0} (b : Bool) (x y : A) → b ≡ false → cond b x y ≡ y
if_false true x y e = absurd (cc e)
if_false false x y e = refl
