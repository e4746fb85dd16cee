-- What an answer of Ok says of the tests before it.
use Rattle.std.proofs.Common.{◌≡◌, Bool, true, false, cond, Result, Ok, Err, refl, ap, ◌∙◌}
use Rattle.of_wire.specs.declared.fault.PartFault.{PartFault}
use Rattle.of_wire.specs.Reading.{◌>>=◌}

pub bind_from : {A B : Type 0} (r : Result A PartFault) (f : A → Result B PartFault) (x : A) (y : B) → r ≡ Ok x → f x ≡ Ok y → (r >>= f) ≡ Ok y
bind_from r f x y e g = ap (λ (q : Result _ PartFault). q >>= f) e ∙ g

-- a test that refuses has failed
pub passed : {A D : Type 0} (b : Bool) (d : D) (r : Result A D) (y : A) → cond b (Err d) r ≡ Ok y → (b ≡ false) × (r ≡ Ok y)
passed true d r y e = absurd (cc)
passed false d r y e = (refl, e)

pub pass : {A D : Type 0} (b : Bool) (d : D) (r : Result A D) → b ≡ false → cond b (Err d) r ≡ r
pass b d r e = rw e refl

pub one_answer : {A D : Type 0} (r : Result A D) (x y : A) → r ≡ Ok x → r ≡ Ok y → x ≡ y
one_answer r x y p q = cc
