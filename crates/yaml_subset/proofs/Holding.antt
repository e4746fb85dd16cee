-- What holds of each answer that reading gives.
use Rattle.std.proofs.Common.{◌≡◌, Bool, true, false, Result, Ok, Err, refl, subst}
use Rattle.std.specs.Prelude.{if◌then◌else◌}
use Rattle.yaml_subset.specs.declared.fault.YamlCause.{YamlCause}
use Rattle.yaml_subset.specs.Gives.{◌>>=◌}

pub record Holds {A : Type 0} (P : A → Type 0) (r : Result A YamlCause) : Type 0 where
  pub at : (x : A) → r ≡ Ok x → P x

abbrev given : {A : Type 0} → A → Result A YamlCause
given x = Ok x

same_ok : {A : Type 0} (x y : A) → given x ≡ given y → x ≡ y
same_ok x y e = cc

pub holds_ok : {A : Type 0} (P : A → Type 0) (x : A) → P x → Holds P (Ok x)
holds_ok P x p = record { at = λ y e. subst P (same_ok x y e) p }

pub holds_err : {A : Type 0} (P : A → Type 0) (e : YamlCause) → Holds P (Err e)
holds_err P e = record { at = λ y h. absurd cc }

pub holds_bind : {A B : Type 0} (r : Result A YamlCause) (f : A → Result B YamlCause) (Q : A → Type 0) (P : B → Type 0) → Holds Q r → ((a : A) → Q a → Holds P (f a)) → Holds P (r >>= f)
holds_bind (Ok a) f Q P q k = k a (q.at a refl)
holds_bind (Err e) f Q P q k = record { at = λ y h. absurd cc }

pub holds_if : {A : Type 0} (b : Bool) (x y : Result A YamlCause) (P : A → Type 0) → (b ≡ true → Holds P x) → (b ≡ false → Holds P y) → Holds P (if b then x else y)
holds_if true x y P h k = h refl
holds_if false x y P h k = k refl
