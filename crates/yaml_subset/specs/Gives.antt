-- What reading gives from left to right, with the first fault that is met.
use Rattle.std.specs.Prelude.{◌≡◌, Result, Ok, Err}
use Rattle.yaml_subset.specs.declared.fault.YamlCause.{YamlCause}
use Rattle.yaml_subset.specs.declared.fault.LineRefused.{LineRefused}
use Rattle.yaml_subset.specs.declared.fault.LineRefused.TheVariants as refused

infixl 10 ◌>>=◌
abbrev pub ◌>>=◌ : {A B : Type 0} → Result A YamlCause → (A → Result B YamlCause) → Result B YamlCause
(Ok x) >>= f = f x
(Err e) >>= f = Err e

-- a refusal is the cause that reading gives, unless memory ran out
abbrev pub Fails : {Y : Type 0} → LineRefused → Result Y YamlCause → Type 0
Fails refused.Memory read = Unit {0}
Fails (refused.Cause cause) read = read ≡ Err cause

-- what a function returned, seen by view, is what reading gives, unless memory ran out
abbrev pub Gives : {X Y : Type 0} → (X → Y) → Result X LineRefused → Result Y YamlCause → Type 0
Gives view (Ok x) read = read ≡ Ok (view x)
Gives view (Err e) read = Fails e read
