-- What gathering gives, step by step, with the first refusal that is met.
use Rattle.std.specs.Prelude.{◌≡◌, ℕ, List, Option, Some, Result, Ok, Err}
use Rattle.fg_outside.specs.Contents.{Contents}
use Rattle.conf_gather.specs.declared.refused.LoadRefused.{LoadRefused}
use Rattle.conf_gather.specs.declared.refused.LoadRefused.TheVariants.{Read, Yaml, Conf, IncludeTwice, IncludeDepth, Absent, Memory}

infixl 10 ◌>>=◌
abbrev pub ◌>>=◌ : {A B : Type 0} → Result A LoadRefused → (A → Result B LoadRefused) → Result B LoadRefused
(Ok x) >>= f = f x
(Err e) >>= f = Err e

-- a refusal is the one that the definition gives, unless a read failed or memory ran out
abbrev pub Fails : {Y : Type 0} → LoadRefused → Result Y LoadRefused → Type 0
Fails Memory given = Unit {0}
Fails (Read name) given = Unit {0}
Fails (Yaml name fault) given = given ≡ Err (Yaml name fault)
Fails (Conf fault) given = given ≡ Err (Conf fault)
Fails (IncludeTwice name) given = given ≡ Err (IncludeTwice name)
Fails (IncludeDepth name) given = given ≡ Err (IncludeDepth name)
Fails (Absent name) given = given ≡ Err (Absent name)

-- an answer is what the definition gives, unless a read failed or memory ran out
abbrev pub Gives : {Y : Type 0} → Result Y LoadRefused → Result Y LoadRefused → Type 0
Gives (Ok x) given = given ≡ Ok x
Gives (Err e) given = Fails e given

-- The answer is what the definition gives for the files that are told, where they are.
abbrev pub GivesTold : {Y : Type 0} → Option Contents → Result Y LoadRefused → ((List ℕ → Option (List ℕ)) → Result Y LoadRefused) → Type 0
GivesTold contents answer given = (held : Contents) → contents ≡ Some held → Gives answer (given (held 0))

-- a text or a name decides, or memory ran out: no read failed, and no file is missing
abbrev pub IsWithin : LoadRefused → Type 0
IsWithin (Read name) = ⊥
IsWithin (Absent name) = ⊥
IsWithin _ = Unit {0}
