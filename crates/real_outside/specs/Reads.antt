-- What a read of the system's files does and comes to.
use Rattle.std.specs.Prelude.{◌≡◌, ◌≢◌, ℕ, ◌+◌, ◌-◌, ◌^◌, ◌<◌, ◌≤◌, min, List, Option, Some, None, Result, Ok, IfOk, OnErr, IfSome, IfNone, IsErrAnd, MatchResult}
use Rattle.std.specs.IoError.{error_kind}
use Rattle.std.specs.declared.io.Error.{Error}
use Rattle.std.specs.declared.io.ErrorKind.TheVariants.{NotFound}
use Rattle.fg_outside.specs.declared.fault.Failed.{Failed}
use Rattle.real_outside.specs.declared.opened.OpenAt.{OpenAt}
use Rattle.real_outside.specs.Opened.{WentOn, file_of, name_of, place_of}

-- A file that was just opened was moved on to a place, where it tells its own. At its front it stands already, and is left alone.
abbrev pub IsMovedTo : {F : Type 0} → (position : F → Option ℕ) → (place : ℕ) → (file moved : F) → Type 0
IsMovedTo position place file moved = (0 < place → IfSome (position file) (λ _. position moved ≡ Some place)) × (place ≡ 0 → moved ≡ file)

-- The file that a read of this name from this place goes on in: the one that was read last, where it stands there, and else one
-- that was opened anew and moved there.
pub record IsReady {F : Type 0} (position : F → Option ℕ) (last : Option (OpenAt F)) (name : List ℕ) (from : ℕ) (opened : OpenAt F) : Type 0 where
  pub named : name_of opened ≡ name
  pub placed : place_of opened ≡ from
  pub kept : IfSome last (λ before. name_of before ≡ name → place_of before ≡ from → opened ≡ before)
  pub anew : (last ≡ Some opened → ⊥) → (file : F) × IsMovedTo position from file (file_of opened)

-- A read of n bytes gave the next ones of that file, which stays open behind them.
pub record GaveBytes {F : Type 0} (position : F → Option ℕ) (remaining : F → Option (List ℕ)) (old new : Option (OpenAt F)) (name : List ℕ) (from : ℕ) (buf : List ℕ) (n : ℕ) : Type 0 where
  pub opened : OpenAt F
  pub after : OpenAt F
  pub ready : IsReady position old name from opened
  pub stays : new ≡ Some after
  pub named : name_of after ≡ name
  pub place : place_of after ≡ min (from + n) (2 ^ 64 - 1)
  pub bytes : WentOn remaining opened after n buf

-- so went a read: it gave bytes; or it failed, and no file is open
abbrev pub Went : {F : Type 0} → (position : F → Option ℕ) → (remaining : F → Option (List ℕ)) → (old new : Option (OpenAt F)) → (name : List ℕ) → (from : ℕ) → (buf : List ℕ) → Result ℕ Error → Type 0
Went position remaining old new name from buf read = MatchResult read (GaveBytes position remaining old new name from buf) (λ _. new ≡ None)

-- What a read comes to: its bytes where the place behind them can be counted, no file exactly where it said that there is none, else
-- a fault.
pub record ComesTo (read : Result ℕ Error) (from : ℕ) (answer : Result (Option ℕ) Failed) : Type 0 where
  pub some : IfOk answer (λ got. IfSome got (λ n. (read ≡ Ok n) × (from + n ≤ 2 ^ 64 - 1)))
  pub none : IfOk answer (λ got. IfNone got (IsErrAnd read (λ e. error_kind e ≡ NotFound)))
  pub failed : OnErr answer (MatchResult read (λ n. 2 ^ 64 - 1 < from + n) (λ e. error_kind e ≢ NotFound))

-- one read was made, and this is what it came to
abbrev pub ReadsOnce : {F : Type 0} → (position : F → Option ℕ) → (remaining : F → Option (List ℕ)) → (old new : Option (OpenAt F)) → (name : List ℕ) → (from : ℕ) → (buf : List ℕ) → Result (Option ℕ) Failed → Type 0
ReadsOnce position remaining old new name from buf answer = (read : Result ℕ Error) × Went position remaining old new name from buf read × ComesTo read from answer
