-- What the calls answer.
use Rattle.std.specs.Prelude.{◌≡◌, ℕ, Result, Ok, Err}
use Rattle.of_wire.specs.declared.fault.PartFault.{PartFault}
use Rattle.of_wire.specs.declared.fault.PartCause.{PartCause}
use Rattle.of_wire.specs.declared.fault.PartRefused.{PartRefused}
use Rattle.of_wire.specs.declared.fault.PartRefused.TheVariants.{At, Memory}

-- what a call answered is this value or this fault, unless memory ran out
abbrev pub Fails : {Y : Type 0} → PartRefused → Result Y PartFault → Type 0
Fails Memory read = Unit {0}
Fails (At f) read = read ≡ Err f

abbrev pub Gives : {X Y : Type 0} → (X → Y) → Result X PartRefused → Result Y PartFault → Type 0
Gives view (Ok x) read = read ≡ Ok (view x)
Gives view (Err e) read = Fails e read

abbrev pub fault_at : ℕ → PartCause → PartFault
fault_at at cause = record { at = at; cause = cause }
