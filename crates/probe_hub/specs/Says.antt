-- Probes that are said on a hub.
use Rattle.std.specs.Prelude.{◌≡◌, ◌≢◌, List, [], ◌∷◌}
use Rattle.fg_outside.specs.declared.hub.Said.{Said}
use Rattle.fg_outside.specs.declared.hub.Said.TheVariants.{Memory}
use Rattle.fg_outside.specs.HubStep.{HubStep, said, Event, happening, saying, closing, Story}
use Rattle.probe_hub.specs.declared.probing.ProbeSaid.{ProbeSaid}

-- a story has just these probes, each with its answer
abbrev pub IsSaid : ProbeSaid → Event → Type 0
IsSaid probe (happening it) = ⊥
IsSaid probe (saying conn piece answer) = (conn ≡ probe.conn) × (piece ≡ probe.bytes) × (answer ≢ Memory)
IsSaid probe (closing conn) = ⊥

abbrev pub AreSaid : List ProbeSaid → List Event → Type 0
AreSaid [] [] = Unit {0}
AreSaid [] (event ∷ events) = ⊥
AreSaid (probe ∷ probes) [] = ⊥
AreSaid (probe ∷ probes) (event ∷ events) = IsSaid probe event × AreSaid probes events

-- the hub was told one, and wasn't out of memory for it
pub record SaysOne {H : Type 0} (may : H → HubStep → H → Type 0) (old : H) (probe : ProbeSaid) (new : H) : Type 0 where
  pub answer : Said
  pub told : answer ≢ Memory
  pub step : may old (said probe.conn probe.bytes answer) new

-- the hub was told all of them, and was out of memory for none
pub record SaysAll {H : Type 0} (may : H → HubStep → H → Type 0) (old : H) (probes : List ProbeSaid) (new : H) : Type 0 where
  pub events : List Event
  pub story : Story may old events new
  pub are : AreSaid probes events

-- a story has a front of these probes, whatever was answered
abbrev pub IsTold : ProbeSaid → Event → Type 0
IsTold probe (happening it) = ⊥
IsTold probe (saying conn piece answer) = (conn ≡ probe.conn) × (piece ≡ probe.bytes)
IsTold probe (closing conn) = ⊥

abbrev pub AreTold : (events : List Event) → List ProbeSaid → Type 0
AreTold [] probes = Unit {0}
AreTold (event ∷ events) [] = ⊥
AreTold (event ∷ events) (probe ∷ probes) = IsTold probe event × AreTold events probes

-- the hub was told a front of them
pub record SaysPart {H : Type 0} (may : H → HubStep → H → Type 0) (old : H) (probes : List ProbeSaid) (new : H) : Type 0 where
  pub events : List Event
  pub story : Story may old events new
  pub are : AreTold events probes
