-- Calls of a hub, as its clauses tell them.
use Rattle.std.specs.Prelude.{◌≡◌, ◌≢◌, ℕ, true, false, List}
use Rattle.fg_outside.specs.Counts.{Rose}
use Rattle.fg_outside.specs.HubStep.{HubStep, turned, said, closed}
use Rattle.fg_outside.specs.declared.hub.Hub as hub
use Rattle.fg_outside.specs.declared.hub.Turn.{Turn}
use Rattle.fg_outside.specs.declared.hub.Turn.TheVariants.{Failed}
use Rattle.fg_outside.specs.declared.hub.Said.{Said}
use Rattle.fg_outside.specs.declared.hub.Said.TheVariants as answers
use Rattle.law_calls.specs.declared.hubs.HubCall.{HubCall}
use Rattle.law_calls.specs.declared.hubs.HubCall.TheVariants as calls

pub record IsTurn {H : Type 0} (h : hub.Ghosts H) (old : H) (turn : Turn) (new : H) : Type 0 where
  pub step : h.may old (turned turn) new
  pub failed : turn ≡ Failed → Rose (h.faults old) (h.faults new)
  pub no_fault : turn ≢ Failed → h.faults new ≡ h.faults old

pub record IsSaying {H : Type 0} (h : hub.Ghosts H) (conn : ℕ) (piece : List ℕ) (old : H) (answer : Said) (new : H) : Type 0 where
  pub step : h.may old (said conn piece answer) new
  pub gone : answer ≡ answers.Gone → h.is_open new conn ≡ false
  pub taken : answer ≡ answers.Taken → h.is_open new conn ≡ true
  pub faults : h.faults new ≡ h.faults old

pub record IsClosing {H : Type 0} (h : hub.Ghosts H) (conn : ℕ) (old new : H) : Type 0 where
  pub step : h.may old (closed conn) new
  pub shut : h.is_open new conn ≡ false
  pub faults : h.faults new ≡ h.faults old

-- one call with its answer
abbrev pub IsCall : {H : Type 0} → hub.Ghosts H → H → HubStep → H → Type 0
IsCall h old (turned turn) new = IsTurn h old turn new
IsCall h old (said conn piece answer) new = IsSaying h conn piece old answer new
IsCall h old (closed conn) new = IsClosing h conn old new

-- ---- calls as values

-- the step is this call with some answer
abbrev pub Does : HubCall → HubStep → Type 0
Does calls.Turn (turned turn) = Unit {0}
Does (calls.Say conn piece) (said number bytes answer) = (number ≡ conn) × (bytes ≡ piece.now)
Does (calls.Close conn) (closed number) = number ≡ conn
Does call step = ⊥

-- a call was made, with one of its answers
pub record IsMade {H : Type 0} (h : hub.Ghosts H) (old : H) (call : HubCall) (new : H) : Type 0 where
  pub step : HubStep
  pub does : Does call step
  pub is : IsCall h old step new
