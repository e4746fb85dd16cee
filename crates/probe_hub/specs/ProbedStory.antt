-- The story of a hub whose links are probed, in terms of its hub's.
use Rattle.std.specs.Prelude.{◌≡◌, ℕ, List, [], ◌∷◌, ◌++◌, Option, Some}
use Rattle.fg_outside.specs.declared.hub.Happening.{Happening}
use Rattle.fg_outside.specs.declared.hub.Said.{Said}
use Rattle.fg_outside.specs.HubStep.{HubStep, Event, happening, saying, closing, Story}
use Rattle.probe_hub.specs.declared.known.Known.{Known}
use Rattle.probe_hub.specs.declared.links.Links.{Links}
use Rattle.probe_hub.specs.declared.probe_hub.ProbeHub.{ProbeHub}
use Rattle.probe_hub.specs.Known.{after, gone, next_told, noted_in, probes, taken}
use Rattle.probe_hub.specs.ProbeHub.{HasTold, hub_in, known_in, probes_with, reader_in}
use Rattle.probe_hub.specs.Says.{AreSaid, AreTold}

-- Where this was known at first, the hub gives and is told one story, and its user gets and tells the other, behind which that is
-- known. What came on connections is taken in once what happened was answered.
pub data Probed (read : List ℕ → Option Links) (from : Known) : (hub user : List Event) → Known → Type 0 where
  start : Probed read from [] [] from
  -- before anything else happens the user gets what is due on a connection, and then what follows a cut
  first : (hub user : List Event) (k new : Known) (it : Happening) → Probed read from hub user k → next_told (taken k) ≡ (new, Some it)
      → Probed read from hub (user ++ happening it ∷ []) new
  -- else what happens at the hub, or of bytes those up to a cut; the hub is told the probes that come with it
  passes : (hub user said : List Event) (k new : Known) (it given : Happening) → Probed read from hub user k → HasTold k
      → after read it (next_told (taken k)).0 ≡ (new, given) → AreSaid (probes new) said
      → Probed read from (hub ++ happening it ∷ said) (user ++ happening given ∷ []) new
  -- a turn may give no happening
  waits : (hub user : List Event) (k : Known) → Probed read from hub user k → HasTold k → Probed read from hub user (next_told (taken k)).0
  -- what the user says and closes, the hub is told
  says : (hub user : List Event) (k : Known) (conn : ℕ) (piece : List ℕ) (answer : Said) → Probed read from hub user k
      → Probed read from (hub ++ saying conn piece answer ∷ []) (user ++ saying conn piece answer ∷ []) (noted_in conn piece k)
  closes : (hub user : List Event) (k : Known) (conn : ℕ) → Probed read from hub user k
      → Probed read from (hub ++ closing conn ∷ []) (user ++ closing conn ∷ []) (gone conn k)

-- Between two states of it, its story is such a story of its hub's.
pub record ProbedStory {H R : Type 0} (may : H → HubStep → H → Type 0) (links_of : R → List ℕ → Option Links) (from : ProbeHub H R) (events : List Event) (to : ProbeHub H R) : Type 0 where
  pub reader : reader_in to ≡ reader_in from
  pub hub_events : List Event
  pub hub : Story may (hub_in from) hub_events (hub_in to)
  pub probed : Probed (links_of (reader_in from)) (known_in from) hub_events events (known_in to)

-- What a hub gave and was told that its user doesn't know of: nothing, or one happening and a front of the probes that come with it.
abbrev pub AreLost : {H R : Type 0} → (R → List ℕ → Option Links) → ProbeHub H R → List Event → Type 0
AreLost links_of it [] = Unit {0}
AreLost links_of it (happening lost ∷ said) = AreTold said (probes_with links_of it lost)
AreLost links_of it (saying conn piece answer ∷ events) = ⊥
AreLost links_of it (closing conn ∷ events) = ⊥

-- The story of one in whose last call memory may have run out: it is such a story up to a state of it, behind which its hub gave at
-- most one happening, which was lost.
pub record ProbedPart {H R : Type 0} (may : H → HubStep → H → Type 0) (links_of : R → List ℕ → Option Links) (from : ProbeHub H R) (events : List Event) (to : ProbeHub H R) : Type 0 where
  pub until : ProbeHub H R
  pub probed : ProbedStory may links_of from events until
  pub lost : List Event
  pub hub : Story may (hub_in until) lost (hub_in to)
  pub are : AreLost links_of until lost
