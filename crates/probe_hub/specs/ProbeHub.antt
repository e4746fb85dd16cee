-- What callers see of a hub whose links are probed, and the steps that it may take.
use Rattle.std.specs.Prelude.{◌≡◌, ◌⊎◌, ◌||◌, ℕ, Bool, true, false, List, Option, Some, None}
use Rattle.fg_outside.specs.declared.hub.Happening.{Happening}
use Rattle.fg_outside.specs.declared.hub.Turn.{Turn}
use Rattle.fg_outside.specs.declared.hub.Turn.TheVariants.{Happened, Done, Failed, Memory}
use Rattle.fg_outside.specs.declared.hub.Said.TheVariants as answers
use Rattle.fg_outside.specs.HubStep.{HubStep, turned, said, closed, Leads}
use Rattle.fg_links.specs.HubInMemory.{lacks_memory}
use Rattle.probe_hub.specs.declared.known.Known.{Known}
use Rattle.probe_hub.specs.declared.links.Links.{Links}
use Rattle.probe_hub.specs.declared.probe_hub.ProbeHub.{ProbeHub}
use Rattle.probe_hub.specs.declared.probing.ProbeSaid.{ProbeSaid}
use Rattle.probe_hub.specs.Known.{after, gone, next_told, noted_in, probes, taken}
use Rattle.probe_hub.specs.Says.{SaysAll, SaysPart}

-- the hub that it passes on
abbrev pub hub_in : {H R : Type 0} → ProbeHub H R → H
hub_in it = it.hub

-- what reads configurations
abbrev pub reader_in : {H R : Type 0} → ProbeHub H R → R
reader_in it = it.reader

-- what it knows
abbrev pub known_in : {H R : Type 0} → ProbeHub H R → Known
known_in it = it.known

-- memory ran out in it
abbrev pub is_spent : {H R : Type 0} → ProbeHub H R → Bool
is_spent it = it.spent

-- ---- its steps

-- something is told before anything else happens
pub record TellsFirst {H R : Type 0} (old : ProbeHub H R) (it : Happening) (new : ProbeHub H R) : Type 0 where
  pub told : (known_in new, Some it) ≡ next_told (taken (known_in old))
  pub hub : hub_in new ≡ hub_in old
  pub reader : reader_in new ≡ reader_in old

-- nothing is to be told before anything else happens
abbrev pub HasTold : Known → Type 0
HasTold k = (next_told (taken k)).1 ≡ None

-- what the hub gave is taken in, with the probes that come with it
pub record PassesOn {H R : Type 0} (may : H → HubStep → H → Type 0) (links_of : R → List ℕ → Option Links) (old : ProbeHub H R) (it given : Happening) (new : ProbeHub H R) : Type 0 where
  pub known : (known_in new, given) ≡ after (links_of (reader_in old)) it (known_in old)
  pub says : SaysAll may (hub_in old) (probes (known_in new)) (hub_in new)
  pub reader : reader_in new ≡ reader_in old

-- what happens at the hub is passed on
pub record Passes {H R : Type 0} (may : H → HubStep → H → Type 0) (links_of : R → List ℕ → Option Links) (old : ProbeHub H R) (given : Happening) (new : ProbeHub H R) : Type 0 where
  pub has_told : HasTold (known_in old)
  pub it : Happening
  pub mid : H
  pub hub : may (hub_in old) (turned (Happened it)) mid
  pub known : (known_in new, given) ≡ after (links_of (reader_in old)) it (next_told (taken (known_in old))).0
  pub says : SaysAll may mid (probes (known_in new)) (hub_in new)
  pub reader : reader_in new ≡ reader_in old

-- the hub gives this answer in place of a happening
pub record EndsWith {H R : Type 0} (may : H → HubStep → H → Type 0) (answer : Turn) (old new : ProbeHub H R) : Type 0 where
  pub has_told : HasTold (known_in old)
  pub hub : may (hub_in old) (turned answer) (hub_in new)
  pub known : known_in new ≡ (next_told (taken (known_in old))).0
  pub reader : reader_in new ≡ reader_in old

-- the hub is called in the same way
pub record Calls {H R : Type 0} (may : H → HubStep → H → Type 0) (step : HubStep) (takes : Known → Known) (old new : ProbeHub H R) : Type 0 where
  pub hub : may (hub_in old) step (hub_in new)
  pub known : known_in new ≡ takes (known_in old)
  pub reader : reader_in new ≡ reader_in old

-- the probes that come with what happens at the hub
abbrev pub probes_with : {H R : Type 0} → (R → List ℕ → Option Links) → ProbeHub H R → Happening → List ProbeSaid
probes_with links_of it happened = probes (after (links_of (reader_in it)) happened (next_told (taken (known_in it))).0).0

-- what the hub was asked where memory ran out in a turn: nothing; or its turn was answered so; or it gave a happening, which isn't
-- passed on, and was told a front of the probes that come with it
pub data IsAsked {H R : Type 0} (may : H → HubStep → H → Type 0) (links_of : R → List ℕ → Option Links) (old : ProbeHub H R) (new : H) : Type 0 where
  nothing : new ≡ hub_in old → IsAsked may links_of old new
  in_vain : may (hub_in old) (turned Memory) new → IsAsked may links_of old new
  lost : (it : Happening) (mid : H) → may (hub_in old) (turned (Happened it)) mid → SaysPart may mid (probes_with links_of old it) new → IsAsked may links_of old new

-- memory ran out in a turn
pub record LosesTurn {H R : Type 0} (may : H → HubStep → H → Type 0) (links_of : R → List ℕ → Option Links) (old new : ProbeHub H R) : Type 0 where
  pub spent : is_spent new ≡ true
  pub reader : reader_in new ≡ reader_in old
  pub hub : IsAsked may links_of old (hub_in new)

-- Memory ran out for a piece: the hub, called in the same way, had none; or it ran out before, and the hub isn't called.
pub record LosesPiece {H R : Type 0} (may : H → HubStep → H → Type 0) (conn : ℕ) (piece : List ℕ) (old new : ProbeHub H R) : Type 0 where
  pub hub : is_spent old ≡ false → may (hub_in old) (said conn piece answers.Memory) (hub_in new)
  pub no_hub : is_spent old ≡ true → hub_in new ≡ hub_in old
  pub went : new ≡ record old { hub = hub_in new; spent = true }

-- what a call does, by its answer
abbrev pub Does : {H R : Type 0} → (H → HubStep → H → Type 0) → (R → List ℕ → Option Links) → ProbeHub H R → HubStep → ProbeHub H R → Type 0
Does may links_of old (turned (Happened it)) new = TellsFirst old it new ⊎ Passes may links_of old it new
Does may links_of old (turned Done) new = EndsWith may Done old new
Does may links_of old (turned Failed) new = EndsWith may Failed old new
Does may links_of old (turned Memory) new = LosesTurn may links_of old new
Does may links_of old (said conn piece answers.Taken) new = Calls may (said conn piece answers.Taken) (noted_in conn piece) old new
Does may links_of old (said conn piece answers.Gone) new = Calls may (said conn piece answers.Gone) (noted_in conn piece) old new
Does may links_of old (said conn piece answers.Memory) new = LosesPiece may conn piece old new
Does may links_of old (closed conn) new = Calls may (closed conn) (gone conn) old new

-- whatever a call does, the hub went by steps that it may take
pub record GoesAlong {H R : Type 0} (may : H → HubStep → H → Type 0) (old new : ProbeHub H R) : Type 0 where
  pub way : List HubStep
  pub leads : Leads may (hub_in old) way (hub_in new)
  pub reader : reader_in new ≡ reader_in old

-- a step that it may take: memory ran out in it exactly where an answer says so, and a spent one stays so
pub record ProbeStep {H R : Type 0} (may : H → HubStep → H → Type 0) (links_of : R → List ℕ → Option Links) (old : ProbeHub H R) (step : HubStep) (new : ProbeHub H R) : Type 0 where
  pub does : Does may links_of old step new
  pub along : GoesAlong may old new
  pub running : is_spent new ≡ false → is_spent old ≡ false
  pub spends : is_spent new ≡ (is_spent old || lacks_memory step)
