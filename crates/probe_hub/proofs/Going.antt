-- Single steps of a hub whose links are probed.
use Rattle.std.proofs.Common.{◌≡◌, ◌||◌, ◌∙◌, ℕ, Bool, true, false, List, [], ◌∷◌, Option, None, refl, sym, ap, subst, true≢false}
use Rattle.std.proofs.Math.Bool.{or-false}
use Rattle.fg_outside.specs.declared.hub.Happening.{Happening}
use Rattle.fg_outside.specs.declared.hub.Said.{Said}
use Rattle.fg_outside.specs.declared.hub.Said.TheVariants.{Taken, Gone, Memory}
use Rattle.fg_outside.specs.declared.hub.Turn.{Turn}
use Rattle.fg_outside.specs.declared.hub.Turn.TheVariants as turns
use Rattle.fg_outside.specs.HubStep.{HubStep, said, turned, Event, Leads, Story, start, next}
use Rattle.fg_outside.proofs.StoryLemmas.{Leads-append}
use Rattle.fg_links.specs.HubInMemory.{lacks_memory}
use Rattle.probe_hub.specs.declared.known.Known.{Known}
use Rattle.probe_hub.specs.declared.links.Links.{Links}
use Rattle.probe_hub.specs.declared.probe_hub.ProbeHub.{ProbeHub}
use Rattle.probe_hub.specs.declared.probing.ProbeSaid.{ProbeSaid}
use Rattle.probe_hub.specs.Known.{next_told, noted_in, taken}
use Rattle.probe_hub.specs.ProbeHub.{hub_in, is_spent, Calls, Does, GoesAlong, HasTold, LosesPiece}
use Rattle.probe_hub.specs.Says.{SaysAll, SaysPart}

module _ {H R : Type 0} (may : H → HubStep → H → Type 0) where
  -- the hub isn't called
  pub goes_still : (old new : ProbeHub H R) → hub_in new ≡ hub_in old → new.reader ≡ old.reader → GoesAlong may old new
  goes_still old new same reader = record { way = []; leads = subst (λ (h : H). Leads may (hub_in old) [] h) (sym same) start; reader = reader }

  -- the hub is called once
  pub goes_by : (old new : ProbeHub H R) (step : HubStep) → may (hub_in old) step (hub_in new) → new.reader ≡ old.reader → GoesAlong may old new
  goes_by old new step step_may reader = record { way = step ∷ []; leads = next [] old.hub step (hub_in new) start step_may; reader = reader }

-- a piece is answered as the hub answers
pub does_say : {H R : Type 0} (may : H → HubStep → H → Type 0) (links_of : R → List ℕ → Option Links) (old new : ProbeHub H R) (conn : ℕ) (piece : List ℕ) (answer : Said)
    → (answer ≡ Memory → ⊥) → Calls may (said conn piece answer) (noted_in conn piece) old new → Does may links_of old (said conn piece answer) new
does_say may links_of old new conn piece Taken other calls = calls
does_say may links_of old new conn piece Gone other calls = calls
does_say may links_of old new conn piece Memory other calls = absurd (other refl)

-- a spent one doesn't ask its hub
pub loses_still : {H R : Type 0} (may : H → HubStep → H → Type 0) (conn : ℕ) (piece : List ℕ) (old : ProbeHub H R) → is_spent old ≡ true → LosesPiece may conn piece old old
loses_still may conn piece old spent = record {
  hub = λ running. absurd (true≢false (sym spent ∙ running));
  no_hub = λ so. refl;
  went = ap (λ (b : Bool). record old { spent = b }) spent;
}

-- ---- whether memory ran out

-- a spent one stays spent, whatever is answered
pub spent_still : (spent : Bool) (step : HubStep) → spent ≡ true → spent ≡ (spent || lacks_memory step)
spent_still spent step is = rw is refl

-- a turn that is given by one that stays unspent isn't want of memory
pub spent_turn : {H R : Type 0} (may : H → HubStep → H → Type 0) (links_of : R → List ℕ → Option Links) (old new : ProbeHub H R) (turn : Turn)
    → is_spent old ≡ false → is_spent new ≡ is_spent old → Does may links_of old (turned turn) new → is_spent new ≡ (is_spent old || lacks_memory (turned turn))
spent_turn may links_of old new (turns.Happened it) running same does = same ∙ sym (or-false (is_spent old))
spent_turn may links_of old new turns.Done running same does = same ∙ sym (or-false (is_spent old))
spent_turn may links_of old new turns.Failed running same does = same ∙ sym (or-false (is_spent old))
spent_turn may links_of old new turns.Memory running same does = absurd (true≢false (sym does.spent ∙ same ∙ running))

-- nor is what is answered otherwise
pub spent_say : (spent : Bool) (conn : ℕ) (piece : List ℕ) (answer : Said) → (answer ≡ Memory → ⊥) → spent ≡ (spent || lacks_memory (said conn piece answer))
spent_say spent conn piece Taken other = sym (or-false spent)
spent_say spent conn piece Gone other = sym (or-false spent)
spent_say spent conn piece Memory other = absurd (other refl)

-- ---- a turn

module _ {H R : Type 0} (may : H → HubStep → H → Type 0) where
  -- the hub is called once, and then says probes, all or a part of them
  goes_on : (old new : ProbeHub H R) (mid : H) (step : HubStep) (events : List Event) → may (hub_in old) step mid → Story may mid events (hub_in new) → new.reader ≡ old.reader → GoesAlong may old new
  goes_on old new mid step events step_may told reader = record {
    way = step ∷ told.steps;
    leads = Leads-append may (hub_in old) mid (step ∷ []) (next [] old.hub step mid start step_may) told.steps (hub_in new) told.leads;
    reader = reader;
  }

  pub goes_saying : (old new : ProbeHub H R) (mid : H) (step : HubStep) (probes : List ProbeSaid) → may (hub_in old) step mid → SaysAll may mid probes (hub_in new) → new.reader ≡ old.reader → GoesAlong may old new
  goes_saying old new mid step probes step_may says reader = goes_on old new mid step says.events step_may says.story reader

  pub goes_saying_part : (old new : ProbeHub H R) (mid : H) (step : HubStep) (probes : List ProbeSaid) → may (hub_in old) step mid → SaysPart may mid probes (hub_in new) → new.reader ≡ old.reader → GoesAlong may old new
  goes_saying_part old new mid step probes step_may says reader = goes_on old new mid step says.events step_may says.story reader

-- nothing was to be told
pub none_told : (k taken_k told : Known) → taken_k ≡ taken k → (told, None) ≡ next_told taken_k → HasTold k × (told ≡ (next_told (taken k)).0)
none_told k taken_k told is none =
    let all : (told, None) ≡ next_told (taken k) = none ∙ ap next_told is in
    (sym (ap (λ (r : Known × Option Happening). r.1) all), ap (λ (r : Known × Option Happening). r.0) all)
