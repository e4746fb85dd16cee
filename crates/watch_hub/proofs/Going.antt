-- Single steps of a watch.
use Rattle.std.proofs.Common.{◌≡◌, ◌≤◌, ◌||◌, ◌∙◌, ℕ, Bool, true, false, List, [], ◌∷◌, Option, refl, sym, ap, subst, arith, true≢false}
use Rattle.std.proofs.Math.Bool.{or-false}
use Rattle.std.specs.Prelude.{OnSome}
use Rattle.fg_outside.specs.declared.hub.Said.{Said}
use Rattle.fg_outside.specs.declared.hub.Said.TheVariants.{Taken, Gone, Memory}
use Rattle.fg_outside.specs.Contents.{Contents, refreshed}
use Rattle.fg_outside.specs.Counts.{Rose}
use Rattle.fg_outside.specs.declared.hub.Turn.{Turn}
use Rattle.fg_outside.specs.declared.hub.Turn.TheVariants as turns
use Rattle.fg_outside.specs.HubStep.{HubStep, said, turned, start, next}
use Rattle.fg_links.specs.HubInMemory.{lacks_memory}
use Rattle.watch_hub.specs.declared.file_watch.FileWatch.{FileWatch}
use Rattle.watch_hub.specs.declared.watch.Watch.{Watch}
use Rattle.watch_hub.specs.FileWatch.{Keeps, Looks}
use Rattle.watch_hub.specs.Look.{Finds}
use Rattle.watch_hub.specs.Watch.{hub_in, is_spent, Calls, Does, GoesAlong, LosesPiece}
use Rattle.watch_hub.specs.Watched.{differs, last_after}

module _ {F : Type 0} (faults absences : F → ℕ) where
  pub keeps_same : (file : FileWatch F) → Keeps faults absences file file
  keeps_same file = record { name = refl; every = refl; counted_faults = omega arith; counted_absences = omega arith }

  pub keeps_as : (old new : FileWatch F) → new ≡ old → Keeps faults absences old new
  keeps_as old new is = subst (λ (f : FileWatch F). Keeps faults absences old f) (sym is) (keeps_same old)

  pub keeps_told : (old new : FileWatch F) → new ≡ record old { waits = false } → Keeps faults absences old new
  keeps_told old new is =
      subst (λ (f : FileWatch F). Keeps faults absences old f) (sym is) (record { name = refl; every = refl; counted_faults = omega arith; counted_absences = omega arith })

-- the file once a look came, whose text was found
abbrev pub found_by : {F : Type 0} → FileWatch F → (files : F) → (moment : ℕ) → Option (List ℕ) → FileWatch F
found_by old files moment text = record old { files = files; looked = moment; last = last_after old.last text; waits = differs old.last text }

module _ {F : Type 0} (contents : F → Option Contents) (faults absences : F → ℕ) (old new : FileWatch F) (files : F) (moment : ℕ) (text : Option (List ℕ)) (is : new ≡ found_by old files moment text) where
  pub looks_found : (name : List ℕ) → name ≡ old.name → Finds (contents files) name text (Rose (faults old.files) (faults files)) (Rose (absences old.files) (absences files)) → OnSome text (faults files ≡ faults old.files)
      → contents files ≡ refreshed (contents old.files) → Looks contents faults absences moment old new
  looks_found name same finds no_fault refreshes =
      subst (λ (f : FileWatch F). Looks contents faults absences moment old f) (sym is)
      (record { text = text; finds = finds_same; no_fault = no_fault; refreshes = refreshes; looked = refl; last = refl; waits = refl })
    where
      finds_same : Finds (contents files) old.name text (Rose (faults old.files) (faults files)) (Rose (absences old.files) (absences files))
      finds_same = subst (λ (n : List ℕ). Finds (contents files) n text (Rose (faults old.files) (faults files)) (Rose (absences old.files) (absences files))) same finds

  pub keeps_found : faults old.files ≤ faults files → absences old.files ≤ absences files → Keeps faults absences old new
  keeps_found more_faults more_absences =
      subst (λ (f : FileWatch F). Keeps faults absences old f) (sym is) (record { name = refl; every = refl; counted_faults = more_faults; counted_absences = more_absences })

module _ {H F : Type 0} (may : H → HubStep → H → Type 0) (faults absences : F → ℕ) where
  -- the hub isn't called
  pub goes_still : (old : Watch H F) (file : FileWatch F) (spent : Bool) → Keeps faults absences old.file file → GoesAlong may faults absences old (record { hub = old.hub; file = file; spent = spent })
  goes_still old file spent keeps = record { way = []; leads = start; file = keeps }

  -- the hub is called once
  pub goes_by : (old : Watch H F) (hub : H) (file : FileWatch F) (spent : Bool) (step : HubStep) → may (hub_in old) step hub → Keeps faults absences old.file file → GoesAlong may faults absences old (record { hub = hub; file = file; spent = spent })
  goes_by old hub file spent step step_may keeps = record { way = step ∷ []; leads = next [] old.hub step hub start step_may; file = keeps }

-- a piece is answered as the hub answers
pub does_say : {H F : Type 0} (may : H → HubStep → H → Type 0) (contents : F → Option Contents) (faults absences : F → ℕ) (old new : Watch H F) (conn : ℕ) (piece : List ℕ) (answer : Said)
    → (answer ≡ Memory → ⊥) → Calls may (said conn piece answer) old new → Does may contents faults absences old (said conn piece answer) new
does_say may contents faults absences old new conn piece Taken other calls = calls
does_say may contents faults absences old new conn piece Gone other calls = calls
does_say may contents faults absences old new conn piece Memory other calls = absurd (other refl)

-- a spent watch doesn't ask its hub
pub loses_still : {H F : Type 0} (may : H → HubStep → H → Type 0) (conn : ℕ) (piece : List ℕ) (old : Watch H F) → is_spent old ≡ true → LosesPiece may conn piece old old
loses_still may conn piece old spent = record {
  hub = λ running. absurd (true≢false (sym spent ∙ running));
  no_hub = λ so. refl;
  went = ap (λ (b : Bool). record old { spent = b }) spent;
}

-- ---- whether memory ran out

-- a spent watch stays spent, whatever is answered
pub spent_still : (spent : Bool) (step : HubStep) → spent ≡ true → spent ≡ (spent || lacks_memory step)
spent_still spent step is = rw is refl

-- a turn that is given by a watch that stays unspent isn't want of memory
pub spent_turn : {H F : Type 0} (may : H → HubStep → H → Type 0) (contents : F → Option Contents) (faults absences : F → ℕ) (old new : Watch H F) (turn : Turn)
    → is_spent old ≡ false → is_spent new ≡ is_spent old → Does may contents faults absences old (turned turn) new → is_spent new ≡ (is_spent old || lacks_memory (turned turn))
spent_turn may contents faults absences old new (turns.Happened it) running same does = same ∙ sym (or-false (is_spent old))
spent_turn may contents faults absences old new turns.Done running same does = same ∙ sym (or-false (is_spent old))
spent_turn may contents faults absences old new turns.Failed running same does = same ∙ sym (or-false (is_spent old))
spent_turn may contents faults absences old new turns.Memory running same does = absurd (true≢false (sym does.spent ∙ same ∙ running))

-- nor is what is answered otherwise
pub spent_say : (spent : Bool) (conn : ℕ) (piece : List ℕ) (answer : Said) → (answer ≡ Memory → ⊥) → spent ≡ (spent || lacks_memory (said conn piece answer))
spent_say spent conn piece Taken other = sym (or-false spent)
spent_say spent conn piece Gone other = sym (or-false spent)
spent_say spent conn piece Memory other = absurd (other refl)
