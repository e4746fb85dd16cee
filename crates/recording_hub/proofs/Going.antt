-- Single steps of a hub whose happenings are recorded.
use Rattle.std.proofs.Common.{◌≡◌, ◌≤◌, ℕ, Bool, true, false, List, [], ◌∷◌, Option, refl, sym, ◌∙◌, ap, subst, arith, true≢false}
use Rattle.fg_outside.specs.declared.hub.Said.{Said}
use Rattle.fg_outside.specs.declared.hub.Said.TheVariants.{Taken, Gone, Memory}
use Rattle.fg_outside.specs.declared.hub.Turn.TheVariants.{Failed}
use Rattle.fg_outside.specs.HubStep.{HubStep, turned, said, Leads, start, next}
use Rattle.recording_hub.specs.declared.recording_hub.RecordingHub.{RecordingHub}
use Rattle.recording_hub.specs.declared.recorder.Recorder.{Recorder}
use Rattle.recording_hub.specs.Recorder.{Rests}
use Rattle.recording_hub.specs.RecordingHub.{hub_in, sink_in, has_failed, is_spent, faults_of, GoesAlong, Counts, Does, RecordingStep}

module _ {H S : Type 0} (may : H → HubStep → H → Type 0) where
  -- the hub isn't called
  pub goes_still : (old new : RecordingHub H S) → hub_in new ≡ hub_in old → GoesAlong may old new
  goes_still old new same = record { way = []; leads = subst (λ (h : H). Leads may (hub_in old) [] h) (sym same) start }

  -- it is called once
  pub goes_by : (old new : RecordingHub H S) (step : HubStep) (hub : H) → hub_in new ≡ hub → may (hub_in old) step hub → GoesAlong may old new
  goes_by old new step hub same step_may = record { way = step ∷ []; leads = subst (λ (h : H). Leads may (hub_in old) (step ∷ []) h) (sym same) (next [] (hub_in old) step hub start step_may) }

-- the count doesn't fall
pub counts_on : {H S : Type 0} (faults : H → ℕ) (old new : RecordingHub H S) (hub : H) → hub_in new ≡ hub → faults (hub_in old) ≤ faults hub → old.failures ≤ new.failures → faults_of faults old ≤ faults_of faults new
counts_on faults old new hub same more_faults more_failures = omega (arith, more_faults, more_failures, ap (λ h. faults h) same)

-- a call behind which neither the hub's faults nor its own are more
pub counts_same : {H S : Type 0} (hub_faults : H → ℕ) (faults : S → ℕ) (old new : RecordingHub H S) (step : HubStep) → hub_faults (hub_in new) ≡ hub_faults (hub_in old) → new.failures ≡ old.failures → faults (sink_in old) ≤ faults (sink_in new)
    → Counts hub_faults faults old step new
counts_same hub_faults faults old new step same own sink = record {
  answered = λ other. same;
  broken = λ broke. same;
  own = λ whole. own;
  hub = omega (arith, same);
  sink = sink;
}

-- a turn that fails since the recording is broken
pub counts_failed : {H S : Type 0} (hub_faults : H → ℕ) (faults : S → ℕ) (old new : RecordingHub H S) (step : HubStep) → hub_faults (hub_in new) ≡ hub_faults (hub_in old) → has_failed new ≡ true → faults (sink_in old) ≤ faults (sink_in new)
    → Counts hub_faults faults old step new
counts_failed hub_faults faults old new step same broke sink = record {
  answered = λ other. same;
  broken = λ is. same;
  own = λ whole. absurd (true≢false (sym broke ∙ whole));
  hub = omega (arith, same);
  sink = sink;
}

-- the hub's turn failed
pub counts_hub : {H S : Type 0} (hub_faults : H → ℕ) (faults : S → ℕ) (old new : RecordingHub H S) → hub_faults (hub_in old) ≤ hub_faults (hub_in new) → has_failed new ≡ false → new.failures ≡ old.failures → faults (sink_in old) ≤ faults (sink_in new)
    → Counts hub_faults faults old (turned Failed) new
counts_hub hub_faults faults old new more whole own sink = record {
  answered = λ other. absurd (other refl);
  broken = λ broke. absurd (true≢false (sym broke ∙ whole));
  own = λ is. own;
  hub = more;
  sink = sink;
}

-- memory ran out in a turn, behind which it is spent
pub spent_counts : {H S : Type 0} (hub_faults : H → ℕ) (faults : S → ℕ) (old new : RecordingHub H S) (step : HubStep) → Counts hub_faults faults old step new → Counts hub_faults faults old step (record new { spent = true })
spent_counts hub_faults faults old new step counts = record {
  answered = counts.answered;
  broken = counts.broken;
  own = counts.own;
  hub = counts.hub;
  sink = counts.sink;
}

pub rests_still : {S : Type 0} (wrote : S → Option (List ℕ)) (rec : Recorder S) → Rests wrote rec rec
rests_still wrote rec = record { bytes = refl; place = refl; broken = refl }

-- a piece is said to a hub that isn't spent
module _ {H S : Type 0} (may : H → HubStep → H → Type 0) (hub_faults : H → ℕ) (wrote : S → Option (List ℕ)) (faults : S → ℕ) where
  pub says : (old : RecordingHub H S) (hub : H) (conn : ℕ) (piece : List ℕ) (answer : Said) (spends : Bool) → is_spent old ≡ false → (answer ≡ Memory → spends ≡ true)
      → may (hub_in old) (said conn piece answer) hub → hub_faults hub ≡ hub_faults (hub_in old) → RecordingStep may hub_faults wrote faults old (said conn piece answer) (record old { hub = hub; spent = spends })
  says old hub conn piece answer spends runs memory step same = record {
    does = by answer memory step;
    along = goes_by may old _ (said conn piece answer) hub refl step;
    running = λ r. runs;
    counts = counts_same hub_faults faults old _ (said conn piece answer) same refl (omega arith);
  }
    where
      by : (a : Said) → (a ≡ Memory → spends ≡ true) → may (hub_in old) (said conn piece a) hub → Does may wrote faults old (said conn piece a) (record old { hub = hub; spent = spends })
      by Taken memory step = record { hub = step; recorder = refl }
      by Gone memory step = record { hub = step; recorder = refl }
      by Memory memory step = record { hub = λ r. step; no_hub = λ spent. absurd (true≢false (sym spent ∙ runs)); recorder = refl; spent = memory refl }
