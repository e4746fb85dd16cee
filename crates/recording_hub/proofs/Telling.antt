-- The steps of a hub whose happenings are recorded, one behind the other.
use Rattle.std.proofs.Common.{◌≡◌, inl, inr, ℕ, ◌+◌, Bool, true, false, if◌then◌else◌, List, [], ◌∷◌, ◌++◌, length, map, Option, Some, None, refl, sym, ◌∙◌, ap, subst, arith, true≢false}
use Rattle.std.proofs.lemmas.List.{append-nil, length-map, map-append}
use Rattle.std.proofs.lemmas.Bool.{le-ltb}
use Rattle.fg_outside.specs.declared.hub.Happening.{Happening}
use Rattle.fg_outside.specs.declared.hub.Happening.TheVariants as happens
use Rattle.fg_outside.specs.declared.hub.EndCause.{EndCause}
use Rattle.fg_outside.specs.declared.hub.Turn.TheVariants.{Happened, Done, Failed, Memory}
use Rattle.fg_outside.specs.declared.hub.Said.TheVariants as answers
use Rattle.fg_outside.specs.Wrote.{appended}
use Rattle.fg_outside.specs.HubStep.{HubStep, turned, said, closed, Event, happening, saying, closing, happenings, told_by, story, Leads, start, next, Story}
use Rattle.recording.specs.Conns.{is_among}
use Rattle.recording.specs.Recording.{Place}
use Rattle.recording.specs.Turns.{Closing, closings}
use Rattle.recording.proofs.Turning.{closings-within, happenings-append, closings-append}
use Rattle.recording_hub.specs.declared.recorder.Recorder.{Recorder}
use Rattle.recording_hub.specs.declared.recording_hub.RecordingHub.{RecordingHub}
use Rattle.recording_hub.specs.Recorded.{held}
use Rattle.recording_hub.specs.Recorder.{place_of, is_broken}
use Rattle.recording_hub.specs.RecordingHub.{hub_in, sink_in, faults_of, has_failed, is_spent, IsBegun, Does, Gives, BreaksOff, StaysBroken, Closes, ClosesUnnoted, RecordingStep}
use Rattle.recording_hub.specs.Recorder.{NotesClosing, Rests}
use Rattle.recording_hub.specs.RecordedStory.{RecordedStory, IsHeld, AreHeld}
use Rattle.recording_hub.proofs.Keeping.{Kept, cut_none, kept_happening, kept_broken, kept_closing, kept_on, kept_rests, kept_unnoted}

-- ---- happenings that are held as they are

held_same : (it : Happening) → IsHeld it → held it ≡ it
held_same (happens.Opened conn) h = refl
held_same (happens.Heard conn piece) h = refl
held_same (happens.Closed conn cause) h = ap (λ (c : EndCause). happens.Closed conn c) (sym h)
held_same (happens.Moment moment) h = refl
held_same (happens.Reload text) h = ap (λ (b : Bool). happens.Reload (if b then 0 ∷ [] else text)) (le-ltb 1048576 (length text) h)

pub all_held : (its : List Happening) → AreHeld its → map held its ≡ its
all_held [] all = refl
all_held (it ∷ its) all = ap (λ (i : Happening). i ∷ map held its) (held_same it all.0) ∙ ap (λ (l : List Happening). it ∷ l) (all_held its all.1)

first_written : (origin : Option (List ℕ)) → origin ≡ appended (appended origin []) []
first_written None = refl
first_written (Some zs) = ap (λ (l : List ℕ). Some l) (sym (append-nil (zs ++ []) ∙ append-nil zs))

-- ---- stories

-- a hub begun here came there: its story so far, and what was written of it
pub record Tells {H S : Type 0} (may : H → HubStep → H → Type 0) (wrote : S → Option (List ℕ)) (from : RecordingHub H S) (events : List Event) (to : RecordingHub H S) : Type 0 where
  pub hub : has_failed to ≡ false → is_spent to ≡ false → Story may (hub_in from) events (hub_in to)
  pub kept : Kept wrote (wrote (sink_in from)) (is_spent to ≡ false) to.recorder (closings 0 events) (map held (happenings events))

module _ {H S : Type 0} (may : H → HubStep → H → Type 0) (hub_faults : H → ℕ) (wrote : S → Option (List ℕ)) (faults : S → ℕ) (joins : (first second : List HubStep) → story (first ++ second) ≡ story first ++ story second) where
  story-next : (from mid to : H) (events : List Event) (step : HubStep) → Story may from events mid → may mid step to → Story may from (events ++ told_by step) to
  story-next from mid to events step before step_may = record {
    steps = before.steps ++ step ∷ [];
    leads = next before.steps mid step to before.leads step_may;
    is = joins before.steps (step ∷ []) ∙ ap (λ (l : List Event). l ++ (told_by step ++ [])) before.is ∙ ap (λ (l : List Event). events ++ l) (append-nil (told_by step));
  }

  tells_first : (from : RecordingHub H S) → IsBegun from → Tells may wrote from [] from
  tells_first from begun = record {
    hub = λ whole running. record { steps = []; leads = start; is = refl };
    kept = record {
      records = [];
      bytes = [];
      part = [];
      written = first_written (wrote (sink_in from));
      spell = refl;
      follow = tt;
      gave = refl;
      within = closings-within 0 [];
      cut = cut_none;
      none = λ whole. refl;
      runs = λ running whole. record {
        place = begun.place;
        moment = ap (λ (p : Place). p.moment) begun.place;
        shut = λ conn there. absurd (true≢false (sym there ∙ ap (λ (p : Place). is_among p.opened conn) begun.place));
      };
    };
  }

  kept_at : (origin : Option (List ℕ)) (live : Type 0) (rec : Recorder S) (closes closes' : List Closing) (given given' : List Happening) → closes' ≡ closes → given' ≡ given → Kept wrote origin live rec closes given → Kept wrote origin live rec closes' given'
  kept_at origin live rec closes closes' given given' same_closes same_given kept =
      subst (λ (k : List Closing). Kept wrote origin live rec k given') (sym same_closes) (subst (λ (l : List Happening). Kept wrote origin live rec closes l) (sym same_given) kept)

  -- events that neither happen nor close
  silent : (origin : Option (List ℕ)) (live : Type 0) (rec : Recorder S) (events more : List Event) → ((n : ℕ) → closings n more ≡ []) → happenings more ≡ []
      → Kept wrote origin live rec (closings 0 events) (map held (happenings events)) → Kept wrote origin live rec (closings 0 (events ++ more)) (map held (happenings (events ++ more)))
  silent origin live rec events more none_closed none_happened kept =
      kept_at origin live rec (closings 0 events) (closings 0 (events ++ more)) (map held (happenings events)) (map held (happenings (events ++ more)))
      (closings-append 0 events more ∙ ap (λ (k : List Closing). closings 0 events ++ k) (none_closed (0 + length (happenings events))) ∙ append-nil (closings 0 events))
      (ap (λ (l : List Happening). map held l) (happenings-append events more ∙ ap (λ (l : List Happening). happenings events ++ l) none_happened ∙ append-nil (happenings events)))
      kept

  -- a closing behind all that happened
  closed_last : (origin : Option (List ℕ)) (live : Type 0) (rec : Recorder S) (events : List Event) (conn : ℕ)
      → Kept wrote origin live rec (closings 0 events ++ record { conn = conn; behind = length (map held (happenings events)) } ∷ []) (map held (happenings events))
      → Kept wrote origin live rec (closings 0 (events ++ closing conn ∷ [])) (map held (happenings (events ++ closing conn ∷ [])))
  closed_last origin live rec events conn kept =
      kept_at origin live rec _ (closings 0 (events ++ closing conn ∷ [])) (map held (happenings events)) (map held (happenings (events ++ closing conn ∷ [])))
      (closings-append 0 events (closing conn ∷ []) ∙ ap (λ n. closings 0 events ++ record { conn = conn; behind = n } ∷ []) (omega (arith, length-map (happenings events) held)))
      (ap (λ (l : List Happening). map held l) (happenings-append events (closing conn ∷ []) ∙ append-nil (happenings events)))
      kept

  rests_same : (old new : Recorder S) → new ≡ old → Rests wrote old new
  rests_same old new same = record {
    bytes = ap (λ (rec : Recorder S). wrote rec.sink) same;
    place = ap (λ (rec : Recorder S). place_of rec) same;
    broken = ap (λ (rec : Recorder S). is_broken rec) same;
  }

  -- the hub was called in the same way
  tells_call : (from mid to : RecordingHub H S) (events : List Event) (step : HubStep) → Tells may wrote from events mid → may (hub_in mid) step (hub_in to) → to.recorder ≡ mid.recorder → (is_spent to ≡ false → is_spent mid ≡ false)
      → ((n : ℕ) → closings n (told_by step) ≡ []) → happenings (told_by step) ≡ [] → Tells may wrote from (events ++ told_by step) to
  tells_call from mid to events step before hub same running none_closed none_happened = record {
    hub = λ whole now. story-next (hub_in from) (hub_in mid) (hub_in to) events step (before.hub (sym (ap (λ (rec : Recorder S). is_broken rec) same) ∙ whole) (running now)) hub;
    kept =
        subst (λ (rec : Recorder S). Kept wrote (wrote (sink_in from)) (is_spent to ≡ false) rec (closings 0 (events ++ told_by step)) (map held (happenings (events ++ told_by step)))) (sym same)
        (silent (wrote (sink_in from)) (is_spent to ≡ false) mid.recorder events (told_by step) none_closed none_happened
        (kept_on wrote (wrote (sink_in from)) (is_spent mid ≡ false) (is_spent to ≡ false) mid.recorder (closings 0 events) (map held (happenings events)) running before.kept));
  }

  tells_given : (from mid to : RecordingHub H S) (events : List Event) (it : Happening) → Tells may wrote from events mid → Gives may wrote mid it to → Tells may wrote from (events ++ happening it ∷ []) to
  tells_given from mid to events it before gives = record {
    hub = λ whole now. story-next (hub_in from) (hub_in mid) (hub_in to) events (turned (Happened it)) (before.hub gives.was_whole gives.ran) gives.hub;
    kept = kept_at (wrote (sink_in from)) (is_spent to ≡ false) to.recorder (closings 0 events) (closings 0 (events ++ happening it ∷ [])) (map held (happenings events) ++ held it ∷ []) (map held (happenings (events ++ happening it ∷ [])))
        (closings-append 0 events (happening it ∷ []) ∙ append-nil (closings 0 events))
        (ap (λ (l : List Happening). map held l) (happenings-append events (happening it ∷ [])) ∙ map-append held (happenings events) (it ∷ []))
        (kept_happening wrote (wrote (sink_in from)) (is_spent mid ≡ false) (is_spent to ≡ false) mid.recorder to.recorder it (closings 0 events) (map held (happenings events)) gives.ran gives.was_whole before.kept gives.noted);
  }

  tells_broken : (from mid to : RecordingHub H S) (events : List Event) → Tells may wrote from events mid → BreaksOff may wrote faults mid to → Tells may wrote from (events ++ []) to
  tells_broken from mid to events before breaks = record {
    hub = λ whole now. absurd (true≢false (sym breaks.breaks.broken ∙ whole));
    kept =
        silent (wrote (sink_in from)) (is_spent to ≡ false) to.recorder events [] (λ n. refl) refl
        (kept_broken wrote (wrote (sink_in from)) (is_spent mid ≡ false) (is_spent to ≡ false) faults mid.recorder to.recorder breaks.it (closings 0 events) (map held (happenings events)) breaks.was_whole before.kept breaks.breaks);
  }

  tells_still : (from mid to : RecordingHub H S) (events : List Event) → Tells may wrote from events mid → StaysBroken mid to → (is_spent to ≡ false → is_spent mid ≡ false) → Tells may wrote from (events ++ []) to
  tells_still from mid to events before stays running = record {
    hub = λ whole now. absurd (true≢false (sym stays.was_broken ∙ sym (ap (λ (rec : Recorder S). is_broken rec) stays.recorder) ∙ whole));
    kept =
        subst (λ (rec : Recorder S). Kept wrote (wrote (sink_in from)) (is_spent to ≡ false) rec (closings 0 (events ++ [])) (map held (happenings (events ++ [])))) (sym stays.recorder)
        (silent (wrote (sink_in from)) (is_spent to ≡ false) mid.recorder events [] (λ n. refl) refl
        (kept_on wrote (wrote (sink_in from)) (is_spent mid ≡ false) (is_spent to ≡ false) mid.recorder (closings 0 events) (map held (happenings events)) running before.kept));
  }

  was_whole : (old new : Recorder S) (conn : ℕ) → NotesClosing wrote faults old conn new → is_broken new ≡ false → is_broken old ≡ false
  was_whole old new conn (inl passes) whole = sym (ap (λ (rec : Recorder S). is_broken rec) passes.same) ∙ whole
  was_whole old new conn (inr too) whole = too.whole

  tells_closed : (from mid to : RecordingHub H S) (events : List Event) (conn : ℕ) → Tells may wrote from events mid → Closes may wrote faults conn mid to → Tells may wrote from (events ++ closing conn ∷ []) to
  tells_closed from mid to events conn before closes = record {
    hub = λ whole now. story-next (hub_in from) (hub_in mid) (hub_in to) events (closed conn) (before.hub (was_whole mid.recorder to.recorder conn closes.noted whole) closes.ran) closes.hub;
    kept =
        closed_last (wrote (sink_in from)) (is_spent to ≡ false) to.recorder events conn
        (kept_closing wrote (wrote (sink_in from)) (is_spent mid ≡ false) (is_spent to ≡ false) faults mid.recorder to.recorder conn (closings 0 events) (map held (happenings events)) closes.ran before.kept closes.noted);
  }

  -- ---- memory ran out

  over : (to : RecordingHub H S) → is_spent to ≡ true → is_spent to ≡ false → ⊥
  over to spent now = true≢false (sym spent ∙ now)

  tells_unnoted : (from mid to : RecordingHub H S) (events : List Event) (conn : ℕ) → Tells may wrote from events mid → ClosesUnnoted may wrote conn mid to → Tells may wrote from (events ++ closing conn ∷ []) to
  tells_unnoted from mid to events conn before closes = record {
    hub = λ whole now. absurd (over to closes.spent now);
    kept =
        closed_last (wrote (sink_in from)) (is_spent to ≡ false) to.recorder events conn
        (kept_unnoted wrote (wrote (sink_in from)) (is_spent mid ≡ false) (is_spent to ≡ false) mid.recorder to.recorder conn (closings 0 events) (map held (happenings events)) (over to closes.spent) before.kept closes.rests);
  }

  tells_lost : (from mid to : RecordingHub H S) (events more : List Event) → Tells may wrote from events mid → Rests wrote mid.recorder to.recorder → is_spent to ≡ true → ((n : ℕ) → closings n more ≡ []) → happenings more ≡ [] → Tells may wrote from (events ++ more) to
  tells_lost from mid to events more before rests spent none_closed none_happened = record {
    hub = λ whole now. absurd (over to spent now);
    kept =
        silent (wrote (sink_in from)) (is_spent to ≡ false) to.recorder events more none_closed none_happened
        (kept_rests wrote (wrote (sink_in from)) (is_spent mid ≡ false) (is_spent to ≡ false) mid.recorder to.recorder (closings 0 events) (closings 0 events) (map held (happenings events)) (over to spent) before.kept rests
        (λ records gave. refl) before.kept.within);
  }

  -- ---- any step

  tells_step : (from mid to : RecordingHub H S) (events : List Event) (step : HubStep) → Tells may wrote from events mid → RecordingStep may hub_faults wrote faults mid step to → Tells may wrote from (events ++ told_by step) to
  tells_step from mid to events (turned (Happened it)) before steps = tells_given from mid to events it before steps.does
  tells_step from mid to events (turned Done) before steps = tells_call from mid to events (turned Done) before steps.does.hub steps.does.recorder steps.running (λ n. refl) refl
  tells_step from mid to events (turned Failed) before steps =
      elim steps.does [
        | inl ends ↦ tells_call from mid to events (turned Failed) before ends.hub ends.recorder steps.running (λ n. refl) refl
        | inr broken ↦ elim broken [
          | inl breaks ↦ tells_broken from mid to events before breaks
          | inr stays ↦ tells_still from mid to events before stays steps.running
        ]
      ]
  tells_step from mid to events (turned Memory) before steps = tells_lost from mid to events [] before steps.does.rests steps.does.spent (λ n. refl) refl
  tells_step from mid to events (said conn piece answers.Taken) before steps = tells_call from mid to events (said conn piece answers.Taken) before steps.does.hub steps.does.recorder steps.running (λ n. refl) refl
  tells_step from mid to events (said conn piece answers.Gone) before steps = tells_call from mid to events (said conn piece answers.Gone) before steps.does.hub steps.does.recorder steps.running (λ n. refl) refl
  tells_step from mid to events (said conn piece answers.Memory) before steps =
      tells_lost from mid to events (saying conn piece answers.Memory ∷ []) before (rests_same mid.recorder to.recorder steps.does.recorder) steps.does.spent (λ n. refl) refl
  tells_step from mid to events (closed conn) before steps =
      elim steps.does [
        | inl closes ↦ tells_closed from mid to events conn before closes
        | inr unnoted ↦ tells_unnoted from mid to events conn before unnoted
      ]

  tells_way : (from : RecordingHub H S) → IsBegun from → (steps : List HubStep) (to : RecordingHub H S) → Leads (RecordingStep may hub_faults wrote faults) from steps to → Tells may wrote from (story steps) to
  tells_way from begun _ _ start = tells_first from begun
  tells_way from begun _ _ (next steps mid step to way may_step) =
      subst (λ (events : List Event). Tells may wrote from events to)
      (ap (λ (l : List Event). story steps ++ l) (sym (append-nil (told_by step))) ∙ sym (joins steps (step ∷ [])))
      (tells_step from mid to (story steps) step (tells_way from begun steps mid way) may_step)

  pub recorded_way : (from : RecordingHub H S) → IsBegun from → (steps : List HubStep) (to : RecordingHub H S) → Leads (RecordingStep may hub_faults wrote faults) from steps to → RecordedStory may wrote from (story steps) to
  recorded_way from begun steps to way =
      let tells = tells_way from begun steps to way in
      let kept = tells.kept in
      record {
        hub = tells.hub;
        records = kept.records;
        bytes = kept.bytes;
        part = kept.part;
        written = kept.written;
        is = record { spell = kept.spell; follow = kept.follow };
        tells = kept.gave;
        whole = kept.none;
        cut = kept.cut;
      }

-- ---- the hub

module _ {H S : Type 0} (may : H → HubStep → H → Type 0) (hub_faults : H → ℕ) (wrote : S → Option (List ℕ)) (faults : S → ℕ) where
  abbrev Step : RecordingHub H S → HubStep → RecordingHub H S → Type 0
  Step = RecordingStep may hub_faults wrote faults

  pub hub_way : (both : (from mid to : H) (first second : List HubStep) → Leads may from first mid → Leads may mid second to → Leads may from (first ++ second) to)
      → (from : RecordingHub H S) (steps : List HubStep) (to : RecordingHub H S) → Leads Step from steps to → (way : List HubStep) × Leads may (hub_in from) way (hub_in to)
  hub_way both from _ _ start = ([], start)
  hub_way both from _ _ (next steps mid step to way may_step) =
      let before = hub_way both from steps mid way in
      (before.0 ++ may_step.along.way, both (hub_in from) (hub_in mid) (hub_in to) before.0 may_step.along.way before.1 may_step.along.leads)

  -- what is whole behind a step was whole before
  pub whole_before : (old new : RecordingHub H S) (step : HubStep) → Does may wrote faults old step new → has_failed new ≡ false → has_failed old ≡ false
  whole_before old new (turned (Happened it)) does whole = does.was_whole
  whole_before old new (turned Done) does whole = does.was_whole
  whole_before old new (turned Failed) does whole =
      elim does [
        | inl ends ↦ ends.was_whole
        | inr broken ↦ elim broken [ inl breaks ↦ breaks.was_whole | inr stays ↦ sym (ap (λ (rec : Recorder S). is_broken rec) stays.recorder) ∙ whole ]
      ]
  whole_before old new (turned Memory) does whole = sym does.rests.broken ∙ whole
  whole_before old new (said conn piece answers.Taken) does whole = sym (ap (λ (rec : Recorder S). is_broken rec) does.recorder) ∙ whole
  whole_before old new (said conn piece answers.Gone) does whole = sym (ap (λ (rec : Recorder S). is_broken rec) does.recorder) ∙ whole
  whole_before old new (said conn piece answers.Memory) does whole = sym (ap (λ (rec : Recorder S). is_broken rec) does.recorder) ∙ whole
  whole_before old new (closed conn) does whole =
      elim does [
        | inl closes ↦ elim closes.noted [ inl passes ↦ sym (ap (λ (rec : Recorder S). is_broken rec) passes.same) ∙ whole | inr too ↦ too.whole ]
        | inr unnoted ↦ sym unnoted.rests.broken ∙ whole
      ]

  -- its own count stays while the recording is whole
  no_own_failures : (from : RecordingHub H S) → IsBegun from → (steps : List HubStep) (to : RecordingHub H S) → Leads Step from steps to → has_failed to ≡ false → to.failures ≡ 0
  no_own_failures from begun _ _ start whole = begun.counted
  no_own_failures from begun _ _ (next steps mid step to way may_step) whole =
      may_step.counts.own whole ∙ no_own_failures from begun steps mid way (whole_before mid to step may_step.does whole)

  pub hub_counts : (from to : RecordingHub H S) (steps : List HubStep) → IsBegun from → Leads Step from steps to → has_failed to ≡ false → faults_of hub_faults to ≡ hub_faults (hub_in to)
  hub_counts from to steps begun way whole = omega (arith, no_own_failures from begun steps to way whole)
