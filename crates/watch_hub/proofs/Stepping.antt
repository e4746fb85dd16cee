-- A watch's steps, one behind the other.
use Rattle.std.proofs.Common.{◌≡◌, inl, inr, ℕ, suc, ◌+◌, ◌-◌, ◌^◌, ◌≤◌, min, Bool, true, false, List, [], ◌∷◌, ◌++◌, length, Option, Some, refl, sym, ap, ◌∙◌, subst, append_assoc, arith, true≢false}
use Rattle.std.proofs.lemmas.List.{append-nil, length-append}
use Rattle.fg_outside.specs.declared.hub.Happening.{Happening}
use Rattle.fg_outside.specs.declared.hub.Turn.TheVariants.{Happened, Done, Failed, Memory}
use Rattle.fg_outside.specs.declared.hub.Said.TheVariants as answers
use Rattle.fg_outside.specs.Contents.{Contents}
use Rattle.fg_outside.specs.Counts.{Rose}
use Rattle.fg_outside.specs.HubStep.{HubStep, turned, said, closed, Event, happening, happenings, told_by, story, Leads, start, next, Story}
use Rattle.watch_hub.specs.declared.file_watch.FileWatch.{FileWatch}
use Rattle.watch_hub.specs.declared.watch.Watch.{Watch}
use Rattle.watch_hub.specs.FileWatch.{Keeps, Looks}
use Rattle.watch_hub.specs.Texts.{missed, refreshed_by}
use Rattle.watch_hub.specs.Watch.{every_in, files_in, hub_in, is_spent, last_in, looked_in, name_in, waiting_in, waits_in, Does, HubWent, TellsText, PassesOn, WatchStep}
use Rattle.watch_hub.specs.Watched.{is_look, last_after, last_look, last_text, looks_from, moment_of, reloads, differs, watched_from}
use Rattle.watch_hub.specs.WatchedStory.{PutsIn, none, same, reload, WatchedStory}
use Rattle.watch_hub.specs.Look.{Finds}
use Rattle.watch_hub.proofs.Looking.{AreTold-snoc, IsTold-found, later, missed-found, missed-snoc, refreshed_more, told_later}
use Rattle.watch_hub.proofs.Telling.{happenings-append, last_look-snoc, last_text-snoc, looks-snoc, PutsIn-append, watched-snoc}

-- nothing waits: nothing is added
told_all : (b : Bool) (its : List Happening) (text : List ℕ) → b ≡ false → its ++ reloads b text ≡ its
told_all b its text is = rw is (append-nil its)

-- one step that is a look or none: what comes of it
one_look : (every looked : ℕ) (last : List ℕ) (text : Option (List ℕ)) (it : Happening) → is_look every looked it ≡ true → watched_from every looked last (text ∷ []) (it ∷ []) ≡ it ∷ reloads (differs last text) (last_after last text)
one_look every looked last text it is = rw is (ap (λ (l : List Happening). it ∷ l) (append-nil (reloads (differs last text) (last_after last text))))

no_look : (every looked : ℕ) (last : List ℕ) (it : Happening) → is_look every looked it ≡ false → watched_from every looked last [] (it ∷ []) ≡ it ∷ []
no_look every looked last it is = rw is refl

module _ {H F : Type 0} (may : H → HubStep → H → Type 0) (contents : F → Option Contents) (faults absences : F → ℕ) (joins : (first second : List HubStep) → story (first ++ second) ≡ story first ++ story second) where
  abbrev Tells : Watch H F → List Event → Watch H F → Type 0
  Tells from events to = WatchedStory may contents faults from events to

  -- the hub's story goes on by a step
  story-next : (from mid to : H) (events : List Event) (step : HubStep) → Story may from events mid → may mid step to → Story may from (events ++ told_by step) to
  story-next from mid to events step before step_may = record {
    steps = before.steps ++ step ∷ [];
    leads = next before.steps mid step to before.leads step_may;
    is = joins before.steps (step ∷ []) ∙ ap (λ (l : List Event). l ++ (told_by step ++ [])) before.is ∙ ap (λ (l : List Event). events ++ l) (append-nil (told_by step));
  }

  pub tells_first : (watch : Watch H F) → waits_in watch ≡ false → Tells watch [] watch
  tells_first watch idle = record {
    texts = [];
    hub_events = [];
    name = refl;
    every = refl;
    hub = record { steps = []; leads = start; is = refl };
    told = told_all (waits_in watch) [] (last_in watch) idle;
    put_in = none;
    looks = refl;
    looked = refl;
    last = refl;
    refreshes = refl;
    are_told = λ held is. tt;
    few_missed = λ held is. omega arith;
  }

  -- the hub goes on by a step that is no happening, and the file stays
  pub tells_silent : (from mid to : Watch H F) (events : List Event) (step : HubStep) → Tells from events mid → happenings (told_by step) ≡ [] → may (hub_in mid) step (hub_in to) → to.file ≡ mid.file → Tells from (events ++ told_by step) to
  tells_silent from mid to events step before silent step_may stays = record {
    texts = before.texts;
    hub_events = before.hub_events ++ told_by step;
    name = ap (λ (f : FileWatch F). f.name) stays ∙ before.name;
    every = ap (λ (f : FileWatch F). f.every) stays ∙ before.every;
    hub = story-next (hub_in from) (hub_in mid) (hub_in to) before.hub_events step before.hub step_may;
    told =
        ap (λ (f : FileWatch F). happenings (events ++ told_by step) ++ reloads f.waits f.last) stays
        ∙ ap (λ (l : List Happening). l ++ waiting_in mid) (happenings-append events (told_by step) ∙ ap (λ (l : List Happening). happenings events ++ l) silent ∙ append-nil (happenings events))
        ∙ before.told
        ∙ ap (λ (l : List Happening). watched_from (every_in from) (looked_in from) (last_in from) before.texts l) (sym hub_same);
    put_in = PutsIn-append before.hub_events events before.put_in (told_by step);
    looks = before.looks ∙ ap (λ (l : List Happening). looks_from (every_in from) (looked_in from) l) (sym hub_same);
    looked = ap (λ (f : FileWatch F). f.looked) stays ∙ before.looked ∙ ap (λ (l : List Happening). last_look (every_in from) (looked_in from) l) (sym hub_same);
    last = ap (λ (f : FileWatch F). f.last) stays ∙ before.last;
    refreshes = ap (λ (f : FileWatch F). contents f.files) stays ∙ before.refreshes;
    are_told = before.are_told;
    few_missed = λ held is. subst (λ (f : FileWatch F). min (faults (files_in from) + missed held (name_in from) 1 before.texts) (2 ^ 64 - 1) ≤ faults f.files) (sym stays) (before.few_missed held is);
  }
    where
      hub_same : happenings (before.hub_events ++ told_by step) ≡ happenings before.hub_events
      hub_same = happenings-append before.hub_events (told_by step) ∙ ap (λ (l : List Happening). happenings before.hub_events ++ l) silent ∙ append-nil (happenings before.hub_events)

  -- the text that waited is told
  tells_text : (from mid to : Watch H F) (events : List Event) (it : Happening) → Tells from events mid → TellsText mid it to → Tells from (events ++ happening it ∷ []) to
  tells_text from mid to events it before tells = record {
    texts = before.texts;
    hub_events = before.hub_events;
    name = ap (λ (w : Watch H F). name_in w) tells.after ∙ before.name;
    every = ap (λ (w : Watch H F). every_in w) tells.after ∙ before.every;
    hub = subst (λ (h : H). Story may (hub_in from) before.hub_events h) (sym (ap (λ (w : Watch H F). hub_in w) tells.after)) before.hub;
    told =
        told_all (waits_in to) (happenings (events ++ happening it ∷ [])) (last_in to) (ap (λ (w : Watch H F). waits_in w) tells.after)
        ∙ happenings-append events (happening it ∷ [])
        ∙ ap (λ (i : Happening). happenings events ++ i ∷ []) tells.text
        ∙ ap (λ (b : Bool). happenings events ++ reloads b (last_in mid)) (sym tells.waited)
        ∙ before.told;
    put_in = subst (λ (i : Happening). PutsIn before.hub_events (events ++ happening i ∷ [])) (sym tells.text) (reload before.hub_events events (last_in mid) before.put_in);
    looks = before.looks;
    looked = ap (λ (w : Watch H F). looked_in w) tells.after ∙ before.looked;
    last = ap (λ (w : Watch H F). last_in w) tells.after ∙ before.last;
    refreshes = ap (λ (w : Watch H F). contents (files_in w)) tells.after ∙ before.refreshes;
    are_told = before.are_told;
    few_missed = λ held is. subst (λ (w : Watch H F). min (faults (files_in from) + missed held (name_in from) 1 before.texts) (2 ^ 64 - 1) ≤ faults (files_in w)) (sym tells.after) (before.few_missed held is);
  }

  -- ---- what the hub gives

  module _ (from mid to : Watch H F) (events : List Event) (it : Happening) (before : Tells from events mid) (passes : PassesOn may contents faults absences mid it to) where
    hub_after : Story may (hub_in from) (before.hub_events ++ happening it ∷ []) (hub_in to)
    hub_after = story-next (hub_in from) (hub_in mid) (hub_in to) before.hub_events (turned (Happened it)) before.hub passes.hub

    its_after : happenings (before.hub_events ++ happening it ∷ []) ≡ happenings before.hub_events ++ it ∷ []
    its_after = happenings-append before.hub_events (happening it ∷ [])

    -- whether it is a look, by what is known of the hub's story
    look_is : (b : Bool) → is_look (every_in mid) (looked_in mid) it ≡ b → is_look (every_in from) (last_look (every_in from) (looked_in from) (happenings before.hub_events)) it ≡ b
    look_is b is = rw (before.every, before.looked) at is

    -- all so far was told
    told_before : happenings events ≡ watched_from (every_in from) (looked_in from) (last_in from) before.texts (happenings before.hub_events)
    told_before = sym (told_all (waits_in mid) (happenings events) (last_in mid) passes.none_waited) ∙ before.told

    -- so many looks, once it is counted
    looks_after : (k : ℕ) → looks_from (every_in from) (last_look (every_in from) (looked_in from) (happenings before.hub_events)) (it ∷ []) ≡ k
        → looks_from (every_in from) (looked_in from) (happenings (before.hub_events ++ happening it ∷ [])) ≡ length before.texts + k
    looks_after k is =
        ap (λ (l : List Happening). looks_from (every_in from) (looked_in from) l) its_after
        ∙ looks-snoc (every_in from) (looked_in from) (happenings before.hub_events) it
        ∙ ap (λ n. n + looks_from (every_in from) (last_look (every_in from) (looked_in from) (happenings before.hub_events)) (it ∷ [])) (sym before.looks)
        ∙ ap (λ n. length before.texts + n) is

    -- the story of what comes of it, behind what was told
    told_after : (more : List (Option (List ℕ))) (gives : List Happening) → watched_from (every_in from) (last_look (every_in from) (looked_in from) (happenings before.hub_events)) (last_text (last_in from) before.texts) more (it ∷ []) ≡ it ∷ gives
        → happenings (events ++ happening it ∷ []) ++ gives ≡ watched_from (every_in from) (looked_in from) (last_in from) (before.texts ++ more) (happenings (before.hub_events ++ happening it ∷ []))
    told_after more gives is =
        ap (λ (l : List Happening). l ++ gives) (happenings-append events (happening it ∷ []))
        ∙ append_assoc (happenings events) (it ∷ []) gives
        ∙ ap (λ (l : List Happening). l ++ (it ∷ gives)) told_before
        ∙ ap (λ (l : List Happening). watched_from (every_in from) (looked_in from) (last_in from) before.texts (happenings before.hub_events) ++ l) (sym is)
        ∙ sym (watched-snoc (every_in from) (looked_in from) (last_in from) before.texts more (happenings before.hub_events) it before.looks)
        ∙ ap (λ (l : List Happening). watched_from (every_in from) (looked_in from) (last_in from) (before.texts ++ more) l) (sym its_after)

    looked_after : (moment : ℕ) → last_look (every_in from) (last_look (every_in from) (looked_in from) (happenings before.hub_events)) (it ∷ []) ≡ moment → looked_in to ≡ moment
        → looked_in to ≡ last_look (every_in from) (looked_in from) (happenings (before.hub_events ++ happening it ∷ []))
    looked_after moment is now =
        now ∙ sym is ∙ sym (last_look-snoc (every_in from) (looked_in from) (happenings before.hub_events) it)
        ∙ ap (λ (l : List Happening). last_look (every_in from) (looked_in from) l) (sym its_after)

    tells_plain : is_look (every_in mid) (looked_in mid) it ≡ false → Tells from (events ++ happening it ∷ []) to
    tells_plain is = record {
      texts = before.texts;
      hub_events = before.hub_events ++ happening it ∷ [];
      name = ap (λ (w : Watch H F). name_in w) went ∙ before.name;
      every = ap (λ (w : Watch H F). every_in w) went ∙ before.every;
      hub = hub_after;
      told =
          ap (λ (w : Watch H F). happenings (events ++ happening it ∷ []) ++ waiting_in w) went
          ∙ ap (λ (b : Bool). happenings (events ++ happening it ∷ []) ++ reloads b (last_in mid)) passes.none_waited
          ∙ told_after [] [] (no_look (every_in from) _ (last_text (last_in from) before.texts) it (look_is false is))
          ∙ ap (λ (ts : List (Option (List ℕ))). watched_from (every_in from) (looked_in from) (last_in from) ts (happenings (before.hub_events ++ happening it ∷ []))) (append-nil before.texts);
      put_in = same before.hub_events events (happening it) before.put_in;
      looks = omega (arith, looks_after 0 (let plain = look_is false is in rw plain refl));
      looked = looked_after _ (let plain = look_is false is in rw plain refl) (ap (λ (w : Watch H F). looked_in w) went ∙ before.looked);
      last = ap (λ (w : Watch H F). last_in w) went ∙ before.last;
      refreshes = ap (λ (w : Watch H F). contents (files_in w)) went ∙ before.refreshes;
      are_told = before.are_told;
      few_missed = λ held told. subst (λ (w : Watch H F). min (faults (files_in from) + missed held (name_in from) 1 before.texts) (2 ^ 64 - 1) ≤ faults (files_in w)) (sym went) (before.few_missed held told);
    }
      where
        went : HubWent mid to
        went = passes.no_look is

    tells_look : is_look (every_in mid) (looked_in mid) it ≡ true → Keeps faults absences mid.file to.file → Tells from (events ++ happening it ∷ []) to
    tells_look is keeps = record {
      texts = before.texts ++ look.text ∷ [];
      hub_events = before.hub_events ++ happening it ∷ [];
      name = keeps.name ∙ before.name;
      every = keeps.every ∙ before.every;
      hub = hub_after;
      told =
          ap (λ (l : List Happening). happenings (events ++ happening it ∷ []) ++ l) waiting
          ∙ told_after (look.text ∷ []) (reloads (differs (last_text (last_in from) before.texts) look.text) (last_after (last_text (last_in from) before.texts) look.text)) (one_look (every_in from) _ (last_text (last_in from) before.texts) look.text it (look_is true is));
      put_in = same before.hub_events events (happening it) before.put_in;
      looks = length-append before.texts (look.text ∷ []) ∙ sym (looks_after 1 (let yes = look_is true is in rw yes (omega arith)));
      looked = looked_after (moment_of it) (let yes = look_is true is in rw yes refl) look.looked;
      last = look.last ∙ ap (λ (l : List ℕ). last_after l look.text) before.last ∙ sym (last_text-snoc (last_in from) before.texts look.text);
      refreshes =
          refreshed_more (length before.texts) (contents (files_in from)) (contents (files_in mid)) (contents (files_in to)) before.refreshes look.refreshes
          ∙ ap (λ n. refreshed_by n (contents (files_in from))) (sym (length-append before.texts (look.text ∷ [])));
      are_told = λ held told.
          AreTold-snoc held (name_in from) 1 before.texts look.text (before.are_told held told)
          (IsTold-found held (name_in from) (length before.texts) (contents (files_in to)) (now held told) look.text _ _ finds_from);
      few_missed = λ held told.
          let below = missed-found held (name_in from) (length before.texts) (contents (files_in to)) (now held told) look.text (faults (files_in from)) (faults (files_in mid)) (faults (files_in to))
          (missed held (name_in from) 1 before.texts) _ finds_from keeps.counted_faults (before.few_missed held told) in
          subst (λ n. min (faults (files_in from) + n) (2 ^ 64 - 1) ≤ faults (files_in to)) (sym (missed-snoc held (name_in from) 1 before.texts look.text)) below;
    }
      where
        look : Looks contents faults absences (moment_of it) mid.file to.file
        look = passes.look is

        waiting : waiting_in to ≡ reloads (differs (last_text (last_in from) before.texts) look.text) (last_after (last_text (last_in from) before.texts) look.text)
        waiting =
            ap (λ (b : Bool). reloads b (last_in to)) look.waits
            ∙ ap (λ (l : List ℕ). reloads (differs (last_in mid) look.text) l) look.last
            ∙ ap (λ (l : List ℕ). reloads (differs l look.text) (last_after l look.text)) before.last

        finds_from : Finds (contents (files_in to)) (name_in from) look.text (Rose (faults (files_in mid)) (faults (files_in to))) (Rose (absences (files_in mid)) (absences (files_in to)))
        finds_from = subst (λ (name : List ℕ). Finds (contents (files_in to)) name look.text (Rose (faults (files_in mid)) (faults (files_in to))) (Rose (absences (files_in mid)) (absences (files_in to)))) before.name look.finds

        now : (held : Contents) → contents (files_in from) ≡ Some held → contents (files_in to) ≡ Some (later (suc (length before.texts)) held)
        now held told = told_later (length before.texts) (contents (files_in from)) (contents (files_in mid)) (contents (files_in to)) held told before.refreshes look.refreshes

    tells_given : Keeps faults absences mid.file to.file → Tells from (events ++ happening it ∷ []) to
    tells_given keeps = by_look (is_look (every_in mid) (looked_in mid) it) refl
      where
        by_look : (b : Bool) → is_look (every_in mid) (looked_in mid) it ≡ b → Tells from (events ++ happening it ∷ []) to
        by_look true is = tells_look is keeps
        by_look false is = tells_plain is

  -- ---- all steps

  pub tells_step : (from mid to : Watch H F) (events : List Event) (step : HubStep) → Tells from events mid → Does may contents faults absences mid step to → Keeps faults absences mid.file to.file → is_spent to ≡ false → Tells from (events ++ told_by step) to
  tells_step from mid to events (turned (Happened it)) before does keeps running =
      elim does [
        | inl tells ↦ tells_text from mid to events it before tells
        | inr passes ↦ tells_given from mid to events it before passes keeps
      ]
  tells_step from mid to events (turned Done) before does keeps running = tells_silent from mid to events (turned Done) before refl does.hub (ap (λ (w : Watch H F). w.file) does.went)
  tells_step from mid to events (turned Failed) before does keeps running = tells_silent from mid to events (turned Failed) before refl does.hub (ap (λ (w : Watch H F). w.file) does.went)
  tells_step from mid to events (turned Memory) before does keeps running = absurd (true≢false (sym does.spent ∙ running))
  tells_step from mid to events (said conn piece answers.Taken) before does keeps running =
      tells_silent from mid to events (said conn piece answers.Taken) before refl does.hub (ap (λ (w : Watch H F). w.file) does.went)
  tells_step from mid to events (said conn piece answers.Gone) before does keeps running =
      tells_silent from mid to events (said conn piece answers.Gone) before refl does.hub (ap (λ (w : Watch H F). w.file) does.went)
  tells_step from mid to events (said conn piece answers.Memory) before does keeps running = absurd (true≢false (sym (ap (λ (w : Watch H F). is_spent w) does.went) ∙ running))
  tells_step from mid to events (closed conn) before does keeps running = tells_silent from mid to events (closed conn) before refl does.hub (ap (λ (w : Watch H F). w.file) does.went)

  pub tells_way : (from : Watch H F) → waits_in from ≡ false → (steps : List HubStep) (to : Watch H F) → Leads (WatchStep may contents faults absences) from steps to → is_spent to ≡ false → Tells from (story steps) to
  tells_way from idle _ _ start running = tells_first from idle
  tells_way from idle _ _ (next steps mid step to way may_step) running =
      subst (λ (events : List Event). Tells from events to)
      (ap (λ (l : List Event). story steps ++ l) (sym (append-nil (told_by step))) ∙ sym (joins steps (step ∷ [])))
      (tells_step from mid to (story steps) step (tells_way from idle steps mid way (may_step.running running)) may_step.does may_step.along.file running)

-- ---- the hub

module _ {H F : Type 0} (may : H → HubStep → H → Type 0) (contents : F → Option Contents) (faults absences : F → ℕ) where
  pub hub_way : (both : (from mid to : H) (first second : List HubStep) → Leads may from first mid → Leads may mid second to → Leads may from (first ++ second) to)
      → (from : Watch H F) (steps : List HubStep) (to : Watch H F) → Leads (WatchStep may contents faults absences) from steps to → (way : List HubStep) × Leads may (hub_in from) way (hub_in to)
  hub_way both from _ _ start = ([], start)
  hub_way both from _ _ (next steps mid step to way may_step) =
      let before = hub_way both from steps mid way in
      (before.0 ++ may_step.along.way, both (hub_in from) (hub_in mid) (hub_in to) before.0 may_step.along.way before.1 may_step.along.leads)
