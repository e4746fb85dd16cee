-- What serving came to, from what the hub with the watched file gave and was told.
use Rattle.std.proofs.Common.{◌≡◌, ℕ, ◌+◌, ◌-◌, ◌^◌, ◌≤◌, min, Bool, true, false, List, [], ◌∷◌, ◌++◌, length, take, Option, refl, sym, ap, subst, ◌∙◌, arith}
use Rattle.std.proofs.lemmas.List.{append-nil, take_all, take-append-le}
use Rattle.std.proofs.Math.Seq.{take-nil}
use Rattle.std.specs.List.{AllByRecursion}
use Rattle.fg_outside.specs.declared.hub.Happening.{Happening}
use Rattle.fg_outside.specs.declared.hub.Turn.TheVariants as turns
use Rattle.fg_outside.specs.declared.hub.Said.TheVariants as answers
use Rattle.fg_outside.specs.Contents.{Contents}
use Rattle.fg_outside.specs.HubStep.{HubStep, Event, Leads, closed, happenings, next, said, start, story, turned}
use Rattle.fg_outside.specs.Wrote.{appended, AppendsFront}
use Rattle.fg_outside.proofs.SinkLemmas.{appended-nil}
use Rattle.fg_outside.proofs.StoryLemmas.{Leads-append, story-append}
use Rattle.fg_links.specs.HubInMemory.{lacks_memory}
use Rattle.conf_types.specs.Configuration.{Configuration}
use Rattle.watch_hub.specs.declared.watch.Watch.{Watch}
use Rattle.watch_hub.specs.Texts.{AreTold, missed}
use Rattle.watch_hub.specs.Watch.{IsBegun, WatchStep, files_in, hub_in, is_spent, last_in, looked_in, waiting_in, waits_in}
use Rattle.watch_hub.specs.Watched.{looks_from, reloads, watched, watched_from}
use Rattle.watch_hub.specs.WatchedStory.{PutsIn, WatchedPart, WatchedStory}
use Rattle.ctl_world.specs.World.{World, first}
use Rattle.hub_drive.specs.declared.drive.Drove.{Drove}
use Rattle.hub_drive.specs.declared.drive.Drove.TheVariants as drove
use Rattle.hub_drive.specs.declared.sayings.Outlet.TheVariants.{Hub}
use Rattle.ctl_drive.specs.Driving.{deeds_of}
use Rattle.hub_drive.specs.Driven.{CameAsBytes, Tells, goes_on}
use Rattle.ctl_drive.specs.Driven.{AnswersFront, Drives}
use Rattle.hub_drive.proofs.Deeds.{whole_happened}
use Rattle.ctl_drive.specs.Controller.{controller}
use Rattle.ctl_serve.specs.Served.{Served, ServedPart, ServesTo, last_call}

-- ---- fronts of lists

pub front_then : {X : Type 0} (n : ℕ) (xs more : List X) → length xs ≡ n → take n (xs ++ more) ≡ xs
front_then n xs more is = take-append-le n xs more (omega (arith, is)) ∙ take_all n xs (omega (arith, is))

pub front_whole : {X : Type 0} (n : ℕ) (xs more : List X) → more ≡ [] → length xs ≤ n → take n (xs ++ more) ≡ xs
front_whole {X = X} n xs more empty le = ap (λ (l : List X). take n (xs ++ l)) empty ∙ ap (λ (l : List X). take n l) (append-nil xs) ∙ take_all n xs le

at_most : (a b c : ℕ) → a ≤ b → b ≤ c → a ≤ c
at_most a b c low high = omega (arith, low, high)

-- of nothing, nothing is written
pub front_of_nothing : (old new : Option (List ℕ)) → AppendsFront old new [] → new ≡ old
front_of_nothing old new front = front.front ∙ ap (λ (l : List ℕ). appended old l) (take-nil front.count) ∙ appended-nil old

-- ---- calls that a run goes on behind

answered : (step : HubStep) → goes_on step ≡ true → lacks_memory step ≡ false
answered (turned (turns.Happened it)) goes = refl
answered (turned turns.Done) goes = refl
answered (turned turns.Failed) goes = refl
answered (turned turns.Memory) goes = cc
answered (said conn piece answers.Taken) goes = refl
answered (said conn piece answers.Gone) goes = refl
answered (said conn piece answers.Memory) goes = cc
answered (closed conn) goes = refl

pub all_answered : (steps : List HubStep) → AllByRecursion (λ step. goes_on step ≡ true) steps → AllByRecursion (λ step. lacks_memory step ≡ false) steps
all_answered [] went_on = tt
all_answered (step ∷ steps) went_on = (answered step went_on.0, all_answered steps went_on.1)

module _ {H F : Type 0} (may : H → HubStep → H → Type 0) (contents : F → Option Contents) (faults absences : F → ℕ) where
  abbrev pub Step : Watch H F → HubStep → Watch H F → Type 0
  Step = WatchStep may contents faults absences

  -- what the laws of a watch say
  abbrev pub IsRunning : Type 0
  IsRunning =
      (from to : Watch H F) (steps : List HubStep) → is_spent from ≡ false → AllByRecursion (λ step. lacks_memory step ≡ false) steps
      → Leads Step from steps to → is_spent to ≡ false

  abbrev pub TellsWatched : Type 0
  TellsWatched =
      (holds : HubStep → Bool) (from to : Watch H F) (steps : List HubStep) → waits_in from ≡ false → is_spent to ≡ false → AllByRecursion (λ step. holds step ≡ true) steps → Leads Step from steps to
      → (told : WatchedStory may contents faults from (story steps) to) × AllByRecursion (λ step. holds step ≡ true) told.hub.steps

  abbrev pub TellsWatchedPart : Type 0
  TellsWatchedPart =
      (from to : Watch H F) (steps : List HubStep) → waits_in from ≡ false → is_spent from ≡ false → AllByRecursion (λ step. lacks_memory step ≡ false) (take (length steps - 1) steps) → Leads Step from steps to
      → WatchedPart may contents faults from (story steps) to

  module _ (running : IsRunning) (watched_story : TellsWatched) (from : Watch H F) (name text : List ℕ) (every : ℕ) (begun : IsBegun from name text every) (w : World) where
    -- what all that happened came to, and then a last call of the hub that leaves the files
    pub served : (hs : List Happening) (mid : Watch H F) → Tells Step from (deeds_of Hub w hs) mid → AllByRecursion CameAsBytes hs → (n : ℕ) → take n (hs ++ waiting_in mid) ≡ hs
        → (end : Drove) (to : Watch H F) → Leads may (hub_in mid) (last_call end) (hub_in to) → files_in to ≡ files_in mid
        → Served may contents faults name text every n w hs end (hub_in from) (hub_in to) (files_in from) (files_in to)
    served hs mid tells bytes n front end to ends same =
        let pair = watched_story goes_on from mid tells.steps begun.waits (running from mid tells.steps begun.running (all_answered tells.steps tells.went_on) tells.leads) tells.went_on tells.leads in
        let told : WatchedStory may contents faults from (story tells.steps) mid = pair.0 in
        let hub_happened : List Happening = happenings told.hub_events in
        let same_happened : hub_happened ≡ happenings (story told.hub.steps) = ap (λ (l : List Event). happenings l) (sym told.hub.is) in
        let all : hs ++ waiting_in mid ≡ watched hub_happened told.texts text every =
        ap (λ (l : List Happening). l ++ waiting_in mid) (sym (whole_happened controller Hub w hs (story tells.steps) tells.deeds))
        ∙ told.told
        ∙ ap (λ n. watched_from n (looked_in from) (last_in from) told.texts hub_happened) begun.every
        ∙ ap (λ n. watched_from every n (last_in from) told.texts hub_happened) begun.looked
        ∙ ap (λ (l : List ℕ). watched_from every 0 l told.texts hub_happened) begun.last in
        record {
          steps = told.hub.steps;
          went_on = pair.1;
          leads = Leads-append may (hub_in from) (hub_in mid) told.hub.steps told.hub.leads (last_call end) (hub_in to) ends;
          texts = told.texts;
          watches =
              sym front
              ∙ ap (λ (l : List Happening). take n l) all
              ∙ ap (λ (l : List Happening). take n (watched l told.texts text every)) same_happened;
          bytes = bytes;
          events = story tells.steps;
          put_in = subst (λ (l : List Event). PutsIn l (story tells.steps)) (sym told.hub.is) told.put_in;
          told = tells.deeds;
          looks =
              told.looks
              ∙ ap (λ n. looks_from n (looked_in from) hub_happened) begun.every
              ∙ ap (λ n. looks_from every n hub_happened) begun.looked
              ∙ ap (λ (l : List Happening). looks_from every 0 l) same_happened;
          refreshes = ap (λ (f : F). contents f) same ∙ told.refreshes;
          are_told = λ held is. subst (λ (l : List ℕ). AreTold held l 1 told.texts) begun.name (told.are_told held is);
          few_missed = λ held is.
              subst (λ (f : F). min (faults (files_in from) + missed held name 1 told.texts) (2 ^ 64 - 1) ≤ faults f) (sym same)
              (subst (λ (l : List ℕ). min (faults (files_in from) + missed held l 1 told.texts) (2 ^ 64 - 1) ≤ faults (files_in mid)) begun.name (told.few_missed held is));
        }

  -- what all that happened came to up to want of memory
  module _ (watched_part : TellsWatchedPart) (from : Watch H F) (name text : List ℕ) (every : ℕ) (begun : IsBegun from name text every) (w : World) where
    pub served_part : (hs : List Happening) (to : Watch H F) (out_old out_new err_old err_new : Option (List ℕ)) → AnswersFront Step Hub w hs from to out_old out_new err_old err_new
        → ServedPart may contents faults name text every w hs (hub_in from) (hub_in to) (files_in from) (files_in to)
    served_part hs to out_old out_new err_old err_new front =
        let calls : List HubStep = front.told.steps in
        let part : WatchedPart may contents faults from (story calls) to = watched_part from to calls begun.waits begun.running (all_answered (take (length calls - 1) calls) front.told.went_on) front.told.leads in
        let until : Watch H F = part.until in
        let told : WatchedStory may contents faults from (story calls) until = part.watched in
        let hub_happened : List Happening = happenings told.hub_events in
        let all : hs ++ waiting_in until ≡ watched hub_happened told.texts text every =
        ap (λ (l : List Happening). l ++ waiting_in until) (sym front.happened)
        ∙ told.told
        ∙ ap (λ n. watched_from n (looked_in from) (last_in from) told.texts hub_happened) begun.every
        ∙ ap (λ n. watched_from every n (last_in from) told.texts hub_happened) begun.looked
        ∙ ap (λ (l : List ℕ). watched_from every 0 l told.texts hub_happened) begun.last in
        record {
          steps = told.hub.steps ++ part.hub.steps;
          leads = Leads-append may (hub_in from) (hub_in until) told.hub.steps told.hub.leads part.hub.steps (hub_in to) part.hub.leads;
          taken_in = told.hub_events;
          lost = part.lost;
          few = part.few;
          gave =
              story-append told.hub.steps part.hub.steps
              ∙ ap (λ (l : List Event). l ++ story part.hub.steps) told.hub.is
              ∙ ap (λ (l : List Event). told.hub_events ++ l) part.hub.is;
          texts = told.texts;
          watches = sym (front_then (length hs) hs (waiting_in until) refl) ∙ ap (λ (l : List Happening). take (length hs) l) all;
          bytes = front.bytes;
          events = story calls;
          put_in = told.put_in;
          all = front.happened;
          told = front.told.front;
          looks =
              told.looks
              ∙ ap (λ n. looks_from n (looked_in from) hub_happened) begun.every
              ∙ ap (λ n. looks_from every n hub_happened) begun.looked;
          are_told = λ held is. subst (λ (l : List ℕ). AreTold held l 1 told.texts) begun.name (told.are_told held is);
          few_missed = λ held is.
              let below : min (faults (files_in from) + missed held name 1 told.texts) (2 ^ 64 - 1) ≤ faults (files_in until) =
              subst (λ (l : List ℕ). min (faults (files_in from) + missed held l 1 told.texts) (2 ^ 64 - 1) ≤ faults (files_in until)) begun.name (told.few_missed held is) in
              at_most _ (faults (files_in until)) (faults (files_in to)) below part.counted;
        }

  -- nothing goes to standard output
  module _ (from to : Watch H F) (most : ℕ) (w : World) (out_old out_new err_old err_new : Option (List ℕ)) where
    pub nothing_out : (how : Drove) → Drives Step Hub most w from to out_old out_new err_old err_new how → out_new ≡ out_old
    nothing_out drove.Done (hs, mid, few, all, last) = all.out ∙ appended-nil out_old
    nothing_out drove.HubFault (hs, mid, few, all, last) = all.out ∙ appended-nil out_old
    nothing_out drove.Spent (hs, is, all) = all.out ∙ appended-nil out_old
    nothing_out drove.WriteFault (hs, few, front, told) = front_of_nothing out_old out_new front.out
    nothing_out drove.Memory (hs, few, front) = front_of_nothing out_old out_new front.out

  -- what serving came to, by how it ended
  module _ (running : IsRunning) (watched_story : TellsWatched) (watched_part : TellsWatchedPart) (from to : Watch H F) (name text : List ℕ) (every most : ℕ) (begun : IsBegun from name text every) (conf : Configuration) (out_old out_new err_old err_new : Option (List ℕ)) where
    abbrev Serves : Drove → Type 0
    Serves how = ServesTo may contents faults name text every most conf (hub_in from) (hub_in to) (files_in from) (files_in to) err_old err_new how

    -- nothing waits where the hub's answer was the last
    pub idle : (hs : List Happening) (watch : Watch H F) → waits_in watch ≡ false → length hs ≤ most → take most (hs ++ waiting_in watch) ≡ hs
    idle hs watch quiet few = front_whole most hs (waiting_in watch) (ap (λ (b : Bool). reloads b (last_in watch)) quiet) few

    pub serves : (how : Drove) → Drives Step Hub most (first conf) from to out_old out_new err_old err_new how → Serves how
    serves drove.Done (hs, mid, few, all, last) = (
      hs,
      few,
      served running watched_story from name text every begun (first conf) hs mid all.told all.bytes most (idle hs mid last.does.none_waited (omega (arith, few)))
          drove.Done to (next [] (hub_in mid) (turned turns.Done) (hub_in to) start last.does.hub) (ap (λ (x : Watch H F). files_in x) last.does.went),
      all.err,
    )
    serves drove.HubFault (hs, mid, few, all, last) = (
      hs,
      few,
      served running watched_story from name text every begun (first conf) hs mid all.told all.bytes most (idle hs mid last.does.none_waited (omega (arith, few)))
          drove.HubFault to (next [] (hub_in mid) (turned turns.Failed) (hub_in to) start last.does.hub) (ap (λ (x : Watch H F). files_in x) last.does.went),
      all.err,
    )
    serves drove.Spent (hs, is, all) = (
      hs,
      is,
      served running watched_story from name text every begun (first conf) hs to all.told all.bytes most (front_then most hs (waiting_in to) is) drove.Spent to start refl,
      all.err,
    )
    serves drove.WriteFault (hs, few, front, told) = (
      hs,
      few,
      served running watched_story from name text every begun (first conf) hs to told front.bytes (length hs) (front_then (length hs) hs (waiting_in to) refl) drove.WriteFault to start refl,
      front.err,
    )
    serves drove.Memory (hs, few, front) = (hs, few, served_part watched_part from name text every begun (first conf) hs to out_old out_new err_old err_new front, front.err)
