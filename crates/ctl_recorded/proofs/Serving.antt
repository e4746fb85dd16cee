-- What serving came to of which a recording was written.
use Rattle.std.proofs.Common.{◌≡◌, ◌≤◌, ℕ, inl, inr, Bool, true, false, List, [], ◌∷◌, ◌++◌, length, take, Option, refl, sym, ap, subst, ◌∙◌, arith, true≢false}
use Rattle.std.specs.List.{AllByRecursion}
use Rattle.fg_outside.specs.declared.hub.Happening.{Happening}
use Rattle.fg_outside.specs.declared.hub.Turn.TheVariants as turns
use Rattle.fg_outside.specs.Contents.{Contents}
use Rattle.fg_outside.specs.HubStep.{HubStep, Leads, Story, next, start, story, turned}
use Rattle.conf_types.specs.Configuration.{Configuration}
use Rattle.recording_hub.specs.declared.recording_hub.RecordingHub.{RecordingHub}
use Rattle.recording_hub.specs.declared.recorder.Recorder.{Recorder}
use Rattle.recording_hub.specs.Recorder.{is_broken}
use Rattle.recording_hub.specs.RecordedStory.{RecordedStory}
use Rattle.recording_hub.specs.RecordingHub as recorded
use Rattle.recording_hub.specs.RecordingHub.{faults_of, has_failed, sink_in}
use Rattle.watch_hub.specs.declared.watch.Watch.{Watch}
use Rattle.watch_hub.specs.Watch.{IsBegun, files_in, hub_in, last_in, waiting_in, waits_in}
use Rattle.watch_hub.specs.Watched.{reloads}
use Rattle.ctl_world.specs.World.{World, first}
use Rattle.hub_drive.specs.declared.drive.Drove.{Drove}
use Rattle.hub_drive.specs.declared.drive.Drove.TheVariants as drove
use Rattle.hub_drive.specs.declared.sayings.Outlet.TheVariants.{Hub}
use Rattle.ctl_drive.specs.Driving.{deeds_of}
use Rattle.hub_drive.specs.Driven.{CameAsBytes, Tells}
use Rattle.ctl_drive.specs.Driven.{AnswersAll, AnswersFront, Drives}
use Rattle.ctl_serve.specs.Served.{Served, ServedPart, last_call}
use Rattle.ctl_serve.proofs.Serving.{IsRunning, TellsWatched, TellsWatchedPart, front_then, front_whole, served, served_part}
use Rattle.ctl_recorded.specs.declared.run.RecordedEnd.{RecordedEnd}
use Rattle.ctl_recorded.specs.declared.run.RecordedEnd.TheVariants as ends
use Rattle.ctl_recorded.specs.RecordedRun.{ServedBefore, ServesRecorded, StandsTo, ended_by}
use Rattle.ctl_recorded.proofs.Beneath.{Step, tells_beneath}
use Rattle.ctl_recorded.proofs.Lost.{WStep, WentPart, part_beneath}
use Rattle.ctl_recorded.proofs.Recorded.{quiet_deeds, recording_of, recording_of_front, recording_so_far}

module _ {H F S : Type 0} (may : H → HubStep → H → Type 0) (contents : F → Option Contents) (faults absences : F → ℕ) (hub_faults : Watch H F → ℕ) (wrote : S → Option (List ℕ)) (sink_faults : S → ℕ) where
  abbrev pub Recorded : Type 0
  Recorded = RecordingHub (Watch H F) S

  abbrev pub W : Watch H F → HubStep → Watch H F → Type 0
  W = WStep may contents faults absences

  abbrev pub R : Recorded → HubStep → Recorded → Type 0
  R = Step W hub_faults wrote sink_faults

  abbrev pub watch_in : Recorded → Watch H F
  watch_in it = recorded.hub_in it

  -- what the law of a recording hub says
  abbrev pub AreRecorded : Type 0
  AreRecorded = (from to : Recorded) (steps : List HubStep) → recorded.IsBegun from → Leads R from steps to → RecordedStory W wrote from (story steps) to

  module _ (running : IsRunning may contents faults absences) (watched_story : TellsWatched may contents faults absences) (watched_part : TellsWatchedPart may contents faults absences) (are_recorded : AreRecorded)
      (from to : Recorded) (recording_begun : recorded.IsBegun from) (name text : List ℕ) (every most : ℕ) (begun : IsBegun (watch_in from) name text every) (conf : Configuration) (out_old out_new err_old err_new : Option (List ℕ)) where
    abbrev pub Serves : RecordedEnd → Type 0
    Serves end =
        ServesRecorded may contents faults name text every most conf (hub_in (watch_in from)) (hub_in (watch_in to)) (files_in (watch_in from)) (files_in (watch_in to)) (wrote (sink_in from)) (wrote (sink_in to)) (StandsTo err_old err_new end) end

    abbrev Answered : (hs : List Happening) (mid : Recorded) → Type 0
    Answered hs mid = AnswersAll R Hub (first conf) hs from mid out_old out_new err_old err_new

    -- a last turn that tells nothing behind what was answered
    last_way : (hs : List Happening) (mid : Recorded) (all : Answered hs mid) (step : HubStep) → R mid step to → Leads R from (all.told.steps ++ step ∷ []) to
    last_way hs mid all step last = next all.told.steps mid step to all.told.leads last

    still_whole : (mid : Recorded) → to.recorder ≡ mid.recorder → has_failed to ≡ true → has_failed mid ≡ false → ⊥
    still_whole mid same broken whole = true≢false (sym broken ∙ ap (λ (rec : Recorder S). is_broken rec) same ∙ whole)

    -- nothing waits where the hub's answer was the last
    idle_here : (hs : List Happening) (watch : Watch H F) → waits_in watch ≡ false → length hs ≤ most → take most (hs ++ waiting_in watch) ≡ hs
    idle_here hs watch quiet few = front_whole most hs (waiting_in watch) (ap (λ (b : Bool). reloads b (last_in watch)) quiet) few

    -- a turn that failed though the recording is whole is the hub's
    ended_whole : (mid : Recorded) → has_failed to ≡ false → recorded.Does W wrote sink_faults mid (turned turns.Failed) to → recorded.EndsWith W turns.Failed mid to
    ended_whole mid whole does =
        elim does [
          | inl its ↦ its
          | inr broken ↦ elim broken [
            | inl breaks ↦ absurd (true≢false (sym breaks.breaks.broken ∙ whole))
            | inr stays ↦ absurd (true≢false (sym stays.was_broken ∙ sym (ap (λ (rec : Recorder S). is_broken rec) stays.recorder) ∙ whole))
          ]
        ]

    -- the watch was served
    served_by : (hs : List Happening) (mid : Recorded) → Tells R from (deeds_of Hub (first conf) hs) mid → AllByRecursion CameAsBytes hs → (n : ℕ) → take n (hs ++ waiting_in (watch_in mid)) ≡ hs → (end : Drove) (last : Watch H F) → Leads may (hub_in (watch_in mid)) (last_call end) (hub_in last)
        → files_in last ≡ files_in (watch_in mid) → Served may contents faults name text every n (first conf) hs end (hub_in (watch_in from)) (hub_in last) (files_in (watch_in from)) (files_in last)
    served_by hs mid told bytes n front end last leads same =
        served may contents faults absences running watched_story (watch_in from) name text every begun (first conf) hs (watch_in mid) (tells_beneath W hub_faults wrote sink_faults from mid (deeds_of Hub (first conf) hs) told) bytes n front end last leads same

    -- ---- the recording broke off

    -- what the hub gave behind what was answered, of which there is no whole record
    gave_none : (mid : Watch H F) → watch_in to ≡ mid → Story may (hub_in mid) [] (hub_in (watch_in to))
    gave_none mid same = record { steps = []; leads = subst (λ (l : Watch H F). Leads may (hub_in mid) [] (hub_in l)) (sym same) start; is = refl }

    before_none : (hs : List Happening) (mid : Recorded) → Answered hs mid → watch_in to ≡ watch_in mid → ServedBefore may contents faults name text every (first conf) hs (hub_in (watch_in from)) (hub_in (watch_in to)) (files_in (watch_in from)) (files_in (watch_in to))
    before_none hs mid all same = record {
      hub_then = hub_in (watch_in mid);
      files_then = files_in (watch_in mid);
      served = served_by hs mid all.told all.bytes (length hs) (front_then (length hs) hs (waiting_in (watch_in mid)) refl) drove.Spent (watch_in mid) start refl;
      lost = [];
      few = omega arith;
      gave = gave_none (watch_in mid) same;
      counted = omega (arith, ap (λ (l : Watch H F). faults (files_in l)) same);
    }

    before_one : (hs : List Happening) (mid : Recorded) → Answered hs mid → (it : Happening) → W (watch_in mid) (turned (turns.Happened it)) (watch_in to)
        → ServedBefore may contents faults name text every (first conf) hs (hub_in (watch_in from)) (hub_in (watch_in to)) (files_in (watch_in from)) (files_in (watch_in to))
    before_one hs mid all it step =
        elim step.does [
          | inl tells ↦ record {
            hub_then = hub_in (watch_in mid);
            files_then = files_in (watch_in mid);
            served = served_by hs mid all.told all.bytes (length hs) (front_then (length hs) hs (waiting_in (watch_in mid)) refl) drove.Spent (watch_in mid) start refl;
            lost = [];
            few = omega arith;
            gave = record { steps = []; leads = subst (λ (l : H). Leads may (hub_in (watch_in mid)) [] l) (sym (ap hub_in tells.after)) start; is = refl };
            counted = step.along.file.counted_faults;
          }
          | inr passes ↦ record {
            hub_then = hub_in (watch_in mid);
            files_then = files_in (watch_in mid);
            served = served_by hs mid all.told all.bytes (length hs) (front_then (length hs) hs (waiting_in (watch_in mid)) refl) drove.Spent (watch_in mid) start refl;
            lost = it ∷ [];
            few = omega arith;
            gave = record { steps = turned (turns.Happened it) ∷ []; leads = next [] (hub_in (watch_in mid)) (turned (turns.Happened it)) (hub_in (watch_in to)) start passes.hub; is = refl };
            counted = step.along.file.counted_faults;
          }
        ]

    -- ---- by how driving ended, and whether the recording is broken

    abbrev Did : Drove → Type 0
    Did how = Drives R Hub most (first conf) from to out_old out_new err_old err_new how

    done : (is_whole : has_failed to ≡ false) → Did drove.Done → Serves (ends.By drove.Done)
    done is_whole (hs, mid, few, all, last) =
        let last_watch = last.does.hub in
        record {
          happened = hs;
          ended = few;
          served = served_by hs mid all.told all.bytes most (idle_here hs (watch_in mid) last_watch.does.none_waited (omega (arith, few)))
              drove.Done (watch_in to) (next [] (hub_in (watch_in mid)) (turned turns.Done) (hub_in (watch_in to)) start last_watch.does.hub) (ap (λ (x : Watch H F). files_in x) last_watch.does.went);
          recorded = recording_of W wrote from to (story (all.told.steps ++ turned turns.Done ∷ [])) (are_recorded from to (all.told.steps ++ turned turns.Done ∷ []) recording_begun (last_way hs mid all (turned turns.Done) last)) conf hs
              (quiet_deeds all.told.steps (turned turns.Done) refl ∙ all.told.deeds) is_whole;
          said = all.err;
        }

    failed : (is_whole : has_failed to ≡ false) → Did drove.HubFault → Serves (ends.By drove.HubFault)
    failed is_whole (hs, mid, few, all, last) =
        let last_ends = ended_whole mid is_whole last.does in
        let last_watch = last_ends.hub in
        record {
          happened = hs;
          ended = few;
          served = served_by hs mid all.told all.bytes most (idle_here hs (watch_in mid) last_watch.does.none_waited (omega (arith, few)))
              drove.HubFault (watch_in to) (next [] (hub_in (watch_in mid)) (turned turns.Failed) (hub_in (watch_in to)) start last_watch.does.hub) (ap (λ (x : Watch H F). files_in x) last_watch.does.went);
          recorded = recording_of W wrote from to (story (all.told.steps ++ turned turns.Failed ∷ [])) (are_recorded from to (all.told.steps ++ turned turns.Failed ∷ []) recording_begun (last_way hs mid all (turned turns.Failed) last)) conf hs
              (quiet_deeds all.told.steps (turned turns.Failed) refl ∙ all.told.deeds) is_whole;
          said = all.err;
        }

    all_taken : (is_whole : has_failed to ≡ false) → Did drove.Spent → Serves (ends.By drove.Spent)
    all_taken is_whole (hs, is, all) = record {
      happened = hs;
      ended = is;
      served = served_by hs to all.told all.bytes most (front_then most hs (waiting_in (watch_in to)) is) drove.Spent (watch_in to) start refl;
      recorded = recording_of W wrote from to (story all.told.steps) (are_recorded from to all.told.steps recording_begun all.told.leads) conf hs all.told.deeds is_whole;
      said = all.err;
    }

    unwritten : Did drove.WriteFault → Serves (ends.By drove.WriteFault)
    unwritten (hs, few, front, told) = record {
      happened = hs;
      ended = few;
      served = served_by hs to told front.bytes (length hs) (front_then (length hs) hs (waiting_in (watch_in to)) refl) drove.WriteFault (watch_in to) start refl;
      recorded = recording_so_far W wrote from to (story told.steps) (are_recorded from to told.steps recording_begun told.leads) conf hs told.deeds;
      said = front.err;
    }

    out_of_memory : Did drove.Memory → Serves (ends.By drove.Memory)
    out_of_memory (hs, few, front) =
        let went : WentPart may contents faults absences (watch_in from) (deeds_of Hub (first conf) hs) hs (watch_in to) =
        part_beneath may contents faults absences hub_faults wrote sink_faults from front.told.steps to (deeds_of Hub (first conf) hs) hs front.told.leads front.told.front front.told.went_on front.happened
        in
        let answers : AnswersFront W Hub (first conf) hs (watch_in from) went.until out_old out_new err_old err_new =
        record { told = went.told; happened = went.happened; out = front.out; err = front.err; but_last = front.but_last; bytes = front.bytes }
        in
        let part : ServedPart may contents faults name text every (first conf) hs (hub_in (watch_in from)) (hub_in went.until) (files_in (watch_in from)) (files_in went.until) =
        served_part may contents faults absences watched_part (watch_in from) name text every begun (first conf) hs went.until out_old out_new err_old err_new answers
        in
        record {
          happened = hs;
          ended = few;
          served =
              subst (λ (f : F). ServedPart may contents faults name text every (first conf) hs (hub_in (watch_in from)) (hub_in (watch_in to)) (files_in (watch_in from)) f) went.files
              (subst (λ (h : H). ServedPart may contents faults name text every (first conf) hs (hub_in (watch_in from)) h (files_in (watch_in from)) (files_in went.until)) went.hub part);
          recorded = recording_of_front W wrote from to (story front.told.steps) (are_recorded from to front.told.steps recording_begun front.told.leads) conf hs front.told.front front.happened;
          said = front.err;
        }

    broke_off_failed : (is_broken : has_failed to ≡ true) → Did drove.HubFault → Serves ends.BrokeOff
    broke_off_failed is_broken (hs, mid, few, all, last) = record {
      happened = hs;
      ended = omega (arith, few);
      served = elim last.does [
        | inl its ↦ absurd (still_whole mid its.recorder is_broken its.was_whole)
        | inr broken ↦ elim broken [
          | inl breaks ↦ before_one hs mid all breaks.it breaks.hub
          | inr stays ↦ before_none hs mid all stays.hub
        ]
      ];
      recorded = recording_so_far W wrote from to (story (all.told.steps ++ turned turns.Failed ∷ [])) (are_recorded from to (all.told.steps ++ turned turns.Failed ∷ []) recording_begun (last_way hs mid all (turned turns.Failed) last)) conf hs
          (quiet_deeds all.told.steps (turned turns.Failed) refl ∙ all.told.deeds);
      said = all.err;
    }

    broke_off_taken : Did drove.Spent → Serves ends.BrokeOff
    broke_off_taken (hs, is, all) = record {
      happened = hs;
      ended = omega (arith, is);
      served = before_none hs to all refl;
      recorded = recording_so_far W wrote from to (story all.told.steps) (are_recorded from to all.told.steps recording_begun all.told.leads) conf hs all.told.deeds;
      said = all.err;
    }

    by_end : (how : Drove) (b : Bool) → has_failed to ≡ b → Did how → Serves (ended_by how b)
    by_end drove.Done true is (hs, mid, few, all, last) = absurd (still_whole mid last.does.recorder is last.does.was_whole)
    by_end drove.Done false is did = done is did
    by_end drove.HubFault true is did = broke_off_failed is did
    by_end drove.HubFault false is did = failed is did
    by_end drove.Spent true is did = broke_off_taken did
    by_end drove.Spent false is did = all_taken is did
    by_end drove.WriteFault b is did = unwritten did
    by_end drove.Memory b is did = out_of_memory did

    pub serves_recorded : (how : Drove) → Did how → Serves (ended_by how (has_failed to))
    serves_recorded how did = by_end how (has_failed to) refl did
