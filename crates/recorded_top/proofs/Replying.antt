-- From what serving came to, to the reply that was given.
use Rattle.std.proofs.Common.{◌≡◌, ◌≢◌, ◌≤◌, ℕ, ◌⊎◌, inl, inr, List, [], take, drop, Option, None, Some, refl, sym, ap, subst, ◌∙◌}
use Rattle.std.proofs.lemmas.List.{take-append-drop}
use Rattle.fg_outside.specs.Contents.{Contents}
use Rattle.fg_outside.specs.Counts.{Rose}
use Rattle.fg_outside.specs.HubStep.{HubStep}
use Rattle.fg_outside.specs.Wrote.{appended, AppendsFront}
use Rattle.fg_outside.proofs.SinkLemmas.{appended-nil, AppendsFront-none}
use Rattle.conf_types.specs.Configuration.{Configuration}
use Rattle.command_line.specs.declared.recorded.RecordedServe.{RecordedServe}
use Rattle.ctl_world.specs.World.{World, first}
use Rattle.hub_drive.specs.declared.drive.Drove.TheVariants as drove
use Rattle.ctl_recorded.specs.declared.run.RecordedEnd.{RecordedEnd}
use Rattle.ctl_recorded.specs.declared.run.RecordedEnd.TheVariants.{By, BrokeOff}
use Rattle.ctl_recorded.specs.RecordedRun.{ServedTo, ServesRecorded, StandsTo}
use Rattle.ctl_drive.specs.Driving.{lines_of}
use Rattle.fg_outside.specs.declared.hub.Happening.{Happening}
use Rattle.faucet_top.specs.declared.deliver.Status.{Status}
use Rattle.faucet_top.specs.declared.deliver.Status.TheVariants as statuses
use Rattle.faucet_top.specs.Answer.{Answer, out_of_memory}
use Rattle.faucet_top.specs.Ends.{Ends}
use Rattle.faucet_top.specs.Given.{BreaksOff, Delivers}
use Rattle.faucet_top.specs.Status.{number_of_status}
use Rattle.faucet_top.proofs.ReplyLemmas.{line_behind, nothing_behind}
use Rattle.faucet_top.proofs.ServeLemmas.{part_since, served_since}
use Rattle.recorded_top.specs.RecordedAnswer.{GivesRecorded, IsSaid, recorded_answer, recorded_line, recorded_usage, status_recorded}

module _ {H F : Type 0} (may : H → HubStep → H → Type 0) (contents : F → Option Contents) (faults : F → ℕ) (config text : List ℕ) (reload_ms events : ℕ) (conf : Configuration) (hub0 hub1 : H) (files0 loaded_from files1 : F)
    (same : contents loaded_from ≡ contents files0) (as_often : faults loaded_from ≡ faults files0) where
  -- files that hold the same
  to_since : (w : World) (happened : List Happening) (end : RecordedEnd) → ServedTo may contents faults config text reload_ms events w happened hub0 hub1 loaded_from files1 end
      → ServedTo may contents faults config text reload_ms events w happened hub0 hub1 files0 files1 end
  to_since w happened (By drove.Done) s = served_since may contents faults config text reload_ms hub0 hub1 files0 loaded_from files1 same as_often events w happened drove.Done s
  to_since w happened (By drove.HubFault) s = served_since may contents faults config text reload_ms hub0 hub1 files0 loaded_from files1 same as_often events w happened drove.HubFault s
  to_since w happened (By drove.Spent) s = served_since may contents faults config text reload_ms hub0 hub1 files0 loaded_from files1 same as_often events w happened drove.Spent s
  to_since w happened (By drove.WriteFault) s = served_since may contents faults config text reload_ms hub0 hub1 files0 loaded_from files1 same as_often _ w happened drove.WriteFault s
  to_since w happened (By drove.Memory) s = part_since may contents faults config text reload_ms hub0 hub1 files0 loaded_from files1 same as_often w happened s
  to_since w happened BrokeOff s = record {
    hub_then = s.hub_then;
    files_then = s.files_then;
    served = served_since may contents faults config text reload_ms hub0 s.hub_then files0 loaded_from s.files_then same as_often _ w happened drove.Spent s.served;
    lost = s.lost;
    few = s.few;
    gave = s.gave;
    counted = s.counted;
  }

  module _ (record_file : List ℕ) (s0 s1 o0 o1 e0 e1 e2 : Option (List ℕ)) (m0 m1 n0 n1 n2 : ℕ) (ended : Status) where
    abbrev Delivered : Answer → Type 0
    Delivered a = Delivers a (number_of_status ended) o0 o1 e0 e2 m0 m1 n0 n2

    abbrev Broke : Answer → Type 0
    Broke a = BreaksOff a (number_of_status ended) o0 o1 e0 e2 m0 m1 n0 n2

    -- the line that says how it ended stands behind the controller's
    last_behind : (lines : List ℕ) (end : RecordedEnd) → o1 ≡ o0 → e1 ≡ appended e0 lines → (m1 ≡ m0) × (n1 ≡ n0) → Ends (status_recorded end) (recorded_line record_file end) e1 e2 n1 n2 ended → Delivered (recorded_answer record_file lines end)
    last_behind lines end quiet said kept ends =
        line_behind o0 o1 e0 e1 e2 m0 m1 n0 n1 n2 [] lines (recorded_line record_file end) (status_recorded end) ended (quiet ∙ sym (appended-nil o0)) said kept.0 kept.1 ends

    said_so : (lines : List ℕ) (end : RecordedEnd) → StandsTo e0 e1 end lines → o1 ≡ o0 → Ends (status_recorded end) (recorded_line record_file end) e1 e2 n1 n2 ended
        → (end ≡ By drove.WriteFault → Rose m0 m1 ⊎ Rose n0 n1) → (end ≢ By drove.WriteFault → (m1 ≡ m0) × (n1 ≡ n0)) → n1 ≤ n2 → IsSaid record_file Delivered Broke end lines
    said_so lines (By drove.Done) said quiet ends failed kept le = last_behind lines (By drove.Done) quiet said (kept (λ is. cc)) ends
    said_so lines (By drove.HubFault) said quiet ends failed kept le = last_behind lines (By drove.HubFault) quiet said (kept (λ is. cc)) ends
    said_so lines (By drove.Spent) said quiet ends failed kept le = last_behind lines (By drove.Spent) quiet said (kept (λ is. cc)) ends
    said_so lines (By drove.WriteFault) said quiet ends failed kept le =
        nothing_behind o0 o1 e0 e1 e2 m0 m1 n0 n1 n2 [] lines [] 4 ended
        (subst (λ (o : Option (List ℕ)). AppendsFront o0 o []) (sym quiet) (AppendsFront-none o0 [])) said (failed refl) le ends
    said_so lines (By drove.Memory) said quiet ends failed kept le = (
      take said.count lines,
      record { rest = drop said.count lines; parts = sym (take-append-drop said.count lines) },
      last_behind (take said.count lines) (By drove.Memory) quiet said.front (kept (λ is. cc)) ends,
    )
    said_so lines BrokeOff said quiet ends failed kept le = last_behind lines BrokeOff quiet said (kept (λ is. cc)) ends

    pub recorded_until : (end : RecordedEnd) → ServesRecorded may contents faults config text reload_ms events conf hub0 hub1 loaded_from files1 s0 s1 (StandsTo e0 e1 end) end → o1 ≡ o0
        → Ends (status_recorded end) (recorded_line record_file end) e1 e2 n1 n2 ended → (end ≡ By drove.WriteFault → Rose m0 m1 ⊎ Rose n0 n1) → (end ≢ By drove.WriteFault → (m1 ≡ m0) × (n1 ≡ n0)) → n1 ≤ n2
        → ServesRecorded may contents faults config text reload_ms events conf hub0 hub1 files0 files1 s0 s1 (IsSaid record_file Delivered Broke end) end
    recorded_until end s quiet ends failed kept le = record {
      happened = s.happened;
      ended = s.ended;
      served = to_since (first conf) s.happened end s.served;
      recorded = s.recorded;
      said = said_so (lines_of (first conf) s.happened) end s.said quiet ends failed kept le;
    }

-- ---- statuses

write_is_no_hub_fault : statuses.WriteFault ≡ statuses.HubFault → ⊥
write_is_no_hub_fault is = cc

by_status : (status : Status) (bytes : List ℕ) (e0 e1 : Option (List ℕ)) (n0 n1 : ℕ) (ended : Status) → Ends status bytes e0 e1 n0 n1 ended → ended ≡ statuses.HubFault → status ≡ statuses.HubFault
by_status status bytes e0 e1 n0 n1 ended (inl whole) is = sym whole.0 ∙ is
by_status status bytes e0 e1 n0 n1 ended (inr front) is = absurd (write_is_no_hub_fault (sym front.0 ∙ is))

recorded_fault : (end : RecordedEnd) → status_recorded end ≡ statuses.HubFault → end ≡ By drove.HubFault
recorded_fault (By drove.Done) is = absurd cc
recorded_fault (By drove.HubFault) is = refl
recorded_fault (By drove.Spent) is = absurd cc
recorded_fault (By drove.WriteFault) is = absurd cc
recorded_fault (By drove.Memory) is = absurd cc
recorded_fault BrokeOff is = absurd cc

-- the hub failed only where serving ended by that
pub status_fault : (end : RecordedEnd) (file : List ℕ) (e0 e1 : Option (List ℕ)) (n0 n1 : ℕ) (ended : Status) → Ends (status_recorded end) (recorded_line file end) e0 e1 n0 n1 ended → ended ≡ statuses.HubFault → end ≡ By drove.HubFault
status_fault end file e0 e1 n0 n1 ended ends is = recorded_fault end (by_status (status_recorded end) (recorded_line file end) e0 e1 n0 n1 ended ends is)

-- and where it ended by that, the status says so, or that a write failed
pub fault_status : (end : RecordedEnd) (file : List ℕ) (e0 e1 : Option (List ℕ)) (n0 n1 : ℕ) (ended : Status) → Ends (status_recorded end) (recorded_line file end) e0 e1 n0 n1 ended → ended ≢ statuses.HubFault → ended ≢ statuses.WriteFault → end ≢ By drove.HubFault
fault_status end file e0 e1 n0 n1 ended ends no_hub no_write is =
    elim ends [
      | inl whole ↦ no_hub (whole.0 ∙ ap (λ (e : RecordedEnd). status_recorded e) is)
      | inr front ↦ no_write front.0
    ]

-- ---- whatever the words ask for

pub usage_delivered : (o0 e0 e1 : Option (List ℕ)) (m0 n0 n1 : ℕ) (ended : Status) → Ends statuses.Usage recorded_usage.err e0 e1 n0 n1 ended → Delivers recorded_usage (number_of_status ended) o0 o0 e0 e1 m0 m0 n0 n1
usage_delivered o0 e0 e1 m0 n0 n1 ended (inl whole) = inl (ap number_of_status whole.0, sym (appended-nil o0), whole.1, refl, whole.2)
usage_delivered o0 e0 e1 m0 n0 n1 ended (inr front) = inr (ap number_of_status front.0, AppendsFront-none o0 [], front.1, inr front.2)

module _ {H F S : Type 0} (may : H → HubStep → H → Type 0) (contents : F → Option Contents) (faults : F → ℕ) (wrote : S → Option (List ℕ)) (absence fault : Type 0) (refused : List ℕ) (hub : H) (files : F) (sink : S) (delivered broke_off : Answer → Type 0) where
  pub memory_given : (job : Option RecordedServe) → delivered out_of_memory → GivesRecorded may contents faults wrote absence fault refused job hub hub files files sink sink delivered broke_off
  memory_given None given = (out_of_memory, inr refl, given, refl, refl, refl)
  memory_given (Some job) given = inl (out_of_memory, inl refl, given, refl, refl, refl)
