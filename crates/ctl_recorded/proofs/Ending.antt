-- How serving ended of which a recording was written: counts, and where nothing was begun.
use Rattle.std.proofs.Common.{◌≡◌, ◌≢◌, ℕ, Bool, true, false, List, [], Option, refl, sym, ap, subst, ◌∙◌, arith}
use Rattle.fg_outside.specs.Contents.{Contents}
use Rattle.fg_outside.specs.Counts.{Rose}
use Rattle.fg_outside.specs.HubStep.{HubStep, Leads, start}
use Rattle.fg_outside.specs.Wrote.{appended}
use Rattle.fg_outside.proofs.SinkLemmas.{AppendsFront-none, appended-nil}
use Rattle.conf_types.specs.Configuration.{Configuration}
use Rattle.recording_hub.specs.declared.recording_hub.RecordingHub.{RecordingHub}
use Rattle.recording_hub.specs.RecordingHub as recorded
use Rattle.recording_hub.specs.RecordingHub.{faults_of, has_failed}
use Rattle.recording_hub.proofs.Keeping.{cut_none}
use Rattle.watch_hub.specs.declared.watch.Watch.{Watch}
use Rattle.watch_hub.specs.Watch.{files_in, hub_in}
use Rattle.watch_hub.specs.WatchedStory.{none}
use Rattle.ctl_world.specs.World.{World}
use Rattle.hub_drive.specs.declared.drive.Drove.{Drove}
use Rattle.hub_drive.specs.declared.drive.Drove.TheVariants as drove
use Rattle.hub_drive.specs.declared.sayings.Outlet.TheVariants.{Hub}
use Rattle.ctl_drive.specs.Driven.{Drives}
use Rattle.ctl_serve.proofs.Serving.{front_of_nothing}
use Rattle.ctl_recorded.specs.declared.run.RecordedEnd.TheVariants as ends
use Rattle.ctl_recorded.specs.RecordedRun.{ServesRecorded, StandsTo, ended_by}
use Rattle.ctl_recorded.proofs.Beneath.{Step, faults_rise, faults_stand}

-- ---- which end

by_fault : (how : Drove) (b : Bool) → ended_by how b ≡ ends.By drove.HubFault → (how ≡ drove.HubFault) × (b ≡ false)
by_fault drove.Done true is = absurd cc
by_fault drove.Done false is = absurd cc
by_fault drove.HubFault true is = absurd cc
by_fault drove.HubFault false is = (refl, refl)
by_fault drove.Spent true is = absurd cc
by_fault drove.Spent false is = absurd cc
by_fault drove.WriteFault b is = absurd cc
by_fault drove.Memory b is = absurd cc

pub by_write_fault : (how : Drove) (b : Bool) → ended_by how b ≡ ends.By drove.WriteFault → how ≡ drove.WriteFault
by_write_fault drove.Done true is = absurd cc
by_write_fault drove.Done false is = absurd cc
by_write_fault drove.HubFault true is = absurd cc
by_write_fault drove.HubFault false is = absurd cc
by_write_fault drove.Spent true is = absurd cc
by_write_fault drove.Spent false is = absurd cc
by_write_fault drove.WriteFault b is = refl
by_write_fault drove.Memory b is = absurd cc

pub not_by_write_fault : (how : Drove) (b : Bool) → ended_by how b ≢ ends.By drove.WriteFault → how ≢ drove.WriteFault
not_by_write_fault how b other is = other (ap (λ (h : Drove). ended_by h b) is)

-- ---- counts

module _ {H S : Type 0} (may : H → HubStep → H → Type 0) (hub_faults : H → ℕ) (wrote : S → Option (List ℕ)) (sink_faults : S → ℕ) (from to : RecordingHub H S) (begun : recorded.IsBegun from)
    (counts : (from to : RecordingHub H S) (steps : List HubStep) → recorded.IsBegun from → Leads (Step may hub_faults wrote sink_faults) from steps to → has_failed to ≡ false → faults_of hub_faults to ≡ hub_faults (recorded.hub_in to))
    (way : List HubStep) (leads : Leads (Step may hub_faults wrote sink_faults) from way to) where
  begins : faults_of hub_faults from ≡ hub_faults (recorded.hub_in from)
  begins = counts from from [] begun start begun.whole

  pub hub_fault : (how : Drove) → ended_by how (has_failed to) ≡ ends.By drove.HubFault → (how ≡ drove.HubFault → Rose (faults_of hub_faults from) (faults_of hub_faults to)) → Rose (hub_faults (recorded.hub_in from)) (hub_faults (recorded.hub_in to))
  hub_fault how is rose =
      let both = by_fault how (has_failed to) is in
      let ends_so : faults_of hub_faults to ≡ hub_faults (recorded.hub_in to) = counts from to way begun leads both.1 in
      subst (λ n. Rose n (hub_faults (recorded.hub_in to))) begins (subst (λ n. Rose (faults_of hub_faults from) n) ends_so (rose both.0))

  -- where driving didn't end by a fault
  same_count : faults_of hub_faults to ≡ faults_of hub_faults from → hub_faults (recorded.hub_in to) ≡ hub_faults (recorded.hub_in from)
  same_count same = omega (arith, same, begins, faults_rise may hub_faults wrote sink_faults from way to leads)

  module _ (most : ℕ) (w : World) (out_old out_new err_old err_new : Option (List ℕ)) where
    abbrev Did : Drove → Type 0
    Did how = Drives (Step may hub_faults wrote sink_faults) Hub most w from to out_old out_new err_old err_new how

    broken_fault : (b : Bool) → has_failed to ≡ b → ended_by drove.HubFault b ≢ ends.By drove.HubFault → Did drove.HubFault → hub_faults (recorded.hub_in to) ≡ hub_faults (recorded.hub_in from)
    broken_fault true is other (hs, mid, few, all, last) = last.counts.broken is ∙ faults_stand may hub_faults wrote sink_faults from all.told.steps mid all.told.went_on all.told.leads
    broken_fault false is other did = absurd (other refl)

    pub no_hub_fault : (how : Drove) → ended_by how (has_failed to) ≢ ends.By drove.HubFault → Did how → (how ≢ drove.HubFault → faults_of hub_faults to ≡ faults_of hub_faults from) → hub_faults (recorded.hub_in to) ≡ hub_faults (recorded.hub_in from)
    no_hub_fault drove.Done other did same = same_count (same (λ is. cc))
    no_hub_fault drove.HubFault other did same = broken_fault (has_failed to) refl other did
    no_hub_fault drove.Spent other did same = same_count (same (λ is. cc))
    no_hub_fault drove.WriteFault other did same = same_count (same (λ is. cc))
    no_hub_fault drove.Memory other did same = same_count (same (λ is. cc))

    -- nothing goes to standard output
    pub nothing_out : (how : Drove) → Did how → out_new ≡ out_old
    nothing_out drove.Done (hs, mid, few, all, last) = all.out ∙ appended-nil out_old
    nothing_out drove.HubFault (hs, mid, few, all, last) = all.out ∙ appended-nil out_old
    nothing_out drove.Spent (hs, is, all) = all.out ∙ appended-nil out_old
    nothing_out drove.WriteFault (hs, few, front, told) = front_of_nothing out_old out_new front.out
    nothing_out drove.Memory (hs, few, front) = front_of_nothing out_old out_new front.out

-- ---- where the controller wasn't made

none_written : (old : Option (List ℕ)) → old ≡ appended (appended old []) []
none_written old = sym (appended-nil (appended old []) ∙ appended-nil old)
