use Rattle.std.proofs.Common.{◌≡◌, true, ap, drop, get_or, List, sym, subst, ◌∙◌, ◌+◌, ◌∷◌}
use Rattle.std.specs.List.{AllByRecursion}
use Rattle.std.proofs.lemmas.List.{at_drop_more, drop_more}
use Rattle.net_base.specs.declared.numbers.DpId.{DpId}
use Rattle.conf_types.specs.State.{is_running}
use Rattle.ctl_world.specs.World.{IsSound, World, running}
use Rattle.ctl_settle.specs.Plans.{AreBrought}
use Rattle.ctl_settle.specs.Rest.{AreInOrder}
use Rattle.ctl_settle.specs.Settling.{batch, batches}
use Rattle.ctl_settle.proofs.settling.say_batches.Goals as goal

abbrev none : DpId
none = record { 0 = 0 }

abbrev AllRun : World → List DpId → Type 0
AllRun w = AllByRecursion (λ (dp : DpId). is_running (running w) dp ≡ true)

pub batch-requires : goal.batch-requires
batch-requires c =
    let i = c.loop-dp.dp-index in
    let dps = c.args.dps.now in
    let dp = get_or dps i none in
    let w = c.loop-dp.world in
    let now = c.loop-dp.invariant in
    let run : AllRun w (dp ∷ drop (i + 1) dps) = subst (AllRun w) (drop_more dps i none c.loop-dp-test.true) now.run in
    c.a_batch_keeps_the_plans.ensures.ready dp w c.loop-dp.plans now.in_order now.brought run.0

pub loop-dp-preserved : goal.loop-dp-preserved
loop-dp-preserved c =
    let w = c.loop-dp.world in
    let i = c.loop-dp.dp-index in
    let dps = c.args.dps.now in
    let dp = get_or dps i none in
    let now = c.loop-dp.invariant in
    let run : AllRun w (dp ∷ drop (i + 1) dps) = subst (AllRun w) (drop_more dps i none c.loop-dp-test.true) now.run in
    let said = c.in_ok-batch.ensures.said in
    let keeps = c.a_batch_keeps_the_plans.ensures in
    record {
      whole = ap (batches (drop (i + 1) dps)) said ∙ sym (at_drop_more (λ (ds : List DpId). batches ds w) dps i none c.loop-dp-test.true) ∙ now.whole;
      sound = subst IsSound (sym said) (c.a_batch_leaves_the_state.ensures w dp now.sound);
      in_order = subst AreInOrder (sym said) (keeps.in_order dp w now.in_order);
      brought = subst (λ (v : World). AreBrought v c.batch.new.plans) (sym said)
          (subst (λ held. AreBrought (batch dp w) held) (sym c.in_ok-batch.ensures.taken) (keeps.brought dp w c.loop-dp.plans now.in_order now.brought run.0));
      run = subst (λ (ids : List DpId). AllByRecursion (λ (d : DpId). is_running ids d ≡ true) (drop (i + 1) dps)) (sym (ap running said ∙ keeps.running dp w)) run.1;
    }
