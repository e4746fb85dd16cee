use Rattle.std.proofs.Common.{◌≡◌, ◌∙◌, ◌*◌, List, [], length, sym, ap, subst}
use Rattle.of_match.specs.declared.entry.Entry.{Entry}
use Rattle.of_match.specs.declared.entry.Key.{Key}
use Rattle.packet_way.specs.Present.{state_of}
use Rattle.plan_units.specs.declared.unit.Unit.{Unit as PlanUnit}
use Rattle.cold_start.specs.Cold.{units_of}
use Rattle.cold_start.specs.Counts.{RisesAtMost, RisesAtLeast}
use Rattle.cold_start.proofs.Groups.{own_id}
use Rattle.warm_plan.specs.Kept.{ArePaths}
use Rattle.warm_plan.specs.Parts.{ArePartsOf, keys_at, parts_with, with_units}
use Rattle.warm_plan.proofs.Settings.{setting_of, cold_is, units_are}
use Rattle.warm_plan.proofs.again.make_whole.Goals as goal

pub make-requires-clause-dp : goal.make-requires-clause-dp
make-requires-clause-dp g c = own_id c.args.conf.now.dps c.args.dp c.in-Some.dp.now (sym c.in-Some.ensures.found)

pub make-requires-clause-paths : goal.make-requires-clause-paths
make-requires-clause-paths g c = subst (ArePaths c.args.conf.now (state_of c.args.now.now)) (sym c.in_ok-plan.ensures.paths) tt

pub returns-clause-wanted : goal.returns-clause-wanted
returns-clause-wanted g c =
    let conf = c.args.conf.now in
    let state = state_of c.args.now.now in
    let d = c.in-Some.dp.now in
    let is = sym c.in-Some.ensures.found in
    c.in_ok-make.ensures.wanted ∙ ap (λ (t : List Entry). with_units conf state d t c.as_slice.result.now) c.in_ok-plan.ensures.wanted
    ∙ ap (with_units conf state d []) (c.as_slice.ensures ∙ c.in_ok-all.ensures)
    ∙ c.all_units_make_the_cold_start.ensures.wanted conf state d (setting_of conf state c.args.dp d is c.is_sound.ensures) ∙ sym (cold_is conf state c.args.dp d is)

pub returns-clause-parts : goal.returns-clause-parts
returns-clause-parts g c =
    let conf = c.args.conf.now in
    let state = state_of c.args.now.now in
    let d = c.in-Some.dp.now in
    let is = sym c.in-Some.ensures.found in
    let setting = setting_of conf state c.args.dp d is c.is_sound.ensures in
    let units = c.as_slice.ensures ∙ c.in_ok-all.ensures in
    let wanted = c.in_ok-make.ensures.wanted ∙ ap (λ (t : List Entry). with_units conf state d t c.as_slice.result.now) c.in_ok-plan.ensures.wanted ∙ ap (with_units conf state d []) units ∙ c.all_units_make_the_cold_start.ensures.wanted conf state d setting in
    let none : ◌≡◌ {A = PlanUnit → List Key} (keys_at c.in_ok-plan.plan.parts) (λ _. []) = λ i u. c.in_ok-plan.ensures.parts u i in
    let parts : ◌≡◌ {A = PlanUnit → List Key} (keys_at c.make.new.self.parts) (parts_with conf state d (λ _. []) (units_of conf state d)) =
    (λ i u. c.in_ok-make.ensures.parts u i) ∙ (λ i. parts_with conf state d (none i) (units i)) in
    subst (λ (ps : PlanUnit → List Key). ArePartsOf ps c.make.new.self.wanted) (sym parts)
    (subst (ArePartsOf (parts_with conf state d (λ _. []) (units_of conf state d))) (sym wanted) (c.all_units_make_the_cold_start.ensures.parts conf state d setting))

pub returns-clause-told : goal.returns-clause-told
returns-clause-told g c = c.in_ok-make.ensures.told c.args.sent.now c.in_ok-plan.ensures.told

pub returns-clause-most : goal.returns-clause-most
returns-clause-most g c =
    let units = c.as_slice.ensures ∙ c.in_ok-all.ensures ∙ sym (units_are c.args.conf.now (state_of c.args.now.now) c.args.dp c.in-Some.dp.now (sym c.in-Some.ensures.found)) in
    subst (λ (us : List PlanUnit). RisesAtMost (3 * length us) (g.T.Tally.count c.args.units.now) (g.T.Tally.count c.make.new.units)) units c.in_ok-make.ensures.most

pub returns-clause-least : goal.returns-clause-least
returns-clause-least g c =
    let units = c.as_slice.ensures ∙ c.in_ok-all.ensures ∙ sym (units_are c.args.conf.now (state_of c.args.now.now) c.args.dp c.in-Some.dp.now (sym c.in-Some.ensures.found)) in
    subst (λ (us : List PlanUnit). RisesAtLeast (length us) (g.T.Tally.count c.args.units.now) (g.T.Tally.count c.make.new.units)) units c.in_ok-make.ensures.least
