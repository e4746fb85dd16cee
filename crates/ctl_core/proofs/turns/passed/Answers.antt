use Rattle.std.proofs.Common.{◌≡◌, ◌<◌, [], Some, None, map, max, refl, subst, sym, ap, ◌∙◌, arith}
use Rattle.std.specs.List.{AllByRecursion, list_any}
use Rattle.conf_types.specs.Configuration.{Configuration}
use Rattle.conf_types.specs.State.{IsValidState}
use Rattle.net_base.specs.declared.numbers.Moment.{Moment}
use Rattle.ctl_world.specs.Alike.{IsAlike}
use Rattle.ctl_world.specs.World.{IsSound, World, now}
use Rattle.ctl_life.specs.Silence.{is_silent, show}
use Rattle.ctl_settle.specs.Plans.{Fit}
use Rattle.ctl_settle.specs.Rest.{AreInOrder}
use Rattle.ctl_settle.specs.Settling.{settle}
use Rattle.ctl_settle.specs.Touched.{AllFollow}
use Rattle.ctl_settle.proofs.Following.{named_follow}
use Rattle.ctl_core.specs.declared.known.Known.{Known}
use Rattle.ctl_core.specs.Known.{HasSettled}
use Rattle.cold_start.specs.Counts.{RisesAtMost}
use Rattle.ctl_core.specs.Allowed.{settling}
use Rattle.ctl_core.proofs.Bound.{AllDiffer, rises_within}
use Rattle.ctl_core.proofs.Spent.{AreOld, old_passed}
use Rattle.ctl_core.proofs.TurnedDiffer.{aged_differ}
use Rattle.ctl_core.proofs.NoneNew.{NoneIsNew, passed_new}
use Rattle.ctl_core.proofs.Silent.{none_falls, none_silent, was_kept}
use Rattle.ctl_core.proofs.Telling.{at_moment_follow, quiet_before}
use Rattle.ctl_core.specs.Turning.{aged as aged_names}
use Rattle.ctl_core.specs.Turns.{age, pass}
use Rattle.ctl_core.proofs.Rests.{moment_passes, moment_rests, moment_until, none_ages}
use Rattle.ctl_core.proofs.turns.passed.Goals as goal

pub until_at-known-requires : goal.until_at-known-requires
until_at-known-requires g c = record { bound = c.requires.until; rests = c.requires.rests }

pub returns-then-known : goal.returns-then-known
returns-then-known g c =
    let k : Known = record c.args.known.now { until = c.until_at-known.result } in
    let settled : HasSettled k = record {
      sound = c.requires.sound;
      in_order = c.requires.in_order;
      held = c.requires.held;
      follow = c.requires.follow;
      states = c.requires.states;
      rests = c.until_at-known.ensures.rests;
      until = c.until_at-known.ensures.bound;
    } in
    let v : World = c.look_after.new.world in
    let rest = c.alike_worlds_rest_alike.ensures in
    let same = c.what_rests_settles_as_it_is.ensures in
    let alike = c.in_ok-closed.ensures.alike c.if-not-closed.true in
    let passed : v ≡ pass c.args.moment k.world =
    sym (none_ages rest.rest rest.none_over rest.until same k settled c.args.moment v alike c.if-known.true) ∙ ap age c.in_ok-closed.ensures.looked in
    record {
      done = moment_passes rest.rest rest.none_over rest.until same k settled c.args.moment v alike c.if-known.true ∙ ap (λ x. settle (age x)) c.in_ok-closed.ensures.looked;
      settled = record {
        sound = subst IsSound (sym passed) (c.a_moment_leaves_it_sound.ensures c.args.moment k.world c.a_configuration_is_valid.ensures c.requires.sound);
        in_order = subst AreInOrder (sym passed) (c.what_happens_keeps_connections_in_order.ensures.passed c.args.moment k.world c.requires.in_order);
        follow = named_follow k.world v [] (quiet_before c.args.moment k.world v alike (let less : v.moment.0 < k.until = c.if-known.true in omega (arith, less, settled.until.least))) k.plans c.requires.follow;
        states = subst (λ (conf : Configuration). AllByRecursion (λ h. IsValidState conf h.plan.state) k.plans) (sym alike.conf) c.requires.states;
        held = c.alike_worlds_have_the_same_plans.ensures v (show c.args.moment k.world) k.plans alike (record { fit = c.requires.held.fit; there = c.requires.held.there; shut = c.requires.held.shut });
        rests = moment_rests rest.rest rest.none_over rest.until same k settled c.args.moment v alike;
        until = moment_until rest.rest rest.none_over rest.until same k settled c.args.moment v alike c.if-known.true;
      };
      left_out = λ _ _. refl;
      most = omega arith;
    }

pub settle_anew-requires : goal.settle_anew-requires
settle_anew-requires g c =
    let k = c.args.known.now in
    let w = k.world in
    let v : World = c.look_after.new.world in
    let shown : Moment = record { 0 = max w.moment.0 c.args.moment } in
    let aged = c.in_ok-touched.ensures.done ∙ ap age c.in_ok-closed.ensures.looked in
    let done = c.in_ok-touched.ensures.done in
    let alike : c.in_ok-kept.kept ≡ None → IsAlike v (show c.args.moment w) =
    λ none. c.in_ok-closed.ensures.alike (c.in_ok-closed.ensures.told ∙ none_falls (show c.args.moment w) (none_silent (list_any (is_silent shown) w.conns) (now w) (sym c.in_ok-kept.ensures ∙ none)) (map (λ d. d.number) w.conns)) in
    let new : NoneIsNew w (age v) = subst (NoneIsNew w) (ap age (sym c.in_ok-closed.ensures.looked)) (passed_new w c.args.moment) in
    record {
      sound = subst IsSound (sym aged) (c.a_moment_leaves_it_sound.ensures c.args.moment w c.a_configuration_is_valid.ensures c.requires.sound);
      in_order = subst AreInOrder (sym aged) (c.what_happens_keeps_connections_in_order.ensures.passed c.args.moment w c.requires.in_order);
      fit = subst (λ (u : World). Fit u.conns k.plans) (sym aged) (c.what_happens_keeps_the_plans.ensures.passed c.args.moment w k.plans c.requires.held.fit);
      follow = subst (λ may. AllFollow c.age_named.new.world may k.plans) (sym c.in_ok-touched.ensures.touched)
          (subst (λ (u : World). AllFollow u (Some (aged_names w.moment.0 c.in_ok-kept.kept v)) k.plans) (sym done)
          (at_moment_follow c.args.moment w v c.in_ok-kept.kept alike (λ s is. was_kept (list_any (is_silent shown) w.conns) (now w) s (sym c.in_ok-kept.ensures ∙ is)) new k.plans c.requires.follow));
      bounds = tt;
    }

pub returns-clause-most : goal.returns-clause-most
returns-clause-most g c =
    let k = c.args.known.now in
    let w = k.world in
    let u : World = c.look_after.new.world in
    let v : World = c.age_named.new.world in
    let shown : Moment = record { 0 = max w.moment.0 c.args.moment } in
    let done = c.in_ok-touched.ensures.done in
    let is = done ∙ ap age c.in_ok-closed.ensures.looked in
    let aged = sym is in
    let alike : c.in_ok-kept.kept ≡ None → IsAlike u (show c.args.moment w) =
    λ none. c.in_ok-closed.ensures.alike (c.in_ok-closed.ensures.told ∙ none_falls (show c.args.moment w) (none_silent (list_any (is_silent shown) w.conns) (now w) (sym c.in_ok-kept.ensures ∙ none)) (map (λ d. d.number) w.conns)) in
    let new : NoneIsNew w (age u) = subst (NoneIsNew w) (ap age (sym c.in_ok-closed.ensures.looked)) (passed_new w c.args.moment) in
    let conf : u.conf ≡ w.conf = new.conf in
    let sound : IsSound v = subst IsSound aged (c.a_moment_leaves_it_sound.ensures c.args.moment w c.a_configuration_is_valid.ensures c.requires.sound) in
    let valid : IsValidState w.conf (now (age u)) = subst (λ (cf : Configuration). IsValidState cf (now (age u))) conf (subst IsSound done sound).valid in
    let all : AllDiffer w (age u) (aged_names w.moment.0 c.in_ok-kept.kept u) =
    aged_differ w u c.in_ok-kept.kept conf c.requires.sound valid (λ none. (alike none).hosts) (λ s is_kept. was_kept (list_any (is_silent shown) w.conns) (now w) s (sym c.in_ok-kept.ensures ∙ is_kept)) in
    let a = g.T.Tally.count c.args.units.now in
    let b = g.T.Tally.count c.settle_anew.new.units in
    subst (λ (x : World). RisesAtMost (settling w x) a b) is
    (rises_within c.what_asks_touch_was_known.ensures.lost c.what_asks_touch_was_known.ensures.named k c.requires v (ap (λ (x : World). x.conf) done ∙ conf) sound
    (subst AreInOrder aged (c.what_happens_keeps_connections_in_order.ensures.passed c.args.moment w c.requires.in_order))
    (subst (λ (x : World). Fit x.conns k.plans) aged (c.what_happens_keeps_the_plans.ensures.passed c.args.moment w k.plans c.requires.held.fit))
    (subst (λ (x : World). AreOld w.neighbours.neighbours x.neighbours.neighbours) aged (old_passed w c.args.moment))
    c.in_ok-touched.touched (aged_names w.moment.0 c.in_ok-kept.kept u) c.in_ok-touched.ensures.touched (subst (λ (x : World). AllDiffer w x (aged_names w.moment.0 c.in_ok-kept.kept u)) (sym done) all) a b c.settle_anew.ensures.most)
