use Rattle.std.proofs.Common.{◌≡◌, ◌∙◌, false, List, sym, ap, subst, true≢false}
use Rattle.of_match.specs.declared.entry.Key.{Key}
use Rattle.conf_types.specs.Changes.{AreNamed}
use Rattle.conf_types.specs.Configuration.{Configuration}
use Rattle.conf_types.specs.State.{State}
use Rattle.packet_way.specs.Present.{state_of}
use Rattle.plan_units.specs.declared.unit.Unit.{Unit as PlanUnit}
use Rattle.cold_start.specs.Cold.{cold_at}
use Rattle.warm_plan.specs.Kept.{Kept, ArePaths, ArePlaces, IsSound}
use Rattle.warm_plan.specs.Parts.{ArePartsOf, keys_at}
use Rattle.warm_plan.specs.Places.{kept_places}
use Rattle.warm_plan.specs.Touched.{wanted_of}
use Rattle.warm_plan.proofs.Settings.{kept_again}
use Rattle.warm_plan.proofs.warm.Warm.event.Goals as goal

pub make_again-made-requires-clause-sound : goal.make_again-made-requires-clause-sound
make_again-made-requires-clause-sound g c =
    let o = c.self.inside in
    let same : c.args.conf.now ≡ o.conf.value = c.requires.same ∙ sym (ap (λ (k : Kept). k.conf) c.self.view_is) in
    subst (λ (k : Configuration). IsSound k o.state) (sym same) (c.self.invariant.indexed c.if-was_spent.false).sound

pub make_again-made-requires-clause-named : goal.make_again-made-requires-clause-named
make_again-made-requires-clause-named g c =
    subst (λ (k : Kept). AreNamed c.args.conf.now k.state (state_of c.args.now.now) c.args.changes.now) (sym c.self.view_is) c.requires.named

pub make_again-made-requires-clause-places : goal.make_again-made-requires-clause-places
make_again-made-requires-clause-places g c =
    let o = c.self.inside in
    let same : c.args.conf.now ≡ o.conf.value = c.requires.same ∙ sym (ap (λ (k : Kept). k.conf) c.self.view_is) in
    subst (λ (k : Configuration). ArePlaces k o.state o.dp (kept_places o.stood)) (sym same) (c.self.invariant.indexed c.if-was_spent.false).stand

pub make_again-made-requires-clause-paths : goal.make_again-made-requires-clause-paths
make_again-made-requires-clause-paths g c =
    let o = c.self.inside in
    let same : c.args.conf.now ≡ o.conf.value = c.requires.same ∙ sym (ap (λ (k : Kept). k.conf) c.self.view_is) in
    subst (ArePaths c.args.conf.now o.state) (sym c.renew-renewed.ensures.paths) (subst (λ (k : Configuration). ArePaths k o.state o.plan.paths) (sym same) (c.self.invariant.indexed c.if-was_spent.false).linked)

pub invariant_of-self-in_err-renewed : goal.invariant_of-self-in_err-renewed
invariant_of-self-in_err-renewed g c = record {
  kept = record { warm = λ fresh. absurd (true≢false fresh); sent = c.self.invariant.kept.sent; wanted = c.are_ordered.ensures };
  indexed = λ fresh. absurd (true≢false fresh);
  told = λ fresh. absurd (true≢false fresh);
}

pub invariant_of-self-in_err-made : goal.invariant_of-self-in_err-made
invariant_of-self-in_err-made g c = record {
  kept = record { warm = λ fresh. absurd (true≢false fresh); sent = c.self.invariant.kept.sent; wanted = c.are_ordered-2.ensures };
  indexed = λ fresh. absurd (true≢false fresh);
  told = λ fresh. absurd (true≢false fresh);
}

pub invariant_of-self-in_err-follow : goal.invariant_of-self-in_err-follow
invariant_of-self-in_err-follow g c = record {
  kept = record { warm = λ fresh. absurd (true≢false fresh); sent = c.self.invariant.kept.sent; wanted = c.are_ordered-2.ensures };
  indexed = λ fresh. absurd (true≢false fresh);
  told = λ fresh. absurd (true≢false fresh);
}

pub invariant_of-self-2 : goal.invariant_of-self-2
invariant_of-self-2 g c =
    let o = c.self.inside in
    let conf = c.args.conf.now in
    let new = state_of c.args.now.now in
    let was : Kept = record { dp = o.dp; conf = o.conf.value; state = o.state; sent = o.sent; wanted = wanted_of o.is_taken o.sent o.plan.wanted; is_spent = o.spent } in
    let same : conf ≡ o.conf.value = c.requires.same ∙ sym (ap (λ (k : Kept). k.conf) c.self.view_is) in
    let named = subst (λ (k : Kept). AreNamed conf k.state new c.args.changes.now) (sym c.self.view_is) c.requires.named in
    let renewed = c.renew-renewed.new.self in
    let stands : renewed.wanted ≡ wanted_of o.is_taken o.sent o.plan.wanted = c.in_ok-renewed.ensures.wanted in
    let kept : ◌≡◌ {A = PlanUnit → List Key} (keys_at renewed.parts) (keys_at o.plan.parts) = λ i u. c.renew-renewed.ensures.parts u i in
    let made = kept_again was (kept_places o.stood) (keys_at o.plan.parts) o.plan.paths (o.plan.touched).keys o.plan.wanted c.self.invariant c.if-was_spent.false conf same new c.make_again-made.new.plan.wanted (keys_at c.make_again-made.new.plan.parts)
    (λ warm are. c.in_ok-made.ensures.warm (stands ∙ warm) (subst (λ (ps : PlanUnit → List Key). ArePartsOf ps renewed.wanted) (sym kept) (subst (ArePartsOf (keys_at o.plan.parts)) (sym stands) are))) in
    let before = c.self.invariant.indexed c.if-was_spent.false in
    let places : ArePlaces conf new o.dp (kept_places c.follow.new.self) =
    c.in_ok-follow.ensures o.state (subst (λ (k : Configuration). IsSound k o.state) (sym same) before.sound) c.make_again-made.ensures.sound named (subst (λ (k : Configuration). ArePlaces k o.state o.dp (kept_places o.stood)) (sym same) before.stand) in
    let now : new ≡ c.of.result = sym c.of.ensures in
    record {
      kept = record {
        warm = λ _. made.0 ∙ (λ i. cold_at (same i) (now i) o.dp);
        sent = c.self.invariant.kept.sent;
        wanted = c.are_ordered-2.ensures;
      };
      indexed = λ _. record {
        sound = subst (λ (k : Configuration). IsSound k c.of.result) same (subst (λ (s : State). IsSound conf s) now c.make_again-made.ensures.sound);
        stand = subst (λ (k : Configuration). ArePlaces k c.of.result o.dp (kept_places c.follow.new.self)) same (subst (λ (s : State). ArePlaces conf s o.dp (kept_places c.follow.new.self)) now places);
        keyed = made.1;
        linked = subst (λ (k : Configuration). ArePaths k c.of.result c.make_again-made.new.plan.paths) same (subst (λ (s : State). ArePaths conf s c.make_again-made.new.plan.paths) now c.in_ok-made.ensures.paths);
      };
      told = λ _. c.in_ok-made.ensures.told o.sent c.in_ok-renewed.ensures.told;
    }

pub returns-clause-warm : goal.returns-clause-warm
returns-clause-warm g c =
    let o = c.self.inside in
    let new = state_of c.args.now.now in
    let was : Kept = record { dp = o.dp; conf = o.conf.value; state = o.state; sent = o.sent; wanted = wanted_of o.is_taken o.sent o.plan.wanted; is_spent = o.spent } in
    let made = kept_again was (kept_places o.stood) (keys_at o.plan.parts) o.plan.paths (o.plan.touched).keys o.plan.wanted c.self.invariant c.if-was_spent.false c.args.conf.now (c.requires.same ∙ sym (ap (λ (k : Kept). k.conf) c.self.view_is)) new
    c.make_again-made.new.plan.wanted (keys_at c.make_again-made.new.plan.parts)
    (λ warm are. c.in_ok-made.ensures.warm (c.in_ok-renewed.ensures.wanted ∙ warm)
    (subst (λ (ps : PlanUnit → List Key). ArePartsOf ps c.renew-renewed.new.self.wanted) (λ i u. sym (c.renew-renewed.ensures.parts u) i) (subst (ArePartsOf (keys_at o.plan.parts)) (sym c.in_ok-renewed.ensures.wanted) are))) in
    let fresh : false ≡ o.spent = sym c.if-was_spent.false in
    let now : c.of.result ≡ new = c.of.ensures in
    let stood : ◌≡◌ {A = Kept} (record { dp = o.dp; conf = o.conf.value; state = c.of.result; sent = o.sent; wanted = c.make_again-made.new.plan.wanted; is_spent = false }) (record was { state = new; wanted = cold_at c.args.conf.now new o.dp }) =
    λ i. record { dp = o.dp; conf = o.conf.value; state = now i; sent = o.sent; wanted = made.0 i; is_spent = fresh i } in
    stood ∙ ap (λ (k : Kept). record k { state = new; wanted = cold_at c.args.conf.now new k.dp }) c.self.view_is
