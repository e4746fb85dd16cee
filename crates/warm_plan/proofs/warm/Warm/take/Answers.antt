use Rattle.std.proofs.Common.{◌≡◌, ◌∙◌, List, sym, ap, subst}
use Rattle.of_match.specs.declared.entry.Entry.{Entry}
use Rattle.of_match.specs.declared.entry.Key.{Key}
use Rattle.of_match.specs.FlowTables.{IsInKeyOrder}
use Rattle.of_match.specs.FlowTables.{entry_at}
use Rattle.plan_units.specs.declared.unit.Unit.{Unit as PlanUnit}
use Rattle.warm_plan.specs.Kept.{ArePaths}
use Rattle.warm_plan.specs.Parts.{ArePartsOf, keys_at}
use Rattle.warm_plan.specs.Touched.{wanted_of}
use Rattle.warm_plan.proofs.warm.Warm.take.Goals as goal

pub invariant_of-self-2 : goal.invariant_of-self-2
invariant_of-self-2 c =
    let o = c.self.inside in
    let renewed = c.renew-renewed.new.self in
    let sent : List Entry = c.swap.new.x in
    let stands : sent ≡ wanted_of o.is_taken o.sent o.plan.wanted = c.swap.ensures.x_after ∙ c.in_ok-renewed.ensures.wanted in
    let kept : ◌≡◌ {A = PlanUnit → List Key} (keys_at renewed.parts) (keys_at o.plan.parts) = λ i u. c.renew-renewed.ensures.parts u i in
    let index = c.self.invariant.indexed c.if-self.false in
    let order = subst IsInKeyOrder (sym c.swap.ensures.x_after) c.are_ordered.ensures in
    record {
      kept = record { warm = λ _. stands ∙ c.self.invariant.kept.warm c.if-self.false; sent = order; wanted = order };
      indexed = λ _. record {
        sound = index.sound;
        stand = index.stand;
        keyed = subst (ArePartsOf (keys_at renewed.parts)) (sym stands) (subst (λ (ps : PlanUnit → List Key). ArePartsOf ps (wanted_of o.is_taken o.sent o.plan.wanted)) (sym kept) index.keyed);
        linked = subst (ArePaths o.conf.value o.state) (sym c.renew-renewed.ensures.paths) index.linked;
      };
      told = λ _ key differ. c.in_ok-renewed.ensures.told key (λ same. differ (
          ap (λ (t : List Entry). entry_at t key) c.swap.ensures.x_after ∙ sym same ∙ sym (ap (λ (t : List Entry). entry_at t key) c.swap.ensures.y_after)
          ));
    }
