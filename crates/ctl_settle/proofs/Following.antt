-- What may differ from what the plans were brought up to, step by step.
use Rattle.std.proofs.Common.{◌≡◌, Bool, true, Some, None, List, [], ◌∷◌, ◌++◌, filter, refl, sym, subst, ◌∙◌}
use Rattle.std.specs.List.{AllByRecursion}
use Rattle.std.specs.Option.{option_map}
use Rattle.warm_plan.specs.Kept.{Kept}
use Rattle.law_runs.specs.Members.{all_by, all_filtered}
use Rattle.conf_types.specs.declared.change.Change.{Change}
use Rattle.conf_types.specs.Changes.{AreNamed}
use Rattle.law_names.specs.Names.{Names}
use Rattle.law_names.proofs.Joined.{none_named, through_named}
use Rattle.ctl_world.specs.Alike.{IsAlike}
use Rattle.ctl_world.specs.World.{World, now}
use Rattle.ctl_world.proofs.Faces.{same_now}
use Rattle.ctl_settle.specs.declared.plans.Held.{Held}
use Rattle.ctl_settle.specs.Plans.{AreCurrent}
use Rattle.ctl_settle.specs.Touched.{AllFollow, AreAmong, Follows, Goes, MayDiffer}

pub all_same : {A : Type 0} (P Q : A → Type 0) → ((x : A) → P x → Q x) → (xs : List A) → AllByRecursion P xs → AllByRecursion Q xs
all_same P Q each [] all = tt
all_same P Q each (x ∷ xs) all = (each x all.0, all_same P Q each xs all.1)

-- ---- steps

pub goes_nowhere : (w : World) (was : MayDiffer) → Goes w w was was
goes_nowhere w was = record { conf = refl; among = λ old is. is; any = λ none. none }

pub goes_on : (u v w : World) (first second third : MayDiffer) → Goes u v first second → Goes v w second third → Goes u w first third
goes_on u v w first second third one two = record {
  conf = two.conf ∙ one.conf;
  among = λ old is. subst (λ conf. AreAmong conf old (now w) third) one.conf (two.among old (subst (λ conf. AreAmong conf old (now v) second) (sym one.conf) (one.among old is)));
  any = λ none. two.any (one.any none);
}

module _ (w v : World) (named : List Change) (names : Names w v named) where
  pub goes_by : (was : MayDiffer) → Goes w v was (option_map (λ changes. changes ++ named) was)
  goes_by None = record { conf = names.conf; among = λ old is. tt; any = λ none. refl }
  goes_by (Some changes) = record {
    conf = names.conf;
    among = λ old is. through_named w.conf old (now w) (now v) changes named is names.named;
    any = λ none. absurd (cc);
  }

-- ---- plans

module _ (w v : World) where
  follows_on : (p : Kept) (was is : MayDiffer) → Goes w v was is → Follows w.conf (now w) was p → Follows v.conf (now v) is p
  follows_on p None is goes follows = subst (λ may. Follows v.conf (now v) may p) (sym (goes.any refl)) tt
  follows_on p (Some changes) None goes follows = tt
  follows_on p (Some changes) (Some more) goes follows =
      (follows.0 ∙ sym goes.conf, subst (λ conf. AreNamed conf p.state (now v) more) (sym goes.conf) (goes.among p.state follows.1))

  pub all_follow_on : (was is : MayDiffer) → Goes w v was is → (held : List Held) → AllFollow w was held → AllFollow v is held
  all_follow_on was is goes held all =
      all_same (λ (h : Held). Follows w.conf (now w) was h.plan) (λ (h : Held). Follows v.conf (now v) is h.plan) (λ h follows. follows_on h.plan was is goes follows) held all

  -- what nothing differed from
  pub named_follow : (changes : List Change) → Names w v changes → (held : List Held) → AllFollow w (Some []) held → AllFollow v (Some changes) held
  named_follow changes names held all =
      all_same (λ (h : Held). Follows w.conf (now w) (Some []) h.plan) (λ (h : Held). Follows v.conf (now v) (Some changes) h.plan)
      (λ h follows. (
        follows.0 ∙ sym names.conf,
        subst (λ conf. AreNamed conf h.plan.state (now v) changes) (sym names.conf) (through_named w.conf h.plan.state (now w) (now v) [] changes follows.1 names.named),
      )) held all

pub any_follow : (w : World) (held : List Held) → AllFollow w None held
any_follow w held = all_by (λ (h : Held). Follows w.conf (now w) None h.plan) held (λ h _. tt)

pub some_follow : (w : World) (may : MayDiffer) (keep : Held → Bool) (held : List Held) → AllFollow w may held → AllFollow w may (filter keep held)
some_follow w may keep held all =
    all_filtered (λ (h : Held). Follows w.conf (now w) may h.plan) keep held
    (all_same (λ (h : Held). Follows w.conf (now w) may h.plan) (λ (h : Held). keep h ≡ true → Follows w.conf (now w) may h.plan) (λ h follows _. follows) held all)

pub current_follow : (w : World) (held : List Held) → AreCurrent w held → AllFollow w (Some []) held
current_follow w held all =
    all_same (λ (h : Held). (h.plan.conf ≡ w.conf) × (h.plan.state ≡ now w)) (λ (h : Held). Follows w.conf (now w) (Some []) h.plan)
    (λ h is. (is.0, subst (λ s. AreNamed w.conf s (now w) []) (sym is.1) (none_named w.conf (now w)))) held all

-- ---- worlds that look the same

pub alike_names : (v w : World) → IsAlike v w → Names w v []
alike_names v w alike = record { conf = alike.conf; named = subst (λ s. AreNamed w.conf (now w) s []) (sym (same_now v w alike)) (none_named w.conf (now w)) }
