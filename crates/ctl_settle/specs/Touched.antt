-- What may differ from the state that the plans were brought up to last.
use Rattle.std.specs.Prelude.{◌≡◌, Option, Some, None, List}
use Rattle.std.specs.List.{AllByRecursion}
use Rattle.conf_types.specs.Configuration.{Configuration}
use Rattle.conf_types.specs.State.{State}
use Rattle.warm_plan.specs.Kept.{Kept}
use Rattle.conf_types.specs.declared.change.Change.{Change}
use Rattle.conf_types.specs.Changes.{AreNamed}
use Rattle.ctl_world.specs.World.{World, now}
use Rattle.ctl_settle.specs.declared.plans.Held.{Held}

-- what is named; where nothing is said of that, anything
abbrev pub MayDiffer : Type 0
MayDiffer = Option (List Change)

abbrev pub AreAmong : Configuration → (old new : State) → MayDiffer → Type 0
AreAmong conf old new None = Unit {0}
AreAmong conf old new (Some changes) = AreNamed conf old new changes

-- a plan was brought up to a state of this configuration, in which no more differs from what is known
abbrev pub Follows : Configuration → State → MayDiffer → Kept → Type 0
Follows conf now None p = Unit {0}
Follows conf now (Some changes) p = (p.conf ≡ conf) × AreNamed conf p.state now changes

abbrev pub AllFollow : World → MayDiffer → List Held → Type 0
AllFollow w may held = AllByRecursion (λ h. Follows w.conf (now w) may h.plan) held

-- a step under one configuration, and what may differ before and behind it
pub record Goes (w v : World) (was is : MayDiffer) : Type 0 where
  pub conf : v.conf ≡ w.conf
  pub among : (old : State) → AreAmong w.conf old (now w) was → AreAmong w.conf old (now v) is
  pub any : was ≡ None → is ≡ None
