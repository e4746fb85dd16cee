-- What is known between two turns, and within one behind each settling.
use Rattle.std.specs.Prelude.{◌<◌, Some, []}
use Rattle.std.specs.List.{AllByRecursion}
use Rattle.conf_types.specs.State.{IsValidState}
use Rattle.ctl_world.specs.World.{IsSound}
use Rattle.ctl_settle.specs.Plans.{AreHeld}
use Rattle.ctl_settle.specs.Rest.{AreInOrder, IsBound, RestsUntil}
use Rattle.ctl_settle.specs.Touched.{AllFollow}
use Rattle.ctl_core.specs.declared.known.Known.{Known}

-- it is sound, its connections are in order, the plans that are kept are those of the datapaths that run, of a valid state
-- from which nothing differs, and a settling changes nothing of it before the moment that is kept, which is a bound of the first
-- one at which a settling is due
pub record HasSettled (k : Known) : Type 0 where
  pub sound : IsSound k.world
  pub in_order : AreInOrder k.world
  pub held : AreHeld k.world k.plans
  pub follow : AllFollow k.world (Some []) k.plans
  pub states : AllByRecursion (λ h. IsValidState k.world.conf h.plan.state) k.plans
  pub rests : RestsUntil k.until k.world
  pub until : IsBound k.world k.until

-- that moment hasn't come
abbrev pub IsEarly : Known → Type 0
IsEarly k = k.world.moment.0 < k.until
