-- When changes name all that differs between what is known before a step and behind it.
use Rattle.std.specs.Prelude.{◌≡◌, List}
use Rattle.ctl_world.specs.World.{World, now}
use Rattle.conf_types.specs.declared.change.Change.{Change}
use Rattle.conf_types.specs.Changes.{AreNamed}

-- the configuration stays
pub record Names (before behind : World) (changes : List Change) : Type 0 where
  pub conf : behind.conf ≡ before.conf
  pub named : AreNamed before.conf (now before) (now behind) changes
