-- What is right of what is known and of what was said at the end of each settling, and not only behind a turn.
use Rattle.conf_types.specs.Valid.{IsValid}
use Rattle.ctl_world.specs.World.{IsSound}
use Rattle.ctl_core.specs.Settlings.{IsAtRest}
use Rattle.law_stories.specs.Right.{HasOneBatch, HoldsColdStart, IsNoted, NothingWaits}
use Rattle.law_stories.specs.Settlings.{Settling, known_behind, said_behind}

pub record IsRightBehind (s : Settling) : Type 0 where
  -- the configuration is valid, what was learned is valid by it, and no limit is passed
  pub valid : IsValid (known_behind s).conf
  pub sound : IsSound (known_behind s)
  -- no neighbour is due, and each running datapath has a barrier outstanding, or the entries that it is to have
  pub rests : IsAtRest (known_behind s)
  pub nothing_waits : NothingWaits (known_behind s)
  -- what was said of tables leads to what was noted, and where no barrier is outstanding to the cold start of what is known
  pub noted : IsNoted (known_behind s) (said_behind s)
  pub held : HoldsColdStart (known_behind s) (said_behind s)
  -- a barrier that is outstanding is the last that was said of tables on its connection
  pub one_batch : HasOneBatch (known_behind s) (said_behind s)
