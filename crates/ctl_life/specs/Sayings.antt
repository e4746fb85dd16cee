-- What is said, as it goes out.
use Rattle.of13_codec.specs.Messages.{written}
use Rattle.ctl_world.specs.declared.said.Said.{Said}
use Rattle.ctl_world.specs.declared.said.Said.TheVariants as said
use Rattle.ctl_life.specs.declared.saying.Saying.{Saying}
use Rattle.ctl_life.specs.declared.saying.Saying.TheVariants as sayings

-- messages as they are spelled
abbrev pub saying_of : Said → Saying
saying_of (said.Message conn m xid) = sayings.Send conn (written m xid)
saying_of (said.Closing conn cause) = sayings.Close conn cause
saying_of (said.Line text) = sayings.Line text
