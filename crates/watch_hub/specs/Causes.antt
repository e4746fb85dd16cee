-- Why a file has no tree.
use Rattle.conf_gather.specs.declared.refused.LoadRefused.{LoadRefused}
use Rattle.conf_gather.specs.declared.refused.LoadRefused.TheVariants as refusals
use Rattle.watch_hub.specs.declared.look.Unread.{Unread}
use Rattle.watch_hub.specs.declared.look.Unread.TheVariants.{Missing, Refused, Memory}

abbrev pub cause_of : LoadRefused → Unread
cause_of (refusals.Read name) = Missing
cause_of (refusals.Yaml name fault) = Refused
cause_of (refusals.Conf fault) = Refused
cause_of (refusals.IncludeTwice name) = Refused
cause_of (refusals.IncludeDepth name) = Refused
cause_of (refusals.Absent name) = Missing
cause_of refusals.Memory = Memory
