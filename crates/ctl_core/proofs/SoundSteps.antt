-- Steps that leave a world sound and its configuration valid.
use Rattle.std.proofs.Common.{ℕ, Some, None}
use Rattle.std.specs.Option.{option_map_or}
use Rattle.conf_types.specs.Valid.{IsValid}
use Rattle.of13_codec.specs.declared.message.Message.{Message}
use Rattle.switch_session.specs.declared.closing.Closing.{Closing}
use Rattle.ctl_world.specs.Connections.{conn_with, with_asked, with_said}
use Rattle.ctl_world.specs.Ends.{close}
use Rattle.ctl_world.specs.Saying.{ask, say, say_by}
use Rattle.ctl_world.specs.World.{IsSound, World}
use Rattle.ctl_world.proofs.SoundChanges.{ask_sound, say_sound}
use Rattle.ctl_world.proofs.SoundEnds.{close_sound}

abbrev pub Holds : World → Type 0
Holds w = IsValid w.conf × IsSound w

pub say_valid : (number : ℕ) (m : Message) (w : World) → IsValid w.conf → IsValid (say number m w).conf
say_valid number m w valid = elim (conn_with w.conns number) as (λ o. IsValid (option_map_or (say_by with_said m w) o w).conf) [ Some c ↦ valid | None ↦ valid ]

pub say_holds : (number : ℕ) (m : Message) (w : World) → Holds w → Holds (say number m w)
say_holds number m w holds = (say_valid number m w holds.0, say_sound number m w holds.1)

pub ask_holds : (number : ℕ) (m : Message) (w : World) → Holds w → Holds (ask number m w)
ask_holds number m w holds = (
  elim (conn_with w.conns number) as (λ o. IsValid (option_map_or (say_by with_asked m w) o w).conf) [ Some c ↦ holds.0 | None ↦ holds.0 ],
  ask_sound number m w holds.1,
)

pub close_holds : (cause : Closing) (number : ℕ) (w : World) → Holds w → Holds (close cause number w)
close_holds cause number w holds = (holds.0, close_sound cause number w holds.0 holds.1)
