-- What comes, and the clock, leave a world sound.
use Rattle.std.proofs.Common.{ℕ, max, not, List, [], ◌∷◌, Some, None, refl}
use Rattle.conf_types.specs.State.{is_to_forget}
use Rattle.conf_types.specs.Valid.{IsValid}
use Rattle.of13_codec.specs.declared.message.Message.TheVariants as messages
use Rattle.switch_session.specs.Connections.{opened}
use Rattle.ctl_world.specs.declared.conns.Conn.{Conn}
use Rattle.ctl_world.specs.declared.said.Said.TheVariants as said
use Rattle.ctl_world.specs.Connections.{put, with_fed, with_looked}
use Rattle.ctl_world.specs.Saying.{packet_out}
use Rattle.ctl_world.specs.World.{IsSound, World}
use Rattle.ctl_world.proofs.SoundChanges.{added_sound, change_sound, moment_sound, put_sound, say_sound}
use Rattle.ctl_world.proofs.SoundEnds.{part_sound}
use Rattle.ctl_life.specs.Life.{feed, open_conn}
use Rattle.ctl_core.specs.Turns.{pass}
use Rattle.ctl_core.proofs.SoundGateways.{want_holds}
use Rattle.ctl_core.proofs.SoundSteps.{Holds, close_holds, say_holds}
use Rattle.ctl_core.proofs.Walk.{Steps, pass_kept}

pub open_sound : (number : ℕ) (w : World) → IsSound w → IsSound (open_conn number w)
open_sound number w sound =
    let c : Conn = record { number = number; session = opened w.moment; dp = None; sent = [] } in
    say_sound number (messages.Hello 4 (Some 16)) (record w { conns = put c w.conns }) (put_sound c w refl sound)

pub feed_sound : (number : ℕ) (piece : List ℕ) (w : World) → IsSound w → IsSound (feed number piece w)
feed_sound number [] w = change_sound (with_fed [] w.moment) (λ c. refl) (λ c. refl) (λ c. refl) number w
feed_sound number (byte ∷ piece) w = change_sound (with_fed (byte ∷ piece) w.moment) (λ c. refl) (λ c. refl) (λ c. refl) number w

-- ---- what says nothing of tables

pub sound_steps : Steps Holds
sound_steps = record {
  sends = λ number out w holds. say_holds number (packet_out out) w holds;
  asks_echo = λ number w holds. say_holds number (messages.EchoRequest []) w holds;
  closes = λ cause number w at holds. close_holds cause number w holds;
  looks = λ number w holds. (holds.0, change_sound (with_looked w.moment) (λ c. refl) (λ c. refl) (λ c. refl) number w holds.1);
  shows = λ moment w holds. (holds.0, moment_sound (record { 0 = max w.moment.0 moment }) w holds.1);
  ages = λ w holds. (holds.0, part_sound (λ h. not (is_to_forget w.conf w.moment.0 h)) w holds.1);
  wants = λ group w holds. want_holds group w holds;
  tells = λ text w holds. (holds.0, added_sound (said.Line text ∷ []) w holds.1);
}

pub pass_sound : (moment : ℕ) (w : World) → IsValid w.conf → IsSound w → IsSound (pass moment w)
pass_sound moment w valid sound = (pass_kept Holds sound_steps moment w (valid, sound)).1
