-- What a frame says leaves a world sound.
use Rattle.std.proofs.Common.{ℕ, [], ◌∷◌, Option, Some, refl}
use Rattle.net_base.specs.declared.numbers.DpId.{DpId}
use Rattle.conf_types.specs.Valid.{IsValid}
use Rattle.of13_codec.specs.declared.message.Message.{Message}
use Rattle.of13_codec.specs.declared.message.Message.TheVariants as messages
use Rattle.flow_messages.specs.Messages.{delete_all}
use Rattle.switch_session.specs.declared.closing.Closing.TheVariants.{BadFrame}
use Rattle.ctl_world.specs.declared.said.Said.TheVariants as said
use Rattle.ctl_world.specs.Connections.{change, with_dp, with_heard}
use Rattle.ctl_world.specs.Frames.{with_read}
use Rattle.ctl_world.specs.Saying.{packet_out, say}
use Rattle.ctl_world.specs.World.{IsSound, World}
use Rattle.ctl_world.proofs.SoundChanges.{added_sound, change_sound}
use Rattle.ctl_world.proofs.SoundEnds.{forget_sound}
use Rattle.ctl_packets.proofs.Sound.{packet_sound}
use Rattle.ctl_life.specs.Life.{read}
use Rattle.ctl_core.specs.Hearing.{hear_frame, packet}
use Rattle.ctl_core.proofs.PacketSteps.{packet_kept}
use Rattle.ctl_core.proofs.SoundSteps.{Holds, ask_holds, close_holds, say_holds, say_valid}
use Rattle.ctl_core.proofs.SoundTurns.{sound_steps}
use Rattle.ctl_core.proofs.Walk.{Setup, heard_kept}

setup : Setup Holds
setup = record {
  hears = λ m xid number w holds. (holds.0, forget_sound w (change number (with_heard m xid) w.conns) holds.0 holds.1);
  features = λ number w holds. say_holds number messages.FeaturesRequest w holds;
  takes = λ number dp w holds. (holds.0, forget_sound w (change number (with_dp dp) w.conns) holds.0 holds.1);
  ports = λ number w holds. ask_holds number messages.PortDescRequest w holds;
  wipes = λ number w holds. ask_holds number messages.BarrierRequest (say number delete_all w) (say_holds number delete_all w holds);
  answers = λ number payload xid w at holds. (holds.0, added_sound (said.Message number (messages.EchoReply payload) xid ∷ []) w holds.1);
  refuses = λ number xid w at holds. (holds.0, added_sound (said.Message number (messages.Error 0 0 []) xid ∷ []) w holds.1);
}

is_sound : (m : Message) (number : ℕ) (dp : Option DpId) (w : World) → Holds w → IsSound (packet m number dp w)
is_sound (messages.PacketIn m) number (Some dp) w holds = packet_sound m number dp w holds.0 holds.1
is_sound m number dp w holds = holds.1

packet_holds : (m : Message) (number : ℕ) (dp : Option DpId) (w : World) → Holds w → Holds (packet m number dp w)
packet_holds m number dp w holds =
    (packet_kept (λ conf conns said. IsValid conf) (λ n out v valid. say_valid n (packet_out out) v valid) m number dp w holds.0, is_sound m number dp w holds)

pub heard_sound : (said : Option (Message × ℕ)) (number : ℕ) (w : World) → IsValid w.conf → IsSound w → IsSound (hear_frame said number w)
heard_sound said number w valid sound =
    let holds : Holds w = (valid, sound) in
    (heard_kept Holds sound_steps setup said (λ s is. packet_holds s.0) number w (close_holds BadFrame number w holds) holds).1

pub read_sound : (number : ℕ) (w : World) → IsSound w → IsSound (read number w)
read_sound = change_sound with_read (λ c. refl) (λ c. refl) (λ c. refl)
