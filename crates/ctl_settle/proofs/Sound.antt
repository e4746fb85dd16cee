-- Asks and batches leave a sound world sound.
use Rattle.std.proofs.Common.{◌≡◌, ℕ, true, false, List, [], ◌∷◌, Some, None, is_some, refl, if◌then◌else◌}
use Rattle.std.specs.Option.{option_map_or}
use Rattle.net_base.specs.declared.numbers.DpId.{DpId}
use Rattle.of_match.specs.declared.entry.Command.{Command}
use Rattle.of_match.specs.declared.entry.Entry.{Entry}
use Rattle.of13_codec.specs.declared.message.Message.{Message}
use Rattle.of13_codec.specs.declared.message.Message.TheVariants as messages
use Rattle.conf_types.specs.Configuration.{Configuration}
use Rattle.conf_types.specs.State.{State, IsValidState}
use Rattle.plan_difference.specs.Difference.{difference}
use Rattle.neighbour_resolve.specs.Due.{after_due}
use Rattle.ctl_world.specs.declared.conns.Conn.{Conn}
use Rattle.ctl_world.specs.Connections.{change, conn_of, with_sent}
use Rattle.ctl_world.specs.Saying.{ask, say}
use Rattle.ctl_world.specs.World.{IsSound, World, now}
use Rattle.ctl_settle.specs.Settling.{ask_all, batch, batch_on, say_batch, say_each, take_due, wanted}
use Rattle.ctl_settle.proofs.Asks.{asks_kept, commands_kept}

module _ (say_kept : (number : ℕ) (m : Message) (w : World) → IsSound w → IsSound (say number m w)) where
  module _ (due_kept : (conf : Configuration) (state : State) (moment : ℕ) → IsValidState conf state → IsValidState conf (record state { neighbours = after_due conf moment state.neighbours })) where
    pub taken_sound : (w : World) → IsSound w → IsSound (take_due w)
    taken_sound w sound = record { valid = due_kept w.conf (now w) w.moment.0 sound.valid; hosts = sound.hosts; neighbours = sound.neighbours }

    pub all_sound : (w : World) → IsSound w → IsSound (ask_all w)
    all_sound w sound = asks_kept IsSound say_kept taken_sound w sound

  -- ---- batches

  module _ (ask_kept : (number : ℕ) (m : Message) (w : World) → IsSound w → IsSound (ask number m w))
      (change_kept : (number : ℕ) (w : World) (f : Conn → Conn) → ((c : Conn) → (f c).dp ≡ c.dp) → ((c : Conn) → (f c).session.state.stage ≡ c.session.state.stage)
      → ((c : Conn) → (f c).session.state.ports ≡ c.session.state.ports) → IsSound w → IsSound (record w { conns = change number f w.conns })) where
    one_sound : (number : ℕ) (commands : List Command) (entries : List Entry) (w : World) → IsSound w → IsSound (say_batch number commands entries w)
    one_sound number [] entries w sound = sound
    one_sound number (c ∷ more) entries w sound =
        change_kept number (ask number messages.BarrierRequest (say_each number (c ∷ more) w)) (with_sent entries) (λ c. refl) (λ c. refl) (λ c. refl)
        (ask_kept number messages.BarrierRequest (say_each number (c ∷ more) w) (commands_kept IsSound say_kept number (c ∷ more) w sound))

    pub batch_sound : (w : World) (dp : DpId) → IsSound w → IsSound (batch dp w)
    batch_sound w dp sound =
        elim (conn_of w.conns dp) as (λ o. IsSound (option_map_or (batch_on dp w) o w)) [
          | Some c ↦ elim (is_some c.session.state.awaited) as (λ b. IsSound (if b then w else say_batch c.number (difference c.sent (wanted w dp)) (wanted w dp) w)) [
            | true ↦ sound
            | false ↦ one_sound c.number (difference c.sent (wanted w dp)) (wanted w dp) w sound
          ]
          | None ↦ sound
        ]
