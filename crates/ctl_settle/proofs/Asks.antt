-- What is kept where something is said to a switch, the asks keep, and so do the commands of a batch.
use Rattle.std.proofs.Common.{ℕ, zero, suc, Some, None, List, [], ◌∷◌, length}
use Rattle.std.specs.Option.{option_map_or}
use Rattle.of_match.specs.declared.entry.Command.{Command}
use Rattle.of13_codec.specs.declared.message.Message.{Message}
use Rattle.flow_messages.specs.Messages.{command_message}
use Rattle.neighbour_resolve.specs.declared.neighbour.Due.{Due}
use Rattle.neighbour_resolve.specs.declared.neighbour.Due.TheVariants.{Ask, Gone}
use Rattle.neighbour_resolve.specs.Asks.{AskOn, asks}
use Rattle.neighbour_resolve.specs.Due.{due_said}
use Rattle.ctl_world.specs.declared.conns.Conn.{Conn}
use Rattle.ctl_world.specs.Connections.{conn_of}
use Rattle.ctl_world.specs.Saying.{packet_out, say}
use Rattle.ctl_world.specs.World.{World, running}
use Rattle.ctl_settle.specs.Settling.{ask_all, ask_due, ask_each, ask_on, say_due, say_each, take_due}

module _ (K : World → Type 0) (say_kept : (number : ℕ) (m : Message) (w : World) → K w → K (say number m w)) where
  pub commands_kept : (number : ℕ) (commands : List Command) (w : World) → K w → K (say_each number commands w)
  commands_kept number [] w kept = kept
  commands_kept number (c ∷ more) w kept = commands_kept number more (say number (command_message c) w) (say_kept number (command_message c) w kept)

  on_kept : (a : AskOn) (w : World) → K w → K (ask_on a w)
  on_kept a w kept =
      elim (conn_of w.conns a.dp) as (λ o. K (option_map_or (λ (c : Conn). say c.number (packet_out a.out) w) o w)) [
        | Some c ↦ say_kept c.number (packet_out a.out) w kept
        | None ↦ kept
      ]

  frames_kept : (frames : List AskOn) (w : World) → K w → K (ask_each frames w)
  frames_kept [] w kept = kept
  frames_kept (a ∷ more) w kept = frames_kept more (ask_on a w) (on_kept a w kept)

  pub due_said_kept : (due : Due) (w : World) → K w → K (say_due due w)
  due_said_kept (Ask group vid ip) w kept = frames_kept (asks w.conf (running w) group vid ip) w kept
  due_said_kept (Gone group vid ip) w kept = kept

  module _ (take_kept : (w : World) → K w → K (take_due w)) where
    due_kept : (most : ℕ) (w : World) → K w → K (ask_due most w)
    due_kept zero w kept = kept
    due_kept (suc most) w kept =
        elim (due_said w.conf w.moment.0 w.neighbours.neighbours) as (λ o. K (option_map_or (λ due. ask_due most (say_due due (take_due w))) o w)) [
          | Some due ↦ due_kept most (say_due due (take_due w)) (due_said_kept due (take_due w) (take_kept w kept))
          | None ↦ kept
        ]

    pub asks_kept : (w : World) → K w → K (ask_all w)
    asks_kept w kept = due_kept (length w.neighbours.neighbours) w kept
