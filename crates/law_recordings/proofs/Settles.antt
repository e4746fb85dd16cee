-- Settling behind such a change.
use Rattle.std.proofs.Common.{ℕ, zero, suc, Bool, List, [], ◌∷◌, length, is_some, refl, ap, if◌then◌else◌}
use Rattle.std.specs.Option.{option_map_or}
use Rattle.net_base.specs.declared.numbers.DpId.{DpId}
use Rattle.of_match.specs.declared.entry.Command.{Command}
use Rattle.of_match.specs.declared.entry.Entry.{Entry}
use Rattle.of13_codec.specs.declared.message.Message.TheVariants as messages
use Rattle.plan_difference.specs.Difference.{difference}
use Rattle.flow_messages.specs.Messages.{command_message}
use Rattle.neighbour_resolve.specs.declared.neighbour.Due.{Due}
use Rattle.neighbour_resolve.specs.declared.neighbour.Due.TheVariants.{Ask, Gone}
use Rattle.neighbour_resolve.specs.Asks.{AskOn, asks, in_order}
use Rattle.neighbour_resolve.specs.Due.{due_said}
use Rattle.ctl_world.specs.declared.conns.Conn.{Conn}
use Rattle.ctl_world.specs.Connections.{conn_of, with_sent}
use Rattle.ctl_world.specs.Saying.{ask, packet_out, say}
use Rattle.ctl_world.specs.World.{World, running}
use Rattle.ctl_core.specs.Settlings.{ask_all, ask_due, ask_each, ask_on, batch, batch_on, batches, note_sent, say_batch, say_due, say_each, settle, settle_batches, take_due, wanted}
use Rattle.law_recordings.proofs.Touches.{Goes, Keeps, Touch, any, ask_keeps, both, changed, either, found_of, itself, over, running_kept, say_keeps, touched, wanted_kept}

module _ (t : Touch) where
  -- ---- asks

  on_keeps : (a : AskOn) → Keeps t (ask_on a)
  on_keeps a w =
      let f : Conn → World = λ c. say c.number (packet_out a.out) (touched t w) in
      over t w.moment (ask_on a (touched t w)) (option_map_or f (conn_of w.conns a.dp) (touched t w)) (ask_on a w)
      (found_of t f (λ c. refl) a.dp w (touched t w))
      (any t w (conn_of w.conns a.dp) f (λ c. say c.number (packet_out a.out) w) (λ c. say_keeps t c.number (packet_out a.out) w))

  each_keeps : (frames : List AskOn) → Keeps t (ask_each frames)
  each_keeps [] w = itself t w
  each_keeps (a ∷ more) w = both t (ask_on a) (ask_each more) (on_keeps a) (each_keeps more) w

  say_due_keeps : (due : Due) → Keeps t (say_due due)
  say_due_keeps (Ask group vid ip) w =
      over t w.moment (say_due (Ask group vid ip) (touched t w)) (ask_each (asks w.conf (running w) group vid ip) (touched t w)) (say_due (Ask group vid ip) w)
      (ap (λ (dps : List DpId). ask_each (asks w.conf dps group vid ip) (touched t w)) (running_kept t w))
      (each_keeps (asks w.conf (running w) group vid ip) w)
  say_due_keeps (Gone group vid ip) w = itself t w

  due_keeps : (most : ℕ) → Keeps t (ask_due most)
  due_keeps zero w = itself t w
  due_keeps (suc most) w =
      any t w (due_said w.conf w.moment.0 w.neighbours.neighbours) (λ due. ask_due most (say_due due (take_due (touched t w)))) (λ due. ask_due most (say_due due (take_due w)))
      (λ due. both t (say_due due) (ask_due most) (say_due_keeps due) (due_keeps most) (take_due w))

  ask_all_keeps : Keeps t ask_all
  ask_all_keeps w = due_keeps (length w.neighbours.neighbours) w

  -- ---- batches

  commands_keep : (number : ℕ) (commands : List Command) → Keeps t (say_each number commands)
  commands_keep number [] w = itself t w
  commands_keep number (c ∷ more) w = both t (say number (command_message c)) (say_each number more) (say_keeps t number (command_message c)) (commands_keep number more) w

  note_keeps : (number : ℕ) (entries : List Entry) → Keeps t (note_sent number entries)
  note_keeps number entries = changed t (with_sent entries) (λ c. refl) (λ c. refl) number

  one_keeps : (number : ℕ) (commands : List Command) (entries : List Entry) → Keeps t (say_batch number commands entries)
  one_keeps number [] entries w = itself t w
  one_keeps number (c ∷ more) entries w =
      both t (λ v. ask number messages.BarrierRequest (say_each number (c ∷ more) v)) (note_sent number entries)
      (both t (say_each number (c ∷ more)) (ask number messages.BarrierRequest) (commands_keep number (c ∷ more)) (ask_keeps t number messages.BarrierRequest))
      (note_keeps number entries) w

  batch_on_keeps : (dp : DpId) (w : World) (c : Conn) → Goes t w.moment (batch_on dp (touched t w) c) (batch_on dp w c)
  batch_on_keeps dp w c =
      let waits : Bool = is_some c.session.state.awaited in
      over t w.moment (batch_on dp (touched t w) c) (if waits then touched t w else say_batch c.number (difference c.sent (wanted w dp)) (wanted w dp) (touched t w)) (batch_on dp w c)
      (ap (λ (es : List Entry). if waits then touched t w else say_batch c.number (difference c.sent es) es (touched t w)) (wanted_kept t w dp))
      (either t w.moment waits (touched t w) (say_batch c.number (difference c.sent (wanted w dp)) (wanted w dp) (touched t w)) w
      (say_batch c.number (difference c.sent (wanted w dp)) (wanted w dp) w) (itself t w) (one_keeps c.number (difference c.sent (wanted w dp)) (wanted w dp) w))

  batch_keeps : (dp : DpId) → Keeps t (batch dp)
  batch_keeps dp w =
      over t w.moment (batch dp (touched t w)) (option_map_or (batch_on dp (touched t w)) (conn_of w.conns dp) (touched t w)) (batch dp w)
      (found_of t (batch_on dp (touched t w)) (λ c. refl) dp w (touched t w))
      (any t w (conn_of w.conns dp) (batch_on dp (touched t w)) (batch_on dp w) (λ c. batch_on_keeps dp w c))

  batches_keep : (dps : List DpId) → Keeps t (batches dps)
  batches_keep [] w = itself t w
  batches_keep (dp ∷ dps) w = both t (batch dp) (batches dps) (batch_keeps dp) (batches_keep dps) w

  settle_batches_keep : Keeps t settle_batches
  settle_batches_keep w =
      over t w.moment (settle_batches (touched t w)) (batches (in_order (running w)) (touched t w)) (settle_batches w)
      (ap (λ (dps : List DpId). batches (in_order dps) (touched t w)) (running_kept t w))
      (batches_keep (in_order (running w)) w)

  pub settle_keeps : Keeps t settle
  settle_keeps = both t ask_all settle_batches ask_all_keeps settle_batches_keep
