-- What a settling names: the neighbours that are due.
use Rattle.std.proofs.Common.{◌≡◌, ℕ, zero, suc, List, [], ◌∷◌, length, is_some, Option, Some, None, refl}
use Rattle.std.specs.Option.{option_map_or}
use Rattle.net_base.specs.declared.numbers.DpId.{DpId}
use Rattle.of_match.specs.declared.entry.Command.{Command}
use Rattle.of_match.specs.declared.entry.Entry.{Entry}
use Rattle.of13_codec.specs.declared.message.Message.TheVariants as messages
use Rattle.plan_difference.specs.Difference.{difference}
use Rattle.flow_messages.specs.Messages.{command_message}
use Rattle.neighbour_resolve.specs.declared.neighbour.Due.{Due}
use Rattle.neighbour_resolve.specs.Asks.{asks, in_order}
use Rattle.neighbour_resolve.specs.Due.{due_said}
use Rattle.ctl_world.specs.Connections.{conn_of, with_sent}
use Rattle.ctl_world.specs.Saying.{ask, say}
use Rattle.ctl_world.specs.World.{World, running}
use Rattle.ctl_core.specs.Settlings.{ask_all, ask_due, batch, batch_on, batches, note_sent, say_batch, say_due, say_each, settle, take_due, wanted}
use Rattle.law_names.specs.Names.{Names}
use Rattle.law_names.specs.Dues.{due}
use Rattle.ctl_core.proofs.Settlings.{ask_named}
use Rattle.law_changes.specs.Settlings.{by_due, by_settling}
use Rattle.law_names.proofs.Stepped.{ask_quiet, join, kept_quiet, nothing, of_either, quiet_option, say_quiet, then_quiet}

-- ---- asks

asked_named : (most : ℕ) (w : World) → Names w (ask_due most w) (by_due most w)
asked_named zero w = nothing w
asked_named (suc most) w = by (due_said w.conf w.moment.0 w.neighbours.neighbours) refl (λ u. asked_named most u)
  where
    by : (o : Option Due) → due_said w.conf w.moment.0 w.neighbours.neighbours ≡ o → ((u : World) → Names u (ask_due most u) (by_due most u))
        → Names w (option_map_or (λ d. ask_due most (say_due d (take_due w))) o w) (option_map_or (λ d. due d ∷ by_due most (say_due d (take_due w))) o [])
    by None is more = nothing w
    by (Some d) is more =
        let said : World = say_due d (take_due w) in
        join w said (ask_due most said) (due d ∷ []) (by_due most said) (ask_named d w is) (more said)

-- ---- batches

say_each_quiet : (number : ℕ) (commands : List Command) (w : World) → Names w (say_each number commands w) []
say_each_quiet number [] w = nothing w
say_each_quiet number (c ∷ more) w =
    let said : World = say number (command_message c) w in
    join w said (say_each number more said) [] [] (say_quiet number (command_message c) w) (say_each_quiet number more said)

say_batch_quiet : (number : ℕ) (commands : List Command) (entries : List Entry) (w : World) → Names w (say_batch number commands entries w) []
say_batch_quiet number [] entries w = nothing w
say_batch_quiet number (c ∷ more) entries w =
    let told : World = say_each number (c ∷ more) w in
    let asked : World = ask number messages.BarrierRequest told in
    join w asked (note_sent number entries asked) [] [] (join w told asked [] [] (say_each_quiet number (c ∷ more) w) (ask_quiet number messages.BarrierRequest told))
    (kept_quiet number (with_sent entries) (λ c. refl) (λ c. refl) asked)

batch_quiet : (dp : DpId) (w : World) → Names w (batch dp w) []
batch_quiet dp w =
    quiet_option w (batch_on dp w) (conn_of w.conns dp)
    (λ c. of_either w w (say_batch c.number (difference c.sent (wanted w dp)) (wanted w dp) w) [] (is_some c.session.state.awaited) (nothing w) (say_batch_quiet c.number (difference c.sent (wanted w dp)) (wanted w dp) w))

batches_quiet : (dps : List DpId) (w : World) → Names w (batches dps w) []
batches_quiet [] w = nothing w
batches_quiet (dp ∷ dps) w = join w (batch dp w) (batches dps (batch dp w)) [] [] (batch_quiet dp w) (batches_quiet dps (batch dp w))

-- ---- the whole

pub asks_named : (w : World) → Names w (ask_all w) (by_settling w)
asks_named w = asked_named (length w.neighbours.neighbours) w

pub settle_named : (w : World) → Names w (settle w) (by_settling w)
settle_named w = then_quiet w (ask_all w) (settle w) (by_settling w) (asks_named w) (batches_quiet (in_order (running (ask_all w))) (ask_all w))
