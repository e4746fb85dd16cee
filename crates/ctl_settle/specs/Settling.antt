-- What is said where a turn settles: first the asks that are due, then, to each datapath that has no barrier
-- outstanding, what leads from the entries that it has to those that it is to have.
use Rattle.std.specs.Prelude.{ℕ, zero, suc, ◌==◌, is_some, nat_le, if◌then◌else◌, List, [], ◌∷◌, length}
use Rattle.std.specs.Option.{option_map_or}
use Rattle.conf_types.specs.declared.address.Ip.{Ip}
use Rattle.net_base.specs.declared.numbers.DpId.{DpId}
use Rattle.conf_types.specs.Groups.{group_of}
use Rattle.of_match.specs.declared.entry.Command.{Command}
use Rattle.of_match.specs.declared.entry.Entry.{Entry}
use Rattle.of13_codec.specs.declared.message.Message.TheVariants as messages
use Rattle.cold_start.specs.Cold.{cold_at}
use Rattle.plan_difference.specs.Difference.{difference}
use Rattle.flow_messages.specs.Messages.{command_message}
use Rattle.neighbour_resolve.specs.declared.neighbour.Due.{Due}
use Rattle.neighbour_resolve.specs.declared.neighbour.Due.TheVariants.{Ask, Gone}
use Rattle.neighbour_resolve.specs.Asks.{AskOn, ask as ask_frame, asks, in_order}
use Rattle.neighbour_resolve.specs.Due.{due_said, after_due}
use Rattle.ctl_world.specs.declared.conns.Conn.{Conn}
use Rattle.ctl_world.specs.Connections.{change, conn_of, with_sent}
use Rattle.ctl_world.specs.Saying.{ask, packet_out, say}
use Rattle.ctl_world.specs.World.{World, now, running}

-- ---- asks

-- a datapath is told to send a frame that asks
abbrev pub ask_on : AskOn → World → World
ask_on a w = option_map_or (λ c. say c.number (packet_out a.out) w) (conn_of w.conns a.dp) w

abbrev pub ask_each : List AskOn → World → World
ask_each [] w = w
ask_each (a ∷ more) w = ask_each more (ask_on a w)

-- each of these datapaths, where it is of the group, asks; those without edge ports of the VLAN are passed over
abbrev pub ask_by : (group : DpId) → (vid : ℕ) → Ip → DpId → World → World
ask_by group vid ip dp w =
    if (group_of w.conf dp).0 == group.0 then option_map_or (λ out. ask_on (record { dp = dp; out = out }) w) (ask_frame w.conf dp vid ip) w else w

abbrev pub ask_by_each : (group : DpId) → (vid : ℕ) → Ip → List DpId → World → World
ask_by_each group vid ip [] w = w
ask_by_each group vid ip (dp ∷ dps) w = ask_by_each group vid ip dps (ask_by group vid ip dp w)

-- what is said of a neighbour that is due; of one that is given up, nothing
abbrev pub say_due : Due → World → World
say_due (Ask group vid ip) w = ask_each (asks w.conf (running w) group vid ip) w
say_due (Gone group vid ip) w = w

abbrev pub take_due : World → World
take_due w = record w { neighbours = record w.neighbours { neighbours = after_due w.conf w.moment.0 w.neighbours.neighbours } }

-- as long as a neighbour is due, so many at most
abbrev pub ask_due : (most : ℕ) → World → World
ask_due zero w = w
ask_due (suc most) w = option_map_or (λ due. ask_due most (say_due due (take_due w))) (due_said w.conf w.moment.0 w.neighbours.neighbours) w

-- no neighbour is due twice at a moment
abbrev pub ask_all : World → World
ask_all w = ask_due (length w.neighbours.neighbours) w

-- ---- batches

-- the entries that a datapath is to have
abbrev pub wanted : World → DpId → List Entry
wanted w dp = cold_at w.conf (now w) dp

abbrev pub say_each : (number : ℕ) → List Command → World → World
say_each number [] w = w
say_each number (c ∷ more) w = say_each number more (say number (command_message c) w)

abbrev pub note_sent : (number : ℕ) → List Entry → World → World
note_sent number entries w = record w { conns = change number (with_sent entries) w.conns }

-- the commands in order, and a barrier behind them
abbrev pub say_batch : (number : ℕ) → List Command → List Entry → World → World
say_batch number [] entries w = w
say_batch number (c ∷ more) entries w = note_sent number entries (ask number messages.BarrierRequest (say_each number (c ∷ more) w))

-- what leads from the entries that the switch has to those that it is to have; nothing while a barrier is outstanding,
-- or where they are the same
abbrev pub batch_on : DpId → World → Conn → World
batch_on dp w c =
    if is_some c.session.state.awaited then w
    else say_batch c.number (difference c.sent (wanted w dp)) (wanted w dp) w

abbrev pub batch : DpId → World → World
batch dp w = option_map_or (batch_on dp w) (conn_of w.conns dp) w

abbrev pub batches : List DpId → World → World
batches [] w = w
batches (dp ∷ dps) w = batches dps (batch dp w)

-- ---- the whole

-- the datapaths that run, by identifier
abbrev pub settle_batches : World → World
settle_batches w = batches (in_order (running w)) w

abbrev pub settle : World → World
settle w = settle_batches (ask_all w)

-- ---- the code's way to put identifiers in order

-- the place of the first identifier that isn't less
abbrev pub lower_bound : DpId → List DpId → ℕ
lower_bound id [] = 0
lower_bound id (first ∷ more) = if nat_le id.0 first.0 then 0 else suc (lower_bound id more)
