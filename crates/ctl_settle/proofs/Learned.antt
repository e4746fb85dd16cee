-- A settling leaves the configuration, the moment and the hosts.
use Rattle.std.proofs.Common.{◌≡◌, ℕ, true, false, Some, None, List, [], ◌∷◌, is_some, if◌then◌else◌}
use Rattle.std.specs.Option.{option_map_or}
use Rattle.net_base.specs.declared.numbers.DpId.{DpId}
use Rattle.net_base.specs.declared.numbers.Moment.{Moment}
use Rattle.of_match.specs.declared.entry.Command.{Command}
use Rattle.of_match.specs.declared.entry.Entry.{Entry}
use Rattle.of13_codec.specs.declared.message.Message.{Message}
use Rattle.of13_codec.specs.declared.message.Message.TheVariants as messages
use Rattle.conf_types.specs.Configuration.{Configuration}
use Rattle.host_learn.specs.Table.{Table as Hosts}
use Rattle.plan_difference.specs.Difference.{difference}
use Rattle.neighbour_resolve.specs.Asks.{in_order}
use Rattle.ctl_world.specs.declared.conns.Conn.{Conn}
use Rattle.ctl_world.specs.Connections.{conn_of, conn_with, with_asked, with_said}
use Rattle.ctl_world.specs.Saying.{say, say_by}
use Rattle.ctl_world.specs.World.{World, running}
use Rattle.ctl_settle.specs.Settling.{ask_all, batch, batch_on, batches, say_batch, say_each, settle, wanted}
use Rattle.ctl_settle.proofs.Asks.{asks_kept, commands_kept}

module _ (conf : Configuration) (moment : Moment) (hosts : Hosts) where
  abbrev pub Has : World → Type 0
  Has w = (w.conf ≡ conf) × ((w.moment ≡ moment) × (w.hosts ≡ hosts))

  said_has : (f : Conn → Conn) (number : ℕ) (m : Message) (w : World) → Has w → Has (option_map_or (say_by f m w) (conn_with w.conns number) w)
  said_has f number m w has = elim (conn_with w.conns number) as (λ o. Has (option_map_or (say_by f m w) o w)) [ Some c ↦ has | None ↦ has ]

  say_has : (number : ℕ) (m : Message) (w : World) → Has w → Has (say number m w)
  say_has number m w has = said_has with_said number m w has

  one_has : (number : ℕ) (commands : List Command) (entries : List Entry) (w : World) → Has w → Has (say_batch number commands entries w)
  one_has number [] entries w has = has
  one_has number (c ∷ more) entries w has =
      said_has with_asked number messages.BarrierRequest (say_each number (c ∷ more) w) (commands_kept Has say_has number (c ∷ more) w has)

  batch_has : (dp : DpId) (w : World) → Has w → Has (batch dp w)
  batch_has dp w has =
      elim (conn_of w.conns dp) as (λ o. Has (option_map_or (batch_on dp w) o w)) [
        | Some c ↦ elim (is_some c.session.state.awaited) as (λ b. Has (if b then w else say_batch c.number (difference c.sent (wanted w dp)) (wanted w dp) w)) [
          | true ↦ has
          | false ↦ one_has c.number (difference c.sent (wanted w dp)) (wanted w dp) w has
        ]
        | None ↦ has
      ]

  batches_has : (dps : List DpId) (w : World) → Has w → Has (batches dps w)
  batches_has [] w has = has
  batches_has (dp ∷ dps) w has = batches_has dps (batch dp w) (batch_has dp w has)

  pub settle_has : (w : World) → Has w → Has (settle w)
  settle_has w has = batches_has (in_order (running (ask_all w))) (ask_all w) (asks_kept Has say_has (λ v is. is) w has)
