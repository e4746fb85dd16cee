-- A settling leaves when the times of hosts end.
use Rattle.std.proofs.Common.{ℕ, [], Some, None, refl, sym, subst}
use Rattle.std.specs.Prelude.{min}
use Rattle.std.specs.Option.{option_map_or}
use Rattle.of13_codec.specs.declared.message.Message.TheVariants as messages
use Rattle.switch_session.specs.Connections.{opened as session_opened}
use Rattle.ctl_world.specs.declared.conns.Conn.{Conn}
use Rattle.ctl_world.specs.Connections.{conn_with, put, with_said}
use Rattle.ctl_world.specs.Saying.{say_by}
use Rattle.ctl_world.specs.World.{World}
use Rattle.ctl_life.specs.Life.{open_conn}
use Rattle.ctl_settle.specs.Rest.{AreBounded, host_until}
use Rattle.ctl_settle.specs.Settling.{settle}
use Rattle.ctl_settle.proofs.Learned.{settle_has}
use Rattle.ctl_settle.proofs.Until.{same_bounded}
use Rattle.ctl_core.specs.declared.ends.Ends.{Ends}
use Rattle.ctl_core.specs.declared.ends.Ends.TheVariants as ends
use Rattle.ctl_core.specs.Found.{Bounds}

module _ (until : ℕ) (w : World) where
  abbrev behind : World
  behind = settle w

  stays : (bound : ℕ) → AreBounded bound w → AreBounded bound behind
  stays bound all = let has = settle_has w.conf w.moment w.hosts w (refl, (refl, refl)) in same_bounded behind w bound has.0 (has.1).0 (has.1).1 all

pub settle_bounds : (e : Ends) (until : ℕ) (w : World) → Bounds e until w → Bounds e until (settle w)
settle_bounds ends.Later until w all = stays until w until all
settle_bounds (ends.But h) until w all =
    let has = settle_has w.conf w.moment w.hosts w (refl, (refl, refl)) in
    subst (λ (n : ℕ). AreBounded (min until n) (settle w)) (λ i. host_until (sym has.0 i) (sym (has.1).0 i).0 h) (stays until w (min until (host_until w.conf w.moment.0 h)) all)
settle_bounds ends.Any until w all = tt

-- so does a connection that opens
pub open_bounded : (number : ℕ) (w : World) (until : ℕ) → AreBounded until w → AreBounded until (open_conn number w)
open_bounded number w until all =
    let c : Conn = record { number = number; session = session_opened w.moment; dp = None; sent = [] } in
    let next : World = record w { conns = put c w.conns } in
    elim (conn_with next.conns number) as (λ o. AreBounded until (option_map_or (say_by with_said (messages.Hello 4 (Some 16)) next) o next)) [ Some d ↦ all | None ↦ all ]
