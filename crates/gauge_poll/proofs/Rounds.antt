-- What each poll keeps is kept where many are said.
use Rattle.std.proofs.Common.{ℕ, suc, Bool, true, false, Option, Some, None, List, [], ◌∷◌, if◌then◌else◌}
use Rattle.std.specs.Option.{option_map_or}
use Rattle.net_base.specs.declared.numbers.DpId.{DpId}
use Rattle.ctl_world.specs.declared.conns.Conn.{Conn}
use Rattle.ctl_world.specs.Connections.{conn_of}
use Rattle.gauge_conf.specs.declared.gauge.WatchKind.{WatchKind}
use Rattle.gauge_conf.specs.declared.gauge.Watcher.{Watcher}
use Rattle.gauge_poll.specs.Polls.{Said, is_due, is_polling, poll_begun, poll_conn, poll_dp, poll_dps, poll_due, poll_first, poll_for, poll_if_due, polls_dp}

module _ (P : Said → Type 0) (each : (kind : WatchKind) (place conn : ℕ) (s : Said) → P s → P (poll_conn kind place conn s)) where
  either : (b : Bool) (s t : Said) → P s → P t → P (if b then s else t)
  either true s t here there = here
  either false s t here there = there

  pub dp_kept : (w : Watcher) (place : ℕ) (dp : DpId) (s : Said) → P s → P (poll_dp w place dp s)
  dp_kept w place dp s kept = by (conn_of s.world.conns dp)
    where
      by : (o : Option Conn) → P (option_map_or (poll_if_due w place s) o s)
      by (Some c) = either (is_due w place c.number s) (poll_conn w.kind place c.number s) s (each w.kind place c.number s kept) kept
      by None = kept

  pub dps_kept : (w : Watcher) (place : ℕ) (dps : List DpId) (s : Said) → P s → P (poll_dps w place dps s)
  dps_kept w place [] s kept = kept
  dps_kept w place (dp ∷ dps) s kept = dps_kept w place dps (poll_dp w place dp s) (dp_kept w place dp s kept)

  pub for_kept : (w : Watcher) (place : ℕ) (s : Said) → P s → P (poll_for w place s)
  for_kept w place s kept = either (is_polling w.kind) (poll_dps w place w.dps s) s (dps_kept w place w.dps s kept) kept

  pub due_kept : (place : ℕ) (ws : List Watcher) (s : Said) → P s → P (poll_due place ws s)
  due_kept place [] s kept = kept
  due_kept place (w ∷ ws) s kept = due_kept (suc place) ws (poll_for w place s) (for_kept w place s kept)

  pub first_kept : (place : ℕ) (ws : List Watcher) (dp : DpId) (s : Said) → P s → P (poll_first place ws dp s)
  first_kept place [] dp s kept = kept
  first_kept place (w ∷ ws) dp s kept =
      first_kept (suc place) ws dp (poll_begun w place dp s) (either (polls_dp w dp) (poll_dp w place dp s) s (dp_kept w place dp s kept) kept)
