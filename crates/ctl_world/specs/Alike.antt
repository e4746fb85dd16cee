-- When a settling finds the same: it looks neither at the clock of a connection, nor at its count of transaction ids, nor
-- at the bytes that are still to be read, nor at what was said.
use Rattle.std.specs.Prelude.{◌≡◌, ℕ, List, map, Option}
use Rattle.net_base.specs.declared.numbers.DpId.{DpId}
use Rattle.of_match.specs.declared.entry.Entry.{Entry}
use Rattle.switch_session.specs.Stages.{State}
use Rattle.ctl_world.specs.declared.conns.Conn.{Conn}
use Rattle.ctl_world.specs.World.{World}

-- what a settling sees of a connection
pub record Face : Type 0 where
  pub number : ℕ
  pub dp : Option DpId
  pub state : State
  pub sent : List Entry

abbrev pub face : Conn → Face
face c = record { number = c.number; dp = c.dp; state = c.session.state; sent = c.sent }

pub record IsAlike (v w : World) : Type 0 where
  pub conf : v.conf ≡ w.conf
  pub moment : v.moment ≡ w.moment
  pub conns : map face v.conns ≡ map face w.conns
  pub hosts : v.hosts ≡ w.hosts
  pub neighbours : v.neighbours ≡ w.neighbours
