-- Whether a barrier is outstanding.
use Rattle.std.specs.Prelude.{◌&&◌, Bool, false, is_some}
use Rattle.std.specs.Option.{option_map_or}
use Rattle.net_base.specs.declared.numbers.DpId.{DpId}
use Rattle.ctl_world.specs.declared.conns.Conn.{Conn}
use Rattle.ctl_world.specs.Connections.{conn_of}
use Rattle.ctl_world.specs.World.{World, has_ports}

-- Its reply is what a connection awaits once the ports are told: that behind the opening wipe, and later that behind a batch.
abbrev pub waits_on : Conn → Bool
waits_on c = has_ports c.session.state.stage && is_some c.session.state.awaited

-- on the connection of a datapath
abbrev pub waits : World → DpId → Bool
waits w dp = option_map_or waits_on (conn_of w.conns dp) false
