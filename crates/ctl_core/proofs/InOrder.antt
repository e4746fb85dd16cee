-- The same of connections in order, as the law has it.
use Rattle.std.proofs.Common.{◌≡◌, ℕ, false, Option, List}
use Rattle.conf_types.specs.Configuration.{Configuration}
use Rattle.of13_codec.specs.declared.message.Message.{Message}
use Rattle.switch_session.specs.declared.closing.Closing.{Closing}
use Rattle.ctl_world.specs.Connections.{is_open}
use Rattle.ctl_world.specs.Ends.{close, ended}
use Rattle.ctl_world.specs.World.{World}
use Rattle.ctl_settle.specs.Rest.{AreInOrder}
use Rattle.ctl_life.specs.Life.{read, feed, open_conn}
use Rattle.ctl_core.specs.Hearing.{hear_frame}
use Rattle.ctl_core.specs.Reloading.{accepted, reload}
use Rattle.ctl_core.specs.Turns.{pass}
use Rattle.ctl_core.proofs.Stands.{Stands, close_stands, ended_stands, feed_stands, heard_stands, open_stands, pass_stands, read_stands, reload_stands}

abbrev Any : Configuration → Type 0
Any conf = Unit {0}

standing : (w : World) → AreInOrder w → Stands Any w
standing w order = (tt, (order.numbers, order.keys))

order_of : (w : World) → Stands Any w → AreInOrder w
order_of w stands = record { numbers = stands.1.0; keys = stands.1.1 }

pub opened_in_order : (number : ℕ) (w : World) → is_open w.conns number ≡ false → AreInOrder w → AreInOrder (open_conn number w)
opened_in_order number w shut order = order_of (open_conn number w) (open_stands Any number w shut (standing w order))

pub fed_in_order : (number : ℕ) (piece : List ℕ) (w : World) → AreInOrder w → AreInOrder (feed number piece w)
fed_in_order number piece w order = order_of (feed number piece w) (feed_stands Any number piece w (standing w order))

pub read_in_order : (number : ℕ) (w : World) → AreInOrder w → AreInOrder (read number w)
read_in_order number w order = order_of (read number w) (read_stands Any number w (standing w order))

pub heard_in_order : (said : Option (Message × ℕ)) (number : ℕ) (w : World) → AreInOrder w → AreInOrder (hear_frame said number w)
heard_in_order said number w order = order_of (hear_frame said number w) (heard_stands Any said number w (standing w order))

pub closed_in_order : (cause : Closing) (number : ℕ) (w : World) → AreInOrder w → AreInOrder (close cause number w)
closed_in_order cause number w order = order_of (close cause number w) (close_stands Any cause number w (standing w order))

pub ended_in_order : (cause : Closing) (number : ℕ) (w : World) → AreInOrder w → AreInOrder (ended cause number w)
ended_in_order cause number w order = order_of (ended cause number w) (ended_stands Any cause number w (standing w order))

pub passed_in_order : (moment : ℕ) (w : World) → AreInOrder w → AreInOrder (pass moment w)
passed_in_order moment w order = order_of (pass moment w) (pass_stands Any moment w (standing w order))

pub reloaded_in_order : (text : List ℕ) (w : World) → AreInOrder w → AreInOrder (reload (accepted text) w)
reloaded_in_order text w order = order_of (reload (accepted text) w) (reload_stands Any (accepted text) (λ next is. tt) w (standing w order))
