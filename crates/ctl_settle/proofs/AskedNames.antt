-- What the asks of a settling name: the neighbour that is due.
use Rattle.std.proofs.Common.{◌≡◌, List, [], ◌∷◌, Some}
use Rattle.neighbour_resolve.specs.declared.neighbour.Due.{Due}
use Rattle.neighbour_resolve.specs.declared.neighbour.Due.TheVariants.{Ask, Gone}
use Rattle.neighbour_resolve.specs.Asks.{AskOn, asks}
use Rattle.neighbour_resolve.specs.Due.{due_said}
use Rattle.ctl_world.specs.declared.conns.Conn.{Conn}
use Rattle.ctl_world.specs.Connections.{conn_of}
use Rattle.ctl_world.specs.Saying.{packet_out, say}
use Rattle.ctl_world.specs.World.{World, running}
use Rattle.law_names.specs.Dues.{due}
use Rattle.law_names.specs.Names.{Names}
use Rattle.law_names.proofs.Neighbours.{due_named}
use Rattle.law_names.proofs.Stepped.{join, neighbours_named, nothing, quiet_option, say_quiet, then_quiet}
use Rattle.ctl_settle.specs.Settling.{ask_each, ask_on, say_due, take_due}

ask_on_quiet : (a : AskOn) (w : World) → Names w (ask_on a w) []
ask_on_quiet a w = quiet_option w (λ (c : Conn). say c.number (packet_out a.out) w) (conn_of w.conns a.dp) (λ c. say_quiet c.number (packet_out a.out) w)

ask_each_quiet : (more : List AskOn) (w : World) → Names w (ask_each more w) []
ask_each_quiet [] w = nothing w
ask_each_quiet (a ∷ more) w = join w (ask_on a w) (ask_each more (ask_on a w)) [] [] (ask_on_quiet a w) (ask_each_quiet more (ask_on a w))

pub say_due_quiet : (d : Due) (w : World) → Names w (say_due d w) []
say_due_quiet (Ask group vid ip) w = ask_each_quiet (asks w.conf (running w) group vid ip) w
say_due_quiet (Gone group vid ip) w = nothing w

pub take_named : (d : Due) (w : World) → due_said w.conf w.moment.0 w.neighbours.neighbours ≡ Some d → Names w (take_due w) (due d ∷ [])
take_named d w is = neighbours_named w (take_due w).neighbours (due d ∷ []) (λ group vid ip other. due_named group vid ip w.conf w.moment.0 w.neighbours.neighbours d is other)

-- one is asked for, or given up
pub ask_named : (d : Due) (w : World) → due_said w.conf w.moment.0 w.neighbours.neighbours ≡ Some d → Names w (say_due d (take_due w)) (due d ∷ [])
ask_named d w is = then_quiet w (take_due w) (say_due d (take_due w)) (due d ∷ []) (take_named d w is) (say_due_quiet d (take_due w))
