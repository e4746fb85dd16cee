-- What a controller says of all that happens.
use Rattle.std.specs.Prelude.{Bool, true, false, if◌then◌else◌, List, [], ◌∷◌, Option, Some, None}
use Rattle.std.specs.Option.{option_map}
use Rattle.net_base.specs.declared.numbers.DpId.{DpId}
use Rattle.fg_outside.specs.declared.hub.Happening.{Happening}
use Rattle.conf_types.specs.State.{is_running}
use Rattle.of_match.specs.declared.entry.Entry.{Entry}
use Rattle.ctl_world.specs.declared.said.Said.{Said}
use Rattle.ctl_world.specs.Connections.{conn_of}
use Rattle.ctl_world.specs.World.{World, running}
use Rattle.ctl_core.specs.Turns.{turn}

-- a story: all that happens, in order. What is known behind it
abbrev pub behind : World → List Happening → World
behind w [] = w
behind w (h ∷ hs) = behind (turn h w) hs

-- what is said of it, turn by turn
abbrev pub said_by_turn : World → List Happening → List (List Said)
said_by_turn w [] = []
said_by_turn w (h ∷ hs) = (turn h w).said ∷ said_by_turn (turn h w) hs

-- ---- what a controller is seen as

abbrev pub unless_spent : Bool → World → Option World
unless_spent true w = None
unless_spent false w = Some w

-- the entries that a datapath's switch holds once it has done all that was said, where the datapath runs
abbrev pub tables_of : World → DpId → Option (List Entry)
tables_of w dp = if is_running (running w) dp then option_map (λ c. c.sent) (conn_of w.conns dp) else None
