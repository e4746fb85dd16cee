-- All that a controller knows, and the state by which flow entries are made.
use Rattle.std.specs.Prelude.{◌≡◌, ℕ, ◌==◌, ◌&&◌, ◌||◌, not, Bool, true, false, if◌then◌else◌, List, [], map, filter}
use Rattle.std.specs.List.{flat_map, list_any}
use Rattle.std.specs.Option.{option_map_or}
use Rattle.net_base.specs.declared.numbers.DpId.{DpId}
use Rattle.conf_types.specs.declared.datapath.Dp.{Dp}
use Rattle.conf_types.specs.declared.datapath.Port.{Port}
use Rattle.conf_types.specs.declared.state.UpRec.{UpRec}
use Rattle.conf_types.specs.Configuration.{Configuration}
use Rattle.conf_types.specs.State.{State, IsValidState, most_hosts}
use Rattle.switch_session.specs.declared.ports.PortTold.{PortTold}
use Rattle.switch_session.specs.declared.state.Stage.{Stage}
use Rattle.switch_session.specs.declared.state.Stage.TheVariants.{Greeting, Features, Ports, Wiping, Running, Shut}
use Rattle.ctl_world.specs.declared.conns.Conn.{Conn}
use Rattle.ctl_world.specs.declared.world.World.{World as Declared}
use Rattle.ctl_world.specs.Connections.{conn_of}

abbrev pub World : Type 0
World = Declared

-- ---- which datapaths run

-- the opening wipe is done
abbrev pub runs : Stage → Bool
runs Greeting = false
runs Features = false
runs Ports = false
runs Wiping = false
runs Running = true
runs Shut = false

-- the ports are told
abbrev pub has_ports : Stage → Bool
has_ports Greeting = false
has_ports Features = false
has_ports Ports = false
has_ports Wiping = true
has_ports Running = true
has_ports Shut = false

abbrev pub is_at_work : List Conn → Dp → Bool
is_at_work conns d = option_map_or (λ c. runs c.session.state.stage) (conn_of conns d.id) false

-- in the order of the configuration
abbrev pub running_of : Configuration → List Conn → List DpId
running_of conf conns = map (λ d. d.id) (filter (is_at_work conns) conf.dps)

-- ---- which interfaces are up

-- the switch told it so, or what the switch tells isn't to be looked at
abbrev pub is_up_by : List PortTold → Port → Bool
is_up_by told p = list_any (λ port. port.no == p.no && port.up) told || not p.opstatus_reconf

abbrev pub ups_by : Dp → Conn → List UpRec
ups_by d c =
    if has_ports c.session.state.stage
    then map (λ p. record { dp = d.id; port = p.no }) (filter (is_up_by c.session.state.ports) d.ports)
    else []

abbrev pub ups_on : List Conn → Dp → List UpRec
ups_on conns d = option_map_or (ups_by d) (conn_of conns d.id) []

-- in the order of the configuration
abbrev pub ups_of : Configuration → List Conn → List UpRec
ups_of conf conns = flat_map (ups_on conns) conf.dps

-- ---- the state

abbrev pub running : World → List DpId
running w = running_of w.conf w.conns

abbrev pub ups : World → List UpRec
ups w = ups_of w.conf w.conns

abbrev pub now : World → State
now w = record {
  moment = w.moment.0;
  running = running w;
  ups = ups w;
  hosts = w.hosts.hosts;
  neighbours = w.neighbours.neighbours;
}

abbrev pub most_neighbours : ℕ
most_neighbours = 2048

-- what was learned is valid, and the tables hold what they may hold
pub record IsSound (w : World) : Type 0 where
  pub valid : IsValidState w.conf (now w)
  pub hosts : w.hosts.limit ≡ most_hosts
  pub neighbours : w.neighbours.limit ≡ most_neighbours

-- before anything happened
abbrev pub first : Configuration → World
first conf = record {
  conf = conf;
  moment = record { 0 = 0 };
  conns = [];
  hosts = record { limit = most_hosts; hosts = [] };
  neighbours = record { limit = most_neighbours; neighbours = [] };
  said = [];
}
