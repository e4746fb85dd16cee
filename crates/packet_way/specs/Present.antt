use Rattle.conf_types.specs.State.{State}
use Rattle.packet_way.specs.declared.now.Now.{Now}

-- what was learned, as the state that contracts see
abbrev pub state_of : Now → State
state_of now = record {
  moment = now.moment.0;
  running = now.running.now;
  ups = now.ups.now;
  hosts = now.hosts.now;
  neighbours = now.neighbours.now;
}
