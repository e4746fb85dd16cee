use Rattle.std.proofs.Common.{◌≡◌, [], take, fold, map}
use Rattle.conf_json.specs.Json.{with_member}
use Rattle.conf_json.specs.Text.{port_member}
use Rattle.conf_json.proofs.port.make_ports.Given as goal

-- the members so far are those of the items so far
abbrev pub invariant-loop-port : goal.invariant-loop-port
invariant-loop-port l = l.made ≡ fold with_member [] (map (port_member l.conf) (take l.port-index l.ports))
