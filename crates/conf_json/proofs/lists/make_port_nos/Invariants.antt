use Rattle.std.proofs.Common.{◌≡◌, [], take, fold}
use Rattle.conf_json.specs.Text.{with_number}
use Rattle.conf_json.proofs.lists.make_port_nos.Given as goal

-- the numbers so far, ascending
abbrev pub invariant-loop-port : goal.invariant-loop-port
invariant-loop-port l = l.numbers ≡ fold with_number [] (take l.port-index l.ports)
