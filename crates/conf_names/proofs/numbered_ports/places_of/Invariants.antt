use Rattle.std.proofs.Common.{◌≡◌, ℕ, drop}
use Rattle.conf_types.specs.Configuration.{port_with}
use Rattle.conf_names.specs.NumberedPorts.{port_placed}
use Rattle.conf_names.proofs.numbered_ports.places_of.Given as goal

-- those from here on are there
abbrev pub invariant-loop-i : goal.invariant-loop-i
invariant-loop-i l = (n : ℕ) → port_placed l.ports l.places n ≡ port_with (drop l.i l.ports) n
