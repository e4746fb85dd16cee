use Rattle.std.proofs.Common.{◌≡◌, drop, take, []}
use Rattle.conf_rules.specs.Names.{repeated_port}
use Rattle.conf_rules.specs.Places.{first, with_earlier}
use Rattle.conf_rules.specs.Seen.{HasNumbers, HasNames}
use Rattle.std.specs.List.{flat_map}
use Rattle.conf_names.proofs.names.repeated_ports_of.Given as goal

-- none so far breaks the rule, and the numbers and names so far are seen
abbrev pub invariant-loop-port : goal.invariant-loop-port
invariant-loop-port l =
    (first (flat_map (repeated_port l.dp) (with_earlier (take l.port-index l.dp.ports) (drop l.port-index l.dp.ports))) ≡ first (flat_map (repeated_port l.dp) (with_earlier [] l.dp.ports)))
    × HasNumbers l.numbers (λ p. p.no) (take l.port-index l.dp.ports)
    × HasNames l.names (λ p. p.names.name) (take l.port-index l.dp.ports)
