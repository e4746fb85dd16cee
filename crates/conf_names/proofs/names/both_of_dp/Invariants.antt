use Rattle.std.proofs.Common.{◌≡◌, drop}
use Rattle.conf_resolve.specs.InOrder.{port_site}
use Rattle.conf_rules.specs.Names.{are_both, both_of_dp}
use Rattle.conf_rules.specs.Places.{first, fault_if}
use Rattle.conf_shape.specs.declared.refused.ConfCause.TheVariants.{Conflict}
use Rattle.std.specs.List.{flat_map}
use Rattle.conf_names.proofs.names.both_of_dp.Given as goal

-- none so far breaks the rule
abbrev pub invariant-loop-port : goal.invariant-loop-port
invariant-loop-port l = first (flat_map (λ p. fault_if (are_both p.acls) (Conflict 7) (port_site l.dp p)) (drop l.port-index l.dp.ports)) ≡ first (both_of_dp l.dp)
