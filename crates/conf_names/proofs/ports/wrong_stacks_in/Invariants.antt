use Rattle.std.proofs.Common.{◌≡◌, drop}
use Rattle.conf_rules.specs.Places.{first, interfaces_of, interfaces}
use Rattle.conf_rules.specs.Ports.{wrong_stack}
use Rattle.std.specs.List.{flat_map, zip}
use Rattle.conf_names.proofs.ports.wrong_stacks_in.Given as goal

-- none so far breaks the rule
abbrev pub invariant-loop-i : goal.invariant-loop-i
invariant-loop-i l = first (flat_map (wrong_stack l.dps.ordered.now l.dps.numbered.conf.now) (flat_map interfaces_of (zip (drop l.i l.dps.ordered.now.dps) (drop l.i l.dps.numbered.conf.now.dps)))) ≡ first (flat_map (wrong_stack l.dps.ordered.now l.dps.numbered.conf.now) (interfaces l.dps.ordered.now l.dps.numbered.conf.now))
