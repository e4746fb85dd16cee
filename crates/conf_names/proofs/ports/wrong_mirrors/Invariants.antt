use Rattle.std.proofs.Common.{◌≡◌, drop}
use Rattle.conf_rules.specs.Places.{first, interfaces_of, interfaces}
use Rattle.conf_rules.specs.Ports.{wrong_mirror}
use Rattle.std.specs.List.{flat_map, zip}
use Rattle.conf_names.proofs.ports.wrong_mirrors.Given as goal

-- none so far breaks the rule
abbrev pub invariant-loop-i : goal.invariant-loop-i
invariant-loop-i l = first (flat_map wrong_mirror (flat_map interfaces_of (zip (drop l.i l.ordered.dps) (drop l.i l.conf.dps)))) ≡ first (flat_map wrong_mirror (interfaces l.ordered l.conf))
