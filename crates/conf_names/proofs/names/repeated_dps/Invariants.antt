use Rattle.std.proofs.Common.{◌≡◌, drop, take, []}
use Rattle.conf_rules.specs.Names.{repeated_dp}
use Rattle.conf_rules.specs.Places.{first, with_earlier}
use Rattle.conf_rules.specs.Seen.{HasNumbers, HasNames}
use Rattle.std.specs.List.{flat_map}
use Rattle.conf_names.proofs.names.repeated_dps.Given as goal

-- none so far breaks the rule, and the numbers and names so far are seen
abbrev pub invariant-loop-dp : goal.invariant-loop-dp
invariant-loop-dp l =
    (first (flat_map repeated_dp (with_earlier (take l.dp-index l.ordered.dps) (drop l.dp-index l.ordered.dps))) ≡ first (flat_map repeated_dp (with_earlier [] l.ordered.dps)))
    × HasNumbers l.ids (λ d. d.id.0) (take l.dp-index l.ordered.dps)
    × HasNames l.names (λ d. d.names.name) (take l.dp-index l.ordered.dps)
