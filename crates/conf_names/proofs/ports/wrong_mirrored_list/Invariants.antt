use Rattle.std.proofs.Common.{◌≡◌, drop, [], ◌∷◌}
use Rattle.conf_rules.specs.Places.{first, nth, each_at}
use Rattle.conf_rules.specs.Ports.{wrong_mirrored, mirror_site}
use Rattle.std.specs.List.{flat_map, enumerate_from}
use Rattle.conf_names.proofs.ports.wrong_mirrored_list.Given as goal

-- none so far breaks the rule
abbrev pub invariant-loop-i : goal.invariant-loop-i
invariant-loop-i l = first (flat_map (wrong_mirrored (record { raw_dp = l.ports.named; dp = l.ports.numbered.dp.now; raw = l.raw; port = l.port })) (flat_map (λ item. (nth (mirror_site (record { raw_dp = l.ports.named; dp = l.ports.numbered.dp.now; raw = l.raw; port = l.port })) item.0, item.1) ∷ []) (enumerate_from l.i (drop l.i l.names)))) ≡ first (flat_map (wrong_mirrored (record { raw_dp = l.ports.named; dp = l.ports.numbered.dp.now; raw = l.raw; port = l.port })) (each_at (mirror_site (record { raw_dp = l.ports.named; dp = l.ports.numbered.dp.now; raw = l.raw; port = l.port })) l.names))
