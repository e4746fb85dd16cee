use Rattle.std.proofs.Common.{◌≡◌, drop}
use Rattle.std.specs.List.{list_any}
use Rattle.conf_shape.specs.Sections.{map_keys, is_key}
use Rattle.gauge_conf.proofs.faults.has_key.Given as goal

-- none of those so far is the key
abbrev pub invariant-loop-pair : goal.invariant-loop-pair
invariant-loop-pair l = list_any (is_key l.name) (map_keys l.pairs) ≡ list_any (is_key l.name) (map_keys (drop l.pair-index l.pairs))
