use Rattle.std.proofs.Common.{◌≡◌, drop, codes, map, [], ◌∷◌}
use Rattle.conf_rules.specs.Places.{first, nth}
use Rattle.conf_rules.specs.Ports.{lacking_field, lacking_fields}
use Rattle.std.specs.List.{flat_map}
use Rattle.conf_names.proofs.targets.lacking_fields.Given as goal

-- none so far breaks the rule
abbrev pub invariant-loop-raw : goal.invariant-loop-raw
invariant-loop-raw l = first (flat_map (lacking_field (nth (codes "acls" ∷ l.acl.name ∷ []) l.at) (map (λ g. g.field) l.rule.fields)) (drop l.raw-index l.rule.fields)) ≡ first (lacking_fields (nth (codes "acls" ∷ l.acl.name ∷ []) l.at, l.rule))
