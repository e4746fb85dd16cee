use Rattle.std.proofs.Common.{◌≡◌, ◌++◌, map, drop}
use Rattle.conf_resolve.proofs.rules.plain_fields.Given as goal

-- what is left completes the list
abbrev pub invariant-loop-field : goal.invariant-loop-field
invariant-loop-field l = l.made ++ map (λ f. f.field) (drop l.field-index l.fields) ≡ map (λ f. f.field) l.fields
