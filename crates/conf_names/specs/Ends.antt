-- Whether ports are ends of stack links: of each number and name, the first port that has it.
use Rattle.std.specs.Prelude.{ℕ, ◌==◌, Bool, if◌then◌else◌, is_some, List, Option, Some, None}
use Rattle.std.specs.List.{find}
use Rattle.std.specs.Option.{option_map, option_map_or}
use Rattle.conf_types.specs.declared.datapath.Port.{Port}
use Rattle.conf_types.specs.Lists.{is_same}
use Rattle.conf_shape.specs.declared.refused.ConfCause.{ConfCause}
use Rattle.conf_shape.specs.declared.refused.ConfCause.TheVariants.{Unresolved, Conflict}

abbrev pub end_among : (Port → Bool) → List Port → Option Bool
end_among test ports = option_map (λ p. is_some p.stack) (find test ports)

abbrev pub end_numbered : List Port → ℕ → Option Bool
end_numbered ports number = end_among (λ p. p.no == number) ports

abbrev pub end_named : List Port → List ℕ → Option Bool
end_named ports name = end_among (λ p. is_same p.name name) ports

-- what is wrong with a port that an ACL names, where it is attached
abbrev pub end_cause : Option Bool → Option ConfCause
end_cause end = option_map_or (λ is_end. if is_end then Some (Conflict 8) else None) end (Some Unresolved)
