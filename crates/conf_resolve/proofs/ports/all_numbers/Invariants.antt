use Rattle.std.proofs.Common.{◌≡◌, ◌++◌, map, drop, unwrap_or}
use Rattle.conf_resolve.specs.Resolved.{number_named}
use Rattle.conf_resolve.proofs.ports.all_numbers.Given as goal

-- what is left completes the list
abbrev pub invariant-loop-name : goal.invariant-loop-name
invariant-loop-name l = l.made ++ map (λ name. unwrap_or (number_named l.ports name) l.own) (drop l.name-index l.names) ≡ map (λ name. unwrap_or (number_named l.ports name) l.own) l.names
