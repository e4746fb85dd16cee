use Rattle.std.proofs.Common.{◌≡◌, ◌++◌, ◌∷◌, [], drop}
use Rattle.std.specs.Fmt.{decimal}
use Rattle.std.specs.List.{flat_map, enumerate_from}
use Rattle.conf_resolve.specs.InOrder.{by_number, by_numbers}
use Rattle.conf_resolve.specs.Added.{with_each}
use Rattle.conf_resolve.proofs.made.add_numbers.Given as goal

-- what is left completes the list
abbrev pub invariant-loop-i : goal.invariant-loop-i
invariant-loop-i l = with_each l.vlans (flat_map (λ item. by_number (l.site ++ decimal item.0 ∷ []) item.1) (enumerate_from l.i-counter (drop l.i-counter l.names))) ≡ with_each l.fn.vlans (by_numbers l.site l.names)
