-- Which items of a reply count: the first of equal ones, and of these so many.
use Rattle.std.specs.Prelude.{ℕ, ◌==◌, ◌&&◌, Bool, if◌then◌else◌, List, [], ◌∷◌, ◌++◌, take}
use Rattle.std.specs.List.{list_any}
use Rattle.std.specs.Str.{bytes_eq}
use Rattle.of13_codec.specs.declared.ports.PortStats.{PortStats}
use Rattle.flow_stats.specs.declared.flow.Flow.{Flow}

-- items to none of which an earlier one is equal
abbrev pub firsts : {A : Type 0} → (same : A → A → Bool) → (before items : List A) → List A
firsts same before [] = []
firsts same before (x ∷ more) =
    if list_any (λ y. same y x) before then firsts same (before ++ x ∷ []) more else x ∷ firsts same (before ++ x ∷ []) more

abbrev pub is_same_port : PortStats → PortStats → Bool
is_same_port a b = a.no == b.no

abbrev pub most_ports : ℕ
most_ports = 4096

unfoldable pub counted_ports : List PortStats → List PortStats
counted_ports items = take most_ports (firsts is_same_port [] items)

-- of one table, of one priority, and with the same match
abbrev pub is_same_flow : Flow → Flow → Bool
is_same_flow a b = a.table == b.table && (a.priority == b.priority && bytes_eq a.key b.key)

abbrev pub most_flows : ℕ
most_flows = 65536

unfoldable pub counted_flows : List Flow → List Flow
counted_flows flows = take most_flows (firsts is_same_flow [] flows)
