-- Where the path of a fault leads in a document.
use Rattle.std.specs.Prelude.{◌≡◌, ℕ, ◌+◌, ◌⊎◌, List, [], ◌∷◌}
use Rattle.std.specs.Fmt.{decimal}
use Rattle.std.specs.List.{AllByRecursion}
use Rattle.yaml_tree.specs.declared.tree.Pair.{Pair}
use Rattle.yaml_tree.specs.declared.tree.Tree.{Tree, out-Tree}
use Rattle.yaml_tree.specs.declared.tree.Tree.TheOpen.{Tree-F}
use Rattle.yaml_tree.specs.declared.tree.Tree.TheOpen as tree
use Rattle.conf_shape.specs.declared.refused.ConfFault.{ConfFault}
use Rattle.conf_shape.specs.Faults.{path_of}
use Rattle.conf_shape.specs.Sections.{key_text}

-- the value stands under a key of this text
abbrev pub IsEntry : List Pair → List ℕ → Tree → Type 0
IsEntry [] step v = ⊥
IsEntry (p ∷ ps) step v = ((key_text p.key ≡ step) × (p.value ≡ v)) ⊎ IsEntry ps step v

-- the value stands at the place of this number, where the first is n
abbrev pub IsItem : ℕ → List Tree → List ℕ → Tree → Type 0
IsItem n [] step v = ⊥
IsItem n (t ∷ ts) step v = ((decimal n ≡ step) × (t ≡ v)) ⊎ IsItem (n + 1) ts step v

abbrev pub IsBelow : Tree-F Tree Pair → List ℕ → Tree → Type 0
IsBelow (tree.Map pairs) step v = IsEntry pairs step v
IsBelow (tree.List items) step v = IsItem 0 items step v
IsBelow _ step v = ⊥

-- the steps, keys and places in lists, lead from one value to another
abbrev pub LeadsTo : Tree → List (List ℕ) → Tree → Type 0
LeadsTo t [] v = t ≡ v
LeadsTo t (step ∷ steps) v = (u : Tree) × IsBelow (out-Tree t) step u × LeadsTo u steps v

-- the path of the fault is one of steps that lead to a value of which this holds
abbrev pub PathLeads : Tree → (Tree-F Tree Pair → Type 0) → ConfFault → Type 0
PathLeads t Form fault = (steps : List (List ℕ)) × (fault.path ≡ path_of steps) × (v : Tree) × LeadsTo t steps v × Form (out-Tree v)

abbrev pub PathsLead : Tree → (Tree-F Tree Pair → Type 0) → List ConfFault → Type 0
PathsLead t Form faults = AllByRecursion (PathLeads t Form) faults
