-- What the path of a fault of the shape leads to.
use Rattle.std.specs.Prelude.{◌≡◌, ℕ, List, [], ◌∷◌, ◌++◌, None}
use Rattle.yaml_tree.specs.declared.tree.Tree.{Tree, out-Tree}
use Rattle.conf_shape.specs.declared.refused.ConfCause.TheVariants.{Missing}
use Rattle.conf_shape.specs.declared.refused.ConfFault.{ConfFault}
use Rattle.conf_shape.specs.Faults.{path_of}
use Rattle.conf_shape.specs.Reads.{value_at, entries_of}
use Rattle.law_documents.specs.Forms.{IsSection}
use Rattle.law_documents.specs.Leads.{LeadsTo}

-- the value is a map that doesn't have the key
abbrev pub Lacks : List ℕ → Tree → Type 0
Lacks key v = IsSection (out-Tree v) × (value_at key (entries_of v) ≡ None)

-- a key is missing: it is the last step of the path, and the steps before it lead to the map that lacks it
abbrev pub IsOfMissing : Tree → ConfFault → Type 0
IsOfMissing t fault = (steps : List (List ℕ)) × (key : List ℕ) × (fault ≡ record { path = path_of (steps ++ key ∷ []); cause = Missing }) × (v : Tree) × LeadsTo t steps v × Lacks key v
