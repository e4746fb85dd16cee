-- The configuration that a text gives.
use Rattle.std.specs.Prelude.{◌≡◌, ℕ, List, Ok}
use Rattle.yaml_tree.specs.declared.tree.Tree.{Tree}
use Rattle.yaml_subset.specs.Grammar.{Reads}
use Rattle.conf_types.specs.Configuration.{Configuration}
use Rattle.conf_check.specs.Accepted.{conf_of}

-- that of its document
abbrev pub Gives : List ℕ → Configuration → Type 0
Gives text conf = (t : Tree) × Reads text t × (conf_of t ≡ Ok conf)
