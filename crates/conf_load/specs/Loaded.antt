-- The configuration of a file with all that it includes.
use Rattle.std.specs.Prelude.{ℕ, List, Result, Ok, Err}
use Rattle.yaml_tree.specs.declared.tree.Tree.{Tree}
use Rattle.yaml_subset.specs.Printed.{printed}
use Rattle.conf_types.specs.Configuration.{Configuration}
use Rattle.conf_shape.specs.declared.refused.ConfFault.{ConfFault}
use Rattle.conf_check.specs.Accepted.{conf_of}
use Rattle.conf_gather.specs.declared.refused.LoadRefused.{LoadRefused}
use Rattle.conf_gather.specs.declared.refused.LoadRefused.TheVariants.{Conf}
use Rattle.conf_gather.specs.Gives.{◌>>=◌}
use Rattle.conf_gather.specs.Gathered.{Held, Finds, held_by, gathered_by}

abbrev pub unless_fault : Result Configuration ConfFault → Result Configuration LoadRefused
unless_fault (Ok conf) = Ok conf
unless_fault (Err fault) = Err (Conf fault)

-- the configuration of a gathered document
abbrev pub checked : Tree → Result Configuration LoadRefused
checked t = unless_fault (conf_of t)

-- the configuration of the file of this name, or why there is none, where trees are found so
abbrev pub loaded_by : Finds → (name : List ℕ) → Result Configuration LoadRefused
loaded_by finds name = gathered_by finds name >>= checked

-- the same, where these files are held
abbrev pub loaded : Held → (name : List ℕ) → Result Configuration LoadRefused
loaded held name = loaded_by (held_by held) name

-- ---- with the document's text

-- the configuration of a gathered document, and its canonical text
abbrev pub checked_with_text : Tree → Result (Configuration × List ℕ) LoadRefused
checked_with_text t = checked t >>= λ conf. Ok (conf, printed t)

-- the configuration of the file of this name with the canonical text of the document that is gathered, or why there is none, where
-- trees are found so
abbrev pub loaded_with_text_by : Finds → (name : List ℕ) → Result (Configuration × List ℕ) LoadRefused
loaded_with_text_by finds name = gathered_by finds name >>= checked_with_text

-- the same, where these files are held
abbrev pub loaded_with_text : Held → (name : List ℕ) → Result (Configuration × List ℕ) LoadRefused
loaded_with_text held name = loaded_with_text_by (held_by held) name
