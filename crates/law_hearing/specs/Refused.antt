-- Why a reload is refused.
use Rattle.std.specs.Prelude.{◌≡◌, ◌⊎◌, ℕ, List, Err}
use Rattle.yaml_tree.specs.declared.tree.Tree.{Tree}
use Rattle.yaml_subset.specs.declared.fault.YamlFault.{YamlFault}
use Rattle.yaml_subset.specs.Grammar.{Reads}
use Rattle.yaml_subset.specs.TextFault.{IsFault}
use Rattle.conf_shape.specs.declared.refused.ConfFault.{ConfFault}
use Rattle.conf_causes.specs.Causes.{fault_text}
use Rattle.conf_check.specs.Accepted.{conf_of}
use Rattle.ctl_core.specs.Reloading.{yaml_fault_text}

-- the cause is that of the text's fault
abbrev pub IsOfText : (text cause : List ℕ) → Type 0
IsOfText text cause = (fault : YamlFault) × IsFault text fault × (cause ≡ yaml_fault_text fault)

-- or that of the fault of the document that the text has
abbrev pub IsOfDocument : (text cause : List ℕ) → Type 0
IsOfDocument text cause = (t : Tree) × (fault : ConfFault) × Reads text t × (conf_of t ≡ Err fault) × (cause ≡ fault_text fault)

abbrev pub IsRefusedFor : (text cause : List ℕ) → Type 0
IsRefusedFor text cause = IsOfText text cause ⊎ IsOfDocument text cause
