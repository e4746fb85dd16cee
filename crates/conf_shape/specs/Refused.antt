-- What a refusal of a configuration says.
use Rattle.std.specs.Prelude.{◌≡◌, Some}
use Rattle.yaml_tree.specs.declared.tree.Tree.{Tree}
use Rattle.conf_shape.specs.declared.refused.ConfRefused.{ConfRefused}
use Rattle.conf_shape.specs.declared.refused.ConfRefused.TheVariants.{At, Memory}
use Rattle.conf_shape.specs.Faults.{first_fault}

-- the fault that is told is the document's first; want of memory says nothing of the document
abbrev pub IsRefused : Tree → ConfRefused → Type 0
IsRefused t (At fault) = first_fault t ≡ Some fault
IsRefused t Memory = Unit {0}
