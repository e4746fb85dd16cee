-- What a map with no fault says of its keys.
use Rattle.std.specs.Prelude.{◌≡◌, ℕ, ℤ, List, [], map, Some, Ok}
use Rattle.yaml_tree.specs.declared.tree.Key.TheVariants as key
use Rattle.yaml_tree.specs.declared.tree.Pair.{Pair}
use Rattle.conf_shape.specs.declared.refused.ConfCause.TheVariants.{WrongType}
use Rattle.conf_shape.specs.declared.kinds.Kind.{Kind}
use Rattle.conf_shape.specs.declared.kinds.MapKind.{MapKind}
use Rattle.conf_shape.specs.declared.kinds.Scalar.{Scalar}
use Rattle.conf_shape.specs.Faults.{entry_of, map_faults}
use Rattle.conf_shape.specs.Scalars.{flag_fault, number_fault}
use Rattle.conf_shape.specs.Sections.{under_key}

-- the entries of a map have no fault
abbrev pub IsRight : MapKind → List Pair → Type 0
IsRight m pairs = map_faults m [] (map entry_of pairs) ≡ []

-- what stands under a key of the map is of this kind
abbrev pub Takes : MapKind → List ℕ → Kind → Type 0
Takes m name kind = under_key m [] (key.Text name) ≡ Ok kind

-- neither a flag nor a number, so only a text, can be right there
pub record IsTextAlone (scalar : Scalar) : Type 0 where
  pub no_flag : flag_fault scalar ≡ Some WrongType
  pub no_number : (n : ℤ) → number_fault scalar n ≡ Some WrongType
