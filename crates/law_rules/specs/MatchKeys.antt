-- The field that a match key of a rule gives.
use Rattle.std.specs.Prelude.{◌≡◌, ℕ, List, [], ◌∷◌, map}
use Rattle.net_base.specs.FieldId.{number_of}
use Rattle.yaml_tree.specs.declared.tree.Key.TheVariants as key
use Rattle.yaml_tree.specs.declared.tree.Pair.{Pair}
use Rattle.yaml_tree.specs.declared.tree.Tree.{Tree, out-Tree}
use Rattle.yaml_tree.specs.declared.tree.Tree.TheOpen.{Tree-F}
use Rattle.conf_shape.specs.declared.kinds.MapKind.TheVariants as maps
use Rattle.conf_shape.specs.declared.raw.RawField.{RawField}
use Rattle.conf_shape.specs.Keys.{keys_of, match_keys}
use Rattle.conf_shape.specs.Values.{fields_by}

-- a field by its number, with its value and its mask
pub record Numbered : Type 0 where
  pub number : ℕ
  pub value : ℕ
  pub mask : ℕ

abbrev pub field : ℕ → ℕ → ℕ → Numbered
field number value mask = record { number = number; value = value; mask = mask }

abbrev pub numbered : RawField → Numbered
numbered f = field (number_of f.field.id) f.field.value f.field.mask

-- the fields of a rule in which this alone is written
abbrev pub given : List ℕ → Tree → List Numbered
given name value =
    let pair : Pair = record { key = key.Text name; value = value } in
    map numbered (fields_by (keys_of maps.Rule).spellings match_keys (pair ∷ []))

-- of a value of this form that is one field: it has this number, value and mask
abbrev pub Gives : List ℕ → Tree-F Tree Pair → ℕ → ℕ → ℕ → Type 0
Gives name form number value mask = (t : Tree) → out-Tree t ≡ form → given name t ≡ field number value mask ∷ []

-- there is no field
abbrev pub GivesNone : List ℕ → Tree-F Tree Pair → Type 0
GivesNone name form = (t : Tree) → out-Tree t ≡ form → given name t ≡ []
