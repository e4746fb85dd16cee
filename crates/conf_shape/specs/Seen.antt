-- The names that a map gave so far, as a set.
use Rattle.std.specs.Prelude.{◌≡◌, ℕ, Bool, true, false, List}
use Rattle.std.specs.List.{list_any}
use Rattle.std.specs.BTreeSet.{BTreeSet, contains_text}
use Rattle.std.specs.declared.string.String.{String}
use Rattle.std.specs.declared.alloc.Global.{Global}
use Rattle.yaml_tree.specs.declared.tree.Key.{Key}
use Rattle.conf_shape.specs.declared.kinds.MapKind.{MapKind}
use Rattle.conf_shape.specs.declared.kinds.MapKind.TheVariants.{Datapaths, Acls, Routers}
use Rattle.conf_shape.specs.Sections.{has_text}

-- the set has the texts of these keys, and no others
abbrev pub HasTexts : BTreeSet (String Global) → List Key → Type 0
HasTexts seen keys = (text : List ℕ) → contains_text seen text ≡ list_any (has_text text) keys

-- each key is a name that is given once
abbrev pub is_of_names : MapKind → Bool
is_of_names Datapaths = true
is_of_names Acls = true
is_of_names Routers = true
is_of_names _ = false

-- of a map of names the set has those so far
abbrev pub IsSeen : MapKind → BTreeSet (String Global) → List Key → Type 0
IsSeen m seen keys = is_of_names m ≡ true → HasTexts seen keys
