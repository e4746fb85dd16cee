-- The entries of a file joined with those gathered before.
use Rattle.std.specs.Prelude.{ℕ, ◌+◌, is_some, is_none, if◌then◌else◌, List, [], ◌∷◌, ◌++◌, Option, Some, None}
use Rattle.std.specs.Option.{option_map, option_map_or, option_or}
use Rattle.yaml_tree.specs.declared.tree.Key.{Key}
use Rattle.yaml_tree.specs.declared.tree.Pair.{Pair}
use Rattle.yaml_tree.specs.declared.tree.Tree.TheVariants as tree
use Rattle.yaml_subset.specs.Entries.{key_eq}
use Rattle.conf_shape.specs.Sections.{key_text}
use Rattle.conf_shape.specs.Reads.{entries_of}
use Rattle.conf_gather.specs.Includes.{is_include_key}
use Rattle.conf_gather.specs.WrongTypes.{value_of, is_section}

-- ---- names that two files give

-- the first key that stands in both
abbrev pub first_in_both : List Pair → List Pair → Option Key
first_in_both before [] = None
first_in_both before (p ∷ ps) = if is_some (value_of p.key before) then Some p.key else first_in_both before ps

-- the entries gathered of a section
abbrev pub gathered_under : Key → List Pair → List Pair
gathered_under key gathered = option_map_or entries_of (value_of key gathered) []

-- where a section gives a name that was given before
abbrev pub given_again : List Pair → Pair → Option (List ℕ)
given_again gathered p =
    if is_section p.key
    then option_map (λ key. key_text p.key ++ 46 ∷ key_text key) (first_in_both (gathered_under p.key gathered) (entries_of p.value))
    else None

-- the first such place in the document's order
abbrev pub all_given_again : List Pair → List Pair → Option (List ℕ)
all_given_again gathered [] = None
all_given_again gathered (p ∷ ps) = option_or (given_again gathered p) (all_given_again gathered ps)

-- ---- joining

abbrev pub extended : Pair → List Pair → Pair
extended p more = record { key = p.key; value = tree.Map (entries_of p.value ++ more) }

-- the section of this key has these entries too, behind its own
abbrev pub with_more : Key → List Pair → List Pair → List Pair
with_more key more [] = []
with_more key more (p ∷ ps) = if key_eq p.key key then extended p more ∷ ps else p ∷ with_more key more ps

-- the place of the entry of a key, the first one's being n
abbrev pub place_of : Key → ℕ → List Pair → Option ℕ
place_of key n [] = None
place_of key n (p ∷ ps) = if key_eq p.key key then Some n else place_of key (n + 1) ps

-- A key that is new stands behind those gathered; of one that isn't, a section is joined, and any other
-- value passed over. The include keys are left out.
abbrev pub joined_entry : List Pair → Pair → List Pair
joined_entry gathered p =
    if is_include_key p.key then gathered
    else if is_none (value_of p.key gathered) then gathered ++ p ∷ []
    else if is_section p.key then with_more p.key (entries_of p.value) gathered
    else gathered

abbrev pub joined : List Pair → List Pair → List Pair
joined gathered [] = gathered
joined gathered (p ∷ ps) = joined (joined_entry gathered p) ps
