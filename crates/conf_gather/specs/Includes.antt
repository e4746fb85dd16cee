-- The files that a file includes.
use Rattle.std.specs.Prelude.{ℕ, ◌||◌, Bool, true, false, List, ◌++◌, map, codes}
use Rattle.yaml_tree.specs.declared.tree.Key.{Key}
use Rattle.yaml_tree.specs.declared.tree.Pair.{Pair}
use Rattle.conf_shape.specs.Sections.{is_key}
use Rattle.conf_shape.specs.Reads.{list_at, words_of}
use Rattle.conf_gather.specs.declared.include.Role.{Role}
use Rattle.conf_gather.specs.declared.include.Role.TheVariants.{Main, Needed, Optional}
use Rattle.conf_gather.specs.declared.include.Include.{Include}
use Rattle.conf_gather.specs.WholeName.{whole_name}

abbrev pub is_include_key : Key → Bool
is_include_key key = is_key (codes "include") key || is_key (codes "include-optional") key

-- it was named by another file
abbrev pub is_included : Role → Bool
is_included Main = false
is_included Needed = true
is_included Optional = true

-- it may be missing
abbrev pub is_optional : Role → Bool
is_optional Main = false
is_optional Needed = false
is_optional Optional = true

abbrev pub included_as : Role → (including written : List ℕ) → Include
included_as role including written = record { name = whole_name including written; role = role }

-- the files that a file with these entries includes, in order
abbrev pub includes_of : (including : List ℕ) → List Pair → List Include
includes_of including pairs = map (included_as Needed including) (list_at words_of (codes "include") pairs)
    ++ map (included_as Optional including) (list_at words_of (codes "include-optional") pairs)
