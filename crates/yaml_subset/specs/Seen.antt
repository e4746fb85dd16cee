-- The sets beside the entries of a map, by which a key is found.
use Rattle.std.specs.Prelude.{◌≡◌, ℕ, List, ℤ}
use Rattle.std.specs.Ordering.{int_cmp}
use Rattle.std.specs.BTreeSet.{BTreeSet, contains, contains_text}
use Rattle.std.specs.declared.string.String.{String}
use Rattle.std.specs.declared.alloc.Global.{Global}
use Rattle.yaml_tree.specs.declared.tree.Key.TheVariants as key
use Rattle.yaml_tree.specs.declared.tree.Pair.{Pair}
use Rattle.yaml_subset.specs.Entries.{has_key}

-- the sets have the keys of the entries, and no others
pub record HaveKeys (pairs : List Pair) (ints : BTreeSet ℤ) (texts : BTreeSet (String Global)) : Type 0 where
  pub ints_agree : (n : ℤ) → contains int_cmp ints n ≡ has_key pairs (key.Int n)
  pub texts_agree : (bytes : List ℕ) → contains_text texts bytes ≡ has_key pairs (key.Text bytes)
