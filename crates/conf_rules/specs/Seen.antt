-- What was seen so far, as sets.
use Rattle.std.specs.Prelude.{◌≡◌, ℕ, ◌==◌, List}
use Rattle.std.specs.List.{list_any}
use Rattle.std.specs.Ordering.{nat_cmp}
use Rattle.std.specs.BTreeSet.{BTreeSet, contains, contains_text}
use Rattle.std.specs.declared.string.String.{String}
use Rattle.std.specs.declared.alloc.Global.{Global}
use Rattle.conf_types.specs.Lists.{is_same}

-- the set has the numbers of these items, and no others
abbrev pub HasNumbers : {A : Type 0} → BTreeSet ℕ → (A → ℕ) → List A → Type 0
HasNumbers seen number xs = (n : ℕ) → contains nat_cmp seen n ≡ list_any (λ x. number x == n) xs

-- the set has the names of these items, and no others
abbrev pub HasNames : {A : Type 0} → BTreeSet (String Global) → (A → List ℕ) → List A → Type 0
HasNames seen name xs = (text : List ℕ) → contains_text seen text ≡ list_any (λ x. is_same (name x) text) xs
