-- The grammar of a value on one line: a scalar, a flow list or a flow map, apart from how it is read.
use Rattle.std.specs.Prelude.{◌≡◌, ◌⊎◌, ℕ, zero, suc, Bool, true, false, ◌||◌, List, [], ◌∷◌, ◌++◌, drop, Ok}
use Rattle.yaml_subset.specs.declared.scalars.Scanned.{Scanned}
use Rattle.yaml_tree.specs.declared.tree.Tree.{Tree}
use Rattle.yaml_tree.specs.declared.tree.Tree.TheVariants as tree
use Rattle.yaml_tree.specs.declared.tree.Pair.{Pair}
use Rattle.yaml_subset.specs.Characters.{is_empty, begins, marks, next_part, line_end}
use Rattle.yaml_subset.specs.Scalars.{scan, value_at, key_of}
use Rattle.yaml_subset.specs.Entries.{has_key}

-- a scalar with its value, within or outside of flow brackets, and what follows it
abbrev pub IsScalar : Bool → List ℕ → Tree → List ℕ → Type 0
IsScalar flow rest v after = (scanned : Scanned) × (scan flow rest ≡ Ok (scanned, after)) × (value_at scanned after ≡ Ok v)

-- an item of a flow list with its value, and the part behind it
pub record IsFlowItem (Value : List ℕ → Tree → List ℕ → Type 0) (inside : List ℕ) (v : Tree) (behind : List ℕ) : Type 0 where
  pub start : List ℕ
  pub after : List ℕ
  pub begins_at : next_part false inside ≡ Ok start
  pub some : is_empty start ≡ false
  pub unclosed : begins 93 start ≡ false
  pub value : Value start v after
  pub ends_at : next_part false after ≡ Ok behind

-- The items of a flow list from here on, and what follows its closing bracket. A comma stands between two
-- items, and may stand behind the last one.
abbrev pub AreFlowItems : (Value : List ℕ → Tree → List ℕ → Type 0) → List ℕ → List Tree → List ℕ → Type 0
AreFlowItems Value inside [] after = next_part false inside ≡ Ok (93 ∷ after)
AreFlowItems Value inside (v ∷ vs) after = (behind : List ℕ) × IsFlowItem Value inside v behind
    × (((behind ≡ 93 ∷ after) × (vs ≡ [])) ⊎ ((next : List ℕ) × (behind ≡ 44 ∷ next) × AreFlowItems Value next vs after))

-- the value of an entry of a flow map, which may be nothing, and what follows it
abbrev pub IsFlowValue : (Value : List ℕ → Tree → List ℕ → Type 0) → List ℕ → Tree → List ℕ → Type 0
IsFlowValue Value part v after = ((begins 44 part || begins 125 part ≡ true) × (v ≡ tree.Null) × (after ≡ part))
    ⊎ ((begins 44 part || begins 125 part ≡ false) × Value part v after)

-- an entry of a flow map, whose key is none of those before it, and the part behind it
pub record IsFlowEntry (Value : List ℕ → Tree → List ℕ → Type 0) (before : List Pair) (inside : List ℕ) (pair : Pair) (behind : List ℕ) : Type 0 where
  pub start : List ℕ
  pub scanned : Scanned
  pub colon_at : List ℕ
  pub part : List ℕ
  pub after : List ℕ
  pub begins_at : next_part false inside ≡ Ok start
  pub some : is_empty start ≡ false
  pub unclosed : begins 125 start ≡ false
  pub scalar : scan true start ≡ Ok (scanned, colon_at)
  pub colon : marks 58 colon_at ≡ true
  pub key : key_of scanned ≡ Ok pair.key
  pub first : has_key before pair.key ≡ false
  pub value_at : next_part false (drop 1 colon_at) ≡ Ok part
  pub ended : is_empty part ≡ false
  pub value : IsFlowValue Value part pair.value after
  pub ends_at : next_part false after ≡ Ok behind

-- the entries of a flow map from here on, and what follows its closing bracket
abbrev pub AreFlowEntries : (Value : List ℕ → Tree → List ℕ → Type 0) → List Pair → List ℕ → List Pair → List ℕ → Type 0
AreFlowEntries Value before inside [] after = next_part false inside ≡ Ok (125 ∷ after)
AreFlowEntries Value before inside (p ∷ ps) after = (behind : List ℕ) × IsFlowEntry Value before inside p behind
    × (((behind ≡ 125 ∷ after) × (ps ≡ [])) ⊎ ((next : List ℕ) × (behind ≡ 44 ∷ next) × AreFlowEntries Value (before ++ p ∷ []) next ps after))

-- a scalar or what is nested, within flow brackets
abbrev pub IsNested : (List ℕ → Tree → List ℕ → Type 0) → List ℕ → Tree → List ℕ → Type 0
IsNested Flow rest v after = IsScalar true rest v after ⊎ Flow rest v after

-- a flow list
pub record IsFlowList (Flow : List ℕ → Tree → List ℕ → Type 0) (rest : List ℕ) (v : Tree) (after : List ℕ) : Type 0 where
  pub inside : List ℕ
  pub items : List Tree
  pub opens : rest ≡ 91 ∷ inside
  pub is : v ≡ tree.List items
  pub are : AreFlowItems (IsNested Flow) inside items after

-- a flow map
pub record IsFlowMap (Flow : List ℕ → Tree → List ℕ → Type 0) (rest : List ℕ) (v : Tree) (after : List ℕ) : Type 0 where
  pub inside : List ℕ
  pub pairs : List Pair
  pub opens : rest ≡ 123 ∷ inside
  pub is : v ≡ tree.Map pairs
  pub are : AreFlowEntries (IsNested Flow) [] inside pairs after

-- A flow list or map with its tree, and what follows it; it nests at most so many lists and maps, itself
-- among them.
abbrev pub IsFlow : ℕ → List ℕ → Tree → List ℕ → Type 0
IsFlow zero rest v after = ⊥
IsFlow (suc levels) rest v after = IsFlowList (IsFlow levels) rest v after ⊎ IsFlowMap (IsFlow levels) rest v after

-- a value up to the line's end
abbrev pub IsLineValue : ℕ → List ℕ → Tree → Type 0
IsLineValue levels part v = (after : List ℕ) × (IsScalar false part v after ⊎ IsFlow levels part v after) × (line_end after ≡ Ok tt)
