-- Which of the open blocks a line ends, and where it begins one, apart from how that is tested. The open blocks are told
-- innermost first.
use Rattle.std.specs.Prelude.{◌≡◌, ◌⊎◌, ℕ, ◌<◌, Bool, true, false, List, [], ◌∷◌, Option, None}
use Rattle.yaml_tree.specs.declared.tree.Tree.{Tree}
use Rattle.yaml_tree.specs.declared.tree.Key.{Key}
use Rattle.yaml_tree.specs.declared.tree.Pair.{Pair}
use Rattle.yaml_subset.specs.declared.stack.Open.TheVariants as open_
use Rattle.yaml_subset.specs.declared.stack.Frame.{Frame}

-- three of a character begin the line, and then comes a space or the line's end
abbrev pub IsMarker : ℕ → List ℕ → Type 0
IsMarker c line = (line ≡ c ∷ c ∷ c ∷ []) ⊎ ((rest : List ℕ) × (line ≡ c ∷ c ∷ c ∷ 32 ∷ rest))

abbrev pub IsOfList : Frame → Type 0
IsOfList f = (items : List Tree) × (f.open_block ≡ open_.List items)

abbrev pub IsOfMap : Frame → Type 0
IsOfMap f = (pairs : List Pair) × (key : Key) × (f.open_block ≡ open_.Map pairs key)

-- the innermost block has this indent
abbrev pub IsInnermost : ℕ → List Frame → Type 0
IsInnermost indent frames = (f : Frame) × (around : List Frame) × (frames ≡ f ∷ around) × (f.indent ≡ indent)

-- A line at this indent ends the block: it stands less deep, or it is no item, and the block is a list at the indent of the
-- key above it.
abbrev pub IsEndedAt : (indent : ℕ) (item : Bool) → Frame → (around : List Frame) → Type 0
IsEndedAt indent item f around = (indent < f.indent) ⊎ ((f.indent ≡ indent) × IsOfList f × (item ≡ false) × IsInnermost indent around)

-- a line at this indent may be below the last entry of the block: it stands deeper, or it is an item at the indent of a key
abbrev pub IsBelow : (indent : ℕ) (item : Bool) → Frame → Type 0
IsBelow indent item f = (f.indent < indent) ⊎ ((f.indent ≡ indent) × IsOfMap f × (item ≡ true))

-- a line at this indent begins a block: the last entry has no value yet, and the line is below it
abbrev pub IsBegunAt : List Frame → (slot : Option Tree) → (indent : ℕ) (item : Bool) → Type 0
IsBegunAt frames slot indent item = (slot ≡ None) × ((f : Frame) × (around : List Frame) × (frames ≡ f ∷ around) × IsBelow indent item f)
