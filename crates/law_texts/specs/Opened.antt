-- What lines leave open, by the grammar: which blocks may go on, with their entries that are finished, and the value of the last
-- one so far. Of open blocks the innermost stands first.
use Rattle.std.specs.Prelude.{◌≡◌, ◌⊎◌, ◌<◌, ℕ, zero, suc, true, false, ◌+◌, ◌-◌, List, [], ◌∷◌, ◌++◌, length, drop, Option, Some, None, Ok}
use Rattle.yaml_subset.specs.declared.scalars.Scanned.{Scanned}
use Rattle.yaml_subset.specs.declared.stack.Frame.{Frame}
use Rattle.yaml_subset.specs.declared.blocks.State.{State}
use Rattle.yaml_subset.specs.declared.blocks.State.TheVariants.{Start, Headed, Alone, Blocks}
use Rattle.yaml_tree.specs.declared.tree.Tree.{Tree}
use Rattle.yaml_tree.specs.declared.tree.Key.{Key}
use Rattle.yaml_tree.specs.declared.tree.Pair.{Pair}
use Rattle.yaml_subset.specs.Characters.{is_empty, marks, next_part}
use Rattle.yaml_subset.specs.Scalars.{scan, key_of}
use Rattle.yaml_subset.specs.Entries.{has_key}
use Rattle.yaml_subset.specs.Blocks.{list_frame, map_frame}
use Rattle.yaml_subset.specs.LineValue.{IsLineValue}
use Rattle.yaml_subset.specs.Grammar.{Line, Form, of_list, of_map, AreItems, AreEntries, IsBlock, IsPassed, Counts, AreLater, IsHead, IsNoHead}

-- The last item of a list at this indent, in these open blocks, of which the list is the first: nothing stands behind its dash
-- yet, or a block that is open itself, or a value.
pub data OpenItem (levels : ℕ) (Opens : Form → ℕ → List Line → List Frame → List Frame → Option Tree → Type 0) (indent column : ℕ) (part : List ℕ) (below : List Line) (blocks frames : List Frame) (slot : Option Tree) : Type 0 where
  open_item_nothing : is_empty part ≡ true → below ≡ [] → frames ≡ blocks → slot ≡ None → OpenItem levels Opens indent column part below blocks frames slot
  open_item_below : (form : Form) (deeper : ℕ) → is_empty part ≡ true → indent < deeper → Opens form deeper below blocks frames slot → OpenItem levels Opens indent column part below blocks frames slot
  open_item_value : (v : Tree) → is_empty part ≡ false → below ≡ [] → IsLineValue levels part v → frames ≡ blocks → slot ≡ Some v → OpenItem levels Opens indent column part below blocks frames slot
  open_item_block : (form : Form) → is_empty part ≡ false → Opens form column ((column, part) ∷ below) blocks frames slot → OpenItem levels Opens indent column part below blocks frames slot

-- the lines are finished items of a list at this indent, and its last one
pub record IsOpenList (levels : ℕ) (Nested : Form → ℕ → List Line → Tree → Type 0) (Opens : Form → ℕ → List Line → List Frame → List Frame → Option Tree → Type 0) (indent : ℕ) (block : List Line) (around frames : List Frame) (slot : Option Tree) : Type 0 where
  pub items : List Tree
  pub front : List Line
  pub rest : List ℕ
  pub part : List ℕ
  pub below : List Line
  pub stands : block ≡ front ++ (indent, rest) ∷ below
  pub are : AreItems levels Nested indent front items
  pub dash : marks 45 rest ≡ true
  pub behind : next_part false (drop 1 rest) ≡ Ok part
  pub last : OpenItem levels Opens indent (indent + (length rest - length part)) part below (list_frame indent items ∷ around) frames slot

-- the last entry of a map at this indent, likewise
pub data OpenEntry (levels : ℕ) (Opens : Form → ℕ → List Line → List Frame → List Frame → Option Tree → Type 0) (indent : ℕ) (part : List ℕ) (below : List Line) (blocks frames : List Frame) (slot : Option Tree) : Type 0 where
  open_entry_nothing : is_empty part ≡ true → below ≡ [] → frames ≡ blocks → slot ≡ None → OpenEntry levels Opens indent part below blocks frames slot
  open_entry_below : (form : Form) (deeper : ℕ) → is_empty part ≡ true → indent < deeper → Opens form deeper below blocks frames slot → OpenEntry levels Opens indent part below blocks frames slot
  open_entry_list : is_empty part ≡ true → Opens of_list indent below blocks frames slot → OpenEntry levels Opens indent part below blocks frames slot
  open_entry_value : (v : Tree) → is_empty part ≡ false → below ≡ [] → IsLineValue levels part v → frames ≡ blocks → slot ≡ Some v → OpenEntry levels Opens indent part below blocks frames slot

-- the lines are finished entries of a map at this indent, and its last one, whose key is none of theirs
pub record IsOpenMap (levels : ℕ) (Nested : Form → ℕ → List Line → Tree → Type 0) (Opens : Form → ℕ → List Line → List Frame → List Frame → Option Tree → Type 0) (indent : ℕ) (block : List Line) (around frames : List Frame) (slot : Option Tree) : Type 0 where
  pub pairs : List Pair
  pub key : Key
  pub front : List Line
  pub rest : List ℕ
  pub scanned : Scanned
  pub after : List ℕ
  pub part : List ℕ
  pub below : List Line
  pub stands : block ≡ front ++ (indent, rest) ∷ below
  pub are : AreEntries levels Nested indent [] front pairs
  pub scalar : scan false rest ≡ Ok (scanned, after)
  pub colon : marks 58 after ≡ true
  pub keyed : key_of scanned ≡ Ok key
  pub first : has_key pairs key ≡ false
  pub behind : next_part false (drop 1 after) ≡ Ok part
  pub last : OpenEntry levels Opens indent part below (map_frame indent pairs key ∷ around) frames slot

-- The lines are the front of a block at this indent, within those around it: they leave `frames` open, and `slot` is the value
-- so far of the innermost one's last entry.
abbrev pub Opens : ℕ → Form → ℕ → List Line → List Frame → List Frame → Option Tree → Type 0
Opens zero form indent block around frames slot = ⊥
Opens (suc levels) of_list indent block around frames slot = IsOpenList levels (IsBlock levels) (Opens levels) indent block around frames slot
Opens (suc levels) of_map indent block around frames slot = IsOpenMap levels (IsBlock levels) (Opens levels) indent block around frames slot

-- what the lines that count leave open of a document, where `nothing` is what none leaves
pub data OpenDocument (nothing : State) (block : List Line) (state : State) : Type 0 where
  open_nothing : block ≡ [] → state ≡ nothing → OpenDocument nothing block state
  open_value : (line : Line) (v : Tree) → block ≡ line ∷ [] → IsLineValue 32 line.1 v → state ≡ Alone line.0 v → OpenDocument nothing block state
  open_blocks : (form : Form) (indent : ℕ) (frames : List Frame) (slot : Option Tree) → Opens 32 form indent block [] frames slot → state ≡ Blocks frames slot → OpenDocument nothing block state

-- what these lines leave open, of which the first that counts may be `---` alone
abbrev pub LeavesOpen : List (List ℕ) → State → Type 0
LeavesOpen [] state = state ≡ Start
LeavesOpen (line ∷ more) state = (IsPassed line × LeavesOpen more state)
    ⊎ ((counted : Line) × (later : List Line) × Counts line counted × AreLater more later
    × ((IsHead line × OpenDocument Headed later state) ⊎ (IsNoHead line × OpenDocument Start (counted ∷ later) state)))
