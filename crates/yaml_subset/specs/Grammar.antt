-- The grammar of a text: which lines are a block at an indent, apart from how they are read.
use Rattle.std.specs.Prelude.{◌≡◌, ◌⊎◌, ◌<◌, ℕ, zero, suc, true, false, ◌+◌, ◌-◌, ◌≤◌, List, [], ◌∷◌, ◌++◌, length, drop, Result, Ok, Err}
use Rattle.std.specs.Str.{is_utf8}
use Rattle.std.specs.Str.Lines.{lines}
use Rattle.yaml_subset.specs.declared.fault.YamlRefused.{YamlRefused}
use Rattle.yaml_subset.specs.declared.fault.YamlRefused.TheVariants as refused
use Rattle.yaml_subset.specs.declared.scalars.Scanned.{Scanned}
use Rattle.yaml_tree.specs.declared.tree.Tree.{Tree}
use Rattle.yaml_tree.specs.declared.tree.Tree.TheVariants as tree
use Rattle.yaml_tree.specs.declared.tree.Pair.{Pair}
use Rattle.yaml_subset.specs.Characters.{is_empty, begins, marks, next_part}
use Rattle.yaml_subset.specs.Scalars.{scan, key_of}
use Rattle.yaml_subset.specs.Entries.{has_key}
use Rattle.yaml_subset.specs.Blocks.{is_marker}
use Rattle.yaml_subset.specs.LineValue.{IsLineValue}

-- A line from its first character that is no space, with that character's column. What stands behind a dash
-- is seen as a line too.
abbrev pub Line : Type 0
Line = ℕ × List ℕ

-- what a block is
pub data Form : Type 0 where
  of_list : Form
  of_map : Form

-- The value of an item of a list at this indent: `part` stands behind its dash, at `column`, and the lines
-- `below` belong to the item.
pub data ItemValue (levels : ℕ) (Nested : Form → ℕ → List Line → Tree → Type 0) (indent column : ℕ) (part : List ℕ) (below : List Line) (v : Tree) : Type 0 where
  item_nothing : is_empty part ≡ true → below ≡ [] → v ≡ tree.Null → ItemValue levels Nested indent column part below v
  item_below : (form : Form) (deeper : ℕ) → is_empty part ≡ true → indent < deeper → Nested form deeper below v → ItemValue levels Nested indent column part below v
  item_value : is_empty part ≡ false → below ≡ [] → IsLineValue levels part v → ItemValue levels Nested indent column part below v
  item_block : (form : Form) → is_empty part ≡ false → Nested form column ((column, part) ∷ below) v → ItemValue levels Nested indent column part below v

-- the lines are an item at this indent, with its value, and then the lines `more`
pub record IsItem (levels : ℕ) (Nested : Form → ℕ → List Line → Tree → Type 0) (indent : ℕ) (block : List Line) (v : Tree) (more : List Line) : Type 0 where
  pub rest : List ℕ
  pub part : List ℕ
  pub below : List Line
  pub stands : block ≡ (indent, rest) ∷ below ++ more
  pub dash : marks 45 rest ≡ true
  pub behind : next_part false (drop 1 rest) ≡ Ok part
  pub value : ItemValue levels Nested indent (indent + (length rest - length part)) part below v

-- the lines are items at this indent, one after the other
abbrev pub AreItems : (levels : ℕ) (Nested : Form → ℕ → List Line → Tree → Type 0) (indent : ℕ) → List Line → List Tree → Type 0
AreItems levels Nested indent block [] = block ≡ []
AreItems levels Nested indent block (v ∷ vs) = (more : List Line) × IsItem levels Nested indent block v more × AreItems levels Nested indent more vs

-- The value of an entry of a map at this indent: `part` stands behind its colon, and the lines `below`
-- belong to the entry.
pub data EntryValue (levels : ℕ) (Nested : Form → ℕ → List Line → Tree → Type 0) (indent : ℕ) (part : List ℕ) (below : List Line) (v : Tree) : Type 0 where
  entry_nothing : is_empty part ≡ true → below ≡ [] → v ≡ tree.Null → EntryValue levels Nested indent part below v
  entry_below : (form : Form) (deeper : ℕ) → is_empty part ≡ true → indent < deeper → Nested form deeper below v → EntryValue levels Nested indent part below v
  entry_list : is_empty part ≡ true → Nested of_list indent below v → EntryValue levels Nested indent part below v
  entry_value : is_empty part ≡ false → below ≡ [] → IsLineValue levels part v → EntryValue levels Nested indent part below v

-- the lines are an entry at this indent, whose key is none of those before it, and then the lines `more`
pub record IsEntry (levels : ℕ) (Nested : Form → ℕ → List Line → Tree → Type 0) (indent : ℕ) (before : List Pair) (block : List Line) (pair : Pair) (more : List Line) : Type 0 where
  pub rest : List ℕ
  pub scanned : Scanned
  pub after : List ℕ
  pub part : List ℕ
  pub below : List Line
  pub stands : block ≡ (indent, rest) ∷ below ++ more
  pub scalar : scan false rest ≡ Ok (scanned, after)
  pub colon : marks 58 after ≡ true
  pub key : key_of scanned ≡ Ok pair.key
  pub first : has_key before pair.key ≡ false
  pub behind : next_part false (drop 1 after) ≡ Ok part
  pub value : EntryValue levels Nested indent part below pair.value

-- the lines are entries at this indent, one after the other
abbrev pub AreEntries : (levels : ℕ) (Nested : Form → ℕ → List Line → Tree → Type 0) (indent : ℕ) → List Pair → List Line → List Pair → Type 0
AreEntries levels Nested indent before block [] = block ≡ []
AreEntries levels Nested indent before block (p ∷ ps) = (more : List Line) × IsEntry levels Nested indent before block p more × AreEntries levels Nested indent (before ++ p ∷ []) more ps

-- the lines are a block list at this indent
pub record IsList (levels : ℕ) (Nested : Form → ℕ → List Line → Tree → Type 0) (indent : ℕ) (block : List Line) (t : Tree) : Type 0 where
  pub item : Tree
  pub items : List Tree
  pub is : t ≡ tree.List (item ∷ items)
  pub are : AreItems levels Nested indent block (item ∷ items)

-- the lines are a block map at this indent
pub record IsMap (levels : ℕ) (Nested : Form → ℕ → List Line → Tree → Type 0) (indent : ℕ) (block : List Line) (t : Tree) : Type 0 where
  pub pair : Pair
  pub pairs : List Pair
  pub is : t ≡ tree.Map (pair ∷ pairs)
  pub are : AreEntries levels Nested indent [] block (pair ∷ pairs)

-- the lines are a block at this indent, which nests at most so many lists and maps, itself among them
abbrev pub IsBlock : ℕ → Form → ℕ → List Line → Tree → Type 0
IsBlock zero form indent block t = ⊥
IsBlock (suc levels) of_list indent block t = IsList levels (IsBlock levels) indent block t
IsBlock (suc levels) of_map indent block t = IsMap levels (IsBlock levels) indent block t

-- the lines that count are a whole document: nothing, a value alone, or a block
pub data IsDocument (levels : ℕ) (block : List Line) (t : Tree) : Type 0 where
  document_nothing : block ≡ [] → t ≡ tree.Null → IsDocument levels block t
  document_value : (line : Line) → block ≡ line ∷ [] → IsLineValue levels line.1 t → IsDocument levels block t
  document_block : (form : Form) (indent : ℕ) → IsBlock levels form indent block t → IsDocument levels block t

-- a line with spaces and a comment alone is passed over
abbrev pub IsPassed : List ℕ → Type 0
IsPassed line = next_part true line ≡ Ok []

-- a line that counts, and is neither a directive nor the end of a document
pub record Counts (line : List ℕ) (counted : Line) : Type 0 where
  pub rest : next_part true line ≡ Ok counted.1
  pub some : is_empty counted.1 ≡ false
  pub indent : counted.0 ≡ length line - length counted.1
  pub no_directive : begins 37 line ≡ false
  pub no_end : is_marker 46 line ≡ false

-- the lines of a document behind its first one: those that count, of which none is the head of another document
abbrev pub AreLater : List (List ℕ) → List Line → Type 0
AreLater [] counted = counted ≡ []
AreLater (line ∷ more) counted = (IsPassed line × AreLater more counted)
    ⊎ ((first : Line) × (later : List Line) × Counts line first × (is_marker 45 line ≡ false) × (counted ≡ first ∷ later) × AreLater more later)

-- the line is `---` with nothing behind it but spaces and a comment
pub record IsHead (line : List ℕ) : Type 0 where
  pub dashes : is_marker 45 line ≡ true
  pub alone : next_part false (drop 3 line) ≡ Ok []

-- the line is none: it does not begin so, or something stands behind it
abbrev pub IsNoHead : List ℕ → Type 0
IsNoHead line = (is_marker 45 line ≡ false) ⊎ ((part : List ℕ) × (next_part false (drop 3 line) ≡ Ok part) × (is_empty part ≡ false))

-- the tree of these lines, of which the first that counts may be `---` alone
abbrev pub ReadsLines : ℕ → List (List ℕ) → Tree → Type 0
ReadsLines levels [] t = t ≡ tree.Null
ReadsLines levels (line ∷ more) t = (IsPassed line × ReadsLines levels more t)
    ⊎ ((counted : Line) × (later : List Line) × Counts line counted × AreLater more later
    × ((IsHead line × IsDocument levels later t) ⊎ (IsNoHead line × IsDocument levels (counted ∷ later) t)))

-- the bytes are a text with this tree, which nests at most so many lists and maps
pub record ReadsWithin (levels : ℕ) (text : List ℕ) (t : Tree) : Type 0 where
  pub short : length text ≤ 1048576
  pub utf8 : is_utf8 text ≡ true
  pub reads : ReadsLines levels (lines text) t

-- the bytes are a text with this tree
abbrev pub Reads : List ℕ → Tree → Type 0
Reads text t = ReadsWithin 32 text t

-- The answer is the tree that the text has by the grammar, and where a fault is told it has none, unless
-- memory ran out.
abbrev pub GivesByGrammar : Result Tree YamlRefused → List ℕ → Type 0
GivesByGrammar (Ok t) text = Reads text t
GivesByGrammar (Err refused.Memory) text = Unit {0}
GivesByGrammar (Err (refused.At fault)) text = (t : Tree) → Reads text t → ⊥
