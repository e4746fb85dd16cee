-- A block stands open at its end, and closes to its tree.
use Rattle.std.proofs.Common.{◌≡◌, ℕ, zero, suc, ◌+◌, ◌-◌, ◌<◌, true, false, List, [], ◌∷◌, ◌++◌, length, Option, Some, None, refl, sym, ◌∙◌, ap, subst, arith}
use Rattle.yaml_subset.specs.declared.stack.Frame.{Frame}
use Rattle.yaml_tree.specs.declared.tree.Tree.{Tree}
use Rattle.yaml_tree.specs.declared.tree.Tree.TheVariants as tree
use Rattle.yaml_tree.specs.declared.tree.Key.{Key}
use Rattle.yaml_tree.specs.declared.tree.Pair.{Pair}
use Rattle.yaml_subset.specs.Blocks.{list_frame, map_frame}
use Rattle.yaml_subset.specs.Grammar.{Line, Form, of_list, of_map, ItemValue, item_nothing, item_below, item_value, item_block, EntryValue, entry_nothing, entry_below, entry_list, entry_value, IsList, IsMap, IsBlock}
use Rattle.yaml_subset.proofs.Steps.{Stands, list_form, Ends, Passes, stands_value, stands_nothing, stands_closed, stands_deeper, stands_list_at_key}
use Rattle.yaml_subset.proofs.GrammarRead.{part_short}
use Rattle.law_texts.specs.Opened.{OpenItem, open_item_nothing, open_item_below, open_item_value, open_item_block, OpenEntry, open_entry_nothing, open_entry_below, open_entry_list, open_entry_value, Opens}
use Rattle.law_texts.proofs.LastEntries.{last_item, item_stands, last_entry, entry_stands, entry_first}

-- what a block leaves open within those around it, which stands for its tree
abbrev pub StandsOpen : ℕ → Form → ℕ → List Line → Tree → List Frame → Type 0
StandsOpen n form at block t around = (frames : List Frame) × (slot : Option Tree) × Opens n form at block around frames slot × Stands (Ends at (list_form form) around) around t frames slot

abbrev pub NestedOpen : ℕ → Type 0
NestedOpen n = (form : Form) (at : ℕ) (block : List Line) (t : Tree) → IsBlock n form at block t → (around : List Frame) → StandsOpen n form at block t around

abbrev pub ItemOpen : ℕ → ℕ → ℕ → List ℕ → List Line → List Frame → Tree → Type 0
ItemOpen n at column part below blocks v = (frames : List Frame) × (slot : Option Tree) × OpenItem n (Opens n) at column part below blocks frames slot × Stands (Passes at true) blocks v frames slot

pub item_open : (n : ℕ) → NestedOpen n → (items : List Tree) (at : ℕ) (around : List Frame) (column : ℕ) (part : List ℕ) (below : List Line) (v : Tree) → at < column
    → ItemValue n (IsBlock n) at column part below v → ItemOpen n at column part below (list_frame at items ∷ around) v
item_open n nested items at around column part below v l (item_nothing p b e) =
    (list_frame at items ∷ around, None, open_item_nothing p b refl refl, subst (λ (w : Tree). Stands (Passes at true) (list_frame at items ∷ around) w (list_frame at items ∷ around) None) (sym e) (stands_nothing (list_frame at items) around))
item_open n nested items at around column part below v l (item_below form deeper p lt block) =
    let w = nested form deeper below v block (list_frame at items ∷ around) in
    (w.0, w.1, open_item_below form deeper p lt w.2, stands_deeper (list_frame at items) around v w.0 w.1 deeper (list_form form) lt w.3)
item_open n nested items at around column part below v l (item_value p b is) =
    (list_frame at items ∷ around, Some v, open_item_value v p b is refl refl, stands_value (Passes at true) (list_frame at items ∷ around) v)
item_open n nested items at around column part below v l (item_block form p block) =
    let w = nested form column ((column, part) ∷ below) v block (list_frame at items ∷ around) in
    (w.0, w.1, open_item_block form p w.2, stands_deeper (list_frame at items) around v w.0 w.1 column (list_form form) l w.3)

pub behind_its_dash : (at : ℕ) (rest part : List ℕ) → length part < length rest → at < at + (length rest - length part)
behind_its_dash at rest part h = omega arith

list_open : (n : ℕ) → NestedOpen n → (at : ℕ) (block : List Line) (t : Tree) → IsList n (IsBlock n) at block t → (around : List Frame) → StandsOpen (suc n) of_list at block t around
list_open n nested at block t list around =
    let last = last_item n at list.items list.item block list.are in
    let l = behind_its_dash at last.item.rest last.item.part (part_short 45 last.item.rest last.item.part last.item.dash last.item.behind) in
    let w = item_open n nested last.items at around (at + (length last.item.rest - length last.item.part)) last.item.part last.item.below last.value l last.item.value in
    let s = stands_closed (list_frame at last.items) around last.value w.0 w.1 w.3 in
    let same : t ≡ tree.List (last.items ++ last.value ∷ []) = list.is ∙ ap (λ (vs : List Tree). tree.List vs) last.split in (
      w.0,
      w.1,
      record { items = last.items; front = last.front; rest = last.item.rest; part = last.item.part; below = last.item.below; stands = item_stands last; are = last.are; dash = last.item.dash; behind = last.item.behind; last = w.2 },
      subst (λ (u : Tree). Stands (Ends at true around) around u w.0 w.1) (sym same) s,
    )

abbrev pub EntryOpen : ℕ → ℕ → List ℕ → List Line → List Frame → Tree → Type 0
EntryOpen n at part below blocks v = (frames : List Frame) × (slot : Option Tree) × OpenEntry n (Opens n) at part below blocks frames slot × Stands (Passes at false) blocks v frames slot

pub entry_open : (n : ℕ) → NestedOpen n → (pairs : List Pair) (k : Key) (at : ℕ) (around : List Frame) (part : List ℕ) (below : List Line) (v : Tree)
    → EntryValue n (IsBlock n) at part below v → EntryOpen n at part below (map_frame at pairs k ∷ around) v
entry_open n nested pairs k at around part below v (entry_nothing p b e) =
    (map_frame at pairs k ∷ around, None, open_entry_nothing p b refl refl, subst (λ (w : Tree). Stands (Passes at false) (map_frame at pairs k ∷ around) w (map_frame at pairs k ∷ around) None) (sym e) (stands_nothing (map_frame at pairs k) around))
entry_open n nested pairs k at around part below v (entry_below form deeper p lt block) =
    let w = nested form deeper below v block (map_frame at pairs k ∷ around) in
    (w.0, w.1, open_entry_below form deeper p lt w.2, stands_deeper (map_frame at pairs k) around v w.0 w.1 deeper (list_form form) lt w.3)
entry_open n nested pairs k at around part below v (entry_list p block) =
    let w = nested of_list at below v block (map_frame at pairs k ∷ around) in
    (w.0, w.1, open_entry_list p w.2, stands_list_at_key (map_frame at pairs k) around v w.0 w.1 refl w.3)
entry_open n nested pairs k at around part below v (entry_value p b is) =
    (map_frame at pairs k ∷ around, Some v, open_entry_value v p b is refl refl, stands_value (Passes at false) (map_frame at pairs k ∷ around) v)

map_open : (n : ℕ) → NestedOpen n → (at : ℕ) (block : List Line) (t : Tree) → IsMap n (IsBlock n) at block t → (around : List Frame) → StandsOpen (suc n) of_map at block t around
map_open n nested at block t m around =
    let last = last_entry n at [] m.pairs m.pair block m.are in
    let w = entry_open n nested last.pairs last.pair.key at around last.entry.part last.entry.below last.pair.value last.entry.value in
    let s = stands_closed (map_frame at last.pairs last.pair.key) around last.pair.value w.0 w.1 w.3 in
    let same : t ≡ tree.Map (last.pairs ++ last.pair ∷ []) = m.is ∙ ap (λ (ps : List Pair). tree.Map ps) last.split in (
      w.0,
      w.1,
      record { pairs = last.pairs; key = last.pair.key; front = last.front; rest = last.entry.rest; scanned = last.entry.scanned; after = last.entry.after; part = last.entry.part; below = last.entry.below; stands = entry_stands last; are = last.are; scalar = last.entry.scalar; colon = last.entry.colon; keyed = last.entry.key; first = entry_first last; behind = last.entry.behind; last = w.2 },
      subst (λ (u : Tree). Stands (Ends at false around) around u w.0 w.1) (sym same) s,
    )

pub block_open : (n : ℕ) → NestedOpen n
block_open zero form at block t b around = absurd b
block_open (suc n) of_list at block t b around = list_open n (block_open n) at block t b around
block_open (suc n) of_map at block t b around = map_open n (block_open n) at block t b around
