-- The levels in the grammar of blocks say no more than how deep the tree is.
use Rattle.std.proofs.Common.{◌⊎◌, inl, inr, ℕ, zero, suc, ◌+◌, ◌-◌, ◌≤◌, List, [], ◌∷◌, ◌++◌, length, arith}
use Rattle.std.specs.Prelude.{map}
use Rattle.std.specs.Str.Lines.{lines}
use Rattle.yaml_tree.specs.declared.tree.Tree.{Tree}
use Rattle.yaml_tree.specs.declared.tree.Pair.{Pair}
use Rattle.yaml_subset.specs.Grammar.{Line, Form, of_list, of_map, ItemValue, item_nothing, item_below, item_value, item_block, IsItem, AreItems, EntryValue, entry_nothing, entry_below, entry_list, entry_value, IsEntry, AreEntries, IsBlock, IsDocument, document_nothing, document_value, document_block, IsHead, IsNoHead, ReadsLines, ReadsWithin}
use Rattle.yaml_subset.specs.Levels.{most, levels, pair_levels}
use Rattle.yaml_subset.proofs.TreeLevels.{levels_pair}
use Rattle.yaml_subset.proofs.NestedLevels.{levels_of_list, levels_of_map, line_within}

abbrev BlocksWithin : ℕ → ℕ → Type 0
BlocksWithin m n = (form : Form) (at : ℕ) (block : List Line) (t : Tree) → levels t ≤ n → IsBlock m form at block t → IsBlock n form at block t

item_within : (m n : ℕ) → BlocksWithin m n → (indent column : ℕ) (part : List ℕ) (below : List Line) (v : Tree) → levels v ≤ n → ItemValue m (IsBlock m) indent column part below v → ItemValue n (IsBlock n) indent column part below v
item_within m n w indent column part below v l (item_nothing p b e) = item_nothing p b e
item_within m n w indent column part below v l (item_below form at p d b) = item_below form at p d (w form at below v l b)
item_within m n w indent column part below v l (item_value p b is) = item_value p b (line_within m n part v l is)
item_within m n w indent column part below v l (item_block form p b) = item_block form p (w form column ((column, part) ∷ below) v l b)

items_within : (m n : ℕ) → BlocksWithin m n → (indent : ℕ) (vs : List Tree) (block : List Line) → most (map levels vs) ≤ n → AreItems m (IsBlock m) indent block vs → AreItems n (IsBlock n) indent block vs
items_within m n w indent [] block l are = are
items_within m n w indent (v ∷ vs) block l are = (are.0, item are.1, items_within m n w indent vs are.0 (omega arith) are.2)
  where
    item : IsItem m (IsBlock m) indent block v are.0 → IsItem n (IsBlock n) indent block v are.0
    item i = record {
      rest = i.rest;
      part = i.part;
      below = i.below;
      stands = i.stands;
      dash = i.dash;
      behind = i.behind;
      value = item_within m n w indent (indent + (length i.rest - length i.part)) i.part i.below v (omega (arith, l)) i.value;
    }

entry_within : (m n : ℕ) → BlocksWithin m n → (indent : ℕ) (part : List ℕ) (below : List Line) (v : Tree) → levels v ≤ n → EntryValue m (IsBlock m) indent part below v → EntryValue n (IsBlock n) indent part below v
entry_within m n w indent part below v l (entry_nothing p b e) = entry_nothing p b e
entry_within m n w indent part below v l (entry_below form at p d b) = entry_below form at p d (w form at below v l b)
entry_within m n w indent part below v l (entry_list p b) = entry_list p (w of_list indent below v l b)
entry_within m n w indent part below v l (entry_value p b is) = entry_value p b (line_within m n part v l is)

entries_within : (m n : ℕ) → BlocksWithin m n → (indent : ℕ) (ps before : List Pair) (block : List Line) → most (map pair_levels ps) ≤ n → AreEntries m (IsBlock m) indent before block ps → AreEntries n (IsBlock n) indent before block ps
entries_within m n w indent [] before block l are = are
entries_within m n w indent (p ∷ ps) before block l are = (are.0, entry are.1, entries_within m n w indent ps (before ++ p ∷ []) are.0 (omega arith) are.2)
  where
    entry : IsEntry m (IsBlock m) indent before block p are.0 → IsEntry n (IsBlock n) indent before block p are.0
    entry e = record {
      rest = e.rest;
      scanned = e.scanned;
      after = e.after;
      part = e.part;
      below = e.below;
      stands = e.stands;
      scalar = e.scalar;
      colon = e.colon;
      key = e.key;
      first = e.first;
      behind = e.behind;
      value = entry_within m n w indent e.part e.below p.value (omega (arith, l, levels_pair p)) e.value;
    }

block_within : (m n : ℕ) → BlocksWithin m n
block_within zero n form at block t l b = absurd b
block_within (suc m) zero of_list at block t l b = absurd (omega (arith, levels_of_list t (b.item ∷ b.items) b.is))
block_within (suc m) zero of_map at block t l b = absurd (omega (arith, levels_of_map t (b.pair ∷ b.pairs) b.is))
block_within (suc m) (suc n) of_list at block t l b = record {
  item = b.item;
  items = b.items;
  is = b.is;
  are = items_within m n (block_within m n) at (b.item ∷ b.items) block (omega (arith, l, levels_of_list t (b.item ∷ b.items) b.is)) b.are;
}
block_within (suc m) (suc n) of_map at block t l b = record {
  pair = b.pair;
  pairs = b.pairs;
  is = b.is;
  are = entries_within m n (block_within m n) at (b.pair ∷ b.pairs) [] block (omega (arith, l, levels_of_map t (b.pair ∷ b.pairs) b.is)) b.are;
}

document_within : (m n : ℕ) (block : List Line) (t : Tree) → levels t ≤ n → IsDocument m block t → IsDocument n block t
document_within m n block t l (document_nothing b e) = document_nothing b e
document_within m n block t l (document_value line b is) = document_value line b (line_within m n line.1 t l is)
document_within m n block t l (document_block form indent b) = document_block form indent (block_within m n form indent block t l b)

lines_within : (m n : ℕ) (ls : List (List ℕ)) (t : Tree) → levels t ≤ n → ReadsLines m ls t → ReadsLines n ls t
lines_within m n [] t l e = e
lines_within m n (line ∷ more) t l (inl r) = inl (r.0, lines_within m n more t l r.1)
lines_within m n (line ∷ more) t l (inr r) = inr (r.0, r.1, r.2, r.3, by_head r.4)
  where
    by_head : (IsHead line × IsDocument m r.1 t) ⊎ (IsNoHead line × IsDocument m (r.0 ∷ r.1) t) → (IsHead line × IsDocument n r.1 t) ⊎ (IsNoHead line × IsDocument n (r.0 ∷ r.1) t)
    by_head (inl d) = inl (d.0, document_within m n r.1 t l d.1)
    by_head (inr d) = inr (d.0, document_within m n (r.0 ∷ r.1) t l d.1)

-- where the tree nests no more, fewer levels are enough
pub text_within : (m n : ℕ) (text : List ℕ) (t : Tree) → levels t ≤ n → ReadsWithin m text t → ReadsWithin n text t
text_within m n text t l r = record { short = r.short; utf8 = r.utf8; reads = lines_within m n (lines text) t l r.reads }
