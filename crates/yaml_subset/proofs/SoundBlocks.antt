-- A tree that a text has is sound, and nests no more lists and maps than it may.
use Rattle.std.proofs.Common.{◌⊎◌, inl, inr, ℕ, zero, suc, ◌+◌, ◌-◌, List, [], ◌∷◌, ◌++◌, length, sym, subst}
use Rattle.std.specs.Str.Lines.{lines}
use Rattle.yaml_tree.specs.declared.tree.Tree.{Tree}
use Rattle.yaml_tree.specs.declared.tree.Pair.{Pair}
use Rattle.yaml_subset.specs.Grammar.{Line, Form, of_list, of_map, ItemValue, item_nothing, item_below, item_value, item_block, AreItems, EntryValue, entry_nothing, entry_below, entry_list, entry_value, AreEntries, IsBlock, IsDocument, document_nothing, document_value, document_block, IsHead, IsNoHead, ReadsLines, ReadsWithin}
use Rattle.yaml_subset.proofs.SoundTrees.{IsWithin, null_within, ItemsWithin, no_items, items_more, list_within, PairsWithin, no_pairs, pairs_more, map_within}
use Rattle.yaml_subset.proofs.SoundFlow.{key_sound, line_sound}

abbrev AreSound : ℕ → Type 0
AreSound n = (form : Form) (at : ℕ) (block : List Line) (t : Tree) → IsBlock n form at block t → IsWithin n t

item_sound : (n : ℕ) → AreSound n → (indent column : ℕ) (part : List ℕ) (below : List Line) (v : Tree) → ItemValue n (IsBlock n) indent column part below v → IsWithin n v
item_sound n sound indent column part below v (item_nothing p b e) = subst (IsWithin n) (sym e) (null_within n)
item_sound n sound indent column part below v (item_below form at p l b) = sound form at below v b
item_sound n sound indent column part below v (item_value p b is) = line_sound n part v is
item_sound n sound indent column part below v (item_block form p b) = sound form column ((column, part) ∷ below) v b

items_sound : (n : ℕ) → AreSound n → (indent : ℕ) (vs : List Tree) (block : List Line) → AreItems n (IsBlock n) indent block vs → ItemsWithin n vs
items_sound n sound indent [] block are = no_items n
items_sound n sound indent (v ∷ vs) block are =
    let i = are.1 in
    items_more n v vs (item_sound n sound indent (indent + (length i.rest - length i.part)) i.part i.below v i.value) (items_sound n sound indent vs are.0 are.2)

value_sound : (n : ℕ) → AreSound n → (indent : ℕ) (part : List ℕ) (below : List Line) (v : Tree) → EntryValue n (IsBlock n) indent part below v → IsWithin n v
value_sound n sound indent part below v (entry_nothing p b e) = subst (IsWithin n) (sym e) (null_within n)
value_sound n sound indent part below v (entry_below form at p l b) = sound form at below v b
value_sound n sound indent part below v (entry_list p b) = sound of_list indent below v b
value_sound n sound indent part below v (entry_value p b is) = line_sound n part v is

entries_sound : (n : ℕ) → AreSound n → (indent : ℕ) (ps before : List Pair) (block : List Line) → AreEntries n (IsBlock n) indent before block ps → PairsWithin n before ps
entries_sound n sound indent [] before block are = no_pairs n before
entries_sound n sound indent (p ∷ ps) before block are =
    let e = are.1 in
    pairs_more n before p ps ((key_sound e.scanned).at p.key e.key) e.first (value_sound n sound indent e.part e.below p.value e.value)
    (entries_sound n sound indent ps (before ++ p ∷ []) are.0 are.2)

block_sound : (n : ℕ) → AreSound n
block_sound zero form at block t b = absurd b
block_sound (suc n) of_list at block t b = subst (IsWithin (suc n)) (sym b.is) (list_within n (b.item ∷ b.items) (items_sound n (block_sound n) at (b.item ∷ b.items) block b.are))
block_sound (suc n) of_map at block t b = subst (IsWithin (suc n)) (sym b.is) (map_within n (b.pair ∷ b.pairs) (entries_sound n (block_sound n) at (b.pair ∷ b.pairs) [] block b.are))

document_sound : (n : ℕ) (block : List Line) (t : Tree) → IsDocument n block t → IsWithin n t
document_sound n block t (document_nothing b e) = subst (IsWithin n) (sym e) (null_within n)
document_sound n block t (document_value line b is) = line_sound n line.1 t is
document_sound n block t (document_block form indent b) = block_sound n form indent block t b

lines_sound : (n : ℕ) (ls : List (List ℕ)) (t : Tree) → ReadsLines n ls t → IsWithin n t
lines_sound n [] t e = subst (IsWithin n) (sym e) (null_within n)
lines_sound n (line ∷ more) t (inl r) = lines_sound n more t r.1
lines_sound n (line ∷ more) t (inr r) = by_head r.4
  where
    by_head : (IsHead line × IsDocument n r.1 t) ⊎ (IsNoHead line × IsDocument n (r.0 ∷ r.1) t) → IsWithin n t
    by_head (inl d) = document_sound n r.1 t d.1
    by_head (inr d) = document_sound n (r.0 ∷ r.1) t d.1

-- what is of the grammar within n levels is sound, and nests at most n lists and maps
pub text_sound : (n : ℕ) (text : List ℕ) (t : Tree) → ReadsWithin n text t → IsWithin n t
text_sound n text t r = lines_sound n (lines text) t r.reads
