-- What is printed of a tree, by what it is made of.
use Rattle.std.proofs.Common.{◌≡◌, ℕ, List, [], ◌∷◌, None, refl, sym, ap, ◌∙◌}
use Rattle.std.specs.Prelude.{map}
use Rattle.yaml_tree.specs.declared.tree.Tree.{Tree}
use Rattle.yaml_tree.specs.declared.tree.Tree.TheVariants as trees
use Rattle.yaml_tree.specs.declared.tree.Pair.{Pair}
use Rattle.yaml_tree.specs.declared.tree.Tree.TheOpen.{Tree-F}
use Rattle.yaml_tree.specs.declared.tree.Tree.TheOpen as open_tree
use Rattle.yaml_tree.specs.declared.tree.Tree.TheFolds.{fold-roll-Tree, fold_out-Pair}
use Rattle.yaml_subset.specs.Printed.{Piece, list_piece, map_piece, key_scalar, tree_step, pair_step, piece_of, pair_piece, item_lines, pair_lines}

pub piece_list : (items : List Tree) → piece_of (trees.List items) ≡ list_piece (map piece_of items)
piece_list items = ap piece_of (sym (trees.rolls-List items)) ∙ fold-roll-Tree Piece (List ℕ × Piece) tree_step pair_step (open_tree.List items)

pub piece_map : (pairs : List Pair) → piece_of (trees.Map pairs) ≡ map_piece (map pair_piece pairs)
piece_map pairs = ap piece_of (sym (trees.rolls-Map pairs)) ∙ fold-roll-Tree Piece (List ℕ × Piece) tree_step pair_step (open_tree.Map pairs)

pub piece_pair : (pair : Pair) → pair_piece pair ≡ (key_scalar pair.key, piece_of pair.value)
piece_pair pair = fold_out-Pair Piece (List ℕ × Piece) tree_step pair_step pair

list_none : (pieces : List Piece) → ¬ (pieces ≡ []) → (list_piece pieces).inline ≡ None
list_none [] h = absurd (h refl)
list_none (p ∷ ps) h = refl

list_lines : (pieces : List Piece) (indent : List ℕ) → (list_piece pieces).lines indent ≡ item_lines indent pieces
list_lines [] indent = refl
list_lines (p ∷ ps) indent = refl

map_lines : (pairs : List (List ℕ × Piece)) (indent : List ℕ) → (map_piece pairs).lines indent ≡ pair_lines indent pairs
map_lines [] indent = refl
map_lines (p ∷ ps) indent = refl

pub list_inline : (items : List Tree) → ¬ (items ≡ []) → (piece_of (trees.List items)).inline ≡ None
list_inline [] h = absurd (h refl)
list_inline (t ∷ ts) h = ap (λ (p : Piece). p.inline) (piece_list (t ∷ ts))

pub map_inline : (pairs : List Pair) → ¬ (pairs ≡ []) → (piece_of (trees.Map pairs)).inline ≡ None
map_inline [] h = absurd (h refl)
map_inline (t ∷ ts) h = ap (λ (p : Piece). p.inline) (piece_map (t ∷ ts))

pub lines_of_list : (items : List Tree) (indent : List ℕ) → (piece_of (trees.List items)).lines indent ≡ item_lines indent (map piece_of items)
lines_of_list items indent = ap (λ (p : Piece). p.lines indent) (piece_list items) ∙ list_lines (map piece_of items) indent

pub lines_of_map : (pairs : List Pair) (indent : List ℕ) → (piece_of (trees.Map pairs)).lines indent ≡ pair_lines indent (map pair_piece pairs)
lines_of_map pairs indent = ap (λ (p : Piece). p.lines indent) (piece_map pairs) ∙ map_lines (map pair_piece pairs) indent

pub ruleset piece_rules = (piece_list, piece_map, list_inline, map_inline)
