-- How long printed maps and lists are, by their entries and items.
use Rattle.std.proofs.Common.{◌≡◌, ◌≤◌, ◌+◌, ℕ, suc, List, [], ◌∷◌, ◌++◌, length, map, refl, sym, ap, subst, ◌∙◌, arith, length-append, zero-add}
use Rattle.std.specs.Prelude.{codes}
use Rattle.yaml_tree.specs.declared.tree.Pair.{Pair}
use Rattle.yaml_tree.specs.declared.tree.Tree.{Tree, out-Tree, roll-Tree, roll-out-Tree}
use Rattle.yaml_tree.specs.declared.tree.Tree.TheOpen.{Tree-F}
use Rattle.yaml_tree.specs.declared.tree.Tree.TheOpen as open_tree
use Rattle.yaml_tree.specs.declared.tree.Tree.TheVariants as trees
use Rattle.yaml_tree.specs.declared.tree.Tree.TheFolds.{fold-roll-Tree}
use Rattle.yaml_subset.specs.Printed.{Piece, behind_mark, item_lines, pair_lines, list_piece, map_piece, key_scalar, text_scalar, tree_step, pair_step, piece_of, pair_piece, document, printed}
use Rattle.yaml_subset.proofs.Pieces.{piece_list, piece_map, piece_pair}
use Rattle.conf_shape.specs.Reads.{entries_in, entries_of, items_in, items_of}

-- the lines of entries and of items at an indent, and what stands behind a colon or a hyphen
abbrev pub entries_len : List ℕ → List Pair → ℕ
entries_len indent ps = length (pair_lines indent (map pair_piece ps))

abbrev pub items_len : List ℕ → List Tree → ℕ
items_len indent ts = length (item_lines indent (map piece_of ts))

abbrev pub behind_len : List ℕ → Tree → ℕ
behind_len indent t = length (behind_mark (piece_of t) indent)

abbrev pub deeper : List ℕ → List ℕ
deeper indent = indent ++ codes "  "

none_less : (n : ℕ) → 0 ≤ n
none_less n = omega arith

-- ---- maps

map_most : (ps : List (List ℕ × Piece)) (indent : List ℕ) → length (behind_mark (map_piece ps) indent) ≤ 4 + length (pair_lines (deeper indent) ps)
map_most [] indent = let is : length (behind_mark (map_piece []) indent) ≡ 4 = refl in omega (arith, is)
map_most (p ∷ ps) indent =
    let is : length (behind_mark (map_piece (p ∷ ps)) indent) ≡ suc (length (pair_lines (deeper indent) (p ∷ ps))) = refl in
    omega (arith, is)

map_least : (ps : List (List ℕ × Piece)) (indent : List ℕ) → length (pair_lines (deeper indent) ps) ≤ length (behind_mark (map_piece ps) indent)
map_least [] indent = none_less _
map_least (p ∷ ps) indent =
    let is : length (behind_mark (map_piece (p ∷ ps)) indent) ≡ suc (length (pair_lines (deeper indent) (p ∷ ps))) = refl in
    omega (arith, is)

pub behind_map : (indent : List ℕ) (pairs : List Pair) → behind_len indent (trees.Map pairs) ≤ 4 + entries_len (deeper indent) pairs
behind_map indent pairs =
    subst (λ (p : Piece). length (behind_mark p indent) ≤ 4 + entries_len (deeper indent) pairs) (sym (piece_map pairs)) (map_most (map pair_piece pairs) indent)

entries_in_len : (indent : List ℕ) (t : Tree) (x : Tree-F Tree Pair) → t ≡ roll-Tree x → entries_len (deeper indent) (entries_in x) ≤ behind_len indent t
entries_in_len indent t open_tree.Null is = none_less _
entries_in_len indent t (open_tree.Bool b) is = none_less _
entries_in_len indent t (open_tree.Int n) is = none_less _
entries_in_len indent t (open_tree.Text text) is = none_less _
entries_in_len indent t (open_tree.List items) is = none_less _
entries_in_len indent t (open_tree.Map pairs) is =
    subst (λ (p : Piece). entries_len (deeper indent) pairs ≤ length (behind_mark p indent))
    (sym (ap piece_of (is ∙ trees.rolls-Map pairs) ∙ piece_map pairs)) (map_least (map pair_piece pairs) indent)

pub entries_within : (indent : List ℕ) (t : Tree) → entries_len (deeper indent) (entries_of t) ≤ behind_len indent t
entries_within indent t = entries_in_len indent t (out-Tree t) (sym (roll-out-Tree t))

-- ---- lists

list_most : (ps : List Piece) (indent : List ℕ) → length (behind_mark (list_piece ps) indent) ≤ 4 + length (item_lines (deeper indent) ps)
list_most [] indent = let is : length (behind_mark (list_piece []) indent) ≡ 4 = refl in omega (arith, is)
list_most (p ∷ ps) indent =
    let is : length (behind_mark (list_piece (p ∷ ps)) indent) ≡ suc (length (item_lines (deeper indent) (p ∷ ps))) = refl in
    omega (arith, is)

list_least : (ps : List Piece) (indent : List ℕ) → length (item_lines (deeper indent) ps) ≤ length (behind_mark (list_piece ps) indent)
list_least [] indent = none_less _
list_least (p ∷ ps) indent =
    let is : length (behind_mark (list_piece (p ∷ ps)) indent) ≡ suc (length (item_lines (deeper indent) (p ∷ ps))) = refl in
    omega (arith, is)

pub behind_list : (indent : List ℕ) (items : List Tree) → behind_len indent (trees.List items) ≤ 4 + items_len (deeper indent) items
behind_list indent items =
    subst (λ (p : Piece). length (behind_mark p indent) ≤ 4 + items_len (deeper indent) items) (sym (piece_list items)) (list_most (map piece_of items) indent)

items_in_len : (indent : List ℕ) (t : Tree) (x : Tree-F Tree Pair) → t ≡ roll-Tree x → items_len (deeper indent) (items_in x) ≤ behind_len indent t
items_in_len indent t open_tree.Null is = none_less _
items_in_len indent t (open_tree.Bool b) is = none_less _
items_in_len indent t (open_tree.Int n) is = none_less _
items_in_len indent t (open_tree.Text text) is = none_less _
items_in_len indent t (open_tree.List items) is =
    subst (λ (p : Piece). items_len (deeper indent) items ≤ length (behind_mark p indent))
    (sym (ap piece_of (is ∙ trees.rolls-List items) ∙ piece_list items)) (list_least (map piece_of items) indent)
items_in_len indent t (open_tree.Map pairs) is = none_less _

pub items_within : (indent : List ℕ) (t : Tree) → items_len (deeper indent) (items_of t) ≤ behind_len indent t
items_within indent t = items_in_len indent t (out-Tree t) (sym (roll-out-Tree t))

pub item_first : (indent : List ℕ) (t : Tree) (ts : List Tree) → items_len indent (t ∷ ts) ≡ (length indent + suc (behind_len indent t)) + items_len indent ts
item_first indent t ts =
    length-append (indent ++ 45 ∷ behind_mark (piece_of t) indent) (item_lines indent (map piece_of ts))
    ∙ ap (λ n. n + items_len indent ts) (length-append indent (45 ∷ behind_mark (piece_of t) indent))

pub items_joined : (indent : List ℕ) (xs ys : List Tree) → items_len indent (xs ++ ys) ≡ items_len indent xs + items_len indent ys
items_joined indent [] ys = sym (zero-add (items_len indent ys))
items_joined indent (x ∷ xs) ys =
    let whole : items_len indent ((x ∷ xs) ++ ys) ≡ (length indent + suc (behind_len indent x)) + items_len indent (xs ++ ys) = item_first indent x (xs ++ ys) in
    let front : items_len indent (x ∷ xs) ≡ (length indent + suc (behind_len indent x)) + items_len indent xs = item_first indent x xs in
    let rest : items_len indent (xs ++ ys) ≡ items_len indent xs + items_len indent ys = items_joined indent xs ys in
    whole ∙ ap (λ n. (length indent + suc (behind_len indent x)) + n) rest
    ∙ moved (length indent + suc (behind_len indent x)) (items_len indent xs) (items_len indent ys)
    ∙ ap (λ n. n + items_len indent ys) (sym front)
  where
    moved : (a b c : ℕ) → a + (b + c) ≡ (a + b) + c
    moved a b c = omega arith

-- ---- entries

-- an entry: the indent, the key, a colon and what stands behind it
abbrev pub entry_len : List ℕ → Pair → ℕ
entry_len indent p = length indent + (length (key_scalar p.key) + suc (behind_len indent p.value))

pieces_first : (indent : List ℕ) (q : List ℕ × Piece) (qs : List (List ℕ × Piece)) → length (pair_lines indent (q ∷ qs)) ≡ (length indent + (length q.0 + suc (length (behind_mark q.1 indent)))) + length (pair_lines indent qs)
pieces_first indent q qs =
    length-append (indent ++ (q.0 ++ 58 ∷ behind_mark q.1 indent)) (pair_lines indent qs)
    ∙ ap (λ n. n + length (pair_lines indent qs)) (length-append indent (q.0 ++ 58 ∷ behind_mark q.1 indent) ∙ ap (λ n. length indent + n) (length-append q.0 (58 ∷ behind_mark q.1 indent)))

pub entry_first : (indent : List ℕ) (p : Pair) (ps : List Pair) → entries_len indent (p ∷ ps) ≡ entry_len indent p + entries_len indent ps
entry_first indent p ps =
    pieces_first indent (pair_piece p) (map pair_piece ps)
    ∙ ap (λ (q : List ℕ × Piece). (length indent + (length q.0 + suc (length (behind_mark q.1 indent)))) + entries_len indent ps) (piece_pair p)

pub entry_last : (indent : List ℕ) (ps : List Pair) (p : Pair) → entries_len indent (ps ++ p ∷ []) ≡ entries_len indent ps + entry_len indent p
entry_last indent [] p = entry_first indent p [] ∙ ends (entry_len indent p)
  where
    ends : (n : ℕ) → n + 0 ≡ 0 + n
    ends n = omega arith
entry_last indent (q ∷ qs) p =
    entry_first indent q (qs ++ p ∷ []) ∙ ap (λ n. entry_len indent q + n) (entry_last indent qs p)
    ∙ moved (entry_len indent q) (entries_len indent qs) (entry_len indent p)
    ∙ ap (λ n. n + entry_len indent p) (sym (entry_first indent q qs))
  where
    moved : (a b c : ℕ) → a + (b + c) ≡ (a + b) + c
    moved a b c = omega arith

-- where a value is longer by so much, its entry is
pub value_longer : (indent : List ℕ) (p q : Pair) (n : ℕ) → q.key ≡ p.key → behind_len indent q.value ≤ behind_len indent p.value + n → entry_len indent q ≤ entry_len indent p + n
value_longer indent p q n same more = longer (length indent) (length (key_scalar q.key)) (length (key_scalar p.key)) (behind_len indent q.value) (behind_len indent p.value) (ap (λ k. length (key_scalar k)) same) more
  where
    longer : (i k l a b : ℕ) → k ≡ l → a ≤ b + n → i + (k + suc a) ≤ i + (l + suc b) + n
    longer i k l a b e h = omega arith

-- ---- texts and documents

pub behind_text : (indent text : List ℕ) → behind_len indent (trees.Text text) ≡ suc (length (text_scalar text) + 1)
behind_text indent text =
    ap (λ (p : Piece). length (behind_mark p indent)) (ap piece_of (sym (trees.rolls-Text text)) ∙ fold-roll-Tree Piece (List ℕ × Piece) tree_step pair_step (open_tree.Text text))
    ∙ ap suc (length-append (text_scalar text) (10 ∷ []))

document_most : (ps : List (List ℕ × Piece)) → length (document (map_piece ps) (map_piece ps).inline) ≤ 3 + length (pair_lines [] ps)
document_most [] = let is : length (document (map_piece []) (map_piece []).inline) ≡ 3 = refl in omega (arith, is)
document_most (p ∷ ps) =
    let is : length (document (map_piece (p ∷ ps)) (map_piece (p ∷ ps)).inline) ≡ length (pair_lines [] (p ∷ ps)) = refl in
    omega (arith, is)

document_least : (ps : List (List ℕ × Piece)) → length (pair_lines [] ps) ≤ length (document (map_piece ps) (map_piece ps).inline)
document_least [] = none_less _
document_least (p ∷ ps) =
    let is : length (document (map_piece (p ∷ ps)) (map_piece (p ∷ ps)).inline) ≡ length (pair_lines [] (p ∷ ps)) = refl in
    omega (arith, is)

pub printed_map : (pairs : List Pair) → length (printed (trees.Map pairs)) ≤ 3 + entries_len [] pairs
printed_map pairs = subst (λ (p : Piece). length (document p p.inline) ≤ 3 + entries_len [] pairs) (sym (piece_map pairs)) (document_most (map pair_piece pairs))

printed_in_len : (t : Tree) (x : Tree-F Tree Pair) → t ≡ roll-Tree x → entries_len [] (entries_in x) ≤ length (printed t)
printed_in_len t open_tree.Null is = none_less _
printed_in_len t (open_tree.Bool b) is = none_less _
printed_in_len t (open_tree.Int n) is = none_less _
printed_in_len t (open_tree.Text text) is = none_less _
printed_in_len t (open_tree.List items) is = none_less _
printed_in_len t (open_tree.Map pairs) is =
    subst (λ (p : Piece). entries_len [] pairs ≤ length (document p p.inline)) (sym (ap piece_of (is ∙ trees.rolls-Map pairs) ∙ piece_map pairs)) (document_least (map pair_piece pairs))

pub printed_entries : (t : Tree) → entries_len [] (entries_of t) ≤ length (printed t)
printed_entries t = printed_in_len t (out-Tree t) (sym (roll-out-Tree t))
