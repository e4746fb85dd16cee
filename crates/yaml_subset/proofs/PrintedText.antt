-- What is printed of a tree is UTF-8, and read back as it.
use Rattle.std.proofs.Common.{◌≡◌, ℕ, zero, suc, ◌<◌, ◌≤◌, true, false, List, [], ◌∷◌, ◌++◌, length, Some, None, Ok, refl, sym, ◌∙◌, ap, arith, subst, append-nil, le-ltb, inl, inr, eqb-true}
use Rattle.std.specs.Prelude.{map, codes}
use Rattle.std.specs.Str.{IsUtf8}
use Rattle.std.proofs.lemmas.Bool.{and_parts}
use Rattle.std.proofs.lemmas.Str.{IsUtf8-nil, IsUtf8-append, is_utf8-from_IsUtf8}
use Rattle.yaml_subset.specs.declared.blocks.Place.TheVariants.{Document}
use Rattle.yaml_subset.specs.declared.blocks.State.TheVariants.{Start, Alone, Blocks}
use Rattle.yaml_tree.specs.declared.tree.Tree.{Tree}
use Rattle.yaml_tree.specs.declared.tree.Tree.TheVariants as tree
use Rattle.yaml_tree.specs.declared.tree.Key.{Key}
use Rattle.yaml_tree.specs.declared.tree.Pair.{Pair}
use Rattle.yaml_subset.specs.Blocks.{close_all, content, is_marker, step}
use Rattle.yaml_subset.specs.Grammar.{Reads}
use Rattle.yaml_subset.specs.Reading.{read_of}
use Rattle.yaml_subset.specs.Printed.{Piece, behind_mark, scalar_or_lines, item_lines, pair_lines, key_scalar, piece_of, pair_piece, document, printed}
use Rattle.yaml_subset.specs.Levels.{most, levels, pair_levels}
use Rattle.yaml_subset.specs.ReadBack.{is_sound, entry_sound, all_sound, entries_sound, IsSpelled}
use Rattle.yaml_subset.proofs.GrammarLines.{text_split}
use Rattle.yaml_subset.proofs.BlockLaws.{content_value}
use Rattle.yaml_subset.proofs.Pieces.{piece_pair, lines_of_list, lines_of_map}
use Rattle.yaml_subset.proofs.TreeLevels.{levels_list, levels_map, levels_pair}
use Rattle.yaml_subset.proofs.PrintedLines.{all_append, all_weaker, is_ascii_byte, utf8_from}
use Rattle.yaml_subset.proofs.PrintedScalars.{key_is}
use Rattle.yaml_subset.proofs.PrintedStates.{Leads, row_leads, end_leads, is_space, all_spaces, line_step, start_step, start_begins, IsInline}
use Rattle.yaml_subset.proofs.PrintedTrees.{Shape, shape, at_block, sound_list, sound_map, sound_entries}
use Rattle.yaml_subset.proofs.PrintedBlocks.{BlockLeads, Below, list_leads, map_leads}

space_ascii : (c : ℕ) → is_space c ≡ true → is_ascii_byte c ≡ true
space_ascii c h = let p : c ≡ 32 = eqb-true c 32 h in rw p refl

indent_utf8 : (indent : List ℕ) → all_spaces indent ≡ true → IsUtf8 indent
indent_utf8 indent h = utf8_from indent (all_weaker is_space is_ascii_byte space_ascii indent h)

byte_utf8 : (b : ℕ) (bs : List ℕ) → is_ascii_byte b ≡ true → IsUtf8 bs → IsUtf8 (b ∷ bs)
byte_utf8 b bs h u = IsUtf8-append (b ∷ []) bs (utf8_from (b ∷ []) (rw h refl)) u

behind_utf8 : (t : Tree) → Shape t → ((piece_of t).inline ≡ None → BlockLeads t) → (indent : List ℕ) → all_spaces indent ≡ true → IsUtf8 (behind_mark (piece_of t) indent)
behind_utf8 t (inl i) block indent sp =
    subst (λ o. IsUtf8 (scalar_or_lines o ((piece_of t).lines (indent ++ codes "  ")))) (sym i.is)
    (byte_utf8 32 (i.text ++ 10 ∷ []) refl (IsUtf8-append i.text (10 ∷ []) i.inline.utf8 (utf8_from (10 ∷ []) refl)))
behind_utf8 t (inr b) block indent sp =
    subst (λ o. IsUtf8 (scalar_or_lines o ((piece_of t).lines (indent ++ codes "  ")))) (sym b)
    (byte_utf8 10 ((piece_of t).lines (indent ++ codes "  ")) refl ((block b).utf8 (indent ++ codes "  ") (all_append is_space indent (codes "  ") sp refl)))

items_utf8 : (n : ℕ) → Below n → (ts : List Tree) → all_sound (map is_sound ts) ≡ true → most (map levels ts) < n → (indent : List ℕ) → all_spaces indent ≡ true → IsUtf8 (item_lines indent (map piece_of ts))
items_utf8 n below [] sound m indent sp = IsUtf8-nil
items_utf8 n below (t ∷ ts) sound m indent sp =
    let parts = and_parts (is_sound t) (all_sound (map is_sound ts)) sound in
    IsUtf8-append (indent ++ 45 ∷ behind_mark (piece_of t) indent) (item_lines indent (map piece_of ts))
    (IsUtf8-append indent (45 ∷ behind_mark (piece_of t) indent) (indent_utf8 indent sp)
    (byte_utf8 45 (behind_mark (piece_of t) indent) refl (behind_utf8 t (shape t parts.0) (below t (omega arith) parts.0) indent sp)))
    (items_utf8 n below ts parts.1 (omega arith) indent sp)

pairs_utf8 : (n : ℕ) → Below n → (ps : List Pair) (before : List Key) → entries_sound before (map entry_sound ps) ≡ true → most (map pair_levels ps) < n
    → (indent : List ℕ) → all_spaces indent ≡ true → IsUtf8 (pair_lines indent (map pair_piece ps))
pairs_utf8 n below [] before sound m indent sp = IsUtf8-nil
pairs_utf8 n below (q ∷ qs) before sound m indent sp =
    let e = sound_entries before q qs sound in
    let l = levels_pair q in
    let i = key_is q.key e.key in
    subst (λ (p : List ℕ × Piece). IsUtf8 ((indent ++ (p.0 ++ 58 ∷ behind_mark p.1 indent)) ++ pair_lines indent (map pair_piece qs))) (sym (piece_pair q))
    (IsUtf8-append (indent ++ (key_scalar q.key ++ 58 ∷ behind_mark (piece_of q.value) indent)) (pair_lines indent (map pair_piece qs))
    (IsUtf8-append indent (key_scalar q.key ++ 58 ∷ behind_mark (piece_of q.value) indent) (indent_utf8 indent sp)
    (IsUtf8-append (key_scalar q.key) (58 ∷ behind_mark (piece_of q.value) indent) i.scalar.utf8
    (byte_utf8 58 (behind_mark (piece_of q.value) indent) refl (behind_utf8 q.value (shape q.value e.value) (below q.value (omega arith) e.value) indent sp))))
    (pairs_utf8 n below qs (before ++ q.key ∷ []) e.more (omega arith) indent sp))

-- a list or a map, where those of fewer levels are read
list_next : (n : ℕ) → Below n → (t : Tree) (ts : List Tree) → levels (tree.List (t ∷ ts)) < suc n → is_sound (tree.List (t ∷ ts)) ≡ true → BlockLeads (tree.List (t ∷ ts))
list_next n below t ts l h =
    let e = levels_list (t ∷ ts) in
    let sound : all_sound (map is_sound (t ∷ ts)) ≡ true = sym (sound_list (t ∷ ts)) ∙ h in
    record {
      leads = λ s fs indent back r b sp d more. subst (λ (l : List ℕ). Leads s (l ++ back) r) (sym (lines_of_list (t ∷ ts) indent))
          (list_leads n below t ts sound (omega arith) s fs indent back r b sp (omega arith) more);
      utf8 = λ indent sp. subst IsUtf8 (sym (lines_of_list (t ∷ ts) indent)) (items_utf8 n below (t ∷ ts) sound (omega arith) indent sp);
    }

map_next : (n : ℕ) → Below n → (q : Pair) (qs : List Pair) → levels (tree.Map (q ∷ qs)) < suc n → is_sound (tree.Map (q ∷ qs)) ≡ true → BlockLeads (tree.Map (q ∷ qs))
map_next n below q qs l h =
    let e = levels_map (q ∷ qs) in
    let sound : entries_sound [] (map entry_sound (q ∷ qs)) ≡ true = sym (sound_map (q ∷ qs)) ∙ h in
    record {
      leads = λ s fs indent back r b sp d more. subst (λ (l : List ℕ). Leads s (l ++ back) r) (sym (lines_of_map (q ∷ qs) indent))
          (map_leads n below q qs sound (omega arith) s fs indent back r b sp (omega arith) more);
      utf8 = λ indent sp. subst IsUtf8 (sym (lines_of_map (q ∷ qs) indent)) (pairs_utf8 n below (q ∷ qs) [] sound (omega arith) indent sp);
    }

one_more : (n : ℕ) → Below n → Below (suc n)
one_more n below t l h e =
    at_block (λ t. levels t < suc n → is_sound t ≡ true → BlockLeads t) (list_next n below) (map_next n below) t e l h

all_below : (n : ℕ) → Below n
all_below zero t l h e = absurd (omega arith)
all_below (suc n) t l h e = one_more n (all_below n) t l h e

-- a document of one line
alone_step : (t : Tree) (text : List ℕ) → IsInline text t → levels t ≤ 32 → step Start text ≡ Ok (Alone 0 t)
alone_step t text i l =
    let marker : is_marker 45 (i.head ∷ i.tail) ≡ false = subst (λ (l : List ℕ). is_marker 45 l ≡ false) i.is i.no_marker in
    ap (step Start) i.is
    ∙ line_step Start [] i.head i.tail refl i.begins_line marker
    ∙ start_step (i.head ∷ i.tail) (i.head ∷ i.tail) marker
    ∙ ap (content 32 Document [] 0) (sym i.is)
    ∙ content_value 32 Document [] 0 text i.no_dash
    ∙ i.alone Document [] 0 l

printed_leads : (t : Tree) → Shape t → is_sound t ≡ true → levels t ≤ 32 → Leads Start (printed t) t
unfolding close_all
printed_leads t (inl i) h l =
    subst (λ o. Leads Start (document (piece_of t) o) t) (sym i.is)
    (row_leads Start (Alone 0 t) i.text [] t i.inline.rows (alone_step t i.text i.inline l) (end_leads (Alone 0 t)))
printed_leads t (inr b) h l =
    subst (λ o. Leads Start (document (piece_of t) o) t) (sym b)
    (subst (λ (l : List ℕ). Leads Start l t) (append-nil ((piece_of t).lines []))
    ((all_below 33 t (omega arith) h b).leads Start [] [] [] t start_begins refl (omega arith)
    (λ gs w p. subst (λ (u : Tree). Leads (Blocks gs (Some w)) [] u) p.whole (end_leads (Blocks gs (Some w))))))

printed_utf8 : (t : Tree) → Shape t → is_sound t ≡ true → levels t ≤ 32 → IsUtf8 (printed t)
printed_utf8 t (inl i) h l =
    subst (λ o. IsUtf8 (document (piece_of t) o)) (sym i.is) (IsUtf8-append i.text (10 ∷ []) i.inline.utf8 (utf8_from (10 ∷ []) refl))
printed_utf8 t (inr b) h l =
    subst (λ o. IsUtf8 (document (piece_of t) o)) (sym b) ((all_below 33 t (omega arith) h b).utf8 [] refl)

read_back : (t : Tree) → IsSpelled t → read_of (printed t) ≡ Ok t
unfolding read_of
read_back t s =
    let sh = shape t s.sound in
    rw (le-ltb 1048576 (length (printed t)) s.short, is_utf8-from_IsUtf8 (printed t) (printed_utf8 t sh s.sound s.nested))
    ((printed_leads t sh s.sound s.nested).leads 0)

pub reads_back : (t : Tree) → IsSpelled t → Reads (printed t) t
reads_back t s = text_split (printed t) t (read_back t s)
