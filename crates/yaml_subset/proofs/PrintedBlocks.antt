-- The lines of a printed list or map are read as it, whatever follows them that stands less deep.
use Rattle.std.proofs.Common.{◌≡◌, ℕ, suc, ◌+◌, ◌-◌, ◌<◌, ◌≤◌, true, false, List, [], ◌∷◌, ◌++◌, length, Some, None, Ok, refl, sym, ◌∙◌, ap, arith, subst, append_assoc, length-append, inl, inr, eqb-true}
use Rattle.std.proofs.lemmas.Bool.{and_parts}
use Rattle.std.specs.Prelude.{map, codes}
use Rattle.std.specs.List.{list_all}
use Rattle.std.specs.Str.{IsUtf8}
use Rattle.yaml_subset.specs.declared.blocks.Place.TheVariants.{Item}
use Rattle.yaml_subset.specs.declared.blocks.State.{State}
use Rattle.yaml_subset.specs.declared.blocks.State.TheVariants.{Blocks}
use Rattle.yaml_subset.specs.declared.stack.Frame.{Frame}
use Rattle.yaml_tree.specs.declared.tree.Tree.{Tree}
use Rattle.yaml_tree.specs.declared.tree.Tree.TheVariants as tree
use Rattle.yaml_tree.specs.declared.tree.Key.{Key}
use Rattle.yaml_tree.specs.declared.tree.Pair.{Pair}
use Rattle.yaml_subset.specs.Characters.{at_gap}
use Rattle.yaml_subset.specs.Entries.{has_key}
use Rattle.yaml_subset.specs.Flow.{with_entry}
use Rattle.yaml_subset.specs.Blocks.{list_frame, map_frame, levels_in, behind_dash, behind_colon, content, is_marker, by_state, step}
use Rattle.yaml_subset.specs.Printed.{Piece, behind_mark, scalar_or_lines, item_lines, pair_lines, key_scalar, piece_of, pair_piece}
use Rattle.yaml_subset.specs.Levels.{most, levels, pair_levels}
use Rattle.yaml_subset.specs.ReadBack.{is_sound, entry_sound, all_sound, entries_sound}
use Rattle.yaml_subset.proofs.BlockLaws.{content_value, content_item}
use Rattle.yaml_subset.proofs.Pieces.{piece_pair}
use Rattle.yaml_subset.proofs.TreeLevels.{levels_pair}
use Rattle.yaml_subset.proofs.PrintedLines.{is_row_byte, all_append, all_weaker}
use Rattle.yaml_subset.proofs.PrintedScalars.{IsKey, key_is}
use Rattle.yaml_subset.proofs.PrintedStates.{Leads, row_leads, is_space, all_spaces, line_step, no_marker_line, starts_begins, BeginsAt, entry_begins, Pends, pends_same, pends_less, pends_closed, item_goes_on, pair_goes_on, IsInline}
use Rattle.yaml_subset.proofs.PrintedEntries.{dash_none, dash_some, colon_none, colon_some, first_key_read, next_key_read}
use Rattle.yaml_subset.proofs.PrintedTrees.{Shape, shape, sound_entries, key_at, has_key_among, keys_push}

space_row : (c : ℕ) → is_space c ≡ true → is_row_byte c ≡ true
space_row c h = let p : c ≡ 32 = eqb-true c 32 h in rw p refl

indent_rows : (indent : List ℕ) → all_spaces indent ≡ true → list_all is_row_byte indent ≡ true
indent_rows indent h = all_weaker is_space is_row_byte space_row indent h

-- the lines of a block are read as it
pub record BlockLeads (t : Tree) : Type 0 where
  pub leads : (s : State) (fs : List Frame) (indent back : List ℕ) (r : Tree) → BeginsAt s fs (length indent) → all_spaces indent ≡ true → length fs + levels t ≤ 32
      → ((gs : List Frame) (w : Tree) → Pends (length indent) gs w fs t → Leads (Blocks gs (Some w)) back r)
      → Leads s ((piece_of t).lines indent ++ back) r
  pub utf8 : (indent : List ℕ) → all_spaces indent ≡ true → IsUtf8 ((piece_of t).lines indent)

inline_text : (t : Tree) (text head indent back : List ℕ) → (piece_of t).inline ≡ Some text → (head ++ behind_mark (piece_of t) indent) ++ back ≡ (head ++ 32 ∷ text) ++ 10 ∷ back
inline_text t text head indent back e =
    ap (λ o. (head ++ scalar_or_lines o ((piece_of t).lines (indent ++ codes "  "))) ++ back) e ∙ simp append_assoc

block_text : (t : Tree) (head indent back : List ℕ) → (piece_of t).inline ≡ None → (head ++ behind_mark (piece_of t) indent) ++ back ≡ head ++ 10 ∷ ((piece_of t).lines (indent ++ codes "  ") ++ back)
block_text t head indent back e =
    ap (λ o. (head ++ scalar_or_lines o ((piece_of t).lines (indent ++ codes "  "))) ++ back) e ∙ simp append_assoc

-- a hyphen or a key, with what stands behind it
behind_leads : (t : Tree) → Shape t → ((piece_of t).inline ≡ None → BlockLeads t)
    → (s : State) (f : Frame) (fs : List Frame) (head indent back : List ℕ) (r : Tree)
    → f.indent ≡ length indent → all_spaces indent ≡ true → list_all is_row_byte head ≡ true → length (f ∷ fs) + levels t ≤ 32
    → step s head ≡ Ok (Blocks (f ∷ fs) None)
    → ((text : List ℕ) → IsInline text t → step s (head ++ 32 ∷ text) ≡ Ok (Blocks (f ∷ fs) (Some t)))
    → ((gs : List Frame) (w : Tree) → Pends (suc (length indent)) gs w (f ∷ fs) t → Leads (Blocks gs (Some w)) back r)
    → Leads s ((head ++ behind_mark (piece_of t) indent) ++ back) r
behind_leads t (inl i) block s f fs head indent back r e sp rows d none some more =
    subst (λ l. Leads s l r) (sym (inline_text t i.text head indent back i.is))
    (row_leads s (Blocks (f ∷ fs) (Some t)) (head ++ 32 ∷ i.text) back r (all_append is_row_byte head (32 ∷ i.text) rows i.inline.rows)
    (some i.text i.inline) (more (f ∷ fs) t (pends_same (suc (length indent)) (f ∷ fs) t)))
behind_leads t (inr b) block s f fs head indent back r e sp rows d none some more =
    let deeper : length (indent ++ codes "  ") ≡ length indent + 2 = length-append indent (codes "  ") in
    subst (λ l. Leads s l r) (sym (block_text t head indent back b))
    (row_leads s (Blocks (f ∷ fs) None) head ((piece_of t).lines (indent ++ codes "  ") ++ back) r rows none
    ((block b).leads (Blocks (f ∷ fs) None) (f ∷ fs) (indent ++ codes "  ") back r
    (entry_begins f fs (length (indent ++ codes "  ")) (omega arith)) (all_append is_space indent (codes "  ") sp refl) d
    (λ gs w p. more gs w (pends_less (length (indent ++ codes "  ")) (suc (length indent)) gs w (f ∷ fs) t (omega arith) p))))

-- an item whose line is read behind its hyphen
item_leads : (t : Tree) → Shape t → ((piece_of t).inline ≡ None → BlockLeads t)
    → (n : ℕ) (s : State) (f : Frame) (fs : List Frame) (indent back : List ℕ) (r : Tree)
    → f.indent ≡ length indent → all_spaces indent ≡ true → length (f ∷ fs) + levels t ≤ 32
    → ((rest : List ℕ) → at_gap rest ≡ true → is_marker 45 (45 ∷ rest) ≡ false → step s (indent ++ 45 ∷ rest) ≡ behind_dash (content n Item) (f ∷ fs) (length indent) (45 ∷ rest))
    → ((gs : List Frame) (w : Tree) → Pends (suc (length indent)) gs w (f ∷ fs) t → Leads (Blocks gs (Some w)) back r)
    → Leads s (((indent ++ 45 ∷ []) ++ behind_mark (piece_of t) indent) ++ back) r
item_leads t sh block n s f fs indent back r e sp d dash more =
    behind_leads t sh block s f fs (indent ++ 45 ∷ []) indent back r e sp (all_append is_row_byte indent (45 ∷ []) (indent_rows indent sp) refl) d
    (dash [] refl refl ∙ dash_none (content n Item) (f ∷ fs) (length indent))
    (λ text i. ap (step s) (append_assoc indent (45 ∷ []) (32 ∷ text)) ∙ dash (32 ∷ text) refl refl ∙ dash_some n (f ∷ fs) (length indent) text t i (omega arith))
    more

-- each block among them, which nests fewer than n lists and maps, is read
abbrev pub Below : ℕ → Type 0
Below n = (t : Tree) → levels t < n → is_sound t ≡ true → (piece_of t).inline ≡ None → BlockLeads t

item_text : (indent : List ℕ) (p : Piece) (more back : List ℕ) → ((indent ++ 45 ∷ behind_mark p indent) ++ more) ++ back ≡ ((indent ++ 45 ∷ []) ++ behind_mark p indent) ++ (more ++ back)
item_text indent p more back = simp append_assoc

-- the items behind the first ones
items_lead : (n : ℕ) → Below n → (ts : List Tree) → all_sound (map is_sound ts) ≡ true → most (map levels ts) < n
    → (before : List Tree) (v : Tree) (gs : List Frame) (w : Tree) (fs : List Frame) (indent back : List ℕ) (r : Tree)
    → all_spaces indent ≡ true → length fs + (1 + most (map levels ts)) ≤ 32 → Pends (suc (length indent)) gs w (list_frame (length indent) before ∷ fs) v
    → ((hs : List Frame) (u : Tree) → Pends (length indent) hs u fs (tree.List (before ++ v ∷ ts)) → Leads (Blocks hs (Some u)) back r)
    → Leads (Blocks gs (Some w)) (item_lines indent (map piece_of ts) ++ back) r
items_lead n below [] sound m before v gs w fs indent back r sp d p more =
    more gs w (pends_closed (length indent) gs w (list_frame (length indent) before) fs v refl p)
items_lead n below (t ∷ ts) sound m before v gs w fs indent back r sp d p more =
    let parts = and_parts (is_sound t) (all_sound (map is_sound ts)) sound in
    let f : Frame = list_frame (length indent) (before ++ v ∷ []) in
    subst (λ l. Leads (Blocks gs (Some w)) l r) (sym (item_text indent (piece_of t) (item_lines indent (map piece_of ts)) back))
    (item_leads t (shape t parts.0) (below t (omega arith) parts.0) (levels_in (f ∷ fs)) (Blocks gs (Some w)) f fs indent (item_lines indent (map piece_of ts) ++ back) r refl sp (omega arith)
    (λ rest g mk. line_step (Blocks gs (Some w)) indent 45 rest sp refl mk ∙ item_goes_on gs w (length indent) before fs v (indent ++ 45 ∷ rest) (45 ∷ rest) p g)
    (λ hs u q. items_lead n below ts parts.1 (omega arith) (before ++ v ∷ []) t hs u fs indent back r sp (omega arith) q
    (λ xs x z. more xs x (subst (λ (l : List Tree). Pends (length indent) xs x fs (tree.List l)) (append_assoc before (v ∷ []) (t ∷ ts)) z))))

pub list_leads : (n : ℕ) → Below n → (t : Tree) (ts : List Tree) → all_sound (map is_sound (t ∷ ts)) ≡ true → most (map levels (t ∷ ts)) < n
    → (s : State) (fs : List Frame) (indent back : List ℕ) (r : Tree) → BeginsAt s fs (length indent) → all_spaces indent ≡ true → length fs + (1 + most (map levels (t ∷ ts))) ≤ 32
    → ((gs : List Frame) (w : Tree) → Pends (length indent) gs w fs (tree.List (t ∷ ts)) → Leads (Blocks gs (Some w)) back r)
    → Leads s (item_lines indent (map piece_of (t ∷ ts)) ++ back) r
list_leads n below t ts sound m s fs indent back r b sp d more =
    let parts = and_parts (is_sound t) (all_sound (map is_sound ts)) sound in
    let f : Frame = list_frame (length indent) [] in
    subst (λ l. Leads s l r) (sym (item_text indent (piece_of t) (item_lines indent (map piece_of ts)) back))
    (item_leads t (shape t parts.0) (below t (omega arith) parts.0) (levels_in fs - 1) s f fs indent (item_lines indent (map piece_of ts) ++ back) r refl sp (omega arith)
    (λ rest g mk. line_step s indent 45 rest sp refl mk
    ∙ b.begins (indent ++ 45 ∷ rest) (45 ∷ rest) (no_marker_line indent 45 rest sp mk)
    ∙ content_item (levels_in fs) b.place fs (length indent) (45 ∷ rest) (omega arith) g)
    (λ hs u q. items_lead n below ts parts.1 (omega arith) [] t hs u fs indent back r sp (omega arith) q more))

key_text : (text : List ℕ) (key : Key) (i : IsKey text key) (rest : List ℕ) → text ++ 58 ∷ rest ≡ i.scalar.head ∷ (i.scalar.tail ++ 58 ∷ rest)
key_text text key i rest = ap (λ l. l ++ 58 ∷ rest) i.scalar.is

key_no_marker : (text : List ℕ) (key : Key) (i : IsKey text key) (rest : List ℕ) → is_marker 45 (i.scalar.head ∷ (i.scalar.tail ++ 58 ∷ rest)) ≡ false
key_no_marker text key i rest = subst (λ l. is_marker 45 l ≡ false) (key_text text key i rest) (i.scalar.no_marker (58 ∷ rest))

-- the line of a key
key_line_step : (s : State) (indent text : List ℕ) (key : Key) (i : IsKey text key) (rest : List ℕ) → all_spaces indent ≡ true
    → step s (indent ++ (text ++ 58 ∷ rest)) ≡ by_state s (indent ++ (text ++ 58 ∷ rest)) (length indent) (text ++ 58 ∷ rest)
key_line_step s indent text key i rest sp =
    subst (λ l. step s (indent ++ l) ≡ by_state s (indent ++ l) (length indent) l) (sym (key_text text key i rest))
    (line_step s indent i.scalar.head (i.scalar.tail ++ 58 ∷ rest) sp (starts_begins i.scalar.head i.scalar.start) (key_no_marker text key i rest))

key_line_marker : (indent text : List ℕ) (key : Key) (i : IsKey text key) (rest : List ℕ) → all_spaces indent ≡ true → is_marker 45 (indent ++ (text ++ 58 ∷ rest)) ≡ false
key_line_marker indent text key i rest sp =
    subst (λ l. is_marker 45 (indent ++ l) ≡ false) (sym (key_text text key i rest))
    (no_marker_line indent i.scalar.head (i.scalar.tail ++ 58 ∷ rest) sp (key_no_marker text key i rest))

-- an entry whose line is read behind its colon
pair_leads : (t : Tree) → Shape t → ((piece_of t).inline ≡ None → BlockLeads t)
    → (text : List ℕ) (key : Key) → IsKey text key → (s : State) (f : Frame) (fs : List Frame) (indent back : List ℕ) (r : Tree)
    → f.indent ≡ length indent → all_spaces indent ≡ true → length (f ∷ fs) + levels t ≤ 32
    → ((rest : List ℕ) → at_gap rest ≡ true → step s (indent ++ (text ++ 58 ∷ rest)) ≡ behind_colon (f ∷ fs) rest)
    → ((gs : List Frame) (w : Tree) → Pends (suc (length indent)) gs w (f ∷ fs) t → Leads (Blocks gs (Some w)) back r)
    → Leads s (((indent ++ (text ++ 58 ∷ [])) ++ behind_mark (piece_of t) indent) ++ back) r
pair_leads t sh block text key k s f fs indent back r e sp d colon more =
    behind_leads t sh block s f fs (indent ++ (text ++ 58 ∷ [])) indent back r e sp
    (all_append is_row_byte indent (text ++ 58 ∷ []) (indent_rows indent sp) (all_append is_row_byte text (58 ∷ []) k.scalar.rows refl)) d
    (colon [] refl ∙ colon_none (f ∷ fs))
    (λ value i. ap (step s) (simp append_assoc) ∙ colon (32 ∷ value) refl ∙ colon_some (f ∷ fs) value t i (omega arith))
    more

pair_text : (indent : List ℕ) (p : Pair) (more back : List ℕ)
    → ((indent ++ ((pair_piece p).0 ++ 58 ∷ behind_mark (pair_piece p).1 indent)) ++ more) ++ back ≡ ((indent ++ (key_scalar p.key ++ 58 ∷ [])) ++ behind_mark (piece_of p.value) indent) ++ (more ++ back)
pair_text indent p more back =
    ap (λ (q : List ℕ × Piece). ((indent ++ (q.0 ++ 58 ∷ behind_mark q.1 indent)) ++ more) ++ back) (piece_pair p) ∙ simp append_assoc

-- the entries behind the first ones
pairs_lead : (n : ℕ) → Below n → (ps : List Pair) (before : List Pair) (key : Key) (v : Tree)
    → entries_sound (map key_at (with_entry before key v)) (map entry_sound ps) ≡ true → most (map pair_levels ps) < n
    → (gs : List Frame) (w : Tree) (fs : List Frame) (indent back : List ℕ) (r : Tree)
    → all_spaces indent ≡ true → length fs + (1 + most (map pair_levels ps)) ≤ 32 → Pends (suc (length indent)) gs w (map_frame (length indent) before key ∷ fs) v
    → ((hs : List Frame) (u : Tree) → Pends (length indent) hs u fs (tree.Map (before ++ (record { key = key; value = v }) ∷ ps)) → Leads (Blocks hs (Some u)) back r)
    → Leads (Blocks gs (Some w)) (pair_lines indent (map pair_piece ps) ++ back) r
pairs_lead n below [] before key v sound m gs w fs indent back r sp d p more =
    more gs w (pends_closed (length indent) gs w (map_frame (length indent) before key) fs v refl p)
pairs_lead n below (q ∷ qs) before key v sound m gs w fs indent back r sp d p more =
    let e = sound_entries (map key_at (with_entry before key v)) q qs sound in
    let l = levels_pair q in
    let i = key_is q.key e.key in
    let text : List ℕ = key_scalar q.key in
    let f : Frame = map_frame (length indent) (with_entry before key v) q.key in
    let apart : has_key (with_entry before key v) q.key ≡ false = has_key_among (with_entry before key v) q.key ∙ e.apart in
    let sound' : entries_sound (map key_at (with_entry (with_entry before key v) q.key q.value)) (map entry_sound qs) ≡ true
    = subst (λ (ks : List Key). entries_sound ks (map entry_sound qs) ≡ true) (sym (keys_push (with_entry before key v) q)) e.more in
    subst (λ l. Leads (Blocks gs (Some w)) l r) (sym (pair_text indent q (pair_lines indent (map pair_piece qs)) back))
    (pair_leads q.value (shape q.value e.value) (below q.value (omega arith) e.value) text q.key i (Blocks gs (Some w)) f fs indent (pair_lines indent (map pair_piece qs) ++ back) r refl sp (omega arith)
    (λ rest g. key_line_step (Blocks gs (Some w)) indent text q.key i rest sp
    ∙ pair_goes_on gs w (length indent) before key fs v (indent ++ (text ++ 58 ∷ rest)) (text ++ 58 ∷ rest) p
    ∙ rw (next_key_read (with_entry before key v) text q.key rest i apart g) refl)
    (λ hs u z. pairs_lead n below qs (with_entry before key v) q.key q.value sound' (omega arith) hs u fs indent back r sp (omega arith) z
    (λ xs x y. more xs x (subst (λ (all : List Pair). Pends (length indent) xs x fs (tree.Map all)) (append_assoc before ((record { key = key; value = v }) ∷ []) (q ∷ qs)) y))))

pub map_leads : (n : ℕ) → Below n → (q : Pair) (qs : List Pair) → entries_sound [] (map entry_sound (q ∷ qs)) ≡ true → most (map pair_levels (q ∷ qs)) < n
    → (s : State) (fs : List Frame) (indent back : List ℕ) (r : Tree) → BeginsAt s fs (length indent) → all_spaces indent ≡ true → length fs + (1 + most (map pair_levels (q ∷ qs))) ≤ 32
    → ((gs : List Frame) (w : Tree) → Pends (length indent) gs w fs (tree.Map (q ∷ qs)) → Leads (Blocks gs (Some w)) back r)
    → Leads s (pair_lines indent (map pair_piece (q ∷ qs)) ++ back) r
map_leads n below q qs sound m s fs indent back r b sp d more =
    let e = sound_entries [] q qs sound in
    let l = levels_pair q in
    let i = key_is q.key e.key in
    let text : List ℕ = key_scalar q.key in
    let f : Frame = map_frame (length indent) [] q.key in
    subst (λ l. Leads s l r) (sym (pair_text indent q (pair_lines indent (map pair_piece qs)) back))
    (pair_leads q.value (shape q.value e.value) (below q.value (omega arith) e.value) text q.key i s f fs indent (pair_lines indent (map pair_piece qs) ++ back) r refl sp (omega arith)
    (λ rest g. key_line_step s indent text q.key i rest sp
    ∙ b.begins (indent ++ (text ++ 58 ∷ rest)) (text ++ 58 ∷ rest) (key_line_marker indent text q.key i rest sp)
    ∙ content_value (levels_in fs) b.place fs (length indent) (text ++ 58 ∷ rest) (i.scalar.no_dash (58 ∷ rest))
    ∙ first_key_read b.place fs (length indent) text q.key rest i (omega arith) g)
    (λ hs u z. pairs_lead n below qs [] q.key q.value e.more (omega arith) hs u fs indent back r sp (omega arith) z more))
