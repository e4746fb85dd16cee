-- What is of the grammar is read: reading the lines of a block leaves its tree.
use Rattle.std.proofs.Common.{◌≡◌, ℕ, zero, suc, ◌+◌, ◌-◌, ◌<◌, nat_lt, nat_le, ◌==◌, Bool, true, false, cond, not, ◌||◌, ◌&&◌, List, [], ◌∷◌, ◌++◌, length, drop, Option, Some, None, Result, Ok, refl, sym, ◌∙◌, ap, subst, arith, append_assoc}
use Rattle.std.proofs.lemmas.Bool.Decides.{nat_tests}
use Rattle.yaml_subset.specs.declared.fault.YamlCause.{YamlCause}
use Rattle.yaml_subset.specs.declared.stack.Open.TheVariants as open_
use Rattle.yaml_subset.specs.declared.scalars.Scanned.{Scanned}
use Rattle.yaml_subset.specs.declared.stack.Frame.{Frame}
use Rattle.yaml_subset.specs.declared.blocks.Place.{Place}
use Rattle.yaml_subset.specs.declared.blocks.Place.TheVariants.{Deeper, Item}
use Rattle.yaml_subset.specs.declared.blocks.State.{State}
use Rattle.yaml_subset.specs.declared.blocks.State.TheVariants.{Blocks}
use Rattle.yaml_tree.specs.declared.tree.Tree.{Tree}
use Rattle.yaml_tree.specs.declared.tree.Tree.TheVariants as tree
use Rattle.yaml_tree.specs.declared.tree.Key.{Key}
use Rattle.yaml_tree.specs.declared.tree.Pair.{Pair}
use Rattle.yaml_subset.specs.Characters.{is_empty, marks, next_part}
use Rattle.yaml_subset.specs.Scalars.{scan, key_of}
use Rattle.yaml_subset.specs.Entries.{has_key}
use Rattle.yaml_subset.specs.Flow.{opens, entry_key, with_entry}
use Rattle.yaml_subset.specs.Blocks.{list_frame, map_frame, is_list, levels_in, takes_block, top_is, in_blocks, go_on, next_entry, behind_dash, behind_colon, block_value, content, key_or_value, first_key}
use Rattle.yaml_subset.specs.Gives.{◌>>=◌}
use Rattle.yaml_subset.specs.Grammar.{Line, Form, of_list, of_map, ItemValue, item_nothing, item_below, item_value, item_block, AreItems, EntryValue, entry_nothing, entry_below, entry_list, entry_value, AreEntries, IsList, IsMap, IsBlock}
use Rattle.yaml_subset.proofs.BlockLaws.{content_value}
use Rattle.yaml_subset.proofs.LineValues.{false_unless, never_both, no_dash, no_bracket, value_read}
use Rattle.yaml_subset.proofs.FlowParts.{part_at_most}
use Rattle.yaml_subset.proofs.FlowGrammar.{line_value_read}
use Rattle.yaml_subset.proofs.Steps.{then_steps, then_steps-append, Stands, list_form, Ends, Passes, equal, passes_item, passes_entry, stands_value, stands_nothing, stands_closed, stands_deeper, stands_list_at_key, settle_kept}

-- from r on, the lines lead to blocks that are open as P tells
abbrev pub Reaches : Result State YamlCause → List Line → (List Frame → Option Tree → Type 0) → Type 0
Reaches r ls P = (frames : List Frame) × (slot : Option Tree) × (then_steps r ls ≡ Ok (Blocks frames slot)) × P frames slot

reaches_at : (P : List Frame → Option Tree → Type 0) (r r' : Result State YamlCause) (ls : List Line) → r ≡ r' → Reaches r' ls P → Reaches r ls P
reaches_at P r r' ls e w = (w.0, w.1, ap (λ r. then_steps r ls) e ∙ w.2, w.3)

reaches_more : (P Q : List Frame → Option Tree → Type 0) (r : Result State YamlCause) (xs ys : List Line) (w : Reaches r xs P) → Reaches (Ok (Blocks w.0 w.1)) ys Q → Reaches r (xs ++ ys) Q
reaches_more P Q r xs ys w u = (u.0, u.1, then_steps-append r xs ys ∙ ap (λ r. then_steps r ys) w.2 ∙ u.2, u.3)

-- a block's lines are read from its first one on
pub record BlockRun (n : ℕ) (form : Form) (at : ℕ) (block : List Line) (t : Tree) (fs : List Frame) : Type 0 where
  pub first : List ℕ
  pub more : List Line
  pub split : block ≡ (at, first) ∷ more
  pub dash : marks 45 first ≡ list_form form
  pub runs : (place : Place) → Reaches (content n place fs at first) more (Stands (Ends at (list_form form) fs) fs t)

abbrev pub NestedRuns : ℕ → Type 0
NestedRuns n = (form : Form) (at : ℕ) (block : List Line) (t : Tree) → IsBlock n form at block t → (fs : List Frame) → length fs + n ≡ 32 → BlockRun n form at block t fs

pub levels_left : (n : ℕ) (frames : List Frame) → length frames + n ≡ 32 → levels_in frames ≡ n
levels_left n frames h = omega arith

pub starts_block : (n : ℕ) (f : Frame) (fs : List Frame) (indent : ℕ) (rest : List ℕ) → length (f ∷ fs) + n ≡ 32 → takes_block (f ∷ fs) indent (marks 45 rest) ≡ true
    → in_blocks (f ∷ fs) None indent rest ≡ content n Deeper (f ∷ fs) indent rest
unfolding in_blocks
starts_block n f fs indent rest l h = rw h (ap (λ k. content k Deeper (f ∷ fs) indent rest) (levels_left n (f ∷ fs) l))

-- a block below an entry without a value
nested_runs : (n : ℕ) → NestedRuns n → (f : Frame) (fs : List Frame) (form : Form) (at : ℕ) (below : List Line) (v : Tree) → length (f ∷ fs) + n ≡ 32
    → takes_block (f ∷ fs) at (list_form form) ≡ true → IsBlock n form at below v
    → Reaches (Ok (Blocks (f ∷ fs) None)) below (Stands (Ends at (list_form form) (f ∷ fs)) (f ∷ fs) v)
nested_runs n nested f fs form at below v l takes block =
    let b = nested form at below v block (f ∷ fs) l in
    let P : List Frame → Option Tree → Type 0 = Stands (Ends at (list_form form) (f ∷ fs)) (f ∷ fs) v in
    let takes' : takes_block (f ∷ fs) at (marks 45 b.first) ≡ true = ap (takes_block (f ∷ fs) at) b.dash ∙ takes in
    subst (λ ls. Reaches (Ok (Blocks (f ∷ fs) None)) ls P) (sym b.split)
    (reaches_at P (in_blocks (f ∷ fs) None at b.first) (content n Deeper (f ∷ fs) at b.first) b.more (starts_block n f fs at b.first l takes') (b.runs Deeper))

deeper_takes : (f : Frame) (fs : List Frame) (at : ℕ) (item : Bool) → f.indent < at → takes_block (f ∷ fs) at item ≡ true
deeper_takes f fs at item l = let lt : nat_lt f.indent at ≡ true = grind (arith, nat_tests) in rw lt refl

deeper_runs : (n : ℕ) → NestedRuns n → (f : Frame) (fs : List Frame) (form : Form) (at : ℕ) (below : List Line) (v : Tree) → length (f ∷ fs) + n ≡ 32
    → f.indent < at → IsBlock n form at below v
    → Reaches (Ok (Blocks (f ∷ fs) None)) below (Stands (Passes f.indent (is_list f.open_block)) (f ∷ fs) v)
deeper_runs n nested f fs form at below v l deeper block =
    let w = nested_runs n nested f fs form at below v l (deeper_takes f fs at (list_form form) deeper) block in
    (w.0, w.1, w.2, stands_deeper f fs v w.0 w.1 at (list_form form) deeper w.3)

nothing_runs : (f : Frame) (fs : List Frame) (below : List Line) (v : Tree) → below ≡ [] → v ≡ tree.Null
    → Reaches (Ok (Blocks (f ∷ fs) None)) below (Stands (Passes f.indent (is_list f.open_block)) (f ∷ fs) v)
nothing_runs f fs below v b e =
    subst (λ ls. Reaches (Ok (Blocks (f ∷ fs) None)) ls (Stands (Passes f.indent (is_list f.open_block)) (f ∷ fs) v)) (sym b)
    (subst (λ w. Reaches (Ok (Blocks (f ∷ fs) None)) [] (Stands (Passes f.indent (is_list f.open_block)) (f ∷ fs) w)) (sym e)
    (f ∷ fs, None, refl, stands_nothing f fs))

value_runs : (f : Frame) (fs : List Frame) (below : List Line) (v : Tree) → below ≡ []
    → Reaches (Ok (Blocks (f ∷ fs) (Some v))) below (Stands (Passes f.indent (is_list f.open_block)) (f ∷ fs) v)
value_runs f fs below v b =
    subst (λ ls. Reaches (Ok (Blocks (f ∷ fs) (Some v))) ls (Stands (Passes f.indent (is_list f.open_block)) (f ∷ fs) v)) (sym b)
    (f ∷ fs, Some v, refl, stands_value (Passes f.indent (is_list f.open_block)) (f ∷ fs) v)

pub dash_is : (g : List Frame → ℕ → List ℕ → Result State YamlCause) (frames : List Frame) (at : ℕ) (rest part : List ℕ) (b : Bool) → next_part false (drop 1 rest) ≡ Ok part → is_empty part ≡ b
    → behind_dash g frames at rest ≡ cond b (Ok (Blocks frames None)) (g frames (at + (length rest - length part)) part)
dash_is g frames at rest part b e h = rw (e, h) refl

abbrev first_of : List ℕ → List Line → List ℕ
first_of other [] = other
first_of other (l ∷ ls) = l.1

abbrev rest_of : List Line → List Line → List Line
rest_of other [] = other
rest_of other (l ∷ ls) = ls

not_ended : (at : ℕ) (list item top : Bool) → list && not item ≡ false → (nat_lt at at || at == at && list && not item && top) ≡ false
not_ended at false item top h = grind (arith, nat_tests)
not_ended at true true top h = grind (arith, nat_tests)
not_ended at true false top h = absurd cc

-- an item, with the lines that belong to it
item_runs : (n : ℕ) → NestedRuns n → (items : List Tree) (at : ℕ) (fs : List Frame) (rest part : List ℕ) (below : List Line) (v : Tree)
    → length (list_frame at items ∷ fs) + n ≡ 32 → next_part false (drop 1 rest) ≡ Ok part → length part < length rest
    → ItemValue n (IsBlock n) at (at + (length rest - length part)) part below v
    → Reaches (behind_dash (content n Item) (list_frame at items ∷ fs) at rest) below (Stands (Passes at true) (list_frame at items ∷ fs) v)
item_runs n nested items at fs rest part below v l e short (item_nothing p b w) =
    reaches_at _ _ _ below (dash_is (content n Item) (list_frame at items ∷ fs) at rest part true e p) (nothing_runs (list_frame at items) fs below v b w)
item_runs n nested items at fs rest part below v l e short (item_below form deeper p lt block) =
    reaches_at _ _ _ below (dash_is (content n Item) (list_frame at items ∷ fs) at rest part true e p) (deeper_runs n nested (list_frame at items) fs form deeper below v l lt block)
item_runs n nested items at fs rest part below v l e short (item_value p b is) =
    reaches_at _ _ _ below (dash_is (content n Item) (list_frame at items ∷ fs) at rest part false e p ∙ value_read n Item (list_frame at items ∷ fs) (at + (length rest - length part)) part v (levels_left n (list_frame at items ∷ fs) l) (line_value_read n part v is))
    (value_runs (list_frame at items) fs below v b)
item_runs n nested items at fs rest part below v l e short (item_block form p block) =
    let column : ℕ = at + (length rest - length part) in
    let b = nested form (at + (length rest - length part)) ((at + (length rest - length part), part) ∷ below) v block (list_frame at items ∷ fs) l in
    let P : List Frame → Option Tree → Type 0 = Stands (Ends (at + (length rest - length part)) (list_form form) (list_frame at items ∷ fs)) (list_frame at items ∷ fs) v in
    let same : part ≡ b.first = ap (first_of part) b.split in
    let same_below : below ≡ b.more = ap (rest_of below) b.split in
    let w : Reaches (content n Item (list_frame at items ∷ fs) (at + (length rest - length part)) part) below P =
    subst (λ ls. Reaches (content n Item (list_frame at items ∷ fs) (at + (length rest - length part)) part) ls P) (sym same_below)
    (reaches_at P _ _ b.more (ap (content n Item (list_frame at items ∷ fs) (at + (length rest - length part))) same) (b.runs Item)) in
    let deeper : at < at + (length rest - length part) = omega (arith, short) in
    reaches_at _ _ _ below (dash_is (content n Item) (list_frame at items ∷ fs) at rest part false e p)
    (w.0, w.1, w.2, stands_deeper (list_frame at items) fs v w.0 w.1 (at + (length rest - length part)) (list_form form) deeper w.3)

-- an item or entry more, behind the last one
pub goes_on : (P : ℕ → Bool → Type 0) (f : Frame) (fs : List Frame) (v : Tree) (frames : List Frame) (slot : Option Tree) (rest : List ℕ)
    → Stands P (f ∷ fs) v frames slot → P f.indent (marks 45 rest) → is_list f.open_block && not (marks 45 rest) ≡ false
    → in_blocks frames slot f.indent rest ≡ next_entry f.open_block fs f.indent v rest
unfolding in_blocks go_on
goes_on P f fs v frames slot rest s p h =
    let b = s.begins f.indent (marks 45 rest) p in
    let same : f.indent == f.indent ≡ true = equal f.indent in
    let kept = settle_kept f fs v f.indent (marks 45 rest) (not_ended f.indent (is_list f.open_block) (marks 45 rest) (top_is f.indent fs) h) in
    let e = s.settles f.indent (marks 45 rest) p ∙ kept in
    rw (b, e, same) refl

pub part_short : (c : ℕ) (rest part : List ℕ) → marks c rest ≡ true → next_part false (drop 1 rest) ≡ Ok part → length part < length rest
part_short c [] part m e = absurd cc
part_short c (x ∷ xs) part m e = omega (arith, part_at_most false xs part e)

pub next_item : (n : ℕ) (items : List Tree) (at : ℕ) (fs : List Frame) (v : Tree) (rest : List ℕ) → marks 45 rest ≡ true → length (list_frame at (items ++ v ∷ []) ∷ fs) + n ≡ 32
    → next_entry (open_.List items) fs at v rest ≡ behind_dash (content n Item) (list_frame at (items ++ v ∷ []) ∷ fs) at rest
next_item n items at fs v rest m l = rw m (ap (λ k. behind_dash (content k Item) (list_frame at (items ++ v ∷ []) ∷ fs) at rest) (levels_left n (list_frame at (items ++ v ∷ []) ∷ fs) l))

pub next_key : (at : ℕ) (pairs : List Pair) (k : Key) (v : Tree) (fs : List Frame) (rest : List ℕ) (s : Scanned) (after : List ℕ) (key : Key)
    → scan false rest ≡ Ok (s, after) → marks 58 after ≡ true → key_of s ≡ Ok key → has_key (with_entry pairs k v) key ≡ false
    → next_entry (open_.Map pairs k) fs at v rest ≡ behind_colon (map_frame at (with_entry pairs k v) key ∷ fs) (drop 1 after)
unfolding entry_key
next_key at pairs k v fs rest s after key e m o h = rw (e, m, o, h) refl

pub scan_no_dash : (rest : List ℕ) (s : Scanned) (after : List ℕ) → scan false rest ≡ Ok (s, after) → marks 45 rest ≡ false
scan_no_dash rest s after e = false_unless (marks 45 rest) (λ m. never_both (scan false rest) (s, after) (no_dash rest m) e)

scan_no_bracket : (rest : List ℕ) (s : Scanned) (after : List ℕ) → scan false rest ≡ Ok (s, after) → opens rest ≡ false
scan_no_bracket rest s after e = false_unless (opens rest) (λ m. never_both (scan false rest) (s, after) (no_bracket false rest m) e)

pub few : (n length : ℕ) → length + suc n ≡ 32 → nat_le 32 length ≡ false
few n length h = grind (arith, nat_tests)

pub key_is : (n : ℕ) (place : Place) (fs : List Frame) (at : ℕ) (rest : List ℕ) (s : Scanned) (after : List ℕ) (key : Key) → length fs + suc n ≡ 32
    → scan false rest ≡ Ok (s, after) → marks 58 after ≡ true → key_of s ≡ Ok key
    → content (suc n) place fs at rest ≡ behind_colon (map_frame at [] key ∷ fs) (drop 1 after)
unfolding key_or_value first_key
key_is n place fs at rest s after key l e m o =
    content_value (suc n) place fs at rest (scan_no_dash rest s after e) ∙ rw (scan_no_bracket rest s after e, e, m, few n (length fs) l, o) refl

pub colon_is : (frames : List Frame) (rest part : List ℕ) (b : Bool) → next_part false rest ≡ Ok part → is_empty part ≡ b
    → behind_colon frames rest ≡ cond b (Ok (Blocks frames None)) (block_value (levels_in frames) part >>= λ v. Ok (Blocks frames (Some v)))
unfolding behind_colon
colon_is frames rest part b e h = rw (e, h) refl

value_behind : (frames : List Frame) (n : ℕ) (part : List ℕ) (v : Tree) → length frames + n ≡ 32 → block_value n part ≡ Ok v
    → (block_value (levels_in frames) part >>= λ v. Ok (Blocks frames (Some v))) ≡ Ok (Blocks frames (Some v))
value_behind frames n part v l e = rw (levels_left n frames l, e) refl

list_takes : (at : ℕ) (b : Bool) → b || at == at && true && true ≡ true
list_takes at true = refl
list_takes at false = let same = equal at in rw same refl

-- the items behind the last one
items_run : (n : ℕ) → NestedRuns n → (at : ℕ) (fs : List Frame) → length fs + suc n ≡ 32 → (items : List Tree) (v : Tree) (frames : List Frame) (slot : Option Tree) (more : List Line) (vs : List Tree)
    → Stands (Passes at true) (list_frame at items ∷ fs) v frames slot → AreItems n (IsBlock n) at more vs
    → Reaches (Ok (Blocks frames slot)) more (Stands (Ends at true fs) fs (tree.List (items ++ v ∷ vs)))
items_run n nested at fs l items v frames slot more [] s none =
    subst (λ ls. Reaches (Ok (Blocks frames slot)) ls (Stands (Ends at true fs) fs (tree.List (items ++ v ∷ [])))) (sym none)
    (frames, slot, refl, stands_closed (list_frame at items) fs v frames slot s)
items_run n nested at fs l items v frames slot more (w ∷ ws) s are =
    let item = are.1 in
    let next = goes_on (Passes at true) (list_frame at items) fs v frames slot item.rest s (passes_item at (marks 45 item.rest)) (ap not item.dash) in
    let levels : length (list_frame at (items ++ v ∷ []) ∷ fs) + n ≡ 32 = omega (arith, l) in
    let first = item_runs n nested (items ++ v ∷ []) at fs item.rest item.part item.below w levels item.behind (part_short 45 item.rest item.part item.dash item.behind) item.value in
    let later = items_run n nested at fs l (items ++ v ∷ []) w first.0 first.1 are.0 ws first.3 are.2 in
    let P : List Frame → Option Tree → Type 0 = Stands (Passes at true) (list_frame at (items ++ v ∷ []) ∷ fs) w in
    let Q : List Frame → Option Tree → Type 0 = Stands (Ends at true fs) fs (tree.List ((items ++ v ∷ []) ++ w ∷ ws)) in
    let all = reaches_more P Q _ item.below are.0 first later in
    let here : Reaches (Ok (Blocks frames slot)) ((at, item.rest) ∷ item.below ++ are.0) Q =
    reaches_at Q (in_blocks frames slot at item.rest) _ (item.below ++ are.0) (next ∙ next_item n items at fs v item.rest item.dash levels) all in
    let there : Reaches (Ok (Blocks frames slot)) more Q = subst (λ ls. Reaches (Ok (Blocks frames slot)) ls Q) (sym item.stands) here in
    subst (λ us. Reaches (Ok (Blocks frames slot)) more (Stands (Ends at true fs) fs (tree.List us))) (append_assoc items (v ∷ []) (w ∷ ws)) there

-- a block list is read
list_runs : (n : ℕ) → NestedRuns n → (at : ℕ) (block : List Line) (t : Tree) → IsList n (IsBlock n) at block t → (fs : List Frame) → length fs + suc n ≡ 32 → BlockRun (suc n) of_list at block t fs
unfolding content
list_runs n nested at block t list fs l =
    let are = list.are in
    let item = are.1 in
    let levels : length (list_frame at [] ∷ fs) + n ≡ 32 = omega (arith, l) in
    let first = item_runs n nested [] at fs item.rest item.part item.below list.item levels item.behind (part_short 45 item.rest item.part item.dash item.behind) item.value in
    let later = items_run n nested at fs l [] list.item first.0 first.1 are.0 list.items first.3 are.2 in
    let P : List Frame → Option Tree → Type 0 = Stands (Passes at true) (list_frame at [] ∷ fs) list.item in
    let Q : Tree → List Frame → Option Tree → Type 0 = λ t. Stands (Ends at true fs) fs t in
    let all = reaches_more P (Q (tree.List (list.item ∷ list.items))) _ item.below are.0 first later in
    let e : (place : Place) → content (suc n) place fs at item.rest ≡ behind_dash (content n Item) (list_frame at [] ∷ fs) at item.rest = λ place. rw item.dash refl in
    record {
      first = item.rest;
      more = item.below ++ are.0;
      split = item.stands;
      dash = item.dash;
      runs = λ place. subst (λ t. Reaches (content (suc n) place fs at item.rest) (item.below ++ are.0) (Q t)) (sym list.is) (reaches_at (Q (tree.List (list.item ∷ list.items))) _ _ (item.below ++ are.0) (e place) all);
    }

-- an entry, with the lines that belong to it
entry_runs : (n : ℕ) → NestedRuns n → (pairs : List Pair) (k : Key) (at : ℕ) (fs : List Frame) (rest part : List ℕ) (below : List Line) (v : Tree)
    → length (map_frame at pairs k ∷ fs) + n ≡ 32 → next_part false rest ≡ Ok part → EntryValue n (IsBlock n) at part below v
    → Reaches (behind_colon (map_frame at pairs k ∷ fs) rest) below (Stands (Passes at false) (map_frame at pairs k ∷ fs) v)
entry_runs n nested pairs k at fs rest part below v l e (entry_nothing p b w) =
    reaches_at _ _ _ below (colon_is (map_frame at pairs k ∷ fs) rest part true e p) (nothing_runs (map_frame at pairs k) fs below v b w)
entry_runs n nested pairs k at fs rest part below v l e (entry_below form deeper p lt block) =
    reaches_at _ _ _ below (colon_is (map_frame at pairs k ∷ fs) rest part true e p) (deeper_runs n nested (map_frame at pairs k) fs form deeper below v l lt block)
entry_runs n nested pairs k at fs rest part below v l e (entry_list p block) =
    let f : Frame = map_frame at pairs k in
    let w = nested_runs n nested (map_frame at pairs k) fs of_list at below v l (list_takes at (nat_lt at at)) block in
    reaches_at _ _ _ below (colon_is (map_frame at pairs k ∷ fs) rest part true e p)
    (w.0, w.1, w.2, stands_list_at_key (map_frame at pairs k) fs v w.0 w.1 refl w.3)
entry_runs n nested pairs k at fs rest part below v l e (entry_value p b is) =
    reaches_at _ _ _ below (colon_is (map_frame at pairs k ∷ fs) rest part false e p ∙ value_behind (map_frame at pairs k ∷ fs) n part v l (line_value_read n part v is))
    (value_runs (map_frame at pairs k) fs below v b)

-- the entries behind the last one
entries_run : (n : ℕ) → NestedRuns n → (at : ℕ) (fs : List Frame) → length fs + suc n ≡ 32 → (pairs : List Pair) (k : Key) (v : Tree) (frames : List Frame) (slot : Option Tree) (more : List Line) (ps : List Pair)
    → Stands (Passes at false) (map_frame at pairs k ∷ fs) v frames slot → AreEntries n (IsBlock n) at (with_entry pairs k v) more ps
    → Reaches (Ok (Blocks frames slot)) more (Stands (Ends at false fs) fs (tree.Map (pairs ++ (record { key = k; value = v }) ∷ ps)))
entries_run n nested at fs l pairs k v frames slot more [] s none =
    subst (λ ls. Reaches (Ok (Blocks frames slot)) ls (Stands (Ends at false fs) fs (tree.Map (with_entry pairs k v)))) (sym none)
    (frames, slot, refl, stands_closed (map_frame at pairs k) fs v frames slot s)
entries_run n nested at fs l pairs k v frames slot more (p ∷ ps) s are =
    let entry = are.1 in
    let dash = scan_no_dash entry.rest entry.scanned entry.after entry.scalar in
    let next = goes_on (Passes at false) (map_frame at pairs k) fs v frames slot entry.rest s (passes_entry at (marks 45 entry.rest) dash) refl in
    let levels : length (map_frame at (with_entry pairs k v) p.key ∷ fs) + n ≡ 32 = omega (arith, l) in
    let first = entry_runs n nested (with_entry pairs k v) p.key at fs (drop 1 entry.after) entry.part entry.below p.value levels entry.behind entry.value in
    let later = entries_run n nested at fs l (with_entry pairs k v) p.key p.value first.0 first.1 are.0 ps first.3 are.2 in
    let P : List Frame → Option Tree → Type 0 = Stands (Passes at false) (map_frame at (with_entry pairs k v) p.key ∷ fs) p.value in
    let Q : List Frame → Option Tree → Type 0 = Stands (Ends at false fs) fs (tree.Map (with_entry pairs k v ++ p ∷ ps)) in
    let all = reaches_more P Q _ entry.below are.0 first later in
    let here : Reaches (Ok (Blocks frames slot)) ((at, entry.rest) ∷ entry.below ++ are.0) Q =
    reaches_at Q (in_blocks frames slot at entry.rest) _ (entry.below ++ are.0) (next ∙ next_key at pairs k v fs entry.rest entry.scanned entry.after p.key entry.scalar entry.colon entry.key entry.first) all in
    let there : Reaches (Ok (Blocks frames slot)) more Q = subst (λ ls. Reaches (Ok (Blocks frames slot)) ls Q) (sym entry.stands) here in
    subst (λ us. Reaches (Ok (Blocks frames slot)) more (Stands (Ends at false fs) fs (tree.Map us))) (append_assoc pairs ((record { key = k; value = v }) ∷ []) (p ∷ ps)) there

-- a block map is read
map_runs : (n : ℕ) → NestedRuns n → (at : ℕ) (block : List Line) (t : Tree) → IsMap n (IsBlock n) at block t → (fs : List Frame) → length fs + suc n ≡ 32 → BlockRun (suc n) of_map at block t fs
map_runs n nested at block t m fs l =
    let are = m.are in
    let entry = are.1 in
    let p = m.pair in
    let dash = scan_no_dash entry.rest entry.scanned entry.after entry.scalar in
    let levels : length (map_frame at [] p.key ∷ fs) + n ≡ 32 = omega (arith, l) in
    let first = entry_runs n nested [] p.key at fs (drop 1 entry.after) entry.part entry.below p.value levels entry.behind entry.value in
    let later = entries_run n nested at fs l [] p.key p.value first.0 first.1 are.0 m.pairs first.3 are.2 in
    let P : List Frame → Option Tree → Type 0 = Stands (Passes at false) (map_frame at [] p.key ∷ fs) p.value in
    let Q : Tree → List Frame → Option Tree → Type 0 = λ t. Stands (Ends at false fs) fs t in
    let all = reaches_more P (Q (tree.Map (p ∷ m.pairs))) _ entry.below are.0 first later in
    record {
      first = entry.rest;
      more = entry.below ++ are.0;
      split = entry.stands;
      dash = dash;
      runs = λ place. subst (λ t. Reaches (content (suc n) place fs at entry.rest) (entry.below ++ are.0) (Q t)) (sym m.is)
          (reaches_at (Q (tree.Map (p ∷ m.pairs))) _ _ (entry.below ++ are.0) (key_is n place fs at entry.rest entry.scanned entry.after p.key l entry.scalar entry.colon entry.key) all);
    }

-- each block is read
pub block_runs : (n : ℕ) → NestedRuns n
block_runs zero form at block t b fs l = absurd b
block_runs (suc n) of_list at block t b fs l = list_runs n (block_runs n) at block t b fs l
block_runs (suc n) of_map at block t b fs l = map_runs n (block_runs n) at block t b fs l
