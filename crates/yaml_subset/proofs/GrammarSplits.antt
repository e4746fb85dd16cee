-- What is read is of the grammar: lines that are read are split into blocks, items and entries.
use Rattle.std.proofs.Common.{◌≡◌, ◌⊎◌, inl, inr, ℕ, ◌+◌, ◌-◌, ◌<◌, nat_lt, ◌==◌, Bool, true, false, cond, not, ◌||◌, ◌&&◌, List, [], ◌∷◌, ◌++◌, length, drop, Option, Some, None, Result, Ok, Err, refl, sym, ◌∙◌, ap, subst, arith}
use Rattle.std.proofs.lemmas.Bool.Decides.{nat_tests}
use Rattle.yaml_subset.specs.declared.fault.YamlCause.{YamlCause}
use Rattle.yaml_subset.specs.declared.fault.YamlCause.TheVariants.{Indent}
use Rattle.yaml_subset.specs.declared.stack.Open.{Open}
use Rattle.yaml_subset.specs.declared.stack.Open.TheVariants as open_
use Rattle.yaml_subset.specs.declared.stack.Frame.{Frame}
use Rattle.yaml_subset.specs.declared.blocks.Place.{Place}
use Rattle.yaml_subset.specs.declared.blocks.Place.TheVariants.{Deeper, Item}
use Rattle.yaml_subset.specs.declared.blocks.State.{State}
use Rattle.yaml_subset.specs.declared.blocks.State.TheVariants.{Blocks}
use Rattle.yaml_tree.specs.declared.tree.Tree.{Tree}
use Rattle.yaml_tree.specs.declared.tree.Tree.TheVariants as tree
use Rattle.yaml_tree.specs.declared.tree.Key.{Key}
use Rattle.yaml_tree.specs.declared.tree.Pair.{Pair}
use Rattle.yaml_subset.specs.Characters.{is_empty, marks, next_part}
use Rattle.yaml_subset.specs.Flow.{entry_key}
use Rattle.yaml_subset.specs.Blocks.{misplaced, list_frame, map_frame, is_list, levels_in, takes_block, top_is, in_blocks, go_on, next_entry, behind_dash, behind_colon, block_value, content}
use Rattle.yaml_subset.specs.Gives.{◌>>=◌}
use Rattle.yaml_subset.specs.Grammar.{Line, Form, of_list, of_map, ItemValue, item_nothing, item_below, item_value, item_block, EntryValue, entry_nothing, entry_below, entry_list, entry_value, IsBlock}
use Rattle.yaml_subset.proofs.FlowGrammar.{line_value_found}
use Rattle.yaml_subset.proofs.LineValues.{bind_ok, IsRefused, never_both, same, no_dash, IsValue}
use Rattle.yaml_subset.proofs.Steps.{steps, then_steps, Stands, list_form, Ends, ends, Passes, passes, stands_value, stands_nothing, stands_deeper, stands_list_at_key, settle_kept}
use Rattle.yaml_subset.proofs.GrammarRead.{levels_left, starts_block, part_short}

-- the first of these lines, where there is one, is as P tells
abbrev pub Stops : (ℕ → Bool → Type 0) → List Line → Type 0
Stops P [] = Unit {0}
Stops P (l ∷ ls) = P l.0 (marks 45 l.1)

-- the lines that are read behind a block's first one: those of the block, and more
pub record BlockSplit (n at : ℕ) (first : List ℕ) (ls : List Line) (fs : List Frame) (end : State) : Type 0 where
  pub form : Form
  pub tree : Tree
  pub below : List Line
  pub more : List Line
  pub frames : List Frame
  pub slot : Option Tree
  pub split : ls ≡ below ++ more
  pub dash : marks 45 first ≡ list_form form
  pub block : IsBlock n form at ((at, first) ∷ below) tree
  pub stands : Stands (Ends at (list_form form) fs) fs tree frames slot
  pub runs : steps (Blocks frames slot) more ≡ Ok end
  pub stops : Stops (Ends at (list_form form) fs) more

abbrev pub NestedSplits : ℕ → Type 0
NestedSplits n = (place : Place) (fs : List Frame) (at : ℕ) (first : List ℕ) (ls : List Line) (end : State) → length fs + n ≡ 32
    → then_steps (content n place fs at first) ls ≡ Ok end
    → IsValue n place fs at first (λ next. steps next ls) end ⊎ BlockSplit n at first ls fs end

-- the lines that are read behind the first one of an entry or item: those that belong to it, and more
pub record EntrySplit (Value : List Line → Tree → Type 0) (f : Frame) (fs : List Frame) (ls : List Line) (end : State) : Type 0 where
  pub value : Tree
  pub below : List Line
  pub more : List Line
  pub frames : List Frame
  pub slot : Option Tree
  pub split : ls ≡ below ++ more
  pub is : Value below value
  pub stands : Stands (Passes f.indent (is_list f.open_block)) (f ∷ fs) value frames slot
  pub runs : steps (Blocks frames slot) more ≡ Ok end
  pub stops : Stops (Passes f.indent (is_list f.open_block)) more

-- the line that stands next in an open block
pub rests : (P : ℕ → Bool → Type 0) (f : Frame) (fs : List Frame) (v : Tree) (frames : List Frame) (slot : Option Tree) (indent : ℕ) (rest : List ℕ)
    → Stands P (f ∷ fs) v frames slot → P indent (marks 45 rest) → ends f.indent (is_list f.open_block) fs indent (marks 45 rest) ≡ false
    → in_blocks frames slot indent rest ≡ go_on (f ∷ fs, v) indent rest
unfolding in_blocks
rests P f fs v frames slot indent rest s p h =
    let e = s.settles indent (marks 45 rest) p ∙ settle_kept f fs v indent (marks 45 rest) h in
    rw (s.begins indent (marks 45 rest) p, e) refl

not_more : (x y l n t : Bool) → x || y && (l || n) ≡ false → x || y && l && n && t ≡ false
not_more true y l n t h = h
not_more false false l n t h = refl
not_more false true true n t h = absurd cc
not_more false true false n t h = refl

map_refuses : (o : Open) (fs : List Frame) (indent : ℕ) (v : Tree) (rest : List ℕ) → is_list o || not (marks 45 rest) ≡ false → IsRefused (next_entry o fs indent v rest)
unfolding entry_key
map_refuses (open_.List items) fs indent v rest h = absurd cc
map_refuses (open_.Map pairs k) fs indent v rest h =
    let d = no_dash rest (dashed (marks 45 rest) h) in
    (d.0, rw d.1 refl)
  where
    dashed : (b : Bool) → false || not b ≡ false → b ≡ true
    dashed true h = refl
    dashed false h = absurd cc

go_on_refuses : (f : Frame) (fs : List Frame) (v : Tree) (indent : ℕ) (rest : List ℕ) → passes f.indent (is_list f.open_block) indent (marks 45 rest) ≡ false
    → IsRefused (go_on (f ∷ fs, v) indent rest)
unfolding go_on
go_on_refuses f fs v indent rest h = by_test (f.indent == indent) (nat_lt indent f.indent) h
  where
    by_test : (b x : Bool) → x || b && (is_list f.open_block || not (marks 45 rest)) ≡ false → IsRefused (cond b (next_entry f.open_block fs indent v rest) (Err (misplaced Indent rest)))
    by_test false x h = (misplaced Indent rest, refl)
    by_test true true h = absurd cc
    by_test true false h = map_refuses f.open_block fs indent v rest h

-- behind an entry with its lines comes a line that ends it
passes_after : (P : ℕ → Bool → Type 0) (f : Frame) (fs : List Frame) (v : Tree) (frames : List Frame) (slot : Option Tree) (more : List Line) (end : State)
    → Stands P (f ∷ fs) v frames slot → Stops P more → steps (Blocks frames slot) more ≡ Ok end → Stops (Passes f.indent (is_list f.open_block)) more
passes_after P f fs v frames slot [] end s p r = tt
passes_after P f fs v frames slot (l ∷ ls) end s p r = by_test (passes f.indent (is_list f.open_block) l.0 (marks 45 l.1)) refl
  where
    by_test : (b : Bool) → passes f.indent (is_list f.open_block) l.0 (marks 45 l.1) ≡ b → passes f.indent (is_list f.open_block) l.0 (marks 45 l.1) ≡ true
    by_test true e = e
    by_test false e =
        let k = not_more (nat_lt l.0 f.indent) (f.indent == l.0) (is_list f.open_block) (not (marks 45 l.1)) (top_is l.0 fs) e in
        let b = bind_ok (in_blocks frames slot l.0 l.1) (λ next. steps next ls) end r in
        absurd (never_both (go_on (f ∷ fs, v) l.0 l.1) b.0 (go_on_refuses f fs v l.0 l.1 e) (sym (rests P f fs v frames slot l.0 l.1 s p k) ∙ b.1))

-- a block below an entry without a value
record Below (n : ℕ) (f : Frame) (fs : List Frame) (ls : List Line) (end : State) : Type 0 where
  pub form : Form
  pub at : ℕ
  pub takes : takes_block (f ∷ fs) at (list_form form) ≡ true
  pub lines : EntrySplit (IsBlock n form at) f fs ls end

taken : (x y m l : Bool) → x || y && not m && l ≡ true → (x ≡ true) ⊎ ((y ≡ true) × (m ≡ false) × (l ≡ true))
taken true y m l h = inl refl
taken false true true l h = absurd cc
taken false true false l h = inr (refl, refl, h)
taken false false m l h = absurd cc

less : (m n : ℕ) → nat_lt m n ≡ true → m < n
less m n h = grind (arith, nat_tests)

stands_below : (f : Frame) (fs : List Frame) (t : Tree) (frames : List Frame) (slot : Option Tree) (at : ℕ) (list : Bool) → takes_block (f ∷ fs) at list ≡ true
    → Stands (Ends at list (f ∷ fs)) (f ∷ fs) t frames slot → Stands (Passes f.indent (is_list f.open_block)) (f ∷ fs) t frames slot
stands_below f fs t frames slot at list takes s = by_cases (taken (nat_lt f.indent at) (f.indent == at) (is_list f.open_block) list takes)
  where
    by_cases : (nat_lt f.indent at ≡ true) ⊎ ((f.indent == at ≡ true) × (is_list f.open_block ≡ false) × (list ≡ true)) → Stands (Passes f.indent (is_list f.open_block)) (f ∷ fs) t frames slot
    by_cases (inl lt) = stands_deeper f fs t frames slot at list (less f.indent at lt) s
    by_cases (inr w) =
        let S : ℕ → Bool → Type 0 = λ a b. Stands (Ends a b (f ∷ fs)) (f ∷ fs) t frames slot in
        stands_list_at_key f fs t frames slot w.1 (subst (λ a. S a true) (sym (same f.indent at w.0)) (subst (S at) w.2 s))

below_split : (n : ℕ) → NestedSplits n → (f : Frame) (fs : List Frame) (ls : List Line) (end : State) → length (f ∷ fs) + n ≡ 32 → steps (Blocks (f ∷ fs) None) ls ≡ Ok end
    → Stops (Passes f.indent (is_list f.open_block)) ls ⊎ Below n f fs ls end
below_split n nested f fs [] end l r = inl tt
below_split n nested f fs (line ∷ ls) end l r = by_test (takes_block (f ∷ fs) line.0 (marks 45 line.1)) refl
  where
    P : ℕ → Bool → Type 0
    P indent item = takes_block (f ∷ fs) indent item ≡ false

    of_block : takes_block (f ∷ fs) line.0 (marks 45 line.1) ≡ true → BlockSplit n line.0 line.1 ls (f ∷ fs) end → Below n f fs (line ∷ ls) end
    of_block e b =
        let takes : takes_block (f ∷ fs) line.0 (list_form b.form) ≡ true = ap (takes_block (f ∷ fs) line.0) (sym b.dash) ∙ e in
        record {
          form = b.form;
          at = line.0;
          takes = takes;
          lines = record {
            value = b.tree;
            below = line ∷ b.below;
            more = b.more;
            frames = b.frames;
            slot = b.slot;
            split = ap (λ xs. line ∷ xs) b.split;
            is = b.block;
            stands = stands_below f fs b.tree b.frames b.slot line.0 (list_form b.form) takes b.stands;
            runs = b.runs;
            stops = passes_after (Ends line.0 (list_form b.form) (f ∷ fs)) f fs b.tree b.frames b.slot b.more end b.stands b.stops b.runs;
          };
        }

    of_split : takes_block (f ∷ fs) line.0 (marks 45 line.1) ≡ true → IsValue n Deeper (f ∷ fs) line.0 line.1 (λ next. steps next ls) end ⊎ BlockSplit n line.0 line.1 ls (f ∷ fs) end
        → Below n f fs (line ∷ ls) end
    of_split e (inl v) = let q = v.runs in absurd cc
    of_split e (inr b) = of_block e b

    by_test : (b : Bool) → takes_block (f ∷ fs) line.0 (marks 45 line.1) ≡ b → Stops (Passes f.indent (is_list f.open_block)) (line ∷ ls) ⊎ Below n f fs (line ∷ ls) end
    by_test true e =
        let r' : then_steps (content n Deeper (f ∷ fs) line.0 line.1) ls ≡ Ok end = ap (λ q. then_steps q ls) (sym (starts_block n f fs line.0 line.1 l e)) ∙ r in
        inr (of_split e (nested Deeper (f ∷ fs) line.0 line.1 ls end l r'))
    by_test false e =
        let s : Stands P (f ∷ fs) tree.Null (f ∷ fs) None = record { closes = refl; begins = λ i b h. h; settles = λ i b h. refl } in
        inl (passes_after P f fs tree.Null (f ∷ fs) None (line ∷ ls) end s e r)

all_stop : (ls : List Line) → Stops (λ i b. Unit {0}) ls
all_stop [] = tt
all_stop (l ∷ ls) = tt

deeper_item : (at deeper : ℕ) (item : Bool) → nat_lt at deeper || at == deeper && not true && item ≡ true → at < deeper
deeper_item at deeper item h = grind (arith, nat_tests)

behind_column : (at : ℕ) (rest part : List ℕ) → marks 45 rest ≡ true → next_part false (drop 1 rest) ≡ Ok part → at < at + (length rest - length part)
behind_column at rest part m e = omega (arith, part_short 45 rest part m e)

-- behind an entry or item without a value stands a block, or nothing of it
of_below : (n : ℕ) (Value : List Line → Tree → Type 0) (f : Frame) (fs : List Frame) (ls : List Line) (end : State) → Value [] tree.Null → ((b : Below n f fs ls end) → Value b.lines.below b.lines.value)
    → Stops (Passes f.indent (is_list f.open_block)) ls ⊎ Below n f fs ls end → steps (Blocks (f ∷ fs) None) ls ≡ Ok end → EntrySplit Value f fs ls end
of_below n Value f fs ls end nothing block (inl stops) g = record {
  value = tree.Null;
  below = [];
  more = ls;
  frames = f ∷ fs;
  slot = None;
  split = refl;
  is = nothing;
  stands = stands_nothing f fs;
  runs = g;
  stops = stops;
}
of_below n Value f fs ls end nothing block (inr b) g =
    let s = b.lines in
    record {
      value = s.value;
      below = s.below;
      more = s.more;
      frames = s.frames;
      slot = s.slot;
      split = s.split;
      is = block b;
      stands = s.stands;
      runs = s.runs;
      stops = s.stops;
    }

-- the lines behind an item that has been read
pub item_split : (n : ℕ) → NestedSplits n → (items : List Tree) (at : ℕ) (fs : List Frame) (rest : List ℕ) (ls : List Line) (end : State)
    → length (list_frame at items ∷ fs) + n ≡ 32 → marks 45 rest ≡ true → then_steps (behind_dash (content n Item) (list_frame at items ∷ fs) at rest) ls ≡ Ok end
    → (part : List ℕ) × (next_part false (drop 1 rest) ≡ Ok part) × EntrySplit (ItemValue n (IsBlock n) at (at + (length rest - length part)) part) (list_frame at items) fs ls end
item_split n nested items at fs rest ls end l dash r = (part, behind, by_empty (is_empty part) refl run)
  where
    f : Frame
    f = list_frame at items

    after_part : List ℕ → Result State YamlCause
    after_part part = cond (is_empty part) (Ok (Blocks (list_frame at items ∷ fs) None)) (content n Item (list_frame at items ∷ fs) (at + (length rest - length part)) part)

    parts : (part : List ℕ) × (next_part false (drop 1 rest) ≡ Ok part) × (then_steps (after_part part) ls ≡ Ok end)
    parts =
        let b = bind_ok (behind_dash (content n Item) (list_frame at items ∷ fs) at rest) (λ next. steps next ls) end r in
        let d = bind_ok (next_part false (drop 1 rest)) (λ part. after_part part) b.0 b.1 in
        (d.0, d.1, ap (λ q. then_steps q ls) d.2 ∙ b.2)

    part : List ℕ
    part = parts.0

    behind : next_part false (drop 1 rest) ≡ Ok part
    behind = parts.1

    run : then_steps (after_part part) ls ≡ Ok end
    run = parts.2

    Value : List Line → Tree → Type 0
    Value = ItemValue n (IsBlock n) at (at + (length rest - length part)) part

    of_split : is_empty part ≡ false → IsValue n Item (list_frame at items ∷ fs) (at + (length rest - length part)) part (λ next. steps next ls) end ⊎ BlockSplit n (at + (length rest - length part)) part ls (list_frame at items ∷ fs) end
        → EntrySplit Value (list_frame at items) fs ls end
    of_split e (inl v) = record {
      value = v.value;
      below = [];
      more = ls;
      frames = list_frame at items ∷ fs;
      slot = Some v.value;
      split = refl;
      is = item_value e refl (line_value_found n part v.value v.is);
      stands = stands_value (Passes at true) (list_frame at items ∷ fs) v.value;
      runs = v.runs;
      stops = passes_after (λ i b. Unit {0}) (list_frame at items) fs v.value (list_frame at items ∷ fs) (Some v.value) ls end (stands_value (λ i b. Unit {0}) (list_frame at items ∷ fs) v.value) (all_stop ls) v.runs;
    }
    of_split e (inr b) = record {
      value = b.tree;
      below = b.below;
      more = b.more;
      frames = b.frames;
      slot = b.slot;
      split = b.split;
      is = item_block b.form e b.block;
      stands = stands_deeper (list_frame at items) fs b.tree b.frames b.slot (at + (length rest - length part)) (list_form b.form) (behind_column at rest part dash behind) b.stands;
      runs = b.runs;
      stops = passes_after (Ends (at + (length rest - length part)) (list_form b.form) (list_frame at items ∷ fs)) (list_frame at items) fs b.tree b.frames b.slot b.more end b.stands b.stops b.runs;
    }

    by_empty : (b : Bool) → is_empty part ≡ b → then_steps (after_part part) ls ≡ Ok end → EntrySplit Value (list_frame at items) fs ls end
    by_empty true e g =
        let g' : steps (Blocks (list_frame at items ∷ fs) None) ls ≡ Ok end = rw e at g in
        of_below n Value (list_frame at items) fs ls end (item_nothing e refl refl) (λ b. item_below b.form b.at e (deeper_item at b.at (list_form b.form) b.takes) b.lines.is) (below_split n nested (list_frame at items) fs ls end l g') g'
    by_empty false e g =
        let g' : then_steps (content n Item (list_frame at items ∷ fs) (at + (length rest - length part)) part) ls ≡ Ok end = rw e at g in
        of_split e (nested Item (list_frame at items ∷ fs) (at + (length rest - length part)) part ls end l g')

entry_of_block : (n : ℕ) (f : Frame) (fs : List Frame) (at : ℕ) (part : List ℕ) (below : List Line) (v : Tree) (form : Form) → is_empty part ≡ true → takes_block (f ∷ fs) at (list_form form) ≡ true
    → IsBlock n form at below v → EntryValue n (IsBlock n) f.indent part below v
entry_of_block n f fs at part below v form e takes block = by_cases form (taken (nat_lt f.indent at) (f.indent == at) (is_list f.open_block) (list_form form) takes) block
  where
    by_cases : (form : Form) → (nat_lt f.indent at ≡ true) ⊎ ((f.indent == at ≡ true) × (is_list f.open_block ≡ false) × (list_form form ≡ true)) → IsBlock n form at below v → EntryValue n (IsBlock n) f.indent part below v
    by_cases form (inl lt) b = entry_below form at e (less f.indent at lt) b
    by_cases of_list (inr w) b = entry_list e (subst (λ a. IsBlock n of_list a below v) (sym (same f.indent at w.0)) b)
    by_cases of_map (inr w) b = let q = w.2 in absurd cc

-- the lines behind an entry whose key has been read
pub entry_split : (n : ℕ) → NestedSplits n → (pairs : List Pair) (k : Key) (at : ℕ) (fs : List Frame) (rest : List ℕ) (ls : List Line) (end : State)
    → length (map_frame at pairs k ∷ fs) + n ≡ 32 → then_steps (behind_colon (map_frame at pairs k ∷ fs) rest) ls ≡ Ok end
    → (part : List ℕ) × (next_part false rest ≡ Ok part) × EntrySplit (EntryValue n (IsBlock n) at part) (map_frame at pairs k) fs ls end
unfolding behind_colon
entry_split n nested pairs k at fs rest ls end l r = (part, behind, by_empty (is_empty part) refl run)
  where
    after_part : List ℕ → Result State YamlCause
    after_part part = cond (is_empty part) (Ok (Blocks (map_frame at pairs k ∷ fs) None)) (block_value (levels_in (map_frame at pairs k ∷ fs)) part >>= λ v. Ok (Blocks (map_frame at pairs k ∷ fs) (Some v)))

    parts : (part : List ℕ) × (next_part false rest ≡ Ok part) × (then_steps (after_part part) ls ≡ Ok end)
    parts =
        let b = bind_ok (behind_colon (map_frame at pairs k ∷ fs) rest) (λ next. steps next ls) end r in
        let d = bind_ok (next_part false rest) (λ part. after_part part) b.0 b.1 in
        (d.0, d.1, ap (λ q. then_steps q ls) d.2 ∙ b.2)

    part : List ℕ
    part = parts.0

    behind : next_part false rest ≡ Ok part
    behind = parts.1

    run : then_steps (after_part part) ls ≡ Ok end
    run = parts.2

    Value : List Line → Tree → Type 0
    Value = EntryValue n (IsBlock n) at part

    of_value : is_empty part ≡ false → (v : Tree) → block_value n part ≡ Ok v → steps (Blocks (map_frame at pairs k ∷ fs) (Some v)) ls ≡ Ok end → EntrySplit Value (map_frame at pairs k) fs ls end
    of_value e v is g = record {
      value = v;
      below = [];
      more = ls;
      frames = map_frame at pairs k ∷ fs;
      slot = Some v;
      split = refl;
      is = entry_value e refl (line_value_found n part v is);
      stands = stands_value (Passes at false) (map_frame at pairs k ∷ fs) v;
      runs = g;
      stops = passes_after (λ i b. Unit {0}) (map_frame at pairs k) fs v (map_frame at pairs k ∷ fs) (Some v) ls end (stands_value (λ i b. Unit {0}) (map_frame at pairs k ∷ fs) v) (all_stop ls) g;
    }

    by_empty : (b : Bool) → is_empty part ≡ b → then_steps (after_part part) ls ≡ Ok end → EntrySplit Value (map_frame at pairs k) fs ls end
    by_empty true e g =
        let g' : steps (Blocks (map_frame at pairs k ∷ fs) None) ls ≡ Ok end = rw e at g in
        of_below n Value (map_frame at pairs k) fs ls end (entry_nothing e refl refl) (λ b. entry_of_block n (map_frame at pairs k) fs b.at part b.lines.below b.lines.value b.form e b.takes b.lines.is) (below_split n nested (map_frame at pairs k) fs ls end l g') g'
    by_empty false e g =
        let g' : then_steps (block_value (levels_in (map_frame at pairs k ∷ fs)) part >>= λ v. Ok (Blocks (map_frame at pairs k ∷ fs) (Some v))) ls ≡ Ok end = rw e at g in
        let b = bind_ok (block_value (levels_in (map_frame at pairs k ∷ fs)) part >>= λ v. Ok (Blocks (map_frame at pairs k ∷ fs) (Some v))) (λ next. steps next ls) end g' in
        let d = bind_ok (block_value (levels_in (map_frame at pairs k ∷ fs)) part) (λ v. Ok (Blocks (map_frame at pairs k ∷ fs) (Some v))) b.0 b.1 in
        of_value e d.0 (ap (λ q. block_value q part) (sym (levels_left n (map_frame at pairs k ∷ fs) l)) ∙ d.1) (ap (λ q. then_steps q ls) d.2 ∙ b.2)
