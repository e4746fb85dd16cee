-- What is read is of the grammar: the blocks.
use Rattle.std.proofs.Common.{◌≡◌, ◌⊎◌, inl, inr, ℕ, zero, suc, ◌+◌, ◌-◌, ◌≤◌, nat_lt, nat_le, ◌==◌, Bool, true, false, not, ◌||◌, ◌&&◌, List, [], ◌∷◌, ◌++◌, length, length-append, drop, Option, Ok, Err, refl, sym, ◌∙◌, ap, subst, arith, append_assoc}
use Rattle.std.proofs.lemmas.Bool.Decides.{nat_tests}
use Rattle.yaml_subset.specs.declared.fault.YamlCause.TheVariants.{TooDeep}
use Rattle.yaml_subset.specs.declared.stack.Open.TheVariants as open_
use Rattle.yaml_subset.specs.declared.stack.Frame.{Frame}
use Rattle.yaml_subset.specs.declared.blocks.Place.{Place}
use Rattle.yaml_subset.specs.declared.blocks.Place.TheVariants.{Item}
use Rattle.yaml_subset.specs.declared.blocks.State.{State}
use Rattle.yaml_subset.specs.declared.blocks.State.TheVariants.{Blocks}
use Rattle.yaml_tree.specs.declared.tree.Tree.{Tree}
use Rattle.yaml_tree.specs.declared.tree.Tree.TheVariants as tree
use Rattle.yaml_tree.specs.declared.tree.Key.{Key}
use Rattle.yaml_tree.specs.declared.tree.Pair.{Pair}
use Rattle.yaml_subset.specs.Characters.{marks, next_part}
use Rattle.yaml_subset.specs.Scalars.{key_of}
use Rattle.yaml_subset.specs.Entries.{has_key}
use Rattle.yaml_subset.specs.Flow.{entry_key, with_entry}
use Rattle.yaml_subset.specs.Blocks.{list_frame, map_frame, top_is, in_blocks, go_on, no_item, next_entry, behind_dash, behind_colon, content, first_key}
use Rattle.yaml_subset.specs.Gives.{◌>>=◌}
use Rattle.yaml_subset.specs.Grammar.{Line, of_list, of_map, ItemValue, EntryValue, AreItems, AreEntries, IsBlock}
use Rattle.yaml_subset.proofs.BlockLaws.{content_value}
use Rattle.yaml_subset.proofs.LineValues.{bind_ok, same, IsKey, IsValue, value_split, key_found}
use Rattle.yaml_subset.proofs.Steps.{steps, then_steps, Stands, Ends, ends, Passes, stands_closed}
use Rattle.yaml_subset.proofs.GrammarRead.{levels_left, next_item, scan_no_dash, few}
use Rattle.yaml_subset.proofs.GrammarSplits.{Stops, BlockSplit, NestedSplits, EntrySplit, rests, item_split, entry_split}
use Rattle.yaml_subset.specs.FlowFaults.{IsNewKey}

-- the lines that are read behind some items of a list: further items, and more
record ItemsSplit (n at : ℕ) (fs : List Frame) (items : List Tree) (v : Tree) (ls : List Line) (end : State) : Type 0 where
  pub values : List Tree
  pub below : List Line
  pub more : List Line
  pub frames : List Frame
  pub slot : Option Tree
  pub split : ls ≡ below ++ more
  pub are : AreItems n (IsBlock n) at below values
  pub stands : Stands (Ends at true fs) fs (tree.List (items ++ v ∷ values)) frames slot
  pub runs : steps (Blocks frames slot) more ≡ Ok end
  pub stops : Stops (Ends at true fs) more

abbrev ItemsLater : ℕ → ℕ → ℕ → List Frame → State → Type 0
ItemsLater m n at fs end = (items : List Tree) (v : Tree) (frames : List Frame) (slot : Option Tree) (ls : List Line) → length ls ≤ m
    → Stands (Passes at true) (list_frame at items ∷ fs) v frames slot → Stops (Passes at true) ls → steps (Blocks frames slot) ls ≡ Ok end → ItemsSplit n at fs items v ls end

here_if : (x y l n t : Bool) → x || y && (l || n) ≡ true → x || y && l && n && t ≡ false → y ≡ true
here_if true y l n t h g = absurd cc
here_if false true l n t h g = refl
here_if false false l n t h g = absurd cc

go_on_here : (f : Frame) (fs : List Frame) (v : Tree) (indent : ℕ) (rest : List ℕ) → f.indent == indent ≡ true → go_on (f ∷ fs, v) indent rest ≡ next_entry f.open_block fs f.indent v rest
unfolding go_on
go_on_here f fs v indent rest h = rw h (ap (λ i. next_entry f.open_block fs i v rest) (sym (same f.indent indent h)))

shorter : (ls below more : List Line) (m : ℕ) → ls ≡ below ++ more → length ls ≤ m → length more ≤ m
shorter ls below more m e h = let l : length ls ≡ length (below ++ more) = ap length e in omega (arith, length-append below more)

joined : (ls below more below' more' : List Line) → ls ≡ below ++ more → more ≡ below' ++ more' → ls ≡ (below ++ below') ++ more'
joined ls below more below' more' e g = e ∙ ap (λ xs. below ++ xs) g ∙ sym (append_assoc below below' more')

items_step : (m n : ℕ) → NestedSplits n → (at : ℕ) (fs : List Frame) → length fs + suc n ≡ 32 → (items : List Tree) (v : Tree) (frames : List Frame) (slot : Option Tree) (indent : ℕ) (rest : List ℕ) (ls : List Line) (end : State)
    → ItemsLater m n at fs end → length ls ≤ m → Stands (Passes at true) (list_frame at items ∷ fs) v frames slot → Passes at true indent (marks 45 rest)
    → ends at true fs indent (marks 45 rest) ≡ false → steps (Blocks frames slot) ((indent, rest) ∷ ls) ≡ Ok end → ItemsSplit n at fs items v ((indent, rest) ∷ ls) end
items_step m n nested at fs l items v frames slot indent rest ls end later few s p stays r = by_mark (marks 45 rest) refl
  where
    here : at == indent ≡ true
    here = here_if (nat_lt indent at) (at == indent) true (not (marks 45 rest)) (top_is indent fs) p stays

    next : in_blocks frames slot indent rest ≡ next_entry (open_.List items) fs at v rest
    next = rests (Passes at true) (list_frame at items) fs v frames slot indent rest s p stays ∙ go_on_here (list_frame at items) fs v indent rest here

    levels : length (list_frame at (items ++ v ∷ []) ∷ fs) + n ≡ 32
    levels = omega (arith, l)

    Value : List ℕ → List Line → Tree → Type 0
    Value part = ItemValue n (IsBlock n) at (at + (length rest - length part)) part

    joins : marks 45 rest ≡ true → (part : List ℕ) → next_part false (drop 1 rest) ≡ Ok part → (e : EntrySplit (Value part) (list_frame at (items ++ v ∷ [])) fs ls end)
        → ItemsSplit n at fs (items ++ v ∷ []) e.value e.more end → ItemsSplit n at fs items v ((indent, rest) ∷ ls) end
    joins dash part behind e w = record {
      values = e.value ∷ w.values;
      below = (at, rest) ∷ e.below ++ w.below;
      more = w.more;
      frames = w.frames;
      slot = w.slot;
      split = ap (λ (i : ℕ). (i, rest) ∷ ls) (sym (same at indent here)) ∙ ap (λ xs. (at, rest) ∷ xs) (joined ls e.below e.more w.below w.more e.split w.split);
      are = (w.below, record { rest = rest; part = part; below = e.below; stands = refl; dash = dash; behind = behind; value = e.is }, w.are);
      stands = subst (λ us. Stands (Ends at true fs) fs (tree.List us) w.frames w.slot) (append_assoc items (v ∷ []) (e.value ∷ w.values)) w.stands;
      runs = w.runs;
      stops = w.stops;
    }

    by_mark : (b : Bool) → marks 45 rest ≡ b → ItemsSplit n at fs items v ((indent, rest) ∷ ls) end
    by_mark true dash =
        let r' : then_steps (behind_dash (content n Item) (list_frame at (items ++ v ∷ []) ∷ fs) at rest) ls ≡ Ok end = ap (λ q. then_steps q ls) (sym (next ∙ next_item n items at fs v rest dash levels)) ∙ r in
        let i = item_split n nested (items ++ v ∷ []) at fs rest ls end levels dash r' in
        let e = i.2 in
        joins dash i.0 i.1 e (later (items ++ v ∷ []) e.value e.frames e.slot e.more (shorter ls e.below e.more m e.split few) e.stands e.stops e.runs)
    by_mark false dash =
        let none : next_entry (open_.List items) fs at v rest ≡ Err (no_item rest) = rw dash refl in
        let bad : Err (no_item rest) ≡ Ok end = ap (λ q. then_steps q ls) (sym (next ∙ none)) ∙ r in
        absurd cc

-- no further one is read where the block ends
items_ended : (n at : ℕ) (fs : List Frame) (items : List Tree) (v : Tree) (frames : List Frame) (slot : Option Tree) (ls : List Line) (end : State) → Stands (Passes at true) (list_frame at items ∷ fs) v frames slot
    → steps (Blocks frames slot) ls ≡ Ok end → Stops (Ends at true fs) ls → ItemsSplit n at fs items v ls end
items_ended n at fs items v frames slot ls end s r stops = record {
  values = [];
  below = [];
  more = ls;
  frames = frames;
  slot = slot;
  split = refl;
  are = refl;
  stands = stands_closed (list_frame at items) fs v frames slot s;
  runs = r;
  stops = stops;
}

items_split : (m n : ℕ) → NestedSplits n → (at : ℕ) (fs : List Frame) (end : State) → length fs + suc n ≡ 32 → ItemsLater m n at fs end
items_split m n nested at fs end l items v frames slot [] few s p r = items_ended n at fs items v frames slot [] end s r tt
items_split zero n nested at fs end l items v frames slot (line ∷ ls) few s p r = absurd (omega arith)
items_split (suc m) n nested at fs end l items v frames slot (line ∷ ls) few s p r = by_end (ends at true fs line.0 (marks 45 line.1)) refl (items_split m n nested at fs end l)
  where
    by_end : (b : Bool) → ends at true fs line.0 (marks 45 line.1) ≡ b → ItemsLater m n at fs end → ItemsSplit n at fs items v (line ∷ ls) end
    by_end true e later = items_ended n at fs items v frames slot (line ∷ ls) end s r e
    by_end false e later = items_step m n nested at fs l items v frames slot line.0 line.1 ls end later (omega arith) s p e r

-- a block list that is read
list_split : (n : ℕ) → NestedSplits n → (place : Place) (fs : List Frame) (at : ℕ) (first : List ℕ) (ls : List Line) (end : State) → length fs + suc n ≡ 32
    → marks 45 first ≡ true → then_steps (content (suc n) place fs at first) ls ≡ Ok end → BlockSplit (suc n) at first ls fs end
unfolding content
list_split n nested place fs at first ls end l dash r =
    let levels : length (list_frame at [] ∷ fs) + n ≡ 32 = omega (arith, l) in
    let begun : content (suc n) place fs at first ≡ behind_dash (content n Item) (list_frame at [] ∷ fs) at first = rw dash refl in
    let r' : then_steps (behind_dash (content n Item) (list_frame at [] ∷ fs) at first) ls ≡ Ok end = ap (λ q. then_steps q ls) (sym begun) ∙ r in
    let i = item_split n nested [] at fs first ls end levels dash r' in
    let e = i.2 in
    let w = items_split (length e.more) n nested at fs end l [] e.value e.frames e.slot e.more (omega arith) e.stands e.stops e.runs in
    record {
      form = of_list;
      tree = tree.List (e.value ∷ w.values);
      below = e.below ++ w.below;
      more = w.more;
      frames = w.frames;
      slot = w.slot;
      split = joined ls e.below e.more w.below w.more e.split w.split;
      dash = dash;
      block = record { item = e.value; items = w.values; is = refl; are = (w.below, record { rest = first; part = i.0; below = e.below; stands = refl; dash = dash; behind = i.1; value = e.is }, w.are) };
      stands = w.stands;
      runs = w.runs;
      stops = w.stops;
    }

-- the lines that are read behind some entries of a map: further entries, and more
record EntriesSplit (n at : ℕ) (fs : List Frame) (pairs : List Pair) (k : Key) (v : Tree) (ls : List Line) (end : State) : Type 0 where
  pub later : List Pair
  pub below : List Line
  pub more : List Line
  pub frames : List Frame
  pub slot : Option Tree
  pub split : ls ≡ below ++ more
  pub are : AreEntries n (IsBlock n) at (with_entry pairs k v) below later
  pub stands : Stands (Ends at false fs) fs (tree.Map (pairs ++ (record { key = k; value = v }) ∷ later)) frames slot
  pub runs : steps (Blocks frames slot) more ≡ Ok end
  pub stops : Stops (Ends at false fs) more

abbrev EntriesLater : ℕ → ℕ → ℕ → List Frame → State → Type 0
EntriesLater m n at fs end = (pairs : List Pair) (k : Key) (v : Tree) (frames : List Frame) (slot : Option Tree) (ls : List Line) → length ls ≤ m
    → Stands (Passes at false) (map_frame at pairs k ∷ fs) v frames slot → Stops (Passes at false) ls → steps (Blocks frames slot) ls ≡ Ok end → EntriesSplit n at fs pairs k v ls end

entries_step : (m n : ℕ) → NestedSplits n → (at : ℕ) (fs : List Frame) → length fs + suc n ≡ 32 → (pairs : List Pair) (k : Key) (v : Tree) (frames : List Frame) (slot : Option Tree) (indent : ℕ) (rest : List ℕ) (ls : List Line) (end : State)
    → EntriesLater m n at fs end → length ls ≤ m → Stands (Passes at false) (map_frame at pairs k ∷ fs) v frames slot → Passes at false indent (marks 45 rest)
    → ends at false fs indent (marks 45 rest) ≡ false → steps (Blocks frames slot) ((indent, rest) ∷ ls) ≡ Ok end → EntriesSplit n at fs pairs k v ((indent, rest) ∷ ls) end
entries_step m n nested at fs l pairs k v frames slot indent rest ls end later few s p stays r =
    joins key.0 read e.0 e.1 e.2 (later before key.0 e.2.value e.2.frames e.2.slot e.2.more (shorter ls e.2.below e.2.more m e.2.split few) e.2.stands e.2.stops e.2.runs)
  where
    before : List Pair
    before = with_entry pairs k v

    here : at == indent ≡ true
    here = here_if (nat_lt indent at) (at == indent) false (not (marks 45 rest)) (top_is indent fs) p stays

    next : in_blocks frames slot indent rest ≡ (entry_key false before rest >>= λ entry. behind_colon (map_frame at before entry.0 ∷ fs) entry.1)
    next = rests (Passes at false) (map_frame at pairs k) fs v frames slot indent rest s p stays ∙ go_on_here (map_frame at pairs k) fs v indent rest here

    levels : (key : Key) → length (map_frame at before key ∷ fs) + n ≡ 32
    levels key = omega (arith, l)

    both : (entry : Key × List ℕ) × (entry_key false before rest ≡ Ok entry) × (then_steps (behind_colon (map_frame at before entry.0 ∷ fs) entry.1) ls ≡ Ok end)
    both =
        let b = bind_ok (entry_key false before rest >>= λ entry. behind_colon (map_frame at before entry.0 ∷ fs) entry.1) (λ next. steps next ls) end (ap (λ q. then_steps q ls) (sym next) ∙ r) in
        let d = bind_ok (entry_key false before rest) (λ entry. behind_colon (map_frame at before entry.0 ∷ fs) entry.1) b.0 b.1 in
        (d.0, d.1, ap (λ q. then_steps q ls) d.2 ∙ b.2)

    key : Key × List ℕ
    key = both.0

    read : IsNewKey false before rest key.0 key.1
    read = key_found false before rest key.0 key.1 both.1

    e : (part : List ℕ) × (next_part false (drop 1 read.colon_at) ≡ Ok part) × EntrySplit (EntryValue n (IsBlock n) at part) (map_frame at before key.0) fs ls end
    e = entry_split n nested before key.0 at fs (drop 1 read.colon_at) ls end (levels key.0) (ap (λ xs. then_steps (behind_colon (map_frame at before key.0 ∷ fs) xs) ls) (sym read.behind) ∙ both.2)

    joins : (k' : Key) (read : IsNewKey false before rest key.0 key.1) (part : List ℕ) → next_part false (drop 1 read.colon_at) ≡ Ok part → (e : EntrySplit (EntryValue n (IsBlock n) at part) (map_frame at before key.0) fs ls end)
        → EntriesSplit n at fs before key.0 e.value e.more end → EntriesSplit n at fs pairs k v ((indent, rest) ∷ ls) end
    joins k' read part behind e w = record {
      later = (record { key = key.0; value = e.value }) ∷ w.later;
      below = (at, rest) ∷ e.below ++ w.below;
      more = w.more;
      frames = w.frames;
      slot = w.slot;
      split = ap (λ (i : ℕ). (i, rest) ∷ ls) (sym (same at indent here)) ∙ ap (λ xs. (at, rest) ∷ xs) (joined ls e.below e.more w.below w.more e.split w.split);
      are = (w.below, record { rest = rest; scanned = read.scanned; after = read.colon_at; part = part; below = e.below; stands = refl; scalar = read.scalar; colon = read.colon; key = read.key; first = read.first; behind = behind; value = e.is }, w.are);
      stands = subst (λ us. Stands (Ends at false fs) fs (tree.Map us) w.frames w.slot) (append_assoc pairs ((record { key = k; value = v }) ∷ []) ((record { key = key.0; value = e.value }) ∷ w.later)) w.stands;
      runs = w.runs;
      stops = w.stops;
    }

-- no further one is read where the block ends
entries_ended : (n at : ℕ) (fs : List Frame) (pairs : List Pair) (k : Key) (v : Tree) (frames : List Frame) (slot : Option Tree) (ls : List Line) (end : State) → Stands (Passes at false) (map_frame at pairs k ∷ fs) v frames slot
    → steps (Blocks frames slot) ls ≡ Ok end → Stops (Ends at false fs) ls → EntriesSplit n at fs pairs k v ls end
entries_ended n at fs pairs k v frames slot ls end s r stops = record {
  later = [];
  below = [];
  more = ls;
  frames = frames;
  slot = slot;
  split = refl;
  are = refl;
  stands = stands_closed (map_frame at pairs k) fs v frames slot s;
  runs = r;
  stops = stops;
}

entries_split : (m n : ℕ) → NestedSplits n → (at : ℕ) (fs : List Frame) (end : State) → length fs + suc n ≡ 32 → EntriesLater m n at fs end
entries_split m n nested at fs end l pairs k v frames slot [] few s p r = entries_ended n at fs pairs k v frames slot [] end s r tt
entries_split zero n nested at fs end l pairs k v frames slot (line ∷ ls) few s p r = absurd (omega arith)
entries_split (suc m) n nested at fs end l pairs k v frames slot (line ∷ ls) few s p r = by_end (ends at false fs line.0 (marks 45 line.1)) refl (entries_split m n nested at fs end l)
  where
    by_end : (b : Bool) → ends at false fs line.0 (marks 45 line.1) ≡ b → EntriesLater m n at fs end → EntriesSplit n at fs pairs k v (line ∷ ls) end
    by_end true e later = entries_ended n at fs pairs k v frames slot (line ∷ ls) end s r e
    by_end false e later = entries_step m n nested at fs l pairs k v frames slot line.0 line.1 ls end later (omega arith) s p e r

-- a block map that is read
map_split : (n : ℕ) → NestedSplits n → (fs : List Frame) (at : ℕ) (first : List ℕ) (ls : List Line) (end : State) → length fs + suc n ≡ 32
    → IsKey fs at first (λ next. steps next ls) end → BlockSplit (suc n) at first ls fs end
unfolding first_key has_key
map_split n nested fs at first ls end l k = of_entries (entries_split (length e.more) n nested at fs end l [] key e.value e.frames e.slot e.more (omega arith) e.stands e.stops e.runs)
  where
    keyed : (key : Key) × (key_of k.scanned ≡ Ok key) × (then_steps (behind_colon (map_frame at [] key ∷ fs) (drop 1 k.after)) ls ≡ Ok end)
    keyed =
        let f : nat_le 32 (length fs) ≡ false = few n (length fs) l in
        let g : then_steps (key_of k.scanned >>= λ key. behind_colon (map_frame at [] key ∷ fs) (drop 1 k.after)) ls ≡ Ok end = rw f at k.runs in
        let b = bind_ok (key_of k.scanned >>= λ key. behind_colon (map_frame at [] key ∷ fs) (drop 1 k.after)) (λ next. steps next ls) end g in
        let d = bind_ok (key_of k.scanned) (λ key. behind_colon (map_frame at [] key ∷ fs) (drop 1 k.after)) b.0 b.1 in
        (d.0, d.1, ap (λ q. then_steps q ls) d.2 ∙ b.2)

    key : Key
    key = keyed.0

    levels : length (map_frame at [] key ∷ fs) + n ≡ 32
    levels = omega (arith, l)

    i : (part : List ℕ) × (next_part false (drop 1 k.after) ≡ Ok part) × EntrySplit (EntryValue n (IsBlock n) at part) (map_frame at [] key) fs ls end
    i = entry_split n nested [] key at fs (drop 1 k.after) ls end levels keyed.2

    e : EntrySplit (EntryValue n (IsBlock n) at i.0) (map_frame at [] key) fs ls end
    e = i.2

    of_entries : EntriesSplit n at fs [] key e.value e.more end → BlockSplit (suc n) at first ls fs end
    of_entries w = record {
      form = of_map;
      tree = tree.Map ((record { key = key; value = e.value }) ∷ w.later);
      below = e.below ++ w.below;
      more = w.more;
      frames = w.frames;
      slot = w.slot;
      split = joined ls e.below e.more w.below w.more e.split w.split;
      dash = scan_no_dash first k.scanned k.after k.scan;
      block = record { pair = record { key = key; value = e.value }; pairs = w.later; is = refl; are = (w.below, record { rest = first; scanned = k.scanned; after = k.after; part = i.0; below = e.below; stands = refl; scalar = k.scan; colon = k.colon; key = keyed.1; first = refl; behind = i.1; value = e.is }, w.are) };
      stands = w.stands;
      runs = w.runs;
      stops = w.stops;
    }

too_deep : (fs : List Frame) (at : ℕ) (first : List ℕ) (ls : List Line) (end : State) → length fs + 0 ≡ 32 → IsKey fs at first (λ next. steps next ls) end → ⊥
unfolding first_key
too_deep fs at first ls end l k =
    let f : nat_le 32 (length fs) ≡ true = grind (arith, nat_tests) in
    let g : Err TooDeep ≡ Ok end = rw f at k.runs in
    cc

-- what begins at a column is a value on one line or a block
pub block_split : (n : ℕ) → NestedSplits n
unfolding content
block_split zero place fs at first ls end l r = by_dash (marks 45 first) refl
  where
    no_key : IsValue zero place fs at first (λ next. steps next ls) end ⊎ IsKey fs at first (λ next. steps next ls) end → IsValue zero place fs at first (λ next. steps next ls) end ⊎ BlockSplit zero at first ls fs end
    no_key (inl v) = inl v
    no_key (inr k) = absurd (too_deep fs at first ls end l k)

    by_dash : (b : Bool) → marks 45 first ≡ b → IsValue zero place fs at first (λ next. steps next ls) end ⊎ BlockSplit zero at first ls fs end
    by_dash true d = let q : Err TooDeep ≡ Ok end = rw d at r in absurd cc
    by_dash false d = no_key (value_split zero place fs at first (λ next. steps next ls) end (levels_left zero fs l) (ap (λ q. then_steps q ls) (sym (content_value zero place fs at first d)) ∙ r))
block_split (suc n) place fs at first ls end l r = by_dash (marks 45 first) refl (block_split n)
  where
    with_key : NestedSplits n → IsValue (suc n) place fs at first (λ next. steps next ls) end ⊎ IsKey fs at first (λ next. steps next ls) end
        → IsValue (suc n) place fs at first (λ next. steps next ls) end ⊎ BlockSplit (suc n) at first ls fs end
    with_key nested (inl v) = inl v
    with_key nested (inr k) = inr (map_split n nested fs at first ls end l k)

    by_dash : (b : Bool) → marks 45 first ≡ b → NestedSplits n → IsValue (suc n) place fs at first (λ next. steps next ls) end ⊎ BlockSplit (suc n) at first ls fs end
    by_dash true d nested = inr (list_split n nested place fs at first ls end l d r)
    by_dash false d nested = with_key nested (value_split (suc n) place fs at first (λ next. steps next ls) end (levels_left (suc n) fs l) (ap (λ q. then_steps q ls) (sym (content_value (suc n) place fs at first d)) ∙ r))
