-- Reading the lines of a block leaves open what the grammar says.
use Rattle.std.proofs.Common.{◌≡◌, ℕ, zero, suc, ◌+◌, ◌-◌, ◌<◌, ◌≤◌, nat_lt, ◌==◌, Bool, true, false, not, ◌||◌, ◌&&◌, List, [], ◌∷◌, ◌++◌, length, length-append, drop, Option, Some, None, Result, Ok, refl, sym, ◌∙◌, ap, subst, arith}
use Rattle.std.proofs.lemmas.Bool.Decides.{nat_tests}
use Rattle.yaml_subset.specs.declared.fault.YamlCause.{YamlCause}
use Rattle.yaml_subset.specs.declared.scalars.Scanned.{Scanned}
use Rattle.yaml_subset.specs.declared.stack.Frame.{Frame}
use Rattle.yaml_subset.specs.declared.blocks.Place.{Place}
use Rattle.yaml_subset.specs.declared.blocks.Place.TheVariants.{Deeper, Item}
use Rattle.yaml_subset.specs.declared.blocks.State.{State}
use Rattle.yaml_subset.specs.declared.blocks.State.TheVariants.{Blocks}
use Rattle.yaml_tree.specs.declared.tree.Tree.{Tree}
use Rattle.yaml_tree.specs.declared.tree.Key.{Key}
use Rattle.yaml_tree.specs.declared.tree.Pair.{Pair}
use Rattle.yaml_subset.specs.Characters.{marks, next_part}
use Rattle.yaml_subset.specs.Scalars.{scan, key_of}
use Rattle.yaml_subset.specs.Entries.{has_key}
use Rattle.yaml_subset.specs.Flow.{with_entry}
use Rattle.yaml_subset.specs.Blocks.{list_frame, map_frame, levels_in, takes_block, behind_dash, behind_colon, block_value, content, in_blocks}
use Rattle.yaml_subset.specs.Gives.{◌>>=◌}
use Rattle.yaml_subset.specs.Grammar.{Line, Form, of_list, of_map, AreItems, AreEntries, IsBlock}
use Rattle.yaml_subset.proofs.LineValues.{value_read}
use Rattle.yaml_subset.proofs.FlowGrammar.{line_value_read}
use Rattle.yaml_subset.proofs.Steps.{steps, then_steps, then_steps-append, list_form, Passes, equal, passes_item, passes_entry}
use Rattle.yaml_subset.proofs.GrammarRead.{levels_left, starts_block, dash_is, colon_is, goes_on, part_short, next_item, next_key, key_is, scan_no_dash}
use Rattle.law_texts.specs.Opened.{OpenItem, open_item_nothing, open_item_below, open_item_value, open_item_block, OpenEntry, open_entry_nothing, open_entry_below, open_entry_list, open_entry_value, IsOpenList, IsOpenMap, Opens}
use Rattle.law_texts.proofs.LastEntries.{LastItem, last_item, item_stands, LastEntry, last_entry, entry_stands, entry_first}
use Rattle.law_texts.proofs.OpenThere.{item_open, behind_its_dash, entry_open, block_open}

abbrev pub blocks : List Frame → Option Tree → Result State YamlCause
blocks frames slot = Ok (Blocks frames slot)

-- the lines of a block are read from its first one on
pub record OpenRun (n : ℕ) (form : Form) (at : ℕ) (block : List Line) (around frames : List Frame) (slot : Option Tree) : Type 0 where
  pub first : List ℕ
  pub more : List Line
  pub split : block ≡ (at, first) ∷ more
  pub dash : marks 45 first ≡ list_form form
  pub runs : (place : Place) → then_steps (content n place around at first) more ≡ blocks frames slot

abbrev pub NestedRun : ℕ → Type 0
NestedRun n = (form : Form) (at : ℕ) (block : List Line) (around frames : List Frame) (slot : Option Tree) → Opens n form at block around frames slot → length around + n ≡ 32 → OpenRun n form at block around frames slot

no_lines : (open_ frames : List Frame) (value slot : Option Tree) (below : List Line) → below ≡ [] → frames ≡ open_ → slot ≡ value → steps (Blocks open_ value) below ≡ blocks frames slot
no_lines open_ frames value slot below b f s = ap (steps (Blocks open_ value)) b ∙ ap (λ (fs : List Frame). blocks fs value) (sym f) ∙ ap (λ (o : Option Tree). blocks frames o) (sym s)

deeper_takes : (f : Frame) (fs : List Frame) (at : ℕ) (item : Bool) → f.indent < at → takes_block (f ∷ fs) at item ≡ true
deeper_takes f fs at item l = let lt : nat_lt f.indent at ≡ true = grind (arith, nat_tests) in rw lt refl

-- a block below an entry without a value
below_runs : (n : ℕ) → NestedRun n → (f : Frame) (fs : List Frame) (form : Form) (at : ℕ) (below : List Line) (frames : List Frame) (slot : Option Tree) → length (f ∷ fs) + n ≡ 32
    → takes_block (f ∷ fs) at (list_form form) ≡ true → Opens n form at below (f ∷ fs) frames slot → steps (Blocks (f ∷ fs) None) below ≡ blocks frames slot
below_runs n nested f fs form at below frames slot l takes opens =
    let r = nested form at below (f ∷ fs) frames slot opens l in
    let takes' : takes_block (f ∷ fs) at (marks 45 r.first) ≡ true = ap (takes_block (f ∷ fs) at) r.dash ∙ takes in
    ap (steps (Blocks (f ∷ fs) None)) r.split ∙ ap (λ q. then_steps q r.more) (starts_block n f fs at r.first l takes') ∙ r.runs Deeper

-- the lines of a block go on behind those that leave it open
run_on : {n at : ℕ} {form : Form} {lines : List Line} {fs left : List Frame} {value : Option Tree} (front : List Line) (rest : List ℕ) (below : List Line) (frames : List Frame) (slot : Option Tree)
    → front ≡ lines → OpenRun n form at lines fs left value → then_steps (in_blocks left value at rest) below ≡ blocks frames slot
    → OpenRun n form at (front ++ (at, rest) ∷ below) fs frames slot
run_on {n = n} {at = at} {fs = fs} front rest below frames slot same r goes = record {
  first = r.first;
  more = r.more ++ (at, rest) ∷ below;
  split = ap (λ (ls : List Line). ls ++ (at, rest) ∷ below) (same ∙ r.split);
  dash = r.dash;
  runs = λ place. then_steps-append (content n place fs at r.first) r.more ((at, rest) ∷ below) ∙ ap (λ q. then_steps q ((at, rest) ∷ below)) (r.runs place) ∙ goes;
}

-- ---- lists

-- the last item, with the lines that belong to it
item_runs : (n : ℕ) → NestedRun n → (items : List Tree) (at : ℕ) (fs : List Frame) (rest part : List ℕ) (below : List Line) (frames : List Frame) (slot : Option Tree)
    → length (list_frame at items ∷ fs) + n ≡ 32 → next_part false (drop 1 rest) ≡ Ok part
    → OpenItem n (Opens n) at (at + (length rest - length part)) part below (list_frame at items ∷ fs) frames slot
    → then_steps (behind_dash (content n Item) (list_frame at items ∷ fs) at rest) below ≡ blocks frames slot
item_runs n nested items at fs rest part below frames slot l e (open_item_nothing p b f s) =
    ap (λ q. then_steps q below) (dash_is (content n Item) (list_frame at items ∷ fs) at rest part true e p) ∙ no_lines (list_frame at items ∷ fs) frames None slot below b f s
item_runs n nested items at fs rest part below frames slot l e (open_item_below form deeper p lt opens) =
    ap (λ q. then_steps q below) (dash_is (content n Item) (list_frame at items ∷ fs) at rest part true e p)
    ∙ below_runs n nested (list_frame at items) fs form deeper below frames slot l (deeper_takes (list_frame at items) fs deeper (list_form form) lt) opens
item_runs n nested items at fs rest part below frames slot l e (open_item_value v p b is f s) =
    ap (λ q. then_steps q below)
    (dash_is (content n Item) (list_frame at items ∷ fs) at rest part false e p ∙ value_read n Item (list_frame at items ∷ fs) (at + (length rest - length part)) part v (levels_left n (list_frame at items ∷ fs) l) (line_value_read n part v is))
    ∙ no_lines (list_frame at items ∷ fs) frames (Some v) slot below b f s
item_runs n nested items at fs rest part below frames slot l e (open_item_block form p opens) =
    let r = nested form (at + (length rest - length part)) ((at + (length rest - length part), part) ∷ below) (list_frame at items ∷ fs) frames slot opens l in
    let split = r.split in
    let line : ◌≡◌ {A = Line} (at + (length rest - length part), part) (at + (length rest - length part), r.first) = cc in
    let same : part ≡ r.first = ap (λ (l : Line). l.1) line in
    let same_below : below ≡ r.more = cc in
    ap (λ q. then_steps q below) (dash_is (content n Item) (list_frame at items ∷ fs) at rest part false e p)
    ∙ ap (λ (xs : List ℕ). then_steps (content n Item (list_frame at items ∷ fs) (at + (length rest - length part)) xs) below) same
    ∙ ap (λ (ls : List Line). then_steps (content n Item (list_frame at items ∷ fs) (at + (length rest - length part)) r.first) ls) same_below
    ∙ r.runs Item

abbrev ListRuns : ℕ → ℕ → ℕ → List Frame → Type 0
ListRuns m n at fs = (items : List Tree) (front : List Line) (rest part : List ℕ) (below : List Line) (frames : List Frame) (slot : Option Tree) → length items ≤ m
    → AreItems n (IsBlock n) at front items → marks 45 rest ≡ true → next_part false (drop 1 rest) ≡ Ok part
    → OpenItem n (Opens n) at (at + (length rest - length part)) part below (list_frame at items ∷ fs) frames slot
    → OpenRun (suc n) of_list at (front ++ (at, rest) ∷ below) fs frames slot

-- an item behind the last one
item_more : (m n : ℕ) → NestedRun n → (at : ℕ) (fs : List Frame) → length fs + suc n ≡ 32 → (items : List Tree) (front : List Line) (rest part : List ℕ) (below : List Line) (frames : List Frame) (slot : Option Tree)
    → ListRuns m n at fs → length items ≤ suc m → LastItem n at front items → marks 45 rest ≡ true → next_part false (drop 1 rest) ≡ Ok part
    → OpenItem n (Opens n) at (at + (length rest - length part)) part below (list_frame at items ∷ fs) frames slot
    → OpenRun (suc n) of_list at (front ++ (at, rest) ∷ below) fs frames slot
item_more m n nested at fs l items front rest part below frames slot earlier few last dash behind opens =
    let size : length items ≡ length (last.items ++ last.value ∷ []) = ap length last.split in
    let fewer : length last.items ≤ m = omega (arith, length-append last.items (last.value ∷ [])) in
    let column = behind_its_dash at last.item.rest last.item.part (part_short 45 last.item.rest last.item.part last.item.dash last.item.behind) in
    let w = item_open n (block_open n) last.items at fs (at + (length last.item.rest - length last.item.part)) last.item.part last.item.below last.value column last.item.value in
    let r = earlier last.items last.front last.item.rest last.item.part last.item.below w.0 w.1 fewer last.are last.item.dash last.item.behind w.2 in
    let levels : length (list_frame at (last.items ++ last.value ∷ []) ∷ fs) + n ≡ 32 = omega (arith, l) in
    let levels' : length (list_frame at items ∷ fs) + n ≡ 32 = omega (arith, l) in
    let next = goes_on (Passes at true) (list_frame at last.items) fs last.value w.0 w.1 rest w.3 (passes_item at (marks 45 rest)) (ap not dash) in
    let more = next ∙ next_item n last.items at fs last.value rest dash levels ∙ ap (λ (us : List Tree). behind_dash (content n Item) (list_frame at us ∷ fs) at rest) (sym last.split) in
    run_on front rest below frames slot (item_stands last) r (ap (λ q. then_steps q below) more ∙ item_runs n nested items at fs rest part below frames slot levels' behind opens)

list_runs : (m n : ℕ) → NestedRun n → (at : ℕ) (fs : List Frame) → length fs + suc n ≡ 32 → ListRuns m n at fs
unfolding content
list_runs m n nested at fs l [] front rest part below frames slot few are dash behind opens =
    let levels : length (list_frame at [] ∷ fs) + n ≡ 32 = omega (arith, l) in
    let begun : (place : Place) → content (suc n) place fs at rest ≡ behind_dash (content n Item) (list_frame at [] ∷ fs) at rest = λ place. rw dash refl in
    record {
      first = rest;
      more = below;
      split = ap (λ (ls : List Line). ls ++ (at, rest) ∷ below) are;
      dash = dash;
      runs = λ place. ap (λ q. then_steps q below) (begun place) ∙ item_runs n nested [] at fs rest part below frames slot levels behind opens;
    }
list_runs zero n nested at fs l (v ∷ vs) front rest part below frames slot few are dash behind opens = absurd (omega arith)
list_runs (suc m) n nested at fs l (v ∷ vs) front rest part below frames slot few are dash behind opens =
    item_more m n nested at fs l (v ∷ vs) front rest part below frames slot (list_runs m n nested at fs l) few (last_item n at vs v front are) dash behind opens

open_list_runs : (n : ℕ) → NestedRun n → (at : ℕ) (block : List Line) (fs frames : List Frame) (slot : Option Tree) → IsOpenList n (IsBlock n) (Opens n) at block fs frames slot → length fs + suc n ≡ 32
    → OpenRun (suc n) of_list at block fs frames slot
open_list_runs n nested at block fs frames slot list l =
    let few : length list.items ≤ length list.items = omega arith in
    subst (λ (ls : List Line). OpenRun (suc n) of_list at ls fs frames slot) (sym list.stands)
    (list_runs (length list.items) n nested at fs l list.items list.front list.rest list.part list.below frames slot few list.are list.dash list.behind list.last)

-- ---- maps

list_takes : (at : ℕ) (b : Bool) → b || at == at && true && true ≡ true
list_takes at true = refl
list_takes at false = let same = equal at in rw same refl

value_behind : (frames : List Frame) (n : ℕ) (part : List ℕ) (v : Tree) → length frames + n ≡ 32 → block_value n part ≡ Ok v
    → (block_value (levels_in frames) part >>= λ v. Ok (Blocks frames (Some v))) ≡ Ok (Blocks frames (Some v))
value_behind frames n part v l e = rw (levels_left n frames l, e) refl

-- the last entry, with the lines that belong to it
entry_runs : (n : ℕ) → NestedRun n → (pairs : List Pair) (k : Key) (at : ℕ) (fs : List Frame) (rest part : List ℕ) (below : List Line) (frames : List Frame) (slot : Option Tree)
    → length (map_frame at pairs k ∷ fs) + n ≡ 32 → next_part false rest ≡ Ok part
    → OpenEntry n (Opens n) at part below (map_frame at pairs k ∷ fs) frames slot
    → then_steps (behind_colon (map_frame at pairs k ∷ fs) rest) below ≡ blocks frames slot
entry_runs n nested pairs k at fs rest part below frames slot l e (open_entry_nothing p b f s) =
    ap (λ q. then_steps q below) (colon_is (map_frame at pairs k ∷ fs) rest part true e p) ∙ no_lines (map_frame at pairs k ∷ fs) frames None slot below b f s
entry_runs n nested pairs k at fs rest part below frames slot l e (open_entry_below form deeper p lt opens) =
    ap (λ q. then_steps q below) (colon_is (map_frame at pairs k ∷ fs) rest part true e p)
    ∙ below_runs n nested (map_frame at pairs k) fs form deeper below frames slot l (deeper_takes (map_frame at pairs k) fs deeper (list_form form) lt) opens
entry_runs n nested pairs k at fs rest part below frames slot l e (open_entry_list p opens) =
    ap (λ q. then_steps q below) (colon_is (map_frame at pairs k ∷ fs) rest part true e p)
    ∙ below_runs n nested (map_frame at pairs k) fs of_list at below frames slot l (list_takes at (nat_lt at at)) opens
entry_runs n nested pairs k at fs rest part below frames slot l e (open_entry_value v p b is f s) =
    ap (λ q. then_steps q below) (colon_is (map_frame at pairs k ∷ fs) rest part false e p ∙ value_behind (map_frame at pairs k ∷ fs) n part v l (line_value_read n part v is))
    ∙ no_lines (map_frame at pairs k ∷ fs) frames (Some v) slot below b f s

abbrev MapRuns : ℕ → ℕ → ℕ → List Frame → Type 0
MapRuns m n at fs = (pairs : List Pair) (key : Key) (front : List Line) (rest : List ℕ) (scanned : Scanned) (after part : List ℕ) (below : List Line) (frames : List Frame) (slot : Option Tree) → length pairs ≤ m
    → AreEntries n (IsBlock n) at [] front pairs → scan false rest ≡ Ok (scanned, after) → marks 58 after ≡ true → key_of scanned ≡ Ok key → has_key pairs key ≡ false
    → next_part false (drop 1 after) ≡ Ok part → OpenEntry n (Opens n) at part below (map_frame at pairs key ∷ fs) frames slot
    → OpenRun (suc n) of_map at (front ++ (at, rest) ∷ below) fs frames slot

-- an entry behind the last one
entry_more : (m n : ℕ) → NestedRun n → (at : ℕ) (fs : List Frame) → length fs + suc n ≡ 32 → (pairs : List Pair) (key : Key) (front : List Line) (rest : List ℕ) (scanned : Scanned) (after part : List ℕ) (below : List Line) (frames : List Frame) (slot : Option Tree)
    → MapRuns m n at fs → length pairs ≤ suc m → LastEntry n at [] front pairs → scan false rest ≡ Ok (scanned, after) → marks 58 after ≡ true → key_of scanned ≡ Ok key → has_key pairs key ≡ false
    → next_part false (drop 1 after) ≡ Ok part → OpenEntry n (Opens n) at part below (map_frame at pairs key ∷ fs) frames slot
    → OpenRun (suc n) of_map at (front ++ (at, rest) ∷ below) fs frames slot
entry_more m n nested at fs l pairs key front rest scanned after part below frames slot earlier few last scalar colon keyed first behind opens =
    let size : length pairs ≡ length (last.pairs ++ last.pair ∷ []) = ap length last.split in
    let fewer : length last.pairs ≤ m = omega (arith, length-append last.pairs (last.pair ∷ [])) in
    let w = entry_open n (block_open n) last.pairs last.pair.key at fs last.entry.part last.entry.below last.pair.value last.entry.value in
    let r = earlier last.pairs last.pair.key last.front last.entry.rest last.entry.scanned last.entry.after last.entry.part last.entry.below w.0 w.1 fewer last.are last.entry.scalar last.entry.colon last.entry.key (entry_first last) last.entry.behind w.2 in
    let levels : length (map_frame at pairs key ∷ fs) + n ≡ 32 = omega (arith, l) in
    let dash = scan_no_dash rest scanned after scalar in
    let next = goes_on (Passes at false) (map_frame at last.pairs last.pair.key) fs last.pair.value w.0 w.1 rest w.3 (passes_entry at (marks 45 rest) dash) refl in
    let new : has_key (with_entry last.pairs last.pair.key last.pair.value) key ≡ false = ap (λ (ps : List Pair). has_key ps key) (sym last.split) ∙ first in
    let more = next ∙ next_key at last.pairs last.pair.key last.pair.value fs rest scanned after key scalar colon keyed new
    ∙ ap (λ (ps : List Pair). behind_colon (map_frame at ps key ∷ fs) (drop 1 after)) (sym last.split) in
    run_on front rest below frames slot (entry_stands last) r (ap (λ q. then_steps q below) more ∙ entry_runs n nested pairs key at fs (drop 1 after) part below frames slot levels behind opens)

map_runs : (m n : ℕ) → NestedRun n → (at : ℕ) (fs : List Frame) → length fs + suc n ≡ 32 → MapRuns m n at fs
map_runs m n nested at fs l [] key front rest scanned after part below frames slot few are scalar colon keyed first behind opens =
    let levels : length (map_frame at [] key ∷ fs) + n ≡ 32 = omega (arith, l) in
    record {
      first = rest;
      more = below;
      split = ap (λ (ls : List Line). ls ++ (at, rest) ∷ below) are;
      dash = scan_no_dash rest scanned after scalar;
      runs = λ place. ap (λ q. then_steps q below) (key_is n place fs at rest scanned after key l scalar colon keyed) ∙ entry_runs n nested [] key at fs (drop 1 after) part below frames slot levels behind opens;
    }
map_runs zero n nested at fs l (p ∷ ps) key front rest scanned after part below frames slot few are scalar colon keyed first behind opens = absurd (omega arith)
map_runs (suc m) n nested at fs l (p ∷ ps) key front rest scanned after part below frames slot few are scalar colon keyed first behind opens =
    entry_more m n nested at fs l (p ∷ ps) key front rest scanned after part below frames slot (map_runs m n nested at fs l) few (last_entry n at [] ps p front are) scalar colon keyed first behind opens

open_map_runs : (n : ℕ) → NestedRun n → (at : ℕ) (block : List Line) (fs frames : List Frame) (slot : Option Tree) → IsOpenMap n (IsBlock n) (Opens n) at block fs frames slot → length fs + suc n ≡ 32
    → OpenRun (suc n) of_map at block fs frames slot
open_map_runs n nested at block fs frames slot m l =
    let few : length m.pairs ≤ length m.pairs = omega arith in
    subst (λ (ls : List Line). OpenRun (suc n) of_map at ls fs frames slot) (sym m.stands)
    (map_runs (length m.pairs) n nested at fs l m.pairs m.key m.front m.rest m.scanned m.after m.part m.below frames slot few m.are m.scalar m.colon m.keyed m.first m.behind m.last)

-- ---- blocks

pub open_runs : (n : ℕ) → NestedRun n
open_runs zero form at block fs frames slot opens l = absurd opens
open_runs (suc n) of_list at block fs frames slot opens l = open_list_runs n (open_runs n) at block fs frames slot opens l
open_runs (suc n) of_map at block fs frames slot opens l = open_map_runs n (open_runs n) at block fs frames slot opens l
