-- Reading a block's lines one after the other, and what is left open behind them.
use Rattle.std.proofs.Common.{◌≡◌, ℕ, ◌<◌, ◌≤◌, nat_lt, ◌==◌, Bool, true, false, if◌then◌else◌, not, ◌||◌, ◌&&◌, List, [], ◌∷◌, ◌++◌, Option, Some, None, unwrap_or, Result, Ok, Err, refl, ◌∙◌, arith}
use Rattle.std.proofs.lemmas.Bool.Decides.{nat_tests}
use Rattle.yaml_subset.specs.declared.fault.YamlCause.{YamlCause}
use Rattle.yaml_subset.specs.declared.fault.YamlCause.TheVariants.{Syntax, Indent}
use Rattle.yaml_subset.specs.declared.blocks.Place.TheVariants.{Document}
use Rattle.yaml_subset.specs.declared.stack.Frame.{Frame}
use Rattle.yaml_subset.specs.declared.blocks.State.{State}
use Rattle.yaml_subset.specs.declared.blocks.State.TheVariants.{Start, Headed, Alone, Blocks}
use Rattle.yaml_tree.specs.declared.tree.Tree.{Tree}
use Rattle.yaml_tree.specs.declared.tree.Tree.TheVariants as tree
use Rattle.yaml_subset.specs.Blocks.{misplaced, content, in_blocks, begins_block, settle, close_all, closed, is_list, top_is}
use Rattle.yaml_subset.specs.Gives.{◌>>=◌}
use Rattle.yaml_subset.specs.Grammar.{Line, Form, of_list, of_map}

-- one line more, behind the first one
abbrev pub later_step : State → Line → Result State YamlCause
later_step Start l = content 32 Document [] l.0 l.1
later_step Headed l = content 32 Document [] l.0 l.1
later_step (Alone at v) l = Err (misplaced (if at == l.0 then Syntax else Indent) l.1)
later_step (Blocks frames slot) l = in_blocks frames slot l.0 l.1

abbrev pub steps : State → List Line → Result State YamlCause
steps state [] = Ok state
steps state (l ∷ ls) = later_step state l >>= λ next. steps next ls

abbrev pub then_steps : Result State YamlCause → List Line → Result State YamlCause
then_steps r ls = r >>= λ next. steps next ls

by_step : (xs ys : List Line) → ((next : State) → steps next (xs ++ ys) ≡ then_steps (steps next xs) ys)
    → (r : Result State YamlCause) → then_steps r (xs ++ ys) ≡ then_steps (then_steps r xs) ys
by_step xs ys later (Ok next) = later next
by_step xs ys later (Err c) = refl

pub steps-append : (state : State) (xs ys : List Line) → steps state (xs ++ ys) ≡ then_steps (steps state xs) ys
steps-append state [] ys = refl
steps-append state (l ∷ ls) ys = by_step ls ys (λ next. steps-append next ls ys) (later_step state l)

pub then_steps-append : (r : Result State YamlCause) (xs ys : List Line) → then_steps r (xs ++ ys) ≡ then_steps (then_steps r xs) ys
then_steps-append (Ok next) xs ys = steps-append next xs ys
then_steps-append (Err c) xs ys = refl

-- The open blocks, with the innermost one's last value, are `fs` with v for each line that P tells of.
pub record Stands (P : ℕ → Bool → Type 0) (fs : List Frame) (v : Tree) (frames : List Frame) (slot : Option Tree) : Type 0 where
  pub closes : close_all frames (unwrap_or slot tree.Null) ≡ close_all fs v
  pub begins : (indent : ℕ) (item : Bool) → P indent item → begins_block frames slot indent item ≡ false
  pub settles : (indent : ℕ) (item : Bool) → P indent item → settle indent item frames (unwrap_or slot tree.Null) ≡ settle indent item fs v

pub stands_for : {P : ℕ → Bool → Type 0} (Q : ℕ → Bool → Type 0) {fs : List Frame} {v : Tree} {frames : List Frame} {slot : Option Tree}
    → ((indent : ℕ) (item : Bool) → Q indent item → P indent item) → Stands P fs v frames slot → Stands Q fs v frames slot
stands_for Q h s = record { closes = s.closes; begins = λ i b q. s.begins i b (h i b q); settles = λ i b q. s.settles i b (h i b q) }

abbrev pub list_form : Form → Bool
list_form of_list = true
list_form of_map = false

-- a line ends a block at this indent over these, which is a list or a map
abbrev pub ends : ℕ → Bool → List Frame → ℕ → Bool → Bool
ends at is_list fs indent item = nat_lt indent at || at == indent && is_list && not item && top_is indent fs

abbrev pub Ends : ℕ → Bool → List Frame → ℕ → Bool → Type 0
Ends at is_list fs indent item = ends at is_list fs indent item ≡ true

-- a line ends the last entry of a block at this indent
abbrev pub passes : ℕ → Bool → ℕ → Bool → Bool
passes at is_list indent item = nat_lt indent at || at == indent && (is_list || not item)

abbrev pub Passes : ℕ → Bool → ℕ → Bool → Type 0
Passes at is_list indent item = passes at is_list indent item ≡ true

weaker : (x y l n t : Bool) → x || y && l && n && t ≡ true → x || y && (l || n) ≡ true
weaker true y l n t h = refl
weaker false true true n t h = refl
weaker false true false n t h = absurd cc
weaker false false l n t h = absurd cc

pub passes-from_ends : (at : ℕ) (list : Bool) (fs : List Frame) (indent : ℕ) (item : Bool) → Ends at list fs indent item → Passes at list indent item
passes-from_ends at list fs indent item h = weaker (nat_lt indent at) (at == indent) list (not item) (top_is indent fs) h

at_key : (x y n : Bool) → x || y && (false || n) ≡ true → x || y && true && n && y ≡ true
at_key true y n h = refl
at_key false true true h = refl
at_key false true false h = h
at_key false false n h = absurd cc

-- a line that ends an entry of a map ends a list at its key's indent
pub ends-list_at_key : (f : Frame) (fs : List Frame) (indent : ℕ) (item : Bool) → Passes f.indent false indent item → Ends f.indent true (f ∷ fs) indent item
ends-list_at_key f fs indent item h = at_key (nat_lt indent f.indent) (f.indent == indent) (not item) h

or_left : (x y : Bool) → x ≡ true → x || y ≡ true
or_left x y e = rw e refl

-- a line that ends an entry stands no deeper than it
pub passes-at_most : (at : ℕ) (list : Bool) (indent : ℕ) (item : Bool) → Passes at list indent item → indent ≤ at
passes-at_most at list indent item h = grind (arith, nat_tests)

-- a line that ends an entry ends the deeper blocks in it
pub ends-deeper : (at deeper : ℕ) (list list' : Bool) (fs : List Frame) (indent : ℕ) (item : Bool) → at < deeper → Passes at list indent item → Ends deeper list' fs indent item
ends-deeper at deeper list list' fs indent item l h =
    let le = passes-at_most at list indent item h in
    let lt : nat_lt indent deeper ≡ true = grind (arith, nat_tests) in
    or_left (nat_lt indent deeper) _ lt

pub takes_none : (at : ℕ) (list : Bool) (indent : ℕ) (item : Bool) → Passes at list indent item → (nat_lt at indent || at == indent && not list && item) ≡ false
takes_none at true indent item h = let le = passes-at_most at true indent item h in grind (arith, nat_tests)
takes_none at false indent true h = grind (arith, nat_tests)
takes_none at false indent false h = let le = passes-at_most at false indent false h in grind (arith, nat_tests)

pub equal : (n : ℕ) → n == n ≡ true
equal n = grind (arith, nat_tests)

pub passes_item : (at : ℕ) (item : Bool) → Passes at true at item
passes_item at item = let same = equal at in rw same (or_true (nat_lt at at))
  where
    or_true : (b : Bool) → b || true ≡ true
    or_true true = refl
    or_true false = refl

pub passes_entry : (at : ℕ) (item : Bool) → item ≡ false → Passes at false at item
passes_entry at item e = let same = equal at in rw (same, e) (or_true (nat_lt at at))
  where
    or_true : (b : Bool) → b || true ≡ true
    or_true true = refl
    or_true false = refl

-- an entry with a value on its line
pub stands_value : (P : ℕ → Bool → Type 0) (fs : List Frame) (v : Tree) → Stands P fs v fs (Some v)
stands_value P fs v = record { closes = refl; begins = λ i b h. refl; settles = λ i b h. refl }

-- an entry with nothing
pub stands_nothing : (f : Frame) (fs : List Frame) → Stands (Passes f.indent (is_list f.open_block)) (f ∷ fs) tree.Null (f ∷ fs) None
stands_nothing f fs = record {
  closes = refl;
  begins = λ i b h. takes_none f.indent (is_list f.open_block) i b h;
  settles = λ i b h. refl;
}

pub settle_ended : (f : Frame) (fs : List Frame) (v : Tree) (indent : ℕ) (item : Bool) → Ends f.indent (is_list f.open_block) fs indent item
    → settle indent item (f ∷ fs) v ≡ settle indent item fs (closed f v)
unfolding settle
settle_ended f fs v indent item h = rw h refl

pub settle_kept : (f : Frame) (fs : List Frame) (v : Tree) (indent : ℕ) (item : Bool) → ends f.indent (is_list f.open_block) fs indent item ≡ false
    → settle indent item (f ∷ fs) v ≡ (f ∷ fs, v)
unfolding settle
settle_kept f fs v indent item h = rw h refl

pub close_one : (f : Frame) (fs : List Frame) (v : Tree) → close_all (f ∷ fs) v ≡ close_all fs (closed f v)
unfolding close_all
close_one f fs v = refl

-- a block whose last entry has ended stands as its tree
pub stands_closed : (f : Frame) (fs : List Frame) (v : Tree) (frames : List Frame) (slot : Option Tree)
    → Stands (Passes f.indent (is_list f.open_block)) (f ∷ fs) v frames slot → Stands (Ends f.indent (is_list f.open_block) fs) fs (closed f v) frames slot
stands_closed f fs v frames slot s = record {
  closes = s.closes ∙ close_one f fs v;
  begins = λ i b h. s.begins i b (passes-from_ends f.indent (is_list f.open_block) fs i b h);
  settles = λ i b h. s.settles i b (passes-from_ends f.indent (is_list f.open_block) fs i b h) ∙ settle_ended f fs v i b h;
}

-- a deeper block in an entry stands as its value
pub stands_deeper : (f : Frame) (fs : List Frame) (t : Tree) (frames : List Frame) (slot : Option Tree) (deeper : ℕ) (list : Bool) → f.indent < deeper
    → Stands (Ends deeper list (f ∷ fs)) (f ∷ fs) t frames slot → Stands (Passes f.indent (is_list f.open_block)) (f ∷ fs) t frames slot
stands_deeper f fs t frames slot deeper list l s = stands_for (Passes f.indent (is_list f.open_block)) (λ i b h. ends-deeper f.indent deeper (is_list f.open_block) list (f ∷ fs) i b l h) s

-- so does a list at the indent of the entry's key
pub stands_list_at_key : (f : Frame) (fs : List Frame) (t : Tree) (frames : List Frame) (slot : Option Tree) → is_list f.open_block ≡ false
    → Stands (Ends f.indent true (f ∷ fs)) (f ∷ fs) t frames slot → Stands (Passes f.indent (is_list f.open_block)) (f ∷ fs) t frames slot
stands_list_at_key f fs t frames slot e s = rw e (stands_for (Passes f.indent false) (λ i b h. ends-list_at_key f fs i b h) s)
