-- The tests of open blocks and of lines find what is there.
use Rattle.std.proofs.Common.{◌≡◌, ◌⊎◌, inl, inr, ℕ, nat_lt, ◌==◌, Bool, true, false, not, ◌||◌, ◌&&◌, List, [], ◌∷◌, Option, Some, None, refl, sym, ◌∙◌, ap, arith, true≢false}
use Rattle.std.proofs.lemmas.Bool.Decides.{nat_tests}
use Rattle.yaml_tree.specs.declared.tree.Tree.{Tree}
use Rattle.yaml_tree.specs.declared.tree.Key.{Key}
use Rattle.yaml_tree.specs.declared.tree.Pair.{Pair}
use Rattle.yaml_subset.specs.declared.stack.Open.{Open}
use Rattle.yaml_subset.specs.declared.stack.Open.TheVariants as open_
use Rattle.yaml_subset.specs.declared.stack.Frame.{Frame}
use Rattle.yaml_subset.specs.declared.blocks.State.{State}
use Rattle.yaml_subset.specs.declared.blocks.State.TheVariants.{Start, Headed, Alone, Blocks}
use Rattle.yaml_subset.specs.Characters.{at_gap}
use Rattle.yaml_subset.specs.Blocks.{begins_block, ends_block, is_list, is_marker, is_start, takes_block, top_is}
use Rattle.yaml_subset.proofs.LineValues.{same}
use Rattle.yaml_subset.proofs.Steps.{equal}
use Rattle.law_texts.specs.Blocks.{IsBegunAt, IsBelow, IsEndedAt, IsInnermost, IsMarker}
use Rattle.law_texts.proofs.KeyLaws.{or_true}

is_number : (m n : ℕ) → m ≡ n → m == n ≡ true
is_number m n e = ap (λ (k : ℕ). k == n) e ∙ equal n

all_four : (a b c d : Bool) → a && b && c && d ≡ true → (a ≡ true) × (b ≡ true) × (c ≡ true) × (d ≡ true)
all_four true true true d h = (refl, refl, refl, h)
all_four false b c d h = absurd cc
all_four true false c d h = absurd cc
all_four true true false d h = absurd cc

all_three : (a b c : Bool) → a && b && c ≡ true → (a ≡ true) × (b ≡ true) × (c ≡ true)
all_three true true c h = (refl, refl, h)
all_three false b c h = absurd cc
all_three true false c h = absurd cc

not_so : (b : Bool) → not b ≡ true → b ≡ false
not_so true h = absurd cc
not_so false h = refl

-- ---- markers

gap_found : (rest : List ℕ) → at_gap rest ≡ true → (rest ≡ []) ⊎ ((more : List ℕ) × (rest ≡ 32 ∷ more))
gap_found [] h = inl refl
gap_found (x ∷ xs) h = inr (xs, ap (λ (c : ℕ). c ∷ xs) (same x 32 h))

pub marker_found : (c : ℕ) (line : List ℕ) → is_marker c line ≡ true → IsMarker c line
marker_found c [] h = absurd cc
marker_found c (x ∷ []) h = let p = all_four (x == c) false false true h in absurd (true≢false (sym p.1))
marker_found c (x ∷ y ∷ []) h = let p = all_four (x == c) (y == c) false true h in absurd (true≢false (sym p.2))
marker_found c (x ∷ y ∷ z ∷ rest) h = by_gap (gap_found rest p.3)
  where
    p : (x == c ≡ true) × (y == c ≡ true) × (z == c ≡ true) × (at_gap rest ≡ true)
    p = all_four (x == c) (y == c) (z == c) (at_gap rest) h

    three : (more : List ℕ) → rest ≡ more → x ∷ y ∷ z ∷ rest ≡ c ∷ c ∷ c ∷ more
    three more e = let first = same x c p.0 in let second = same y c p.1 in let third = same z c p.2 in cc

    by_gap : (rest ≡ []) ⊎ ((more : List ℕ) × (rest ≡ 32 ∷ more)) → IsMarker c (x ∷ y ∷ z ∷ rest)
    by_gap (inl e) = inl (three [] e)
    by_gap (inr w) = inr (w.0, three (32 ∷ w.0) w.1)

pub marker_there : (c : ℕ) (line : List ℕ) → IsMarker c line → is_marker c line ≡ true
marker_there c line (inl e) = ap (is_marker c) e ∙ (let one = equal c in rw one refl)
marker_there c line (inr w) = ap (is_marker c) w.1 ∙ (let one = equal c in rw one refl)

pub start_found : (state : State) → is_start state ≡ true → state ≡ Start
start_found Start h = refl
start_found Headed h = absurd cc
start_found (Alone at v) h = absurd cc
start_found (Blocks frames slot) h = absurd cc

pub start_there : (state : State) → state ≡ Start → is_start state ≡ true
start_there state e = ap is_start e

-- ---- blocks

list_found : (o : Open) → is_list o ≡ true → (items : List Tree) × (o ≡ open_.List items)
list_found (open_.List items) h = (items, refl)
list_found (open_.Map pairs k) h = absurd cc

map_found : (o : Open) → not (is_list o) ≡ true → (pairs : List Pair) × (k : Key) × (o ≡ open_.Map pairs k)
map_found (open_.List items) h = absurd cc
map_found (open_.Map pairs k) h = (pairs, k, refl)

pub top_found : (indent : ℕ) (frames : List Frame) → top_is indent frames ≡ true → IsInnermost indent frames
top_found indent [] h = absurd cc
top_found indent (f ∷ fs) h = (f, fs, refl, same f.indent indent h)

pub top_there : (indent : ℕ) (frames : List Frame) → IsInnermost indent frames → top_is indent frames ≡ true
top_there indent frames w = ap (top_is indent) w.2 ∙ is_number w.0.indent indent w.3

pub end_found : (indent : ℕ) (item : Bool) (f : Frame) (around : List Frame) → ends_block indent item f around ≡ true → IsEndedAt indent item f around
end_found indent item f around h = by (nat_lt indent f.indent) refl h
  where
    by : (b : Bool) → nat_lt indent f.indent ≡ b → b || f.indent == indent && is_list f.open_block && not item && top_is indent around ≡ true → IsEndedAt indent item f around
    by true e g = inl (grind (arith, nat_tests))
    by false e g =
        let p = all_four (f.indent == indent) (is_list f.open_block) (not item) (top_is indent around) g in
        inr (same f.indent indent p.0, list_found f.open_block p.1, not_so item p.2, top_found indent around p.3)

pub end_there : (indent : ℕ) (item : Bool) (f : Frame) (around : List Frame) → IsEndedAt indent item f around → ends_block indent item f around ≡ true
end_there indent item f around (inl l) = let lt : nat_lt indent f.indent ≡ true = grind (arith, nat_tests) in rw lt refl
end_there indent item f around (inr w) =
    let at = is_number f.indent indent w.0 in
    let list : is_list f.open_block ≡ true = ap is_list w.1.1 in
    let top = top_there indent around w.3 in
    rw (at, list, w.2, top) (or_true (nat_lt indent f.indent))

below_found : (indent : ℕ) (item : Bool) (f : Frame) → nat_lt f.indent indent || f.indent == indent && not (is_list f.open_block) && item ≡ true → IsBelow indent item f
below_found indent item f h = by (nat_lt f.indent indent) refl h
  where
    by : (b : Bool) → nat_lt f.indent indent ≡ b → b || f.indent == indent && not (is_list f.open_block) && item ≡ true → IsBelow indent item f
    by true e g = inl (grind (arith, nat_tests))
    by false e g =
        let p = all_three (f.indent == indent) (not (is_list f.open_block)) item g in
        inr (same f.indent indent p.0, map_found f.open_block p.1, p.2)

pub begun_found : (frames : List Frame) (slot : Option Tree) (indent : ℕ) (item : Bool) → begins_block frames slot indent item ≡ true → IsBegunAt frames slot indent item
begun_found frames (Some v) indent item h = absurd cc
begun_found [] None indent item h = absurd cc
begun_found (f ∷ fs) None indent item h = (refl, (f, fs, refl, below_found indent item f h))

below_there : (indent : ℕ) (item : Bool) (f : Frame) (fs : List Frame) → IsBelow indent item f → takes_block (f ∷ fs) indent item ≡ true
below_there indent item f fs (inl l) = let lt : nat_lt f.indent indent ≡ true = grind (arith, nat_tests) in rw lt refl
below_there indent item f fs (inr w) =
    let at = is_number f.indent indent w.0 in
    let map : is_list f.open_block ≡ false = ap is_list w.1.2 in
    rw (at, map, w.2) (or_true (nat_lt f.indent indent))

pub begun_there : (frames : List Frame) (slot : Option Tree) (indent : ℕ) (item : Bool) → IsBegunAt frames slot indent item → begins_block frames slot indent item ≡ true
begun_there frames slot indent item (none, w) =
    ap (λ (s : Option Tree). begins_block frames s indent item) none ∙ ap (λ (fs : List Frame). takes_block fs indent item) w.2 ∙ below_there indent item w.0 w.1 w.3
