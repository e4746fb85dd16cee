-- A value on one line is read exactly where it is one by the grammar.
use Rattle.std.proofs.Common.{◌≡◌, ◌⊎◌, inl, inr, ℕ, zero, suc, ◌<◌, ◌≤◌, Bool, true, false, cond, ◌||◌, List, [], ◌∷◌, ◌++◌, length, drop, Ok, Err, refl, sym, ◌∙◌, ap, arith, subst}
use Rattle.yaml_subset.specs.declared.fault.YamlCause.TheVariants.{TooDeep}
use Rattle.yaml_subset.specs.declared.scalars.Scanned.{Scanned}
use Rattle.yaml_tree.specs.declared.tree.Tree.{Tree}
use Rattle.yaml_tree.specs.declared.tree.Pair.{Pair}
use Rattle.yaml_subset.specs.Characters.{begins, line_end}
use Rattle.yaml_subset.specs.Scalars.{scan, value_at, scalar_from}
use Rattle.yaml_subset.specs.Flow.{list_from, map_from, opens, flow_value}
use Rattle.yaml_subset.specs.Blocks.{line_value, block_value}
use Rattle.yaml_subset.specs.Gives.{◌>>=◌}
use Rattle.yaml_subset.specs.LineValue.{IsScalar, AreFlowItems, AreFlowEntries, IsNested, IsFlowList, IsFlowMap, IsFlow, IsLineValue}
use Rattle.yaml_subset.proofs.FlowLaws.{flow_value_scalar}
use Rattle.yaml_subset.proofs.FlowParts.{scan_shrinks, drop_one, part_at_most}
use Rattle.yaml_subset.proofs.FlowValues.{IsRead, IsOnlyRead, NoLonger, value_ok, same_value, value_shorter, list_read, map_read, list_found, map_found}
use Rattle.yaml_subset.proofs.LineValues.{bind_ok, false_unless, never_both, no_bracket, same, line_value_ok, flow_parts, scalar_parts, scalar_value_on_line}

pub items_shorter : (Value : List ℕ → Tree → List ℕ → Type 0) → NoLonger Value → (vs : List Tree) (inside after : List ℕ) → AreFlowItems Value inside vs after → length after < length inside
items_shorter Value short [] inside after are = let l = part_at_most false inside (93 ∷ after) are in omega arith
items_shorter Value short (v ∷ vs) inside after are = by_end are.2 (λ next a. items_shorter Value short vs next after a)
  where
    lengths : length are.0 ≤ length inside
    lengths = omega (arith, part_at_most false inside are.1.start are.1.begins_at, short are.1.start v are.1.after are.1.value, part_at_most false are.1.after are.0 are.1.ends_at)

    by_end : ((are.0 ≡ 93 ∷ after) × (vs ≡ [])) ⊎ ((next : List ℕ) × (are.0 ≡ 44 ∷ next) × AreFlowItems Value next vs after)
        → ((next : List ℕ) → AreFlowItems Value next vs after → length after < length next) → length after < length inside
    by_end (inl w) rec = let e : length are.0 ≡ length (93 ∷ after) = ap length w.0 in omega (arith, lengths)
    by_end (inr w) rec = let e : length are.0 ≡ length (44 ∷ w.0) = ap length w.1 in omega (arith, lengths, rec w.0 w.2)

pub entries_shorter : (Value : List ℕ → Tree → List ℕ → Type 0) → NoLonger Value → (ps before : List Pair) (inside after : List ℕ) → AreFlowEntries Value before inside ps after → length after < length inside
entries_shorter Value short [] before inside after are = let l = part_at_most false inside (125 ∷ after) are in omega arith
entries_shorter Value short (p ∷ ps) before inside after are = by_end are.2 (λ next a. entries_shorter Value short ps (before ++ p ∷ []) next after a)
  where
    lengths : length are.0 ≤ length inside
    lengths = omega (
      arith,
      part_at_most false inside are.1.start are.1.begins_at,
      scan_shrinks true are.1.start are.1.scanned are.1.colon_at are.1.scalar,
      drop_one are.1.colon_at,
      part_at_most false (drop 1 are.1.colon_at) are.1.part are.1.value_at,
      value_shorter Value short are.1.part p.value are.1.after are.1.value,
      part_at_most false are.1.after are.0 are.1.ends_at,
    )

    by_end : ((are.0 ≡ 125 ∷ after) × (ps ≡ [])) ⊎ ((next : List ℕ) × (are.0 ≡ 44 ∷ next) × AreFlowEntries Value (before ++ p ∷ []) next ps after)
        → ((next : List ℕ) → AreFlowEntries Value (before ++ p ∷ []) next ps after → length after < length next) → length after < length inside
    by_end (inl w) rec = let e : length are.0 ≡ length (125 ∷ after) = ap length w.0 in omega (arith, lengths)
    by_end (inr w) rec = let e : length are.0 ≡ length (44 ∷ w.0) = ap length w.1 in omega (arith, lengths, rec w.0 w.2)

pub flow_shorter : (n : ℕ) → NoLonger (IsFlow n)
flow_shorter zero start v after f = absurd f
flow_shorter (suc n) start v after f = by_form f (nested (flow_shorter n))
  where
    nested : NoLonger (IsFlow n) → NoLonger (IsNested (IsFlow n))
    nested rec start v after (inl s) = scan_shrinks true start s.0 after s.1
    nested rec start v after (inr f) = rec start v after f

    by_form : IsFlowList (IsFlow n) start v after ⊎ IsFlowMap (IsFlow n) start v after → NoLonger (IsNested (IsFlow n)) → length after ≤ length start
    by_form (inl l) short = let e : length start ≡ length (91 ∷ l.inside) = ap length l.opens in omega (arith, items_shorter (IsNested (IsFlow n)) short l.items l.inside after l.are)
    by_form (inr m) short = let e : length start ≡ length (123 ∷ m.inside) = ap length m.opens in omega (arith, entries_shorter (IsNested (IsFlow n)) short m.pairs [] m.inside after m.are)

pub nested_shorter : (n : ℕ) → NoLonger (IsNested (IsFlow n))
nested_shorter n start v after (inl s) = scan_shrinks true start s.0 after s.1
nested_shorter n start v after (inr f) = flow_shorter n start v after f

pub no_open : (flow : Bool) (rest : List ℕ) (s : Scanned) (after : List ℕ) → scan flow rest ≡ Ok (s, after) → opens rest ≡ false
no_open flow rest s after e = false_unless (opens rest) (λ o. never_both (scan flow rest) (s, after) (no_bracket flow rest o) e)

pub or_left : (a b : Bool) → a || b ≡ false → a ≡ false
or_left true b h = h
or_left false b h = refl

pub or_right : (a b : Bool) → a || b ≡ false → b ≡ false
or_right true b h = absurd cc
or_right false b h = h

pub scalar_read : (n : ℕ) (rest : List ℕ) (v : Tree) (after : List ℕ) → IsScalar true rest v after → flow_value n rest ≡ Ok (v, after)
unfolding scalar_from
scalar_read n rest v after s =
    let o = no_open true rest s.0 after s.1 in
    flow_value_scalar n rest (or_left (begins 91 rest) (begins 123 rest) o) (or_right (begins 91 rest) (begins 123 rest) o) ∙ rw (s.1, s.2) refl

-- a flow list or map is read
pub flow_read : (n : ℕ) → IsRead (IsFlow n) (flow_value n)
unfolding flow_value
flow_read zero start v after f = absurd f
flow_read (suc n) start v after f = by_form f (nested (flow_read n))
  where
    nested : IsRead (IsFlow n) (flow_value n) → IsRead (IsNested (IsFlow n)) (flow_value n)
    nested rec start v after (inl s) = scalar_read n start v after s
    nested rec start v after (inr f) = rec start v after f

    by_form : IsFlowList (IsFlow n) start v after ⊎ IsFlowMap (IsFlow n) start v after → IsRead (IsNested (IsFlow n)) (flow_value n) → flow_value (suc n) start ≡ Ok (v, after)
    by_form (inl l) reads =
        ap (flow_value (suc n)) l.opens ∙ list_read (IsNested (IsFlow n)) (flow_value n) reads (nested_shorter n) (length l.inside) [] l.inside l.items after (omega arith) l.are
        ∙ ap (λ t. value_ok t after) (sym l.is)
    by_form (inr m) reads =
        ap (flow_value (suc n)) m.opens ∙ map_read (IsNested (IsFlow n)) (flow_value n) reads (nested_shorter n) (length m.inside) [] m.inside m.pairs after (omega arith) m.are
        ∙ ap (λ t. value_ok t after) (sym m.is)

scalar_found : (rest : List ℕ) (v : Tree) (after : List ℕ) → scalar_from true rest ≡ Ok (v, after) → IsScalar true rest v after
unfolding scalar_from
scalar_found rest v after h =
    let s = bind_ok (scan true rest) (λ s. value_at s.0 s.1 >>= λ w. value_ok w s.1) (v, after) h in
    let w = bind_ok (value_at s.0.0 s.0.1) (λ w. value_ok w s.0.1) (v, after) s.2 in
    let e = same_value w.0 v s.0.1 after w.2 in
    (s.0.0, s.1 ∙ ap (λ xs. Ok (s.0.0, xs)) e.1, subst (λ xs. value_at s.0.0 xs ≡ Ok v) e.1 (w.1 ∙ ap Ok e.0))

pub begins_with : (c : ℕ) (rest : List ℕ) → begins c rest ≡ true → rest ≡ c ∷ drop 1 rest
begins_with c [] h = absurd cc
begins_with c (x ∷ xs) h = ap (λ (y : ℕ). y ∷ xs) (same x c h)

-- what is read within brackets is a scalar, or a flow list or map
pub flow_found : (n : ℕ) → IsOnlyRead (IsNested (IsFlow n)) (flow_value n)
unfolding flow_value
flow_found zero start v after h = by_opens (opens start) h
  where
    by_opens : (b : Bool) → cond b (Err TooDeep) (scalar_from true start) ≡ value_ok v after → IsNested (IsFlow zero) start v after
    by_opens true g = absurd cc
    by_opens false g = inl (scalar_found start v after g)
flow_found (suc n) start v after h = by_tests (begins 91 start) (begins 123 start) refl refl h (flow_found n)
  where
    by_tests : (a b : Bool) → begins 91 start ≡ a → begins 123 start ≡ b
        → cond (a || b) (cond a (list_from (flow_value n) (length (drop 1 start)) [] (drop 1 start)) (map_from (flow_value n) (length (drop 1 start)) [] (drop 1 start))) (scalar_from true start) ≡ value_ok v after
        → IsOnlyRead (IsNested (IsFlow n)) (flow_value n) → IsNested (IsFlow (suc n)) start v after
    by_tests true b e f g rec =
        let l = list_found (IsNested (IsFlow n)) (flow_value n) rec (length (drop 1 start)) [] (drop 1 start) v after g in
        inr (inl (record { inside = drop 1 start; items = l.0; opens = begins_with 91 start e; is = l.1; are = l.2 }))
    by_tests false true e f g rec =
        let m = map_found (IsNested (IsFlow n)) (flow_value n) rec (length (drop 1 start)) [] (drop 1 start) v after g in
        inr (inr (record { inside = drop 1 start; pairs = m.0; opens = begins_with 123 start f; is = m.1; are = m.2 }))
    by_tests false false e f g rec = inl (scalar_found start v after g)

pub flow_opens : (n : ℕ) (part : List ℕ) (v : Tree) (after : List ℕ) → IsFlow n part v after → opens part ≡ true
flow_opens zero part v after f = absurd f
flow_opens (suc n) part v after (inl l) = ap opens l.opens
flow_opens (suc n) part v after (inr m) = ap opens m.opens

-- a value on one line is read
pub line_value_read : (n : ℕ) (part : List ℕ) (v : Tree) → IsLineValue n part v → block_value n part ≡ Ok v
unfolding block_value
line_value_read n part v w = by_form w.1
  where
    by_form : IsScalar false part v w.0 ⊎ IsFlow n part v w.0 → block_value n part ≡ Ok v
    by_form (inl s) = scalar_value_on_line n part v (no_open false part s.0 w.0 s.1) (record { scanned = s.0; after = w.0; scan = s.1; value = s.2; end = w.2 })
    by_form (inr f) = rw (flow_opens n part v w.0 f, flow_read n part v w.0 f, w.2) refl

-- what is read as a value on one line is one
pub line_value_found : (n : ℕ) (part : List ℕ) (v : Tree) → block_value n part ≡ Ok v → IsLineValue n part v
line_value_found n part v h = by_opens (opens part) refl
  where
    of_nested : (after : List ℕ) → opens part ≡ true → IsNested (IsFlow n) part v after → line_end after ≡ Ok tt → IsLineValue n part v
    of_nested after o (inl s) end = absurd (never_both (scan true part) (s.0, after) (no_bracket true part o) s.1)
    of_nested after o (inr f) end = (after, inr f, end)

    by_opens : (b : Bool) → opens part ≡ b → IsLineValue n part v
    by_opens true o =
        let b = bind_ok (flow_value n part) line_value v (flow_parts n part v o h) in
        let l = line_value_ok b.0.0 v b.0.1 b.2 in
        of_nested b.0.1 o (flow_found n part v b.0.1 (b.1 ∙ ap (λ w. value_ok w b.0.1) l.0)) l.1
    by_opens false o = let s = scalar_parts n part v o h in (s.after, inl (s.scanned, s.scan, s.value), s.end)
