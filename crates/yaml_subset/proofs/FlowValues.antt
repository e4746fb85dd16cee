-- What is read of a line is a value by the grammar, and what is one is read.
use Rattle.std.proofs.Common.{◌≡◌, ◌⊎◌, inl, inr, ℕ, zero, suc, ◌<◌, ◌≤◌, ◌==◌, Bool, true, false, cond, ◌||◌, List, [], ◌∷◌, ◌++◌, length, drop, Result, Ok, Err, refl, sym, ◌∙◌, ap, arith, append_assoc, subst}
use Rattle.std.proofs.lemmas.List.{append-nil}
use Rattle.std.proofs.lemmas.Bool.Decides.{nat_tests}
use Rattle.yaml_subset.specs.declared.fault.YamlForm.TheVariants.{LongFlow}
use Rattle.yaml_subset.specs.declared.fault.YamlCause.{YamlCause}
use Rattle.yaml_subset.specs.declared.fault.YamlCause.TheVariants.{LeftOut}
use Rattle.yaml_subset.specs.declared.scalars.Scanned.{Scanned}
use Rattle.yaml_tree.specs.declared.tree.Tree.{Tree}
use Rattle.yaml_tree.specs.declared.tree.Tree.TheVariants as tree
use Rattle.yaml_tree.specs.declared.tree.Key.{Key}
use Rattle.yaml_tree.specs.declared.tree.Pair.{Pair}
use Rattle.yaml_subset.specs.Characters.{is_empty, begins, marks, next_part, stray}
use Rattle.yaml_subset.specs.Scalars.{scan, key_of}
use Rattle.yaml_subset.specs.Entries.{has_key}
use Rattle.yaml_subset.specs.Flow.{at_opening, opened, behind_item, parted, entry_key, entry_value, with_entry, list_step, list_from, map_step, map_from}
use Rattle.yaml_subset.specs.Gives.{◌>>=◌}
use Rattle.yaml_subset.specs.LineValue.{IsFlowItem, AreFlowItems, IsFlowValue, IsFlowEntry, AreFlowEntries}
use Rattle.yaml_subset.proofs.FlowParts.{scan_shrinks, drop_one, part_at_most}
use Rattle.yaml_subset.proofs.LineValues.{bind_ok, same, key_found}
use Rattle.yaml_subset.specs.FlowFaults.{IsNewKey}

-- what reads a value, and what is one
abbrev pub Reader : Type 0
Reader = List ℕ → Result (Tree × List ℕ) YamlCause

abbrev pub IsRead : (List ℕ → Tree → List ℕ → Type 0) → Reader → Type 0
IsRead Value value = (start : List ℕ) (v : Tree) (after : List ℕ) → Value start v after → value start ≡ Ok (v, after)

abbrev pub IsOnlyRead : (List ℕ → Tree → List ℕ → Type 0) → Reader → Type 0
IsOnlyRead Value value = (start : List ℕ) (v : Tree) (after : List ℕ) → value start ≡ Ok (v, after) → Value start v after

abbrev pub NoLonger : (List ℕ → Tree → List ℕ → Type 0) → Type 0
NoLonger Value = (start : List ℕ) (v : Tree) (after : List ℕ) → Value start v after → length after ≤ length start

opening_is : (closing : ℕ) (start : List ℕ) → is_empty start ≡ false → begins closing start ≡ false → at_opening closing start ≡ Ok (false, start)
opening_is closing [] e b = absurd cc
opening_is closing (c ∷ cs) e b = rw b refl

pub opened_is : (closing : ℕ) (inside start : List ℕ) → next_part false inside ≡ Ok start → is_empty start ≡ false → begins closing start ≡ false → opened closing inside ≡ Ok (false, start)
unfolding opened
opened_is closing inside start p e b = rw p (opening_is closing start e b)

equal : (n : ℕ) → n == n ≡ true
equal n = grind (arith, nat_tests)

closed_is : (closing : ℕ) (inside after : List ℕ) → next_part false inside ≡ Ok (closing ∷ after) → opened closing inside ≡ Ok (true, after)
unfolding opened
closed_is closing inside after p = let e = equal closing in rw (p, e) refl

ended_is : (closing : ℕ) (inside after : List ℕ) → next_part false inside ≡ Ok (closing ∷ after) → parted closing inside ≡ Ok (true, after)
unfolding parted
ended_is closing inside after p = let e = equal closing in rw (p, e) refl

pub comma_is : (closing : ℕ) (inside next : List ℕ) → 44 == closing ≡ false → next_part false inside ≡ Ok (44 ∷ next) → parted closing inside ≡ Ok (false, next)
unfolding parted
comma_is closing inside next c p = rw (p, c) refl

-- the items of a flow list are read
pub list_read : (Value : List ℕ → Tree → List ℕ → Type 0) (value : Reader) → IsRead Value value → NoLonger Value → (fuel : ℕ) (items : List Tree) (inside : List ℕ) (vs : List Tree) (after : List ℕ)
    → length inside ≤ fuel → AreFlowItems Value inside vs after → list_from value fuel items inside ≡ Ok (tree.List (items ++ vs), after)
unfolding list_from list_step
list_read Value value reads short zero items inside [] after few are = let l = part_at_most false inside (93 ∷ after) are in absurd (omega arith)
list_read Value value reads short zero items inside (v ∷ vs) after few are =
    let l = part_at_most false inside are.1.start are.1.begins_at in
    absurd (none are.1.start are.1.some (omega arith))
  where
    none : (xs : List ℕ) → is_empty xs ≡ false → length xs ≤ 0 → ⊥
    none [] e l = cc
    none (x ∷ xs) e l = omega arith
list_read Value value reads short (suc fuel) items inside [] after few are = rw (closed_is 93 inside after are, append-nil items) refl
list_read Value value reads short (suc fuel) items inside (v ∷ vs) after few are = by_end are.2 (λ next l a. list_read Value value reads short fuel (items ++ v ∷ []) next vs after l a)
  where
    item : IsFlowItem Value inside v are.0
    item = are.1

    begun : opened 93 inside ≡ Ok (false, item.start)
    begun = opened_is 93 inside item.start item.begins_at item.some item.unclosed

    is : value item.start ≡ Ok (v, item.after)
    is = reads item.start v item.after item.value

    by_end : ((are.0 ≡ 93 ∷ after) × (vs ≡ [])) ⊎ ((next : List ℕ) × (are.0 ≡ 44 ∷ next) × AreFlowItems Value next vs after)
        → ((next : List ℕ) → length next ≤ fuel → AreFlowItems Value next vs after → list_from value fuel (items ++ v ∷ []) next ≡ Ok (tree.List ((items ++ v ∷ []) ++ vs), after))
        → list_from value (suc fuel) items inside ≡ Ok (tree.List (items ++ v ∷ vs), after)
    by_end (inl w) rec =
        let e : parted 93 item.after ≡ Ok (true, after) = ended_is 93 item.after after (item.ends_at ∙ ap Ok w.0) in
        rw (begun, is, e, w.1) refl
    by_end (inr w) rec =
        let e : parted 93 item.after ≡ Ok (false, w.0) = comma_is 93 item.after w.0 refl (item.ends_at ∙ ap Ok w.1) in
        let l1 = part_at_most false inside item.start item.begins_at in
        let l2 = short item.start v item.after item.value in
        let l3 = part_at_most false item.after are.0 item.ends_at in
        let l4 : length are.0 ≡ length (44 ∷ w.0) = ap length w.1 in
        let r = rec w.0 (omega (arith, l1, l2, l3, l4, few)) w.2 in
        rw (begun, is, e) (r ∙ ap (λ us. Ok (tree.List us, after)) (append_assoc items (v ∷ []) vs))

pub key_is : (before : List Pair) (start : List ℕ) (s : Scanned) (after : List ℕ) (key : Key) → scan true start ≡ Ok (s, after) → marks 58 after ≡ true → key_of s ≡ Ok key → has_key before key ≡ false
    → entry_key true before start ≡ Ok (key, drop 1 after)
unfolding entry_key
key_is before start s after key e m k h = rw (e, m, k, h) refl

pub value_is : (Value : List ℕ → Tree → List ℕ → Type 0) (value : Reader) → IsRead Value value → (rest part : List ℕ) (v : Tree) (after : List ℕ) → next_part false rest ≡ Ok part → is_empty part ≡ false
    → IsFlowValue Value part v after → entry_value value rest ≡ Ok (v, after)
unfolding entry_value
value_is Value value reads rest part v after p e (inl w) = rw (p, e, w.0) (ap (λ x. Ok (x, part)) (sym w.1) ∙ ap (λ xs. Ok (v, xs)) (sym w.2))
value_is Value value reads rest part v after p e (inr w) = rw (p, e, w.0) (reads part v after w.1)

pub value_shorter : (Value : List ℕ → Tree → List ℕ → Type 0) → NoLonger Value → (part : List ℕ) (v : Tree) (after : List ℕ) → IsFlowValue Value part v after → length after ≤ length part
value_shorter Value short part v after (inl w) = let e : length after ≡ length part = ap length w.2 in omega arith
value_shorter Value short part v after (inr w) = short part v after w.1

some_left : (xs : List ℕ) → is_empty xs ≡ false → 0 < length xs
some_left [] e = absurd cc
some_left (x ∷ xs) e = omega arith

-- the entries of a flow map are read
pub map_read : (Value : List ℕ → Tree → List ℕ → Type 0) (value : Reader) → IsRead Value value → NoLonger Value → (fuel : ℕ) (before : List Pair) (inside : List ℕ) (ps : List Pair) (after : List ℕ)
    → length inside ≤ fuel → AreFlowEntries Value before inside ps after → map_from value fuel before inside ≡ Ok (tree.Map (before ++ ps), after)
unfolding map_from map_step
map_read Value value reads short zero before inside [] after few are = let l = part_at_most false inside (125 ∷ after) are in absurd (omega arith)
map_read Value value reads short zero before inside (p ∷ ps) after few are =
    let l = part_at_most false inside are.1.start are.1.begins_at in
    absurd (omega (arith, some_left are.1.start are.1.some, l, few))
map_read Value value reads short (suc fuel) before inside [] after few are = rw (closed_is 125 inside after are, append-nil before) refl
map_read Value value reads short (suc fuel) before inside (p ∷ ps) after few are = by_end are.2 (λ next l a. map_read Value value reads short fuel (before ++ p ∷ []) next ps after l a)
  where
    entry : IsFlowEntry Value before inside p are.0
    entry = are.1

    begun : opened 125 inside ≡ Ok (false, entry.start)
    begun = opened_is 125 inside entry.start entry.begins_at entry.some entry.unclosed

    key : entry_key true before entry.start ≡ Ok (p.key, drop 1 entry.colon_at)
    key = key_is before entry.start entry.scanned entry.colon_at p.key entry.scalar entry.colon entry.key entry.first

    is : entry_value value (drop 1 entry.colon_at) ≡ Ok (p.value, entry.after)
    is = value_is Value value reads (drop 1 entry.colon_at) entry.part p.value entry.after entry.value_at entry.ended entry.value

    by_end : ((are.0 ≡ 125 ∷ after) × (ps ≡ [])) ⊎ ((next : List ℕ) × (are.0 ≡ 44 ∷ next) × AreFlowEntries Value (before ++ p ∷ []) next ps after)
        → ((next : List ℕ) → length next ≤ fuel → AreFlowEntries Value (before ++ p ∷ []) next ps after → map_from value fuel (before ++ p ∷ []) next ≡ Ok (tree.Map ((before ++ p ∷ []) ++ ps), after))
        → map_from value (suc fuel) before inside ≡ Ok (tree.Map (before ++ p ∷ ps), after)
    by_end (inl w) rec =
        let e : parted 125 entry.after ≡ Ok (true, after) = ended_is 125 entry.after after (entry.ends_at ∙ ap Ok w.0) in
        rw (begun, key, is, e, w.1) refl
    by_end (inr w) rec =
        let e : parted 125 entry.after ≡ Ok (false, w.0) = comma_is 125 entry.after w.0 refl (entry.ends_at ∙ ap Ok w.1) in
        let l1 = part_at_most false inside entry.start entry.begins_at in
        let l2 = scan_shrinks true entry.start entry.scanned entry.colon_at entry.scalar in
        let l3 = drop_one entry.colon_at in
        let l4 = part_at_most false (drop 1 entry.colon_at) entry.part entry.value_at in
        let l5 = value_shorter Value short entry.part p.value entry.after entry.value in
        let l6 = part_at_most false entry.after are.0 entry.ends_at in
        let l7 : length are.0 ≡ length (44 ∷ w.0) = ap length w.1 in
        let r = rec w.0 (omega (arith, l1, l2, l3, l4, l5, l6, l7, few)) w.2 in
        rw (begun, key, is, e) (r ∙ ap (λ us. Ok (tree.Map us, after)) (append_assoc before (p ∷ []) ps))

abbrev mark_ok : Bool → List ℕ → Result (Bool × List ℕ) YamlCause
mark_ok b xs = Ok (b, xs)

abbrev pub value_ok : Tree → List ℕ → Result (Tree × List ℕ) YamlCause
value_ok v xs = Ok (v, xs)

abbrev value_pair : Tree → List ℕ → Tree × List ℕ
value_pair v xs = (v, xs)

pub same_value : (v w : Tree) (xs ys : List ℕ) → value_ok v xs ≡ value_ok w ys → (v ≡ w) × (xs ≡ ys)
same_value v w xs ys h = let q : value_pair v xs ≡ value_pair w ys = cc in (ap (λ x. x.0) q, ap (λ x. x.1) q)

-- what an opening bracket or a comma is followed by
pub opening_parts : (closing : ℕ) (next : List ℕ) (o : Bool × List ℕ) → at_opening closing next ≡ Ok o
    → ((o.0 ≡ true) × (next ≡ closing ∷ o.1)) ⊎ ((o.0 ≡ false) × (next ≡ o.1) × (is_empty next ≡ false) × (begins closing next ≡ false))
opening_parts closing [] o h = absurd cc
opening_parts closing (c ∷ cs) o h = by_test (c == closing) refl h
  where
    by_test : (b : Bool) → c == closing ≡ b → cond b (mark_ok true cs) (mark_ok false (c ∷ cs)) ≡ Ok o
        → ((o.0 ≡ true) × (c ∷ cs ≡ closing ∷ o.1)) ⊎ ((o.0 ≡ false) × (c ∷ cs ≡ o.1) × (is_empty (c ∷ cs) ≡ false) × (begins closing (c ∷ cs) ≡ false))
    by_test true e g =
        let q : (true, cs) ≡ o = cc in
        inl (ap (λ x. x.0) (sym q), ap (λ (x : ℕ). x ∷ cs) (same c closing e) ∙ ap (λ x. closing ∷ x.1) q)
    by_test false e g =
        let q : (false, c ∷ cs) ≡ o = cc in
        inr (ap (λ x. x.0) (sym q), ap (λ x. x.1) q, refl, e)

pub opened_parts : (closing : ℕ) (inside : List ℕ) (o : Bool × List ℕ) → opened closing inside ≡ Ok o
    → ((o.0 ≡ true) × (next_part false inside ≡ Ok (closing ∷ o.1))) ⊎ ((o.0 ≡ false) × (next_part false inside ≡ Ok o.1) × (is_empty o.1 ≡ false) × (begins closing o.1 ≡ false))
unfolding opened
opened_parts closing inside o h = by_cases (opening_parts closing b.0 o b.2)
  where
    b : (next : List ℕ) × (next_part false inside ≡ Ok next) × (at_opening closing next ≡ Ok o)
    b = bind_ok (next_part false inside) (at_opening closing) o h

    by_cases : ((o.0 ≡ true) × (b.0 ≡ closing ∷ o.1)) ⊎ ((o.0 ≡ false) × (b.0 ≡ o.1) × (is_empty b.0 ≡ false) × (begins closing b.0 ≡ false))
        → ((o.0 ≡ true) × (next_part false inside ≡ Ok (closing ∷ o.1))) ⊎ ((o.0 ≡ false) × (next_part false inside ≡ Ok o.1) × (is_empty o.1 ≡ false) × (begins closing o.1 ≡ false))
    by_cases (inl w) = inl (w.0, b.1 ∙ ap Ok w.1)
    by_cases (inr w) = inr (w.0, b.1 ∙ ap Ok w.1, ap is_empty (sym w.1) ∙ w.2, ap (begins closing) (sym w.1) ∙ w.3)

pub item_parts : (closing : ℕ) (next : List ℕ) (o : Bool × List ℕ) → behind_item closing next ≡ Ok o → ((o.0 ≡ true) × (next ≡ closing ∷ o.1)) ⊎ ((o.0 ≡ false) × (next ≡ 44 ∷ o.1))
item_parts closing [] o h = absurd cc
item_parts closing (c ∷ cs) o h = by_tests (c == closing) (c == 44) refl refl h
  where
    by_tests : (a b : Bool) → c == closing ≡ a → c == 44 ≡ b → cond a (mark_ok true cs) (cond b (mark_ok false cs) (Err (stray (c ∷ cs)))) ≡ Ok o
        → ((o.0 ≡ true) × (c ∷ cs ≡ closing ∷ o.1)) ⊎ ((o.0 ≡ false) × (c ∷ cs ≡ 44 ∷ o.1))
    by_tests true b e f g =
        let q : (true, cs) ≡ o = cc in
        inl (ap (λ x. x.0) (sym q), ap (λ (x : ℕ). x ∷ cs) (same c closing e) ∙ ap (λ x. closing ∷ x.1) q)
    by_tests false true e f g =
        let q : (false, cs) ≡ o = cc in
        inr (ap (λ x. x.0) (sym q), ap (λ (x : ℕ). x ∷ cs) (same c 44 f) ∙ ap (λ x. 44 ∷ x.1) q)
    by_tests false false e f g = absurd cc

pub parted_parts : (closing : ℕ) (rest : List ℕ) (o : Bool × List ℕ) → parted closing rest ≡ Ok o → ((o.0 ≡ true) × (next_part false rest ≡ Ok (closing ∷ o.1))) ⊎ ((o.0 ≡ false) × (next_part false rest ≡ Ok (44 ∷ o.1)))
unfolding parted
parted_parts closing rest o h = by_cases (item_parts closing b.0 o b.2)
  where
    b : (next : List ℕ) × (next_part false rest ≡ Ok next) × (behind_item closing next ≡ Ok o)
    b = bind_ok (next_part false rest) (behind_item closing) o h

    by_cases : ((o.0 ≡ true) × (b.0 ≡ closing ∷ o.1)) ⊎ ((o.0 ≡ false) × (b.0 ≡ 44 ∷ o.1)) → ((o.0 ≡ true) × (next_part false rest ≡ Ok (closing ∷ o.1))) ⊎ ((o.0 ≡ false) × (next_part false rest ≡ Ok (44 ∷ o.1)))
    by_cases (inl w) = inl (w.0, b.1 ∙ ap Ok w.1)
    by_cases (inr w) = inr (w.0, b.1 ∙ ap Ok w.1)

pub entry_value_parts : (Value : List ℕ → Tree → List ℕ → Type 0) (value : Reader) → IsOnlyRead Value value → (rest : List ℕ) (v : Tree) (after : List ℕ) → entry_value value rest ≡ Ok (v, after)
    → (part : List ℕ) × (next_part false rest ≡ Ok part) × (is_empty part ≡ false) × IsFlowValue Value part v after
unfolding entry_value
entry_value_parts Value value found rest v after h = by_tests (is_empty b.0) refl (begins 44 b.0 || begins 125 b.0) refl b.2
  where
    b : (next : List ℕ) × (next_part false rest ≡ Ok next) × (cond (is_empty next) (Err (LeftOut LongFlow)) (cond (begins 44 next || begins 125 next) (value_ok tree.Null next) (value next)) ≡ value_ok v after)
    b = bind_ok (next_part false rest) (λ next. cond (is_empty next) (Err (LeftOut LongFlow)) (cond (begins 44 next || begins 125 next) (value_ok tree.Null next) (value next))) (v, after) h

    by_tests : (e : Bool) → is_empty b.0 ≡ e → (n : Bool) → begins 44 b.0 || begins 125 b.0 ≡ n → cond (is_empty b.0) (Err (LeftOut LongFlow)) (cond (begins 44 b.0 || begins 125 b.0) (value_ok tree.Null b.0) (value b.0)) ≡ value_ok v after
        → (part : List ℕ) × (next_part false rest ≡ Ok part) × (is_empty part ≡ false) × IsFlowValue Value part v after
    by_tests true i n m g = let q : Err (LeftOut LongFlow) ≡ value_ok v after = rw i at g in absurd cc
    by_tests false i true m g =
        let q : value_ok tree.Null b.0 ≡ value_ok v after = rw (i, m) at g in
        let w = same_value tree.Null v b.0 after q in
        (b.0, b.1, i, inl (m, sym w.0, sym w.1))
    by_tests false i false m g =
        let q : value b.0 ≡ value_ok v after = rw (i, m) at g in
        (b.0, b.1, i, inr (m, found b.0 v after q))

-- ---- one step of a flow list or map

abbrev pub Step : Type 0 → Type 0
Step U = Bool × List U × List ℕ

abbrev step_ok : {U : Type 0} → Bool → List U → List ℕ → Result (Step U) YamlCause
step_ok b us rest = Ok (b, us, rest)

abbrev step_of : {U : Type 0} → Bool → List U → List ℕ → Step U
step_of b us rest = (b, us, rest)

same_step : {U : Type 0} (b : Bool) (us : List U) (rest : List ℕ) (s : Step U) → step_ok b us rest ≡ Ok s → step_of b us rest ≡ s
same_step b us rest s h = cc

-- behind these ones a step is the closing bracket, or one more with the closing bracket or a comma behind it
abbrev pub IsStep : {U : Type 0} → ℕ → List U → List ℕ → (U → List ℕ → Type 0) → Step U → Type 0
IsStep {U = U} closing us inside One s = ((s.0 ≡ true) × (s.1 ≡ us) × (next_part false inside ≡ Ok (closing ∷ s.2)))
    ⊎ ((u : U) × (s.1 ≡ us ++ u ∷ []) × (((s.0 ≡ true) × One u (closing ∷ s.2)) ⊎ ((s.0 ≡ false) × One u (44 ∷ s.2))))

closed_step : {U : Type 0} (closing : ℕ) (us : List U) (inside : List ℕ) (One : U → List ℕ → Type 0) (rest : List ℕ) (s : Step U) → step_ok true us rest ≡ Ok s → next_part false inside ≡ Ok (closing ∷ rest)
    → IsStep closing us inside One s
closed_step {U = U} closing us inside One rest s h p =
    let q = same_step true us rest s h in
    inl (sym (ap (λ (x : Step U). x.0) q), sym (ap (λ (x : Step U). x.1) q), p ∙ ap (λ (x : Step U). Ok (closing ∷ x.2)) q)

ended_step : {U : Type 0} (closing : ℕ) (us : List U) (inside : List ℕ) (One : U → List ℕ → Type 0) (u : U) (mid : List ℕ) (s : Step U) (d : Bool × List ℕ) → step_ok d.0 (us ++ u ∷ []) d.1 ≡ Ok s
    → ((behind : List ℕ) → next_part false mid ≡ Ok behind → One u behind) → ((d.0 ≡ true) × (next_part false mid ≡ Ok (closing ∷ d.1))) ⊎ ((d.0 ≡ false) × (next_part false mid ≡ Ok (44 ∷ d.1)))
    → IsStep closing us inside One s
ended_step {U = U} closing us inside One u mid s d h one (inl p) =
    let q = same_step d.0 (us ++ u ∷ []) d.1 s h in
    inr (u, sym (ap (λ (x : Step U). x.1) q), inl (sym (ap (λ (x : Step U). x.0) q) ∙ p.0, one (closing ∷ s.2) (p.1 ∙ ap (λ (x : Step U). Ok (closing ∷ x.2)) q)))
ended_step {U = U} closing us inside One u mid s d h one (inr p) =
    let q = same_step d.0 (us ++ u ∷ []) d.1 s h in
    inr (u, sym (ap (λ (x : Step U). x.1) q), inr (sym (ap (λ (x : Step U). x.0) q) ∙ p.0, one (44 ∷ s.2) (p.1 ∙ ap (λ (x : Step U). Ok (44 ∷ x.2)) q)))

pub list_steps : (Value : List ℕ → Tree → List ℕ → Type 0) (value : Reader) → IsOnlyRead Value value → (items : List Tree) (inside : List ℕ) (s : Step Tree) → list_step value items inside ≡ Ok s
    → IsStep 93 items inside (IsFlowItem Value inside) s
unfolding list_step
list_steps Value value found items inside s h = by_opening (opened_parts 93 inside o.0 o.1)
  where
    part_step : Tree × List ℕ → Result (Step Tree) YamlCause
    part_step item = parted 93 item.1 >>= λ part. step_ok part.0 (items ++ item.0 ∷ []) part.1

    opened_step : Bool × List ℕ → Result (Step Tree) YamlCause
    opened_step opening = cond opening.0 (step_ok true items opening.1) (value opening.1 >>= part_step)

    o : (opening : Bool × List ℕ) × (opened 93 inside ≡ Ok opening) × (opened_step opening ≡ Ok s)
    o = bind_ok (opened 93 inside) opened_step s h

    item_step : (v : Tree) (mid : List ℕ) → next_part false inside ≡ Ok o.0.1 → is_empty o.0.1 ≡ false → begins 93 o.0.1 ≡ false → Value o.0.1 v mid → (d : Bool × List ℕ) → step_ok d.0 (items ++ v ∷ []) d.1 ≡ Ok s
        → ((d.0 ≡ true) × (next_part false mid ≡ Ok (93 ∷ d.1))) ⊎ ((d.0 ≡ false) × (next_part false mid ≡ Ok (44 ∷ d.1))) → IsStep 93 items inside (IsFlowItem Value inside) s
    item_step v mid b e u is d q p =
        ended_step 93 items inside (IsFlowItem Value inside) v mid s d q (λ behind n. record { start = o.0.1; after = mid; begins_at = b; some = e; unclosed = u; value = is; ends_at = n }) p

    by_opening : ((o.0.0 ≡ true) × (next_part false inside ≡ Ok (93 ∷ o.0.1))) ⊎ ((o.0.0 ≡ false) × (next_part false inside ≡ Ok o.0.1) × (is_empty o.0.1 ≡ false) × (begins 93 o.0.1 ≡ false))
        → IsStep 93 items inside (IsFlowItem Value inside) s
    by_opening (inl w) = let q : step_ok true items o.0.1 ≡ Ok s = rw w.0 at o.2 in closed_step 93 items inside (IsFlowItem Value inside) o.0.1 s q w.1
    by_opening (inr w) =
        let q : (value o.0.1 >>= part_step) ≡ Ok s = rw w.0 at o.2 in
        let i = bind_ok (value o.0.1) part_step s q in
        let d = bind_ok (parted 93 i.0.1) (λ part. step_ok part.0 (items ++ i.0.0 ∷ []) part.1) s i.2 in
        item_step i.0.0 i.0.1 w.1 w.2 w.3 (found o.0.1 i.0.0 i.0.1 i.1) d.0 d.2 (parted_parts 93 i.0.1 d.0 d.1)

pub map_steps : (Value : List ℕ → Tree → List ℕ → Type 0) (value : Reader) → IsOnlyRead Value value → (before : List Pair) (inside : List ℕ) (s : Step Pair) → map_step value before inside ≡ Ok s
    → IsStep 125 before inside (IsFlowEntry Value before inside) s
unfolding map_step
map_steps Value value found before inside s h = by_opening (opened_parts 125 inside o.0 o.1)
  where
    part_step : Key → Tree × List ℕ → Result (Step Pair) YamlCause
    part_step k v = parted 125 v.1 >>= λ part. step_ok part.0 (with_entry before k v.0) part.1

    value_step : Key × List ℕ → Result (Step Pair) YamlCause
    value_step k = entry_value value k.1 >>= part_step k.0

    opened_step : Bool × List ℕ → Result (Step Pair) YamlCause
    opened_step opening = cond opening.0 (step_ok true before opening.1) (entry_key true before opening.1 >>= value_step)

    o : (opening : Bool × List ℕ) × (opened 125 inside ≡ Ok opening) × (opened_step opening ≡ Ok s)
    o = bind_ok (opened 125 inside) opened_step s h

    entry_step : (k : Key × List ℕ) (v : Tree) (mid : List ℕ) → next_part false inside ≡ Ok o.0.1 → is_empty o.0.1 ≡ false → begins 125 o.0.1 ≡ false → IsNewKey true before o.0.1 k.0 k.1
        → (at : List ℕ) × (next_part false k.1 ≡ Ok at) × (is_empty at ≡ false) × IsFlowValue Value at v mid → (d : Bool × List ℕ) → step_ok d.0 (with_entry before k.0 v) d.1 ≡ Ok s
        → ((d.0 ≡ true) × (next_part false mid ≡ Ok (125 ∷ d.1))) ⊎ ((d.0 ≡ false) × (next_part false mid ≡ Ok (44 ∷ d.1))) → IsStep 125 before inside (IsFlowEntry Value before inside) s
    entry_step k v mid b e u key at d q p =
        ended_step 125 before inside (IsFlowEntry Value before inside) (record { key = k.0; value = v }) mid s d q (λ behind n. record {
          start = o.0.1;
          scanned = key.scanned;
          colon_at = key.colon_at;
          part = at.0;
          after = mid;
          begins_at = b;
          some = e;
          unclosed = u;
          scalar = key.scalar;
          colon = key.colon;
          key = key.key;
          first = key.first;
          value_at = ap (λ xs. next_part false xs) (sym key.behind) ∙ at.1;
          ended = at.2;
          value = at.3;
          ends_at = n;
        }) p

    by_opening : ((o.0.0 ≡ true) × (next_part false inside ≡ Ok (125 ∷ o.0.1))) ⊎ ((o.0.0 ≡ false) × (next_part false inside ≡ Ok o.0.1) × (is_empty o.0.1 ≡ false) × (begins 125 o.0.1 ≡ false))
        → IsStep 125 before inside (IsFlowEntry Value before inside) s
    by_opening (inl w) = let q : step_ok true before o.0.1 ≡ Ok s = rw w.0 at o.2 in closed_step 125 before inside (IsFlowEntry Value before inside) o.0.1 s q w.1
    by_opening (inr w) =
        let q : (entry_key true before o.0.1 >>= value_step) ≡ Ok s = rw w.0 at o.2 in
        let k = bind_ok (entry_key true before o.0.1) value_step s q in
        let i = bind_ok (entry_value value k.0.1) (part_step k.0.0) s k.2 in
        let d = bind_ok (parted 125 i.0.1) (λ part. step_ok part.0 (with_entry before k.0.0 i.0.0) part.1) s i.2 in
        entry_step k.0 i.0.0 i.0.1 w.1 w.2 w.3 (key_found true before o.0.1 k.0.0 k.0.1 k.1) (entry_value_parts Value value found k.0.1 i.0.0 i.0.1 i.1) d.0 d.2 (parted_parts 125 i.0.1 d.0 d.1)

-- ---- what is read of a flow list is its items

pub list_found : (Value : List ℕ → Tree → List ℕ → Type 0) (value : Reader) → IsOnlyRead Value value → (fuel : ℕ) (items : List Tree) (inside : List ℕ) (t : Tree) (after : List ℕ)
    → list_from value fuel items inside ≡ Ok (t, after) → (vs : List Tree) × (t ≡ tree.List (items ++ vs)) × AreFlowItems Value inside vs after
unfolding list_from
list_found Value value found zero items inside t after h = absurd cc
list_found Value value found (suc fuel) items inside t after h = by_step (list_steps Value value found items inside s.0 s.1) (λ us next t g. list_found Value value found fuel us next t after g)
  where
    finish_step : Step Tree → Result (Tree × List ℕ) YamlCause
    finish_step step = cond step.0 (value_ok (tree.List step.1) step.2) (list_from value fuel step.1 step.2)

    s : (step : Step Tree) × (list_step value items inside ≡ Ok step) × (finish_step step ≡ value_ok t after)
    s = bind_ok (list_step value items inside) finish_step (t, after) h

    Later : Type 0
    Later = (us : List Tree) (next : List ℕ) (t : Tree) → list_from value fuel us next ≡ Ok (t, after) → (vs : List Tree) × (t ≡ tree.List (us ++ vs)) × AreFlowItems Value next vs after

    by_end : (v : Tree) → s.0.1 ≡ items ++ v ∷ [] → ((s.0.0 ≡ true) × IsFlowItem Value inside v (93 ∷ s.0.2)) ⊎ ((s.0.0 ≡ false) × IsFlowItem Value inside v (44 ∷ s.0.2)) → Later
        → (vs : List Tree) × (t ≡ tree.List (items ++ vs)) × AreFlowItems Value inside vs after
    by_end v e (inl w) later =
        let g : value_ok (tree.List s.0.1) s.0.2 ≡ value_ok t after = rw w.0 at s.2 in
        let z = same_value (tree.List s.0.1) t s.0.2 after g in
        (v ∷ [], sym z.0 ∙ ap (λ us. tree.List us) e, (93 ∷ s.0.2, w.1, inl (ap (λ xs. 93 ∷ xs) z.1, refl)))
    by_end v e (inr w) later =
        let g : list_from value fuel s.0.1 s.0.2 ≡ value_ok t after = rw w.0 at s.2 in
        let l = later s.0.1 s.0.2 t g in
        (v ∷ l.0, l.1 ∙ ap (λ us. tree.List (us ++ l.0)) e ∙ ap (λ us. tree.List us) (append_assoc items (v ∷ []) l.0), (44 ∷ s.0.2, w.1, inr (s.0.2, refl, l.2)))

    by_step : IsStep 93 items inside (IsFlowItem Value inside) s.0 → Later → (vs : List Tree) × (t ≡ tree.List (items ++ vs)) × AreFlowItems Value inside vs after
    by_step (inl w) later =
        let g : value_ok (tree.List s.0.1) s.0.2 ≡ value_ok t after = rw w.0 at s.2 in
        let z = same_value (tree.List s.0.1) t s.0.2 after g in
        ([], sym z.0 ∙ ap (λ us. tree.List us) (w.1 ∙ sym (append-nil items)), w.2 ∙ ap (λ xs. Ok (93 ∷ xs)) z.1)
    by_step (inr w) later = by_end w.0 w.1 w.2 later

-- what is read of a flow map is its entries
pub map_found : (Value : List ℕ → Tree → List ℕ → Type 0) (value : Reader) → IsOnlyRead Value value → (fuel : ℕ) (before : List Pair) (inside : List ℕ) (t : Tree) (after : List ℕ)
    → map_from value fuel before inside ≡ Ok (t, after) → (ps : List Pair) × (t ≡ tree.Map (before ++ ps)) × AreFlowEntries Value before inside ps after
unfolding map_from
map_found Value value found zero before inside t after h = absurd cc
map_found Value value found (suc fuel) before inside t after h = by_step (map_steps Value value found before inside s.0 s.1) (λ us next t g. map_found Value value found fuel us next t after g)
  where
    finish_step : Step Pair → Result (Tree × List ℕ) YamlCause
    finish_step step = cond step.0 (value_ok (tree.Map step.1) step.2) (map_from value fuel step.1 step.2)

    s : (step : Step Pair) × (map_step value before inside ≡ Ok step) × (finish_step step ≡ value_ok t after)
    s = bind_ok (map_step value before inside) finish_step (t, after) h

    Later : Type 0
    Later = (us : List Pair) (next : List ℕ) (t : Tree) → map_from value fuel us next ≡ Ok (t, after) → (ps : List Pair) × (t ≡ tree.Map (us ++ ps)) × AreFlowEntries Value us next ps after

    by_end : (p : Pair) → s.0.1 ≡ before ++ p ∷ [] → ((s.0.0 ≡ true) × IsFlowEntry Value before inside p (125 ∷ s.0.2)) ⊎ ((s.0.0 ≡ false) × IsFlowEntry Value before inside p (44 ∷ s.0.2)) → Later
        → (ps : List Pair) × (t ≡ tree.Map (before ++ ps)) × AreFlowEntries Value before inside ps after
    by_end p e (inl w) later =
        let g : value_ok (tree.Map s.0.1) s.0.2 ≡ value_ok t after = rw w.0 at s.2 in
        let z = same_value (tree.Map s.0.1) t s.0.2 after g in
        (p ∷ [], sym z.0 ∙ ap (λ us. tree.Map us) e, (125 ∷ s.0.2, w.1, inl (ap (λ xs. 125 ∷ xs) z.1, refl)))
    by_end p e (inr w) later =
        let g : map_from value fuel s.0.1 s.0.2 ≡ value_ok t after = rw w.0 at s.2 in
        let l = later s.0.1 s.0.2 t g in (
          p ∷ l.0,
          l.1 ∙ ap (λ us. tree.Map (us ++ l.0)) e ∙ ap (λ us. tree.Map us) (append_assoc before (p ∷ []) l.0),
          (44 ∷ s.0.2, w.1, inr (s.0.2, refl, subst (λ us. AreFlowEntries Value us s.0.2 l.0 after) e l.2)),
        )

    by_step : IsStep 125 before inside (IsFlowEntry Value before inside) s.0 → Later → (ps : List Pair) × (t ≡ tree.Map (before ++ ps)) × AreFlowEntries Value before inside ps after
    by_step (inl w) later =
        let g : value_ok (tree.Map s.0.1) s.0.2 ≡ value_ok t after = rw w.0 at s.2 in
        let z = same_value (tree.Map s.0.1) t s.0.2 after g in
        ([], sym z.0 ∙ ap (λ us. tree.Map us) (w.1 ∙ sym (append-nil before)), w.2 ∙ ap (λ xs. Ok (125 ∷ xs)) z.1)
    by_step (inr w) later = by_end w.0 w.1 w.2 later
