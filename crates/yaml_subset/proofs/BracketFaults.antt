-- Reading tells the first fault of a flow list, a flow map, and a value on one line.
use Rattle.std.proofs.Common.{◌≡◌, ◌⊎◌, inl, inr, ℕ, zero, suc, ◌+◌, ◌-◌, ◌<◌, ◌≤◌, Bool, true, false, cond, ◌||◌, List, [], ◌∷◌, ◌++◌, length, drop, Result, Ok, Err, refl, sym, ◌∙◌, ap, subst, arith}
use Rattle.yaml_subset.specs.declared.fault.YamlForm.TheVariants.{LongFlow}
use Rattle.yaml_subset.specs.declared.fault.YamlCause.{YamlCause}
use Rattle.yaml_subset.specs.declared.fault.YamlCause.TheVariants.{TooDeep, LeftOut}
use Rattle.yaml_tree.specs.declared.tree.Tree.{Tree}
use Rattle.yaml_tree.specs.declared.tree.Tree.TheVariants as tree
use Rattle.yaml_tree.specs.declared.tree.Key.{Key}
use Rattle.yaml_tree.specs.declared.tree.Pair.{Pair}
use Rattle.yaml_subset.specs.Characters.{is_empty, begins, next_part, line_end}
use Rattle.yaml_subset.specs.Scalars.{scan, value_at, scalar_from}
use Rattle.yaml_subset.specs.Flow.{at_opening, opened, parted, entry_key, entry_value, with_entry, list_step, list_from, map_step, map_from, opens, flow_value}
use Rattle.yaml_subset.specs.Blocks.{line_value, block_value}
use Rattle.yaml_subset.specs.Gives.{◌>>=◌}
use Rattle.yaml_subset.specs.FirstFault.{Tells}
use Rattle.yaml_subset.specs.LineValue.{IsScalar, IsFlowItem, IsFlowEntry, IsFlowValue, IsNested, IsFlow}
use Rattle.yaml_subset.specs.ScalarFaults.{LineEndFault, ScalarFault}
use Rattle.yaml_subset.specs.FlowFaults.{InPart, BehindValue, KeyFault, IsNewKey, StartFault, PartedFault, ItemFault, ItemsFault, WrongValue, EntryValueFault, value_open, in_value, FlowEntryFault, EntriesFault, NestedFault, BracketFault, in_list, in_map, FlowFault, IsValue, LineValueFault, in_flow_value, in_scalar_value, behind_value}
use Rattle.yaml_subset.proofs.ScalarFaults.{line_end_tells, scalar_tells}
use Rattle.yaml_subset.proofs.FirstFaults.{tells_map, tells_if}
use Rattle.yaml_subset.proofs.FaultsBehind.{tells_as, tells_then, tells_shift, Later, first_same, same_ok, bind_assoc}
use Rattle.yaml_subset.proofs.FlowFaults.{tells_part, tells_value, no_true, clash, key_tells, key_reads, start_tells, parted_tells}
use Rattle.yaml_subset.proofs.FlowLaws.{flow_value_scalar}
use Rattle.yaml_subset.proofs.FlowParts.{scan_shrinks, drop_one, part_at_most}
use Rattle.yaml_subset.proofs.FlowValues.{Reader, IsRead, IsOnlyRead, NoLonger, opened_is, comma_is, key_is, value_is, value_shorter, Step, IsStep, list_steps, map_steps}
use Rattle.yaml_subset.proofs.FlowGrammar.{nested_shorter, flow_read, flow_found, flow_opens, begins_with, scalar_read, or_left, or_right}
use Rattle.yaml_subset.proofs.LineValues.{bind_ok, never_both, no_bracket, key_found}

abbrev Wrongs : Type 1
Wrongs = List ℕ → ℕ → YamlCause → Type 0

abbrev IsTold : Wrongs → Reader → Type 0
IsTold Wrong value = (start : List ℕ) → Tells (Wrong start) (value start)

-- a step behind which a comma comes
going_on : {U : Type 0} (closing : ℕ) (us : List U) (inside : List ℕ) (One : U → List ℕ → Type 0) (s : Step U) → s.0 ≡ false → IsStep closing us inside One s → (u : U) × (s.1 ≡ us ++ u ∷ []) × One u (44 ∷ s.2)
going_on closing us inside One s f (inl w) = absurd (clash s.0 w.0 f)
going_on closing us inside One s f (inr (u, e, inl w)) = absurd (clash s.0 w.0 f)
going_on closing us inside One s f (inr (u, e, inr w)) = (u, e, w.1)

-- ---- flow lists

abbrev ListStep : Type 0
ListStep = Step Tree

item_tells : (Value : List ℕ → Tree → List ℕ → Type 0) (Wrong : Wrongs) (value : Reader) → IsRead Value value → IsOnlyRead Value value → IsTold Wrong value
    → (items : List Tree) (inside : List ℕ) → Tells (ItemFault Value Wrong inside) (list_step value items inside)
unfolding list_step opened
item_tells Value Wrong value reads found told items inside =
    subst (Tells (ItemFault Value Wrong inside)) (sym (bind_assoc (next_part false inside) (at_opening 93) step))
    (tells_part false inside (StartFault 93 (PartedFault 93 Value Wrong)) (λ part. at_opening 93 part >>= step)
    (λ part e. start_tells 93 (PartedFault 93 Value Wrong) part step (λ xs. ((true, items, xs), refl))
    (λ s n. parted_tells 93 Value Wrong part (value part) (λ item p. (p.0, items ++ item.0 ∷ [], p.1)) (reads part) (found part) (told part))))
  where
    step : Bool × List ℕ → Result ListStep YamlCause
    step opening = cond opening.0 (Ok (true, items, opening.1)) (value opening.1 >>= λ item. parted 93 item.1 >>= λ part. Ok (part.0, items ++ item.0 ∷ [], part.1))

item_read : (Value : List ℕ → Tree → List ℕ → Type 0) (value : Reader) → IsRead Value value → (items : List Tree) (inside : List ℕ) (v : Tree) (next : List ℕ)
    → IsFlowItem Value inside v (44 ∷ next) → list_step value items inside ≡ Ok (false, items ++ v ∷ [], next)
unfolding list_step
item_read Value value reads items inside v next item =
    rw (opened_is 93 inside item.start item.begins_at item.some item.unclosed, reads item.start v item.after item.value, comma_is 93 item.after next refl item.ends_at) refl

abbrev FoundItem : (List ℕ → Tree → List ℕ → Type 0) → List Tree → List ℕ → ListStep → Type 0
FoundItem Value items inside s = (v : Tree) × (s.1 ≡ items ++ v ∷ []) × IsFlowItem Value inside v (44 ∷ s.2)

item_found : (Value : List ℕ → Tree → List ℕ → Type 0) (value : Reader) → IsOnlyRead Value value → (items : List Tree) (inside : List ℕ) (s : ListStep)
    → list_step value items inside ≡ Ok s → s.0 ≡ false → FoundItem Value items inside s
item_found Value value found items inside s h f = going_on 93 items inside (IsFlowItem Value inside) s f (list_steps Value value found items inside s h)

item_shorter : (Value : List ℕ → Tree → List ℕ → Type 0) → NoLonger Value → (inside : List ℕ) (v : Tree) (next : List ℕ) → IsFlowItem Value inside v (44 ∷ next) → length next < length inside
item_shorter Value short inside v next item =
    omega (arith, part_at_most false inside item.start item.begins_at, short item.start v item.after item.value, part_at_most false item.after (44 ∷ next) item.ends_at)

abbrev ListFault : (List ℕ → Tree → List ℕ → Type 0) → Wrongs → List ℕ → ℕ → YamlCause → Type 0
ListFault Value Wrong inside at c = (vs : List Tree) × ItemsFault Value Wrong vs inside at c

no_item : (Value : List ℕ → Tree → List ℕ → Type 0) (v : Tree) (next : List ℕ) → IsFlowItem Value [] v next → ⊥
no_item Value v next item = none item.start item.some (part_at_most false [] item.start item.begins_at)
  where
    none : (xs : List ℕ) → is_empty xs ≡ false → length xs ≤ 0 → ⊥
    none [] e l = no_true (sym e)
    none (x ∷ xs) e l = omega arith

list_tells : (Value : List ℕ → Tree → List ℕ → Type 0) (Wrong : Wrongs) (value : Reader) → IsRead Value value → IsOnlyRead Value value → NoLonger Value → IsTold Wrong value
    → (fuel : ℕ) (items : List Tree) (inside : List ℕ) → length inside ≤ fuel → Tells (ListFault Value Wrong inside) (list_from value fuel items inside)
unfolding list_from list_step opened next_part
list_tells Value Wrong value reads found short told zero items (x ∷ xs) few = absurd (omega arith)
list_tells Value Wrong value reads found short told zero items [] few =
    let t : Tells {X = Tree × List ℕ} (ItemFault Value Wrong []) (Err (LeftOut LongFlow)) = item_tells Value Wrong value reads found told items [] in
    tells_as (ItemFault Value Wrong []) (ListFault Value Wrong []) (list_from value zero items []) (λ at c f. ([], f)) (λ at c f. only at c f.0 f.1) t
  where
    only : (at : ℕ) (c : YamlCause) (vs : List Tree) → ItemsFault Value Wrong vs [] at c → ItemFault Value Wrong [] at c
    only at c [] f = f
    only at c (v ∷ vs) f = absurd (no_item Value v (44 ∷ f.0) f.1)
list_tells Value Wrong value reads found short told (suc fuel) items inside few =
    tells_as (λ at c. ItemFault Value Wrong inside at c ⊎ Later (list_step value items inside) shift Then at c) (ListFault Value Wrong inside) (list_from value (suc fuel) items inside)
    (λ at c w. elim w [ inl h ↦ ([], h) | inr l ↦ to at c l.0 l.1 l.2 l.3 l.4 ])
    (λ at c w. back at c w.0 w.1)
    (tells_then (ItemFault Value Wrong inside) (list_step value items inside) shift Then more (item_tells Value Wrong value reads found told items inside)
    (λ s e. by_step s e (λ us next l. list_tells Value Wrong value reads found short told fuel us next l)))
  where
    shift : ListStep → ℕ
    shift s = length inside - length s.2

    Then : ListStep → ℕ → YamlCause → Type 0
    Then s at c = (s.0 ≡ false) × ListFault Value Wrong s.2 at c

    more : ListStep → Result (Tree × List ℕ) YamlCause
    more s = cond s.0 (Ok (tree.List s.1, s.2)) (list_from value fuel s.1 s.2)

    to : (at : ℕ) (c : YamlCause) (s : ListStep) → list_step value items inside ≡ Ok s → (i : ℕ) → at ≡ shift s + i → Then s i c → ListFault Value Wrong inside at c
    to at c s e i p w = let f = item_found Value value found items inside s e w.0 in (f.0 ∷ w.1.0, (s.2, f.2, i, p, w.1.1))

    back : (at : ℕ) (c : YamlCause) (vs : List Tree) → ItemsFault Value Wrong vs inside at c → ItemFault Value Wrong inside at c ⊎ Later (list_step value items inside) shift Then at c
    back at c [] f = inl f
    back at c (v ∷ vs) f = inr ((false, items ++ v ∷ [], f.0), item_read Value value reads items inside v f.0 f.1, f.2, f.3, (refl, (vs, f.4)))

    goes_on : (s : ListStep) → list_step value items inside ≡ Ok s → ((us : List Tree) (next : List ℕ) → length next ≤ fuel → Tells (ListFault Value Wrong next) (list_from value fuel us next)) → s.0 ≡ false → Tells (Then s) (list_from value fuel s.1 s.2)
    goes_on s e rec b =
        let f = item_found Value value found items inside s e b in
        let l = item_shorter Value short inside f.0 s.2 f.2 in
        tells_as (ListFault Value Wrong s.2) (Then s) (list_from value fuel s.1 s.2) (λ at c g. (b, g)) (λ at c g. g.1) (rec s.1 s.2 (omega (arith, l, few)))

    by_step : (s : ListStep) → list_step value items inside ≡ Ok s → ((us : List Tree) (next : List ℕ) → length next ≤ fuel → Tells (ListFault Value Wrong next) (list_from value fuel us next)) → Tells (Then s) (more s)
    by_step s e rec = tells_if (Then s) s.0 (Ok (tree.List s.1, s.2)) (list_from value fuel s.1 s.2) (λ b at c w. clash s.0 b w.0) (λ b. goes_on s e rec b)

-- ---- flow maps

abbrev MapStep : Type 0
MapStep = Step Pair

null_tells : {Z : Type 0} (Value : List ℕ → Tree → List ℕ → Type 0) (Wrong : Wrongs) (value : Reader) → IsRead Value value → IsOnlyRead Value value → IsTold Wrong value
    → (k : Tree × List ℕ → Bool × List ℕ → Z) (part : List ℕ)
    → Tells (EntryValueFault Value Wrong part) (cond (is_empty part) (Err (LeftOut LongFlow)) (cond (begins 44 part || begins 125 part) (Ok (tree.Null, part)) (value part)) >>= λ v. parted 125 v.1 >>= λ p. Ok (k v p))
null_tells Value Wrong value reads found told k [] = (
  0,
  record {
    there = value_open (refl, refl, refl);
    least = λ at c w. elim w [ value_open o ↦ first_same 0 at (LeftOut LongFlow) c o.1 o.2 | in_value e f ↦ absurd (no_true (sym e)) ];
  },
)
null_tells {Z = Z} Value Wrong value reads found told k (x ∷ xs) =
    tells_as (PartedFault 125 (IsFlowValue Value) (WrongValue Wrong) (x ∷ xs)) (EntryValueFault Value Wrong (x ∷ xs)) (r >>= λ v. parted 125 v.1 >>= λ p. Ok (k v p))
    (λ at c f. in_value refl f)
    (λ at c w. elim w [ value_open o ↦ absurd (no_true (ap is_empty o.0)) | in_value e f ↦ f ])
    (parted_tells 125 (IsFlowValue Value) (WrongValue Wrong) (x ∷ xs) r k is (λ v after h. only v after null refl h) (tells null refl))
  where
    null : Bool
    null = begins 44 (x ∷ xs) || begins 125 (x ∷ xs)

    r : Result (Tree × List ℕ) YamlCause
    r = cond (begins 44 (x ∷ xs) || begins 125 (x ∷ xs)) (Ok (tree.Null, x ∷ xs)) (value (x ∷ xs))

    is : (v : Tree) (after : List ℕ) → IsFlowValue Value (x ∷ xs) v after → r ≡ Ok (v, after)
    is v after (inl w) = rw w.0 (ap (λ t. Ok (t, x ∷ xs)) (sym w.1) ∙ ap (λ ys. Ok (v, ys)) (sym w.2))
    is v after (inr w) = rw w.0 (reads (x ∷ xs) v after w.1)

    only : (v : Tree) (after : List ℕ) (b : Bool) → begins 44 (x ∷ xs) || begins 125 (x ∷ xs) ≡ b → r ≡ Ok (v, after) → IsFlowValue Value (x ∷ xs) v after
    only v after true b h =
        let q : (tree.Null, x ∷ xs) ≡ (v, after) = same_ok (tree.Null, x ∷ xs) (v, after) (rw b at h) in
        inl (b, sym (ap (λ y. y.0) q), sym (ap (λ y. y.1) q))
    only v after false b h = let q : value (x ∷ xs) ≡ Ok (v, after) = rw b at h in inr (b, found (x ∷ xs) v after q)

    tells : (b : Bool) → begins 44 (x ∷ xs) || begins 125 (x ∷ xs) ≡ b → Tells (WrongValue Wrong (x ∷ xs)) r
    tells true b = rw b (λ at c w. clash (begins 44 (x ∷ xs) || begins 125 (x ∷ xs)) b w.0)
    tells false b = rw b (tells_as (Wrong (x ∷ xs)) (WrongValue Wrong (x ∷ xs)) (value (x ∷ xs)) (λ at c f. (b, f)) (λ at c w. w.1) (told (x ∷ xs)))

entry_tells : (Value : List ℕ → Tree → List ℕ → Type 0) (Wrong : Wrongs) (value : Reader) → IsRead Value value → IsOnlyRead Value value → IsTold Wrong value
    → (before : List Pair) (inside : List ℕ) → Tells (EntriesFault Value Wrong before [] inside) (map_step value before inside)
unfolding map_step opened entry_value
entry_tells Value Wrong value reads found told before inside =
    subst (Tells (EntriesFault Value Wrong before [] inside)) (sym (bind_assoc (next_part false inside) (at_opening 125) step))
    (tells_part false inside (StartFault 125 (FlowEntryFault Value Wrong before)) (λ part. at_opening 125 part >>= step)
    (λ part e. start_tells 125 (FlowEntryFault Value Wrong before) part step (λ xs. ((true, before, xs), refl)) (λ s n. at_start part)))
  where
    behind_key : Key → List ℕ → Result MapStep YamlCause
    behind_key k rest = entry_value value rest >>= λ v. parted 125 v.1 >>= λ part. Ok (part.0, with_entry before k v.0, part.1)

    step : Bool × List ℕ → Result MapStep YamlCause
    step opening = cond opening.0 (Ok (true, before, opening.1)) (entry_key true before opening.1 >>= λ k. entry_value value k.1 >>= λ v. parted 125 v.1 >>= λ part. Ok (part.0, with_entry before k.0 v.0, part.1))

    null_or_value : List ℕ → Result (Tree × List ℕ) YamlCause
    null_or_value next = cond (is_empty next) (Err (LeftOut LongFlow)) (cond (begins 44 next || begins 125 next) (Ok (tree.Null, next)) (value next))

    with_value : Key → Tree × List ℕ → Result MapStep YamlCause
    with_value k v = parted 125 v.1 >>= λ part. Ok (part.0, with_entry before k v.0, part.1)

    value_tells : (k : Key) (rest : List ℕ) → Tells (InPart false rest (EntryValueFault Value Wrong)) (behind_key k rest)
    value_tells k rest =
        subst (Tells (InPart false rest (EntryValueFault Value Wrong))) (sym (bind_assoc (next_part false rest) null_or_value (with_value k)))
        (tells_part false rest (EntryValueFault Value Wrong) (λ part. null_or_value part >>= with_value k)
        (λ part e. null_tells Value Wrong value reads found told (λ v p. (p.0, with_entry before k v.0, p.1)) part))

    at_start : (part : List ℕ) → Tells (FlowEntryFault Value Wrong before part) (entry_key true before part >>= λ k. behind_key k.0 k.1)
    at_start part =
        tells_value (IsNewKey true before) (KeyFault true before part) part (entry_key true before part) (λ k after. InPart false after (EntryValueFault Value Wrong)) (λ k. behind_key k.0 k.1)
        (key_reads true before part) (key_found true before part) (key_tells true before part) (λ k after e. value_tells k after)

entry_read : (Value : List ℕ → Tree → List ℕ → Type 0) (value : Reader) → IsRead Value value → (before : List Pair) (inside : List ℕ) (p : Pair) (next : List ℕ)
    → IsFlowEntry Value before inside p (44 ∷ next) → map_step value before inside ≡ Ok (false, before ++ p ∷ [], next)
unfolding map_step
entry_read Value value reads before inside p next entry =
    rw (
      opened_is 125 inside entry.start entry.begins_at entry.some entry.unclosed,
      key_is before entry.start entry.scanned entry.colon_at p.key entry.scalar entry.colon entry.key entry.first,
      value_is Value value reads (drop 1 entry.colon_at) entry.part p.value entry.after entry.value_at entry.ended entry.value,
      comma_is 125 entry.after next refl entry.ends_at,
    ) refl

abbrev FoundEntry : (List ℕ → Tree → List ℕ → Type 0) → List Pair → List ℕ → MapStep → Type 0
FoundEntry Value before inside s = (p : Pair) × (s.1 ≡ before ++ p ∷ []) × IsFlowEntry Value before inside p (44 ∷ s.2)

entry_found : (Value : List ℕ → Tree → List ℕ → Type 0) (value : Reader) → IsOnlyRead Value value → (before : List Pair) (inside : List ℕ) (s : MapStep)
    → map_step value before inside ≡ Ok s → s.0 ≡ false → FoundEntry Value before inside s
entry_found Value value found before inside s h f = going_on 125 before inside (IsFlowEntry Value before inside) s f (map_steps Value value found before inside s h)

entry_shorter : (Value : List ℕ → Tree → List ℕ → Type 0) → NoLonger Value → (before : List Pair) (inside : List ℕ) (p : Pair) (next : List ℕ) → IsFlowEntry Value before inside p (44 ∷ next) → length next < length inside
entry_shorter Value short before inside p next entry = omega (
  arith,
  part_at_most false inside entry.start entry.begins_at,
  scan_shrinks true entry.start entry.scanned entry.colon_at entry.scalar,
  drop_one entry.colon_at,
  part_at_most false (drop 1 entry.colon_at) entry.part entry.value_at,
  value_shorter Value short entry.part p.value entry.after entry.value,
  part_at_most false entry.after (44 ∷ next) entry.ends_at,
)

abbrev MapFault : (List ℕ → Tree → List ℕ → Type 0) → Wrongs → List Pair → List ℕ → ℕ → YamlCause → Type 0
MapFault Value Wrong before inside at c = (ps : List Pair) × EntriesFault Value Wrong before ps inside at c

no_entry : (Value : List ℕ → Tree → List ℕ → Type 0) (before : List Pair) (p : Pair) (next : List ℕ) → IsFlowEntry Value before [] p next → ⊥
no_entry Value before p next entry = none entry.start entry.some (part_at_most false [] entry.start entry.begins_at)
  where
    none : (xs : List ℕ) → is_empty xs ≡ false → length xs ≤ 0 → ⊥
    none [] e l = no_true (sym e)
    none (x ∷ xs) e l = omega arith

map_tells : (Value : List ℕ → Tree → List ℕ → Type 0) (Wrong : Wrongs) (value : Reader) → IsRead Value value → IsOnlyRead Value value → NoLonger Value → IsTold Wrong value
    → (fuel : ℕ) (before : List Pair) (inside : List ℕ) → length inside ≤ fuel → Tells (MapFault Value Wrong before inside) (map_from value fuel before inside)
unfolding map_from map_step opened next_part
map_tells Value Wrong value reads found short told zero before (x ∷ xs) few = absurd (omega arith)
map_tells Value Wrong value reads found short told zero before [] few =
    let t : Tells {X = Tree × List ℕ} (EntriesFault Value Wrong before [] []) (Err (LeftOut LongFlow)) = entry_tells Value Wrong value reads found told before [] in
    tells_as (EntriesFault Value Wrong before [] []) (MapFault Value Wrong before []) (map_from value zero before []) (λ at c f. ([], f)) (λ at c f. only at c f.0 f.1) t
  where
    only : (at : ℕ) (c : YamlCause) (ps : List Pair) → EntriesFault Value Wrong before ps [] at c → EntriesFault Value Wrong before [] [] at c
    only at c [] f = f
    only at c (p ∷ ps) f = absurd (no_entry Value before p (44 ∷ f.0) f.1)
map_tells Value Wrong value reads found short told (suc fuel) before inside few =
    tells_as (λ at c. EntriesFault Value Wrong before [] inside at c ⊎ Later (map_step value before inside) shift Then at c) (MapFault Value Wrong before inside) (map_from value (suc fuel) before inside)
    (λ at c w. elim w [ inl h ↦ ([], h) | inr l ↦ to at c l.0 l.1 l.2 l.3 l.4 ])
    (λ at c w. back at c w.0 w.1)
    (tells_then (EntriesFault Value Wrong before [] inside) (map_step value before inside) shift Then more (entry_tells Value Wrong value reads found told before inside)
    (λ s e. by_step s e (λ us next l. map_tells Value Wrong value reads found short told fuel us next l)))
  where
    shift : MapStep → ℕ
    shift s = length inside - length s.2

    Then : MapStep → ℕ → YamlCause → Type 0
    Then s at c = (s.0 ≡ false) × MapFault Value Wrong s.1 s.2 at c

    more : MapStep → Result (Tree × List ℕ) YamlCause
    more s = cond s.0 (Ok (tree.Map s.1, s.2)) (map_from value fuel s.1 s.2)

    to : (at : ℕ) (c : YamlCause) (s : MapStep) → map_step value before inside ≡ Ok s → (i : ℕ) → at ≡ shift s + i → Then s i c → MapFault Value Wrong before inside at c
    to at c s e i p w =
        let f = entry_found Value value found before inside s e w.0 in
        (f.0 ∷ w.1.0, (s.2, f.2, i, p, subst (λ us. EntriesFault Value Wrong us w.1.0 s.2 i c) f.1 w.1.1))

    back : (at : ℕ) (c : YamlCause) (ps : List Pair) → EntriesFault Value Wrong before ps inside at c → EntriesFault Value Wrong before [] inside at c ⊎ Later (map_step value before inside) shift Then at c
    back at c [] f = inl f
    back at c (p ∷ ps) f = inr ((false, before ++ p ∷ [], f.0), entry_read Value value reads before inside p f.0 f.1, f.2, f.3, (refl, (ps, f.4)))

    goes_on : (s : MapStep) → map_step value before inside ≡ Ok s → ((us : List Pair) (next : List ℕ) → length next ≤ fuel → Tells (MapFault Value Wrong us next) (map_from value fuel us next)) → s.0 ≡ false → Tells (Then s) (map_from value fuel s.1 s.2)
    goes_on s e rec b =
        let f = entry_found Value value found before inside s e b in
        let l = entry_shorter Value short before inside f.0 s.2 f.2 in
        tells_as (MapFault Value Wrong s.1 s.2) (Then s) (map_from value fuel s.1 s.2) (λ at c g. (b, g)) (λ at c g. g.1) (rec s.1 s.2 (omega (arith, l, few)))

    by_step : (s : MapStep) → map_step value before inside ≡ Ok s → ((us : List Pair) (next : List ℕ) → length next ≤ fuel → Tells (MapFault Value Wrong us next) (map_from value fuel us next)) → Tells (Then s) (more s)
    by_step s e rec = tells_if (Then s) s.0 (Ok (tree.Map s.1, s.2)) (map_from value fuel s.1 s.2) (λ b at c w. clash s.0 b w.0) (λ b. goes_on s e rec b)

-- ---- flow lists and maps

fault_opens : (n : ℕ) (rest : List ℕ) (at : ℕ) (c : YamlCause) → FlowFault n rest at c → opens rest ≡ true
fault_opens zero rest at c f = f.0
fault_opens (suc n) rest at c (in_list inside e vs i p f) = ap opens e
fault_opens (suc n) rest at c (in_map inside e ps i p f) = ap opens e

nested_tells : (n : ℕ) → ((rest : List ℕ) → opens rest ≡ true → Tells (FlowFault n rest) (flow_value n rest)) → IsTold (NestedFault (FlowFault n)) (flow_value n)
nested_tells n flow rest = by_opens (opens rest) refl
  where
    by_opens : (b : Bool) → opens rest ≡ b → Tells (NestedFault (FlowFault n) rest) (flow_value n rest)
    by_opens true o =
        tells_as (FlowFault n rest) (NestedFault (FlowFault n) rest) (flow_value n rest) (λ at c f. inr f)
        (λ at c w. elim w [ inl s ↦ absurd (clash (opens rest) o s.0) | inr f ↦ f ]) (flow rest o)
    by_opens false o =
        let e : flow_value n rest ≡ scalar_from true rest = flow_value_scalar n rest (or_left (begins 91 rest) (begins 123 rest) o) (or_right (begins 91 rest) (begins 123 rest) o) in
        subst (Tells (NestedFault (FlowFault n) rest)) (sym e)
        (tells_as (ScalarFault true rest) (NestedFault (FlowFault n) rest) (scalar_from true rest) (λ at c f. inl (o, f))
        (λ at c w. elim w [ inl s ↦ s.1 | inr f ↦ absurd (clash (opens rest) (fault_opens n rest at c f) o) ]) (scalar_tells true rest))

nested_found : (n : ℕ) → IsOnlyRead (IsNested (IsFlow n)) (flow_value n)
nested_found n = flow_found n

nested_read : (n : ℕ) → IsRead (IsNested (IsFlow n)) (flow_value n)
nested_read n start v after (inl s) = scalar_read n start v after s
nested_read n start v after (inr f) = flow_read n start v after f

pub flow_tells : (n : ℕ) (rest : List ℕ) → opens rest ≡ true → Tells (FlowFault n rest) (flow_value n rest)
unfolding flow_value
flow_tells zero rest o = rw o (0, record { there = (o, refl, refl); least = λ at c f. first_same 0 at TooDeep c f.1 f.2 })
flow_tells (suc n) rest o = by_tests (begins 91 rest) (begins 123 rest) refl refl o (nested_tells n (λ start q. flow_tells n start q))
  where
    Value : List ℕ → Tree → List ℕ → Type 0
    Value = IsNested (IsFlow n)

    Wrong : List ℕ → ℕ → YamlCause → Type 0
    Wrong = NestedFault (FlowFault n)

    by_tests : (a b : Bool) → begins 91 rest ≡ a → begins 123 rest ≡ b → a || b ≡ true → IsTold (NestedFault (FlowFault n)) (flow_value n)
        → Tells (BracketFault (IsNested (IsFlow n)) (NestedFault (FlowFault n)) rest)
        (cond (a || b) (cond a (list_from (flow_value n) (length (drop 1 rest)) [] (drop 1 rest)) (map_from (flow_value n) (length (drop 1 rest)) [] (drop 1 rest))) (scalar_from true rest))
    by_tests true b e f h told =
        let L : ℕ → YamlCause → Type 0 = ListFault Value Wrong (drop 1 rest) in
        let r = list_from (flow_value n) (length (drop 1 rest)) [] (drop 1 rest) in
        tells_as (λ at c. (i : ℕ) × (at ≡ 1 + i) × L i c) (BracketFault Value Wrong rest) r
        (λ at c w. in_list (drop 1 rest) (begins_with 91 rest e) w.2.0 w.0 w.1 w.2.1)
        (λ at c w. elim w [
          | in_list inside q vs i p g ↦ (i, p, (vs, subst (λ xs. ItemsFault Value Wrong vs xs i c) (sym (ap (drop 1) q)) g))
          | in_map inside q ps i p g ↦ absurd (clash (begins 91 rest) e (ap (begins 91) q))
        ])
        (tells_shift 1 L r (list_tells Value Wrong (flow_value n) (nested_read n) (nested_found n) (nested_shorter n) told (length (drop 1 rest)) [] (drop 1 rest) (omega arith)))
    by_tests false true e f h told =
        let L : ℕ → YamlCause → Type 0 = MapFault Value Wrong [] (drop 1 rest) in
        let r = map_from (flow_value n) (length (drop 1 rest)) [] (drop 1 rest) in
        tells_as (λ at c. (i : ℕ) × (at ≡ 1 + i) × L i c) (BracketFault Value Wrong rest) r
        (λ at c w. in_map (drop 1 rest) (begins_with 123 rest f) w.2.0 w.0 w.1 w.2.1)
        (λ at c w. elim w [
          | in_list inside q vs i p g ↦ absurd (clash (begins 123 rest) f (ap (begins 123) q))
          | in_map inside q ps i p g ↦ (i, p, (ps, subst (λ xs. EntriesFault Value Wrong [] ps xs i c) (sym (ap (drop 1) q)) g))
        ])
        (tells_shift 1 L r (map_tells Value Wrong (flow_value n) (nested_read n) (nested_found n) (nested_shorter n) told (length (drop 1 rest)) [] (drop 1 rest) (omega arith)))
    by_tests false false e f h told = absurd (no_true h)

-- ---- a value on one line

pub value_tells : (n : ℕ) (part : List ℕ) → Tells (LineValueFault n part) (block_value n part)
unfolding block_value scalar_from
value_tells n part =
    tells_as (λ at c. Here at c ⊎ BehindValue (IsValue n) part (λ v after. LineEndFault after) at c) (LineValueFault n part) (block_value n part)
    (λ at c w. elim w [ inl h ↦ to at c h | inr b ↦ behind_value b ])
    (λ at c w. elim w [ in_flow_value o f ↦ inl (inl (o, f)) | in_scalar_value o f ↦ inl (inr (o, f)) | behind_value b ↦ inr b ])
    (tells_value (IsValue n) Here part read (λ v after. LineEndFault after) line_value reads (λ v after h. found v after (opens part) refl h) (here (opens part) refl)
    (λ v after e. tells_map (LineEndFault after) (line_end after) (λ u. v) (line_end_tells after)))
  where
    Here : ℕ → YamlCause → Type 0
    Here at c = ((opens part ≡ true) × FlowFault n part at c) ⊎ ((opens part ≡ false) × ScalarFault false part at c)

    read : Result (Tree × List ℕ) YamlCause
    read = cond (opens part) (flow_value n part) (scalar_from false part)

    to : (at : ℕ) (c : YamlCause) → Here at c → LineValueFault n part at c
    to at c (inl w) = in_flow_value w.0 w.1
    to at c (inr w) = in_scalar_value w.0 w.1

    here : (b : Bool) → opens part ≡ b → Tells Here read
    here true o =
        rw o (tells_as (FlowFault n part) Here (flow_value n part) (λ at c f. inl (o, f)) (λ at c w. elim w [ inl f ↦ f.1 | inr f ↦ absurd (clash (opens part) o f.0) ]) (flow_tells n part o))
    here false o =
        rw o (tells_as (ScalarFault false part) Here (scalar_from false part) (λ at c f. inr (o, f)) (λ at c w. elim w [ inl f ↦ absurd (clash (opens part) f.0 o) | inr f ↦ f.1 ]) (scalar_tells false part))

    scalar_opens : (v : Tree) (after : List ℕ) → IsScalar false part v after → (b : Bool) → opens part ≡ b → read ≡ Ok (v, after)
    scalar_opens v after s true o = absurd (never_both (scan false part) (s.0, after) (no_bracket false part o) s.1)
    scalar_opens v after s false o = rw (o, s.1, s.2) refl

    reads : (v : Tree) (after : List ℕ) → IsValue n part v after → read ≡ Ok (v, after)
    reads v after (inl s) = scalar_opens v after s (opens part) refl
    reads v after (inr f) = rw (flow_opens n part v after f) (flow_read n part v after f)

    of_nested : (v : Tree) (after : List ℕ) → opens part ≡ true → IsNested (IsFlow n) part v after → IsValue n part v after
    of_nested v after o (inl s) = absurd (never_both (scan true part) (s.0, after) (no_bracket true part o) s.1)
    of_nested v after o (inr f) = inr f

    value_ok : Tree → List ℕ → Result (Tree × List ℕ) YamlCause
    value_ok v xs = Ok (v, xs)

    found : (v : Tree) (after : List ℕ) (b : Bool) → opens part ≡ b → read ≡ Ok (v, after) → IsValue n part v after
    found v after true o h = let q : flow_value n part ≡ Ok (v, after) = rw o at h in of_nested v after o (flow_found n part v after q)
    found v after false o h =
        let q : (scan false part >>= λ s. value_at s.0 s.1 >>= λ w. value_ok w s.1) ≡ Ok (v, after) = rw o at h in
        let s = bind_ok (scan false part) (λ s. value_at s.0 s.1 >>= λ w. value_ok w s.1) (v, after) q in
        let w = bind_ok (value_at s.0.0 s.0.1) (λ w. value_ok w s.0.1) (v, after) s.2 in
        let e : (w.0, s.0.1) ≡ (v, after) = same_ok (w.0, s.0.1) (v, after) w.2 in
        inl (s.0.0, s.1 ∙ ap (λ (x : Tree × List ℕ). Ok (s.0.0, x.1)) e, subst (λ xs. value_at s.0.0 xs ≡ Ok v) (ap (λ (x : Tree × List ℕ). x.1) e) (w.1 ∙ ap (λ (x : Tree × List ℕ). Ok x.0) e))
