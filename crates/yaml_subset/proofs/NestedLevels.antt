-- The levels in the grammar say no more than how deep the tree is.
use Rattle.std.proofs.Common.{◌≡◌, ◌⊎◌, inl, inr, ℕ, zero, suc, ◌+◌, ◌≤◌, false, List, [], ◌∷◌, ◌++◌, ◌∙◌, ap, arith}
use Rattle.std.specs.Prelude.{map}
use Rattle.yaml_tree.specs.declared.tree.Tree.{Tree}
use Rattle.yaml_tree.specs.declared.tree.Tree.TheVariants as tree
use Rattle.yaml_tree.specs.declared.tree.Pair.{Pair}
use Rattle.yaml_subset.specs.LineValue.{IsScalar, IsFlowItem, AreFlowItems, IsFlowValue, IsFlowEntry, AreFlowEntries, IsNested, IsFlow, IsLineValue}
use Rattle.yaml_subset.specs.Levels.{most, levels, pair_levels}
use Rattle.yaml_subset.proofs.TreeLevels.{levels_list, levels_map, levels_pair}

pub levels_of_list : (v : Tree) (items : List Tree) → v ≡ tree.List items → levels v ≡ 1 + most (map levels items)
levels_of_list v items e = ap levels e ∙ levels_list items

pub levels_of_map : (v : Tree) (pairs : List Pair) → v ≡ tree.Map pairs → levels v ≡ 1 + most (map pair_levels pairs)
levels_of_map v pairs e = ap levels e ∙ levels_map pairs

-- a value of one relation that nests at most n levels is one of the other
abbrev pub Within : ℕ → (List ℕ → Tree → List ℕ → Type 0) → (List ℕ → Tree → List ℕ → Type 0) → Type 0
Within n Value Value' = (start : List ℕ) (v : Tree) (after : List ℕ) → levels v ≤ n → Value start v after → Value' start v after

items_within : (n : ℕ) (Value Value' : List ℕ → Tree → List ℕ → Type 0) → Within n Value Value' → (vs : List Tree) (inside after : List ℕ) → most (map levels vs) ≤ n → AreFlowItems Value inside vs after → AreFlowItems Value' inside vs after
items_within n Value Value' w [] inside after l are = are
items_within n Value Value' w (v ∷ vs) inside after l are = (are.0, item, by_end are.2 (λ next a. items_within n Value Value' w vs next after (omega arith) a))
  where
    item : IsFlowItem Value' inside v are.0
    item = record { start = are.1.start; after = are.1.after; begins_at = are.1.begins_at; some = are.1.some; unclosed = are.1.unclosed; value = w are.1.start v are.1.after (omega (arith, l)) are.1.value; ends_at = are.1.ends_at }

    by_end : ((are.0 ≡ 93 ∷ after) × (vs ≡ [])) ⊎ ((next : List ℕ) × (are.0 ≡ 44 ∷ next) × AreFlowItems Value next vs after)
        → ((next : List ℕ) → AreFlowItems Value next vs after → AreFlowItems Value' next vs after)
        → ((are.0 ≡ 93 ∷ after) × (vs ≡ [])) ⊎ ((next : List ℕ) × (are.0 ≡ 44 ∷ next) × AreFlowItems Value' next vs after)
    by_end (inl e) rec = inl e
    by_end (inr e) rec = inr (e.0, e.1, rec e.0 e.2)

value_within : (n : ℕ) (Value Value' : List ℕ → Tree → List ℕ → Type 0) → Within n Value Value' → (part : List ℕ) (v : Tree) (after : List ℕ) → levels v ≤ n → IsFlowValue Value part v after → IsFlowValue Value' part v after
value_within n Value Value' w part v after l (inl e) = inl e
value_within n Value Value' w part v after l (inr e) = inr (e.0, w part v after l e.1)

entries_within : (n : ℕ) (Value Value' : List ℕ → Tree → List ℕ → Type 0) → Within n Value Value' → (ps before : List Pair) (inside after : List ℕ) → most (map pair_levels ps) ≤ n → AreFlowEntries Value before inside ps after → AreFlowEntries Value' before inside ps after
entries_within n Value Value' w [] before inside after l are = are
entries_within n Value Value' w (p ∷ ps) before inside after l are = (are.0, entry are.1, by_end are.2 (λ next a. entries_within n Value Value' w ps (before ++ p ∷ []) next after (omega arith) a))
  where
    entry : IsFlowEntry Value before inside p are.0 → IsFlowEntry Value' before inside p are.0
    entry e = record {
      start = e.start;
      scanned = e.scanned;
      colon_at = e.colon_at;
      part = e.part;
      after = e.after;
      begins_at = e.begins_at;
      some = e.some;
      unclosed = e.unclosed;
      scalar = e.scalar;
      colon = e.colon;
      key = e.key;
      first = e.first;
      value_at = e.value_at;
      ended = e.ended;
      value = value_within n Value Value' w e.part p.value e.after (omega (arith, l, levels_pair p)) e.value;
      ends_at = e.ends_at;
    }

    by_end : ((are.0 ≡ 125 ∷ after) × (ps ≡ [])) ⊎ ((next : List ℕ) × (are.0 ≡ 44 ∷ next) × AreFlowEntries Value (before ++ p ∷ []) next ps after)
        → ((next : List ℕ) → AreFlowEntries Value (before ++ p ∷ []) next ps after → AreFlowEntries Value' (before ++ p ∷ []) next ps after)
        → ((are.0 ≡ 125 ∷ after) × (ps ≡ [])) ⊎ ((next : List ℕ) × (are.0 ≡ 44 ∷ next) × AreFlowEntries Value' (before ++ p ∷ []) next ps after)
    by_end (inl e) rec = inl e
    by_end (inr e) rec = inr (e.0, e.1, rec e.0 e.2)

nested_within : (m n : ℕ) → Within n (IsFlow m) (IsFlow n) → Within n (IsNested (IsFlow m)) (IsNested (IsFlow n))
nested_within m n w start v after l (inl s) = inl s
nested_within m n w start v after l (inr f) = inr (w start v after l f)

pub flow_within : (m n : ℕ) → Within n (IsFlow m) (IsFlow n)
flow_within zero n start v after l f = absurd f
flow_within (suc m) zero start v after l (inl f) = absurd (omega (arith, levels_of_list v f.items f.is))
flow_within (suc m) zero start v after l (inr f) = absurd (omega (arith, levels_of_map v f.pairs f.is))
flow_within (suc m) (suc n) start v after l (inl f) = inl (record {
  inside = f.inside;
  items = f.items;
  opens = f.opens;
  is = f.is;
  are = items_within n (IsNested (IsFlow m)) (IsNested (IsFlow n)) (nested_within m n (flow_within m n)) f.items f.inside after (omega (arith, l, levels_of_list v f.items f.is)) f.are;
})
flow_within (suc m) (suc n) start v after l (inr f) = inr (record {
  inside = f.inside;
  pairs = f.pairs;
  opens = f.opens;
  is = f.is;
  are = entries_within n (IsNested (IsFlow m)) (IsNested (IsFlow n)) (nested_within m n (flow_within m n)) f.pairs [] f.inside after (omega (arith, l, levels_of_map v f.pairs f.is)) f.are;
})

pub line_within : (m n : ℕ) (part : List ℕ) (v : Tree) → levels v ≤ n → IsLineValue m part v → IsLineValue n part v
line_within m n part v l w = (w.0, by_form w.1, w.2)
  where
    by_form : IsScalar false part v w.0 ⊎ IsFlow m part v w.0 → IsScalar false part v w.0 ⊎ IsFlow n part v w.0
    by_form (inl s) = inl s
    by_form (inr f) = inr (flow_within m n part v w.0 l f)
