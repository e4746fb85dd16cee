-- Entries of distinct keys in another order, and as tables.
use Rattle.std.proofs.Common.{◌≡◌, ℕ, ◌<◌, not, cond, List, [], ◌∷◌, ◌++◌, map, length, IsPermutation, swap, filter, refl, sym, ap, ◌∙◌, subst, append-nil}
use Rattle.std.specs.List.{AllByRecursion}
use Rattle.std.specs.declared.cmp.Ordering.{Ordering}
use Rattle.std.specs.declared.cmp.Ordering.TheVariants.{Less, Equal, Greater}
use Rattle.std.specs.Ordering.{is_lt, is_gt}
use Rattle.std.proofs.lemmas.List.Sorted.{IsPermutation-refl, IsPermutation-sym, IsPermutation-trans, IsPermutation-cons, IsPermutation-map, IsPermutation-keeps, IsPermutation-middle, IsPermutation-append_left, IsPermutation-filter_both}
use Rattle.std.proofs.lemmas.Option.{same_Some}
use Rattle.of_match.specs.declared.entry.Key.{Key}
use Rattle.of_match.specs.declared.entry.Entry.{Entry}
use Rattle.of_match.specs.declared.entry.Command.{Command}
use Rattle.of_match.specs.declared.entry.Command.TheVariants.{Add}
use Rattle.of_match.specs.KeyOrder.{key_cmp}
use Rattle.of_match.specs.KeyLaws.{exact_keys}
use Rattle.of_match.specs.FlowTables.{IsInKeyOrder, below, above, after}
use Rattle.of_match.specs.Settled.{after_all, key_of, AreOfDistinctKeys}
use Rattle.of_match.proofs.AfterOrder.{order_after}
use Rattle.of_match.proofs.Commute.{Apart}
use Rattle.of_match.proofs.Settling.{AllApart, exchange_apart}
use Rattle.plan_base.specs.Accepted.{HaveDistinctKeys}
use Rattle.plan_base.proofs.Each.{before_of_append}

-- ---- adds of distinct keys

pub distinct_adds : (es : List Entry) → HaveDistinctKeys es → AreOfDistinctKeys (map Add es)
distinct_adds [] h = tt
distinct_adds (e ∷ es) h = (refl, others es h.0, distinct_adds es h.1)
  where
    others : (fs : List Entry) → AllByRecursion (λ f. e.key ≡ f.key → ⊥) fs → AllByRecursion (λ other. key_of other ≡ key_of (Add e) → ⊥) (map Add fs)
    others [] all = tt
    others (f ∷ fs) all = ((λ same. all.0 (sym (same_Some f.key e.key same))), others fs all.1)

-- ---- distinct in one order, distinct in each

adds_apart : (es : List Entry) → HaveDistinctKeys es → AllApart (map Add es)
adds_apart [] h = tt
adds_apart (e ∷ es) h = (others es h.0, adds_apart es h.1)
  where
    others : (fs : List Entry) → AllByRecursion (λ f. e.key ≡ f.key → ⊥) fs → AllByRecursion (Apart (Add e)) (map Add fs)
    others [] all = tt
    others (f ∷ fs) all = (record { first = e.key; second = f.key; about_first = refl; about_second = refl; differ = all.0 }, others fs all.1)

of_apart : (es : List Entry) → AllApart (map Add es) → HaveDistinctKeys es
of_apart [] h = tt
of_apart (e ∷ es) h = (others es h.0, of_apart es h.1)
  where
    others : (fs : List Entry) → AllByRecursion (Apart (Add e)) (map Add fs) → AllByRecursion (λ f. e.key ≡ f.key → ⊥) fs
    others [] all = tt
    others (f ∷ fs) all =
        let a = all.0 in
        ((λ same. a.differ (sym (same_Some e.key a.first a.about_first) ∙ same ∙ same_Some f.key a.second a.about_second)), others fs all.1)

exchanged : (cs : List Command) (i j : ℕ) → i < length cs → j < length cs → AllApart cs → AllApart (swap cs i j)
exchanged [] i j lt lt' all = all
exchanged (d ∷ cs) i j lt lt' all = exchange_apart (d ∷ cs) i j d lt lt' all

pub distinct_permuted : (es fs : List Entry) → IsPermutation es fs → HaveDistinctKeys es → HaveDistinctKeys fs
distinct_permuted es fs p h = of_apart fs (IsPermutation-keeps (map Add es) AllApart (adds_apart es h) exchanged (map Add fs) (IsPermutation-map Add es fs p))

-- ---- an add puts an entry with a new key among the others

parts : (k : Key) (t : List Entry) → AllByRecursion (λ x. x.key ≡ k → ⊥) t → above k t ≡ filter (λ e. not (is_lt (key_cmp e.key k))) t
parts k [] all = refl
parts k (x ∷ t) all = by (key_cmp x.key k) refl (parts k t all.1)
  where
    rest : List Entry
    rest = filter (λ e. not (is_lt (key_cmp e.key k))) t

    by : (o : Ordering) → key_cmp x.key k ≡ o → above k t ≡ rest → cond (is_gt o) (x ∷ above k t) (above k t) ≡ cond (not (is_lt o)) (x ∷ rest) rest
    by Less is more = more
    by Equal is more = absurd (all.0 (exact_keys x.key k is))
    by Greater is more = ap (λ l. x ∷ l) more

one_added : (t : List Entry) (e : Entry) → AllByRecursion (λ x. x.key ≡ e.key → ⊥) t → IsPermutation (e ∷ t) (after t (Add e))
one_added t e all =
    let low = below e.key t in
    let high = above e.key t in
    let cut : IsPermutation t (low ++ high) =
    subst (λ l. IsPermutation t (low ++ l)) (sym (parts e.key t all)) (IsPermutation-filter_both (λ x. is_lt (key_cmp x.key e.key)) (λ x. not (is_lt (key_cmp x.key e.key))) (λ x. refl) t) in
    IsPermutation-trans (e ∷ t) (e ∷ (low ++ high)) (low ++ e ∷ high) (IsPermutation-cons e t (low ++ high) cut)
    (IsPermutation-sym (low ++ e ∷ high) (e ∷ (low ++ high)) (IsPermutation-middle low e high))

first_of_each : (t es : List Entry) (e : Entry) → AllByRecursion (λ x. AllByRecursion (λ f. x.key ≡ f.key → ⊥) (e ∷ es)) t → AllByRecursion (λ x. x.key ≡ e.key → ⊥) t
first_of_each [] es e all = tt
first_of_each (x ∷ t) es e all = (all.0.0, first_of_each t es e all.1)

pub added_permuted : (t es : List Entry) → HaveDistinctKeys (t ++ es) → IsPermutation (t ++ es) (after_all t (map Add es))
added_permuted t [] h = subst (λ l. IsPermutation l t) (sym (append-nil t)) (IsPermutation-refl t)
added_permuted t (e ∷ es) h =
    let apart = first_of_each t es e (before_of_append (λ (x y : Entry). x.key ≡ y.key → ⊥) t (e ∷ es) h).2 in
    let first : IsPermutation (t ++ e ∷ es) (e ∷ (t ++ es)) = IsPermutation-middle t e es in
    let next : IsPermutation (e ∷ (t ++ es)) (after t (Add e) ++ es) = IsPermutation-append_left es (e ∷ t) (after t (Add e)) (one_added t e apart) in
    let moved = IsPermutation-trans (t ++ e ∷ es) (e ∷ (t ++ es)) (after t (Add e) ++ es) first next in
    IsPermutation-trans (t ++ e ∷ es) (after t (Add e) ++ es) (after_all (after t (Add e)) (map Add es)) moved
    (added_permuted (after t (Add e)) es (distinct_permuted (t ++ e ∷ es) (after t (Add e) ++ es) moved h))

-- ---- and keeps key order

pub order_after_all : (t : List Entry) (cs : List Command) → IsInKeyOrder t → IsInKeyOrder (after_all t cs)
order_after_all t [] h = h
order_after_all t (c ∷ cs) h = order_after_all (after t c) cs (order_after t c h)
