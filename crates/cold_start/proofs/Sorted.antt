-- Entries in key order, which adds leave as they are, no two with one key.
use Rattle.std.proofs.Common.{◌≡◌, List, [], ◌∷◌, ◌++◌, map, refl, sym, ap, ◌∙◌, subst, append-nil, true≢false}
use Rattle.std.specs.List.{AllByRecursion}
use Rattle.std.specs.declared.cmp.Ordering.TheVariants.{Less}
use Rattle.std.specs.Ordering.{is_lt, ordering_reverse}
use Rattle.std.proofs.lemmas.List.{append_assoc}
use Rattle.of_match.specs.declared.entry.Entry.{Entry}
use Rattle.of_match.specs.declared.entry.Command.TheVariants.{Add}
use Rattle.of_match.specs.KeyOrder.{key_cmp}
use Rattle.of_match.specs.KeyLaws.{key_total}
use Rattle.of_match.specs.FlowTables.{IsInKeyOrder, below, above, after}
use Rattle.of_match.specs.Settled.{after_all}
use Rattle.plan_base.specs.Accepted.{HaveDistinctKeys}

-- ---- adds in key order come one behind another

all_below : (e : Entry) (es : List Entry) → AllByRecursion (λ b. key_cmp b.key e.key ≡ Less) es → (below e.key es ≡ es) × (above e.key es ≡ [])
all_below e [] all = (refl, refl)
all_below e (b ∷ bs) all =
    let more = all_below e bs all.1 in
    (rw all.0 (ap (λ xs. b ∷ xs) more.0), rw all.0 more.1)

all_before : (e : Entry) (xs more : List Entry) → IsInKeyOrder (xs ++ e ∷ more) → AllByRecursion (λ b. key_cmp b.key e.key ≡ Less) xs
all_before e [] more h = tt
all_before e (x ∷ xs) more h = (first_after (λ b. key_cmp x.key b.key ≡ Less) xs h.0, all_before e xs more h.1)
  where
    first_after : (P : Entry → Type 0) (xs : List Entry) → AllByRecursion P (xs ++ e ∷ more) → P e
    first_after P [] all = all.0
    first_after P (x ∷ xs) all = first_after P xs all.1

pub added : (held es : List Entry) → IsInKeyOrder (held ++ es) → after_all held (map Add es) ≡ held ++ es
added held [] h = sym (append-nil held)
added held (e ∷ es) h =
    let parts = all_below e held (all_before e held es h) in
    let here : after held (Add e) ≡ held ++ e ∷ [] = ap (λ xs. xs ++ e ∷ above e.key held) parts.0 ∙ ap (λ xs. held ++ e ∷ xs) parts.1 in
    let whole : held ++ e ∷ [] ++ es ≡ held ++ (e ∷ es) = append_assoc held (e ∷ []) es in
    ap (λ xs. after_all xs (map Add es)) here ∙ added (held ++ e ∷ []) es (subst IsInKeyOrder (sym whole) h) ∙ whole

-- ---- no two in key order have one key

no_cycle : (x y : Entry) → key_cmp x.key y.key ≡ Less → x.key ≡ y.key → ⊥
no_cycle x y lt same =
    let itself : key_cmp x.key x.key ≡ Less = subst (λ k. key_cmp x.key k ≡ Less) (sym same) lt in
    true≢false (ap is_lt (sym itself ∙ key_total.antisymm x.key x.key ∙ ap ordering_reverse itself))

pub ordered_distinct : (es : List Entry) → IsInKeyOrder es → HaveDistinctKeys es
ordered_distinct [] h = tt
ordered_distinct (e ∷ es) h = (all es h.0, ordered_distinct es h.1)
  where
    all : (fs : List Entry) → AllByRecursion (λ f. key_cmp e.key f.key ≡ Less) fs → AllByRecursion (λ f. e.key ≡ f.key → ⊥) fs
    all [] a = tt
    all (f ∷ fs) a = (no_cycle e f a.0, all fs a.1)
