-- Entries in key order, each beside its key: what a look-up finds there, and what a change leaves.
use Rattle.std.proofs.Common.{◌≡◌, cond, List, [], ◌∷◌, ◌++◌, refl, sym, ap, ◌∙◌, subst, append_assoc}
use Rattle.std.specs.List.{AllByRecursion}
use Rattle.std.specs.declared.cmp.Ordering.{Ordering}
use Rattle.std.specs.declared.cmp.Ordering.TheVariants.{Less, Equal, Greater}
use Rattle.std.specs.declared.ops.Bound.TheVariants.{Excluded, Unbounded}
use Rattle.std.specs.Ordering.{is_eq, ordering_reverse, match_ordering}
use Rattle.std.specs.Map.{lookup, remove_entry, values_of}
use Rattle.std.specs.BTreeMap.{is_at, insert_entry}
use Rattle.std.specs.BTreeMap.Range.{entries_between}
use Rattle.of_match.specs.declared.entry.Key.{Key}
use Rattle.of_match.specs.declared.entry.Entry.{Entry}
use Rattle.of_match.specs.declared.entry.Command.TheVariants.{Add, DeleteStrict}
use Rattle.of_match.specs.KeyOrder.{key_cmp}
use Rattle.of_match.specs.KeyLaws.{key_total, exact_keys}
use Rattle.of_match.specs.FlowTables.{IsInKeyOrder, entry_at, below, above, after, keyed}

-- ---- comparisons turned round

turned : (a b : Key) (o : Ordering) → key_cmp a b ≡ o → key_cmp b a ≡ ordering_reverse o
turned a b o e = key_total.antisymm b a ∙ ap ordering_reverse e

-- ---- entries behind a key

abbrev Behind : Key → List Entry → Type 0
Behind k es = AllByRecursion (λ e. key_cmp k e.key ≡ Less) es

behind_more : (a b : Key) → key_cmp a b ≡ Less → (es : List Entry) → Behind b es → Behind a es
behind_more a b less [] all = tt
behind_more a b less (e ∷ es) all = (key_total.trans a b e.key less all.0, behind_more a b less es all.1)

below_none : (k : Key) (es : List Entry) → Behind k es → below k es ≡ []
below_none k [] all = refl
below_none k (e ∷ es) all = rw (turned k e.key Less all.0) (below_none k es all.1)

above_all : (k : Key) (es : List Entry) → Behind k es → above k es ≡ es
above_all k [] all = refl
above_all k (e ∷ es) all = rw (turned k e.key Less all.0) (ap (λ l. e ∷ l) (above_all k es all.1))

-- ---- entries before a key

abbrev Before : List Entry → Key → Type 0
Before es k = AllByRecursion (λ e. key_cmp e.key k ≡ Less) es

below_all : (k : Key) (es : List Entry) → Before es k → below k es ≡ es
below_all k [] all = refl
below_all k (e ∷ es) all = rw all.0 (ap (λ l. e ∷ l) (below_all k es all.1))

above_none : (k : Key) (es : List Entry) → Before es k → above k es ≡ []
above_none k [] all = refl
above_none k (e ∷ es) all = rw all.0 (above_none k es all.1)

first_before : (es : List Entry) (e : Entry) (rest : List Entry) → IsInKeyOrder (es ++ e ∷ rest) → Before es e.key
first_before [] e rest h = tt
first_before (x ∷ es) e rest h = (middle es h.0, first_before es e rest h.1)
  where
    middle : (ys : List Entry) → AllByRecursion (λ f. key_cmp x.key f.key ≡ Less) (ys ++ e ∷ rest) → key_cmp x.key e.key ≡ Less
    middle [] all = all.0
    middle (y ∷ ys) all = middle ys all.1

-- an entry that stands behind all comes last
pub added_last : (es : List Entry) (e : Entry) (rest : List Entry) → IsInKeyOrder (es ++ e ∷ rest) → after es (Add e) ++ rest ≡ es ++ e ∷ rest
added_last es e rest h =
    let all = first_before es e rest h in
    ap (λ l. (l ++ e ∷ above e.key es) ++ rest) (below_all e.key es all) ∙ ap (λ l. (es ++ e ∷ l) ++ rest) (above_none e.key es all)
    ∙ append_assoc es (e ∷ []) rest

-- ---- a look-up, an insertion and a removal

pub values_keyed : (es : List Entry) → values_of (keyed es) ≡ es
values_keyed [] = refl
values_keyed (e ∷ es) = ap (λ l. e ∷ l) (values_keyed es)

pub lookup_keyed : (k : Key) (es : List Entry) → lookup (is_at (key_cmp k)) (keyed es) ≡ entry_at es k
lookup_keyed k [] = refl
lookup_keyed k (e ∷ es) = from_case (lookup_keyed k es) (key_cmp k e.key) refl
  where
    from_case : lookup (is_at (key_cmp k)) (keyed es) ≡ entry_at es k → (o : Ordering) → key_cmp k e.key ≡ o → lookup (is_at (key_cmp k)) (keyed (e ∷ es)) ≡ entry_at (e ∷ es) k
    from_case more Less o = rw (o, turned k e.key Less o) more
    from_case more Equal o = rw (o, turned k e.key Equal o) refl
    from_case more Greater o = rw (o, turned k e.key Greater o) more

pub insert_keyed : (e : Entry) (es : List Entry) → IsInKeyOrder es → insert_entry key_cmp (keyed es) e.key e ≡ keyed (after es (Add e))
insert_keyed e [] h = refl
insert_keyed e (x ∷ es) h = from_case (insert_keyed e es h.1) (key_cmp e.key x.key) refl
  where
    from_case : insert_entry key_cmp (keyed es) e.key e ≡ keyed (after es (Add e)) → (o : Ordering) → key_cmp e.key x.key ≡ o → insert_entry key_cmp (keyed (x ∷ es)) e.key e ≡ keyed (after (x ∷ es) (Add e))
    from_case more Less o =
        let all : Behind e.key (x ∷ es) = (o, behind_more e.key x.key o es h.0) in
        ap (λ o. match_ordering o ((e.key, e) ∷ keyed (x ∷ es)) ((x.key, e) ∷ keyed es) ((x.key, x) ∷ insert_entry key_cmp (keyed es) e.key e)) o
        ∙ sym (ap (λ l. keyed (l ++ e ∷ above e.key (x ∷ es))) (below_none e.key (x ∷ es) all) ∙ ap (λ l. keyed (e ∷ l)) (above_all e.key (x ∷ es) all))
    from_case more Equal o =
        let same : e.key ≡ x.key = exact_keys e.key x.key o in
        let all : Behind e.key es = subst (λ k. Behind k es) (sym same) h.0 in
        let low : below e.key (x ∷ es) ≡ [] = rw (turned e.key x.key Equal o) (below_none e.key es all) in
        let high : above e.key (x ∷ es) ≡ es = rw (turned e.key x.key Equal o) (above_all e.key es all) in
        ap (λ o. match_ordering o ((e.key, e) ∷ keyed (x ∷ es)) ((x.key, e) ∷ keyed es) ((x.key, x) ∷ insert_entry key_cmp (keyed es) e.key e)) o
        ∙ ap (λ k. (k, e) ∷ keyed es) (sym same)
        ∙ sym (ap (λ l. keyed (l ++ e ∷ above e.key (x ∷ es))) low ∙ ap (λ l. keyed (e ∷ l)) high)
    from_case more Greater o =
        let less : key_cmp x.key e.key ≡ Less = turned e.key x.key Greater o in
        let low : below e.key (x ∷ es) ≡ x ∷ below e.key es = rw less refl in
        let high : above e.key (x ∷ es) ≡ above e.key es = rw less refl in
        ap (λ o. match_ordering o ((e.key, e) ∷ keyed (x ∷ es)) ((x.key, e) ∷ keyed es) ((x.key, x) ∷ insert_entry key_cmp (keyed es) e.key e)) o
        ∙ ap (λ l. (x.key, x) ∷ l) more
        ∙ sym (ap (λ l. keyed (l ++ e ∷ above e.key (x ∷ es))) low ∙ ap (λ l. keyed (x ∷ (below e.key es ++ e ∷ l))) high)

pub remove_keyed : (k : Key) (es : List Entry) → IsInKeyOrder es → remove_entry (is_at (key_cmp k)) (keyed es) ≡ keyed (after es (DeleteStrict k))
remove_keyed k [] h = refl
remove_keyed k (x ∷ es) h = from_case (remove_keyed k es h.1) (key_cmp k x.key) refl
  where
    from_case : remove_entry (is_at (key_cmp k)) (keyed es) ≡ keyed (after es (DeleteStrict k)) → (o : Ordering) → key_cmp k x.key ≡ o → remove_entry (is_at (key_cmp k)) (keyed (x ∷ es)) ≡ keyed (after (x ∷ es) (DeleteStrict k))
    from_case rest Less o =
        let more : Behind k es = behind_more k x.key o es h.0 in
        let all : Behind k (x ∷ es) = (o, more) in
        ap (λ o. cond (is_eq o) (keyed es) ((x.key, x) ∷ remove_entry (is_at (key_cmp k)) (keyed es))) o
        ∙ ap (λ l. (x.key, x) ∷ l) (rest ∙ ap (λ l. keyed (l ++ above k es)) (below_none k es more) ∙ ap keyed (above_all k es more))
        ∙ sym (ap (λ l. keyed (l ++ above k (x ∷ es))) (below_none k (x ∷ es) all) ∙ ap keyed (above_all k (x ∷ es) all))
    from_case rest Equal o =
        let same : k ≡ x.key = exact_keys k x.key o in
        let all : Behind k es = subst (λ j. Behind j es) (sym same) h.0 in
        let low : below k (x ∷ es) ≡ [] = rw (turned k x.key Equal o) (below_none k es all) in
        let high : above k (x ∷ es) ≡ es = rw (turned k x.key Equal o) (above_all k es all) in
        ap (λ o. cond (is_eq o) (keyed es) ((x.key, x) ∷ remove_entry (is_at (key_cmp k)) (keyed es))) o
        ∙ sym (ap (λ l. keyed (l ++ above k (x ∷ es))) low ∙ ap keyed high)
    from_case rest Greater o =
        let less : key_cmp x.key k ≡ Less = turned k x.key Greater o in
        let low : below k (x ∷ es) ≡ x ∷ below k es = rw less refl in
        let high : above k (x ∷ es) ≡ above k es = rw less refl in
        ap (λ o. cond (is_eq o) (keyed es) ((x.key, x) ∷ remove_entry (is_at (key_cmp k)) (keyed es))) o
        ∙ ap (λ l. (x.key, x) ∷ l) rest
        ∙ sym (ap (λ l. keyed (l ++ above k (x ∷ es))) low ∙ ap (λ l. keyed (x ∷ (below k es ++ l))) high)

-- what is made of entries in key order, each beside its key, is so again
pub still_keyed : (new : List (Key × Entry)) (es : List Entry) → new ≡ keyed es → IsInKeyOrder es → (new ≡ keyed (values_of new)) × IsInKeyOrder (values_of new)
still_keyed new es is order =
    let all : values_of new ≡ es = ap values_of is ∙ values_keyed es in
    (is ∙ ap keyed (sym all), subst IsInKeyOrder (sym all) order)

-- ---- a part

pub all_between : (es : List Entry) → entries_between key_cmp Unbounded Unbounded (keyed es) ≡ keyed es
all_between [] = refl
all_between (e ∷ es) = ap (λ l. (e.key, e) ∷ l) (all_between es)

pub above_between : (k : Key) (es : List Entry) → values_of (entries_between key_cmp (Excluded k) Unbounded (keyed es)) ≡ above k es
above_between k [] = refl
above_between k (e ∷ es) = from_case (above_between k es) (key_cmp k e.key) refl
  where
    from_case : values_of (entries_between key_cmp (Excluded k) Unbounded (keyed es)) ≡ above k es → (o : Ordering) → key_cmp k e.key ≡ o → values_of (entries_between key_cmp (Excluded k) Unbounded (keyed (e ∷ es))) ≡ above k (e ∷ es)
    from_case more Less o = rw (o, turned k e.key Less o) (ap (λ l. e ∷ l) more)
    from_case more Equal o = rw (o, turned k e.key Equal o) more
    from_case more Greater o = rw (o, turned k e.key Greater o) more
