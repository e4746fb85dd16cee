-- Each command of a difference is needed, and their keys ascend.
use Rattle.std.proofs.Common.{◌≡◌, Bool, true, false, cond, List, [], ◌∷◌, ◌++◌, Option, Some, None, IsSome, map, refl, sym, ap, ◌∙◌, subst, true≢false, if◌then◌else◌}
use Rattle.std.specs.List.{AllByRecursion, filter, find}
use Rattle.std.specs.Option.{option_map_or}
use Rattle.std.specs.declared.cmp.Ordering.{Ordering}
use Rattle.std.specs.declared.cmp.Ordering.TheVariants.{Less, Equal, Greater}
use Rattle.std.specs.Ordering.{is_lt, is_eq, is_gt}
use Rattle.std.proofs.lemmas.Option.{same_Some}
use Rattle.of_match.specs.declared.entry.Key.{Key}
use Rattle.of_match.specs.declared.entry.Entry.{Entry}
use Rattle.of_match.specs.declared.entry.Command.{Command}
use Rattle.of_match.specs.declared.entry.Command.TheVariants.{Add, DeleteStrict, DeleteAll}
use Rattle.of_match.specs.KeyOrder.{key_cmp}
use Rattle.of_match.specs.KeyLaws.{key_total, exact_keys}
use Rattle.of_match.specs.FlowTables.{IsInKeyOrder, entry_at, below, above}
use Rattle.of_match.specs.Same.{entry_same, entry_exact}
use Rattle.of_match.specs.Settled.{AreOfDistinctKeys, key_of}
use Rattle.plan_difference.specs.Difference.{deletes, has, difference}
use Rattle.plan_difference.specs.Needed.{IsNeeded, IsBehind, AreBehind, AscendByKey}
use Rattle.plan_difference.proofs.Order.{Before, Behind, all_map, all_join, all_kept, kept_order, above_behind, below_before, reversed}
use Rattle.plan_difference.proofs.Leads.{same_key}

pub no_cycle : (a : Key) → key_cmp a a ≡ Less → ⊥
no_cycle a less = true≢false (sym (ap is_lt (sym (same_key a) ∙ less)))

not_equal : (a b : Key) → key_cmp a b ≡ Less → is_eq (key_cmp a b) ≡ false
not_equal a b less = ap is_eq less

-- ---- what is behind a key

weaker : (a b : Key) → key_cmp a b ≡ Less → (c : Command) → IsBehind b c → IsBehind a c
weaker a b less (Add e) behind = key_total.trans a b e.key less behind
weaker a b less (DeleteStrict k) behind = key_total.trans a b k less behind
weaker a b less DeleteAll behind = behind

deletes_behind : (k : Key) (es : List Entry) → Behind k es → AllByRecursion (IsBehind k) (deletes es)
deletes_behind k [] all = tt
deletes_behind k (e ∷ es) all = (all.0, deletes_behind k es all.1)

own_behind : (k : Key) (e : Entry) (b : Bool) → key_cmp k e.key ≡ Less → AllByRecursion (IsBehind k) (if b then [] else Add e ∷ [])
own_behind k e true less = tt
own_behind k e false less = (less, tt)

pub behind_all : (k : Key) (from to : List Entry) → Behind k from → Behind k to → AllByRecursion (IsBehind k) (difference from to)
behind_all k from [] a b = deletes_behind k from a
behind_all k from (e ∷ to) a b =
    all_join (IsBehind k) (deletes (below e.key from)) _ (deletes_behind k (below e.key from) (all_kept (λ f. key_cmp k f.key ≡ Less) (λ f. is_lt (key_cmp f.key e.key)) from a))
    (all_join (IsBehind k) (if has from e then [] else Add e ∷ []) _ (own_behind k e (has from e) b.0) (behind_all k (above e.key from) to (all_kept (λ f. key_cmp k f.key ≡ Less) (λ f. is_gt (key_cmp f.key e.key)) from a) b.1))

-- ---- ascending keys

with_deletes : (gone : List Entry) (cs : List Command) → IsInKeyOrder gone → AscendByKey cs → AllByRecursion (λ g. AllByRecursion (IsBehind g.key) cs) gone → AscendByKey (deletes gone ++ cs)
with_deletes [] cs h rise all = rise
with_deletes (g ∷ gone) cs h rise all = (all_join (IsBehind g.key) (deletes gone) cs (deletes_behind g.key gone h.0) all.0, with_deletes gone cs h.1 rise all.1)

with_own : (e : Entry) (b : Bool) (cs : List Command) → AscendByKey cs → AllByRecursion (IsBehind e.key) cs → AscendByKey ((if b then [] else Add e ∷ []) ++ cs)
with_own e true cs rise all = rise
with_own e false cs rise all = (all, rise)

behind_each : (k : Key) (cs : List Command) → AllByRecursion (IsBehind k) cs → (gone : List Entry) → Before gone k → AllByRecursion (λ g. AllByRecursion (IsBehind g.key) cs) gone
behind_each k cs all [] before = tt
behind_each k cs all (g ∷ gone) before = (all_map (λ c behind. weaker g.key k before.0 c behind) cs all, behind_each k cs all gone before.1)

pub ascends : (from to : List Entry) → IsInKeyOrder from → IsInKeyOrder to → AscendByKey (difference from to)
ascends from [] h i = only_deletes from h
  where
    only_deletes : (es : List Entry) → IsInKeyOrder es → AscendByKey (deletes es)
    only_deletes [] h = tt
    only_deletes (e ∷ es) h = (deletes_behind e.key es h.0, only_deletes es h.1)
ascends from (e ∷ to) h i =
    let high = above e.key from in
    let more = difference high to in
    let own = if has from e then [] else Add e ∷ [] in
    let rise = ascends high to (kept_order (λ f. is_gt (key_cmp f.key e.key)) from h) i.1 in
    let behind = behind_all e.key high to (above_behind e.key from) i.0 in
    let gone = below e.key from in
    with_deletes gone (own ++ more) (kept_order (λ f. is_lt (key_cmp f.key e.key)) from h) (with_own e (has from e) more rise behind) (each gone own more (below_before e.key from) behind)
  where
    each : (gone : List Entry) (own more : List Command) → Before gone e.key → AllByRecursion (IsBehind e.key) more → AllByRecursion (λ g. AllByRecursion (IsBehind g.key) ((if has from e then [] else Add e ∷ []) ++ more)) gone
    each [] own more before behind = tt
    each (g ∷ gone) own more before behind =
        (all_join (IsBehind g.key) (if has from e then [] else Add e ∷ []) more (own_behind g.key e (has from e) before.0) (all_map (λ c b. weaker g.key e.key before.0 c b) more behind), each gone own more before.1 behind)

-- ---- distinct keys

differs : (k : Key) (c : Command) → IsBehind k c → key_of c ≡ Some k → ⊥
differs k (Add e) behind is = no_cycle k (subst (λ x. key_cmp k x ≡ Less) (same_Some e.key k is) behind)
differs k (DeleteStrict j) behind is = no_cycle k (subst (λ x. key_cmp k x ≡ Less) (same_Some j k is) behind)
differs k DeleteAll behind is = behind

pub distinct : (cs : List Command) → AscendByKey cs → AreOfDistinctKeys cs
distinct [] rise = tt
distinct (Add e ∷ cs) rise = (refl, all_map (λ c behind. differs e.key c behind) cs rise.0, distinct cs rise.1)
distinct (DeleteStrict k ∷ cs) rise = (refl, all_map (λ c behind. differs k c behind) cs rise.0, distinct cs rise.1)
distinct (DeleteAll ∷ cs) rise = absurd (rise.0)

-- ---- each is needed

-- each of some entries is found by its key
found : (xs : List Entry) → AllByRecursion (λ e. IsSome (entry_at xs e.key)) xs
found [] = tt
found (x ∷ xs) = (first, all_map (λ e some. longer e some (is_eq (key_cmp x.key e.key))) xs (found xs))
  where
    first : IsSome (entry_at (x ∷ xs) x.key)
    first = rw (same_key x.key) refl

    longer : (e : Entry) → IsSome (entry_at xs e.key) → (b : Bool) → IsSome (cond b (Some x) (entry_at xs e.key))
    longer e some true = refl
    longer e some false = some

pub none_behind : (k : Key) (es : List Entry) → Behind k es → entry_at es k ≡ None
none_behind k [] all = refl
none_behind k (e ∷ es) all = rw (reversed k e.key all.0) (none_behind k es all.1)

-- behind a key, the entries above it decide
pub at_above : (j k : Key) → key_cmp j k ≡ Less → (es : List Entry) → entry_at (above j es) k ≡ entry_at es k
at_above j k less [] = refl
at_above j k less (e ∷ es) = from_case (key_cmp e.key j) refl (at_above j k less es)
  where
    not_here : key_cmp e.key k ≡ Less → entry_at es k ≡ entry_at (e ∷ es) k
    not_here l = rw l refl

    from_case : (o : Ordering) → key_cmp e.key j ≡ o → entry_at (above j es) k ≡ entry_at es k → entry_at (cond (is_gt o) (e ∷ above j es) (above j es)) k ≡ entry_at (e ∷ es) k
    from_case Less o rest = rest ∙ not_here (key_total.trans e.key j k o less)
    from_case Equal o rest = rest ∙ not_here (subst (λ x. key_cmp x k ≡ Less) (sym (exact_keys e.key j o)) less)
    from_case Greater o rest = ap (λ r. cond (is_eq (key_cmp e.key k)) (Some e) r) rest

gone_needed : (from : List Entry) (e : Entry) (to gone : List Entry) → Behind e.key to → Before gone e.key → AllByRecursion (λ g. IsSome (entry_at from g.key)) gone → AllByRecursion (IsNeeded from (e ∷ to)) (deletes gone)
gone_needed from e to [] behind before all = tt
gone_needed from e to (g ∷ gone) behind before all =
    let none : entry_at (e ∷ to) g.key ≡ None = rw (reversed g.key e.key before.0) (none_behind g.key to (all_map (λ f l. key_total.trans g.key e.key f.key before.0 l) to behind)) in
    ((none, all.0), gone_needed from e to gone behind before.1 all.1)

own_needed : (from : List Entry) (e : Entry) (to : List Entry) (b : Bool) → has from e ≡ b → AllByRecursion (IsNeeded from (e ∷ to)) (if b then [] else Add e ∷ [])
own_needed from e to true is = tt
own_needed from e to false is = ((rw (same_key e.key) refl, stands), tt)
  where
    stands : entry_at from e.key ≡ Some e → ⊥
    stands here = true≢false (sym (ap (λ (o : Option Entry). option_map_or (λ f. entry_same f e) o false) here ∙ (entry_exact e e).1 refl) ∙ is)

further : (from : List Entry) (e : Entry) (to : List Entry) (c : Command) → IsBehind e.key c → IsNeeded (above e.key from) to c → IsNeeded from (e ∷ to) c
further from e to (Add f) behind needed =
    (rw behind needed.0, λ here. needed.1 (at_above e.key f.key behind from ∙ here))
further from e to (DeleteStrict k) behind needed = (rw behind needed.0, subst IsSome (at_above e.key k behind from) needed.1)
further from e to DeleteAll behind needed = needed

both : {X : Type 0} {P Q R : X → Type 0} → ((x : X) → P x → Q x → R x) → (xs : List X) → AllByRecursion P xs → AllByRecursion Q xs → AllByRecursion R xs
both f [] p q = tt
both f (x ∷ xs) p q = (f x p.0 q.0, both f xs p.1 q.1)

pub needed : (from to : List Entry) → IsInKeyOrder from → IsInKeyOrder to → AllByRecursion (IsNeeded from to) (difference from to)
needed from [] h i = only_deletes from (found from)
  where
    only_deletes : (es : List Entry) → AllByRecursion (λ e. IsSome (entry_at from e.key)) es → AllByRecursion (IsNeeded from []) (deletes es)
    only_deletes [] all = tt
    only_deletes (e ∷ es) all = ((refl, all.0), only_deletes es all.1)
needed from (e ∷ to) h i =
    let high = above e.key from in
    let gone = below e.key from in
    let some = all_kept (λ g. IsSome (entry_at from g.key)) (λ f. is_lt (key_cmp f.key e.key)) from (found from) in
    let behind = behind_all e.key high to (above_behind e.key from) i.0 in
    let more = needed high to (kept_order (λ f. is_gt (key_cmp f.key e.key)) from h) i.1 in
    all_join (IsNeeded from (e ∷ to)) (deletes gone) _ (gone_needed from e to gone i.0 (below_before e.key from) some)
    (all_join (IsNeeded from (e ∷ to)) (if has from e then [] else Add e ∷ []) _ (own_needed from e to (has from e) refl) (both (λ c b n. further from e to c b n) (difference high to) behind more))

-- ---- and those of equal plans are none

not_needed : (es : List Entry) (c : Command) → IsNeeded es es c → ⊥
not_needed es (Add e) n = n.1 n.0
not_needed es (DeleteStrict k) n = true≢false (sym (subst IsSome n.0 n.1))
not_needed es DeleteAll n = n

pub none_of_equals : (es : List Entry) → IsInKeyOrder es → difference es es ≡ []
none_of_equals es h = from_case (difference es es) (needed es es h h)
  where
    from_case : (cs : List Command) → AllByRecursion (IsNeeded es es) cs → cs ≡ []
    from_case [] all = refl
    from_case (c ∷ cs) all = absurd (not_needed es c all.0)

-- ---- an entry that stands in both is left alone

untouched_by : (from to : List Entry) (e : Entry) → entry_at from e.key ≡ Some e → entry_at to e.key ≡ Some e → (c : Command) → IsNeeded from to c → key_of c ≡ Some e.key → ⊥
untouched_by from to e a b (Add f) n is =
    let same = same_Some f.key e.key is in
    let here : Some f ≡ Some e = sym n.0 ∙ ap (entry_at to) same ∙ b in
    n.1 (ap (entry_at from) same ∙ a ∙ sym here)
untouched_by from to e a b (DeleteStrict k) n is =
    let same = same_Some k e.key is in
    true≢false (sym (subst IsSome (sym (sym n.0 ∙ ap (entry_at to) same ∙ b)) refl))
untouched_by from to e a b DeleteAll n is = n

pub untouched : (from to : List Entry) → IsInKeyOrder from → IsInKeyOrder to → (e : Entry) → entry_at from e.key ≡ Some e → entry_at to e.key ≡ Some e → AllByRecursion (λ c. key_of c ≡ Some e.key → ⊥) (difference from to)
untouched from to h i e a b = all_map (λ c n. untouched_by from to e a b c n) (difference from to) (needed from to h i)
