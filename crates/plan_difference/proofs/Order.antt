-- Lists of entries in key order, joined and cut.
use Rattle.std.proofs.Common.{◌≡◌, Bool, true, false, cond, List, [], ◌∷◌, ◌++◌, refl, sym, ap, ◌∙◌, subst, true≢false}
use Rattle.std.specs.List.{AllByRecursion, filter}
use Rattle.std.specs.declared.cmp.Ordering.{Ordering}
use Rattle.std.specs.declared.cmp.Ordering.TheVariants.{Less, Equal, Greater}
use Rattle.std.specs.Ordering.{is_lt, is_eq, is_gt, ordering_reverse}
use Rattle.of_match.specs.declared.entry.Key.{Key}
use Rattle.of_match.specs.declared.entry.Entry.{Entry}
use Rattle.of_match.specs.KeyOrder.{key_cmp}
use Rattle.of_match.specs.KeyLaws.{key_total, exact_keys}
use Rattle.of_match.specs.FlowTables.{IsInKeyOrder, below, above}

-- each key of these is before the key of the entry
abbrev pub Before : List Entry → Key → Type 0
Before es k = AllByRecursion (λ e. key_cmp e.key k ≡ Less) es

-- each key of these is behind it
abbrev pub Behind : Key → List Entry → Type 0
Behind k es = AllByRecursion (λ e. key_cmp k e.key ≡ Less) es

pub all_map : {X : Type 0} {P Q : X → Type 0} → ((x : X) → P x → Q x) → (xs : List X) → AllByRecursion P xs → AllByRecursion Q xs
all_map f [] all = tt
all_map f (x ∷ xs) all = (f x all.0, all_map f xs all.1)

pub all_join : {X : Type 0} (P : X → Type 0) (xs ys : List X) → AllByRecursion P xs → AllByRecursion P ys → AllByRecursion P (xs ++ ys)
all_join P [] ys a b = b
all_join P (x ∷ xs) ys a b = (a.0, all_join P xs ys a.1 b)

pub all_first : {X : Type 0} (P : X → Type 0) (xs ys : List X) → AllByRecursion P (xs ++ ys) → AllByRecursion P xs
all_first P [] ys a = tt
all_first P (x ∷ xs) ys a = (a.0, all_first P xs ys a.1)

pub all_last : {X : Type 0} (P : X → Type 0) (xs ys : List X) → AllByRecursion P (xs ++ ys) → AllByRecursion P ys
all_last P [] ys a = a
all_last P (x ∷ xs) ys a = all_last P xs ys a.1

pub all_kept : {X : Type 0} (P : X → Type 0) (p : X → Bool) (xs : List X) → AllByRecursion P xs → AllByRecursion P (filter p xs)
all_kept P p [] all = tt
all_kept P p (x ∷ xs) all = kept (p x) (all_kept P p xs all.1)
  where
    kept : (b : Bool) → AllByRecursion P (filter p xs) → AllByRecursion P (cond b (x ∷ filter p xs) (filter p xs))
    kept true rest = (all.0, rest)
    kept false rest = rest

-- ---- keys

pub reversed : (a b : Key) → key_cmp a b ≡ Less → key_cmp b a ≡ Greater
reversed a b less = key_total.antisymm b a ∙ ap ordering_reverse less

pub turned : (a b : Key) → key_cmp a b ≡ Greater → key_cmp b a ≡ Less
turned a b greater = key_total.antisymm b a ∙ ap ordering_reverse greater

greater_from_test : (o : Ordering) → is_gt o ≡ true → o ≡ Greater
greater_from_test Less e = absurd (true≢false (sym e))
greater_from_test Equal e = absurd (true≢false (sym e))
greater_from_test Greater e = refl

less_from_test : (o : Ordering) → is_lt o ≡ true → o ≡ Less
less_from_test Less e = refl
less_from_test Equal e = absurd (true≢false (sym e))
less_from_test Greater e = absurd (true≢false (sym e))

-- what is behind one key is behind those before it
pub behind_more : (a b : Key) → key_cmp a b ≡ Less → (es : List Entry) → Behind b es → Behind a es
behind_more a b less es = all_map (λ e more. key_total.trans a b e.key less more) es

-- ---- joined

pub front_of : (xs ys : List Entry) → IsInKeyOrder (xs ++ ys) → IsInKeyOrder xs
front_of [] ys h = tt
front_of (x ∷ xs) ys h = (all_first (λ f. key_cmp x.key f.key ≡ Less) xs ys h.0, front_of xs ys h.1)

pub back_of : (xs ys : List Entry) → IsInKeyOrder (xs ++ ys) → IsInKeyOrder ys
back_of [] ys h = h
back_of (x ∷ xs) ys h = back_of xs ys h.1

-- each of the first stands before each of the others
abbrev pub AllBefore : List Entry → List Entry → Type 0
AllBefore xs ys = AllByRecursion (λ x. Behind x.key ys) xs

pub between : (xs ys : List Entry) → IsInKeyOrder (xs ++ ys) → AllBefore xs ys
between [] ys h = tt
between (x ∷ xs) ys h = (all_last (λ f. key_cmp x.key f.key ≡ Less) xs ys h.0, between xs ys h.1)

pub joined : (xs ys : List Entry) → IsInKeyOrder xs → IsInKeyOrder ys → AllBefore xs ys → IsInKeyOrder (xs ++ ys)
joined [] ys a b c = b
joined (x ∷ xs) ys a b c = (all_join (λ f. key_cmp x.key f.key ≡ Less) xs ys a.0 c.0, joined xs ys a.1 b c.1)

-- those before the first of the others
pub before_head : (xs : List Entry) (y : Entry) (ys : List Entry) → AllBefore xs (y ∷ ys) → Before xs y.key
before_head xs y ys = all_map (λ x behind. behind.0) xs

pub fewer_behind : (xs : List Entry) (p : Entry → Bool) (ys : List Entry) → AllBefore xs ys → AllBefore xs (filter p ys)
fewer_behind xs p ys = all_map (λ x behind. all_kept (λ f. key_cmp x.key f.key ≡ Less) p ys behind) xs

-- ---- filtered

pub kept_order : (p : Entry → Bool) (es : List Entry) → IsInKeyOrder es → IsInKeyOrder (filter p es)
kept_order p [] h = tt
kept_order p (e ∷ es) h = kept (p e) (kept_order p es h.1)
  where
    kept : (b : Bool) → IsInKeyOrder (filter p es) → IsInKeyOrder (cond b (e ∷ filter p es) (filter p es))
    kept true rest = (all_kept (λ f. key_cmp e.key f.key ≡ Less) p es h.0, rest)
    kept false rest = rest

pub above_behind : (k : Key) (es : List Entry) → Behind k (above k es)
above_behind k [] = tt
above_behind k (e ∷ es) = kept (key_cmp e.key k) refl (above_behind k es)
  where
    kept : (o : Ordering) → key_cmp e.key k ≡ o → Behind k (above k es) → Behind k (cond (is_gt o) (e ∷ above k es) (above k es))
    kept Less o rest = rest
    kept Equal o rest = rest
    kept Greater o rest = (turned e.key k o, rest)

pub below_before : (k : Key) (es : List Entry) → Before (below k es) k
below_before k [] = tt
below_before k (e ∷ es) = kept (key_cmp e.key k) refl (below_before k es)
  where
    kept : (o : Ordering) → key_cmp e.key k ≡ o → Before (below k es) k → Before (cond (is_lt o) (e ∷ below k es) (below k es)) k
    kept Less o rest = (o, rest)
    kept Equal o rest = rest
    kept Greater o rest = rest

-- those before a key are below it, and none of them is above it; those behind it the other way round
pub below_all : (k : Key) (es : List Entry) → Before es k → below k es ≡ es
below_all k [] all = refl
below_all k (e ∷ es) all = rw all.0 (ap (λ l. e ∷ l) (below_all k es all.1))

pub above_none : (k : Key) (es : List Entry) → Before es k → above k es ≡ []
above_none k [] all = refl
above_none k (e ∷ es) all = rw all.0 (above_none k es all.1)

pub below_none : (k : Key) (es : List Entry) → Behind k es → below k es ≡ []
below_none k [] all = refl
below_none k (e ∷ es) all = rw (reversed k e.key all.0) (below_none k es all.1)

pub above_all : (k : Key) (es : List Entry) → Behind k es → above k es ≡ es
above_all k [] all = refl
above_all k (e ∷ es) all = rw (reversed k e.key all.0) (ap (λ l. e ∷ l) (above_all k es all.1))
