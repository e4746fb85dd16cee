-- A command keeps the entries in key order.
use Rattle.std.proofs.Common.{◌≡◌, ℕ, zero, suc, ◌<◌, arith, length, get_or, Bool, true, false, cond, List, [], ◌∷◌, ◌++◌, refl, sym, ap, ◌∙◌, true≢false}
use Rattle.std.specs.List.{AllByRecursion, filter}
use Rattle.std.specs.declared.cmp.Ordering.{Ordering}
use Rattle.std.specs.declared.cmp.Ordering.TheVariants.{Less, Equal, Greater}
use Rattle.std.specs.Ordering.{is_lt, is_gt, ordering_reverse}
use Rattle.of_match.specs.declared.entry.Key.{Key}
use Rattle.of_match.specs.declared.entry.Entry.{Entry}
use Rattle.of_match.specs.declared.entry.Command.{Command}
use Rattle.of_match.specs.declared.entry.Command.TheVariants.{Add, DeleteStrict, DeleteAll}
use Rattle.of_match.specs.KeyOrder.{key_cmp}
use Rattle.of_match.specs.KeyLaws.{key_total}
use Rattle.of_match.specs.FlowTables.{IsInKeyOrder, below, above, after}

-- ---- lists

pub all_map : {X : Type 0} (P Q : X → Type 0) → ((x : X) → P x → Q x) → (xs : List X) → AllByRecursion P xs → AllByRecursion Q xs
all_map P Q f [] all = tt
all_map P Q f (x ∷ xs) all = (f x all.0, all_map P Q f xs all.1)

pub all_append : {X : Type 0} (P : X → Type 0) (xs ys : List X) → AllByRecursion P xs → AllByRecursion P ys → AllByRecursion P (xs ++ ys)
all_append P [] ys a b = b
all_append P (x ∷ xs) ys a b = (a.0, all_append P xs ys a.1 b)

-- what is true of each is true of each that is kept
pub all_filter : {X : Type 0} (P : X → Type 0) (p : X → Bool) (xs : List X) → AllByRecursion P xs → AllByRecursion P (filter p xs)
all_filter P p [] all = tt
all_filter P p (x ∷ xs) all =
    let kept = all_filter P p xs all.1 in
    elim (p x) as (λ b. AllByRecursion P (cond b (x ∷ filter p xs) (filter p xs))) [ true ↦ (all.0, kept) | false ↦ kept ]

-- each that is kept passes
pub all_pass : {X : Type 0} (p : X → Bool) (xs : List X) → AllByRecursion (λ x. p x ≡ true) (filter p xs)
all_pass p [] = tt
all_pass p (x ∷ xs) = keep (p x) refl (all_pass p xs)
  where
    keep : (b : Bool) → p x ≡ b → AllByRecursion (λ y. p y ≡ true) (filter p xs) → AllByRecursion (λ y. p y ≡ true) (cond b (x ∷ filter p xs) (filter p xs))
    keep true e kept = (e, kept)
    keep false e kept = kept

-- what is true of each is true of the one at a place
pub all_at : {X : Type 0} (P : X → Type 0) (xs : List X) (i : ℕ) (d : X) → AllByRecursion P xs → i < length xs → P (get_or xs i d)
all_at P [] i d all lt = absurd (omega arith)
all_at P (x ∷ xs) zero d all lt = all.0
all_at P (x ∷ xs) (suc i) d all lt = all_at P xs i d all.1 (omega arith)

-- ---- key order

pub less_from_test : (o : Ordering) → is_lt o ≡ true → o ≡ Less
less_from_test Less e = refl
less_from_test Equal e = absurd (true≢false (sym e))
less_from_test Greater e = absurd (true≢false (sym e))

pub greater_from_test : (o : Ordering) → is_gt o ≡ true → o ≡ Greater
greater_from_test Less e = absurd (true≢false (sym e))
greater_from_test Equal e = absurd (true≢false (sym e))
greater_from_test Greater e = refl

pub order_filter : (p : Entry → Bool) (es : List Entry) → IsInKeyOrder es → IsInKeyOrder (filter p es)
order_filter p [] order = tt
order_filter p (e ∷ es) order =
    let kept = order_filter p es order.1 in
    elim (p e) as (λ b. IsInKeyOrder (cond b (e ∷ filter p es) (filter p es))) [
      | true ↦ (all_filter (λ f. key_cmp e.key f.key ≡ Less) p es order.0, kept)
      | false ↦ kept
    ]

-- two parts, each of the first before each of the second
order_append : (xs ys : List Entry) → IsInKeyOrder xs → IsInKeyOrder ys → AllByRecursion (λ x. AllByRecursion (λ y. key_cmp x.key y.key ≡ Less) ys) xs → IsInKeyOrder (xs ++ ys)
order_append [] ys a b cross = b
order_append (x ∷ xs) ys a b cross = (all_append (λ f. key_cmp x.key f.key ≡ Less) xs ys a.0 cross.0, order_append xs ys a.1 b cross.1)

module _ (k : Key) (es : List Entry) where
  pub all_below : AllByRecursion (λ e. key_cmp e.key k ≡ Less) (below k es)
  all_below = all_map (λ e. is_lt (key_cmp e.key k) ≡ true) (λ e. key_cmp e.key k ≡ Less) (λ e t. less_from_test (key_cmp e.key k) t) (below k es) (all_pass (λ e. is_lt (key_cmp e.key k)) es)

  pub all_above : AllByRecursion (λ e. key_cmp k e.key ≡ Less) (above k es)
  all_above =
      all_map (λ e. is_gt (key_cmp e.key k) ≡ true) (λ e. key_cmp k e.key ≡ Less) (λ e t. key_total.antisymm k e.key ∙ ap ordering_reverse (greater_from_test (key_cmp e.key k) t)) (above k es)
      (all_pass (λ e. is_gt (key_cmp e.key k)) es)

  -- what is before k is before what is after k
  all_across : AllByRecursion (λ x. AllByRecursion (λ y. key_cmp x.key y.key ≡ Less) (above k es)) (below k es)
  all_across =
      all_map (λ e. key_cmp e.key k ≡ Less) (λ x. AllByRecursion (λ y. key_cmp x.key y.key ≡ Less) (above k es)) (λ x t.
      all_map (λ e. key_cmp k e.key ≡ Less) (λ y. key_cmp x.key y.key ≡ Less) (λ y u. key_total.trans x.key k y.key t u) (above k es) all_above) (below k es) all_below

pub order_after : (es : List Entry) (c : Command) → IsInKeyOrder es → IsInKeyOrder (after es c)
order_after es (Add e) order =
    let k = e.key in
    order_append (below k es) (e ∷ above k es) (order_filter _ es order) (all_above k es, order_filter _ es order)
    (all_both (below k es) (all_below k es) (all_across k es))
  where
    all_both : (xs : List Entry) → AllByRecursion (λ x. key_cmp x.key e.key ≡ Less) xs → AllByRecursion (λ x. AllByRecursion (λ y. key_cmp x.key y.key ≡ Less) (above e.key es)) xs → AllByRecursion (λ x. AllByRecursion (λ y. key_cmp x.key y.key ≡ Less) (e ∷ above e.key es)) xs
    all_both [] a b = tt
    all_both (x ∷ xs) a b = ((a.0, b.0), all_both xs a.1 b.1)
order_after es (DeleteStrict k) order =
    order_append (below k es) (above k es) (order_filter _ es order) (order_filter _ es order) (all_across k es)
order_after es DeleteAll order = tt
