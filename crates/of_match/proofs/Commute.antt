-- Two commands about different keys give the same tables in either order.
use Rattle.std.proofs.Common.{◌≡◌, Bool, true, false, cond, ◌≢◌, ◌⊎◌, inl, inr, List, [], ◌∷◌, ◌++◌, Some, None, refl, sym, ap, ◌∙◌, append-nil, append_assoc}
use Rattle.std.specs.List.{filter}
use Rattle.std.specs.declared.cmp.Ordering.{Ordering}
use Rattle.std.specs.declared.cmp.Ordering.TheVariants.{Less, Equal, Greater}
use Rattle.std.specs.Ordering.{is_lt, is_gt, ordering_reverse}
use Rattle.std.proofs.lemmas.List.Elements.{filter-append}
use Rattle.of_match.specs.declared.entry.Key.{Key}
use Rattle.of_match.specs.declared.entry.Entry.{Entry}
use Rattle.of_match.specs.declared.entry.Command.{Command}
use Rattle.of_match.specs.declared.entry.Command.TheVariants.{Add, DeleteStrict, DeleteAll}
use Rattle.of_match.specs.KeyOrder.{key_cmp}
use Rattle.of_match.specs.KeyLaws.{key_total, exact_keys}
use Rattle.of_match.specs.FlowTables.{below, above, after}
use Rattle.of_match.specs.Settled.{key_of}
use Rattle.of_match.proofs.AfterOrder.{less_from_test, greater_from_test}

-- ---- a filter of what a filter keeps

module _ {X : Type 0} (p q : X → Bool) where
  filter_keeps : ((x : X) → q x ≡ true → p x ≡ true) → (xs : List X) → filter p (filter q xs) ≡ filter q xs
  filter_keeps h [] = refl
  filter_keeps h (x ∷ xs) = keeps (q x) refl (filter_keeps h xs)
    where
      keeps : (b : Bool) → q x ≡ b → filter p (filter q xs) ≡ filter q xs → filter p (cond b (x ∷ filter q xs) (filter q xs)) ≡ cond b (x ∷ filter q xs) (filter q xs)
      keeps true e rest = ap (λ b. cond b (x ∷ filter p (filter q xs)) (filter p (filter q xs))) (h x e) ∙ ap (λ l. x ∷ l) rest
      keeps false e rest = rest

  filter_none : ((x : X) → q x ≡ true → p x ≡ false) → (xs : List X) → filter p (filter q xs) ≡ []
  filter_none h [] = refl
  filter_none h (x ∷ xs) = drops (q x) refl (filter_none h xs)
    where
      drops : (b : Bool) → q x ≡ b → filter p (filter q xs) ≡ [] → filter p (cond b (x ∷ filter q xs) (filter q xs)) ≡ []
      drops true e rest = ap (λ b. cond b (x ∷ filter p (filter q xs)) (filter p (filter q xs))) (h x e) ∙ rest
      drops false e rest = rest

  filter_turn : (xs : List X) → filter p (filter q xs) ≡ filter q (filter p xs)
  filter_turn [] = refl
  filter_turn (x ∷ xs) = turn (p x) (q x) refl refl (filter_turn xs)
    where
      turn : (a b : Bool) → p x ≡ a → q x ≡ b → filter p (filter q xs) ≡ filter q (filter p xs) → filter p (cond b (x ∷ filter q xs) (filter q xs)) ≡ filter q (cond a (x ∷ filter p xs) (filter p xs))
      turn true true d e rest =
          ap (λ b. cond b (x ∷ filter p (filter q xs)) (filter p (filter q xs))) d ∙ ap (λ l. x ∷ l) rest
          ∙ sym (ap (λ b. cond b (x ∷ filter q (filter p xs)) (filter q (filter p xs))) e)
      turn true false d e rest = rest ∙ sym (ap (λ b. cond b (x ∷ filter q (filter p xs)) (filter q (filter p xs))) e)
      turn false true d e rest = ap (λ b. cond b (x ∷ filter p (filter q xs)) (filter p (filter q xs))) d ∙ rest
      turn false false d e rest = rest

-- ---- what a command puts at its key

abbrev pub put_by : Command → List Entry
put_by (Add entry) = entry ∷ []
put_by (DeleteStrict key) = []
put_by DeleteAll = []

-- a command about a key keeps what is below and above it
after_is : (c : Command) (k : Key) (t : List Entry) → key_of c ≡ Some k → after t c ≡ below k t ++ (put_by c ++ above k t)
after_is (Add e) k t is = ap (λ o. elim o [ None ↦ below e.key t ++ e ∷ above e.key t | Some j ↦ below j t ++ e ∷ above j t ]) is
after_is (DeleteStrict j) k t is = ap (λ o. elim o [ None ↦ below j t ++ above j t | Some i ↦ below i t ++ above i t ]) is
after_is DeleteAll k t is = absurd cc

put_keeps : (p : Entry → Bool) (c : Command) (k : Key) → key_of c ≡ Some k → ((e : Entry) → e.key ≡ k → p e ≡ true) → filter p (put_by c) ≡ put_by c
put_keeps p (Add e) k is h = ap (λ b. cond b (e ∷ []) []) (h e cc)
put_keeps p (DeleteStrict j) k is h = refl
put_keeps p DeleteAll k is h = refl

put_none : (p : Entry → Bool) (c : Command) (k : Key) → key_of c ≡ Some k → ((e : Entry) → e.key ≡ k → p e ≡ false) → filter p (put_by c) ≡ []
put_none p (Add e) k is h = ap (λ b. cond b (e ∷ []) []) (h e cc)
put_none p (DeleteStrict j) k is h = refl
put_none p DeleteAll k is h = refl

three_parts : (p : Entry → Bool) (a b c : List Entry) → filter p (a ++ (b ++ c)) ≡ filter p a ++ (filter p b ++ filter p c)
three_parts p a b c = filter-append p a (b ++ c) ∙ ap (λ l. filter p a ++ l) (filter-append p b c)

module _ (k l : Key) (less : key_cmp k l ≡ Less) where
  greater : key_cmp l k ≡ Greater
  greater = key_total.antisymm l k ∙ ap ordering_reverse less

  -- before k is before l, and behind l is behind k
  before_both : (e : Entry) → is_lt (key_cmp e.key k) ≡ true → key_cmp e.key l ≡ Less
  before_both e t = key_total.trans e.key k l (less_from_test (key_cmp e.key k) t) less

  behind_both : (e : Entry) → is_gt (key_cmp e.key l) ≡ true → key_cmp e.key k ≡ Greater
  behind_both e t =
      let above_l : key_cmp l e.key ≡ Less = key_total.antisymm l e.key ∙ ap ordering_reverse (greater_from_test (key_cmp e.key l) t) in
      key_total.antisymm e.key k ∙ ap ordering_reverse (key_total.trans k l e.key less above_l)

  below_below : (t : List Entry) → below l (below k t) ≡ below k t
  below_below t = filter_keeps (λ e. is_lt (key_cmp e.key l)) (λ e. is_lt (key_cmp e.key k)) (λ e b. ap is_lt (before_both e b)) t

  above_below : (t : List Entry) → above l (below k t) ≡ []
  above_below t = filter_none (λ e. is_gt (key_cmp e.key l)) (λ e. is_lt (key_cmp e.key k)) (λ e b. ap is_gt (before_both e b)) t

  above_above : (t : List Entry) → above k (above l t) ≡ above l t
  above_above t = filter_keeps (λ e. is_gt (key_cmp e.key k)) (λ e. is_gt (key_cmp e.key l)) (λ e b. ap is_gt (behind_both e b)) t

  below_above : (t : List Entry) → below k (above l t) ≡ []
  below_above t = filter_none (λ e. is_lt (key_cmp e.key k)) (λ e. is_gt (key_cmp e.key l)) (λ e b. ap is_lt (behind_both e b)) t

  above_above_turned : (t : List Entry) → above l (above k t) ≡ above l t
  above_above_turned t = filter_turn (λ e. is_gt (key_cmp e.key l)) (λ e. is_gt (key_cmp e.key k)) t ∙ above_above t

  below_below_turned : (t : List Entry) → below k (below l t) ≡ below k t
  below_below_turned t = filter_turn (λ e. is_lt (key_cmp e.key k)) (λ e. is_lt (key_cmp e.key l)) t ∙ below_below t

  between : (t : List Entry) → below l (above k t) ≡ above k (below l t)
  between t = filter_turn (λ e. is_lt (key_cmp e.key l)) (λ e. is_gt (key_cmp e.key k)) t

  module _ (c d : Command) (at_k : key_of c ≡ Some k) (at_l : key_of d ≡ Some l) (t : List Entry) where
    -- what both orders leave
    abbrev both : List Entry
    both = below k t ++ (put_by c ++ (above k (below l t) ++ (put_by d ++ above l t)))

    first_k : after (after t c) d ≡ both
    first_k =
        let s = below k t ++ (put_by c ++ above k t) in
        let low : below l s ≡ below k t ++ (put_by c ++ above k (below l t)) =
        three_parts (λ e. is_lt (key_cmp e.key l)) (below k t) (put_by c) (above k t)
        ∙ ap (λ x. x ++ (below l (put_by c) ++ below l (above k t))) (below_below t)
        ∙ ap (λ x. below k t ++ (x ++ below l (above k t))) (put_keeps (λ e. is_lt (key_cmp e.key l)) c k at_k (λ e at. ap (λ j. is_lt (key_cmp j l)) at ∙ ap is_lt less))
        ∙ ap (λ x. below k t ++ (put_by c ++ x)) (between t) in
        let high : above l s ≡ above l t =
        three_parts (λ e. is_gt (key_cmp e.key l)) (below k t) (put_by c) (above k t)
        ∙ ap (λ x. x ++ (above l (put_by c) ++ above l (above k t))) (above_below t)
        ∙ ap (λ x. x ++ above l (above k t)) (put_none (λ e. is_gt (key_cmp e.key l)) c k at_k (λ e at. ap (λ j. is_gt (key_cmp j l)) at ∙ ap is_gt less))
        ∙ above_above_turned t in
        ap (λ x. after x d) (after_is c k t at_k) ∙ after_is d l s at_l ∙ ap (λ x. x ++ (put_by d ++ above l s)) low
        ∙ ap (λ x. (below k t ++ (put_by c ++ above k (below l t))) ++ (put_by d ++ x)) high
        ∙ append_assoc (below k t) (put_by c ++ above k (below l t)) (put_by d ++ above l t)
        ∙ ap (λ x. below k t ++ x) (append_assoc (put_by c) (above k (below l t)) (put_by d ++ above l t))

    first_l : after (after t d) c ≡ both
    first_l =
        let s = below l t ++ (put_by d ++ above l t) in
        let low : below k s ≡ below k t =
        three_parts (λ e. is_lt (key_cmp e.key k)) (below l t) (put_by d) (above l t)
        ∙ ap (λ x. x ++ (below k (put_by d) ++ below k (above l t))) (below_below_turned t)
        ∙ ap (λ x. below k t ++ (x ++ below k (above l t))) (put_none (λ e. is_lt (key_cmp e.key k)) d l at_l (λ e at. ap (λ j. is_lt (key_cmp j k)) at ∙ ap is_lt greater))
        ∙ ap (λ x. below k t ++ x) (below_above t) ∙ append-nil (below k t) in
        let high : above k s ≡ above k (below l t) ++ (put_by d ++ above l t) =
        three_parts (λ e. is_gt (key_cmp e.key k)) (below l t) (put_by d) (above l t)
        ∙ ap (λ x. above k (below l t) ++ (x ++ above k (above l t))) (put_keeps (λ e. is_gt (key_cmp e.key k)) d l at_l (λ e at. ap (λ j. is_gt (key_cmp j k)) at ∙ ap is_gt greater))
        ∙ ap (λ x. above k (below l t) ++ (put_by d ++ x)) (above_above t) in
        ap (λ x. after x c) (after_is d l t at_l) ∙ after_is c k s at_k ∙ ap (λ x. x ++ (put_by c ++ above k s)) low ∙ ap (λ x. below k t ++ (put_by c ++ x)) high

-- one of two different keys is before the other
apart_keys : (k l : Key) → k ≢ l → (key_cmp k l ≡ Less) ⊎ (key_cmp l k ≡ Less)
apart_keys k l differ = split (key_cmp k l) refl
  where
    split : (o : Ordering) → key_cmp k l ≡ o → (key_cmp k l ≡ Less) ⊎ (key_cmp l k ≡ Less)
    split Less e = inl e
    split Equal e = absurd (differ (exact_keys k l e))
    split Greater e = inr (key_total.antisymm l k ∙ ap ordering_reverse e)

-- both commands are about keys, and different ones
pub record Apart (c d : Command) : Type 0 where
  pub first : Key
  pub second : Key
  pub about_first : key_of c ≡ Some first
  pub about_second : key_of d ≡ Some second
  pub differ : first ≢ second

pub Apart-sym : (c d : Command) → Apart c d → Apart d c
Apart-sym c d a = record { first = a.second; second = a.first; about_first = a.about_second; about_second = a.about_first; differ = λ e. a.differ (sym e) }

pub commute : (c d : Command) (t : List Entry) → Apart c d → after (after t c) d ≡ after (after t d) c
commute c d t a =
    elim (apart_keys a.first a.second a.differ) [
      | inl less ↦ first_k a.first a.second less c d a.about_first a.about_second t ∙ sym (first_l a.first a.second less c d a.about_first a.about_second t)
      | inr less ↦ first_l a.second a.first less d c a.about_second a.about_first t ∙ sym (first_k a.second a.first less d c a.about_second a.about_first t)
    ]
