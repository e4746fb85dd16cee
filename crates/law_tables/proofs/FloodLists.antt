-- What is sent for each of some interfaces, in another order.
use Rattle.std.proofs.Common.{◌≡◌, ℕ, Bool, true, false, cond, not, List, [], ◌∷◌, ◌++◌, filter, refl, sym, ap, ◌∙◌, if◌then◌else◌}
use Rattle.std.specs.List.{AllByRecursion, flat_map}
use Rattle.std.proofs.lemmas.List.{append_assoc}
use Rattle.of_match.specs.declared.packet.Sent.{Sent}
use Rattle.law_runs.specs.Order.{AreSame, same_self, same_equal, same_then, same_joined, same_exchanged}

module _ {A : Type 0} where
  -- of those that pass a test
  pub flat_filtered : (f : A → List Sent) (t : A → Bool) (xs : List A) → flat_map f (filter t xs) ≡ flat_map (λ x. if t x then f x else []) xs
  flat_filtered f t [] = refl
  flat_filtered f t (x ∷ xs) = by (t x) (flat_filtered f t xs)
    where
      by : (b : Bool) → flat_map f (filter t xs) ≡ flat_map (λ x. if t x then f x else []) xs → flat_map f (cond b (x ∷ filter t xs) (filter t xs)) ≡ (if b then f x else []) ++ flat_map (λ x. if t x then f x else []) xs
      by true more = ap (λ l. f x ++ l) more
      by false more = more

  -- what is the same for each is the same for all
  pub flat_same : (f g : A → List Sent) (xs : List A) → AllByRecursion (λ x. f x ≡ g x) xs → flat_map f xs ≡ flat_map g xs
  flat_same f g [] all = refl
  flat_same f g (x ∷ xs) all = ap (λ l. l ++ flat_map f xs) all.0 ∙ ap (λ l. g x ++ l) (flat_same f g xs all.1)

  -- first those that fail a test, and then those that pass it
  pub flat_parted : (f : A → List Sent) (t : A → Bool) (xs : List A) → AreSame (flat_map f (filter (λ x. not (t x)) xs) ++ flat_map f (filter t xs)) (flat_map f xs)
  flat_parted f t [] = same_self []
  flat_parted f t (x ∷ xs) = by (t x) (flat_parted f t xs)
    where
      failed : List Sent
      failed = flat_map f (filter (λ x. not (t x)) xs)

      passed : List Sent
      passed = flat_map f (filter t xs)

      by : (b : Bool) → AreSame (failed ++ passed) (flat_map f xs) → AreSame (flat_map f (cond (not b) (x ∷ filter (λ x. not (t x)) xs) (filter (λ x. not (t x)) xs)) ++ flat_map f (cond b (x ∷ filter t xs) (filter t xs))) (f x ++ flat_map f xs)
      by false more =
          same_then ((f x ++ failed) ++ passed) (f x ++ (failed ++ passed)) (f x ++ flat_map f xs) (same_equal ((f x ++ failed) ++ passed) (f x ++ (failed ++ passed)) (append_assoc (f x) failed passed))
          (same_joined (f x) (f x) (failed ++ passed) (flat_map f xs) (same_self (f x)) more)
      by true more =
          same_then (failed ++ (f x ++ passed)) ((failed ++ f x) ++ passed) (f x ++ flat_map f xs) (same_equal (failed ++ (f x ++ passed)) ((failed ++ f x) ++ passed) (sym (append_assoc failed (f x) passed)))
          (same_then ((failed ++ f x) ++ passed) ((f x ++ failed) ++ passed) (f x ++ flat_map f xs) (same_joined (failed ++ f x) (f x ++ failed) passed passed (same_exchanged failed (f x)) (same_self passed))
          (same_then ((f x ++ failed) ++ passed) (f x ++ (failed ++ passed)) (f x ++ flat_map f xs) (same_equal ((f x ++ failed) ++ passed) (f x ++ (failed ++ passed)) (append_assoc (f x) failed passed))
          (same_joined (f x) (f x) (failed ++ passed) (flat_map f xs) (same_self (f x)) more)))
