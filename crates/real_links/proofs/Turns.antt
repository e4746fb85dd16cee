-- The one whose turn is next is ready.
use Rattle.std.specs.Prelude.{◌≡◌, ℕ, Bool, true, false, cond, ◌&&◌, nat_le, List, [], ◌∷◌, Option, Some, None}
use Rattle.std.specs.BTreeMap.{BTreeMap, get}
use Rattle.std.specs.List.{All, find}
use Rattle.std.specs.Option.{option_map}
use Rattle.std.specs.Ordering.{nat_cmp}
use Rattle.std.proofs.Common.{refl, ap, ◌∙◌, subst}
use Rattle.std.proofs.lemmas.List.Elements.{All-head, All-tail}
use Rattle.std.proofs.lemmas.Option.{same_Some, none-some}
use Rattle.real_links.specs.Sources.{first_ready}

-- what holds of all holds of the one that is found, which passes the test
of_found : {A : Type 0} (P : A → Type 0) (test : A → Bool) (xs : List A) (x : A) → All P xs → find test xs ≡ Some x → P x × (test x ≡ true)
of_found P test [] x all is = absurd (none-some x is)
of_found {A = A} P test (y ∷ ys) x all is = one (test y) refl (λ e. of_found P test ys x (All-tail P y ys all) e) is
  where
    one : (b : Bool) → test y ≡ b → (find test ys ≡ Some x → P x × (test x ≡ true)) → cond b (Some y) (find test ys) ≡ Some x → P x × (test x ≡ true)
    one true here more e = let same = same_Some y x e in (subst P same (All-head P y ys all), subst (λ z. test z ≡ true) same here)
    one false here more e = more e

left : (a b : Bool) → (a && b) ≡ true → a ≡ true
left true b is = refl
left false b is = is

pub first_is_ready : (from : ℕ) (ready : BTreeMap ℕ Bool) (number : ℕ) → All (λ e. get nat_cmp ready e.0 ≡ Some e.1) ready.entries → first_ready from ready ≡ Some number → get nat_cmp ready number ≡ Some true
first_is_ready from ready number all is = by (find (λ it. it.1 && nat_le from it.0) ready.entries) refl is
  where
    by : (r : Option (ℕ × Bool)) → find (λ it. it.1 && nat_le from it.0) ready.entries ≡ r → option_map (λ it. it.0) r ≡ Some number → get nat_cmp ready number ≡ Some true
    by None found e = absurd (none-some number e)
    by (Some it) found e =
        let both = of_found (λ e. get nat_cmp ready e.0 ≡ Some e.1) (λ it. it.1 && nat_le from it.0) ready.entries it all found in
        subst (λ n. get nat_cmp ready n ≡ Some true) (same_Some it.0 number e) (both.0 ∙ ap Some (left it.1 (nat_le from it.0) both.1))
