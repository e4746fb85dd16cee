-- The entry that is chosen is a best one, and the run by chosen entries is an allowed one.
use Rattle.std.proofs.Common.{◌≡◌, ℕ, suc, ◌≤◌, Bool, true, false, cond, ◌⊎◌, inl, inr, if◌then◌else◌, List, [], ◌∷◌, Option, Some, None, refl, sym, ap, ◌∙◌, subst, arith, nat_lt, true≢false}
use Rattle.std.specs.Prelude.{Contains}
use Rattle.std.specs.List.{filter, AllByRecursion}
use Rattle.std.proofs.lemmas.Bool.Decides.{nat_tests}
use Rattle.std.proofs.lemmas.List.Elements.{All-contains, All-from_recursion}
use Rattle.of_match.specs.declared.entry.Entry.{Entry}
use Rattle.of_match.specs.declared.packet.Packet.{Packet}
use Rattle.of_match.specs.Pipeline.{takes, IsBest, Misses, prefer, highest_of, chosen}
use Rattle.of_match.proofs.AfterOrder.{all_map}

-- ---- the first of the highest priority

prefer_either : (x e : Entry) → (prefer x (Some e) ≡ x) ⊎ (prefer x (Some e) ≡ e)
prefer_either x e = elim (nat_lt x.key.priority e.key.priority) as (λ b. ((if b then e else x) ≡ x) ⊎ ((if b then e else x) ≡ e)) [ true ↦ inr refl | false ↦ inl refl ]

prefer_first : (x e : Entry) → x.key.priority ≤ (prefer x (Some e)).key.priority
prefer_first x e = grind (arith, nat_tests)

prefer_second : (x e : Entry) → e.key.priority ≤ (prefer x (Some e)).key.priority
prefer_second x e = grind (arith, nat_tests)

contains_head : (x : Entry) (es : List Entry) → Contains (x ∷ es) x
contains_head x es = (0, omega arith, refl)

contains_tail : (x : Entry) (es : List Entry) (e : Entry) → Contains es e → Contains (x ∷ es) e
contains_tail x es e w = (suc w.0, omega (arith, w.1), w.2)

module _ (t port : ℕ) (p : Packet) where
  -- what is known of the one that is chosen, or of all where none is
  abbrev pub Facts : List Entry → Option Entry → Type 0
  Facts es None = AllByRecursion (λ f. takes t port p f ≡ false) es
  Facts es (Some e) = Contains es e × (takes t port p e ≡ true) × AllByRecursion (λ f. takes t port p f ≡ true → f.key.priority ≤ e.key.priority) es

  raised : (es : List Entry) (e w : Entry) → e.key.priority ≤ w.key.priority → AllByRecursion (λ f. takes t port p f ≡ true → f.key.priority ≤ e.key.priority) es → AllByRecursion (λ f. takes t port p f ≡ true → f.key.priority ≤ w.key.priority) es
  raised es e w le all = all_map (λ f. takes t port p f ≡ true → f.key.priority ≤ e.key.priority) (λ f. takes t port p f ≡ true → f.key.priority ≤ w.key.priority) (λ f h b. omega (arith, h b)) es all

  with_first : (x : Entry) (es : List Entry) → takes t port p x ≡ true → (o : Option Entry) → Facts es o → Facts (x ∷ es) (Some (prefer x o))
  with_first x es hit None f =
      (contains_head x es, hit, ((λ b. omega arith), all_map (λ f. takes t port p f ≡ false) (λ f. takes t port p f ≡ true → f.key.priority ≤ x.key.priority) (λ f h b. absurd (true≢false (sym b ∙ h))) es f))
  with_first x es hit (Some e) f =
      let w = prefer x (Some e) in
      let has : Contains (x ∷ es) w × (takes t port p w ≡ true) = elim (prefer_either x e) [
        | inl same ↦ (subst (Contains (x ∷ es)) (sym same) (contains_head x es), ap (takes t port p) same ∙ hit)
        | inr same ↦ (subst (Contains (x ∷ es)) (sym same) (contains_tail x es e f.0), ap (takes t port p) same ∙ f.1)
      ] in
      (has.0, has.1, ((λ b. prefer_first x e), raised es e w (prefer_second x e) f.2))

  without_first : (x : Entry) (es : List Entry) → takes t port p x ≡ false → (o : Option Entry) → Facts es o → Facts (x ∷ es) o
  without_first x es miss None f = (miss, f)
  without_first x es miss (Some e) f = (contains_tail x es e f.0, f.1, ((λ b. absurd (true≢false (sym b ∙ miss))), f.2))

  step : (x : Entry) (es : List Entry) (b : Bool) → takes t port p x ≡ b → Facts es (chosen es t port p) → Facts (x ∷ es) (highest_of (cond b (x ∷ filter (takes t port p) es) (filter (takes t port p) es)))
  step x es true hit f = with_first x es hit (chosen es t port p) f
  step x es false miss f = without_first x es miss (chosen es t port p) f

  pub facts : (es : List Entry) → Facts es (chosen es t port p)
  facts [] = tt
  facts (x ∷ es) = step x es (takes t port p x) refl (facts es)

  pub chosen_misses : (es : List Entry) → chosen es t port p ≡ None → Misses es t port p
  chosen_misses es none f within =
      All-contains (λ f. takes t port p f ≡ false) es f (All-from_recursion (λ f. takes t port p f ≡ false) es (subst (Facts es) none (facts es))) within

  pub chosen_best : (es : List Entry) (e : Entry) → chosen es t port p ≡ Some e → IsBest es t port p e
  chosen_best es e some =
      let f = subst (Facts es) some (facts es) in
      record {
        is_entry = f.0;
        hit = f.1;
        highest = λ g within hit. All-contains (λ g. takes t port p g ≡ true → g.key.priority ≤ e.key.priority) es g (All-from_recursion (λ g. takes t port p g ≡ true → g.key.priority ≤ e.key.priority) es f.2) within hit;
      }
