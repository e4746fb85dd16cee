-- What one more and one fewer at a spot do to the counts.
use Rattle.std.proofs.Common.{◌≡◌, ℕ, ◌+◌, ◌-◌, ◌<◌, ◌==◌, ◌&&◌, true, cond, Option, Some, None, inl, inr, refl, sym, ap, ◌∙◌, arith, nat_eq}
use Rattle.std.specs.Option.{option_eq, unwrap_or}
use Rattle.std.proofs.lemmas.Bool.{cases_Bool, and_parts, eqb-true, false≢true}
use Rattle.conf_types.proofs.Reached.{same_id}
use Rattle.indexmap.specs.IndexMap.{IndexMap, get, Updates}
use Rattle.host_list.specs.declared.counts.Spot.{Spot}
use Rattle.host_list.specs.Counts.{is_spot, one_at, at_spot}

same_number : (a b : Option ℕ) → option_eq nat_eq a b ≡ true → a ≡ b
same_number None None e = refl
same_number None (Some y) e = absurd (false≢true e)
same_number (Some x) None e = absurd (false≢true e)
same_number (Some x) (Some y) e = ap Some (eqb-true x y e)

same_spot : (a b : Spot) → is_spot a b ≡ true → a ≡ b
same_spot a b e =
    let first = and_parts (a.dp.0 == b.dp.0) (option_eq nat_eq a.port b.port && option_eq nat_eq a.vid b.vid) e in
    let both = and_parts (option_eq nat_eq a.port b.port) (option_eq nat_eq a.vid b.vid) first.1 in
    let dp = same_id a.dp b.dp (eqb-true a.dp.0 b.dp.0 first.0) in
    let port = same_number a.port b.port both.0 in
    let vid = same_number a.vid b.vid both.1 in
    (λ i. record { dp = dp i; port = port i; vid = vid i })

module _ {S : Type 0} (old new : IndexMap Spot ℕ S) (spot : Spot) where
  -- what is put there, and at another spot what was
  put : (n : ℕ) (q : Spot) → Updates is_spot old new spot (Some n) → at_spot new q ≡ cond (is_spot spot q) n (at_spot old q)
  put n q up =
      elim (cases_Bool (is_spot spot q)) [
        | inl e ↦ ap (λ o. unwrap_or o 0) (up.0 q ∙ ap (λ b. cond b (Some n) (get is_spot old q)) e) ∙ sym (ap (λ b. cond b n (at_spot old q)) e)
        | inr e ↦ ap (λ o. unwrap_or o 0) (up.0 q ∙ ap (λ b. cond b (Some n) (get is_spot old q)) e) ∙ sym (ap (λ b. cond b n (at_spot old q)) e)
      ]

  pub raised : (n : ℕ) → Updates is_spot old new spot (Some (n + 1)) → n ≡ at_spot old spot → (q : Spot) → at_spot new q ≡ at_spot old q + one_at spot q
  raised n up is q =
      elim (cases_Bool (is_spot spot q)) [
        | inl e ↦ let here : at_spot new q ≡ n + 1 = put (n + 1) q up ∙ ap (λ b. cond b (n + 1) (at_spot old q)) e in
            let same : at_spot old spot ≡ at_spot old q = ap (at_spot old) (same_spot spot q e) in
            let one : one_at spot q ≡ 1 = ap (λ b. cond b 1 0) e in
            omega (arith, here, same, one, is)
        | inr e ↦ let here : at_spot new q ≡ at_spot old q = put (n + 1) q up ∙ ap (λ b. cond b (n + 1) (at_spot old q)) e in
            let none : one_at spot q ≡ 0 = ap (λ b. cond b 1 0) e in
            omega (arith, here, none)
      ]

  pub lowered : (n : ℕ) → Updates is_spot old new spot (Some (n - 1)) → n ≡ at_spot old spot → 0 < at_spot old spot → (q : Spot) → at_spot new q + one_at spot q ≡ at_spot old q
  lowered n up is some q =
      elim (cases_Bool (is_spot spot q)) [
        | inl e ↦ let here : at_spot new q ≡ n - 1 = put (n - 1) q up ∙ ap (λ b. cond b (n - 1) (at_spot old q)) e in
            let same : at_spot old spot ≡ at_spot old q = ap (at_spot old) (same_spot spot q e) in
            let one : one_at spot q ≡ 1 = ap (λ b. cond b 1 0) e in
            omega (arith, here, same, one, is, some)
        | inr e ↦ let here : at_spot new q ≡ at_spot old q = put (n - 1) q up ∙ ap (λ b. cond b (n - 1) (at_spot old q)) e in
            let none : one_at spot q ≡ 0 = ap (λ b. cond b 1 0) e in
            omega (arith, here, none)
      ]
