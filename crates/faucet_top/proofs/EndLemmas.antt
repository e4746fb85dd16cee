-- How serving ended, and what was delivered.
use Rattle.std.proofs.Common.{◌≡◌, ◌==◌, ℕ, ◌⊎◌, cond, inl, inr, List, Option, Some, refl, sym, ap, ◌∙◌, arith}
use Rattle.fg_outside.specs.Counts.{Rose}
use Rattle.hub_drive.specs.declared.drive.Drove.{Drove}
use Rattle.hub_drive.specs.declared.drive.Drove.TheVariants as drove
use Rattle.faucet_top.specs.Answer.{Answer}
use Rattle.faucet_top.specs.Ends.{status_served}
use Rattle.faucet_top.specs.Given.{BreaksOff, Delivers}
use Rattle.faucet_top.specs.Serving.{IsItsEnd}
use Rattle.faucet_top.specs.Status.{number_of_status}

pub some_is : {X : Type 0} {x y : X} → Some x ≡ Some y → x ≡ y
some_is is = cc

-- the number by how serving ended
abbrev pub number_served : Drove → ℕ
number_served end = number_of_status (status_served end)

end_with : ℕ → Drove
end_with n = cond (n == 0) drove.Done (cond (n == 6) drove.HubFault (cond (n == 7) drove.Spent (cond (n == 4) drove.WriteFault drove.Memory)))

end_of : (end : Drove) → end_with (number_served end) ≡ end
unfolding end_with
end_of drove.Done = refl
end_of drove.HubFault = refl
end_of drove.Spent = refl
end_of drove.WriteFault = refl
end_of drove.Memory = refl

-- each end has its number
pub same_end : (x y : Drove) → number_served x ≡ number_served y → x ≡ y
same_end x y is = sym (end_of x) ∙ ap end_with is ∙ end_of y

-- it is neither 1, 3 nor 5
pub served_not : (n : ℕ) → (n ≡ 0 → ⊥) → (n ≡ 6 → ⊥) → (n ≡ 7 → ⊥) → (n ≡ 4 → ⊥) → (n ≡ 8 → ⊥) → (end : Drove) → number_served end ≡ n → ⊥
served_not n zero six seven four eight drove.Done s = zero (sym s)
served_not n zero six seven four eight drove.HubFault s = six (sym s)
served_not n zero six seven four eight drove.Spent s = seven (sym s)
served_not n zero six seven four eight drove.WriteFault s = four (sym s)
served_not n zero six seven four eight drove.Memory s = eight (sym s)

pub unfailed_not_four : (end : Drove) → (end ≡ drove.WriteFault → ⊥) → number_served end ≡ 4 → ⊥
unfailed_not_four end other s = other (same_end end drove.WriteFault s)

pub its_end_not_four : (end : Drove) → IsItsEnd end → number_served end ≡ 4 → ⊥
its_end_not_four drove.Done its s = omega (arith, s)
its_end_not_four drove.HubFault its s = omega (arith, s)
its_end_not_four drove.Spent its s = omega (arith, s)
its_end_not_four drove.WriteFault its s = its
its_end_not_four drove.Memory its s = its

pub its_end_not_refused : (n : ℕ) → (n ≡ 2) ⊎ ((n ≡ 3) ⊎ (n ≡ 8)) → (end : Drove) → IsItsEnd end → number_served end ≡ n → ⊥
its_end_not_refused n is drove.Done its s = elim is [ inl two ↦ omega (arith, s, two) | inr more ↦ elim more [ inl three ↦ omega (arith, s, three) | inr eight ↦ omega (arith, s, eight) ] ]
its_end_not_refused n is drove.HubFault its s = elim is [ inl two ↦ omega (arith, s, two) | inr more ↦ elim more [ inl three ↦ omega (arith, s, three) | inr eight ↦ omega (arith, s, eight) ] ]
its_end_not_refused n is drove.Spent its s = elim is [ inl two ↦ omega (arith, s, two) | inr more ↦ elim more [ inl three ↦ omega (arith, s, three) | inr eight ↦ omega (arith, s, eight) ] ]
its_end_not_refused n is drove.WriteFault its s = its
its_end_not_refused n is drove.Memory its s = its

-- ---- a reply that was delivered

module _ (status : ℕ) (o0 o1 e0 e1 : Option (List ℕ)) (m0 m1 n0 n1 : ℕ) where
  abbrev pub Whole : Answer → Type 0
  Whole a = Delivers a status o0 o1 e0 e1 m0 m1 n0 n1

  abbrev pub Broke : Answer → Type 0
  Broke a = BreaksOff a status o0 o1 e0 e1 m0 m1 n0 n1

  pub delivered_status : (a : Answer) → Whole a → (status ≡ a.status) ⊎ (status ≡ 4)
  delivered_status a whole = elim whole [ inl all ↦ inl all.0 | inr front ↦ inr front.0 ]

  pub delivered_fault : (a : Answer) → (a.status ≡ 4 → ⊥) → Whole a → status ≡ 4 → Rose m0 m1 ⊎ Rose n0 n1
  delivered_fault a other whole s = elim whole [ inl all ↦ absurd (other (sym all.0 ∙ s)) | inr front ↦ front.3 ]

  pub delivered_kept : (a : Answer) → Whole a → (status ≡ 4 → ⊥) → (m1 ≡ m0) × (n1 ≡ n0)
  delivered_kept a whole other = elim whole [ inl all ↦ (all.3, all.4) | inr front ↦ absurd (other front.0) ]
