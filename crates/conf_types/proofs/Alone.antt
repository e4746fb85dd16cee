-- What is no datapath of the configuration is a group of its own.
use Rattle.std.proofs.Common.{◌≡◌, ℕ, zero, suc, ◌==◌, ◌&&◌, Bool, false, List, [], ◌∷◌, length, filter, map, refl, inl, inr, sym, ap, arith}
use Rattle.std.specs.Prelude.{Contains}
use Rattle.std.specs.List.{list_any}
use Rattle.std.proofs.lemmas.Bool.{eqb-true, cases_Bool, or_cases, and_parts, both_ways}
use Rattle.std.proofs.lemmas.List.Folds.{Any-from_list_any}
use Rattle.net_base.specs.declared.numbers.DpId.{DpId}
use Rattle.conf_types.specs.declared.datapath.Dp.{Dp}
use Rattle.conf_types.specs.Configuration.{Configuration}
use Rattle.conf_types.specs.Groups.{IsDp, leads_to, is_reached, least_id, group_of}

none_kept : {X : Type 0} (t : X → Bool) (xs : List X) → ((x : X) → Contains xs x → t x ≡ false) → filter t xs ≡ []
none_kept t [] fails = refl
none_kept t (x ∷ xs) fails = rw (fails x (zero, omega arith, refl)) (none_kept t xs (λ y (k, lt, is). fails y (suc k, omega (arith, lt), is)))

module _ (conf : Configuration) (a : DpId) (alone : IsDp conf a → ⊥) where
  not_reached : (n : ℕ) (d : Dp) → Contains conf.dps d → is_reached conf a n d.id ≡ false
  not_reached zero d c = elim (cases_Bool (a.0 == d.id.0)) [
    | inl same ↦ absurd (alone (record { dp = d; here = c; id_is = let made : ℕ → DpId = λ n. record { 0 = n } in ap made (sym (eqb-true a.0 d.id.0 same)) }))
    | inr other ↦ other
  ]
  not_reached (suc n) d c = elim (cases_Bool (is_reached conf a (suc n) d.id)) [
    | inl reached ↦ elim (or_cases (is_reached conf a n d.id) (list_any (λ e. is_reached conf a n e.id && leads_to e d.id) conf.dps) reached) [
      | inl before ↦ absurd (both_ways (is_reached conf a n d.id) (not_reached n d c) before)
      | inr stepped ↦
          let found = Any-from_list_any (λ (e : Dp). is_reached conf a n e.id && leads_to e d.id) conf.dps stepped in
          let e : Dp = found.1 in
          absurd (both_ways (is_reached conf a n e.id) (not_reached n e (found.0, found.2, found.3)) (and_parts (is_reached conf a n e.id) (leads_to e d.id) found.4).0)
    ]
    | inr other ↦ other
  ]

  pub group_alone : a ≡ group_of conf a
  group_alone = sym (ap (λ (ds : List Dp). least_id a (map (λ d. d.id) ds)) (none_kept (λ d. is_reached conf a (length conf.dps) d.id) conf.dps (λ d c. not_reached (length conf.dps) d c)))
