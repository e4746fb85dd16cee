-- The places of VLANs, by their identifiers.
use Rattle.std.proofs.Common.{◌≡◌, ℕ, ◌+◌, ◌<◌, ◌==◌, cond, List, drop, length, get_or, set, replicate, Some, refl, sym, ap, ◌∙◌, ⊎_elim, arith}
use Rattle.std.proofs.lemmas.Bool.{eq-eqb, ne_eqb, cases_eq}
use Rattle.std.proofs.lemmas.List.{get_or-replicate, get_or-set_same, get_or-set_other}
use Rattle.std.proofs.lemmas.Option.{slice_get_read, slice_get_past}
use Rattle.std.specs.List.{slice_get}
use Rattle.conf_types.specs.declared.vlan.Vlan.{Vlan}
use Rattle.conf_types.specs.Configuration.{vlan_with}
use Rattle.conf_rules.proofs.First.{drop-past, next}

-- of none
pub no_firsts : (vs : List Vlan) (n : ℕ) → n < 4096 → slice_get vs (get_or (replicate 4096 (length vs)) n 0) ≡ vlan_with (drop (length vs) vs) n
no_firsts vs n lt =
    ap (slice_get vs) (get_or-replicate 4096 n (length vs) 0 lt)
    ∙ slice_get_past vs (length vs) (omega arith)
    ∙ sym (ap (λ (ws : List Vlan). vlan_with ws n) (drop-past vs (length vs) (omega arith)))

-- of one more, before the others
pub firsts_more : (firsts : List ℕ) (vs : List Vlan) (k i vid n : ℕ) (v : Vlan) → k ≡ i + 1 → vid < length firsts → i < length vs → v ≡ get_or vs i v → vid ≡ v.vid
    → slice_get vs (get_or firsts n 0) ≡ vlan_with (drop k vs) n → slice_get vs (get_or (set firsts vid i) n 0) ≡ vlan_with (drop i vs) n
firsts_more firsts vs k i vid n v behind lt less is same so_far = ⊎_elim here other (cases_eq n vid)
  where
    opened : vlan_with (drop i vs) n ≡ cond (v.vid == n) (Some v) (vlan_with (drop (i + 1) vs) n)
    opened = ap (λ (ws : List Vlan). vlan_with ws n) (next vs vs i v refl less is)

    here : n ≡ vid → slice_get vs (get_or (set firsts vid i) n 0) ≡ vlan_with (drop i vs) n
    here e =
        ap (λ k. slice_get vs (get_or (set firsts vid i) k 0)) e
        ∙ ap (slice_get vs) (get_or-set_same firsts vid i 0 lt)
        ∙ slice_get_read vs (length vs) i v refl less is
        ∙ sym (opened ∙ ap (λ b. cond b (Some v) (vlan_with (drop (i + 1) vs) n)) (eq-eqb v.vid n (sym same ∙ sym e)))

    other : (n ≡ vid → ⊥) → slice_get vs (get_or (set firsts vid i) n 0) ≡ vlan_with (drop i vs) n
    other ne =
        ap (slice_get vs) (get_or-set_other firsts vid n i 0 ne)
        ∙ so_far
        ∙ ap (λ j. vlan_with (drop j vs) n) behind
        ∙ sym (opened ∙ ap (λ b. cond b (Some v) (vlan_with (drop (i + 1) vs) n)) (ne_eqb v.vid n (λ e. ne (sym e ∙ sym same))))
