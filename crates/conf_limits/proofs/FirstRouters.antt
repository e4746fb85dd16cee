-- The places of routers, by the identifiers of their VLANs.
use Rattle.std.proofs.Common.{◌≡◌, ℕ, ◌+◌, ◌<◌, ◌==◌, ◌||◌, Bool, true, false, cond, List, drop, take, length, get_or, set, replicate, Some, refl, sym, ap, ◌∙◌, ⊎_elim, arith}
use Rattle.std.proofs.Math.Bool.{or-false, or-true}
use Rattle.std.proofs.lemmas.Bool.{eq-eqb, ne_eqb, cases_eq}
use Rattle.std.proofs.lemmas.List.{get_or-replicate, get_or-set_same, get_or-set_other}
use Rattle.std.proofs.lemmas.Option.{slice_get_read, slice_get_past}
use Rattle.std.specs.List.{slice_get}
use Rattle.conf_types.specs.declared.vlan.Router.{Router}
use Rattle.conf_types.specs.Lists.{is_among}
use Rattle.conf_types.specs.Routing.{router_with}
use Rattle.conf_rules.proofs.Earlier.{any_more}
use Rattle.conf_rules.proofs.First.{drop-past, next}

-- one identifier more leads to the place
pub led_more : (places xs ys : List ℕ) (i vid n at old : ℕ) → ys ≡ xs → i < length ys → vid ≡ get_or ys i vid → vid < length places
    → get_or places n 0 ≡ cond (is_among (take i xs) n) at old → get_or (set places vid at) n 0 ≡ cond (is_among (take (i + 1) xs) n) at old
led_more places xs ys i vid n at old e lt is within so_far = ⊎_elim here other (cases_eq n vid)
  where
    opened : (b : Bool) → (vid == n) ≡ b → cond (is_among (take (i + 1) xs) n) at old ≡ cond (is_among (take i xs) n || b) at old
    opened b h = ap (λ t. cond t at old) (any_more (λ x. x == n) xs ys i vid e lt is ∙ ap (λ t. is_among (take i xs) n || t) h)

    here : n ≡ vid → get_or (set places vid at) n 0 ≡ cond (is_among (take (i + 1) xs) n) at old
    here same =
        ap (λ k. get_or (set places vid at) k 0) same
        ∙ get_or-set_same places vid at 0 within
        ∙ sym (opened true (eq-eqb vid n (sym same)) ∙ ap (λ t. cond t at old) (or-true (is_among (take i xs) n)))

    other : (n ≡ vid → ⊥) → get_or (set places vid at) n 0 ≡ cond (is_among (take (i + 1) xs) n) at old
    other ne =
        get_or-set_other places vid n at 0 ne
        ∙ so_far
        ∙ sym (opened false (ne_eqb vid n (λ same. ne (sym same))) ∙ ap (λ t. cond t at old) (or-false (is_among (take i xs) n)))

-- of none
pub no_routers : (rs : List Router) (n : ℕ) → n < 4096 → slice_get rs (get_or (replicate 4096 (length rs)) n 0) ≡ router_with (drop (length rs) rs) n
no_routers rs n lt =
    ap (slice_get rs) (get_or-replicate 4096 n (length rs) 0 lt)
    ∙ slice_get_past rs (length rs) (omega arith)
    ∙ sym (ap (λ (ss : List Router). router_with ss n) (drop-past rs (length rs) (omega arith)))

-- of one more, before the others
pub routers_more : (rs : List Router) (k i n place old : ℕ) (r : Router) (vids : List ℕ) → k ≡ i + 1 → i < length rs → r ≡ get_or rs i r
    → vids ≡ r.vlans → place ≡ cond (is_among vids n) i old → slice_get rs old ≡ router_with (drop k rs) n → slice_get rs place ≡ router_with (drop i rs) n
routers_more rs k i n place old r vids behind less is same led so_far =
    ap (slice_get rs) (led ∙ ap (λ (ns : List ℕ). cond (is_among ns n) i old) same)
    ∙ elim (is_among r.vlans n) as (λ b. slice_get rs (cond b i old) ≡ cond b (Some r) (router_with (drop (i + 1) rs) n)) [
      | true ↦ slice_get_read rs (length rs) i r refl less is
      | false ↦ so_far ∙ ap (λ j. router_with (drop j rs) n) behind
    ]
    ∙ sym (ap (λ (ss : List Router). router_with ss n) (next rs rs i r refl less is))
