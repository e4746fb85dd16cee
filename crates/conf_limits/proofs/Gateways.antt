-- Gateways of routes, asked for by each group.
use Rattle.std.proofs.Common.{◌≡◌, ℕ, zero, suc, ◌*◌, ◌≤◌, ◌==◌, Bool, true, false, ltb, List, ◌++◌, min, refl, sym, ap, ◌∙◌, arith, None}
use Rattle.std.specs.Prelude.{nat_lt, count_by}
use Rattle.std.proofs.Math.Nat.{mul-le-mul_left}
use Rattle.net_base.specs.declared.numbers.DpId.{DpId}
use Rattle.std.proofs.lemmas.Bool.{ltb-true, ltb-false, lt-ltb}
use Rattle.conf_types.specs.declared.datapath.Dp.{Dp}
use Rattle.conf_types.specs.Configuration.{Configuration}
use Rattle.conf_types.specs.Groups.{group_of, of_dps}
use Rattle.conf_types.specs.Valid.{group_count}
use Rattle.conf_types.proofs.Reached.{group_by_dps}
use Rattle.conf_shape.specs.declared.refused.ConfFault.{ConfFault}
use Rattle.conf_shape.specs.declared.refused.LimitName.TheVariants as limit
use Rattle.conf_rules.specs.Limits.{above, whole_dps}
use Rattle.conf_rules.specs.Places.{first}
use Rattle.conf_rules.proofs.Groups.{count-same}

-- a product, one factor as far as a cap above the limit
pub product-capped : (g s : ℕ) → ltb 1024 (g * min 1025 s) ≡ ltb 1024 (g * s)
product-capped zero s = let none : 0 * min 1025 s ≡ 0 * s = omega arith in ap (ltb 1024) none
product-capped (suc g) s = by (ltb 1025 s) refl
  where
    by : (b : Bool) → ltb 1025 s ≡ b → ltb 1024 (suc g * min 1025 s) ≡ ltb 1024 (suc g * s)
    by true h =
        let l = ltb-true 1025 s h in
        let m : min 1025 s ≡ 1025 = omega arith in
        ap (λ n. ltb 1024 (suc g * n)) m ∙ lt-ltb 1024 (suc g * 1025) (omega arith) ∙ sym (lt-ltb 1024 (suc g * s) (omega arith))
    by false h =
        let l = ltb-false 1025 s h in
        let m : min 1025 s ≡ s = omega arith in
        ap (λ n. ltb 1024 (suc g * n)) m

pub product-fits : (g s : ℕ) → g ≤ 64 → g * min 1025 s ≤ 65600
product-fits g s few =
    let m : min 1025 s ≤ 1025 = omega arith in
    let l = mul-le-mul_left g m in
    omega arith

-- groups, by the datapaths alone
pub groups-count : (conf : Configuration) → count_by (λ d. (group_of (of_dps conf.dps) d.id).0 == d.id.0) conf.dps ≡ group_count conf
groups-count conf =
    count-same (λ (d : Dp). (group_of (of_dps conf.dps) d.id).0 == d.id.0) (λ (d : Dp). (group_of conf d.id).0 == d.id.0)
    (λ d. ap (λ (g : DpId). g.0 == d.id.0) (group_by_dps conf d.id)) conf.dps

-- no fault of the first limit
pub few_dps : (n : ℕ) (rest : List ConfFault) → first (above 64 n limit.Dps whole_dps ++ rest) ≡ None → n ≤ 64
few_dps n rest e = by (nat_lt 64 n) refl
  where
    by : (b : Bool) → nat_lt 64 n ≡ b → n ≤ 64
    by false h = ltb-false 64 n h
    by true h = let found = rw h at e in absurd (cc)

pub ruleset product_rules = (product-capped, product-fits)
