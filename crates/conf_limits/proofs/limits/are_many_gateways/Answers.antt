use Rattle.std.proofs.Common.{◌≡◌, ℕ, ◌*◌, ◌==◌, ltb, List, ap, ◌∙◌}
use Rattle.std.specs.Prelude.{count_by, sum_by}
use Rattle.conf_types.specs.declared.datapath.Dp.{Dp}
use Rattle.conf_types.specs.Groups.{group_of, of_dps}
use Rattle.conf_types.specs.Valid.{group_count}
use Rattle.conf_rules.specs.Limits.{gateways_of}
use Rattle.conf_limits.proofs.Gateways.{product-capped, groups-count}
use Rattle.conf_limits.proofs.limits.are_many_gateways.Goals as goal

pub returns : goal.returns
returns c =
    let conf = c.args.conf.now in
    let number : c.groups.result ≡ group_count conf =
    c.groups.ensures.value ∙ ap (λ (xs : List Dp). count_by (λ d. (group_of (of_dps xs) d.id).0 == d.id.0) xs) (c.as_slice.ensures ∙ c.dps.ensures) ∙ groups-count conf in
    ap (λ (n : ℕ). ltb 1024 (n * c.in_ok-each.each)) number
    ∙ ap (λ (n : ℕ). ltb 1024 (group_count conf * n)) c.in_ok-each.ensures
    ∙ product-capped (group_count conf) (sum_by gateways_of conf.vlans)
