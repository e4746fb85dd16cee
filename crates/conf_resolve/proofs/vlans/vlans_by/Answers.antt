use Rattle.std.proofs.Common.{◌≡◌, ◌∙◌, ℕ, List, ◌++◌, map, ap, nat_lt}
use Rattle.std.proofs.lemmas.Result.{IfOk-weaker}
use Rattle.conf_resolve.specs.declared.ordered.PlacedVlan.{PlacedVlan}
use Rattle.conf_resolve.specs.InOrder.{in_order, written, further, named, named_by_dps, named_by_routers}
use Rattle.conf_resolve.specs.Added.{with_each}
use Rattle.conf_resolve.proofs.Adding.{vlans_named, written_vids}
use Rattle.conf_resolve.proofs.vlans.vlans_by.Goals as goal

pub returns : goal.returns
returns c =
    let vlans = map written c.args.vlans.now in
    let by_dps = named_by_dps c.args.dps.now in
    let by_routers = named_by_routers c.args.routers.now in
    let all : c.add_routers.new.vlans ≡ vlans ++ further (map (λ v. v.vid) c.args.vlans.now) (named c.args.dps.now c.args.routers.now) =
    vlans_named vlans c.in_ok-made.made c.add_routers.new.vlans by_dps by_routers c.in_ok-made.ensures
    (c.in_ok-add_routers.ensures ∙ ap (λ (v : List PlacedVlan). with_each v by_routers) c.in_ok-add_dps.ensures)
    ∙ ap (λ (vids : List ℕ). vlans ++ further vids (by_dps ++ by_routers)) (written_vids c.args.vlans.now) in
    IfOk-weaker c.new.result _ _ (λ made h. h ∙ c.in_ok-in_order.ensures ∙ ap (in_order (λ (v w : PlacedVlan). nat_lt v.vlan.vid w.vlan.vid)) (c.into_items.ensures ∙ all)) c.new.ensures
