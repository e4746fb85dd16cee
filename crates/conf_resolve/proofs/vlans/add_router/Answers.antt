use Rattle.std.proofs.Common.{◌≡◌, ◌∙◌, List, [], ◌∷◌, ◌++◌, codes, sym, ap, subst, OnOk}
use Rattle.std.specs.Option.{option_map_or}
use Rattle.conf_shape.specs.declared.raw.RawBgp.{RawBgp}
use Rattle.conf_resolve.specs.declared.ordered.PlacedVlan.{PlacedVlan}
use Rattle.conf_resolve.specs.InOrder.{router_site, bgp_site, by_number, by_numbers}
use Rattle.conf_resolve.specs.Added.{with_each}
use Rattle.conf_resolve.proofs.Adding.{with_each_append}
use Rattle.conf_resolve.proofs.vlans.add_router.Goals as goal

-- that of the peer is added behind those of the list
pub returns : goal.returns
returns c =
    let r = c.args.router.now in
    let listed : List PlacedVlan = by_numbers (router_site r ++ codes "vlans" ∷ []) r.vlans in
    let peer : List PlacedVlan = option_map_or (λ (bgp : RawBgp). by_number (bgp_site r) bgp.vlan) r.bgp [] in
    subst (λ (vlans : List PlacedVlan). OnOk c.add_peer.result (c.add_peer.new.vlans ≡ vlans))
    (ap (λ (vlans : List PlacedVlan). with_each vlans peer) c.in_ok-add_routed.ensures ∙ sym (with_each_append c.args.vlans.now listed peer))
    c.add_peer.ensures
