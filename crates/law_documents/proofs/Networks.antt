-- What is read of VLANs and routers, where they are the same but for the order of entries.
use Rattle.std.proofs.Common.{◌≡◌, ℕ, List, [], Option, None, refl, ap, ◌∙◌, subst}
use Rattle.std.specs.Prelude.{codes, unwrap_or}
use Rattle.yaml_tree.specs.declared.tree.Key.{Key}
use Rattle.yaml_tree.specs.declared.tree.Pair.{Pair}
use Rattle.conf_shape.specs.declared.kinds.TheConstants.{MOST_VID}
use Rattle.conf_shape.specs.declared.kinds.Kind.TheVariants.{Map, Maps}
use Rattle.conf_shape.specs.declared.kinds.MapKind.TheVariants as maps
use Rattle.conf_shape.specs.declared.raw.VlanRef.TheVariants as vlan_refs
use Rattle.conf_shape.specs.Faults.{faults_of}
use Rattle.conf_shape.specs.Keys.{keys_of}
use Rattle.conf_shape.specs.Raw.{vip_of, route_of, vlan_with, vlan_of_entry, bgp_of, router_of_entry}
use Rattle.conf_shape.specs.Reads.{entries_of, entries_at, vlan_of, own_number}
use Rattle.conf_shape.specs.Sections.{key_text, under_key}
use Rattle.conf_shape.specs.Values.{mac_of, net_of, ip_of, identifier_of}
use Rattle.law_checks.proofs.Right.{HasKind, takes_by}
use Rattle.law_checks.proofs.Stands.{numbered_found}
use Rattle.law_documents.proofs.Clash.{spelled_itself}
use Rattle.law_documents.proofs.Interfaces.{own_same, names_same, acls_same}
use Rattle.law_documents.proofs.Kept.{Entries, entries_kept, Keeps, IsRead, text_read, vlan_read, read_items, items_kept}
use Rattle.law_documents.proofs.Layers.{IsSameEntry}
use Rattle.law_documents.proofs.Looked.{Looked, look, read_at, given_same, flag_same, number_under_same, number_same, text_same, words_same, option_same, list_same, below}

-- ---- VLANs

vip_read : IsRead vip_of
vip_read t u same = ap (λ o. net_of (unwrap_or o [])) (text_read t u same)

route_kept : Keeps (Map maps.RouteItem) route_of
route_kept t u h same =
    let looked = look maps.RouteItem (spelled_itself (keys_of maps.RouteItem)) (entries_of t) (entries_of u) (entries_kept (Map maps.RouteItem) maps.RouteItem refl t u h same) in
    let ps : List Pair = entries_at (codes "route") (entries_of t) in
    let qs : List Pair = entries_at (codes "route") (entries_of u) in
    let inner = look maps.Route (spelled_itself (keys_of maps.Route)) ps qs (below maps.RouteItem (entries_of t) (entries_of u) looked maps.Route (Map maps.Route) (codes "route") refl refl) in
    let dst = ap net_of (words_same maps.Route ps qs inner (codes "ip_dst")) in
    let gw = ap ip_of (words_same maps.Route ps qs inner (codes "ip_gw")) in
    λ i. record { dst = dst i; gw = gw i }

module _ (number : Option ℕ) (ps qs : List Pair) (e : Entries (maps.Vlan number) ps qs) where
  looked : Looked (maps.Vlan number) ps qs
  looked = look (maps.Vlan number) (spelled_itself (keys_of (maps.Vlan number))) ps qs e

  vlan_same : (k : Key) → vlan_with k ps ≡ vlan_with k qs
  vlan_same k =
      let names = names_same (maps.Vlan number) ps qs looked (maps.Vlan None) (key_text k) in
      let has_vid = given_same (maps.Vlan number) ps qs looked (codes "vid") in
      let vid = read_at (maps.Vlan number) ps qs looked (codes "vid") (λ o. unwrap_or (own_number 1 MOST_VID k o) 1) (λ t u a. ap (λ o. unwrap_or o 1) (own_same 1 MOST_VID k t u a.0)) in
      let acls = acls_same (maps.Vlan number) ps qs looked in
      let mac = ap mac_of (text_same (maps.Vlan number) ps qs looked (maps.Vlan None) (codes "faucet_mac") []) in
      let vips = list_same (maps.Vlan number) ps qs looked vip_of (codes "faucet_vips") (λ t u a. read_items vip_of vip_read t u a.0) in
      let routes = list_same (maps.Vlan number) ps qs looked route_of (codes "routes") (λ t u a. items_kept (Maps maps.RouteItem) (Map maps.RouteItem) refl route_of route_kept t u (a.1 (Maps maps.RouteItem) (takes_by maps.Vlan (codes "routes") (Maps maps.RouteItem) refl (λ n. refl) number)) a.0) in
      let max_hosts = number_same (maps.Vlan number) ps qs looked (maps.Vlan None) (codes "max_hosts") in
      let unicast_flood = flag_same (maps.Vlan number) ps qs looked (maps.Vlan None) (codes "unicast_flood") in
      λ i. record { names = names i; has_vid = has_vid i; vid = vid i; acls = acls i; mac = mac i; vips = vips i; routes = routes i; max_hosts = max_hosts i; unicast_flood = unicast_flood i }

pub vlan_entry : (p q : Pair) → HasKind p.value (under_key maps.Vlans [] p.key) → IsSameEntry p q → vlan_of_entry p ≡ vlan_of_entry q
vlan_entry p q has same =
    let found = numbered_found 1 MOST_VID maps.Vlan p.key has.0 has.1 in
    let h : faults_of p.value (Map (maps.Vlan found.0)) ≡ [] = subst (λ kind. faults_of p.value kind ≡ []) found.2 has.2 in
    vlan_same found.0 (entries_of p.value) (entries_of q.value) (entries_kept (Map (maps.Vlan found.0)) (maps.Vlan found.0) refl p.value q.value h same.1) p.key
    ∙ ap (λ k. vlan_with k (entries_of q.value)) same.0

-- ---- routers

bgp_kept : Keeps (Map maps.Bgp) bgp_of
bgp_kept t u h same =
    let ps : List Pair = entries_of t in
    let qs : List Pair = entries_of u in
    let looked = look maps.Bgp (spelled_itself (keys_of maps.Bgp)) ps qs (entries_kept (Map maps.Bgp) maps.Bgp refl t u h same) in
    let ours = ap (λ o. unwrap_or o 0) (number_under_same maps.Bgp ps qs looked 16 (codes "as")) in
    let theirs = ap (λ o. unwrap_or o 0) (number_under_same maps.Bgp ps qs looked 16 (codes "neighbor_as")) in
    let id = ap identifier_of (words_same maps.Bgp ps qs looked (codes "routerid")) in
    let vlan = ap (λ o. unwrap_or o (vlan_refs.Name [])) (option_same maps.Bgp ps qs looked vlan_of (codes "vlan") (λ t u a. vlan_read t u a.0)) in
    λ i. record { our_as = ours i; neighbor_as = theirs i; routerid = id i; vlan = vlan i }

pub router_entry : (p q : Pair) → HasKind p.value (under_key maps.Routers [] p.key) → IsSameEntry p q → router_of_entry p ≡ router_of_entry q
router_entry p q has same =
    let kind : has.0 ≡ Map maps.Router = cc (has.1) in
    let h : faults_of p.value (Map maps.Router) ≡ [] = subst (λ kind. faults_of p.value kind ≡ []) kind has.2 in
    let looked = look maps.Router (spelled_itself (keys_of maps.Router)) (entries_of p.value) (entries_of q.value) (entries_kept (Map maps.Router) maps.Router refl p.value q.value h same.1) in
    let name = ap key_text same.0 in
    let vlans = list_same maps.Router (entries_of p.value) (entries_of q.value) looked vlan_of (codes "vlans") (λ t u a. read_items vlan_of vlan_read t u a.0) in
    let bgp = option_same maps.Router (entries_of p.value) (entries_of q.value) looked bgp_of (codes "bgp") (λ t u a. bgp_kept t u (a.1 (Map maps.Bgp) refl) a.0) in
    λ i. record { name = name i; vlans = vlans i; bgp = bgp i }
