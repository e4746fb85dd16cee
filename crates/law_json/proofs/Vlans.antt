-- The text of a VLAN tells the VLAN.
use Rattle.std.proofs.Common.{◌≡◌, ◌≢◌, ◌<◌, ℕ, Bool, List, [], ◌∷◌, map, refl, sym, ap, ◌∙◌, subst, arith, decimal, codes}
use Rattle.std.specs.List.{AllByRecursion}
use Rattle.net_base.specs.Address.{SpellsMac, mac_text}
use Rattle.net_base.specs.declared.address.Mac.{Mac}
use Rattle.net_base.proofs.Addresses.{mac_spelled, same_mac}
use Rattle.conf_types.specs.declared.address.Ip.{Ip}
use Rattle.conf_types.specs.declared.address.Net.{Net}
use Rattle.conf_types.specs.declared.vlan.Route.{Route}
use Rattle.conf_types.specs.declared.vlan.Vlan.{Vlan}
use Rattle.conf_types.specs.Configuration.{Configuration}
use Rattle.conf_types.specs.Valid.{IsValid, IsVlan, IsVip, IsRoute}
use Rattle.conf_json.specs.Json.{Member, with_member, braces, list, object}
use Rattle.conf_json.specs.Text.{ip_text, vip_text, route_text, vlan_members, vlan_text, vlan_member}
use Rattle.law_json.proofs.Alike.{by_number, AreMembers, each_before, same_members, same_lists}
use Rattle.law_json.proofs.Members.{all_in, in_all}
use Rattle.law_json.proofs.Parts.{IsSmall, items_value, same_items, names_value, same_names, same_flag, same_number}
use Rattle.law_json.proofs.Ports.{text_at}
use Rattle.law_json.proofs.Spellings.{address_value, same_address_text, vip_value, same_vip}
use Rattle.law_json.proofs.Values.{IsValue, flag_value, number_value, quoted_value, braces_value, same_braces, same_quoted}

-- ---- VIPs and routes

vips_value : (vips : List Net) → AllByRecursion IsVip vips → IsValue (list (map vip_text vips))
vips_value vips all = items_value vip_text IsVip (λ vip is. vip_value vip) vips all

same_vips : (a b : List Net) → AllByRecursion IsVip a → AllByRecursion IsVip b → list (map vip_text a) ≡ list (map vip_text b) → a ≡ b
same_vips a b in_a in_b e = same_items vip_text IsVip (λ vip is. vip_value vip) (λ x y p q e. same_vip x y p.address q.address e) a b in_a in_b e

abbrev route_members : Route → List Member
route_members route = (codes "ip_dst", vip_text route.dst) ∷ (codes "ip_gw", ip_text route.gw) ∷ []

route_is : (route : Route) → route_text route ≡ braces (route_members route)
unfolding with_member
route_is route = refl

route_values : (route : Route) → AllByRecursion (λ m. IsValue m.1) (route_members route)
route_values route = (vip_value route.dst, (address_value route.gw, tt))

route_value : (route : Route) → IsRoute route → IsValue (route_text route)
route_value route is = subst IsValue (sym (route_is route)) (braces_value (route_members route) (route_values route))

same_route : (r s : Route) → IsRoute r → IsRoute s → route_text r ≡ route_text s → r ≡ s
same_route r s in_r in_s e =
    let same = same_braces (route_members r) (route_members s) (route_values r) (route_values s) (sym (route_is r) ∙ e ∙ route_is s) in
    let dst : r.dst ≡ s.dst = same_vip r.dst s.dst in_r.address in_s.address (ap (text_at 0) same) in
    let gw : r.gw ≡ s.gw = same_address_text r.gw s.gw in_r.gateway in_s.gateway (ap (text_at 1) same) in
    ap (λ (n : Net). record { dst = n; gw = r.gw }) dst ∙ ap (λ (a : Ip). record { dst = s.dst; gw = a }) gw

-- ---- a VLAN

vlan_is : (v : Vlan) → vlan_text v ≡ braces (vlan_members v)
unfolding vlan_text with_member
vlan_is v = refl

hosts_small : (v : Vlan) → IsVlan v → IsSmall v.max_hosts
hosts_small v is = omega (arith, is.most_hosts)

vid_small : (v : Vlan) → IsVlan v → IsSmall v.vid
vid_small v is = omega (arith, is.number.most)

vlan_values : (v : Vlan) → IsVlan v → AllByRecursion (λ m. IsValue m.1) (vlan_members v)
vlan_values v is = (
  names_value v.acls,
  (
    quoted_value v.description,
    (
      quoted_value _,
      (
        vips_value v.vips is.vips,
        (
          number_value v.max_hosts (hosts_small v is),
          (
            quoted_value v.name,
            (items_value route_text IsRoute route_value v.routes is.routes, (flag_value v.unicast_flood, tt)),
          ),
        ),
      ),
    ),
  ),
)

vlan_value : (v : Vlan) → IsVlan v → IsValue (vlan_text v)
vlan_value v is = subst IsValue (sym (vlan_is v)) (braces_value (vlan_members v) (vlan_values v is))

same_address : (a b : Mac) → SpellsMac (mac_text a.0) a.0 → SpellsMac (mac_text b.0) b.0 → mac_text a.0 ≡ mac_text b.0 → a ≡ b
same_address a b in_a in_b e = ap (λ (bytes : List ℕ). record { 0 = bytes }) (same_mac (mac_text a.0) a.0 b.0 in_a (subst (λ (t : List ℕ). SpellsMac t b.0) (sym e) in_b))

abbrev vlan_of : ℕ → List ℕ → List ℕ → Mac → List Net → List Route → List (List ℕ) → ℕ → Bool → Vlan
vlan_of vid name description mac vips routes acls max_hosts unicast_flood =
    record { vid = vid; name = name; description = description; mac = mac; vips = vips; routes = routes; acls = acls; max_hosts = max_hosts; unicast_flood = unicast_flood }

same_vlan : (v w : Vlan) → IsVlan v → IsVlan w → v.vid ≡ w.vid → vlan_text v ≡ vlan_text w → v ≡ w
same_vlan v w in_v in_w vid e =
    let same = same_braces (vlan_members v) (vlan_members w) (vlan_values v in_v) (vlan_values w in_w) (sym (vlan_is v) ∙ e ∙ vlan_is w) in
    let name = same_quoted v.name w.name (ap (text_at 5) same) in
    let description = same_quoted v.description w.description (ap (text_at 1) same) in
    let mac = same_address v.mac w.mac (mac_spelled v.mac.0 in_v.mac.six in_v.mac.each) (mac_spelled w.mac.0 in_w.mac.six in_w.mac.each) (same_quoted _ _ (ap (text_at 2) same)) in
    let vips = same_vips v.vips w.vips in_v.vips in_w.vips (ap (text_at 3) same) in
    let routes = same_items route_text IsRoute route_value same_route v.routes w.routes in_v.routes in_w.routes (ap (text_at 6) same) in
    let acls = same_names v.acls w.acls (ap (text_at 0) same) in
    let hosts = same_number v.max_hosts w.max_hosts (hosts_small v in_v) (hosts_small w in_w) (ap (text_at 4) same) in
    let flood = same_flag v.unicast_flood w.unicast_flood (ap (text_at 7) same) in
    ap (λ x. vlan_of x v.name v.description v.mac v.vips v.routes v.acls v.max_hosts v.unicast_flood) vid
    ∙ ap (λ x. vlan_of w.vid x v.description v.mac v.vips v.routes v.acls v.max_hosts v.unicast_flood) name
    ∙ ap (λ x. vlan_of w.vid w.name x v.mac v.vips v.routes v.acls v.max_hosts v.unicast_flood) description
    ∙ ap (λ x. vlan_of w.vid w.name w.description x v.vips v.routes v.acls v.max_hosts v.unicast_flood) mac
    ∙ ap (λ x. vlan_of w.vid w.name w.description w.mac x v.routes v.acls v.max_hosts v.unicast_flood) vips
    ∙ ap (λ x. vlan_of w.vid w.name w.description w.mac w.vips x v.acls v.max_hosts v.unicast_flood) routes
    ∙ ap (λ x. vlan_of w.vid w.name w.description w.mac w.vips w.routes x v.max_hosts v.unicast_flood) acls
    ∙ ap (λ x. vlan_of w.vid w.name w.description w.mac w.vips w.routes w.acls x v.unicast_flood) hosts
    ∙ ap (λ x. vlan_of w.vid w.name w.description w.mac w.vips w.routes w.acls w.max_hosts x) flood

-- ---- all VLANs

pub vlans_are : (conf : Configuration) → IsValid conf → AreMembers (λ (m n : ℕ). m < n) (λ (v : Vlan). v.vid) vlan_member IsVlan conf.vlans
vlans_are conf valid = record {
  values = all_in (λ (v : Vlan). IsValue (vlan_text v)) conf.vlans (λ v at. vlan_value v (in_all IsVlan conf.vlans valid.vlans.each v at));
  known = valid.vlans.each;
  in_order = valid.vlans.in_order;
  apart = each_before (λ (v w : Vlan). v.vid < w.vid) (λ (v w : Vlan). decimal v.vid ≢ decimal w.vid) IsVlan
      (λ v w in_v in_w below same. let one = same_number v.vid w.vid (vid_small v in_v) (vid_small w in_w) same in omega (arith, below, one)) conf.vlans valid.vlans.each valid.vlans.in_order;
}

pub same_vlans : (a b : Configuration) → IsValid a → IsValid b → object (map vlan_member a.vlans) ≡ object (map vlan_member b.vlans) → a.vlans ≡ b.vlans
same_vlans a b valid_a valid_b same =
    same_lists a.vlans b.vlans
    (same_members (λ (m n : ℕ). m < n) (λ (v : Vlan). v.vid) vlan_member vlan_member IsVlan IsVlan (λ v w. v ≡ w) by_number
    (λ v w e. ap (λ (o : Vlan). o.vid) e)
    (λ v w in_v in_w e. same_vlan v w in_v in_w (same_number v.vid w.vid (vid_small v in_v) (vid_small w in_w) (ap (λ (m : Member). m.0) e)) (ap (λ (m : Member). m.1) e))
    a.vlans b.vlans (vlans_are a valid_a) (vlans_are b valid_b) same)
