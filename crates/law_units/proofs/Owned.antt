-- Each entry of a unit is owned by that unit.
use Rattle.std.proofs.Common.{◌≡◌, ℕ, ◌+◌, ◌-◌, Bool, true, false, ◌==◌, ◌&&◌, if◌then◌else◌, List, [], ◌∷◌, Option, Some, None, refl, ap, subst, arith, eqb-true}
use Rattle.std.specs.List.{AllByRecursion, find, list_any}
use Rattle.std.specs.Option.{option_map, option_map_or}
use Rattle.std.proofs.lemmas.Bool.{and_parts}
use Rattle.std.proofs.lemmas.Bool.Decides.{nat_tests}
use Rattle.std.proofs.lemmas.Option.{same_Some, none-some}
use Rattle.net_base.specs.declared.address.Mac.{Mac}
use Rattle.net_base.specs.declared.field.Field.{Field}
use Rattle.net_base.specs.Address.{IsSixBytes, mac_value, mac_of}
use Rattle.of_match.specs.declared.entry.Entry.{Entry}
use Rattle.conf_types.specs.declared.acl.Rule.{Rule}
use Rattle.conf_types.specs.declared.address.Net.{Net}
use Rattle.conf_types.specs.declared.address.Net.TheVariants.{V4, V6}
use Rattle.conf_types.specs.declared.datapath.Dp.{Dp}
use Rattle.conf_types.specs.declared.datapath.Port.{Port}
use Rattle.conf_types.specs.declared.family.Family.{Family}
use Rattle.conf_types.specs.declared.state.HostRec.{HostRec}
use Rattle.conf_types.specs.declared.vlan.Vlan.{Vlan}
use Rattle.conf_types.specs.Configuration.{Configuration, port_with, vlan_with}
use Rattle.conf_types.specs.Lists.{is_same}
use Rattle.conf_types.specs.State.{State}
use Rattle.packet_way.specs.Known.{stack_of}
use Rattle.packet_way.specs.declared.routes.RouteItem.{RouteItem}
use Rattle.plan_base.specs.Families.{IsFamily}
use Rattle.plan_base.specs.Fields.{in_port}
use Rattle.plan_base.proofs.Families.{of_families}
use Rattle.acl_compile.specs.declared.place.Place.TheVariants.{AtPort, AtVlan}
use Rattle.acl_compile.specs.Rows.{rule_entry_for, rule_fields, asks_for_another, with_vid}
use Rattle.acl_compile.specs.Slices.{port_acl, vlan_acl}
use Rattle.vlan_compile.specs.declared.flood.Flood.{Flood}
use Rattle.vlan_compile.specs.declared.flood.Flood.TheVariants.{Group, Unicast}
use Rattle.vlan_compile.specs.declared.flood.Ingress.{Ingress}
use Rattle.vlan_compile.specs.declared.flood.Ingress.TheVariants.{Any, At}
use Rattle.vlan_compile.specs.Admissions.{admissions}
use Rattle.vlan_compile.specs.Sources.{sources}
use Rattle.vlan_compile.specs.Floods.{flood_entry}
use Rattle.route_compile.specs.Routes.{item_entry, no_route}
use Rattle.route_compile.specs.Vips.{vip_slice, asked_entry}
use Rattle.law_runs.specs.Members.{of_all, all_by, all_joined, all_filtered}
use Rattle.plan_units.specs.declared.unit.Unit.{Unit as PlanUnit}
use Rattle.plan_units.specs.declared.unit.Unit.TheVariants as unit
use Rattle.plan_units.specs.Agrees.{same_bytes}
use Rattle.plan_units.specs.Facts.{found}
use Rattle.plan_units.specs.Fixed.{drops, fixed}
use Rattle.plan_units.specs.Laws.{HasAddresses}
use Rattle.plan_units.specs.Parts.{port_acl_by, vlan_acl_by, admissions_by, drops_by, misses_by, sources_by, fib_by, vips_by, destinations_by, floods_by}
use Rattle.cold_start.proofs.Owners.{vid_behind_lower}
use Rattle.plan_units.specs.Units.{of_port, of_vlan, of_host, of_routes, is_of_group, hosts_of, entries}
use Rattle.law_units.specs.Owner.{owner}

abbrev pub Owned : PlanUnit → List Entry → Type 0
Owned u es = AllByRecursion (λ e. owner e.key ≡ Some u) es

-- ---- the number of a VLAN, back from the value of its field

abbrev tagged : ℕ → ℕ
tagged vid = 0x1000 + vid - 0x1000

vid_back : (vid : ℕ) → tagged vid ≡ vid
vid_back vid = omega arith

-- ---- rules

at_port_rule : (d : Dp) (number priority : ℕ) (rule : Rule) (fields : List Field) → rule_fields (AtPort number) rule.fields ≡ Some fields → owner (rule_entry_for (AtPort number) d priority rule fields).key ≡ Some (unit.Port number)
at_port_rule d number priority rule fields is = subst (λ (fs : List Field). owner (rule_entry_for (AtPort number) d priority rule fs).key ≡ Some (unit.Port number)) (same_Some (in_port number ∷ rule.fields) fields is) refl

at_vlan_rule : (d : Dp) (vid priority : ℕ) (rule : Rule) (fields : List Field) → rule_fields (AtVlan vid) rule.fields ≡ Some fields → owner (rule_entry_for (AtVlan vid) d priority rule fields).key ≡ Some (unit.Vlan (tagged vid))
at_vlan_rule d vid priority rule fields is = by (list_any (asks_for_another vid) rule.fields) is
  where
    by : (b : Bool) → (if b then None else Some (with_vid vid rule.fields)) ≡ Some fields → owner (rule_entry_for (AtVlan vid) d priority rule fields).key ≡ Some (unit.Vlan (tagged vid))
    by true found = absurd (none-some fields found)
    by false found = subst (λ (fs : List Field). owner (rule_entry_for (AtVlan vid) d priority rule fs).key ≡ Some (unit.Vlan (tagged vid))) (same_Some (with_vid vid rule.fields) fields found) (ap (λ (o : Option Field). option_map unit.Vlan (option_map (λ value. value - 0x1000) (option_map (λ (f : Field). f.value) o))) (vid_behind_lower vid rule.fields _))

-- ---- what each unit is made of

module _ (conf : Configuration) (now : State) (d : Dp) (i : Port) where
  abbrev IsOfPort : Entry → Type 0
  IsOfPort e = owner e.key ≡ Some (unit.Port i.no)

  port_owned : Owned (unit.Port i.no) (of_port conf now d i)
  port_owned =
      all_joined IsOfPort (port_acl conf d i) _ (port_acl_by IsOfPort conf d i (λ priority rule fields c is. at_port_rule d i.no priority rule fields is) refl refl)
      (all_joined IsOfPort (admissions conf d i) _ (admissions_by IsOfPort conf d i refl (λ v. refl) (λ v e. refl) (λ v. refl)) (misses_by IsOfPort conf d i now.hosts (λ v. refl)))

module _ (conf : Configuration) (now : State) (d : Dp) (v : Vlan) where
  abbrev IsOfVlan : Entry → Type 0
  IsOfVlan e = owner e.key ≡ Some (unit.Vlan (tagged v.vid))

  flood_owned : (flood : Flood) (from : Ingress) → IsOfVlan (flood_entry (stack_of conf now.ups) d v flood from)
  flood_owned Group Any = refl
  flood_owned Group (At ingress) = refl
  flood_owned Unicast Any = refl
  flood_owned Unicast (At ingress) = refl

  asked_owned : (vip : Net) → IsOfVlan (asked_entry v vip)
  asked_owned (V4 net) = refl
  asked_owned (V6 net) = refl

  vlan_owned : Owned (unit.Vlan v.vid) (of_vlan conf now d v)
  vlan_owned =
      subst (λ vid. Owned (unit.Vlan vid) (of_vlan conf now d v)) (vid_back v.vid)
      (all_joined IsOfVlan (vlan_acl conf d v) _ (vlan_acl_by IsOfVlan conf d v (λ priority rule fields c is. at_vlan_rule d v.vid priority rule fields is) refl)
      (all_joined IsOfVlan (vip_slice d v) _ (vips_by IsOfVlan d v asked_owned refl refl refl refl refl) (floods_by IsOfVlan d v (stack_of conf now.ups) flood_owned)))

  abbrev its_routes : PlanUnit
  its_routes = unit.Route (tagged v.vid)

  not_zero : (n : ℕ) → (10 + n == 0) ≡ false
  not_zero n = grind (arith, nat_tests)

  item_owned : (f : Family) → IsFamily f → (item : RouteItem) → owner (item_entry f v item).key ≡ Some its_routes
  item_owned f is item = of_families (λ f. owner (item_entry f v item).key ≡ Some its_routes) (rw (not_zero item.len) refl) (rw (not_zero item.len) refl) f is

  routes_owned : Owned (unit.Route v.vid) (of_routes conf now d v)
  routes_owned =
      subst (λ vid. Owned (unit.Route vid) (of_routes conf now d v)) (vid_back v.vid)
      (fib_by (λ e. owner e.key ≡ Some its_routes) conf now.neighbours d v (λ f is item c own. item_owned f is item) (of_families (λ f. owner (no_route f v).key ≡ Some its_routes) refl refl))

module _ (address_law : (mac : Mac) → IsSixBytes mac.0 → mac_of (mac_value mac) ≡ mac) (conf : Configuration) (now : State) (d : Dp) (h : HostRec) where
  abbrev its_host : PlanUnit
  its_host = unit.Host (tagged h.vid) (mac_of (mac_value h.mac))

  abbrev IsOfHost : Entry → Type 0
  IsOfHost e = owner e.key ≡ Some its_host

  host_owned : IsSixBytes h.mac.0 → Owned (unit.Host h.vid h.mac) (of_host conf now d h)
  host_owned six =
      let vids = vid_back h.vid in
      let macs = address_law h.mac six in
      subst (λ (u : PlanUnit). Owned u (of_host conf now d h)) (λ i. unit.Host (vids i) (macs i))
      (all_joined IsOfHost (sources conf d h now.moment) _ (sources_by IsOfHost conf d h now.moment refl refl)
      (destinations_by IsOfHost d h (stack_of conf now.ups) (λ q e. (refl, refl)) (λ hop e. refl)))

fixed_owned : (conf : Configuration) (d : Dp) → Owned unit.Dp (fixed conf d)
fixed_owned conf d =
    all_joined (λ e. owner e.key ≡ Some unit.Dp) (drops conf d) _ (drops_by (λ e. owner e.key ≡ Some unit.Dp) conf d refl refl refl refl (λ mac c. refl))
    (refl, (refl, (refl, (refl, (refl, tt)))))

-- ---- each unit

module _ (address_law : (mac : Mac) → IsSixBytes mac.0 → mac_of (mac_value mac) ≡ mac) (conf : Configuration) (now : State) (d : Dp) (addresses : HasAddresses now) where
  abbrev is_host : ℕ → Mac → HostRec → Bool
  is_host vid mac h = h.vid == vid && is_same h.mac.0 mac.0

  pub owned : (u : PlanUnit) → Owned u (entries conf now d u)
  owned unit.Dp = fixed_owned conf d
  owned (unit.Port number) = by (port_with d.ports number) refl
    where
      by : (o : Option Port) → port_with d.ports number ≡ o → Owned (unit.Port number) (option_map_or (of_port conf now d) o [])
      by None is = tt
      by (Some i) is = subst (λ n. Owned (unit.Port n) (of_port conf now d i)) (eqb-true i.no number (found (λ (q : Port). q.no == number) d.ports i is).passes) (port_owned conf now d i)
  owned (unit.Vlan vid) = by (vlan_with conf.vlans vid) refl
    where
      by : (o : Option Vlan) → vlan_with conf.vlans vid ≡ o → Owned (unit.Vlan vid) (option_map_or (of_vlan conf now d) o [])
      by None is = tt
      by (Some v) is = subst (λ n. Owned (unit.Vlan n) (of_vlan conf now d v)) (eqb-true v.vid vid (found (λ (w : Vlan). w.vid == vid) conf.vlans v is).passes) (vlan_owned conf now d v)
  owned (unit.Host vid mac) = by (find (is_host vid mac) (hosts_of conf now d)) refl
    where
      by : (o : Option HostRec) → find (is_host vid mac) (hosts_of conf now d) ≡ o → Owned (unit.Host vid mac) (option_map_or (of_host conf now d) o [])
      by None is = tt
      by (Some h) is =
          let f = found (is_host vid mac) (hosts_of conf now d) h is in
          let p = and_parts (h.vid == vid) (is_same h.mac.0 mac.0) f.passes in
          let vids : h.vid ≡ vid = eqb-true h.vid vid p.0 in
          let macs : h.mac.0 ≡ mac.0 = same_bytes h.mac.0 mac.0 p.1 in
          let six : IsSixBytes h.mac.0 =
          of_all (λ (g : HostRec). IsSixBytes g.mac.0) (hosts_of conf now d)
          (all_filtered (λ (g : HostRec). IsSixBytes g.mac.0) (is_of_group conf d) now.hosts (all_by (λ (g : HostRec). is_of_group conf d g ≡ true → IsSixBytes g.mac.0) now.hosts (λ g c passes. of_all (λ (x : HostRec). IsSixBytes x.mac.0) now.hosts addresses.hosts g c))) h f.within in
          subst (λ (u : PlanUnit). Owned u (of_host conf now d h)) (λ i. unit.Host (vids i) (record { 0 = macs i })) (host_owned address_law conf now d h six)
  owned (unit.Route vid) = by (vlan_with conf.vlans vid) refl
    where
      by : (o : Option Vlan) → vlan_with conf.vlans vid ≡ o → Owned (unit.Route vid) (option_map_or (of_routes conf now d) o [])
      by None is = tt
      by (Some v) is = subst (λ n. Owned (unit.Route n) (of_routes conf now d v)) (eqb-true v.vid vid (found (λ (w : Vlan). w.vid == vid) conf.vlans v is).passes) (routes_owned conf now d v)
