-- A configuration that passes no limit is within them.
use Rattle.std.specs.Prelude.{◌≡◌, ℕ, ◌≤◌, ◌==◌, true, not, List, [], ◌++◌, map, filter, length, sum_by, count_by, nat_lt}
use Rattle.std.specs.List.{AllByRecursion, flat_map, zip}
use Rattle.std.proofs.Common.{◌⊎◌, inl, inr, ap, ◌∙◌, subst}
use Rattle.std.proofs.lemmas.Bool.{ltb-false}
use Rattle.conf_types.specs.declared.acl.Rule.{Rule}
use Rattle.conf_types.specs.declared.datapath.Dp.{Dp}
use Rattle.conf_types.specs.declared.datapath.Port.{Port}
use Rattle.conf_types.specs.declared.vlan.Vlan.{Vlan}
use Rattle.conf_types.specs.declared.vlan.Router.{Router}
use Rattle.conf_types.specs.Attached.{rules_of}
use Rattle.conf_types.specs.Configuration.{Configuration}
use Rattle.conf_types.specs.Membership.{has_edge_member, is_mirror_of}
use Rattle.conf_types.specs.Valid.{DatapathIsWithin, IsWithinLimits, attached, route_items}
use Rattle.conf_shape.specs.declared.raw.RawPort.{RawPort}
use Rattle.conf_shape.specs.declared.raw.RawDp.{RawDp}
use Rattle.conf_shape.specs.declared.refused.LimitName.{LimitName}
use Rattle.conf_shape.specs.declared.refused.LimitName.TheVariants as limit
use Rattle.conf_shape.specs.declared.refused.ConfCause.TheVariants.{TooMany}
use Rattle.conf_resolve.specs.declared.ordered.PlacedVlan.{PlacedVlan}
use Rattle.conf_resolve.specs.InOrder.{dp_site, router_site}
use Rattle.conf_resolve.specs.declared.ordered.OrderedConf.{OrderedConf}
use Rattle.conf_resolve.specs.Resolved.{dp_of, port_of, vlan_of, router_of, resolved}
use Rattle.conf_rules.specs.Limits.{above, whole_dps, whole_vlans, size_of, most_of, at_dp, at_dps, many_mirrors, too_many_mirrors, is_attached_somewhere, many_rules_on_vlan, many_rules_on_port, too_many_rules, many_vips, many_router_vlans, too_many_router_vlans, routes, gateways, part_limits, acl_limits, passed_limits}
use Rattle.conf_rules.specs.Places.{vlans_of, interfaces, Interface, site_of, dps_of}
use Rattle.law_checks.proofs.Empty.{none_left, none_right, none_at, passes, within}
use Rattle.law_checks.proofs.Interfaces.{is_interface}
use Rattle.law_checks.proofs.Members.{IsIn, all_by, all_mapped, in_mapped, of_mapped, of_joined, of_filtered, in_zipped, any_by, second_fails}

module _ (o : OrderedConf) where
  abbrev conf : Configuration
  conf = resolved o

  -- the limits, one by one
  record PassesNone : Type 0 where
    dps : above 64 (length conf.dps) limit.Dps whole_dps ≡ []
    ports : at_dps o conf limit.Ports ≡ []
    vlans : above 1024 (length conf.vlans) limit.Vlans whole_vlans ≡ []
    mirrors : too_many_mirrors o conf ≡ []
    special : at_dps o conf limit.Special ≡ []
    rules : too_many_rules o conf ≡ []
    entries : at_dps o conf limit.AclEntries ≡ []
    outputs : at_dps o conf limit.AclOutputs ≡ []
    members_in : at_dps o conf limit.Members ≡ []
    vips : flat_map many_vips (vlans_of o conf) ≡ []
    router_vlans : too_many_router_vlans o conf ≡ []
    routes_in : above 1024 (routes conf) limit.Routes whole_vlans ≡ []
    gateways_in : above 1024 (gateways conf) limit.Gateways whole_vlans ≡ []
    items : above 32768 (sum_by (route_items conf) conf.vlans) limit.RouteItems whole_vlans ≡ []

  passes_none : passed_limits o conf ≡ [] → PassesNone
  passes_none none =
      let parts = none_left (part_limits o conf) _ none in
      let rest = none_right (part_limits o conf) _ none in
      let acls = none_left (acl_limits o conf) _ rest in
      let routing = none_right (acl_limits o conf) _ rest in
      let a = none_right (above 64 (length conf.dps) limit.Dps whole_dps) _ parts in
      let b = none_right (at_dps o conf limit.Ports) _ a in
      let c = none_right (above 1024 (length conf.vlans) limit.Vlans whole_vlans) _ b in
      let f = none_right (too_many_rules o conf) _ acls in
      let g = none_right (at_dps o conf limit.AclEntries) _ f in
      let j = none_right (flat_map many_vips (vlans_of o conf)) _ routing in
      let k = none_right (too_many_router_vlans o conf) _ j in
      let l = none_right (above 1024 (routes conf) limit.Routes whole_vlans) _ k in
      record {
        dps = none_left (above 64 (length conf.dps) limit.Dps whole_dps) _ parts;
        ports = none_left (at_dps o conf limit.Ports) _ a;
        vlans = none_left (above 1024 (length conf.vlans) limit.Vlans whole_vlans) _ b;
        mirrors = none_left (too_many_mirrors o conf) _ c;
        special = none_right (too_many_mirrors o conf) _ c;
        rules = none_left (too_many_rules o conf) _ acls;
        entries = none_left (at_dps o conf limit.AclEntries) _ f;
        outputs = none_left (at_dps o conf limit.AclOutputs) _ g;
        members_in = none_right (at_dps o conf limit.AclOutputs) _ g;
        vips = none_left (flat_map many_vips (vlans_of o conf)) _ routing;
        router_vlans = none_left (too_many_router_vlans o conf) _ j;
        routes_in = none_left (above 1024 (routes conf) limit.Routes whole_vlans) _ k;
        gateways_in = none_left (above 1024 (gateways conf) limit.Gateways whole_vlans) _ l;
        items = none_right (above 1024 (gateways conf) limit.Gateways whole_vlans) _ l;
      }

  -- a limit of each datapath
  each_dp : (name : LimitName) → at_dps o conf name ≡ [] → (d : RawDp) → IsIn o.dps d → size_of conf name (dp_of o d) ≤ most_of name
  each_dp name none d cd =
      within (most_of name) (size_of conf name (dp_of o d)) name (dp_site d) (none_at (at_dp conf name) (dps_of o conf) none (d, dp_of o d) (in_zipped (dp_of o) o.dps d cd))

  module _ (whole : PassesNone) where
    port_mirrors : (d : RawDp) → IsIn o.dps d → (p : RawPort) → IsIn d.ports p → count_by (λ m. is_mirror_of m p.no) (dp_of o d).ports ≤ 4
    port_mirrors d cd p cp =
        let i : Interface = record { raw_dp = d; dp = dp_of o d; raw = p; port = port_of o d p } in
        within 4 (count_by (λ m. is_mirror_of m p.no) (dp_of o d).ports) limit.Mirrors (site_of i)
        (none_at many_mirrors (interfaces o conf) whole.mirrors i (is_interface o d cd p cp))

    port_rules : (d : RawDp) → IsIn o.dps d → (p : RawPort) → IsIn d.ports p → length (rules_of conf (port_of o d p).acls) ≤ 1000
    port_rules d cd p cp =
        let i : Interface = record { raw_dp = d; dp = dp_of o d; raw = p; port = port_of o d p } in
        within 1000 (length (rules_of conf (port_of o d p).acls)) limit.Rules (site_of i)
        (none_at (many_rules_on_port conf) (interfaces o conf)
        (none_right (flat_map (many_rules_on_vlan conf) (vlans_of o conf)) _ whole.rules)
        i (is_interface o d cd p cp))

    vlan_rules : (d : Dp) → IsIn conf.dps d → (v : Vlan) → IsIn conf.vlans v → has_edge_member d v.vid ≡ true → length (rules_of conf v.acls) ≤ 1000
    vlan_rules d cd v cv member =
        let m = of_mapped (λ (v : PlacedVlan). vlan_of v.vlan) o.vlans v cv in
        subst (λ (v : Vlan). has_edge_member d v.vid ≡ true → length (rules_of conf v.acls) ≤ 1000) m.2 (λ here.
        ltb-false 1000 (length (rules_of conf (vlan_of m.0.vlan).acls)) (second_fails (is_attached_somewhere conf (vlan_of m.0.vlan)) (nat_lt 1000 (length (rules_of conf (vlan_of m.0.vlan).acls)))
        (any_by (λ (e : Dp). has_edge_member e (vlan_of m.0.vlan).vid) conf.dps d cd here)
        (passes _ (TooMany limit.Rules) m.0.site (none_at (many_rules_on_vlan conf) (vlans_of o conf)
        (none_left (flat_map (many_rules_on_vlan conf) (vlans_of o conf)) _ whole.rules)
        (m.0, vlan_of m.0.vlan) (in_zipped (λ (v : PlacedVlan). vlan_of v.vlan) o.vlans m.0 m.1))))) member

    names_within : (d : RawDp) → IsIn o.dps d → (names : List (List ℕ)) → IsIn (map (λ p. p.acls) (dp_of o d).ports ++ map (λ v. v.acls) (filter (λ v. has_edge_member (dp_of o d) v.vid) conf.vlans)) names → length (rules_of conf names) ≤ 1000
    names_within d cd names i = by (of_joined (map (λ p. p.acls) (dp_of o d).ports) (map (λ v. v.acls) (filter (λ v. has_edge_member (dp_of o d) v.vid) conf.vlans)) names i)
      where
        by : IsIn (map (λ p. p.acls) (dp_of o d).ports) names ⊎ IsIn (map (λ v. v.acls) (filter (λ v. has_edge_member (dp_of o d) v.vid) conf.vlans)) names → length (rules_of conf names) ≤ 1000
        by (inl j) =
            let m = of_mapped (λ (p : Port). p.acls) (dp_of o d).ports names j in
            let n = of_mapped (port_of o d) d.ports m.0 m.1 in
            subst (λ (l : List (List ℕ)). length (rules_of conf l) ≤ 1000) (ap (λ (p : Port). p.acls) n.2 ∙ m.2) (port_rules d cd n.0 n.1)
        by (inr j) =
            let m = of_mapped (λ (v : Vlan). v.acls) (filter (λ v. has_edge_member (dp_of o d) v.vid) conf.vlans) names j in
            let f = of_filtered (λ (v : Vlan). has_edge_member (dp_of o d) v.vid) conf.vlans m.0 m.1 in
            subst (λ (l : List (List ℕ)). length (rules_of conf l) ≤ 1000) m.2 (vlan_rules (dp_of o d) (in_mapped (dp_of o) o.dps d cd) m.0 f.0 f.1)

    attached_within : (d : RawDp) → IsIn o.dps d → AllByRecursion (λ rules. length rules ≤ 1000) (attached conf (dp_of o d))
    attached_within d cd =
        let names = map (λ p. p.acls) (dp_of o d).ports ++ map (λ v. v.acls) (filter (λ v. has_edge_member (dp_of o d) v.vid) conf.vlans) in
        all_mapped (λ (rules : List Rule). length rules ≤ 1000) (rules_of conf) (filter (λ (ns : List (List ℕ)). not (length ns == 0)) names)
        (all_by _ (filter (λ (ns : List (List ℕ)). not (length ns == 0)) names) (λ ns i. names_within d cd ns (of_filtered (λ (ns : List (List ℕ)). not (length ns == 0)) names ns i).0))

    dp_within : (d : RawDp) → IsIn o.dps d → DatapathIsWithin conf (dp_of o d)
    dp_within d cd = record {
      ports = each_dp limit.Ports whole.ports d cd;
      mirrors = all_mapped (λ (p : Port). count_by (λ m. is_mirror_of m p.no) (dp_of o d).ports ≤ 4) (port_of o d) d.ports (all_by _ d.ports (λ p cp. port_mirrors d cd p cp));
      special = each_dp limit.Special whole.special d cd;
      rules = attached_within d cd;
      acl_entries = each_dp limit.AclEntries whole.entries d cd;
      acl_outputs = each_dp limit.AclOutputs whole.outputs d cd;
      members = each_dp limit.Members whole.members_in d cd;
    }

    limits_of : IsWithinLimits conf
    limits_of = record {
      dps = within 64 (length conf.dps) limit.Dps whole_dps whole.dps;
      vlans = within 1024 (length conf.vlans) limit.Vlans whole_vlans whole.vlans;
      each = all_mapped (DatapathIsWithin conf) (dp_of o) o.dps (all_by _ o.dps (λ d cd. dp_within d cd));
      vips = all_mapped (λ (v : Vlan). length v.vips ≤ 8) (λ (v : PlacedVlan). vlan_of v.vlan) o.vlans (all_by _ o.vlans (λ v cv.
          within 8 (length (vlan_of v.vlan).vips) limit.Vips v.site (none_at many_vips (vlans_of o conf) whole.vips (v, vlan_of v.vlan) (in_zipped (λ (v : PlacedVlan). vlan_of v.vlan) o.vlans v cv))));
      router_vlans = all_mapped (λ (r : Router). length r.vlans ≤ 16) (router_of o) o.routers (all_by _ o.routers (λ r cr.
          within 16 (length (router_of o r).vlans) limit.RouterVlans (router_site r) (none_at many_router_vlans (zip o.routers conf.routers) whole.router_vlans (r, router_of o r) (in_zipped (router_of o) o.routers r cr))));
      routes = within 1024 (routes conf) limit.Routes whole_vlans whole.routes_in;
      gateways = within 1024 (gateways conf) limit.Gateways whole_vlans whole.gateways_in;
      route_items = within 32768 (sum_by (route_items conf) conf.vlans) limit.RouteItems whole_vlans whole.items;
    }

  pub limits_valid : passed_limits o conf ≡ [] → IsWithinLimits conf
  limits_valid none = limits_of (passes_none none)
