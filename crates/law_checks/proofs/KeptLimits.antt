-- A configuration that is within the limits passes none.
use Rattle.std.specs.Prelude.{◌≡◌, ℕ, ◌≤◌, ◌==◌, ◌&&◌, Bool, true, false, not, List, [], ◌∷◌, ◌++◌, map, filter, cond, length, sum_by, count_by, nat_lt}
use Rattle.std.specs.List.{flat_map, zip}
use Rattle.std.proofs.Common.{inl, inr, refl, sym, ap, ◌∙◌, subst, true≢false, arith}
use Rattle.std.proofs.lemmas.Bool.{le-ltb, not_from_false, ne_eqb}
use Rattle.conf_types.specs.declared.acl.Rule.{Rule}
use Rattle.conf_types.specs.declared.datapath.Dp.{Dp}
use Rattle.conf_types.specs.declared.datapath.Port.{Port}
use Rattle.conf_types.specs.declared.vlan.Vlan.{Vlan}
use Rattle.conf_types.specs.declared.vlan.Router.{Router}
use Rattle.conf_types.specs.Attached.{rules_of}
use Rattle.conf_types.specs.Configuration.{Configuration}
use Rattle.conf_types.specs.Membership.{has_edge_member, is_mirror_of}
use Rattle.conf_types.specs.Valid.{DatapathIsWithin, IsWithinLimits, attached, route_items}
use Rattle.conf_shape.specs.declared.raw.RawPort.{RawPort}
use Rattle.conf_shape.specs.declared.raw.RawDp.{RawDp}
use Rattle.conf_shape.specs.declared.refused.ConfFault.{ConfFault}
use Rattle.conf_shape.specs.declared.refused.LimitName.{LimitName}
use Rattle.conf_shape.specs.declared.refused.LimitName.TheVariants as limit
use Rattle.conf_shape.specs.declared.refused.ConfCause.TheVariants.{TooMany}
use Rattle.conf_resolve.specs.declared.ordered.OrderedConf.{OrderedConf}
use Rattle.conf_resolve.specs.declared.ordered.PlacedVlan.{PlacedVlan}
use Rattle.conf_resolve.specs.InOrder.{dp_site, router_site}
use Rattle.conf_resolve.specs.Resolved.{dp_of, port_of, vlan_of, router_of, resolved}
use Rattle.conf_rules.specs.Limits.{whole_dps, whole_vlans, size_of, most_of, at_dp, at_dps, many_mirrors, too_many_mirrors, is_attached_somewhere, many_rules_on_vlan, many_rules_on_port, too_many_rules, many_vips, many_router_vlans, too_many_router_vlans, routes, gateways, passed_limits}
use Rattle.conf_rules.specs.Places.{vlans_of, site_of, dps_of}
use Rattle.law_checks.proofs.Interfaces.{at, all_interfaces}
use Rattle.law_checks.proofs.Kept.{both_empty, all_empty, no_fault, not_above, of_zipped}
use Rattle.law_checks.proofs.Members.{IsIn, of_all, in_front, behind, in_mapped, of_mapped, some_of}

-- what passes a test stays
pub into_filtered : {A : Type 0} (t : A → Bool) (xs : List A) (x : A) → IsIn xs x → t x ≡ true → IsIn (filter t xs) x
into_filtered t [] x i is = absurd i
into_filtered {A = A} t (y ∷ xs) x i is = by (t y) refl (λ j. into_filtered t xs x j is) i
  where
    by : (b : Bool) → t y ≡ b → (IsIn xs x → IsIn (filter t xs) x) → IsIn (y ∷ xs) x → IsIn (cond b (y ∷ filter t xs) (filter t xs)) x
    by true here more (inl e) = inl e
    by true here more (inr j) = inr (more j)
    by false here more (inl e) = absurd (true≢false (sym is ∙ ap t (sym e) ∙ here))
    by false here more (inr j) = more j

module _ (o : OrderedConf) where
  abbrev conf : Configuration
  conf = resolved o

  module _ (within : IsWithinLimits conf) where
    dp_within : (d : RawDp) → IsIn o.dps d → DatapathIsWithin conf (dp_of o d)
    dp_within d cd = of_all (DatapathIsWithin conf) conf.dps within.each (dp_of o d) (in_mapped (dp_of o) o.dps d cd)

    -- a limit of each datapath
    each_dp : (name : LimitName) → ((d : RawDp) → IsIn o.dps d → size_of conf name (dp_of o d) ≤ most_of name) → at_dps o conf name ≡ []
    each_dp name h = all_empty (at_dp conf name) (dps_of o conf) (λ e i.
        let z = of_zipped (dp_of o) o.dps e i in
        not_above (most_of name) (size_of conf name e.1) name (dp_site e.0) (subst (λ (d : Dp). size_of conf name d ≤ most_of name) z.1 (h e.0 z.0)))

    -- a limit of the VLANs
    each_vlan : (f : PlacedVlan × Vlan → List ConfFault) → ((v : PlacedVlan) → IsIn o.vlans v → f (v, vlan_of v.vlan) ≡ []) → flat_map f (vlans_of o conf) ≡ []
    each_vlan f h = all_empty f (vlans_of o conf) (λ e i.
        let z = of_zipped (λ (v : PlacedVlan). vlan_of v.vlan) o.vlans e i in
        ap (λ (v : Vlan). f (e.0, v)) (sym z.1) ∙ h e.0 z.0)

    -- the rules that are attached together are few
    few_rules : (d : RawDp) → IsIn o.dps d → (names : List (List ℕ)) → IsIn (map (λ p. p.acls) (dp_of o d).ports ++ map (λ v. v.acls) (filter (λ v. has_edge_member (dp_of o d) v.vid) conf.vlans)) names → length (rules_of conf names) ≤ 1000
    few_rules d cd [] i = omega arith
    few_rules d cd (name ∷ names) i =
        of_all (λ (rules : List Rule). length rules ≤ 1000) (attached conf (dp_of o d)) (dp_within d cd).rules (rules_of conf (name ∷ names))
        (in_mapped (rules_of conf) (filter (λ (ns : List (List ℕ)). not (length ns == 0)) (map (λ p. p.acls) (dp_of o d).ports ++ map (λ v. v.acls) (filter (λ v. has_edge_member (dp_of o d) v.vid) conf.vlans))) (name ∷ names)
        (into_filtered (λ (ns : List (List ℕ)). not (length ns == 0)) _ (name ∷ names) i (not_from_false (length (name ∷ names) == 0) (ne_eqb (length (name ∷ names)) 0 (λ e. absurd (omega arith))))))

    few_of_port : (d : RawDp) → IsIn o.dps d → (p : RawPort) → IsIn d.ports p → length (rules_of conf (port_of o d p).acls) ≤ 1000
    few_of_port d cd p cp = few_rules d cd (port_of o d p).acls (in_front (map (λ p. p.acls) (dp_of o d).ports) _ (port_of o d p).acls (in_mapped (λ (p : Port). p.acls) (dp_of o d).ports (port_of o d p) (in_mapped (port_of o d) d.ports p cp)))

    few_of_vlan : (v : PlacedVlan) → IsIn o.vlans v → (b : Bool) → is_attached_somewhere conf (vlan_of v.vlan) ≡ b → (b && nat_lt 1000 (length (rules_of conf (vlan_of v.vlan).acls))) ≡ false
    few_of_vlan v cv false is = refl
    few_of_vlan v cv true is =
        let m = some_of (λ (d : Dp). has_edge_member d (vlan_of v.vlan).vid) conf.dps is in
        let n = of_mapped (dp_of o) o.dps m.0 m.1 in
        let member : has_edge_member (dp_of o n.0) (vlan_of v.vlan).vid ≡ true = subst (λ (d : Dp). has_edge_member d (vlan_of v.vlan).vid ≡ true) (sym n.2) m.2 in
        le-ltb 1000 (length (rules_of conf (vlan_of v.vlan).acls)) (few_rules n.0 n.1 (vlan_of v.vlan).acls (behind (map (λ p. p.acls) (dp_of o n.0).ports) _ (vlan_of v.vlan).acls
        (in_mapped (λ (v : Vlan). v.acls) (filter (λ v. has_edge_member (dp_of o n.0) v.vid) conf.vlans) (vlan_of v.vlan) (into_filtered (λ (v : Vlan). has_edge_member (dp_of o n.0) v.vid) conf.vlans (vlan_of v.vlan) (in_mapped (λ (v : PlacedVlan). vlan_of v.vlan) o.vlans v cv) member))))

    rules_kept : too_many_rules o conf ≡ []
    rules_kept = both_empty _ _
        (each_vlan (many_rules_on_vlan conf) (λ v cv. no_fault (is_attached_somewhere conf (vlan_of v.vlan) && nat_lt 1000 (length (rules_of conf (vlan_of v.vlan).acls))) (TooMany limit.Rules) v.site (few_of_vlan v cv (is_attached_somewhere conf (vlan_of v.vlan)) refl)))
        (all_interfaces o (many_rules_on_port conf) (λ d cd p cp. not_above 1000 (length (rules_of conf (port_of o d p).acls)) limit.Rules (site_of (at o d p)) (few_of_port d cd p cp)))

    mirrors_few : too_many_mirrors o conf ≡ []
    mirrors_few = all_interfaces o many_mirrors (λ d cd p cp.
        not_above 4 (count_by (λ m. is_mirror_of m p.no) (dp_of o d).ports) limit.Mirrors (site_of (at o d p)) (of_all (λ (p : Port). count_by (λ m. is_mirror_of m p.no) (dp_of o d).ports ≤ 4) (dp_of o d).ports (dp_within d cd).mirrors (port_of o d p) (in_mapped (port_of o d) d.ports p cp)))

    vips_few : flat_map many_vips (vlans_of o conf) ≡ []
    vips_few = each_vlan many_vips (λ v cv. not_above 8 (length (vlan_of v.vlan).vips) limit.Vips v.site (of_all (λ (v : Vlan). length v.vips ≤ 8) conf.vlans within.vips (vlan_of v.vlan) (in_mapped (λ (v : PlacedVlan). vlan_of v.vlan) o.vlans v cv)))

    router_vlans_few : too_many_router_vlans o conf ≡ []
    router_vlans_few = all_empty many_router_vlans (zip o.routers conf.routers) (λ r i.
        let z = of_zipped (router_of o) o.routers r i in
        not_above 16 (length r.1.vlans) limit.RouterVlans (router_site r.0) (subst (λ (s : Router). length s.vlans ≤ 16) z.1 (of_all (λ (r : Router). length r.vlans ≤ 16) conf.routers within.router_vlans (router_of o r.0) (in_mapped (router_of o) o.routers r.0 z.0))))

    pub limits_kept : passed_limits o conf ≡ []
    limits_kept =
        both_empty _ _
        (both_empty _ _ (not_above 64 (length conf.dps) limit.Dps whole_dps within.dps)
        (both_empty _ _ (each_dp limit.Ports (λ d cd. (dp_within d cd).ports))
        (both_empty _ _ (not_above 1024 (length conf.vlans) limit.Vlans whole_vlans within.vlans)
        (both_empty _ _ mirrors_few (each_dp limit.Special (λ d cd. (dp_within d cd).special))))))
        (both_empty _ _
        (both_empty _ _ rules_kept
        (both_empty _ _ (each_dp limit.AclEntries (λ d cd. (dp_within d cd).acl_entries))
        (both_empty _ _ (each_dp limit.AclOutputs (λ d cd. (dp_within d cd).acl_outputs))
        (each_dp limit.Members (λ d cd. (dp_within d cd).members)))))
        (both_empty _ _ vips_few
        (both_empty _ _ router_vlans_few
        (both_empty _ _ (not_above 1024 (routes conf) limit.Routes whole_vlans within.routes)
        (both_empty _ _ (not_above 1024 (gateways conf) limit.Gateways whole_vlans within.gateways)
        (not_above 32768 (sum_by (route_items conf) conf.vlans) limit.RouteItems whole_vlans within.route_items))))))
