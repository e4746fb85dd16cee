-- Rule 16: what is found where a limit is passed.
use Rattle.std.specs.Prelude.{◌≡◌, ◌⊎◌, ℕ, ◌<◌, ◌&&◌, Bool, true, false, List, [], ◌++◌, codes, length, sum_by, count_by, nat_lt, Option, None, Some, MatchOption}
use Rattle.std.specs.List.{flat_map, zip}
use Rattle.std.proofs.Common.{inl, inr, refl, sym, ap, ◌∙◌, subst, true≢false}
use Rattle.std.proofs.lemmas.Bool.{and_parts, ltb-true}
use Rattle.yaml_tree.specs.declared.tree.Tree.{Tree, out-Tree}
use Rattle.conf_types.specs.declared.datapath.Dp.{Dp}
use Rattle.conf_types.specs.declared.datapath.Port.{Port}
use Rattle.conf_types.specs.declared.vlan.Router.{Router}
use Rattle.conf_types.specs.declared.vlan.Vlan.{Vlan}
use Rattle.conf_types.specs.Attached.{rules_of}
use Rattle.conf_types.specs.Configuration.{Configuration}
use Rattle.conf_types.specs.Membership.{has_edge_member, is_mirror_of}
use Rattle.conf_types.specs.Valid.{route_items}
use Rattle.conf_shape.specs.declared.raw.RawConf.{RawConf}
use Rattle.conf_shape.specs.declared.raw.RawDp.{RawDp}
use Rattle.conf_shape.specs.declared.raw.RawPort.{RawPort}
use Rattle.conf_shape.specs.declared.refused.ConfCause.TheVariants.{TooMany}
use Rattle.conf_shape.specs.declared.refused.ConfFault.{ConfFault}
use Rattle.conf_shape.specs.declared.refused.LimitName.{LimitName}
use Rattle.conf_shape.specs.declared.refused.LimitName.TheVariants as limit
use Rattle.conf_shape.specs.Reads.{value_at}
use Rattle.conf_resolve.specs.declared.ordered.OrderedConf.{OrderedConf}
use Rattle.conf_resolve.specs.declared.ordered.PlacedVlan.{PlacedVlan}
use Rattle.conf_resolve.specs.InOrder.{dp_site, port_site, router_site, ordered}
use Rattle.conf_resolve.specs.Resolved.{dp_of, port_of, vlan_of, router_of, resolved}
use Rattle.conf_rules.specs.Limits.{above, whole_dps, whole_vlans, size_of, most_of, at_dp, at_dps, many_mirrors, too_many_mirrors, is_attached_somewhere, many_rules_on_vlan, many_rules_on_port, too_many_rules, many_vips, many_router_vlans, too_many_router_vlans, routes, gateways, part_limits, acl_limits, routing_limits, passed_limits}
use Rattle.conf_rules.specs.Places.{fault, fault_if, vlans_of, dps_of, Interface, interfaces}
use Rattle.law_checks.specs.Says.{Says, DpSays, VlanSays, PortSays, RouterSays}
use Rattle.law_checks.specs.Values.{IsMap, AreMaps}
use Rattle.law_checks.proofs.Kept.{of_zipped}
use Rattle.law_checks.proofs.KeptLinks.{at}
use Rattle.law_checks.proofs.Members.{IsIn, all_joined, some_of}
use Rattle.law_documents.proofs.Leads.{Reaches, there, one_step, among_entries, value_is_entry, given, needed}
use Rattle.law_documents.proofs.Limits.{entries_are, none_of, no_gateways}
use Rattle.law_documents.proofs.Parts.{IsPart, IsDp, dp_leads, router_leads}
use Rattle.law_documents.proofs.Told.{each_of}
use Rattle.law_documents.proofs.Vlans.{IsVlan, vlan_leads}
use Rattle.law_breaks.specs.Limits.{IsDatapathAbove, IsInterfaceAbove, IsVlanAbove, IsAbove, PassesLimit, NamesTooMany, LimitsBreak}
use Rattle.law_breaks.proofs.Found.{contains, each_interface}

module _ (t : Tree) (raw : RawConf) (says : Says t raw) where
  abbrev o : OrderedConf
  o = ordered raw

  abbrev conf : Configuration
  conf = resolved o

  abbrev Told : ConfFault → Type 0
  Told fault = PassesLimit t o conf fault ⊎ NamesTooMany t conf fault

  told_if : (test : Bool) (name : LimitName) (site : List (List ℕ)) → (test ≡ true → Reaches t site (λ u. IsAbove o conf name site)) → LimitsBreak t o conf (fault_if test (TooMany name) site)
  told_if true name site r = let f = r refl in (inl (record { name = name; cause = refl; breaks = (site, refl, f.0, f.1, f.2) }), tt)
  told_if false name site r = tt

  both : (xs ys : List ConfFault) → LimitsBreak t o conf xs → LimitsBreak t o conf ys → LimitsBreak t o conf (xs ++ ys)
  both xs ys a b = all_joined Told xs ys a b

  each : {A : Type 0} (f : A → List ConfFault) (xs : List A) → ((x : A) → IsIn xs x → LimitsBreak t o conf (f x)) → LimitsBreak t o conf (flat_map f xs)
  each f xs h = each_of Told f xs h

  -- ---- of parts

  dps_above : (name : LimitName) → ((steps : List (List ℕ)) → IsDatapathAbove o steps (most_of name) (size_of conf name) → IsAbove o conf name steps) → LimitsBreak t o conf (at_dps o conf name)
  dps_above name is_above = each (at_dp conf name) (dps_of o conf) (λ e i.
      let z = of_zipped (dp_of o) o.dps e i in
      told_if (nat_lt (most_of name) (size_of conf name e.1)) name (dp_site e.0) (λ is.
      there t (dp_site e.0) (IsDp e.0) (λ u. IsAbove o conf name (dp_site e.0)) (dp_leads t raw says e.0 z.0).itself (λ u h.
      is_above (dp_site e.0) (record { dp = e.0; is_dp = contains o.dps e.0 z.0; path = refl; above = subst (λ (d : Dp). most_of name < size_of conf name d) (sym z.1) (ltb-true (most_of name) (size_of conf name e.1) is) }))))

  each_port : (f : Interface → List ConfFault) → ((d : RawDp) → IsIn o.dps d → (p : RawPort) → IsIn d.ports p → LimitsBreak t o conf (f (at o d p))) → LimitsBreak t o conf (flat_map f (interfaces o conf))
  each_port f h = each_interface Told o f h

  interface_above : (d : RawDp) → IsIn o.dps d → (p : RawPort) → IsIn d.ports p → (name : LimitName) (most : ℕ) (count : Dp → Port → ℕ) → (IsInterfaceAbove o (port_site d p) most count → IsAbove o conf name (port_site d p)) → LimitsBreak t o conf (above most (count (dp_of o d) (port_of o d p)) name (port_site d p))
  interface_above d c p j name most count is_above = told_if (nat_lt most (count (dp_of o d) (port_of o d p))) name (port_site d p) (λ is.
      there t (port_site d p) (IsPart PortSays p) (λ u. IsAbove o conf name (port_site d p)) ((dp_leads t raw says d c).port p j) (λ u h.
      is_above (record { dp = d; is_dp = contains o.dps d c; port = p; is_port = contains d.ports p j; path = refl; above = ltb-true most (count (dp_of o d) (port_of o d p)) is })))

  mirrors_above : LimitsBreak t o conf (too_many_mirrors o conf)
  mirrors_above = each_port many_mirrors (λ d c p j. interface_above d c p j limit.Mirrors 4 (λ d p. count_by (λ m. is_mirror_of m p.no) d.ports) (λ above. above))

  -- a VLAN that is above, where it is written or named
  module _ (v : PlacedVlan × Vlan) (i : IsIn (vlans_of (ordered raw) (resolved (ordered raw))) v) where
    abbrev itself : IsIn (ordered raw).vlans v.0 × (vlan_of v.0.vlan ≡ v.1)
    itself = of_zipped (λ (v : PlacedVlan). vlan_of v.vlan) o.vlans v i

    vlan_at : (name : LimitName) → IsAbove o conf name v.0.site → Reaches t v.0.site (λ u. IsAbove o conf name v.0.site)
    vlan_at name is = there t v.0.site (IsVlan v.0.vlan) (λ u. IsAbove o conf name v.0.site) (vlan_leads t raw says v.0 itself.0) (λ u h. is)

    abbrev vlan_above : (most : ℕ) (count : Vlan → ℕ) → nat_lt most (count v.1) ≡ true → IsVlanAbove o v.0.site most count
    vlan_above most count is = record { placed = v.0; is_vlan = contains o.vlans v.0 itself.0; path = refl; above = subst (λ (w : Vlan). most < count w) (sym itself.1) (ltb-true most (count v.1) is) }

    vlan_rules : LimitsBreak t o conf (many_rules_on_vlan conf v)
    vlan_rules = told_if (is_attached_somewhere conf v.1 && nat_lt 1000 (length (rules_of conf v.1.acls))) limit.Rules v.0.site (λ is.
        let p = and_parts (is_attached_somewhere conf v.1) (nat_lt 1000 (length (rules_of conf v.1.acls))) is in
        let s = some_of (λ (d : Dp). has_edge_member d v.1.vid) conf.dps p.0 in
        vlan_at limit.Rules (inr (vlan_above 1000 (λ w. length (rules_of conf w.acls)) p.1, s.0, contains conf.dps s.0 s.1, ap (λ (w : Vlan). has_edge_member s.0 w.vid) itself.1 ∙ s.2)))

    vlan_vips : LimitsBreak t o conf (many_vips v)
    vlan_vips = told_if (nat_lt 8 (length v.1.vips)) limit.Vips v.0.site (λ is. vlan_at limit.Vips (vlan_above 8 (λ w. length w.vips) is))

  rules_above : LimitsBreak t o conf (too_many_rules o conf)
  rules_above =
      both (flat_map (many_rules_on_vlan conf) (vlans_of o conf)) (flat_map (many_rules_on_port conf) (interfaces o conf))
      (each (many_rules_on_vlan conf) (vlans_of o conf) vlan_rules)
      (each_port (many_rules_on_port conf) (λ d c p j. interface_above d c p j limit.Rules 1000 (λ d p. length (rules_of conf p.acls)) (λ above. inl above)))

  routers_above : LimitsBreak t o conf (too_many_router_vlans o conf)
  routers_above = each many_router_vlans (zip o.routers conf.routers) (λ r i.
      let z = of_zipped (router_of o) o.routers r i in
      told_if (nat_lt 16 (length r.1.vlans)) limit.RouterVlans (router_site r.0) (λ is.
      there t (router_site r.0) (IsPart RouterSays r.0) (λ u. IsAbove o conf limit.RouterVlans (router_site r.0)) (router_leads t raw says r.0 z.0) (λ u h.
      record { router = r.0; is_router = contains o.routers r.0 z.0; path = refl; above = subst (λ (w : Router). 16 < length w.vlans) (sym z.1) (ltb-true 16 (length r.1.vlans) is) })))

  -- ---- of the whole

  dps_written : LimitsBreak t o conf (above 64 (length conf.dps) limit.Dps whole_dps)
  dps_written = told_if (nat_lt 64 (length conf.dps)) limit.Dps whole_dps (λ is.
      there t whole_dps (λ u. IsMap (AreMaps DpSays) u raw.dps) (λ u. IsAbove o conf limit.Dps whole_dps) (needed t (codes "dps") (λ u. IsMap (AreMaps DpSays) u raw.dps) says.0 says.1 says.2.dps) (λ u m.
      record { path = refl; above = ltb-true 64 (length conf.dps) is }))

  -- what only VLANs that are written have many of
  of_written : (most n : ℕ) (name : LimitName) → (raw.vlans ≡ [] → n ≡ 0) → nat_lt most 0 ≡ false → (most < n → IsAbove o conf name whole_vlans) → LimitsBreak t o conf (above most n name whole_vlans)
  of_written most n name none few is_above = told_if (nat_lt most n) name whole_vlans (λ is.
      there t whole_vlans (λ u. IsMap (AreMaps VlanSays) u raw.vlans) (λ u. IsAbove o conf name whole_vlans)
      (given t (codes "vlans") (λ u. IsMap (AreMaps VlanSays) u raw.vlans) (raw.vlans ≡ []) (says.0, says.1, says.2.vlans) (λ no. true≢false (sym is ∙ ap (nat_lt most) (none no) ∙ few)))
      (λ u m. is_above (ltb-true most n is)))

  vlans_above : (test : Bool) → nat_lt 1024 (length conf.vlans) ≡ test → LimitsBreak t o conf (fault_if test (TooMany limit.Vlans) whole_vlans)
  vlans_above false is = tt
  vlans_above true is = (by (value_at (codes "vlans") says.0) refl says.2.vlans, tt)
    where
      by : (o : Option Tree) → value_at (codes "vlans") says.0 ≡ o → MatchOption o (raw.vlans ≡ []) (λ v. IsMap (AreMaps VlanSays) v raw.vlans) → Told (fault (TooMany limit.Vlans) whole_vlans)
      by None absent m = inr (record { is = (refl, ap (value_at (codes "vlans")) (entries_are (out-Tree t) says.0 says.1) ∙ absent); above = ltb-true 1024 (length conf.vlans) is })
      by (Some v) at m = inl (record { name = limit.Vlans; cause = refl; breaks = (whole_vlans, refl, v, one_step t (codes "vlans") v (among_entries (out-Tree t) says.0 (codes "vlans") v says.1 (value_is_entry (codes "vlans") says.0 v at)), record { path = refl; above = ltb-true 1024 (length conf.vlans) is }) })

  -- ---- all of them

  parts_above : LimitsBreak t o conf (part_limits o conf)
  parts_above =
      both (above 64 (length conf.dps) limit.Dps whole_dps) _ dps_written
      (both (at_dps o conf limit.Ports) _ (dps_above limit.Ports (λ steps above. above))
      (both (above 1024 (length conf.vlans) limit.Vlans whole_vlans) _ (vlans_above (nat_lt 1024 (length conf.vlans)) refl)
      (both (too_many_mirrors o conf) (at_dps o conf limit.Special) mirrors_above (dps_above limit.Special (λ steps above. above)))))

  acls_above : LimitsBreak t o conf (acl_limits o conf)
  acls_above =
      both (too_many_rules o conf) _ rules_above
      (both (at_dps o conf limit.AclEntries) _ (dps_above limit.AclEntries (λ steps above. above))
      (both (at_dps o conf limit.AclOutputs) (at_dps o conf limit.Members) (dps_above limit.AclOutputs (λ steps above. above)) (dps_above limit.Members (λ steps above. above))))

  routing_above : LimitsBreak t o conf (routing_limits o conf)
  routing_above =
      both (flat_map many_vips (vlans_of o conf)) _ (each many_vips (vlans_of o conf) vlan_vips)
      (both (too_many_router_vlans o conf) _ routers_above
      (both (above 1024 (routes conf) limit.Routes whole_vlans) _ (of_written 1024 (routes conf) limit.Routes (none_of t raw says (λ v. length v.routes) (λ vid. refl)) refl (λ is. record { path = refl; above = is }))
      (both (above 1024 (gateways conf) limit.Gateways whole_vlans) (above 32768 (sum_by (route_items conf) conf.vlans) limit.RouteItems whole_vlans) (of_written 1024 (gateways conf) limit.Gateways (no_gateways t raw says) refl (λ is. record { path = refl; above = is }))
      (of_written 32768 (sum_by (route_items conf) conf.vlans) limit.RouteItems (none_of t raw says (route_items conf) (λ vid. refl)) refl (λ is. record { path = refl; above = is })))))

  pub rule16 : LimitsBreak t (ordered raw) (resolved (ordered raw)) (passed_limits (ordered raw) (resolved (ordered raw)))
  rule16 = both (part_limits o conf) _ parts_above (both (acl_limits o conf) (routing_limits o conf) acls_above routing_above)
