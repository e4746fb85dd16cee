-- The paths of the limits.
use Rattle.std.specs.Prelude.{◌≡◌, ℕ, ◌+◌, ◌*◌, ◌&&◌, ◌⊎◌, Bool, true, false, List, [], ◌∷◌, ◌++◌, codes, length, sum_by, count_by, nat_lt, fold, Option, None, Some, MatchOption}
use Rattle.std.specs.List.{AllByRecursion, flat_map, zip}
use Rattle.std.proofs.Common.{inl, inr, refl, sym, ap, ◌∙◌, true≢false, arith}
use Rattle.yaml_tree.specs.declared.tree.Pair.{Pair}
use Rattle.yaml_tree.specs.declared.tree.Tree.{Tree, out-Tree}
use Rattle.yaml_tree.specs.declared.tree.Tree.TheOpen.{Tree-F}
use Rattle.yaml_tree.specs.declared.tree.Tree.TheOpen as tree
use Rattle.conf_types.specs.declared.vlan.Vlan.{Vlan}
use Rattle.conf_types.specs.Attached.{rules_of}
use Rattle.conf_types.specs.Configuration.{Configuration}
use Rattle.conf_types.specs.Membership.{is_mirror_of}
use Rattle.conf_types.specs.Valid.{route_items, group_count}
use Rattle.conf_shape.specs.declared.raw.RawConf.{RawConf}
use Rattle.conf_shape.specs.declared.raw.RawPort.{RawPort}
use Rattle.conf_shape.specs.declared.raw.RawVlan.{RawVlan}
use Rattle.conf_shape.specs.declared.refused.ConfCause.TheVariants.{TooMany}
use Rattle.conf_shape.specs.declared.refused.ConfFault.{ConfFault}
use Rattle.conf_shape.specs.declared.refused.LimitName.{LimitName}
use Rattle.conf_shape.specs.declared.refused.LimitName.TheVariants as limit
use Rattle.conf_shape.specs.Reads.{value_at, entries_in}
use Rattle.conf_resolve.specs.declared.ordered.OrderedConf.{OrderedConf}
use Rattle.conf_resolve.specs.declared.ordered.PlacedVlan.{PlacedVlan}
use Rattle.conf_resolve.specs.InOrder.{made_vlan, dp_site, port_site, router_site, ordered}
use Rattle.conf_resolve.specs.Resolved.{dp_of, port_of, vlan_of, router_of, resolved}
use Rattle.conf_rules.specs.Limits.{above, whole_dps, whole_vlans, size_of, most_of, at_dp, at_dps, many_mirrors, too_many_mirrors, is_attached_somewhere, many_rules_on_vlan, many_rules_on_port, too_many_rules, many_vips, many_router_vlans, too_many_router_vlans, routes, gateways_of, gateways, part_limits, acl_limits, routing_limits}
use Rattle.conf_rules.specs.Places.{fault, fault_if, vlans_of, dps_of, interfaces}
use Rattle.law_checks.specs.Says.{Says, DpSays, VlanSays, PortSays, RouterSays}
use Rattle.law_checks.specs.Values.{HasEntries, IsMap, AreMaps}
use Rattle.law_checks.proofs.Kept.{of_zipped}
use Rattle.law_checks.proofs.Members.{IsIn, all_joined, of_mapped}
use Rattle.law_documents.specs.Forms.{IsOwn}
use Rattle.law_documents.specs.Leads.{PathLeads, PathsLead}
use Rattle.law_documents.specs.Rules.{IsOfNumbers, LimitPathsLead}
use Rattle.law_documents.proofs.Leads.{Reaches, there, one_step, among_entries, value_is_entry, given, needed, not_empty}
use Rattle.law_documents.proofs.Own.{section}
use Rattle.law_documents.proofs.Parts.{IsPart, IsDp, dp_leads, router_leads}
use Rattle.law_documents.proofs.Ports.{each_interface}
use Rattle.law_documents.proofs.Told.{At, path, told_if, each, both}
use Rattle.law_documents.proofs.Vlans.{IsOne, MadeLeads, IsMade, IsVlan, written_or_made, vlan_leads}

-- ---- sums of nothing

from_zero : {A : Type 0} (f : A → ℕ) (n : ℕ) (xs : List A) → ((x : A) → IsIn xs x → f x ≡ 0) → fold (λ a x. a + f x) n xs ≡ n
from_zero f n [] h = refl
from_zero {A = A} f n (x ∷ xs) h =
    let none : f x ≡ 0 = h x (inl refl) in
    let same : n + f x ≡ n = omega (arith, none) in
    ap (λ m. fold (λ a (x : A). a + f x) m xs) same ∙ from_zero f n xs (λ y i. h y (inr i))

no_sum : {A : Type 0} (f : A → ℕ) (xs : List A) → ((x : A) → IsIn xs x → f x ≡ 0) → sum_by f xs ≡ 0
no_sum f xs h = from_zero f 0 xs h

-- ---- the entries of a document

pub entries_are : (x : Tree-F Tree Pair) (pairs : List Pair) → HasEntries x pairs → entries_in x ≡ pairs
entries_are (tree.Map ps) pairs has = has
entries_are tree.Null pairs has = sym has
entries_are (tree.Bool flag) pairs has = absurd has
entries_are (tree.Int n) pairs has = absurd has
entries_are (tree.Text text) pairs has = absurd has
entries_are (tree.List items) pairs has = absurd has

own : (u : Tree) (pairs : List Pair) → HasEntries (out-Tree u) pairs → IsOwn (out-Tree u)
own u pairs has = inr (section (out-Tree u) pairs has)

own_vlan : (v : RawVlan) (u : Tree) → IsVlan v u → IsOwn (out-Tree u)
own_vlan v u (inl part) = own u part.1.0 part.1.1
own_vlan v u (inr made) = inl made.0

module _ (t : Tree) (raw : RawConf) (says : Says t raw) where
  abbrev o : OrderedConf
  o = ordered raw

  abbrev conf : Configuration
  conf = resolved o

  -- ---- of parts

  dps_lead : (name : LimitName) → PathsLead t IsOwn (at_dps o conf name)
  dps_lead name = each t IsOwn (at_dp conf name) (dps_of o conf) (λ e i.
      told_if t IsOwn (nat_lt (most_of name) (size_of conf name e.1)) (TooMany name) (dp_site e.0) (λ is.
      there t (dp_site e.0) (IsDp e.0) (λ u. IsOwn (out-Tree u)) (dp_leads t raw says e.0 (of_zipped (dp_of o) o.dps e i).0).itself (λ u h. own u h.pairs h.has)))

  port_leads : (p : RawPort) (site : List (List ℕ)) → Reaches t site (IsPart PortSays p) → At t IsOwn site
  port_leads p site r = there t site (IsPart PortSays p) (λ u. IsOwn (out-Tree u)) r (λ u h. own u h.1.0 h.1.1)

  vlan_at : (v : PlacedVlan × Vlan) → IsIn (vlans_of o conf) v → At t IsOwn v.0.site
  vlan_at v i = there t v.0.site (IsVlan v.0.vlan) (λ u. IsOwn (out-Tree u)) (vlan_leads t raw says v.0 (of_zipped (λ (v : PlacedVlan). vlan_of v.vlan) o.vlans v i).0) (own_vlan v.0.vlan)

  mirrors_lead : PathsLead t IsOwn (too_many_mirrors o conf)
  mirrors_lead = each_interface t raw says IsOwn many_mirrors (λ d p r.
      told_if t IsOwn (nat_lt 4 (count_by (λ m. is_mirror_of m p.no) (dp_of o d).ports)) (TooMany limit.Mirrors) (port_site d p) (λ is. port_leads p (port_site d p) r))

  rules_lead : PathsLead t IsOwn (too_many_rules o conf)
  rules_lead =
      both t IsOwn (flat_map (many_rules_on_vlan conf) (vlans_of o conf)) (flat_map (many_rules_on_port conf) (interfaces o conf))
      (each t IsOwn (many_rules_on_vlan conf) (vlans_of o conf) (λ v i.
      told_if t IsOwn (is_attached_somewhere conf v.1 && nat_lt 1000 (length (rules_of conf v.1.acls))) (TooMany limit.Rules) v.0.site (λ is. vlan_at v i)))
      (each_interface t raw says IsOwn (many_rules_on_port conf) (λ d p r.
      told_if t IsOwn (nat_lt 1000 (length (rules_of conf (port_of o d p).acls))) (TooMany limit.Rules) (port_site d p) (λ is. port_leads p (port_site d p) r)))

  vips_lead : PathsLead t IsOwn (flat_map many_vips (vlans_of o conf))
  vips_lead = each t IsOwn many_vips (vlans_of o conf) (λ v i. told_if t IsOwn (nat_lt 8 (length v.1.vips)) (TooMany limit.Vips) v.0.site (λ is. vlan_at v i))

  routers_lead : PathsLead t IsOwn (too_many_router_vlans o conf)
  routers_lead = each t IsOwn many_router_vlans (zip o.routers conf.routers) (λ r i.
      told_if t IsOwn (nat_lt 16 (length r.1.vlans)) (TooMany limit.RouterVlans) (router_site r.0) (λ is.
      there t (router_site r.0) (IsPart RouterSays r.0) (λ u. IsOwn (out-Tree u)) (router_leads t raw says r.0 (of_zipped (router_of o) o.routers r i).0) (λ u h. own u h.1.0 h.1.1)))

  -- ---- of the whole

  dps_written : PathsLead t IsOwn (above 64 (length conf.dps) limit.Dps whole_dps)
  dps_written = told_if t IsOwn (nat_lt 64 (length conf.dps)) (TooMany limit.Dps) whole_dps (λ is.
      there t whole_dps (λ u. IsMap (AreMaps DpSays) u raw.dps) (λ u. IsOwn (out-Tree u)) (needed t (codes "dps") (λ u. IsMap (AreMaps DpSays) u raw.dps) says.0 says.1 says.2.dps) (λ u m. own u m.0 m.1))

  -- where no VLAN is written, each is one that a number names
  all_made : raw.vlans ≡ [] → (v : PlacedVlan) → IsIn o.vlans v → IsMade v.vlan
  all_made none v i = by (written_or_made t raw says v i)
    where
      by : IsOne raw v ⊎ MadeLeads t v → IsMade v.vlan
      by (inl one) = absurd (not_empty raw.vlans one.vlan one.among none)
      by (inr made) = made.1

  pub none_of : (f : Vlan → ℕ) → ((vid : ℕ) → f (vlan_of (made_vlan vid)) ≡ 0) → raw.vlans ≡ [] → sum_by f conf.vlans ≡ 0
  none_of f nothing none = no_sum f conf.vlans (λ v i.
      let m = of_mapped (λ (v : PlacedVlan). vlan_of v.vlan) o.vlans v i in
      let made = all_made none m.0 m.1 in
      ap f (sym m.2) ∙ ap (λ (w : RawVlan). f (vlan_of w)) made.1 ∙ nothing made.0)

  -- what only VLANs that are written have many of
  of_written : (most n : ℕ) (name : LimitName) → (raw.vlans ≡ [] → n ≡ 0) → nat_lt most 0 ≡ false → PathsLead t IsOwn (above most n name whole_vlans)
  of_written most n name none few = told_if t IsOwn (nat_lt most n) (TooMany name) whole_vlans (λ is.
      there t whole_vlans (λ u. IsMap (AreMaps VlanSays) u raw.vlans) (λ u. IsOwn (out-Tree u))
      (given t (codes "vlans") (λ u. IsMap (AreMaps VlanSays) u raw.vlans) (raw.vlans ≡ []) (says.0, says.1, says.2.vlans) (λ no. true≢false (sym is ∙ ap (nat_lt most) (none no) ∙ few)))
      (λ u m. own u m.0 m.1))

  pub no_gateways : raw.vlans ≡ [] → gateways conf ≡ 0
  no_gateways none = ap (λ n. group_count conf * n) (none_of gateways_of (λ vid. refl) none) ∙ times_zero (group_count conf)
    where
      times_zero : (n : ℕ) → n * 0 ≡ 0
      times_zero n = omega arith

  -- ---- all of them

  abbrev Told : ConfFault → Type 0
  Told fault = PathLeads t IsOwn fault ⊎ IsOfNumbers t fault

  told : (xs : List ConfFault) → PathsLead t IsOwn xs → AllByRecursion Told xs
  told [] all = tt
  told (x ∷ xs) all = (inl all.0, told xs all.1)

  vlans_told : (test : Bool) → AllByRecursion Told (fault_if test (TooMany limit.Vlans) whole_vlans)
  vlans_told false = tt
  vlans_told true = (by (value_at (codes "vlans") says.0) refl says.2.vlans, tt)
    where
      by : (o : Option Tree) → value_at (codes "vlans") says.0 ≡ o → MatchOption o (raw.vlans ≡ []) (λ v. IsMap (AreMaps VlanSays) v raw.vlans) → Told (fault (TooMany limit.Vlans) whole_vlans)
      by None is m = inr (refl, ap (value_at (codes "vlans")) (entries_are (out-Tree t) says.0 says.1) ∙ is)
      by (Some v) is m = inl (path t IsOwn (TooMany limit.Vlans) whole_vlans (v, one_step t (codes "vlans") v (among_entries (out-Tree t) says.0 (codes "vlans") v says.1 (value_is_entry (codes "vlans") says.0 v is)), own v m.0 m.1))

  parts_told : AllByRecursion Told (part_limits o conf)
  parts_told =
      all_joined Told (above 64 (length conf.dps) limit.Dps whole_dps) (at_dps o conf limit.Ports ++ (above 1024 (length conf.vlans) limit.Vlans whole_vlans ++ (too_many_mirrors o conf ++ at_dps o conf limit.Special))) (told (above 64 (length conf.dps) limit.Dps whole_dps) dps_written)
      (all_joined Told (at_dps o conf limit.Ports) (above 1024 (length conf.vlans) limit.Vlans whole_vlans ++ (too_many_mirrors o conf ++ at_dps o conf limit.Special)) (told (at_dps o conf limit.Ports) (dps_lead limit.Ports))
      (all_joined Told (above 1024 (length conf.vlans) limit.Vlans whole_vlans) (too_many_mirrors o conf ++ at_dps o conf limit.Special) (vlans_told (nat_lt 1024 (length conf.vlans)))
      (told (too_many_mirrors o conf ++ at_dps o conf limit.Special) (both t IsOwn (too_many_mirrors o conf) (at_dps o conf limit.Special) mirrors_lead (dps_lead limit.Special)))))

  acls_lead : PathsLead t IsOwn (acl_limits o conf)
  acls_lead =
      both t IsOwn (too_many_rules o conf) (at_dps o conf limit.AclEntries ++ (at_dps o conf limit.AclOutputs ++ at_dps o conf limit.Members)) rules_lead
      (both t IsOwn (at_dps o conf limit.AclEntries) (at_dps o conf limit.AclOutputs ++ at_dps o conf limit.Members) (dps_lead limit.AclEntries)
      (both t IsOwn (at_dps o conf limit.AclOutputs) (at_dps o conf limit.Members) (dps_lead limit.AclOutputs) (dps_lead limit.Members)))

  abbrev above_routes : List ConfFault
  above_routes = above 1024 (routes conf) limit.Routes whole_vlans

  abbrev above_gateways : List ConfFault
  above_gateways = above 1024 (gateways conf) limit.Gateways whole_vlans

  abbrev above_items : List ConfFault
  above_items = above 32768 (sum_by (route_items conf) conf.vlans) limit.RouteItems whole_vlans

  routing_leads : PathsLead t IsOwn (routing_limits o conf)
  routing_leads =
      both t IsOwn (flat_map many_vips (vlans_of o conf)) (too_many_router_vlans o conf ++ (above_routes ++ (above_gateways ++ above_items))) vips_lead
      (both t IsOwn (too_many_router_vlans o conf) (above_routes ++ (above_gateways ++ above_items)) routers_lead
      (both t IsOwn above_routes (above_gateways ++ above_items) (of_written 1024 (routes conf) limit.Routes (none_of (λ v. length v.routes) (λ vid. refl)) refl)
      (both t IsOwn above_gateways above_items (of_written 1024 (gateways conf) limit.Gateways no_gateways refl)
      (of_written 32768 (sum_by (route_items conf) conf.vlans) limit.RouteItems (none_of (route_items conf) (λ vid. refl)) refl))))

  pub limits_lead : LimitPathsLead t (ordered raw) (resolved (ordered raw))
  limits_lead =
      all_joined Told (part_limits o conf) (acl_limits o conf ++ routing_limits o conf) parts_told
      (told (acl_limits o conf ++ routing_limits o conf) (both t IsOwn (acl_limits o conf) (routing_limits o conf) acls_lead routing_leads))
