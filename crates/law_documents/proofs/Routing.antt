-- The paths of rules 12 to 15: VIPs, routers and routes.
use Rattle.std.specs.Prelude.{◌≡◌, ℕ, not, List, [], ◌∷◌, ◌++◌, map, codes}
use Rattle.std.specs.List.{list_any, zip}
use Rattle.std.proofs.Common.{inl, inr, refl, sym, ap, ◌∙◌, subst}
use Rattle.yaml_tree.specs.declared.tree.Tree.{Tree, out-Tree}
use Rattle.conf_types.specs.declared.address.Net.{Net}
use Rattle.conf_types.specs.declared.vlan.Route.{Route}
use Rattle.conf_types.specs.declared.vlan.Vlan.{Vlan}
use Rattle.conf_types.specs.Configuration.{Configuration}
use Rattle.conf_shape.specs.declared.raw.RawConf.{RawConf}
use Rattle.conf_shape.specs.declared.raw.RawVlan.{RawVlan}
use Rattle.conf_shape.specs.declared.refused.ConfCause.TheVariants.{Duplicate, Conflict}
use Rattle.conf_resolve.specs.declared.ordered.OrderedConf.{OrderedConf}
use Rattle.conf_resolve.specs.declared.ordered.PlacedVlan.{PlacedVlan}
use Rattle.conf_resolve.specs.InOrder.{made_vlan, ordered}
use Rattle.conf_resolve.specs.Resolved.{to_list, vid_of, vlan_of, router_of, resolved}
use Rattle.conf_rules.specs.Names.{routed_at}
use Rattle.conf_rules.specs.Places.{fault_if, under, each_at, vlans_of, with_earlier}
use Rattle.conf_rules.specs.Routing.{vlans_behind, overlaps_earlier, overlapping_vip, overlapping_of_vlan, overlapping_vips, is_in_router, routed_twice, shared_of_router, shared_vlans, route_site, leads_inside, is_gateway, wrong_route, wrong_routes_of, wrong_routes, repeats_earlier, repeated_route, repeated_of_vlan, repeated_routes}
use Rattle.law_checks.specs.Says.{Says, VlanSays, RouteSays, RouteItemSays}
use Rattle.law_checks.specs.Values.{IsAddress, IsNetwork, IsList, IsMap}
use Rattle.law_checks.proofs.Kept.{of_zipped}
use Rattle.law_checks.proofs.Members.{IsIn}
use Rattle.law_documents.specs.Forms.{NamesVlan, SpellsNetwork, SpellsAddress, SpellsRoute}
use Rattle.law_documents.specs.Leads.{PathsLead}
use Rattle.law_documents.specs.Rules.{RoutingPathsLead}
use Rattle.law_documents.proofs.Leads.{Reaches, onward, there, HasKey, given, needed, in_list, behind_earlier}
use Rattle.law_documents.proofs.Parts.{IsPart, router_leads}
use Rattle.law_documents.proofs.Told.{At, told_if, each, both}
use Rattle.law_documents.proofs.Vlans.{VlanAt, routed_leads, IsVlan, vlan_leads}

-- each of a list, with what it stands for and those before it
pub of_zip_behind : {A B : Type 0} (f : A → B) (earlier : List B) (xs : List A) (z : A × (List B × B)) → IsIn (zip xs (with_earlier earlier (map f xs))) z → IsIn xs z.0 × (f z.0 ≡ z.1.1)
of_zip_behind f earlier [] z i = absurd i
of_zip_behind {A = A} {B = B} f earlier (x ∷ xs) z (inl e) = (inl (ap (λ (z : A × (List B × B)). z.0) e), ap f (sym (ap (λ (z : A × (List B × B)). z.0) e)) ∙ ap (λ (z : A × (List B × B)). z.1.1) e)
of_zip_behind f earlier (x ∷ xs) z (inr i) = let m = of_zip_behind f (earlier ++ f x ∷ []) xs z i in (inr m.0, m.1)

-- ---- a list of a VLAN: one that a number alone names has none

module _ {A : Type 0} (t : Tree) (name : List ℕ) (P : Tree → A → Type 0) (list_of : RawVlan → List A) (none : (vid : ℕ) → list_of (made_vlan vid) ≡ []) where
  vlan_list : (v : PlacedVlan) → ((u : Tree) → IsPart VlanSays v.vlan u → HasKey name (list_of v.vlan ≡ []) (λ w. IsList P w (list_of v.vlan)) u)
      → Reaches t v.site (IsVlan v.vlan) → (item : List (List ℕ) × A) → IsIn (each_at (under v.site name) (list_of v.vlan)) item → Reaches t item.0 (λ w. P w item.1)
  vlan_list v has r = in_list t (under v.site name) P (list_of v.vlan) (λ some. onward t v.site (IsVlan v.vlan) (name ∷ []) (λ w. IsList P w (list_of v.vlan)) r (λ u h. by some u h))
    where
      by : (list_of v.vlan ≡ [] → ⊥) → (u : Tree) → IsVlan v.vlan u → Reaches u (name ∷ []) (λ w. IsList P w (list_of v.vlan))
      by some u (inl part) = given u name (λ w. IsList P w (list_of v.vlan)) (list_of v.vlan ≡ []) (has u part) some
      by some u (inr made) = absurd (some (ap list_of made.1.1 ∙ none made.1.0))

-- ---- a route

module _ (t : Tree) (site : List (List ℕ)) (route : Route) (at : Reaches t site (λ u. IsMap RouteItemSays u route)) where
  pub route_leads : Reaches t (under site (codes "route")) (λ u. IsMap RouteSays u route)
  route_leads = onward t site (λ u. IsMap RouteItemSays u route) (codes "route" ∷ []) (λ u. IsMap RouteSays u route) at (λ u m. needed u (codes "route") (λ v. IsMap RouteSays v route) m.0 m.1 m.2)

  dst_leads : At t SpellsNetwork (route_site site (codes "ip_dst"))
  dst_leads = onward t (under site (codes "route")) (λ u. IsMap RouteSays u route) (codes "ip_dst" ∷ []) (λ v. SpellsNetwork (out-Tree v)) route_leads (λ u m.
      there u (codes "ip_dst" ∷ []) (λ v. IsNetwork v route.dst) (λ v. SpellsNetwork (out-Tree v)) (needed u (codes "ip_dst") (λ v. IsNetwork v route.dst) m.0 m.1 m.2.dst) (λ v n. (n.text, route.dst, n.is, n.spelled)))

  gw_leads : At t SpellsAddress (route_site site (codes "ip_gw"))
  gw_leads = onward t (under site (codes "route")) (λ u. IsMap RouteSays u route) (codes "ip_gw" ∷ []) (λ v. SpellsAddress (out-Tree v)) route_leads (λ u m.
      there u (codes "ip_gw" ∷ []) (λ v. IsAddress v route.gw) (λ v. SpellsAddress (out-Tree v)) (needed u (codes "ip_gw") (λ v. IsAddress v route.gw) m.0 m.1 m.2.gw) (λ v n. (n.text, route.gw, n.is, n.spelled)))

-- ---- the rules

module _ (t : Tree) (raw : RawConf) (says : Says t raw) where
  abbrev o : OrderedConf
  o = ordered raw

  abbrev conf : Configuration
  conf = resolved o

  pub vip_at : (v : PlacedVlan) → IsIn o.vlans v → (item : List (List ℕ) × Net) → IsIn (each_at (under v.site (codes "faucet_vips")) v.vlan.vips) item → Reaches t item.0 (λ w. IsNetwork w item.1)
  vip_at v i = vlan_list t (codes "faucet_vips") IsNetwork (λ v. v.vips) (λ vid. refl) v (λ u part. (part.1.0, part.1.1, part.1.2.vips)) (vlan_leads t raw says v i)

  pub route_at : (v : PlacedVlan) → IsIn o.vlans v → (item : List (List ℕ) × Route) → IsIn (each_at (under v.site (codes "routes")) v.vlan.routes) item → Reaches t item.0 (λ w. IsMap RouteItemSays w item.1)
  route_at v i = vlan_list t (codes "routes") (IsMap RouteItemSays) (λ v. v.routes) (λ vid. refl) v (λ u part. (part.1.0, part.1.1, part.1.2.routes)) (vlan_leads t raw says v i)

  vips_lead : PathsLead t SpellsNetwork (overlapping_vips o conf)
  vips_lead = each t SpellsNetwork (overlapping_of_vlan conf) (vlans_behind o conf) (λ v i.
      let z = of_zip_behind (λ (v : PlacedVlan). vlan_of v.vlan) [] o.vlans v i in
      each t SpellsNetwork (overlapping_vip conf v.1) (each_at (under v.0.site (codes "faucet_vips")) (with_earlier [] v.1.1.vips)) (λ vip j.
      told_if t SpellsNetwork (overlaps_earlier conf v.1 vip.1) (Conflict 12) vip.0 (λ is.
      there t vip.0 (λ w. IsNetwork w vip.1.1) (λ w. SpellsNetwork (out-Tree w))
      (vip_at v.0 z.0 (vip.0, vip.1.1) (behind_earlier (under v.0.site (codes "faucet_vips")) [] v.0.vlan.vips vip (subst (λ (w : Vlan). IsIn (each_at (under v.0.site (codes "faucet_vips")) (with_earlier [] w.vips)) vip) (sym z.1) j)))
      (λ w n. (n.text, vip.1.1, n.is, n.spelled)))))

  routers_lead : PathsLead t NamesVlan (shared_vlans o conf)
  routers_lead = each t NamesVlan (shared_of_router o) (zip o.routers (with_earlier [] conf.routers)) (λ r i.
      let z = of_zip_behind (router_of o) [] o.routers r i in
      each t NamesVlan (routed_twice o r.1.0) (routed_at r.0) (λ item j.
      each t NamesVlan (λ vid. fault_if (list_any (is_in_router vid) r.1.0) (Conflict 13) item.0) (to_list (vid_of o.vlans item.1)) (λ vid k.
      told_if t NamesVlan (list_any (is_in_router vid) r.1.0) (Conflict 13) item.0 (λ is.
      there t item.0 (λ u. VlanAt u item.1) (λ u. NamesVlan (out-Tree u)) (routed_leads t r.0 (router_leads t raw says r.0 z.0) item j) (λ u names. (item.1, names))))))

  routes_lead : PathsLead t SpellsRoute (wrong_routes o conf)
  routes_lead = each t SpellsRoute (wrong_routes_of conf) (vlans_of o conf) (λ v i.
      let z = of_zipped (λ (v : PlacedVlan). vlan_of v.vlan) o.vlans v i in
      each t SpellsRoute (wrong_route conf v.1) (each_at (under v.0.site (codes "routes")) v.1.routes) (λ r j.
      let at = route_at v.0 z.0 r (subst (λ (w : Vlan). IsIn (each_at (under v.0.site (codes "routes")) w.routes) r) (sym z.1) j) in
      both t SpellsRoute
      (fault_if (leads_inside conf v.1.vid r.1.dst) (Conflict 14) (route_site r.0 (codes "ip_dst")))
      (fault_if (not (is_gateway v.1 r.1)) (Conflict 14) (route_site r.0 (codes "ip_gw")))
      (told_if t SpellsRoute (leads_inside conf v.1.vid r.1.dst) (Conflict 14) (route_site r.0 (codes "ip_dst")) (λ is. there t (route_site r.0 (codes "ip_dst")) (λ v. SpellsNetwork (out-Tree v)) (λ v. SpellsRoute (out-Tree v)) (dst_leads t r.0 r.1 at) (λ v s. inl s)))
      (told_if t SpellsRoute (not (is_gateway v.1 r.1)) (Conflict 14) (route_site r.0 (codes "ip_gw")) (λ is. there t (route_site r.0 (codes "ip_gw")) (λ v. SpellsAddress (out-Tree v)) (λ v. SpellsRoute (out-Tree v)) (gw_leads t r.0 r.1 at) (λ v s. inr s)))))

  repeats_lead : PathsLead t SpellsNetwork (repeated_routes o conf)
  repeats_lead = each t SpellsNetwork (repeated_of_vlan conf) (vlans_behind o conf) (λ v i.
      let z = of_zip_behind (λ (v : PlacedVlan). vlan_of v.vlan) [] o.vlans v i in
      each t SpellsNetwork (repeated_route conf v.1) (each_at (under v.0.site (codes "routes")) (with_earlier [] v.1.1.routes)) (λ r j.
      told_if t SpellsNetwork (repeats_earlier conf v.1 r.1) Duplicate (route_site r.0 (codes "ip_dst")) (λ is.
      dst_leads t r.0 r.1.1 (route_at v.0 z.0 (r.0, r.1.1) (behind_earlier (under v.0.site (codes "routes")) [] v.0.vlan.routes r (subst (λ (w : Vlan). IsIn (each_at (under v.0.site (codes "routes")) (with_earlier [] w.routes)) r) (sym z.1) j))))))

  pub routing_leads : RoutingPathsLead t (ordered raw) (resolved (ordered raw))
  routing_leads = record { vips = vips_lead; routers = routers_lead; routes = routes_lead; repeats = repeats_lead }
