-- The VLANs that are checked, each where it is written or where a number names it.
use Rattle.std.specs.Prelude.{◌≡◌, ℕ, ◌⊎◌, List, [], ◌∷◌, ◌++◌, map, codes, nat_lt, Option, None, Some, IsSomeAnd}
use Rattle.std.specs.Fmt.{decimal}
use Rattle.std.specs.List.{flat_map, enumerate_from}
use Rattle.std.specs.Option.{option_map_or}
use Rattle.std.proofs.Common.{inl, inr, refl, sym, ap, subst}
use Rattle.std.proofs.lemmas.Option.{none-some}
use Rattle.yaml_tree.specs.declared.tree.Pair.{Pair}
use Rattle.yaml_tree.specs.declared.tree.Tree.{Tree, out-Tree}
use Rattle.yaml_tree.specs.declared.tree.Tree.TheOpen.{Tree-F}
use Rattle.yaml_tree.specs.declared.tree.Tree.TheOpen as tree
use Rattle.conf_shape.specs.declared.raw.VlanRef.{VlanRef}
use Rattle.conf_shape.specs.declared.raw.VlanRef.TheVariants.{Vid, Name}
use Rattle.conf_shape.specs.declared.raw.RawPort.{RawPort}
use Rattle.conf_shape.specs.declared.raw.RawDp.{RawDp}
use Rattle.conf_shape.specs.declared.raw.RawVlan.{RawVlan}
use Rattle.conf_shape.specs.declared.raw.RawBgp.{RawBgp}
use Rattle.conf_shape.specs.declared.raw.RawRouter.{RawRouter}
use Rattle.conf_shape.specs.declared.raw.RawConf.{RawConf}
use Rattle.conf_resolve.specs.declared.ordered.PlacedVlan.{PlacedVlan}
use Rattle.conf_resolve.specs.InOrder.{vlan_site, port_site, router_site, bgp_site, dps_in_order, routers_in_order, made_vlan, by_number, by_numbers, of_port, of_router, named_by_dps, named_by_routers, named, further, written, vlans_in_order}
use Rattle.conf_resolve.specs.Resolved.{to_list}
use Rattle.conf_rules.specs.Names.{native_at, tagged_at, routed_at, peer_at}
use Rattle.conf_rules.specs.Places.{nth, each_at}
use Rattle.law_checks.specs.Says.{Says, VlanSays, PortSays, BgpSays, RouterSays}
use Rattle.law_checks.specs.Values.{IsVlanOf, IsList, IsMap}
use Rattle.law_checks.proofs.Members.{IsIn, of_joined, of_mapped, of_flat, in_flat}
use Rattle.law_checks.proofs.Orders.{of_order}
use Rattle.law_checks.proofs.Vlans.{of_further}
use Rattle.law_documents.specs.Forms.{IsScalar}
use Rattle.law_documents.proofs.Leads.{Reaches, onward, there, HasKey, given, needed, in_key, in_option, in_map}
use Rattle.law_documents.proofs.Parts.{IsPart, dp_leads, router_leads}

-- ---- the names of VLANs that interfaces and routers give

-- a tree that names the VLAN
abbrev pub VlanAt : Tree → VlanRef → Type 0
VlanAt u ref = IsVlanOf (out-Tree u) ref

pub vlan_scalar : (x : Tree-F Tree Pair) (ref : VlanRef) → IsVlanOf x ref → IsScalar x
vlan_scalar (tree.Int n) ref is = tt
vlan_scalar (tree.Text text) ref is = tt
vlan_scalar tree.Null ref is = absurd is
vlan_scalar (tree.Bool flag) ref is = absurd is
vlan_scalar (tree.List items) ref is = absurd is
vlan_scalar (tree.Map pairs) ref is = absurd is

abbrev pub IsMade : RawVlan → Type 0
IsMade v = (vid : ℕ) × (v ≡ made_vlan vid)

module _ (t : Tree) where
  module _ (d : RawDp) (p : RawPort) (at : Reaches t (port_site d p) (IsPart PortSays p)) where
    pub native_leads : (item : List (List ℕ) × VlanRef) → IsIn (native_at d p) item → Reaches t item.0 (λ u. VlanAt u item.1)
    native_leads = in_option t (port_site d p) (codes "native_vlan") VlanAt p.native
        (there t (port_site d p) (IsPart PortSays p) (HasKey (codes "native_vlan") (p.native ≡ None) (λ v. IsSomeAnd p.native (VlanAt v))) at (λ u h. (h.1.0, h.1.1, h.1.2.native)))

    pub tagged_leads : (item : List (List ℕ) × VlanRef) → IsIn (tagged_at d p) item → Reaches t item.0 (λ u. VlanAt u item.1)
    tagged_leads = in_key t (port_site d p) (codes "tagged_vlans") VlanAt p.tagged
        (there t (port_site d p) (IsPart PortSays p) (HasKey (codes "tagged_vlans") (p.tagged ≡ []) (λ v. IsList VlanAt v p.tagged)) at (λ u h. (h.1.0, h.1.1, h.1.2.tagged)))

  pub routed_leads : (r : RawRouter) → Reaches t (router_site r) (IsPart RouterSays r) → (item : List (List ℕ) × VlanRef) → IsIn (routed_at r) item → Reaches t item.0 (λ u. VlanAt u item.1)
  routed_leads r at = in_key t (router_site r) (codes "vlans") VlanAt r.vlans
      (there t (router_site r) (IsPart RouterSays r) (HasKey (codes "vlans") (r.vlans ≡ []) (λ v. IsList VlanAt v r.vlans)) at (λ u h. (h.1.0, h.1.1, h.1.2.vlans)))

  pub peer_leads : (r : RawRouter) → Reaches t (router_site r) (IsPart RouterSays r) → (item : List (List ℕ) × VlanRef) → IsIn (peer_at r) item → Reaches t item.0 (λ u. VlanAt u item.1)
  peer_leads r at = by r.bgp (there t (router_site r) (IsPart RouterSays r) (HasKey (codes "bgp") (r.bgp ≡ None) (λ v. IsSomeAnd r.bgp (IsMap BgpSays v))) at (λ u h. (h.1.0, h.1.1, h.1.2.bgp)))
    where
      by : (o : Option RawBgp) → Reaches t (router_site r) (HasKey (codes "bgp") (o ≡ None) (λ v. IsSomeAnd o (IsMap BgpSays v))) → (item : List (List ℕ) × VlanRef) → IsIn (map (λ (bgp : RawBgp). (bgp_site r, bgp.vlan)) (to_list o)) item
          → Reaches t item.0 (λ u. VlanAt u item.1)
      by None reach item i = absurd i
      by (Some bgp) reach item (inr i) = absurd i
      by (Some bgp) reach item (inl e) =
          subst (λ (item : List (List ℕ) × VlanRef). Reaches t item.0 (λ u. VlanAt u item.1)) e
          (onward t (router_site r) (HasKey (codes "bgp") (Some bgp ≡ None) (λ v. IsMap BgpSays v bgp)) (codes "bgp" ∷ codes "vlan" ∷ []) (λ v. VlanAt v bgp.vlan) reach (λ u h.
          onward u (codes "bgp" ∷ []) (λ v. IsMap BgpSays v bgp) (codes "vlan" ∷ []) (λ v. VlanAt v bgp.vlan) (given u (codes "bgp") (λ v. IsMap BgpSays v bgp) (Some bgp ≡ None) h (λ none. none-some bgp (sym none)))
          (λ v m. needed v (codes "vlan") (λ w. VlanAt w bgp.vlan) m.0 m.1 m.2.vlan)))

  -- ---- VLANs that numbers name

  -- one is made where a number stands
  abbrev pub MadeLeads : PlacedVlan → Type 0
  MadeLeads v = Reaches t v.site (λ u. IsScalar (out-Tree u)) × IsMade v.vlan

  made_leads : (site : List (List ℕ)) (ref : VlanRef) (v : PlacedVlan) → Reaches t site (λ u. VlanAt u ref) → IsIn (by_number site ref) v → MadeLeads v
  made_leads site (Name name) v r i = absurd i
  made_leads site (Vid vid) v r (inr i) = absurd i
  made_leads site (Vid vid) v r (inl e) = (
    subst (λ (v : PlacedVlan). Reaches t v.site (λ u. IsScalar (out-Tree u))) e (there t site (λ u. VlanAt u (Vid vid)) (λ u. IsScalar (out-Tree u)) r (λ u is. vlan_scalar (out-Tree u) (Vid vid) is)),
    (vid, ap (λ (v : PlacedVlan). v.vlan) (sym e)),
  )

  of_option : (site : List (List ℕ)) (o : Option VlanRef) (v : PlacedVlan) → ((item : List (List ℕ) × VlanRef) → IsIn (map (λ name. (site, name)) (to_list o)) item → Reaches t item.0 (λ u. VlanAt u item.1)) → IsIn (option_map_or (by_number site) o []) v → MadeLeads v
  of_option site None v r i = absurd i
  of_option site (Some ref) v r i = made_leads site ref v (r (site, ref) (inl refl)) i

  of_list : (site : List (List ℕ)) (refs : List VlanRef) (v : PlacedVlan) → ((item : List (List ℕ) × VlanRef) → IsIn (each_at site refs) item → Reaches t item.0 (λ u. VlanAt u item.1)) → IsIn (by_numbers site refs) v → MadeLeads v
  of_list site refs v r i =
      let m = of_flat (λ (item : ℕ × VlanRef). by_number (site ++ decimal item.0 ∷ []) item.1) (enumerate_from 0 refs) v i in
      let item : List (List ℕ) × VlanRef = (nth site m.0.0, m.0.1) in
      made_leads (nth site m.0.0) m.0.1 v (r item (in_flat (λ (item : ℕ × VlanRef). (nth site item.0, item.1) ∷ []) (enumerate_from 0 refs) m.0 item m.1 (inl refl))) m.2

-- ---- all of them

-- one that is written
pub record IsOne (raw : RawConf) (v : PlacedVlan) : Type 0 where
  pub vlan : RawVlan
  pub among : IsIn raw.vlans vlan
  pub is : written vlan ≡ v

-- a tree where a VLAN is written, or one that names it by its number
abbrev pub IsVlan : RawVlan → Tree → Type 0
IsVlan v u = IsPart VlanSays v u ⊎ (IsScalar (out-Tree u) × IsMade v)

module _ (t : Tree) (raw : RawConf) (says : Says t raw) where
  named_leads : (v : PlacedVlan) → IsIn (named (dps_in_order raw) (routers_in_order raw)) v → MadeLeads t v
  named_leads v i = by (of_joined (named_by_dps (dps_in_order raw)) (named_by_routers (routers_in_order raw)) v i)
    where
      of_one : (d : RawDp) (p : RawPort) → Reaches t (port_site d p) (IsPart PortSays p) → IsIn (option_map_or (by_number (port_site d p ++ codes "native_vlan" ∷ [])) p.native []) v ⊎ IsIn (by_numbers (port_site d p ++ codes "tagged_vlans" ∷ []) p.tagged) v → MadeLeads t v
      of_one d p at (inl j) = of_option t (port_site d p ++ codes "native_vlan" ∷ []) p.native v (native_leads t d p at) j
      of_one d p at (inr j) = of_list t (port_site d p ++ codes "tagged_vlans" ∷ []) p.tagged v (tagged_leads t d p at) j

      of_peer : (r : RawRouter) → Reaches t (router_site r) (IsPart RouterSays r) → (o : Option RawBgp) → r.bgp ≡ o → IsIn (option_map_or (λ bgp. by_number (bgp_site r) bgp.vlan) o []) v → MadeLeads t v
      of_peer r at None is i = absurd i
      of_peer r at (Some bgp) is i =
          let item : List (List ℕ) × VlanRef = (bgp_site r, bgp.vlan) in
          made_leads t (bgp_site r) bgp.vlan v (peer_leads t r at item (subst (λ (o : Option RawBgp). IsIn (map (λ (bgp : RawBgp). (bgp_site r, bgp.vlan)) (to_list o)) item) (sym is) (inl refl))) i

      of_routed : (r : RawRouter) → Reaches t (router_site r) (IsPart RouterSays r) → IsIn (by_numbers (router_site r ++ codes "vlans" ∷ []) r.vlans) v ⊎ IsIn (option_map_or (λ bgp. by_number (bgp_site r) bgp.vlan) r.bgp []) v → MadeLeads t v
      of_routed r at (inl j) = of_list t (router_site r ++ codes "vlans" ∷ []) r.vlans v (routed_leads t r at) j
      of_routed r at (inr j) = of_peer r at r.bgp refl j

      by : IsIn (named_by_dps (dps_in_order raw)) v ⊎ IsIn (named_by_routers (routers_in_order raw)) v → MadeLeads t v
      by (inl j) =
          let m = of_flat (λ (d : RawDp). flat_map (of_port d) d.ports) (dps_in_order raw) v j in
          let n = of_flat (of_port m.0) m.0.ports v m.2 in
          of_one m.0 n.0 ((dp_leads t raw says m.0 m.1).port n.0 n.1) (of_joined (option_map_or (by_number (port_site m.0 n.0 ++ codes "native_vlan" ∷ [])) n.0.native []) (by_numbers (port_site m.0 n.0 ++ codes "tagged_vlans" ∷ []) n.0.tagged) v n.2)
      by (inr j) =
          let m = of_flat of_router (routers_in_order raw) v j in
          of_routed m.0 (router_leads t raw says m.0 m.1) (of_joined (by_numbers (router_site m.0 ++ codes "vlans" ∷ []) m.0.vlans) (option_map_or (λ bgp. by_number (bgp_site m.0) bgp.vlan) m.0.bgp []) v m.2)

  abbrev made_vlans : List PlacedVlan
  made_vlans = further (map (λ (v : RawVlan). v.vid) raw.vlans) (named (dps_in_order raw) (routers_in_order raw))

  pub written_or_made : (v : PlacedVlan) → IsIn (vlans_in_order raw) v → IsOne raw v ⊎ MadeLeads t v
  written_or_made v i = by (of_joined (map written raw.vlans) made_vlans v (of_order (λ (v w : PlacedVlan). nat_lt v.vlan.vid w.vlan.vid) (map written raw.vlans ++ made_vlans) v i))
    where
      by : IsIn (map written raw.vlans) v ⊎ IsIn made_vlans v → IsOne raw v ⊎ MadeLeads t v
      by (inl j) = let m = of_mapped written raw.vlans v j in inl (record { vlan = m.0; among = m.1; is = m.2 })
      by (inr j) = inr (named_leads v (of_further (map (λ (v : RawVlan). v.vid) raw.vlans) (named (dps_in_order raw) (routers_in_order raw)) v j))

  raw_vlan : (v : RawVlan) → IsIn raw.vlans v → Reaches t (vlan_site v) (IsPart VlanSays v)
  raw_vlan = in_map (λ p (v : RawVlan). IsMap (VlanSays p.key) p.value v) (λ v. v.names.key) (IsPart VlanSays) (λ p v r. r.2.names.key_is) (λ p v r. (p.key, r)) t [] (codes "vlans") raw.vlans (t, refl, (says.0, says.1, says.2.vlans))

  pub vlan_leads : (v : PlacedVlan) → IsIn (vlans_in_order raw) v → Reaches t v.site (IsVlan v.vlan)
  vlan_leads v i = by (written_or_made v i)
    where
      by : IsOne raw v ⊎ MadeLeads t v → Reaches t v.site (IsVlan v.vlan)
      by (inl one) = subst (λ (v : PlacedVlan). Reaches t v.site (IsVlan v.vlan)) one.is (there t (vlan_site one.vlan) (IsPart VlanSays one.vlan) (IsVlan one.vlan) (raw_vlan one.vlan one.among) (λ u h. inl h))
      by (inr made) = there t v.site (λ u. IsScalar (out-Tree u)) (IsVlan v.vlan) made.0 (λ u is. inr (is, made.1))
