-- The paths of rules 1 to 7: names that are given twice or stand for nothing.
use Rattle.std.specs.Prelude.{◌≡◌, ℕ, ◌==◌, true, is_none, List, [], ◌∷◌, codes}
use Rattle.std.specs.List.{flat_map}
use Rattle.std.proofs.Common.{inl, inr, sym, ap, ◌∙◌, subst, true≢false}
use Rattle.yaml_tree.specs.declared.tree.Pair.{Pair}
use Rattle.yaml_tree.specs.declared.tree.Tree.{Tree, out-Tree}
use Rattle.yaml_tree.specs.declared.tree.Tree.TheOpen.{Tree-F}
use Rattle.conf_types.specs.Configuration.{Configuration}
use Rattle.conf_types.specs.Lists.{is_same}
use Rattle.conf_shape.specs.declared.raw.RawPort.{RawPort}
use Rattle.conf_shape.specs.declared.raw.RawDp.{RawDp}
use Rattle.conf_shape.specs.declared.raw.RawVlan.{RawVlan}
use Rattle.conf_shape.specs.declared.raw.RawConf.{RawConf}
use Rattle.conf_shape.specs.declared.raw.VlanRef.{VlanRef}
use Rattle.conf_shape.specs.declared.refused.ConfFault.{ConfFault}
use Rattle.conf_shape.specs.declared.refused.ConfCause.TheVariants.{Duplicate, Unresolved, Conflict}
use Rattle.conf_resolve.specs.declared.ordered.OrderedConf.{OrderedConf}
use Rattle.conf_resolve.specs.declared.ordered.PlacedVlan.{PlacedVlan}
use Rattle.conf_resolve.specs.InOrder.{dp_site, port_site, ordered}
use Rattle.conf_resolve.specs.Resolved.{to_list, vid_of, resolved}
use Rattle.conf_rules.specs.Names.{vid_site, repeated_vlan, repeated_vlans, repeated_dp, repeated_dps, number_site, repeated_port, repeated_ports_of, repeated_ports, unknown_vlan, native_at, tagged_at, routed_at, peer_at, unknown_of_port, unknown_of_dp, unknown_of_router, unknown_vlans, named_again, is_same_vlan, twice_of_port, vlans_twice, unknown_at, unknown_acls_of_vlan, unknown_acls_of_port, unknown_acls_of_dp, unknown_acls, are_both, both_of_vlan, both_of_dp, acls_twice}
use Rattle.conf_rules.specs.Places.{fault_if, under, name_site, each_at, with_earlier, is_repeat}
use Rattle.law_checks.specs.Says.{Says, PortSays}
use Rattle.law_checks.specs.Values.{IsNumber}
use Rattle.law_checks.proofs.Kept.{of_earlier}
use Rattle.law_checks.proofs.Members.{IsIn}
use Rattle.law_documents.specs.Forms.{IsSection, IsOwn, NamesVlan, NamesNoVlan, NamesNoAcl}
use Rattle.law_documents.specs.Leads.{PathsLead}
use Rattle.law_documents.specs.Rules.{NamePathsLead}
use Rattle.law_documents.proofs.Leads.{Reaches, onward, there, needed, behind_earlier}
use Rattle.law_documents.proofs.Own.{section, number_scalar, no_vlan, HasOwn, own_leads, own_number, own_name, HasAcls, acls_lead}
use Rattle.law_documents.proofs.Parts.{IsPart, IsDp, dp_leads, router_leads}
use Rattle.law_documents.proofs.Told.{told_if, each, both}
use Rattle.law_documents.proofs.Vlans.{VlanAt, native_leads, tagged_leads, routed_leads, peer_leads, IsVlan, vlan_leads}

module _ (t : Tree) (raw : RawConf) (says : Says t raw) where
  abbrev o : OrderedConf
  o = ordered raw

  abbrev conf : Configuration
  conf = resolved o

  -- what holds of each interface where it is written
  each_port : (Form : Tree-F Tree Pair → Type 0) (f : RawDp → RawPort → List ConfFault) → ((d : RawDp) (p : RawPort) → Reaches t (port_site d p) (IsPart PortSays p) → PathsLead t Form (f d p)) → PathsLead t Form (flat_map (λ d. flat_map (f d) d.ports) o.dps)
  each_port Form f h = each t Form (λ d. flat_map (f d) d.ports) o.dps (λ d i. each t Form (f d) d.ports (λ p j. h d p ((dp_leads t raw says d i).port p j)))

  -- ---- rules 1 to 3

  own_vid : (v : RawVlan) (u : Tree) → IsVlan v u → HasOwn v.has_vid (codes "vid") u
  own_vid v u (inl part) = (inr (section (out-Tree u) part.1.0 part.1.1), λ is. own_number u part.1.0 (codes "vid") part.0 v.vid part.1.1 part.1.2.vid (sym part.1.2.has_vid ∙ is))
  own_vid v u (inr made) = (inl made.0, λ is. absurd (true≢false (sym is ∙ ap (λ (v : RawVlan). v.has_vid) made.1.1)))

  vlan_name : (v : RawVlan) (u : Tree) → IsVlan v u → HasOwn v.names.has_name (codes "name") u
  vlan_name v u (inl part) = own_name u part.1.0 part.0 v.names part.1.1 part.1.2.names
  vlan_name v u (inr made) = (inl made.0, λ is. absurd (true≢false (sym is ∙ ap (λ (v : RawVlan). v.names.has_name) made.1.1)))

  rule1 : PathsLead t IsOwn (repeated_vlans o)
  rule1 = each t IsOwn repeated_vlan (with_earlier [] o.vlans) (λ e i.
      let v : PlacedVlan = e.1 in
      let r = vlan_leads t raw says v (of_earlier [] o.vlans e i) in
      both t IsOwn
      (fault_if (is_repeat (λ (a b : PlacedVlan). a.vlan.vid == b.vlan.vid) e) Duplicate (vid_site v))
      (fault_if (is_repeat (λ (a b : PlacedVlan). is_same a.vlan.names.name b.vlan.names.name) e) Duplicate (name_site v.site v.vlan.names))
      (told_if t IsOwn (is_repeat (λ (a b : PlacedVlan). a.vlan.vid == b.vlan.vid) e) Duplicate (vid_site v) (λ is. own_leads t v.site v.vlan.has_vid (codes "vid") (there t v.site (IsVlan v.vlan) (HasOwn v.vlan.has_vid (codes "vid")) r (own_vid v.vlan))))
      (told_if t IsOwn (is_repeat (λ (a b : PlacedVlan). is_same a.vlan.names.name b.vlan.names.name) e) Duplicate (name_site v.site v.vlan.names) (λ is. own_leads t v.site v.vlan.names.has_name (codes "name") (there t v.site (IsVlan v.vlan) (HasOwn v.vlan.names.has_name (codes "name")) r (vlan_name v.vlan)))))

  rule2 : PathsLead t IsOwn (repeated_dps o)
  rule2 = each t IsOwn repeated_dp (with_earlier [] o.dps) (λ e i.
      let d : RawDp = e.1 in
      let r = (dp_leads t raw says d (of_earlier [] o.dps e i)).itself in
      both t IsOwn
      (fault_if (is_repeat (λ (a b : RawDp). a.id.0 == b.id.0) e) Duplicate (under (dp_site d) (codes "dp_id")))
      (fault_if (is_repeat (λ (a b : RawDp). is_same a.names.name b.names.name) e) Duplicate (name_site (dp_site d) d.names))
      (told_if t IsOwn (is_repeat (λ (a b : RawDp). a.id.0 == b.id.0) e) Duplicate (under (dp_site d) (codes "dp_id")) (λ is. onward t (dp_site d) (IsDp d) (codes "dp_id" ∷ []) (λ v. IsOwn (out-Tree v)) r (λ u h.
      there u (codes "dp_id" ∷ []) (λ v. IsNumber v d.id.0) (λ v. IsOwn (out-Tree v)) (needed u (codes "dp_id") (λ v. IsNumber v d.id.0) h.pairs h.has h.id) (λ v n. inl (number_scalar v d.id.0 n)))))
      (told_if t IsOwn (is_repeat (λ (a b : RawDp). is_same a.names.name b.names.name) e) Duplicate (name_site (dp_site d) d.names) (λ is. own_leads t (dp_site d) d.names.has_name (codes "name") (there t (dp_site d) (IsDp d) (HasOwn d.names.has_name (codes "name")) r (λ u h. own_name u h.pairs h.key d.names h.has h.names)))))

  own_port : (p : RawPort) (u : Tree) → IsPart PortSays p u → HasOwn p.has_number (codes "number") u
  own_port p u part = (inr (section (out-Tree u) part.1.0 part.1.1), λ is. own_number u part.1.0 (codes "number") part.0 p.no part.1.1 part.1.2.number (sym part.1.2.has_number ∙ is))

  rule3 : PathsLead t IsOwn (repeated_ports o)
  rule3 = each t IsOwn repeated_ports_of o.dps (λ d i. each t IsOwn (repeated_port d) (with_earlier [] d.ports) (λ e j.
      let p : RawPort = e.1 in
      let r = (dp_leads t raw says d i).port p (of_earlier [] d.ports e j) in
      both t IsOwn
      (fault_if (is_repeat (λ (a b : RawPort). a.no == b.no) e) Duplicate (number_site d p))
      (fault_if (is_repeat (λ (a b : RawPort). is_same a.names.name b.names.name) e) Duplicate (name_site (port_site d p) p.names))
      (told_if t IsOwn (is_repeat (λ (a b : RawPort). a.no == b.no) e) Duplicate (number_site d p) (λ is. own_leads t (port_site d p) p.has_number (codes "number") (there t (port_site d p) (IsPart PortSays p) (HasOwn p.has_number (codes "number")) r (own_port p))))
      (told_if t IsOwn (is_repeat (λ (a b : RawPort). is_same a.names.name b.names.name) e) Duplicate (name_site (port_site d p) p.names) (λ is. own_leads t (port_site d p) p.names.has_name (codes "name") (there t (port_site d p) (IsPart PortSays p) (HasOwn p.names.has_name (codes "name")) r (λ u h. own_name u h.1.0 h.0 p.names h.1.1 h.1.2.names))))))

  -- ---- rules 4 and 5

  unknown_leads : (items : List (List (List ℕ) × VlanRef)) → ((item : List (List ℕ) × VlanRef) → IsIn items item → Reaches t item.0 (λ u. VlanAt u item.1)) → PathsLead t (NamesNoVlan o) (flat_map (unknown_vlan o) items)
  unknown_leads items h = each t (NamesNoVlan o) (unknown_vlan o) items (λ item i. told_if t (NamesNoVlan o) (is_none (vid_of o.vlans item.1)) Unresolved item.0 (λ is.
      there t item.0 (λ u. VlanAt u item.1) (λ u. NamesNoVlan o (out-Tree u)) (h item i) (λ u names. no_vlan o (out-Tree u) item.1 is names)))

  rule4 : PathsLead t (NamesNoVlan o) (unknown_vlans o)
  rule4 =
      both t (NamesNoVlan o) (flat_map (unknown_of_dp o) o.dps) (flat_map (unknown_of_router o) o.routers)
      (each_port (NamesNoVlan o) (unknown_of_port o) (λ d p r. both t (NamesNoVlan o) (flat_map (unknown_vlan o) (native_at d p)) (flat_map (unknown_vlan o) (tagged_at d p)) (unknown_leads (native_at d p) (native_leads t d p r)) (unknown_leads (tagged_at d p) (tagged_leads t d p r))))
      (each t (NamesNoVlan o) (unknown_of_router o) o.routers (λ r i.
      let at = router_leads t raw says r i in
      both t (NamesNoVlan o) (flat_map (unknown_vlan o) (routed_at r)) (flat_map (unknown_vlan o) (peer_at r)) (unknown_leads (routed_at r) (routed_leads t r at)) (unknown_leads (peer_at r) (peer_leads t r at))))

  rule5 : PathsLead t NamesVlan (vlans_twice o)
  rule5 = each_port NamesVlan (twice_of_port o) (λ d p r. each t NamesVlan (named_again o) (each_at (under (port_site d p) (codes "tagged_vlans")) (with_earlier (to_list p.native) p.tagged)) (λ item i.
      told_if t NamesVlan (is_repeat (is_same_vlan o) item.1) Duplicate item.0 (λ is.
      there t item.0 (λ u. VlanAt u item.1.1) (λ u. NamesVlan (out-Tree u)) (tagged_leads t d p r (item.0, item.1.1) (behind_earlier (under (port_site d p) (codes "tagged_vlans")) (to_list p.native) p.tagged item i)) (λ u names. (item.1.1, names)))))

  -- ---- rules 6 and 7

  rule6 : PathsLead t (NamesNoAcl conf) (unknown_acls o conf)
  rule6 =
      both t (NamesNoAcl conf) (flat_map (unknown_acls_of_vlan conf) o.vlans) (flat_map (unknown_acls_of_dp conf) o.dps)
      (each t (NamesNoAcl conf) (unknown_acls_of_vlan conf) o.vlans (λ v i. of_vlan v (vlan_leads t raw says v i)))
      (each_port (NamesNoAcl conf) (unknown_acls_of_port conf) (λ d p r. acls_lead t conf (port_site d p) p.acls (there t (port_site d p) (IsPart PortSays p) (HasAcls p.acls) r (λ u h. (h.1.0, h.1.1, h.1.2.acls)))))
    where
      of_vlan : (v : PlacedVlan) → Reaches t v.site (IsVlan v.vlan) → PathsLead t (NamesNoAcl (resolved (ordered raw))) (unknown_acls_of_vlan (resolved (ordered raw)) v)
      of_vlan v r = by r.2
        where
          by : IsVlan v.vlan r.0 → PathsLead t (NamesNoAcl (resolved (ordered raw))) (unknown_acls_of_vlan (resolved (ordered raw)) v)
          by (inl part) = acls_lead t conf v.site v.vlan.acls (r.0, r.1, (part.1.0, part.1.1, part.1.2.acls))
          by (inr made) = subst (λ (w : RawVlan). PathsLead t (NamesNoAcl (resolved (ordered raw))) (unknown_at conf v.site w.acls)) (sym made.1.1) tt

  rule7 : PathsLead t IsSection (acls_twice o)
  rule7 =
      both t IsSection (flat_map both_of_vlan o.vlans) (flat_map both_of_dp o.dps)
      (each t IsSection both_of_vlan o.vlans (λ v i. told_if t IsSection (are_both v.vlan.acls) (Conflict 7) v.site (λ is.
      there t v.site (IsVlan v.vlan) (λ u. IsSection (out-Tree u)) (vlan_leads t raw says v i) (of_vlan v.vlan is))))
      (each_port IsSection (λ d p. fault_if (are_both p.acls) (Conflict 7) (port_site d p)) (λ d p r. told_if t IsSection (are_both p.acls) (Conflict 7) (port_site d p) (λ is.
      there t (port_site d p) (IsPart PortSays p) (λ u. IsSection (out-Tree u)) r (λ u h. section (out-Tree u) h.1.0 h.1.1))))
    where
      of_vlan : (v : RawVlan) → are_both v.acls ≡ true → (u : Tree) → IsVlan v u → IsSection (out-Tree u)
      of_vlan v is u (inl part) = section (out-Tree u) part.1.0 part.1.1
      of_vlan v is u (inr made) = absurd (true≢false (sym is ∙ ap (λ (v : RawVlan). are_both v.acls) made.1.1))

  pub names_lead : NamePathsLead t (ordered raw) (resolved (ordered raw))
  names_lead = record {
    repeated_vlans = rule1;
    repeated_dps = rule2;
    repeated_ports = rule3;
    unknown_vlans = rule4;
    vlans_twice = rule5;
    unknown_acls = rule6;
    acls_twice = rule7;
  }
