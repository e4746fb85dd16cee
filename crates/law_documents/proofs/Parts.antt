-- The datapaths, interfaces, ACLs and routers that are checked, each where it is written.
use Rattle.std.specs.Prelude.{◌≡◌, List, [], ◌∷◌, map, codes, nat_lt}
use Rattle.std.proofs.Common.{refl, subst}
use Rattle.yaml_tree.specs.declared.tree.Key.{Key}
use Rattle.yaml_tree.specs.declared.tree.Pair.{Pair}
use Rattle.yaml_tree.specs.declared.tree.Tree.{Tree, out-Tree}
use Rattle.conf_shape.specs.declared.raw.RawPort.{RawPort}
use Rattle.conf_shape.specs.declared.raw.RawDp.{RawDp}
use Rattle.conf_shape.specs.declared.raw.RawAcl.{RawAcl}
use Rattle.conf_shape.specs.declared.raw.RawRouter.{RawRouter}
use Rattle.conf_shape.specs.declared.raw.RawConf.{RawConf}
use Rattle.conf_resolve.specs.InOrder.{is_text_before, dp_site, port_site, router_site, ports_in_order, dps_in_order, acls_in_order, routers_in_order}
use Rattle.law_checks.specs.Says.{Says, NamesSay, DpSays, PortSays, AclSays, RouterSays, RuleItemSays}
use Rattle.law_checks.specs.Values.{IsNumber, IsList, HasEntries, IsMap, AreMaps, Needed}
use Rattle.law_checks.proofs.Members.{IsIn, of_mapped}
use Rattle.law_checks.proofs.Orders.{of_order}
use Rattle.law_documents.proofs.Leads.{Reaches, there, HasKey, as_given, in_map}

-- the tree has a part that is a map by its name or number
abbrev pub IsPart : {A : Type 0} → (Key → List Pair → A → Type 0) → A → Tree → Type 0
IsPart P x u = (k : Key) × IsMap (P k) u x

-- the same of a datapath, in whichever order its interfaces are
pub record IsDp (d : RawDp) (u : Tree) : Type 0 where
  pub key : Key
  pub pairs : List Pair
  pub has : HasEntries (out-Tree u) pairs
  pub names : NamesSay key pairs d.names
  pub id : Needed (codes "dp_id") pairs (λ v. IsNumber v d.id.0)

pub record DpLeads (t : Tree) (d : RawDp) : Type 0 where
  pub itself : Reaches t (dp_site d) (IsDp d)
  pub port : (p : RawPort) → IsIn d.ports p → Reaches t (port_site d p) (IsPart PortSays p)

module _ (t : Tree) (raw : RawConf) (says : Says t raw) where
  raw_dp : (d : RawDp) → IsIn raw.dps d → Reaches t (dp_site d) (IsPart DpSays d)
  raw_dp =
      in_map (λ p (d : RawDp). IsMap (DpSays p.key) p.value d) (λ d. d.names.key) (IsPart DpSays) (λ p d r. r.2.names.key_is) (λ p d r. (p.key, r)) t [] (codes "dps") raw.dps
      (t, refl, as_given t (codes "dps") (λ v. IsMap (AreMaps DpSays) v raw.dps) (raw.dps ≡ []) says.0 says.1 says.2.dps)

  raw_port : (d : RawDp) → IsIn raw.dps d → (p : RawPort) → IsIn d.ports p → Reaches t (port_site d p) (IsPart PortSays p)
  raw_port d i =
      in_map (λ p (x : RawPort). IsMap (PortSays p.key) p.value x) (λ p. p.names.key) (IsPart PortSays) (λ p x r. r.2.names.key_is) (λ p x r. (p.key, r)) t (dp_site d) (codes "interfaces") d.ports
      (there t (dp_site d) (IsPart DpSays d) (HasKey (codes "interfaces") (d.ports ≡ []) (λ v. IsMap (AreMaps PortSays) v d.ports)) (raw_dp d i) (λ u h.
      as_given u (codes "interfaces") (λ v. IsMap (AreMaps PortSays) v d.ports) (d.ports ≡ []) h.1.0 h.1.1 h.1.2.ports))

  pub dp_leads : (d : RawDp) → IsIn (dps_in_order raw) d → DpLeads t d
  dp_leads d i =
      let m = of_mapped ports_in_order raw.dps d (of_order (λ (d e : RawDp). is_text_before d.names.name e.names.name) (map ports_in_order raw.dps) d i) in
      subst (DpLeads t) m.2 (record {
        itself = there t (dp_site m.0) (IsPart DpSays m.0) (IsDp (ports_in_order m.0)) (raw_dp m.0 m.1) (λ u h. record { key = h.0; pairs = h.1.0; has = h.1.1; names = h.1.2.names; id = h.1.2.id });
        port = λ p j. raw_port m.0 m.1 p (of_order (λ (p q : RawPort). nat_lt p.no q.no) m.0.ports p j);
      })

  pub acl_leads : (a : RawAcl) → IsIn (acls_in_order raw) a → Reaches t (codes "acls" ∷ a.name ∷ []) (λ u. IsList (IsMap RuleItemSays) u a.rules)
  acl_leads a i =
      in_map AclSays (λ a. a.name) (λ a u. IsList (IsMap RuleItemSays) u a.rules) (λ p a r. r.name) (λ p a r. r.rules) t [] (codes "acls") raw.acls (t, refl, (says.0, says.1, says.2.acls))
      a (of_order (λ (a b : RawAcl). is_text_before a.name b.name) raw.acls a i)

  pub router_leads : (r : RawRouter) → IsIn (routers_in_order raw) r → Reaches t (router_site r) (IsPart RouterSays r)
  router_leads r i =
      in_map (λ p (r : RawRouter). IsMap (RouterSays p.key) p.value r) (λ r. r.name) (IsPart RouterSays) (λ p r s. s.2.name) (λ p r s. (p.key, s)) t [] (codes "routers") raw.routers (t, refl, (says.0, says.1, says.2.routers))
      r (of_order (λ (r s : RawRouter). is_text_before r.name s.name) raw.routers r i)
