-- Two raw configurations with the same parts in another order are one in order, where no two parts tie.
use Rattle.std.proofs.Common.{◌≡◌, ℕ, ◌<◌, Bool, true, List, [], ◌∷◌, ◌++◌, refl, ap, ◌∙◌}
use Rattle.std.specs.Prelude.{◌==◌, ◌||◌, map, nat_lt, if◌then◌else◌}
use Rattle.std.specs.List.{AllByRecursion}
use Rattle.std.specs.Ordering.{is_lt}
use Rattle.std.proofs.lemmas.Bool.{lt-ltb}
use Rattle.conf_types.specs.declared.acl.Acl.{Acl}
use Rattle.conf_types.specs.declared.datapath.Dp.{Dp}
use Rattle.conf_types.specs.declared.datapath.Port.{Port}
use Rattle.conf_types.specs.declared.vlan.Router.{Router}
use Rattle.conf_types.specs.declared.vlan.Vlan.{Vlan}
use Rattle.conf_types.specs.Lists.{EachBefore, IsTextBefore, is_among}
use Rattle.conf_types.specs.Valid.{IsValid, IsDatapath}
use Rattle.conf_shape.specs.declared.raw.RawAcl.{RawAcl}
use Rattle.conf_shape.specs.declared.raw.RawConf.{RawConf}
use Rattle.conf_shape.specs.declared.raw.RawDp.{RawDp}
use Rattle.conf_shape.specs.declared.raw.RawPort.{RawPort}
use Rattle.conf_shape.specs.declared.raw.RawRouter.{RawRouter}
use Rattle.conf_shape.specs.declared.raw.RawVlan.{RawVlan}
use Rattle.conf_resolve.specs.declared.ordered.PlacedVlan.{PlacedVlan}
use Rattle.conf_resolve.specs.InOrder.{in_order, is_text_before, ports_in_order, dps_in_order, acls_in_order, routers_in_order, named, further, written, vlans_by, vlans_in_order, ordered}
use Rattle.conf_resolve.specs.Resolved.{port_of, dp_of, vlan_of, acl_of, router_of, resolved}
use Rattle.law_checks.proofs.Orders.{number_order, text_order}
use Rattle.law_documents.proofs.Interfaces.{IsSameDp}
use Rattle.law_documents.proofs.Raw.{IsSameRaw}
use Rattle.law_documents.proofs.Reordered.{all_so, each_so, all_mapped_back, each_mapped_back, any_of, holding, mapped, joined}
use Rattle.law_documents.proofs.Sorting.{rising_same, all_ordered}

-- ---- no two parts tie: datapaths, ACLs and routers by their names, interfaces and VLANs by their numbers

pub record Rises (raw : RawConf) : Type 0 where
  pub dps : EachBefore (λ d e. is_text_before d.names.name e.names.name ≡ true) (dps_in_order raw)
  pub ports : AllByRecursion (λ d. EachBefore (λ p q. nat_lt p.no q.no ≡ true) d.ports) (dps_in_order raw)
  pub vlans : EachBefore (λ v w. nat_lt v.vlan.vid w.vlan.vid ≡ true) (vlans_in_order raw)
  pub acls : EachBefore (λ a b. is_text_before a.name b.name ≡ true) (acls_in_order raw)
  pub routers : EachBefore (λ r s. is_text_before r.name s.name ≡ true) (routers_in_order raw)

-- those of a valid configuration don't
pub valid_rises : (raw : RawConf) → IsValid (resolved (ordered raw)) → Rises raw
valid_rises raw valid = record {
  dps = each_so (λ d e. IsTextBefore d.names.name e.names.name) (λ d e. is_text_before d.names.name e.names.name ≡ true) (λ d e is. ap is_lt is) (dps_in_order raw) (each_mapped_back (λ (d e : Dp). IsTextBefore d.name e.name) (dp_of (ordered raw)) (dps_in_order raw) valid.datapaths.in_order);
  ports = all_so (λ d. IsDatapath (resolved (ordered raw)) (dp_of (ordered raw) d)) (λ d. EachBefore (λ (p q : RawPort). nat_lt p.no q.no ≡ true) d.ports)
      (λ d is. each_so (λ (p q : RawPort). p.no < q.no) (λ p q. nat_lt p.no q.no ≡ true) (λ p q lt. lt-ltb p.no q.no lt) d.ports (each_mapped_back (λ (p q : Port). p.no < q.no) (port_of (ordered raw) d) d.ports is.in_order))
      (dps_in_order raw) (all_mapped_back (IsDatapath (resolved (ordered raw))) (dp_of (ordered raw)) (dps_in_order raw) valid.datapaths.each);
  vlans = each_so (λ (v w : PlacedVlan). v.vlan.vid < w.vlan.vid) (λ v w. nat_lt v.vlan.vid w.vlan.vid ≡ true) (λ v w lt. lt-ltb v.vlan.vid w.vlan.vid lt) (vlans_in_order raw) (each_mapped_back (λ (v w : Vlan). v.vid < w.vid) (λ (v : PlacedVlan). vlan_of v.vlan) (vlans_in_order raw) valid.vlans.in_order);
  acls = each_so (λ (a b : RawAcl). IsTextBefore a.name b.name) (λ a b. is_text_before a.name b.name ≡ true) (λ a b is. ap is_lt is) (acls_in_order raw) (each_mapped_back (λ (a b : Acl). IsTextBefore a.name b.name) acl_of (acls_in_order raw) valid.acls.in_order);
  routers = each_so (λ (r s : RawRouter). IsTextBefore r.name s.name) (λ r s. is_text_before r.name s.name ≡ true) (λ r s is. ap is_lt is) (routers_in_order raw) (each_mapped_back (λ (r s : Router). IsTextBefore r.name s.name) (router_of (ordered raw)) (routers_in_order raw) valid.routing.in_order);
}

-- ---- VLANs that numbers name

either : {A : Type 0} (a b : Bool) (x y z w : A) → a ≡ b → x ≡ z → y ≡ w → (if a then x else y) ≡ (if b then z else w)
either a b x y z w is one other i = if is i then one i else other i

further_same : (ns ms : List ℕ) → ((n : ℕ) → is_among ns n ≡ is_among ms n) → (vs : List PlacedVlan) → further ns vs ≡ further ms vs
further_same ns ms same [] = refl
further_same ns ms same (v ∷ vs) =
    either (is_among ns v.vlan.vid) (is_among ms v.vlan.vid) (further ns vs) (v ∷ further (v.vlan.vid ∷ ns) vs) (further ms vs) (v ∷ further (v.vlan.vid ∷ ms) vs)
    (same v.vlan.vid) (further_same ns ms same vs) (ap (λ l. v ∷ l) (further_same (v.vlan.vid ∷ ns) (v.vlan.vid ∷ ms) (λ n. ap (λ b. (v.vlan.vid == n) || b) (same n)) vs))

-- ---- the parts in order

module _ (a b : RawConf) (same : IsSameRaw a b) (rises : Rises a) where
  ports_same : (d e : RawDp) → EachBefore (λ (p q : RawPort). nat_lt p.no q.no ≡ true) (ports_in_order d).ports → IsSameDp d e → ports_in_order d ≡ ports_in_order e
  ports_same d e apart is =
      let rest = is.rest in
      let ports = rising_same (λ (p q : RawPort). nat_lt p.no q.no) (number_order (λ (p : RawPort). p.no)) d.ports e.ports is.ports apart in
      λ i. record {
        names = (rest i).names;
        id = (rest i).id;
        hardware = (rest i).hardware;
        timeout = (rest i).timeout;
        arp_timeout = (rest i).arp_timeout;
        stack_priority = (rest i).stack_priority;
        lldp = (rest i).lldp;
        drops = (rest i).drops;
        ports = ports i;
      }

  dps_same : dps_in_order a ≡ dps_in_order b
  dps_same =
      let all = all_ordered (λ d e. is_text_before d.names.name e.names.name) (λ d. EachBefore (λ (p q : RawPort). nat_lt p.no q.no ≡ true) d.ports) (map ports_in_order a.dps) rises.ports in
      rising_same (λ d e. is_text_before d.names.name e.names.name) (text_order (λ (d : RawDp). d.names.name)) (map ports_in_order a.dps) (map ports_in_order b.dps)
      (mapped (λ d e. EachBefore (λ (p q : RawPort). nat_lt p.no q.no ≡ true) (ports_in_order d).ports × IsSameDp d e) (λ d e. d ≡ e) ports_in_order ports_in_order (λ d e r. ports_same d e r.0 r.1) a.dps b.dps
      (holding IsSameDp (λ d. EachBefore (λ (p q : RawPort). nat_lt p.no q.no ≡ true) (ports_in_order d).ports) a.dps b.dps same.dps (all_mapped_back (λ d. EachBefore (λ (p q : RawPort). nat_lt p.no q.no ≡ true) d.ports) ports_in_order a.dps all)))
      rises.dps

  routers_same : routers_in_order a ≡ routers_in_order b
  routers_same = rising_same (λ r s. is_text_before r.name s.name) (text_order (λ (r : RawRouter). r.name)) a.routers b.routers same.routers rises.routers

  -- the VLANs that numbers name are the same of both
  new_same : (vs : List PlacedVlan) → further (map (λ v. v.vid) a.vlans) vs ≡ further (map (λ v. v.vid) b.vlans) vs
  new_same vs =
      further_same (map (λ v. v.vid) a.vlans) (map (λ v. v.vid) b.vlans)
      (λ n. any_of (λ (x y : ℕ). x ≡ y) (λ x. x == n) (λ x. x == n) (λ x y e. ap (λ z. z == n) e) (map (λ v. v.vid) a.vlans) (map (λ v. v.vid) b.vlans)
      (mapped (λ (v w : RawVlan). v ≡ w) (λ (x y : ℕ). x ≡ y) (λ v. v.vid) (λ v. v.vid) (λ v w e. ap (λ (v : RawVlan). v.vid) e) a.vlans b.vlans same.vlans)) vs

  vlans_same : vlans_in_order a ≡ vlans_in_order b
  vlans_same =
      let new : List PlacedVlan = further (map (λ v. v.vid) a.vlans) (named (dps_in_order a) (routers_in_order a)) in
      rising_same (λ v w. nat_lt v.vlan.vid w.vlan.vid) (number_order (λ (v : PlacedVlan). v.vlan.vid)) (map written a.vlans ++ new) (map written b.vlans ++ new)
      (joined (map written a.vlans) (map written b.vlans) new (mapped (λ (v w : RawVlan). v ≡ w) (λ (v w : PlacedVlan). v ≡ w) written written (λ v w e. ap written e) a.vlans b.vlans same.vlans)) rises.vlans
      ∙ ap (λ new. in_order (λ v w. nat_lt v.vlan.vid w.vlan.vid) (map written b.vlans ++ new)) (new_same (named (dps_in_order a) (routers_in_order a)))
      ∙ ap (λ dps. vlans_by b.vlans dps (routers_in_order a)) dps_same
      ∙ ap (λ routers. vlans_by b.vlans (dps_in_order b) routers) routers_same

  pub ordered_equal : ordered a ≡ ordered b
  ordered_equal =
      let dps = dps_same in
      let vlans = vlans_same in
      let acls = rising_same (λ x y. is_text_before x.name y.name) (text_order (λ (x : RawAcl). x.name)) a.acls b.acls same.acls rises.acls in
      let routers = routers_same in
      λ i. record { dps = dps i; vlans = vlans i; acls = acls i; routers = routers i }
