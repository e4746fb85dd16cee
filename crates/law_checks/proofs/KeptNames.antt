-- No rule on names and numbers is broken where what they ask holds.
use Rattle.std.specs.Prelude.{◌≡◌, ℕ, ◌<◌, ◌==◌, false, List, [], ◌∷◌, ◌++◌, codes, Option, Some, None, IsTrue, is_some, is_none, option_and_then}
use Rattle.std.specs.List.{AllByRecursion, flat_map, filter_map}
use Rattle.std.specs.Option.{option_map_or}
use Rattle.std.specs.Ordering.{is_eq}
use Rattle.std.proofs.Common.{inl, inr, refl, sym, ap, ◌∙◌, subst, true≢false, arith}
use Rattle.std.proofs.lemmas.Bool.{ne_eqb}
use Rattle.std.proofs.lemmas.Grind.{flat_map-append}
use Rattle.conf_types.specs.declared.acl.Acl.{Acl}
use Rattle.conf_types.specs.declared.datapath.Dp.{Dp}
use Rattle.conf_types.specs.declared.datapath.Port.{Port}
use Rattle.conf_types.specs.declared.vlan.Vlan.{Vlan}
use Rattle.conf_types.specs.Attached.{acl_named}
use Rattle.conf_types.specs.Configuration.{Configuration}
use Rattle.conf_types.specs.Lists.{EachBefore, AreDistinct, IsTextBefore, is_same}
use Rattle.conf_types.specs.Valid.{IsValid, IsPort, IsDatapath, AclsExist, vlans_named}
use Rattle.conf_shape.specs.declared.raw.RawAclNames.{RawAclNames}
use Rattle.conf_shape.specs.declared.raw.VlanRef.{VlanRef}
use Rattle.conf_shape.specs.declared.raw.RawPort.{RawPort}
use Rattle.conf_shape.specs.declared.raw.RawDp.{RawDp}
use Rattle.conf_shape.specs.declared.refused.ConfCause.TheVariants.{Duplicate, Unresolved, Conflict}
use Rattle.conf_resolve.specs.declared.ordered.OrderedConf.{OrderedConf}
use Rattle.conf_resolve.specs.declared.ordered.PlacedVlan.{PlacedVlan}
use Rattle.conf_resolve.specs.InOrder.{port_site}
use Rattle.conf_resolve.specs.Resolved.{port_of, dp_of, vlan_of, acl_names, resolved, to_list, vid_of}
use Rattle.conf_rules.specs.Names.{repeated_vlans, repeated_dps, repeated_ports_of, repeated_ports, is_same_vlan, named_again, twice_of_port, twice_of_dp, vlans_twice, unknown_acl, unknown_at, unknown_acls_of_vlan, unknown_acls_of_port, unknown_acls_of_dp, unknown_acls, are_both, both_of_vlan, both_of_dp, acls_twice}
use Rattle.conf_rules.specs.Places.{fault_if, under, each_at, one_at, list_at, with_earlier, is_repeat}
use Rattle.law_checks.proofs.Acls.{acls_at}
use Rattle.law_checks.proofs.Apart.{no_vlan_twice, no_dp_twice, no_port_twice}
use Rattle.law_checks.proofs.Datapaths.{named_as_list}
use Rattle.law_checks.proofs.Empty.{none_left, none_right, none_at, passes, values_at, HasNoRepeat}
use Rattle.law_checks.proofs.Kept.{both_empty, all_empty, no_fault, is_value, repeats_none, before_unkept}
use Rattle.law_checks.proofs.Members.{IsIn, of_all, all_by, in_mapped, in_kept, before_by, before_parts}
use Rattle.law_checks.proofs.Orders.{not_same}

pub before_not_same : (a b : List ℕ) → IsTextBefore a b → is_same a b ≡ false
before_not_same a b is = ap is_eq is

-- the native VLAN's number is in front
pub native_number : (o : OrderedConf) (native : Option VlanRef) (a : VlanRef) (m : ℕ) → IsIn (to_list native) a → vid_of o.vlans a ≡ Some m → IsIn (to_list (option_and_then (vid_of o.vlans) native)) m
native_number o None a m i is = absurd i
native_number o (Some name) a m (inl e) is = subst (λ (r : Option ℕ). IsIn (to_list r) m) (sym (ap (vid_of o.vlans) e ∙ is)) (inl refl)
native_number o (Some name) a m (inr i) is = absurd i

-- no two numbers of the names are one
pub differ : (o : OrderedConf) (a b : VlanRef) → ((m n : ℕ) → vid_of o.vlans a ≡ Some m → vid_of o.vlans b ≡ Some n → m ≡ n → ⊥) → is_same_vlan o a b ≡ false
differ o a b h = by (vid_of o.vlans a) (vid_of o.vlans b) h
  where
    by : (p q : Option ℕ) → ((m n : ℕ) → p ≡ Some m → q ≡ Some n → m ≡ n → ⊥) → option_map_or (λ m. option_map_or (λ n. m == n) q false) p false ≡ false
    by None q h = refl
    by (Some m) None h = refl
    by (Some m) (Some n) h = ne_eqb m n (h m n refl refl)

pub known : (o : Option Acl) → IsTrue (is_some o) → is_none o ≡ false
known None is = absurd (true≢false (sym is))
known (Some acl) is = refl

no_more : {A : Type 0} (xs : List A) (x : A) → IsIn (xs ++ []) x → IsIn xs x
no_more [] x i = i
no_more (y ∷ xs) x (inl e) = inl e
no_more (y ∷ xs) x (inr i) = inr (no_more xs x i)

-- each name at a place counts, where there is one way to name them
pub acl_value : (site : List (List ℕ)) (acls : RawAclNames) → are_both acls ≡ false → (item : List (List ℕ) × List ℕ) → IsIn (acls_at site acls) item → IsIn (acl_names acls) item.1
acl_value site acls single item i = by acls.one acls.list single i
  where
    by : (one : Option (List ℕ)) (list : Option (List (List ℕ))) → are_both (record { one = one; list = list }) ≡ false → IsIn (acls_at site (record { one = one; list = list })) item → IsIn (acl_names (record { one = one; list = list })) item.1
    by None None is j = absurd j
    by None (Some names) is j = is_value (each_at (under site (codes "acls_in")) names) names (values_at (under site (codes "acls_in")) names) item (no_more (each_at (under site (codes "acls_in")) names) item j)
    by (Some name) None is (inl e) = inl (ap (λ (a : List (List ℕ) × List ℕ). a.1) e)
    by (Some name) None is (inr j) = absurd j
    by (Some name) (Some names) is j = absurd (true≢false is)

module _ (o : OrderedConf) where
  abbrev conf : Configuration
  conf = resolved o

  -- ---- VLANs that an interface names

  module _ (all : AllByRecursion (λ d. AllByRecursion (λ p. AreDistinct (vlans_named p)) d.ports) conf.dps) where
    tagged_once : (d : RawDp) → IsIn o.dps d → (p : RawPort) → IsIn d.ports p → HasNoRepeat (is_same_vlan o) (to_list p.native) p.tagged
    tagged_once d cd p cp =
        let once = of_all (λ (p : Port). AreDistinct (vlans_named p)) (dp_of o d).ports (of_all (λ (d : Dp). AllByRecursion (λ p. AreDistinct (vlans_named p)) d.ports) conf.dps all (dp_of o d) (in_mapped (dp_of o) o.dps d cd)) (port_of o d p) (in_mapped (port_of o d) d.ports p cp) in
        let parts = before_parts (λ (m n : ℕ). m ≡ n → ⊥) (to_list (option_and_then (vid_of o.vlans) p.native)) (filter_map (vid_of o.vlans) p.tagged) (subst AreDistinct (named_as_list (port_of o d p)) once) in
        record {
          among = before_by (λ (a b : VlanRef). (m n : ℕ) → vid_of o.vlans a ≡ Some m → vid_of o.vlans b ≡ Some n → m ≡ n → ⊥) (λ a b. is_same_vlan o a b ≡ false) p.tagged (before_unkept (λ (m n : ℕ). m ≡ n → ⊥) (vid_of o.vlans) p.tagged parts.1) (λ a b i j h. differ o a b h);
          across = λ a b i j. differ o a b (λ m n am bn. parts.2 m n (native_number o p.native a m i am) (in_kept (vid_of o.vlans) p.tagged b n j bn));
        }

    pub once_kept : vlans_twice o ≡ []
    once_kept = all_empty (twice_of_dp o) o.dps (λ d cd. all_empty (twice_of_port o d) d.ports (λ p cp.
        let items = with_earlier (to_list p.native) p.tagged in
        let site = under (port_site d p) (codes "tagged_vlans") in
        all_empty (named_again o) (each_at site items) (λ item i.
        no_fault (is_repeat (is_same_vlan o) item.1) Duplicate item.0 (of_all (λ item. is_repeat (is_same_vlan o) item ≡ false) items (repeats_none (is_same_vlan o) (to_list p.native) p.tagged (tagged_once d cd p cp)) item.1 (is_value (each_at site items) items (values_at site items) item i)))))

  -- ---- ACLs that are named

  acls_known : (site : List (List ℕ)) (acls : RawAclNames) → are_both acls ≡ false → AclsExist conf (acl_names acls) → unknown_at conf site acls ≡ []
  acls_known site acls single exist = sym (flat_map-append (unknown_acl conf) (one_at site acls) (list_at site acls)) ∙ all_empty (unknown_acl conf) (acls_at site acls) (λ item i.
      no_fault (is_none (acl_named conf.acls item.1)) Unresolved item.0 (known (acl_named conf.acls item.1) (of_all (λ name. IsTrue (is_some (acl_named conf.acls name))) (acl_names acls) exist item.1 (acl_value site acls single item i))))

  pub acls_kept : acls_twice o ≡ [] → AllByRecursion (λ v. AclsExist conf v.acls) conf.vlans → AllByRecursion (λ d. AllByRecursion (λ p. AclsExist conf p.acls) d.ports) conf.dps → unknown_acls o conf ≡ []
  acls_kept none of_vlans of_ports =
      let one_of_vlan = none_at both_of_vlan o.vlans (none_left (flat_map both_of_vlan o.vlans) (flat_map both_of_dp o.dps) none) in
      let one_of_dp = none_at both_of_dp o.dps (none_right (flat_map both_of_vlan o.vlans) (flat_map both_of_dp o.dps) none) in
      both_empty (flat_map (unknown_acls_of_vlan conf) o.vlans) (flat_map (unknown_acls_of_dp conf) o.dps)
      (all_empty (unknown_acls_of_vlan conf) o.vlans (λ v i. acls_known v.site v.vlan.acls (passes (are_both v.vlan.acls) (Conflict 7) v.site (one_of_vlan v i)) (of_all (λ (v : Vlan). AclsExist conf v.acls) conf.vlans of_vlans (vlan_of v.vlan) (in_mapped (λ (v : PlacedVlan). vlan_of v.vlan) o.vlans v i))))
      (all_empty (unknown_acls_of_dp conf) o.dps (λ d i. all_empty (unknown_acls_of_port conf d) d.ports (λ p j.
      acls_known (port_site d p) p.acls (passes (are_both p.acls) (Conflict 7) (port_site d p) (none_at (λ (p : RawPort). fault_if (are_both p.acls) (Conflict 7) (port_site d p)) d.ports (one_of_dp d i) p j))
      (of_all (λ (p : Port). AclsExist conf p.acls) (dp_of o d).ports (of_all (λ (d : Dp). AllByRecursion (λ p. AclsExist conf p.acls) d.ports) conf.dps of_ports (dp_of o d) (in_mapped (dp_of o) o.dps d i)) (port_of o d p) (in_mapped (port_of o d) d.ports p j)))))

  -- ---- VLANs, datapaths and interfaces of a valid configuration

  module _ (valid : IsValid conf) where
    pub vlans_kept : repeated_vlans o ≡ []
    vlans_kept = no_vlan_twice o (before_by (λ (v w : Vlan). v.vid < w.vid) (λ v w. v.vid ≡ w.vid → ⊥) conf.vlans valid.vlans.in_order (λ v w i j lt same. omega arith)) valid.vlans.names

    pub dps_kept : repeated_dps o ≡ []
    dps_kept = no_dp_twice o valid.datapaths.ids (before_by (λ (d e : Dp). IsTextBefore d.name e.name) (λ d e. d.name ≡ e.name → ⊥) conf.dps valid.datapaths.in_order (λ d e i j is. not_same d.name e.name (before_not_same d.name e.name is)))

    pub numbers_differ : AllByRecursion (λ d. EachBefore (λ p q. p.no ≡ q.no → ⊥) d.ports) conf.dps
    numbers_differ = all_by (λ (d : Dp). EachBefore (λ (p q : Port). p.no ≡ q.no → ⊥) d.ports) conf.dps (λ d i.
        before_by (λ (p q : Port). p.no < q.no) (λ p q. p.no ≡ q.no → ⊥) d.ports (of_all (IsDatapath conf) conf.dps valid.datapaths.each d i).in_order (λ p q j k lt same. omega arith))

    pub ports_kept : repeated_ports o ≡ []
    ports_kept = all_empty repeated_ports_of o.dps (λ d cd.
        let i = in_mapped (dp_of o) o.dps d cd in
        no_port_twice o d (of_all (λ (d : Dp). EachBefore (λ p q. p.no ≡ q.no → ⊥) d.ports) conf.dps numbers_differ (dp_of o d) i) (of_all (IsDatapath conf) conf.dps valid.datapaths.each (dp_of o d) i).port_names)

    pub named_once : AllByRecursion (λ d. AllByRecursion (λ p. AreDistinct (vlans_named p)) d.ports) conf.dps
    named_once = all_by (λ (d : Dp). AllByRecursion (λ p. AreDistinct (vlans_named p)) d.ports) conf.dps (λ d i.
        all_by (λ (p : Port). AreDistinct (vlans_named p)) d.ports (λ p j. (of_all (IsPort conf) d.ports (of_all (IsDatapath conf) conf.dps valid.datapaths.each d i).ports p j).once))
