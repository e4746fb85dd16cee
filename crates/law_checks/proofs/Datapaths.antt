-- The datapaths and interfaces of a configuration that breaks no rule are valid.
use Rattle.std.specs.Prelude.{◌≡◌, ℕ, ◌<◌, ◌==◌, false, List, [], ◌∷◌, ◌++◌, map, codes, Option, Some, None, IfSome, IsTrue, is_some, nat_lt, option_and_then}
use Rattle.std.specs.List.{AllByRecursion, filter_map, find}
use Rattle.std.specs.Option.{option_map, option_map_or}
use Rattle.std.proofs.Common.{◌⊎◌, inl, inr, refl, sym, ap, ◌∙◌, subst, eq-eqb}
use Rattle.std.proofs.lemmas.Bool.{eqb-false}
use Rattle.std.proofs.lemmas.Option.{same_Some, none-some}
use Rattle.conf_types.specs.declared.datapath.Dp.{Dp}
use Rattle.conf_types.specs.declared.datapath.Port.{Port}
use Rattle.conf_types.specs.declared.vlan.Vlan.{Vlan}
use Rattle.conf_types.specs.Configuration.{Configuration, vlan_with}
use Rattle.conf_types.specs.Lists.{EachBefore, AreDistinct, IsTextBefore, is_same}
use Rattle.conf_types.specs.Valid.{IsPort, IsDatapath, DatapathsAreValid, vlans_named}
use Rattle.conf_shape.specs.declared.raw.VlanRef.{VlanRef}
use Rattle.conf_shape.specs.declared.raw.VlanRef.TheVariants.{Vid, Name}
use Rattle.conf_shape.specs.declared.raw.RawPort.{RawPort}
use Rattle.conf_shape.specs.declared.raw.RawDp.{RawDp}
use Rattle.conf_shape.specs.declared.raw.RawConf.{RawConf}
use Rattle.conf_resolve.specs.declared.ordered.OrderedConf.{OrderedConf}
use Rattle.conf_resolve.specs.declared.ordered.PlacedVlan.{PlacedVlan}
use Rattle.conf_resolve.specs.InOrder.{ports_in_order, dps_in_order, vlans_in_order, port_site, ordered, is_text_before}
use Rattle.conf_resolve.specs.InRange.{IsInRange, NamesVlan, PortIsInRange}
use Rattle.conf_resolve.specs.Resolved.{port_of, dp_of, vlan_of, resolved, to_list, vid_of}
use Rattle.conf_rules.specs.Names.{repeated_ports_of, is_same_vlan, named_again, twice_of_port, twice_of_dp, vlans_twice}
use Rattle.conf_rules.specs.Places.{under, is_repeat, with_earlier, each_at}
use Rattle.law_checks.proofs.Apart.{ids_differ, dp_names_differ, port_numbers_differ, port_names_differ}
use Rattle.law_checks.proofs.Empty.{none_at, none_of_values, values_at, passes, no_repeats, HasNoRepeat}
use Rattle.law_checks.proofs.Kept.{before_unmapped}
use Rattle.law_checks.proofs.Members.{IsIn, of_all, all_by, all_mapped, of_joined, in_front, behind, of_mapped, in_mapped, of_kept, finds, found, before_mapped, before_both, before_kept, before_by, before_joined}
use Rattle.law_checks.proofs.Orders.{of_order, sorted, number_order, text_order, rises_apart, text_rises, other_texts}
use Rattle.law_checks.proofs.Unbroken.{BreaksNone}
use Rattle.law_checks.proofs.Vlans.{dp_in_range, HasVlan, number_of_port}

-- ---- the VLANs that an interface names

-- the native one before the tagged ones
pub named_as_list : (p : Port) → vlans_named p ≡ to_list p.native ++ p.tagged
named_as_list p = by p.native
  where
    by : (o : Option ℕ) → option_map_or (λ vid. vid ∷ p.tagged) o p.tagged ≡ to_list o ++ p.tagged
    by None = refl
    by (Some vid) = refl

-- what one names is the number of some name of it
pub of_option : {A B : Type 0} (f : A → Option B) (o : Option A) (y : B) → IsIn (to_list (option_and_then f o)) y → (x : A) × IsIn (to_list o) x × (f x ≡ Some y)
of_option f None y i = absurd i
of_option {A = A} {B = B} f (Some x) y i = by (f x) refl i
  where
    by : (r : Option B) → f x ≡ r → IsIn (to_list r) y → (z : A) × IsIn (to_list (Some x)) z × (f z ≡ Some y)
    by None is j = absurd j
    by (Some w) is (inl e) = (x, inl refl, is ∙ ap Some e)
    by (Some w) is (inr j) = absurd j

pub of_named : (o : OrderedConf) (d : RawDp) (p : RawPort) (vid : ℕ) → IsIn (vlans_named (port_of o d p)) vid → (name : VlanRef) × IsIn (to_list p.native ++ p.tagged) name × (vid_of o.vlans name ≡ Some vid)
of_named o d p vid i = by (of_joined (to_list (option_and_then (vid_of o.vlans) p.native)) (filter_map (vid_of o.vlans) p.tagged) vid (subst (λ (l : List ℕ). IsIn l vid) (named_as_list (port_of o d p)) i))
  where
    by : IsIn (to_list (option_and_then (vid_of o.vlans) p.native)) vid ⊎ IsIn (filter_map (vid_of o.vlans) p.tagged) vid → (name : VlanRef) × IsIn (to_list p.native ++ p.tagged) name × (vid_of o.vlans name ≡ Some vid)
    by (inl j) = let m = of_option (vid_of o.vlans) p.native vid j in (m.0, in_front (to_list p.native) p.tagged m.0 m.1, m.2)
    by (inr j) = let m = of_kept (vid_of o.vlans) p.tagged vid j in (m.0, behind (to_list p.native) p.tagged m.0 m.1, m.2)

-- a VLAN that is found by its name has its number
pub by_name : (vlans : List PlacedVlan) (name : List ℕ) (vid : ℕ) → vid_of vlans (Name name) ≡ Some vid → (w : PlacedVlan) × IsIn vlans w × (w.vlan.vid ≡ vid)
by_name vlans name vid is = by (find (λ v. is_same v.vlan.names.name name) vlans) refl is
  where
    by : (r : Option PlacedVlan) → find (λ v. is_same v.vlan.names.name name) vlans ≡ r → option_map (λ v. v.vlan.vid) r ≡ Some vid → (w : PlacedVlan) × IsIn vlans w × (w.vlan.vid ≡ vid)
    by None here e = absurd (none-some vid e)
    by (Some w) here e = (w, (found (λ (v : PlacedVlan). is_same v.vlan.names.name name) vlans w here).0, same_Some w.vlan.vid vid e)

-- two numbers of names that don't name one VLAN
pub apart_numbers : (o : OrderedConf) (a b : VlanRef) (m n : ℕ) → is_same_vlan o a b ≡ false → vid_of o.vlans a ≡ Some m → vid_of o.vlans b ≡ Some n → m ≡ n → ⊥
apart_numbers o a b m n not am bn =
    eqb-false m n (sym (ap (λ (r : Option ℕ). option_map_or (λ x. option_map_or (λ y. x == y) (vid_of o.vlans b) false) r false) am ∙ ap (λ (r : Option ℕ). option_map_or (λ y. m == y) r false) bn) ∙ not)

-- ---- VLANs that an interface names are named once

module _ (o : OrderedConf) where
  module _ (none : vlans_twice o ≡ []) where
    tagged_once : (d : RawDp) → IsIn o.dps d → (p : RawPort) → IsIn d.ports p → HasNoRepeat (is_same_vlan o) (to_list p.native) p.tagged
    tagged_once d cd p cp =
        let of_dp = none_at (twice_of_dp o) o.dps none d cd in
        let of_port = none_at (twice_of_port o d) d.ports of_dp p cp in
        let site = under (port_site d p) (codes "tagged_vlans") in
        let items = with_earlier (to_list p.native) p.tagged in
        no_repeats (is_same_vlan o) (to_list p.native) p.tagged (all_by (λ item. is_repeat (is_same_vlan o) item ≡ false) items (λ item i.
        let m = none_of_values (named_again o) (each_at site items) items (values_at site items) of_port item i in passes _ _ _ m.1))

    port_once : (d : RawDp) → IsIn o.dps d → (p : RawPort) → IsIn d.ports p → AreDistinct (vlans_named (port_of o d p))
    port_once d cd p cp =
        let apart = tagged_once d cd p cp in
        subst AreDistinct (sym (named_as_list (port_of o d p))) (before_joined (λ (m n : ℕ). m ≡ n → ⊥) (to_list (option_and_then (vid_of o.vlans) p.native)) (filter_map (vid_of o.vlans) p.tagged)
        (lone (option_and_then (vid_of o.vlans) p.native))
        (before_kept (λ (m n : ℕ). m ≡ n → ⊥) (vid_of o.vlans) p.tagged (before_by (λ (a b : VlanRef). is_same_vlan o a b ≡ false) (λ a b. (m n : ℕ) → vid_of o.vlans a ≡ Some m → vid_of o.vlans b ≡ Some n → m ≡ n → ⊥) p.tagged apart.among (λ a b ia ib not m n am bn. apart_numbers o a b m n not am bn)))
        (all_by (λ m. AllByRecursion (λ n. m ≡ n → ⊥) (filter_map (vid_of o.vlans) p.tagged)) (to_list (option_and_then (vid_of o.vlans) p.native)) (λ m i. all_by (λ n. m ≡ n → ⊥) (filter_map (vid_of o.vlans) p.tagged) (λ n j.
        let a = of_option (vid_of o.vlans) p.native m i in
        let b = of_kept (vid_of o.vlans) p.tagged n j in
        apart_numbers o a.0 b.0 m n (apart.across a.0 b.0 a.1 b.1) a.2 b.2))))
      where
        lone : (o : Option ℕ) → AreDistinct (to_list o)
        lone None = tt
        lone (Some vid) = (tt, tt)

    pub each_once : AllByRecursion (λ d. AllByRecursion (λ p. AreDistinct (vlans_named p)) d.ports) (resolved o).dps
    each_once = all_mapped (λ (d : Dp). AllByRecursion (λ p. AreDistinct (vlans_named p)) d.ports) (dp_of o) o.dps (all_by (λ d. AllByRecursion (λ p. AreDistinct (vlans_named p)) (dp_of o d).ports) o.dps (λ d cd.
        all_mapped (λ (p : Port). AreDistinct (vlans_named p)) (port_of o d) d.ports (all_by (λ p. AreDistinct (vlans_named (port_of o d p))) d.ports (λ p cp. port_once d cd p cp))))

-- ---- of a raw configuration in range

module _ (raw : RawConf) (range : IsInRange raw) where
  abbrev conf : Configuration
  conf = resolved (ordered raw)

  -- a VLAN of the configuration has the number
  pub is_there : (vid : ℕ) → HasVlan raw range vid → IsTrue (is_some (vlan_with conf.vlans vid))
  is_there vid w =
      let f = finds (λ (v : Vlan). v.vid == vid) conf.vlans (vlan_of w.0.vlan) (in_mapped (λ (v : PlacedVlan). vlan_of v.vlan) (vlans_in_order raw) w.0 w.1) (eq-eqb w.0.vlan.vid vid w.2) in
      subst (λ (o : Option Vlan). IsTrue (is_some o)) (sym f.1) refl

  named_there : (d : RawDp) → IsIn (dps_in_order raw) d → (p : RawPort) → IsIn d.ports p → (name : VlanRef) → NamesVlan name → IsIn (to_list p.native ++ p.tagged) name → (vid : ℕ) → vid_of (vlans_in_order raw) name ≡ Some vid → HasVlan raw range vid
  named_there d cd p cp (Vid number) is i vid e = subst (HasVlan raw range) (same_Some number vid e) (number_of_port raw range d cd p cp number is i)
  named_there d cd p cp (Name name) is i vid e = by_name (vlans_in_order raw) name vid e

  names_in_range : (p : RawPort) → PortIsInRange p → (name : VlanRef) → IsIn (to_list p.native ++ p.tagged) name → NamesVlan name
  names_in_range p r name i = by (of_joined (to_list p.native) p.tagged name i)
    where
      of_native : (o : Option VlanRef) → IfSome o NamesVlan → IsIn (to_list o) name → NamesVlan name
      of_native None is j = absurd j
      of_native (Some m) is (inl e) = subst NamesVlan e is
      of_native (Some m) is (inr j) = absurd j

      by : IsIn (to_list p.native) name ⊎ IsIn p.tagged name → NamesVlan name
      by (inl j) = of_native p.native r.native j
      by (inr j) = of_all NamesVlan p.tagged r.tagged name j

  port_vlans : (d : RawDp) → IsIn (dps_in_order raw) d → (p : RawPort) → IsIn d.ports p → AllByRecursion (λ vid. IsTrue (is_some (vlan_with conf.vlans vid))) (vlans_named (port_of (ordered raw) d p))
  port_vlans d cd p cp = all_by (λ vid. IsTrue (is_some (vlan_with conf.vlans vid))) (vlans_named (port_of (ordered raw) d p)) (λ vid i.
      let m = of_named (ordered raw) d p vid i in
      let r = of_all PortIsInRange d.ports (dp_in_range raw range d cd).ports p cp in
      is_there vid (named_there d cd p cp m.0 (names_in_range p r m.0 m.1) m.1 vid m.2))

  module _ (whole : BreaksNone (ordered raw) conf) where
    port_valid : (d : RawDp) → IsIn (dps_in_order raw) d → (p : RawPort) → IsIn d.ports p → IsPort conf (port_of (ordered raw) d p)
    port_valid d cd p cp = let r = of_all PortIsInRange d.ports (dp_in_range raw range d cd).ports p cp in record {
      number = r.number;
      name = r.names.name;
      description = r.names.description;
      hosts = r.hosts;
      most_hosts = r.most_hosts;
      vlans = port_vlans d cd p cp;
      once = port_once (ordered raw) whole.named_once d cd p cp;
    }

    -- ---- in order, no two alike

    of_raw_dp : (d : RawDp) → IsIn (dps_in_order raw) d → (e : RawDp) × (ports_in_order e ≡ d)
    of_raw_dp d cd = let m = of_mapped ports_in_order raw.dps d (of_order _ (map ports_in_order raw.dps) d cd) in (m.0, m.2)

    ports_sorted : (d : RawDp) → IsIn (dps_in_order raw) d → EachBefore (λ (p q : RawPort). nat_lt q.no p.no ≡ false) d.ports
    ports_sorted d cd = let m = of_raw_dp d cd in subst (λ (e : RawDp). EachBefore (λ (p q : RawPort). nat_lt q.no p.no ≡ false) e.ports) m.1 (sorted (λ (p q : RawPort). nat_lt p.no q.no) (number_order (λ (p : RawPort). p.no)) m.0.ports)

    ports_rise : (d : RawDp) → IsIn (dps_in_order raw) d → EachBefore (λ (p q : RawPort). p.no < q.no) d.ports
    ports_rise d cd =
        before_both (λ (p q : RawPort). nat_lt q.no p.no ≡ false) (λ p q. p.no ≡ q.no → ⊥) (λ p q. p.no < q.no) d.ports (ports_sorted d cd)
        (before_unmapped (λ (p q : Port). p.no ≡ q.no → ⊥) (port_of (ordered raw) d) d.ports (port_numbers_differ (ordered raw) d (none_at repeated_ports_of (dps_in_order raw) whole.ports_differ d cd))) (λ p q not other. rises_apart p.no q.no not other)

    datapath_valid : (d : RawDp) → IsIn (dps_in_order raw) d → IsDatapath conf (dp_of (ordered raw) d)
    datapath_valid d cd = let r = dp_in_range raw range d cd in record {
      id = r.id;
      name = r.names.name;
      description = r.names.description;
      timeout = r.timeout;
      arp_timeout = r.arp_timeout;
      stack_priority = r.stack_priority;
      lldp = r.lldp;
      ports = all_mapped (IsPort conf) (port_of (ordered raw) d) d.ports (all_by _ d.ports (λ p cp. port_valid d cd p cp));
      in_order = before_mapped (λ (p q : Port). p.no < q.no) (port_of (ordered raw) d) d.ports (ports_rise d cd);
      port_names = port_names_differ (ordered raw) d (none_at repeated_ports_of (dps_in_order raw) whole.ports_differ d cd);
    }

    dps_rise : EachBefore (λ (d e : RawDp). IsTextBefore d.names.name e.names.name) (dps_in_order raw)
    dps_rise =
        before_both (λ (d e : RawDp). is_text_before e.names.name d.names.name ≡ false) (λ d e. d.names.name ≡ e.names.name → ⊥) (λ d e. IsTextBefore d.names.name e.names.name) (dps_in_order raw)
        (sorted (λ (d e : RawDp). is_text_before d.names.name e.names.name) (text_order (λ (d : RawDp). d.names.name)) (map ports_in_order raw.dps))
        (before_unmapped (λ (d e : Dp). d.name ≡ e.name → ⊥) (dp_of (ordered raw)) (dps_in_order raw) (dp_names_differ (ordered raw) whole.dps_differ)) (λ d e not other. text_rises d.names.name e.names.name not (other_texts d.names.name e.names.name other))

    pub datapaths_valid : DatapathsAreValid conf
    datapaths_valid = record {
      each = all_mapped (IsDatapath conf) (dp_of (ordered raw)) (dps_in_order raw) (all_by _ (dps_in_order raw) (λ d cd. datapath_valid d cd));
      in_order = before_mapped (λ (d e : Dp). IsTextBefore d.name e.name) (dp_of (ordered raw)) (dps_in_order raw) dps_rise;
      ids = ids_differ (ordered raw) whole.dps_differ;
    }
