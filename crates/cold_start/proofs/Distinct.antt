-- No two entries of a plan have one key.
use Rattle.std.proofs.Common.{◌≡◌, ℕ, ◌+◌, ◌<◌, Bool, true, false, cond, not, ◌==◌, List, [], ◌∷◌, ◌++◌, map, refl, sym, ap, ◌∙◌, arith, eqb-true, eq-eqb, true≢false}
use Rattle.std.specs.Prelude.{Contains}
use Rattle.std.specs.List.{AllByRecursion, flat_map}
use Rattle.net_base.specs.declared.address.Mac.{Mac}
use Rattle.net_base.specs.declared.field.Field.{Field}
use Rattle.net_base.specs.declared.field.FieldId.TheVariants.{EthDst}
use Rattle.net_base.specs.Address.{IsSixBytes, mac_value}
use Rattle.net_base.specs.Field.{exact}
use Rattle.of_match.specs.declared.entry.Entry.{Entry}
use Rattle.of_match.specs.declared.entry.Key.{Key}
use Rattle.conf_types.specs.declared.datapath.Dp.{Dp}
use Rattle.conf_types.specs.declared.datapath.Port.{Port}
use Rattle.conf_types.specs.declared.state.HostRec.{HostRec}
use Rattle.conf_types.specs.declared.vlan.Vlan.{Vlan}
use Rattle.conf_types.specs.Configuration.{Configuration}
use Rattle.conf_types.specs.Groups.{group_of}
use Rattle.conf_types.specs.Lists.{EachBefore, is_same}
use Rattle.conf_types.specs.State.{State, IsSameHost}
use Rattle.conf_types.specs.Valid.{IsVlan}
use Rattle.packet_way.specs.declared.drops.TheConstants.{PVST_GROUP, BRIDGE_GROUP}
use Rattle.packet_way.specs.Known.{stack_of}
use Rattle.plan_base.specs.Accepted.{HaveDistinctKeys}
use Rattle.plan_base.specs.declared.table.Table.TheVariants.{Ipv4Route, Ipv6Route, Vip, Destination, Flood}
use Rattle.plan_base.specs.Fields.{eth_src}
use Rattle.plan_base.proofs.Each.{all_from, all_append, all_map, all_filter, all_flat_map, before_from, before_append, before_map, before_both, all_across, all_by}
use Rattle.acl_compile.specs.Slices.{port_acl, vlan_acl}
use Rattle.acl_compile.proofs.Accepted.{distinct_of_port, distinct_of_vlan}
use Rattle.vlan_compile.specs.Admissions.{admissions}
use Rattle.vlan_compile.specs.Misses.{misses}
use Rattle.vlan_compile.specs.Sources.{sources}
use Rattle.vlan_compile.specs.Destinations.{destinations}
use Rattle.vlan_compile.specs.Floods.{floods}
use Rattle.vlan_compile.proofs.Keys.{admissions_differ, misses_differ, sources_differ, destinations_differ, floods_differ_in}
use Rattle.route_compile.specs.Vips.{vip_slice}
use Rattle.route_compile.proofs.Accepted.{fib_keys_are_distinct, vip_keys_are_distinct}
use Rattle.plan_units.specs.Agrees.{same_address, same_bytes}
use Rattle.plan_units.specs.Facts.{found, datapath as is_datapath}
use Rattle.plan_units.specs.Fixed.{drops, bridge_drops, lldp_drops, broadcast_drops, spoofed_drops, drop, once, gateways, from_group, pass, passes, fixed}
use Rattle.plan_units.specs.Laws.{IsSetting}
use Rattle.plan_units.specs.Tables.{port_acl_in, vlan_acl_in, admissions_in, misses_in, sources_in, destinations_in, floods_in, vips_in, drops_in}
use Rattle.plan_units.specs.Units.{of_port, of_vlan, of_host, of_routes, is_of_group, hosts_of, plan}
use Rattle.cold_start.proofs.Lists.{kept_before, all_pass}
use Rattle.cold_start.proofs.Owners.{Owner, Owned, owner, datapath, interface, vlan, host, routes, port_owned, vlan_owned, host_owned, routes_owned, fixed_owned}

abbrev Differ : Entry → Entry → Type 0
Differ e f = e.key ≡ f.key → ⊥

-- ---- by a number that the key tells

abbrev Marked : (Key → ℕ) → ℕ → List Entry → Type 0
Marked mark n es = AllByRecursion (λ e. mark e.key ≡ n) es

abbrev Unmarked : (Key → ℕ) → ℕ → List Entry → Type 0
Unmarked mark n es = AllByRecursion (λ e. mark e.key ≡ n → ⊥) es

otherwise : (mark : Key → ℕ) (m n : ℕ) → (m ≡ n → ⊥) → (es : List Entry) → Marked mark m es → Unmarked mark n es
otherwise mark m n ne es all = all_from {P = λ (e : Entry). mark e.key ≡ m} {Q = λ (e : Entry). mark e.key ≡ n → ⊥} (λ e is same. ne (sym is ∙ same)) es all

both_unmarked : (mark : Key → ℕ) (n : ℕ) (xs ys : List Entry) → Unmarked mark n xs → Unmarked mark n ys → Unmarked mark n (xs ++ ys)
both_unmarked mark n xs ys a b = all_append (λ e. mark e.key ≡ n → ⊥) xs ys a b

two : (mark : Key → ℕ) (n : ℕ) (xs ys : List Entry) → HaveDistinctKeys xs → HaveDistinctKeys ys → Marked mark n xs → Unmarked mark n ys → HaveDistinctKeys (xs ++ ys)
two mark n xs ys dx dy mx my =
    before_append Differ xs ys dx dy
    (all_across {P = λ (e : Entry). mark e.key ≡ n} {Q = λ (f : Entry). mark f.key ≡ n → ⊥} {R = Differ} (λ e f is other same. other (ap mark (sym same) ∙ is)) xs ys mx my)

abbrev by_table : Key → ℕ
by_table k = k.table

abbrev by_priority : Key → ℕ
by_priority k = k.priority

abbrev by_sort : Key → ℕ
by_sort k = (owner k).0

-- ---- of one member

module _ (conf : Configuration) (now : State) (d : Dp) (s : IsSetting conf now d) where
  pub in_conf : Contains conf.dps d
  in_conf = (found (λ e. e.id.0 == d.id.0) conf.dps d s.is_dp).within

  port_differs : (i : Port) → Contains d.ports i → HaveDistinctKeys (of_port conf now d i)
  port_differs i c =
      two by_table 0 (port_acl conf d i) (admissions conf d i ++ misses conf d i now.hosts) (distinct_of_port conf s.valid d in_conf i c)
      (two by_table 1 (admissions conf d i) (misses conf d i now.hosts) (admissions_differ conf s.valid d in_conf i c) (misses_differ conf s.valid d in_conf i c now.hosts) (admissions_in conf d i)
      (otherwise by_table 3 1 (λ e. omega (arith, e)) (misses conf d i now.hosts) (misses_in conf d i now.hosts)))
      (port_acl_in conf d i)
      (both_unmarked by_table 0 (admissions conf d i) (misses conf d i now.hosts) (otherwise by_table 1 0 (λ e. omega (arith, e)) (admissions conf d i) (admissions_in conf d i)) (otherwise by_table 3 0 (λ e. omega (arith, e)) (misses conf d i now.hosts) (misses_in conf d i now.hosts)))

  vlan_differs : (v : Vlan) → Contains conf.vlans v → HaveDistinctKeys (of_vlan conf now d v)
  vlan_differs v c =
      let stack = stack_of conf now.ups in
      two by_table 2 (vlan_acl conf d v) (vip_slice d v ++ floods d v stack) (distinct_of_vlan conf s.valid d in_conf v c)
      (two by_table 6 (vip_slice d v) (floods d v stack) (vip_keys_are_distinct conf s.valid d v c) (floods_differ_in conf s.valid d in_conf v stack) (vips_in d v)
      (otherwise by_table 8 6 (λ e. omega (arith, e)) (floods d v stack) (floods_in d v stack)))
      (vlan_acl_in conf d v)
      (both_unmarked by_table 2 (vip_slice d v) (floods d v stack) (otherwise by_table 6 2 (λ e. omega (arith, e)) (vip_slice d v) (vips_in d v)) (otherwise by_table 8 2 (λ e. omega (arith, e)) (floods d v stack) (floods_in d v stack)))

  host_differs : (h : HostRec) → HaveDistinctKeys (of_host conf now d h)
  host_differs h =
      let stack = stack_of conf now.ups in
      two by_table 3 (sources conf d h now.moment) (destinations d h stack) (sources_differ conf d h now.moment) (destinations_differ d h stack) (sources_in conf d h now.moment)
      (otherwise by_table 7 3 (λ e. omega (arith, e)) (destinations d h stack) (destinations_in d h stack))

  routes_differ : (v : Vlan) → Contains conf.vlans v → HaveDistinctKeys (of_routes conf now d v)
  routes_differ v c = fib_keys_are_distinct conf s.valid now s.state s.addresses.neighbours d v c

  -- ---- what stands once

  abbrev Unlike : Mac → Mac → Type 0
  Unlike a b = not (is_same b.0 a.0) ≡ true

  once_unlike : (macs : List Mac) → EachBefore Unlike (once macs)
  once_unlike [] = tt
  once_unlike (mac ∷ macs) = (all_pass (λ m. not (is_same m.0 mac.0)) (once macs), kept_before Unlike (λ m. not (is_same m.0 mac.0)) (once macs) (once_unlike macs))

  once_all : (P : Mac → Type 0) (macs : List Mac) → AllByRecursion P macs → AllByRecursion P (once macs)
  once_all P [] all = tt
  once_all P (mac ∷ macs) all = (all.0, all_filter P (λ m. not (is_same m.0 mac.0)) (once macs) (once_all P macs all.1))

  abbrev pub HasSix : Mac → Type 0
  HasSix mac = IsSixBytes mac.0

  pub gateways_six : AllByRecursion HasSix (gateways conf)
  gateways_six =
      once_all HasSix (map (λ v. v.mac) conf.vlans)
      (all_map (λ (v : Vlan). v.mac) HasSix conf.vlans
      (all_from {P = IsVlan} {Q = λ (v : Vlan). HasSix v.mac} (λ v is. record { count = is.mac.six; each = is.mac.each }) conf.vlans s.valid.vlans.each))

  abbrev first_value : List Field → ℕ
  first_value [] = 0
  first_value (f ∷ fields) = f.value

  spoofed_differ : HaveDistinctKeys (map (λ mac. drop 30 (eth_src mac)) (gateways conf))
  spoofed_differ =
      before_map (λ mac. drop 30 (eth_src mac)) Differ (gateways conf)
      (before_from {R = λ (a b : Mac). HasSix a × HasSix b × Unlike a b} {S = λ (a b : Mac). Differ (drop 30 (eth_src a)) (drop 30 (eth_src b))}
      (λ a b h same. differ a b h.0 h.1 h.2 (ap (λ (k : Key). first_value k.fields) same)) (gateways conf)
      (before_both HasSix Unlike (gateways conf) gateways_six (once_unlike (map (λ v. v.mac) conf.vlans))))
    where
      differ : (a b : Mac) → HasSix a → HasSix b → Unlike a b → mac_value a ≡ mac_value b → ⊥
      differ a b sa sb unlike same =
          let bytes : is_same b.0 a.0 ≡ true = sym (same_address b a sb sa) ∙ eq-eqb (mac_value b) (mac_value a) (sym same) in
          true≢false (sym unlike ∙ ap not bytes)

  drops_differ : HaveDistinctKeys (drops conf d)
  drops_differ =
      let broad = broadcast_drops d in
      let spoofed = spoofed_drops conf d in
      let at_31 : Marked by_priority 31 broad = one d.drop_broadcast (λ e. by_priority e.key ≡ 31) _ (refl, tt) in
      let at_30 : Marked by_priority 30 spoofed = one d.drop_spoofed (λ e. by_priority e.key ≡ 30) _ (all_map (λ mac. drop 30 (eth_src mac)) (λ (e : Entry). by_priority e.key ≡ 30) (gateways conf) (all_by (λ (mac : Mac). 30 ≡ 30) (gateways conf) (λ mac c. refl))) in
      let at_32 : Marked by_priority 32 (lldp_drops d) = one d.drop_lldp (λ e. by_priority e.key ≡ 32) _ (refl, tt) in
      let at_33 : Marked by_priority 33 (bridge_drops d) = one d.drop_bpdu (λ e. by_priority e.key ≡ 33) _ (refl, (refl, tt)) in
      let low = two by_priority 31 broad spoofed (alone d.drop_broadcast _ (tt, tt)) (alone d.drop_spoofed _ spoofed_differ) at_31 (otherwise by_priority 30 31 (λ e. omega (arith, e)) spoofed at_30) in
      let middle =
      two by_priority 32 (lldp_drops d) (broad ++ spoofed) (alone d.drop_lldp _ (tt, tt)) low at_32
      (both_unmarked by_priority 32 broad spoofed (otherwise by_priority 31 32 (λ e. omega (arith, e)) broad at_31) (otherwise by_priority 30 32 (λ e. omega (arith, e)) spoofed at_30)) in
      two by_priority 33 (bridge_drops d) (lldp_drops d ++ (broad ++ spoofed)) (alone d.drop_bpdu _ ((bridges, tt), (tt, tt))) middle at_33
      (both_unmarked by_priority 33 (lldp_drops d) (broad ++ spoofed) (otherwise by_priority 32 33 (λ e. omega (arith, e)) (lldp_drops d) at_32)
      (both_unmarked by_priority 33 broad spoofed (otherwise by_priority 31 33 (λ e. omega (arith, e)) broad at_31) (otherwise by_priority 30 33 (λ e. omega (arith, e)) spoofed at_30)))
    where
      one : (b : Bool) (P : Entry → Type 0) (es : List Entry) → AllByRecursion P es → AllByRecursion P (cond b es [])
      one true P es all = all
      one false P es all = tt

      alone : (b : Bool) (es : List Entry) → HaveDistinctKeys es → HaveDistinctKeys (cond b es [])
      alone true es h = h
      alone false es h = tt

      bridges : Differ (drop 33 (exact EthDst PVST_GROUP)) (drop 33 (exact EthDst BRIDGE_GROUP))
      bridges same = let values : PVST_GROUP ≡ BRIDGE_GROUP = ap (λ (k : Key). first_value k.fields) same in omega (arith, values)

  passes_differ : HaveDistinctKeys (from_group ∷ passes)
  passes_differ = ((apart from_group (pass Ipv4Route Ipv6Route) (λ e. omega (arith, e)), (apart from_group (pass Ipv6Route Vip) (λ e. omega (arith, e)), (apart from_group (pass Vip Destination) (λ e. omega (arith, e)), (apart from_group (pass Destination Flood) (λ e. omega (arith, e)), tt)))), ((apart (pass Ipv4Route Ipv6Route) (pass Ipv6Route Vip) (λ e. omega (arith, e)), (apart (pass Ipv4Route Ipv6Route) (pass Vip Destination) (λ e. omega (arith, e)), (apart (pass Ipv4Route Ipv6Route) (pass Destination Flood) (λ e. omega (arith, e)), tt))), ((apart (pass Ipv6Route Vip) (pass Vip Destination) (λ e. omega (arith, e)), (apart (pass Ipv6Route Vip) (pass Destination Flood) (λ e. omega (arith, e)), tt)), ((apart (pass Vip Destination) (pass Destination Flood) (λ e. omega (arith, e)), tt), (tt, tt)))))
    where
      apart : (e f : Entry) → (e.key.table ≡ f.key.table → ⊥) → Differ e f
      apart e f ne same = ne (ap (λ (k : Key). k.table) same)

  fixed_differ : HaveDistinctKeys (fixed conf d)
  fixed_differ =
      two by_table 1 (drops conf d) (from_group ∷ passes) drops_differ passes_differ (drops_in conf d)
      ((λ e. omega (arith, e)), ((λ e. omega (arith, e)), ((λ e. omega (arith, e)), ((λ e. omega (arith, e)), ((λ e. omega (arith, e)), tt)))))

  -- ---- of many members, whose owners differ

  flat_differs : {A : Type 0} (f : A → List Entry) (name : A → Owner) (xs : List A) → ((x : A) → Contains xs x → HaveDistinctKeys (f x)) → ((x : A) → Owned (name x) (f x)) → EachBefore (λ x y. name x ≡ name y → ⊥) xs → HaveDistinctKeys (flat_map f xs)
  flat_differs {A = A} f name xs each owned apart = go xs (all_by (λ x. HaveDistinctKeys (f x)) xs each) apart
    where
      go : (ys : List A) → AllByRecursion (λ x. HaveDistinctKeys (f x)) ys → EachBefore (λ x y. name x ≡ name y → ⊥) ys → HaveDistinctKeys (flat_map f ys)
      go [] all apart = tt
      go (y ∷ ys) all apart =
          before_append Differ (f y) (flat_map f ys) all.0 (go ys all.1 apart.1)
          (all_across {P = λ (e : Entry). owner e.key ≡ name y} {Q = λ (e : Entry). name y ≡ owner e.key → ⊥} {R = Differ} (λ a b is other same. other (sym is ∙ ap owner same)) (f y) (flat_map f ys) (owned y)
          (all_flat_map f (λ (e : Entry). name y ≡ owner e.key → ⊥) ys
          (all_from {P = λ (z : A). name y ≡ name z → ⊥} {Q = λ (z : A). AllByRecursion (λ (e : Entry). name y ≡ owner e.key → ⊥) (f z)}
          (λ z ne. all_from {P = λ (e : Entry). owner e.key ≡ name z} {Q = λ (e : Entry). name y ≡ owner e.key → ⊥} (λ e is same. ne (same ∙ is)) (f z) (owned z)) ys apart.0)))

  ports_differ : HaveDistinctKeys (flat_map (of_port conf now d) d.ports)
  ports_differ =
      flat_differs (of_port conf now d) (λ i. interface i.no) d.ports port_differs (port_owned conf now d)
      (before_from {R = λ (p q : Port). p.no < q.no} {S = λ (p q : Port). interface p.no ≡ interface q.no → ⊥} (λ p q less same. let e : p.no ≡ q.no = ap (λ (o : Owner). o.1.0) same in omega (arith, e, less)) d.ports
      (is_datapath conf s.valid d s.is_dp).in_order)

  vlans_apart : (name : ℕ → Owner) → ((m n : ℕ) → name m ≡ name n → m ≡ n) → EachBefore (λ (v w : Vlan). name v.vid ≡ name w.vid → ⊥) conf.vlans
  vlans_apart name one = before_from {R = λ (v w : Vlan). v.vid < w.vid} {S = λ (v w : Vlan). name v.vid ≡ name w.vid → ⊥} (λ v w less same. let e = one v.vid w.vid same in omega (arith, e, less)) conf.vlans s.valid.vlans.in_order

  vlans_differ : HaveDistinctKeys (flat_map (of_vlan conf now d) conf.vlans)
  vlans_differ =
      flat_differs (of_vlan conf now d) (λ v. vlan v.vid) conf.vlans vlan_differs (vlan_owned conf now d)
      (vlans_apart vlan (λ m n same. let e : 0x1000 + m ≡ 0x1000 + n = ap (λ (o : Owner). o.1.0) same in omega (arith, e)))

  all_routes_differ : HaveDistinctKeys (flat_map (of_routes conf now d) conf.vlans)
  all_routes_differ =
      flat_differs (of_routes conf now d) (λ v. routes v.vid) conf.vlans routes_differ (routes_owned conf now d)
      (vlans_apart routes (λ m n same. let e : 0x1000 + m ≡ 0x1000 + n = ap (λ (o : Owner). o.1.0) same in omega (arith, e)))

  record IsOurs (h : HostRec) : Type 0 where
    ours : is_of_group conf d h ≡ true
    six : IsSixBytes h.mac.0

  all_ours : AllByRecursion IsOurs (hosts_of conf now d)
  all_ours = both (hosts_of conf now d) (all_pass (is_of_group conf d) now.hosts) (all_filter (λ (h : HostRec). IsSixBytes h.mac.0) (is_of_group conf d) now.hosts s.addresses.hosts)
    where
      both : (hs : List HostRec) → AllByRecursion (λ h. is_of_group conf d h ≡ true) hs → AllByRecursion (λ (h : HostRec). IsSixBytes h.mac.0) hs → AllByRecursion IsOurs hs
      both [] a b = tt
      both (h ∷ hs) a b = (record { ours = a.0; six = b.0 }, both hs a.1 b.1)

  one_host : (g h : HostRec) → IsOurs g → IsOurs h → host g.vid (mac_value g.mac) ≡ host h.vid (mac_value h.mac) → IsSameHost conf g h
  one_host g h ig ih same =
      let vids : 0x1000 + g.vid ≡ 0x1000 + h.vid = ap (λ (o : Owner). o.1.0) same in
      let macs : mac_value g.mac ≡ mac_value h.mac = ap (λ (o : Owner). o.1.1) same in
      record {
        groups = eqb-true (group_of conf g.dp).0 (group_of conf d.id).0 ig.ours ∙ sym (eqb-true (group_of conf h.dp).0 (group_of conf d.id).0 ih.ours);
        vlans = omega (arith, vids);
        macs = same_bytes g.mac.0 h.mac.0 (sym (same_address g.mac h.mac ig.six ih.six) ∙ eq-eqb (mac_value g.mac) (mac_value h.mac) macs);
      }

  hosts_differ : HaveDistinctKeys (flat_map (of_host conf now d) (hosts_of conf now d))
  hosts_differ =
      flat_differs (of_host conf now d) (λ h. host h.vid (mac_value h.mac)) (hosts_of conf now d) (λ h c. host_differs h) (host_owned conf now d)
      (before_from {R = λ (g h : HostRec). IsOurs g × IsOurs h × (IsSameHost conf g h → ⊥)} {S = λ (g h : HostRec). host g.vid (mac_value g.mac) ≡ host h.vid (mac_value h.mac) → ⊥} (λ g h a same. a.2 (one_host g h a.0 a.1 same)) (hosts_of conf now d)
      (before_both IsOurs (λ (g h : HostRec). IsSameHost conf g h → ⊥) (hosts_of conf now d) all_ours (kept_before (λ (g h : HostRec). IsSameHost conf g h → ⊥) (is_of_group conf d) now.hosts s.state.host_keys)))

  -- ---- all of them

  sorted : (n : ℕ) {A : Type 0} (f : A → List Entry) (name : A → Owner) → ((x : A) → (name x).0 ≡ n) → ((x : A) → Owned (name x) (f x)) → (xs : List A) → Marked by_sort n (flat_map f xs)
  sorted n {A = A} f name h owned xs =
      all_flat_map f (λ (e : Entry). by_sort e.key ≡ n) xs
      (all_by (λ (x : A). AllByRecursion (λ (e : Entry). by_sort e.key ≡ n) (f x)) xs (λ x c. all_from {P = λ (e : Entry). owner e.key ≡ name x} {Q = λ (e : Entry). by_sort e.key ≡ n} (λ e is. ap (λ (o : Owner). o.0) is ∙ h x) (f x) (owned x)))

  pub plan_differs : HaveDistinctKeys (plan conf now d)
  plan_differs =
      let ps = flat_map (of_port conf now d) d.ports in
      let vs = flat_map (of_vlan conf now d) conf.vlans in
      let hs = flat_map (of_host conf now d) (hosts_of conf now d) in
      let rs = flat_map (of_routes conf now d) conf.vlans in
      let as_ports = sorted 1 (of_port conf now d) (λ i. interface i.no) (λ i. refl) (port_owned conf now d) d.ports in
      let as_vlans = sorted 2 (of_vlan conf now d) (λ v. vlan v.vid) (λ v. refl) (vlan_owned conf now d) conf.vlans in
      let as_hosts = sorted 3 (of_host conf now d) (λ h. host h.vid (mac_value h.mac)) (λ h. refl) (host_owned conf now d) (hosts_of conf now d) in
      let as_routes = sorted 4 (of_routes conf now d) (λ v. routes v.vid) (λ v. refl) (routes_owned conf now d) conf.vlans in
      let as_fixed : Marked by_sort 0 (fixed conf d) = all_from {P = λ (e : Entry). owner e.key ≡ datapath} {Q = λ (e : Entry). by_sort e.key ≡ 0} (λ e is. ap (λ (o : Owner). o.0) is) (fixed conf d) (fixed_owned conf d) in
      let behind_hosts = two by_sort 3 hs rs hosts_differ all_routes_differ as_hosts (otherwise by_sort 4 3 (λ e. omega (arith, e)) rs as_routes) in
      let behind_vlans =
      two by_sort 2 vs (hs ++ rs) vlans_differ behind_hosts as_vlans
      (both_unmarked by_sort 2 hs rs (otherwise by_sort 3 2 (λ e. omega (arith, e)) hs as_hosts) (otherwise by_sort 4 2 (λ e. omega (arith, e)) rs as_routes)) in
      let behind_ports =
      two by_sort 1 ps (vs ++ (hs ++ rs)) ports_differ behind_vlans as_ports
      (both_unmarked by_sort 1 vs (hs ++ rs) (otherwise by_sort 2 1 (λ e. omega (arith, e)) vs as_vlans)
      (both_unmarked by_sort 1 hs rs (otherwise by_sort 3 1 (λ e. omega (arith, e)) hs as_hosts) (otherwise by_sort 4 1 (λ e. omega (arith, e)) rs as_routes))) in
      two by_sort 0 (fixed conf d) (ps ++ (vs ++ (hs ++ rs))) fixed_differ behind_ports as_fixed
      (both_unmarked by_sort 0 ps (vs ++ (hs ++ rs)) (otherwise by_sort 1 0 (λ e. omega (arith, e)) ps as_ports)
      (both_unmarked by_sort 0 vs (hs ++ rs) (otherwise by_sort 2 0 (λ e. omega (arith, e)) vs as_vlans)
      (both_unmarked by_sort 0 hs rs (otherwise by_sort 3 0 (λ e. omega (arith, e)) hs as_hosts) (otherwise by_sort 4 0 (λ e. omega (arith, e)) rs as_routes))))
