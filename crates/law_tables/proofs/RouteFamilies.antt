-- The entries of tables 4 to 6 alone decide there.
use Rattle.std.proofs.Common.{◌≡◌, ℕ, ◌≤◌, ◌==◌, ◌∷◌, refl, arith, if◌then◌else◌}
use Rattle.std.specs.Prelude.{Contains}
use Rattle.std.specs.List.{AllByRecursion, flat_map}
use Rattle.of_match.specs.declared.entry.Entry.{Entry}
use Rattle.conf_types.specs.declared.datapath.Dp.{Dp}
use Rattle.conf_types.specs.declared.family.Family.{Family}
use Rattle.conf_types.specs.declared.vlan.Vlan.{Vlan}
use Rattle.conf_types.specs.Configuration.{Configuration}
use Rattle.conf_types.specs.Families.{ipv4, ipv6}
use Rattle.conf_types.specs.State.{State}
use Rattle.packet_way.specs.Known.{stack_of}
use Rattle.plan_base.specs.declared.table.Table.{Table}
use Rattle.plan_base.specs.declared.table.Table.TheVariants as table
use Rattle.plan_base.specs.Entries.{table_number}
use Rattle.plan_base.specs.Families.{IsFamily}
use Rattle.plan_base.proofs.Families.{of_families}
use Rattle.acl_compile.specs.Slices.{vlan_acl}
use Rattle.vlan_compile.specs.Floods.{floods}
use Rattle.route_compile.specs.Routes.{fib, fib_of, route_table}
use Rattle.route_compile.specs.Vips.{vip_slice}
use Rattle.law_runs.specs.Members.{in_front, behind, in_flat, all_joined}
use Rattle.plan_units.specs.Fixed.{from_group, passes, pass, fixed, drops}
use Rattle.plan_units.specs.Tables.{AtTable, by_family, elsewhere_in, here_in, drops_in, port_acl_in, admissions_in, misses_in, vlan_acl_in, vips_in, floods_in, sources_in, destinations_in, fib_in, routes_elsewhere}
use Rattle.plan_units.specs.Units.{plan, of_port, of_vlan, of_host, of_routes, hosts_of}

-- which table comes behind a family's routes
abbrev pub next_table : Family → Table
next_table f = if f.width == 32 then table.Ipv6Route else table.Vip

-- what no other entry takes there goes on
abbrev pub pass_by : Family → Entry
pass_by f = pass (route_table f) (next_table f)

module _ (conf : Configuration) (now : State) (d : Dp) where
  families : (t : ℕ) (Q : Entry → Type 0) → 4 ≤ t → t ≤ 6 → AtTable t Q (from_group ∷ passes)
      → ((v : Vlan) → Contains conf.vlans v → AtTable t Q (vip_slice d v)) → ((v : Vlan) → Contains conf.vlans v → AtTable t Q (fib conf now.neighbours d v)) → AtTable t Q (plan conf now d)
  families t Q least most groups vips routes = by_family conf now d t Q (record {
    drops = elsewhere_in t 1 Q _ (λ e. omega (arith, e, least)) (drops_in conf d);
    groups = groups;
    port_acls = λ i c. elsewhere_in t 0 Q _ (λ e. omega (arith, e, least)) (port_acl_in conf d i);
    admissions = λ i c. elsewhere_in t 1 Q _ (λ e. omega (arith, e, least)) (admissions_in conf d i);
    misses = λ i c. elsewhere_in t 3 Q _ (λ e. omega (arith, e, least)) (misses_in conf d i now.hosts);
    vlan_acls = λ v c. elsewhere_in t 2 Q _ (λ e. omega (arith, e, least)) (vlan_acl_in conf d v);
    vips = vips;
    floods = λ v c. elsewhere_in t 8 Q _ (λ e. omega (arith, e, most)) (floods_in d v _);
    sources = λ h c. elsewhere_in t 3 Q _ (λ e. omega (arith, e, least)) (sources_in conf d h now.moment);
    destinations = λ h c. elsewhere_in t 7 Q _ (λ e. omega (arith, e, most)) (destinations_in d h _);
    routes = routes;
  })

  no_vips : (t : ℕ) (Q : Entry → Type 0) → (6 ≡ t → ⊥) → (v : Vlan) → AtTable t Q (vip_slice d v)
  no_vips t Q apart v = elsewhere_in t 6 Q _ apart (vips_in d v)

  at_4 : (Q : Entry → Type 0) → Q (pass_by ipv4) → ((v : Vlan) → Contains conf.vlans v → AllByRecursion Q (fib_of ipv4 conf now.neighbours d v)) → AtTable 4 Q (plan conf now d)
  at_4 Q last routes =
      families 4 Q (omega arith) (omega arith) ((λ e. absurd (omega (arith, e))), ((λ e. last), ((λ e. absurd (omega (arith, e))), ((λ e. absurd (omega (arith, e))), ((λ e. absurd (omega (arith, e))), tt)))))
      (λ v c. no_vips 4 Q (λ e. omega (arith, e)) v)
      (λ v c. all_joined (λ e. e.key.table ≡ 4 → Q e) (fib_of ipv4 conf now.neighbours d v) (fib_of ipv6 conf now.neighbours d v)
      (here_in 4 Q _ (routes v c)) (elsewhere_in 4 5 Q _ (λ e. omega (arith, e)) (fib_in ipv6 conf now d v)))

  at_5 : (Q : Entry → Type 0) → Q (pass_by ipv6) → ((v : Vlan) → Contains conf.vlans v → AllByRecursion Q (fib_of ipv6 conf now.neighbours d v)) → AtTable 5 Q (plan conf now d)
  at_5 Q last routes =
      families 5 Q (omega arith) (omega arith) ((λ e. absurd (omega (arith, e))), ((λ e. absurd (omega (arith, e))), ((λ e. last), ((λ e. absurd (omega (arith, e))), ((λ e. absurd (omega (arith, e))), tt)))))
      (λ v c. no_vips 5 Q (λ e. omega (arith, e)) v)
      (λ v c. all_joined (λ e. e.key.table ≡ 5 → Q e) (fib_of ipv4 conf now.neighbours d v) (fib_of ipv6 conf now.neighbours d v)
      (elsewhere_in 5 4 Q _ (λ e. omega (arith, e)) (fib_in ipv4 conf now d v)) (here_in 5 Q _ (routes v c)))

  -- the routes of a family alone decide in their table
  pub at_routes : (f : Family) → IsFamily f → (Q : Entry → Type 0) → Q (pass_by f) → ((v : Vlan) → Contains conf.vlans v → AllByRecursion Q (fib_of f conf now.neighbours d v)) → AtTable (table_number (route_table f)) Q (plan conf now d)
  at_routes f is Q = of_families (λ f. Q (pass_by f) → ((v : Vlan) → Contains conf.vlans v → AllByRecursion Q (fib_of f conf now.neighbours d v)) → AtTable (table_number (route_table f)) Q (plan conf now d)) (at_4 Q) (at_5 Q) f is

  pub at_6 : (Q : Entry → Type 0) → Q (pass table.Vip table.Destination) → ((v : Vlan) → Contains conf.vlans v → AllByRecursion Q (vip_slice d v)) → AtTable 6 Q (plan conf now d)
  at_6 Q last vips =
      families 6 Q (omega arith) (omega arith) ((λ e. absurd (omega (arith, e))), ((λ e. absurd (omega (arith, e))), ((λ e. absurd (omega (arith, e))), ((λ e. last), ((λ e. absurd (omega (arith, e))), tt)))))
      (λ v c. here_in 6 Q _ (vips v c)) (λ v c. routes_elsewhere conf now d v 6 Q (λ e. omega (arith, e)) (λ e. omega (arith, e)))

  -- ---- which members the plan has

  pub pass_in : (e : Entry) → Contains (from_group ∷ passes) e → Contains (plan conf now d) e
  pass_in e c = in_front (fixed conf d) _ e (behind (drops conf d) (from_group ∷ passes) e c)

  pub vip_in : (v : Vlan) (e : Entry) → Contains conf.vlans v → Contains (vip_slice d v) e → Contains (plan conf now d) e
  vip_in v e c w =
      behind (fixed conf d) _ e
      (behind (flat_map (of_port conf now d) d.ports) _ e
      (in_front (flat_map (of_vlan conf now d) conf.vlans) _ e (in_flat (of_vlan conf now d) conf.vlans v e c (behind (vlan_acl conf d v) _ e (in_front (vip_slice d v) (floods d v (stack_of conf now.ups)) e w)))))

  all_routes_in : (v : Vlan) (e : Entry) → Contains conf.vlans v → Contains (fib conf now.neighbours d v) e → Contains (plan conf now d) e
  all_routes_in v e c w =
      behind (fixed conf d) _ e
      (behind (flat_map (of_port conf now d) d.ports) _ e
      (behind (flat_map (of_vlan conf now d) conf.vlans) _ e
      (behind (flat_map (of_host conf now d) (hosts_of conf now d)) _ e (in_flat (of_routes conf now d) conf.vlans v e c w))))

  pub route_in : (f : Family) → IsFamily f → (v : Vlan) (e : Entry) → Contains conf.vlans v → Contains (fib_of f conf now.neighbours d v) e → Contains (plan conf now d) e
  route_in f is v e c w = all_routes_in v e c (of_families (λ f. Contains (fib_of f conf now.neighbours d v) e → Contains (fib conf now.neighbours d v) e) (in_front (fib_of ipv4 conf now.neighbours d v) _ e) (behind (fib_of ipv4 conf now.neighbours d v) _ e) f is w)

  pub route_pass_in : (f : Family) → IsFamily f → Contains (plan conf now d) (pass_by f)
  route_pass_in f is =
      pass_in (pass_by f) (of_families (λ f. Contains (from_group ∷ passes) (pass_by f)) (1, omega arith, refl) (2, omega arith, refl) f is)
