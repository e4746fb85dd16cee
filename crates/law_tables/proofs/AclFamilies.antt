-- The entries of tables 0 and 2 alone decide there.
use Rattle.std.proofs.Common.{◌≡◌, ◌⊎◌, ℕ, Bool, true, false, List, [], ◌++◌, Some, None, refl, sym, subst, inl, inr, arith, if◌then◌else◌}
use Rattle.std.specs.Prelude.{Contains}
use Rattle.std.specs.List.{AllByRecursion}
use Rattle.std.proofs.lemmas.List.{append-nil}
use Rattle.of_match.specs.declared.entry.Entry.{Entry}
use Rattle.of_match.specs.declared.packet.Packet.{Packet}
use Rattle.of_match.specs.declared.packet.Sent.{Sent}
use Rattle.conf_types.specs.declared.datapath.Dp.{Dp}
use Rattle.conf_types.specs.declared.datapath.Port.{Port}
use Rattle.conf_types.specs.declared.vlan.Vlan.{Vlan}
use Rattle.conf_types.specs.Configuration.{Configuration}
use Rattle.conf_types.specs.State.{State}
use Rattle.acl_compile.specs.Slices.{port_acl, vlan_acl}
use Rattle.law_runs.specs.Decided.{IsDecided, decided}
use Rattle.law_runs.specs.Runs.{stopped, went}
use Rattle.plan_units.specs.Laws.{Sends}
use Rattle.plan_units.specs.Tables.{AtTable, ByFamily, by_family, elsewhere_in, here_in, drops_in, port_acl_in, admissions_in, misses_in, vlan_acl_in, vips_in, floods_in, sources_in, destinations_in, routes_elsewhere}
use Rattle.plan_units.specs.Units.{plan}

module _ (conf : Configuration) (now : State) (d : Dp) where
  families : (t : ℕ) (Q : Entry → Type 0) → (t ≡ 0) ⊎ (t ≡ 2) → ((i : Port) → Contains d.ports i → AtTable t Q (port_acl conf d i)) → ((v : Vlan) → Contains conf.vlans v → AtTable t Q (vlan_acl conf d v)) → ByFamily conf now d t Q
  families t Q even ports vlans = record {
    drops = elsewhere_in t 1 Q _ (λ e. omega (arith, e, even)) (drops_in conf d);
    groups = ((λ e. absurd (omega (arith, e, even))), ((λ e. absurd (omega (arith, e, even))), ((λ e. absurd (omega (arith, e, even))), ((λ e. absurd (omega (arith, e, even))), ((λ e. absurd (omega (arith, e, even))), tt)))));
    port_acls = ports;
    admissions = λ i c. elsewhere_in t 1 Q _ (λ e. omega (arith, e, even)) (admissions_in conf d i);
    misses = λ i c. elsewhere_in t 3 Q _ (λ e. omega (arith, e, even)) (misses_in conf d i now.hosts);
    vlan_acls = vlans;
    vips = λ v c. elsewhere_in t 6 Q _ (λ e. omega (arith, e, even)) (vips_in d v);
    floods = λ v c. elsewhere_in t 8 Q _ (λ e. omega (arith, e, even)) (floods_in d v _);
    sources = λ h c. elsewhere_in t 3 Q _ (λ e. omega (arith, e, even)) (sources_in conf d h now.moment);
    destinations = λ h c. elsewhere_in t 7 Q _ (λ e. omega (arith, e, even)) (destinations_in d h _);
    routes = λ v c. routes_elsewhere conf now d v t Q (λ e. omega (arith, e, even)) (λ e. omega (arith, e, even));
  }

  pub at_0 : (Q : Entry → Type 0) → ((i : Port) → Contains d.ports i → AllByRecursion Q (port_acl conf d i)) → AtTable 0 Q (plan conf now d)
  at_0 Q ports = by_family conf now d 0 Q (families 0 Q (inl refl) (λ i c. here_in 0 Q (port_acl conf d i) (ports i c)) (λ v c. elsewhere_in 0 2 Q _ (λ e. omega (arith, e)) (vlan_acl_in conf d v)))

  pub at_2 : (Q : Entry → Type 0) → ((v : Vlan) → Contains conf.vlans v → AllByRecursion Q (vlan_acl conf d v)) → AtTable 2 Q (plan conf now d)
  at_2 Q vlans = by_family conf now d 2 Q (families 2 Q (inr refl) (λ i c. elsewhere_in 2 0 Q _ (λ e. omega (arith, e)) (port_acl_in conf d i)) (λ v c. here_in 2 Q (vlan_acl conf d v) (vlans v c)))

  -- what is sent where the packet goes on, and where it doesn't
  pub sends_then : (t u port : ℕ) (p : Packet) (sent : List Sent) (b : Bool) (rest : List Sent) → IsDecided t port p (plan conf now d) sent (if b then Some (u, p) else None) → (b ≡ true → Sends conf now d u port p rest)
      → Sends conf now d t port p (sent ++ (if b then rest else []))
  sends_then t u port p sent true rest is more = went (plan conf now d) port t p sent u p rest (decided t port p (plan conf now d) sent (Some (u, p)) is) (more refl)
  sends_then t u port p sent false rest is more = subst (λ l. Sends conf now d t port p l) (sym (append-nil sent)) (stopped (plan conf now d) port t p sent (decided t port p (plan conf now d) sent None is))
