-- A switch accepts each entry of a plan.
use Rattle.std.proofs.Common.{ℕ, ◌^◌, ◌<◌, [], ◌∷◌, refl, lit<}
use Rattle.std.specs.Prelude.{Contains}
use Rattle.std.specs.List.{AllByRecursion}
use Rattle.net_base.specs.declared.address.Mac.{Mac}
use Rattle.net_base.specs.declared.field.Field.{Field}
use Rattle.net_base.specs.declared.field.FieldId.TheVariants.{EthDst, EthSrc}
use Rattle.net_base.specs.Address.{IsSixBytes}
use Rattle.net_base.specs.Field.{exact}
use Rattle.conf_types.specs.declared.datapath.Dp.{Dp}
use Rattle.conf_types.specs.declared.state.HostRec.{HostRec}
use Rattle.conf_types.specs.Configuration.{Configuration}
use Rattle.conf_types.specs.State.{State}
use Rattle.packet_way.specs.declared.drops.TheConstants.{BROADCAST, PVST_GROUP, BRIDGE_GROUP}
use Rattle.of_match.specs.declared.ether_type.TheConstants.{LLDP}
use Rattle.packet_way.specs.Known.{stack_of}
use Rattle.plan_base.specs.Accepted.{IsFlowEntry}
use Rattle.plan_base.specs.declared.table.Table.{Table}
use Rattle.plan_base.specs.declared.table.Table.TheVariants.{Admission, Source, Ipv4Route, Ipv6Route, Vip, Destination, Flood}
use Rattle.plan_base.specs.Fields.{eth_src, eth_type}
use Rattle.plan_base.proofs.Accepted.{table_fits, made_of}
use Rattle.plan_base.proofs.MatchFields.{is_exact, is_eth_src, is_eth_type, is_group_src, AreFields, are_fields}
use Rattle.plan_base.proofs.Each.{all_filter, all_contains, all_by}
use Rattle.acl_compile.proofs.Accepted.{accepted_of_port, accepted_of_vlan}
use Rattle.vlan_compile.proofs.Accepted.{admissions_are, misses_are_accepted, sources_are, destinations_are, floods_are_accepted}
use Rattle.route_compile.proofs.Accepted.{fib_is_accepted, vips_are_accepted}
use Rattle.plan_units.specs.Fixed.{drops, drop, gateways, from_group, pass}
use Rattle.plan_units.specs.Laws.{IsSetting}
use Rattle.plan_units.specs.Parts.{drops_by, of_plan}
use Rattle.plan_units.specs.Units.{is_of_group, hosts_of, plan}
use Rattle.cold_start.proofs.Distinct.{in_conf, gateways_six}

module _ (conf : Configuration) (now : State) (d : Dp) (s : IsSetting conf now d) where
  -- ---- what stands once

  is_drop : (priority : ℕ) → priority < 2 ^ 16 → (f : Field) → AreFields (f ∷ []) → IsFlowEntry (drop priority f)
  is_drop priority less f are = made_of Admission priority _ _ less are tt

  bridge_1 : AreFields (exact EthDst PVST_GROUP ∷ [])
  bridge_1 = are_fields _ (tt, tt) (is_exact EthDst PVST_GROUP (lit< tt), tt) (refl, tt)

  bridge_2 : AreFields (exact EthDst BRIDGE_GROUP ∷ [])
  bridge_2 = are_fields _ (tt, tt) (is_exact EthDst BRIDGE_GROUP (lit< tt), tt) (refl, tt)

  lldp : AreFields (eth_type LLDP ∷ [])
  lldp = are_fields _ (tt, tt) (is_eth_type LLDP (lit< tt), tt) (refl, tt)

  broadcast : AreFields (exact EthSrc BROADCAST ∷ [])
  broadcast = are_fields _ (tt, tt) (is_exact EthSrc BROADCAST (lit< tt), tt) (refl, tt)

  spoofed : (mac : Mac) → IsSixBytes mac.0 → AreFields (eth_src mac ∷ [])
  spoofed mac six = are_fields _ (tt, tt) (is_eth_src mac six, tt) (refl, tt)

  are_drops : AllByRecursion IsFlowEntry (drops conf d)
  are_drops =
      drops_by IsFlowEntry conf d (is_drop 33 (lit< tt) (exact EthDst PVST_GROUP) bridge_1) (is_drop 33 (lit< tt) (exact EthDst BRIDGE_GROUP) bridge_2)
      (is_drop 32 (lit< tt) (eth_type LLDP) lldp) (is_drop 31 (lit< tt) (exact EthSrc BROADCAST) broadcast)
      (λ mac c. is_drop 30 (lit< tt) (eth_src mac) (spoofed mac (all_contains (λ (m : Mac). IsSixBytes m.0) (gateways conf) (gateways_six conf now d s) mac c)))

  is_pass : (table next : Table) → IsFlowEntry (pass table next)
  is_pass table next = made_of table 0 [] _ (lit< tt) (are_fields [] tt tt tt) (table_fits next)

  is_from_group : IsFlowEntry from_group
  is_from_group = made_of Source 40 _ _ (lit< tt) (are_fields _ (tt, tt) (is_group_src, tt) (refl, tt)) (lit< tt)

  -- ---- members

  record IsKept (h : HostRec) : Type 0 where
    within : Contains now.hosts h
    six : IsSixBytes h.mac.0

  kept : (h : HostRec) → Contains (hosts_of conf now d) h → IsKept h
  kept h c =
      all_contains IsKept (hosts_of conf now d)
      (all_filter IsKept (is_of_group conf d) now.hosts
      (all_by IsKept now.hosts (λ g here. record { within = here; six = all_contains (λ (x : HostRec). IsSixBytes x.mac.0) now.hosts s.addresses.hosts g here }))) h c

  pub plan_is_accepted : AllByRecursion IsFlowEntry (plan conf now d)
  plan_is_accepted =
      let here = in_conf conf now d s in
      of_plan conf now d IsFlowEntry (record {
        drops = are_drops;
        groups = (is_from_group, (is_pass Ipv4Route Ipv6Route, (is_pass Ipv6Route Vip, (is_pass Vip Destination, (is_pass Destination Flood, tt)))));
        port_acls = λ i c. accepted_of_port conf s.valid d here i c;
        admissions = λ i c. admissions_are conf s.valid d here i c;
        misses = λ i c. misses_are_accepted conf s.valid d here i c now.hosts;
        vlan_acls = λ v c. accepted_of_vlan conf s.valid d here v c;
        vips = λ v c. vips_are_accepted conf s.valid d v c;
        floods = λ v c. floods_are_accepted conf s.valid d here v c (stack_of conf now.ups);
        sources = λ h c. let k = kept h c in sources_are conf s.valid d here now s.state h k.within k.six now.moment;
        destinations = λ h c. let k = kept h c in destinations_are conf s.valid d here now s.state h k.within k.six (stack_of conf now.ups) refl;
        routes = λ v c. fib_is_accepted conf s.valid now s.state s.addresses.neighbours d v c;
      })
