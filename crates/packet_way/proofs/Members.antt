-- What an interface that mirrors none gets of a packet that leaves.
use Rattle.std.proofs.Common.{◌≡◌, ◌∙◌, ℕ, ◌==◌, ◌&&◌, true, false, Option, Some, None, [], ◌∷◌, All, find, refl, sym, ap, subst}
use Rattle.std.specs.Prelude.{Contains, IsSomeAnd}
use Rattle.std.specs.Option.{option_and_then, option_map_or}
use Rattle.std.proofs.lemmas.Bool.{both_ways, and_parts, eqb-true}
use Rattle.std.proofs.lemmas.Option.{same_Some}
use Rattle.stack_paths.specs.Chosen.{hop_of}
use Rattle.net_base.specs.declared.numbers.DpId.{DpId}
use Rattle.of_match.specs.declared.packet.Packet.{Packet}
use Rattle.of_match.specs.declared.packet.Sent.{Sent}
use Rattle.conf_types.specs.declared.datapath.Dp.{Dp}
use Rattle.conf_types.specs.declared.datapath.Port.{Port}
use Rattle.conf_types.specs.declared.state.HostRec.{HostRec}
use Rattle.conf_types.specs.declared.vlan.Vlan.{Vlan}
use Rattle.conf_types.specs.Configuration.{Configuration, dp_with, port_with, port_at}
use Rattle.conf_types.specs.Lists.{is_among}
use Rattle.conf_types.specs.Membership.{is_stack, is_accepting, is_native_in, is_edge_member, is_mirror_of}
use Rattle.conf_types.specs.State.{State, IsHost, IsValidState}
use Rattle.conf_types.specs.Valid.{IsValid}
use Rattle.packet_way.specs.Description.{leaving}
use Rattle.packet_way.specs.Known.{stack_of}
use Rattle.packet_way.specs.Leaving.{sent, as_sent, delivered}
use Rattle.packet_way.proofs.Ends.{IsEnd, hop_end}
use Rattle.packet_way.proofs.Ports.{of_all, found, finds, within, only_port, stack_port}
use Rattle.packet_way.proofs.Sites.{Each, each_joins, alone, by_port, leaving_all}

module _ (conf : Configuration) (valid : IsValid conf) (id : DpId) (d : Dp) (dp_is : dp_with conf.dps id ≡ Some d) where
  -- an interface at an end of a stack link is that end
  pub end_is : (n : ℕ) (q : Port) → IsEnd conf d.id n → port_with d.ports n ≡ Some q → is_stack q ≡ true
  end_is n q end here =
      let in_dps = finds (λ (e : Dp). e.id.0) (λ a b. a.id.0 ≡ b.id.0 → ⊥) (λ a b h. h) conf.dps d valid.datapaths.ids (within conf valid id d dp_is) in
      let same = same_Some q end.port (sym here ∙ sym (ap (λ (o : Option Dp). option_and_then (λ (e : Dp). port_with e.ports n) o) in_dps) ∙ end.here) in
      subst (λ (r : Port). is_stack r ≡ true) (sym same) end.is

  -- a host stands at an edge port of its VLAN
  pub host_is_member : (now : State) → IsValidState conf now → (h : HostRec) (q : Port) → Contains now.hosts h → (h.dp.0 == d.id.0) ≡ true → port_with d.ports h.port ≡ Some q → is_edge_member q h.vid ≡ true
  host_is_member now state h q c here is =
      let dp_found : dp_with conf.dps d.id ≡ Some d = finds (λ (e : Dp). e.id.0) (λ a b. a.id.0 ≡ b.id.0 → ⊥) (λ a b h. h) conf.dps d valid.datapaths.ids (within conf valid id d dp_is) in
      let dp_here : dp_with conf.dps h.dp ≡ Some d = subst (λ n. find (λ (e : Dp). e.id.0 == n) conf.dps ≡ Some d) (sym (eqb-true h.dp.0 d.id.0 here)) dp_found in
      let port_here : port_at conf h.dp h.port ≡ Some q = ap (λ (o : Option Dp). option_and_then (λ (e : Dp). port_with e.ports h.port) o) dp_here ∙ is in
      let place : (is_accepting q && is_edge_member q h.vid) ≡ true = subst (λ (o : Option Port). IsSomeAnd o (λ r. (is_accepting r && is_edge_member r h.vid) ≡ true)) port_here (of_all (IsHost conf now) now.hosts h state.hosts c).place in
      (and_parts (is_accepting q) (is_edge_member q h.vid) place).1

  module _ (q : Port) (here : port_with d.ports q.no ≡ Some q) where
    pub in_ports : Contains d.ports q
    in_ports = (found (λ (p : Port). p.no == q.no) d.ports q here).0

    -- an end of a stack link has no native VLAN
    pub stack_has_no_native : (vid : ℕ) → is_stack q ≡ true → is_native_in q vid ≡ false
    stack_has_no_native vid is =
        elim q.native as (λ o. option_map_or (λ n. n ∷ q.tagged) o q.tagged ≡ [] → option_map_or (λ n. n == vid) o false ≡ false) [
          | None ↦ λ e. refl
          | Some n ↦ λ e. absurd cc
        ] (stack_port conf valid id d dp_is q in_ports is).2.no_vlan

    module _ (mirrors_none : q.mirror ≡ []) (now : State) (v : Vlan) (port : ℕ) (p : Packet) where
      abbrev pub IsAsSent : Sent → Type 0
      IsAsSent s = s.port ≡ q.no → s.packet ≡ as_sent q v.vid p

      same : (r : Port) → Contains d.ports r → r.no ≡ q.no → r ≡ q
      same r c e = only_port conf valid id d dp_is q.no q r here c e

      by_one : (r : Port) → Contains d.ports r → All IsAsSent (delivered d v.vid p r)
      by_one r c =
          by_port (Each IsAsSent) (each_joins IsAsSent) conf now d port v.vid p r
          (alone IsAsSent r.no (as_sent r v.vid p) (λ e. ap (λ (s : Port). as_sent s v.vid p) (same r c e)))
          (λ m c' is. alone IsAsSent m.no (as_sent r v.vid p) (λ e. absurd (both_ways (is_mirror_of m r.no) (ap (λ ns. is_among ns r.no) (ap (λ (s : Port). s.mirror) (same m c' e) ∙ mirrors_none)) (and_parts m.enabled (is_mirror_of m r.no) is).1)))

      over_stack : (b : DpId) (n : ℕ) → hop_of (stack_of conf now.ups) d.id b ≡ Some n → All IsAsSent (sent n p ∷ [])
      over_stack b n is = alone IsAsSent n p (λ e.
          let stack = end_is q.no q (subst (λ k. IsEnd conf d.id k) e (hop_end conf valid now.ups d.id b n is)) here in
          rw (stack_has_no_native v.vid stack) refl)

      pub all_as_sent : All IsAsSent (leaving conf now d port v p)
      all_as_sent = leaving_all (Each IsAsSent) (each_joins IsAsSent) conf now d port v p (λ r c may reached. by_one r c) (λ b n is other. over_stack b n is)

      pub all_sent_as : (x : Packet) → as_sent q v.vid p ≡ x → All (λ s. s.port ≡ q.no → s.packet ≡ x) (leaving conf now d port v p)
      all_sent_as x is = subst (λ (y : Packet). All (λ s. s.port ≡ q.no → s.packet ≡ y) (leaving conf now d port v p)) is all_as_sent
