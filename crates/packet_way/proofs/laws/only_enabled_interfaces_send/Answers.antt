use Rattle.std.proofs.Common.{◌≡◌, ◌∙◌, ◌⊎◌, ℕ, ◌<◌, ◌==◌, ◌&&◌, ◌||◌, true, Option, Some, None, [], ◌∷◌, All, length, is_some, is_none, inl, inr, refl, sym, subst, arith, ap}
use Rattle.std.specs.Prelude.{Contains, IsSomeAnd}
use Rattle.std.specs.Option.{option_and_then}
use Rattle.std.proofs.lemmas.Bool.{and_parts, or_cases}
use Rattle.std.proofs.lemmas.List.Elements.{All-nil}
use Rattle.net_base.specs.Address.{is_group}
use Rattle.net_base.specs.declared.numbers.DpId.{DpId}
use Rattle.of_match.specs.declared.action.TheConstants.{CONTROLLER}
use Rattle.of_match.specs.declared.packet.Packet.{Packet}
use Rattle.of_match.specs.declared.packet.Sent.{Sent}
use Rattle.stack_paths.specs.Chosen.{is_tree_port}
use Rattle.conf_types.specs.declared.datapath.Dp.{Dp}
use Rattle.conf_types.specs.declared.datapath.Port.{Port}
use Rattle.conf_types.specs.declared.vlan.Vlan.{Vlan}
use Rattle.conf_types.specs.Configuration.{Configuration, dp_with, port_with, port_at}
use Rattle.conf_types.specs.Membership.{is_edge, is_native_in, is_tagged_in, is_edge_member}
use Rattle.conf_types.specs.State.{State, IsValidState}
use Rattle.conf_types.specs.Valid.{IsValid}
use Rattle.packet_way.specs.Description.{from_port, sends}
use Rattle.packet_way.specs.Flood.{is_flooded}
use Rattle.packet_way.specs.Known.{stack_of}
use Rattle.packet_way.specs.Leaving.{sent, to_controller}
use Rattle.packet_way.proofs.Ends.{IsEnd, hop_end, tree_end}
use Rattle.packet_way.proofs.Members.{host_is_member}
use Rattle.packet_way.proofs.Ports.{finds, within, datapath, at_port}
use Rattle.packet_way.proofs.Sites.{Each, each_joins, alone, Sites, IsReached, from_port_all}
use Rattle.packet_way.proofs.Taking.{sends_nothing, sends_at}
use Rattle.packet_way.proofs.laws.only_enabled_interfaces_send.Goals as goal

abbrev Leaves : Configuration → DpId → Sent → Type 0
Leaves conf id s = (s.port ≡ CONTROLLER) ⊎ IsSomeAnd (port_at conf id s.port) (λ q. q.enabled ≡ true)

edge_on : (q : Port) → is_edge q ≡ true → q.enabled ≡ true
edge_on q is = (and_parts q.enabled (is_none q.stack) (and_parts (q.enabled && is_none q.stack) (length q.mirror == 0) is).0).0

member_on : (q : Port) (vid : ℕ) → is_edge_member q vid ≡ true → q.enabled ≡ true
member_on q vid is = edge_on q (and_parts (is_edge q) (is_native_in q vid || is_tagged_in q vid) is).0

module _ (conf : Configuration) (now : State) (valid : IsValid conf) (state : IsValidState conf now) (id : DpId) (d : Dp) (dp_is : dp_with conf.dps id ≡ Some d) (i : Port) where
  by_one : (n : ℕ) (q : Port) (x : Packet) → port_with d.ports n ≡ Some q → q.enabled ≡ true → All (Leaves conf id) (sent n x ∷ [])
  by_one n q x is on =
      let here : port_at conf id n ≡ Some q = ap (λ (o : Option Dp). option_and_then (λ (e : Dp). port_with e.ports n) o) dp_is ∙ is in
      alone (Leaves conf id) n x (inr (subst (λ (o : Option Port). IsSomeAnd o (λ r. r.enabled ≡ true)) (sym here) on))

  own : (q : Port) → Contains d.ports q → port_with d.ports q.no ≡ Some q
  own q c = finds (λ (r : Port). r.no) (λ a b. a.no < b.no) (λ a b less same. omega (arith, less, same)) d.ports q (datapath conf valid id d dp_is).in_order c

  dp_found : dp_with conf.dps d.id ≡ Some d
  dp_found = finds (λ (e : Dp). e.id.0) (λ a b. a.id.0 ≡ b.id.0 → ⊥) (λ a b h. h) conf.dps d valid.datapaths.ids (within conf valid id d dp_is)

  by_end : (n : ℕ) (x : Packet) → IsEnd conf d.id n → All (Leaves conf id) (sent n x ∷ [])
  by_end n x end =
      by_one n end.port x (sym (ap (λ (o : Option Dp). option_and_then (λ (e : Dp). port_with e.ports n) o) dp_found) ∙ end.here)
      (and_parts end.port.enabled (is_some end.port.stack) end.is).0

  by_flood : (v : Vlan) (y : Packet) (q : Port) (x : Packet) → Contains d.ports q → is_flooded (stack_of conf now.ups) d v y q ≡ true → All (Leaves conf id) (sent q.no x ∷ [])
  by_flood v y q x c is =
      elim (or_cases (is_edge_member q v.vid && (is_group y.dst || q.unicast_flood)) (is_tree_port (stack_of conf now.ups) d.id q.no) is) [
        | inl member ↦ by_one q.no q x (own q c) (member_on q v.vid (and_parts (is_edge_member q v.vid) (is_group y.dst || q.unicast_flood) member).0)
        | inr tree ↦ by_end q.no x (tree_end conf valid now.ups d.id q.no tree)
      ]

  by_reached : (v : Vlan) (q : Port) (x : Packet) → Contains d.ports q → IsReached (Each (Leaves conf id)) (each_joins (Leaves conf id)) conf now d i.no v q → All (Leaves conf id) (sent q.no x ∷ [])
  by_reached v q x c (inl flood) = by_flood v flood.0 q x c flood.1
  by_reached v q x c (inr host) = by_one q.no q x (own q c) (member_on q host.0.vid (host_is_member conf valid id d dp_is now state host.0 q host.1 host.2 host.4))

  each : Sites (Each (Leaves conf id)) (each_joins (Leaves conf id)) conf now d i.no
  each = record {
    target = λ q x c on other. by_one q.no q x (own q c) on;
    mirror = λ m n x c on is. by_one m.no m x (own m c) on;
    out = λ v q x c may reached. by_reached v q x c reached;
    hop = λ b n x is other. by_end n x (hop_end conf valid now.ups d.id b n is);
  }

  controlled : (x : Packet) → All (Leaves conf id) (to_controller x)
  controlled x = alone (Leaves conf id) CONTROLLER x (inl refl)

  all_leave : (p : Packet) → All (Leaves conf id) (from_port conf now d p i)
  all_leave p = from_port_all (Each (Leaves conf id)) (each_joins (Leaves conf id)) conf now d i each p 0 0 (λ x single. controlled x) (λ v x c vips. controlled x) (λ x. controlled x)

pub returns : goal.returns
returns c = λ conf now id port p valid state.
    elim (port_at conf id port) as (λ o. port_at conf id port ≡ o → All (Leaves conf id) (sends conf now id port p)) [
      | None ↦ λ none. subst (All (Leaves conf id)) (sym (sends_nothing conf now p id port none)) (All-nil (Leaves conf id))
      | Some i ↦ λ is.
          let at = at_port conf id port i is in
          subst (All (Leaves conf id)) (sym (sends_at conf now p id port i at)) (all_leave conf now valid state id at.dp at.dp_is i p)
    ] refl
