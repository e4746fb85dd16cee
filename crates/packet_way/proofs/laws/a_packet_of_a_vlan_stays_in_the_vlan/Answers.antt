use Rattle.std.proofs.Common.{◌≡◌, ◌≢◌, ◌∙◌, ℕ, ◌&&◌, ◌||◌, true, false, Some, [], ◌∷◌, All, inl, inr, subst, ap}
use Rattle.std.specs.Prelude.{Contains}
use Rattle.std.proofs.lemmas.Bool.{both_ways, and_parts, or_cases, eqb-true}
use Rattle.net_base.specs.Address.{is_group}
use Rattle.net_base.specs.declared.numbers.DpId.{DpId}
use Rattle.of_match.specs.declared.packet.Packet.{Packet}
use Rattle.of_match.specs.declared.packet.Sent.{Sent}
use Rattle.stack_paths.specs.Chosen.{hop_of, is_tree_port}
use Rattle.conf_types.specs.declared.datapath.Dp.{Dp}
use Rattle.conf_types.specs.declared.datapath.Port.{Port}
use Rattle.conf_types.specs.declared.vlan.Vlan.{Vlan}
use Rattle.conf_types.specs.Configuration.{Configuration, dp_with, port_with}
use Rattle.conf_types.specs.Lists.{is_among}
use Rattle.conf_types.specs.Membership.{is_edge, is_stack, is_edge_member, is_mirror_of}
use Rattle.conf_types.specs.State.{State, IsValidState}
use Rattle.conf_types.specs.Valid.{IsValid}
use Rattle.packet_way.specs.Description.{leaving}
use Rattle.packet_way.specs.Flood.{is_flooded}
use Rattle.packet_way.specs.Known.{stack_of}
use Rattle.packet_way.specs.Leaving.{sent, as_sent, delivered}
use Rattle.packet_way.proofs.Ends.{IsEnd, hop_end, tree_end}
use Rattle.packet_way.proofs.Members.{end_is, host_is_member}
use Rattle.packet_way.proofs.Ports.{only_port, edge_mirrors_none, edge_is_no_stack}
use Rattle.packet_way.proofs.Sites.{Each, each_joins, alone, IsReached, by_port, leaving_all}
use Rattle.packet_way.proofs.laws.a_packet_of_a_vlan_stays_in_the_vlan.Goals as goal

module _ (conf : Configuration) (now : State) (valid : IsValid conf) (state : IsValidState conf now) (id : DpId) (d : Dp) (dp_is : dp_with conf.dps id ≡ Some d) (v : Vlan) (port : ℕ) (p : Packet) (q : Port) (here : port_with d.ports q.no ≡ Some q)
    (edge : is_edge q ≡ true) (outside : is_edge_member q v.vid ≡ false) where
  abbrev IsElsewhere : Sent → Type 0
  IsElsewhere s = s.port ≢ q.no

  same : (r : Port) → Contains d.ports r → r.no ≡ q.no → r ≡ q
  same r c e = only_port conf valid id d dp_is q.no q r here c e

  -- the interface is no end of a stack link, and mirrors none
  no_end : (n : ℕ) → IsEnd conf d.id n → n ≡ q.no → ⊥
  no_end n end e = both_ways (is_stack q) (edge_is_no_stack q edge) (end_is conf valid id d dp_is q.no q (subst (λ k. IsEnd conf d.id k) e end) here)

  no_mirror : (m : Port) (n : ℕ) → Contains d.ports m → is_mirror_of m n ≡ true → m.no ≡ q.no → ⊥
  no_mirror m n c is e = both_ways (is_mirror_of m n) (ap (λ ns. is_among ns n) (ap (λ (s : Port). s.mirror) (same m c e) ∙ edge_mirrors_none q edge)) is

  no_member : (r : Port) → Contains d.ports r → is_edge_member r v.vid ≡ true → r.no ≡ q.no → ⊥
  no_member r c is e = both_ways (is_edge_member q v.vid) outside (subst (λ s. is_edge_member s v.vid ≡ true) (same r c e) is)

  no_flood : (y : Packet) (r : Port) → Contains d.ports r → is_flooded (stack_of conf now.ups) d v y r ≡ true → r.no ≡ q.no → ⊥
  no_flood y r c is e =
      elim (or_cases (is_edge_member r v.vid && (is_group y.dst || r.unicast_flood)) (is_tree_port (stack_of conf now.ups) d.id r.no) is) [
        | inl member ↦ no_member r c (and_parts (is_edge_member r v.vid) (is_group y.dst || r.unicast_flood) member).0 e
        | inr tree ↦ no_end r.no (tree_end conf valid now.ups d.id r.no tree) e
      ]

  not_reached : (r : Port) → Contains d.ports r → IsReached (Each IsElsewhere) (each_joins IsElsewhere) conf now d port v r → r.no ≡ q.no → ⊥
  not_reached r c (inl flood) e = no_flood flood.0 r c flood.1 e
  not_reached r c (inr host) e = no_member r c (subst (λ n. is_edge_member r n ≡ true) (eqb-true host.0.vid v.vid host.3) (host_is_member conf valid id d dp_is now state host.0 r host.1 host.2 host.4)) e

  by_one : (r : Port) → Contains d.ports r → IsReached (Each IsElsewhere) (each_joins IsElsewhere) conf now d port v r → All IsElsewhere (delivered d v.vid p r)
  by_one r c reached =
      by_port (Each IsElsewhere) (each_joins IsElsewhere) conf now d port v.vid p r
      (alone IsElsewhere r.no (as_sent r v.vid p) (not_reached r c reached))
      (λ m c' is. alone IsElsewhere m.no (as_sent r v.vid p) (no_mirror m r.no c' (and_parts m.enabled (is_mirror_of m r.no) is).1))

  over_stack : (b : DpId) (n : ℕ) → hop_of (stack_of conf now.ups) d.id b ≡ Some n → All IsElsewhere (sent n p ∷ [])
  over_stack b n is = alone IsElsewhere n p (no_end n (hop_end conf valid now.ups d.id b n is))

  all_elsewhere : All IsElsewhere (leaving conf now d port v p)
  all_elsewhere = leaving_all (Each IsElsewhere) (each_joins IsElsewhere) conf now d port v p (λ r c may reached. by_one r c reached) (λ b n is other. over_stack b n is)

pub returns : goal.returns
returns c = λ conf now id d v port p q valid state dp_is here edge outside. all_elsewhere conf now valid state id d dp_is v port p q here edge outside
