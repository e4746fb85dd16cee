-- What a walk brings to a datapath t, from a packet that comes in.
use Rattle.std.proofs.Common.{◌≡◌, ◌⊎◌, ℕ, zero, suc, ◌+◌, ◌^◌, ◌<◌, ◌≤◌, ◌==◌, ◌||◌, Bool, true, false, not, cond, Option, Some, None, List, [], ◌∷◌, map, slice_get, refl, inl, inr, sym, ap, ◌∙◌, arith}
use Rattle.std.specs.Prelude.{Contains}
use Rattle.std.specs.Option.{option_map_or}
use Rattle.std.proofs.lemmas.Bool.{and_parts, eqb-true}
use Rattle.net_base.specs.Address.{is_group}
use Rattle.net_base.specs.declared.numbers.DpId.{DpId}
use Rattle.net_base.specs.declared.stack.Node.{Node}
use Rattle.of_match.specs.Shaped.{IsShaped}
use Rattle.of_match.specs.declared.packet.Packet.{Packet}
use Rattle.stack_paths.specs.Chosen.{is_same_dp, hop_of}
use Rattle.stack_paths.specs.Stack.{Stack, ids, IsNode, IsJoined}
use Rattle.stack_paths.proofs.ChosenHops.{next_hop_found}
use Rattle.stack_paths.proofs.ChosenWalks.{distance_small}
use Rattle.stack_paths.proofs.Finite.{contains_cons, contains_here, contains_there}
use Rattle.stack_paths.proofs.LawLemmas.{distance_exists, root_shared}
use Rattle.stack_paths.proofs.Walks.{walk_end}
use Rattle.conf_types.proofs.Reached.{same_id}
use Rattle.conf_types.specs.declared.datapath.Dp.{Dp}
use Rattle.conf_types.specs.declared.datapath.Port.{Port}
use Rattle.conf_types.specs.declared.state.HostRec.{HostRec}
use Rattle.conf_types.specs.declared.vlan.Vlan.{Vlan}
use Rattle.conf_types.specs.Configuration.{Configuration, dp_with, port_with, port_at}
use Rattle.conf_types.specs.Membership.{is_edge}
use Rattle.conf_types.specs.State.{State}
use Rattle.conf_types.specs.Valid.{IsValid}
use Rattle.packet_way.specs.declared.known.Onward.TheVariants.{ByPort, OverStack, Everywhere}
use Rattle.packet_way.specs.Admission.{tagged_with}
use Rattle.packet_way.specs.Description.{leaving, sends}
use Rattle.packet_way.specs.Flood.{is_flooded, gets_flood}
use Rattle.packet_way.specs.Known.{node_of, stack_of, host_with, onward_to, onward}
use Rattle.packet_way.specs.Leaving.{as_sent}
use Rattle.packet_way.proofs.Ports.{found, finds, port_of}
use Rattle.plan_units.specs.Laws.{AdmissionLaw, RoutingLaw}
use Rattle.law_trees.specs.Ways.{IsNoEnd}
use Rattle.law_trees.proofs.Floods.{node_in, size_most, brings_is}
use Rattle.law_trees.proofs.Lines.{below}
use Rattle.law_trees.proofs.Roots.{root_exists}
use Rattle.law_trees.proofs.Sides.{free_toward}
use Rattle.law_trees.proofs.Totals.{total}
use Rattle.law_network.specs.Coming.{ComesIn, IsFlooded, IsFor}
use Rattle.law_network.proofs.Floods.{leaving_flooded, at_t, at_t_is, from_stack_t, from_stack_is}
use Rattle.law_network.proofs.Floods as floods
use Rattle.law_network.proofs.Hosts as hosts
use Rattle.law_network.proofs.Ports.{is, have, ports_of, edge_free}
use Rattle.law_network.proofs.Sends.{Quiet, weight, extras, no_flood}
use Rattle.law_network.proofs.Start.{starts, comes}

settled : (x z : Bool) (m m' n n' : ℕ) → z ≡ false → m ≡ m' → n ≡ n' → cond x m (cond z 0 n) ≡ cond x m' n'
settled x z m m' n n' none same same_too = ap (λ v. cond x m (cond v 0 n)) none ∙ ap (λ v. cond x v n) same ∙ ap (cond x m') same_too

-- a datapath of the configuration is one of the stack, and the other way round
node_at : (ds : List Dp) (d : Dp) → Contains ds d → (j : ℕ) × (slice_get (ids (map node_of ds)) j ≡ Some d.id)
node_at [] d c = absurd (omega (arith, c.1))
node_at (e ∷ es) d c = elim (contains_cons e d es c) [
  | inl first ↦ (zero, ap (λ (x : Dp). Some x.id) first)
  | inr later ↦ let rest = node_at es d later in (suc rest.0, rest.1)
]

of_mapped : (ds : List Dp) (m : Node) → Contains (map node_of ds) m → (d : Dp) × Contains ds d × (node_of d ≡ m)
of_mapped [] m c = absurd (omega (arith, c.1))
of_mapped (e ∷ es) m c = elim (contains_cons (node_of e) m (map node_of es) c) [
  | inl first ↦ (e, contains_here e es, first)
  | inr later ↦ let rest = of_mapped es m later in (rest.0, contains_there e rest.0 es rest.1, rest.2)
]

module _ (conf : Configuration) (now : State) (d : Dp) (i : Port) (p : Packet) (w : Vlan) (y : Packet) (c : ComesIn conf now d i p w y) (admission : AdmissionLaw conf now d) (routing : RoutingLaw conf now d) where
  abbrev s : Stack
  s = stack_of conf now.ups

  abbrev pub valid : IsValid conf
  valid = c.network.valid

  pub d_is : dp_with conf.dps d.id ≡ Some d
  d_is = c.comes.let_in.is_dp

  pub i_is : port_with d.ports i.no ≡ Some i
  i_is = c.comes.let_in.is_port

  pub i_in : Contains d.ports i
  i_in = (found (λ (q : Port). q.no == i.no) d.ports i i_is).0

  pub i_edge : is_edge i ≡ true
  i_edge = (and_parts (is_edge i) (not i.output_only) c.comes.let_in.takes).0

  free : IsNoEnd s d.id i.no
  free = edge_free conf valid now.ups d d_is i i_in i_edge

  fits : i.no < 2 ^ 32
  fits = let most = (port_of conf valid d.id d d_is i i_in).number.most in omega (arith, most)

  pub node : IsNode s d.id
  node = node_at conf.dps d (found (λ (e : Dp). e.id.0 == d.id.0) conf.dps d d_is).0

  pub dp_of : (t : DpId) → IsJoined s d.id t → (e : Dp) × (dp_with conf.dps e.id ≡ Some e) × (e.id ≡ t)
  dp_of t joined =
      let m = node_in s (is conf valid now.ups) t (walk_end s (is conf valid now.ups) joined.0 d.id t joined.1) in
      let e = of_mapped conf.dps m.0 m.1 in
      (e.0, finds (λ (x : Dp). x.id.0) (λ a b. a.id.0 ≡ b.id.0 → ⊥) (λ a b h. h) conf.dps e.0 valid.datapaths.ids e.1, ap (λ (n : Node). n.id) e.2 ∙ m.2)

  -- it is flooded, or it is for a host of the part
  pub way : IsFlooded conf now d w y ⊎ ((h : HostRec) × IsFor conf now d w y h)
  unfolding onward
  way = by (host_with conf now.hosts d w.vid y.dst) refl
    where
      by_hop : (h : HostRec) → host_with conf now.hosts d w.vid y.dst ≡ Some h → (h.dp.0 == d.id.0) ≡ false → (o : Option ℕ) → hop_of s d.id h.dp ≡ o
          → (option_map_or (onward_to s d) (host_with conf now.hosts d w.vid y.dst) Everywhere ≡ Everywhere) ⊎ ((h : HostRec) × IsFor conf now d w y h)
      by_hop h known away None none = inl (ap (λ o. option_map_or (onward_to s d) o Everywhere) known ∙ ap (λ b. cond b (ByPort h.port) (option_map_or OverStack (hop_of s d.id h.dp) Everywhere)) away ∙ ap (λ o. option_map_or OverStack o Everywhere) none)
      by_hop h known away (Some n) some =
          let near = (next_hop_found s (is conf valid now.ups) d.id h.dp n some).2.nearer in
          inr (h, record { known = known; joined = (suc near.rest, near.from_here.walk) })

      by_place : (h : HostRec) → host_with conf now.hosts d w.vid y.dst ≡ Some h → (b : Bool) → (h.dp.0 == d.id.0) ≡ b
          → (option_map_or (onward_to s d) (host_with conf now.hosts d w.vid y.dst) Everywhere ≡ Everywhere) ⊎ ((h : HostRec) × IsFor conf now d w y h)
      by_place h known true here = inr (h, record { known = known; joined = (zero, (node, sym (same_id h.dp d.id (eqb-true h.dp.0 d.id.0 here)))) })
      by_place h known false away = by_hop h known away (hop_of s d.id h.dp) refl

      by : (o : Option HostRec) → host_with conf now.hosts d w.vid y.dst ≡ o → (option_map_or (onward_to s d) (host_with conf now.hosts d w.vid y.dst) Everywhere ≡ Everywhere) ⊎ ((h : HostRec) × IsFor conf now d w y h)
      by None none = inl (ap (λ o. option_map_or (onward_to s d) o Everywhere) none)
      by (Some h) some = by_place h some (h.dp.0 == d.id.0) refl

  module _ (t : DpId) (here : DpId → ℕ → Packet → ℕ) (quiet : Quiet conf t here) (b : ℕ) (F : ℕ → DpId → ℕ → Packet → ℕ)
      (next : (k : ℕ) (e : Dp) (port : ℕ) (x : Packet) → dp_with conf.dps e.id ≡ Some e → port < 2 ^ 32 → IsShaped x
      → F (suc k) e.id port x ≡ cond (is_same_dp t e.id) b 0 + total (weight conf now valid t here quiet (F k) e.id) (sends conf now e.id port x))
      (k : ℕ) (enough : 64 ≤ suc k) where
    -- what was sent before the step of destinations brings nothing
    begun : F (suc k) d.id i.no p ≡ cond (is_same_dp t d.id) b 0 + total (weight conf now valid t here quiet (F k) d.id) (leaving conf now d i.no w y)
    begun =
        let start = starts conf now d i p w y c.comes in
        next k d i.no p d_is fits c.shaped
        ∙ ap (λ (n : ℕ). cond (is_same_dp t d.id) b 0 + n)
        (ap (total (weight conf now valid t here quiet (F k) d.id)) start.are
        ∙ extras conf now valid t here quiet (F k) d d_is i.no p (tagged_with c.comes.admitting.vid p) start.is_copied (leaving conf now d i.no w y))

    -- ---- a flood

    module _ (everywhere : IsFlooded conf now d w y) where
      pub no_more : (is_group y.dst || w.unicast_flood) ≡ false → F (suc k) d.id i.no p ≡ cond (is_same_dp t d.id) b 0
      no_more may_not =
          let none = ap (total (weight conf now valid t here quiet (F k) d.id)) (leaving_flooded conf now valid w y d i.no everywhere) ∙ no_flood conf now valid t here quiet (F k) d d_is w y i.no may_not in
          begun ∙ omega (arith, none)

      pub in_part : (is_group y.dst || w.unicast_flood) ≡ true → (tdp : Dp) → dp_with conf.dps tdp.id ≡ Some tdp → tdp.id ≡ t → IsJoined s d.id t
          → F (suc k) d.id i.no p ≡ cond (is_same_dp t d.id) (b + total (λ (q : Port). cond (gets_flood s tdp i.no w y q) (here tdp.id q.no (as_sent q w.vid y)) 0) tdp.ports) (b + total (λ (q : Port). cond (is_flooded s tdp w y q) (here tdp.id q.no (as_sent q w.vid y)) 0) tdp.ports)
      in_part may tdp t_is t_same joined =
          let at = comes conf now d i p w y c.comes c.shaped admission routing in
          let root = root_exists s (is conf valid now.ups) d.id node in
          let t_root = root_shared s (is conf valid now.ups) d.id t root.0 joined root.1 in
          let most = size_most s (is conf valid now.ups) root.0 d.id i.no in
          let few = (is conf valid now.ups).at_most_64 in
          begun
          ∙ floods.begun conf now valid t here quiet b F next w c.comes.is_vlan y at.shaped at.in_vlan may d everywhere root.0 root.1 tdp t_is t_same t_root k i.no free d_is (omega (arith, most, few, enough))
          ∙ brings_is s (is conf valid now.ups) root.0 (ports_of conf) (have conf valid now.ups) t t_root _ _ _ d.id i.no
          ∙ settled (is_same_dp t d.id) _ _ _ _ _ (free_toward s (is conf valid now.ups) root.0 d.id i.no t free)
          (at_t_is conf now valid t here quiet b F next w c.comes.is_vlan y at.shaped at.in_vlan may d everywhere root.0 root.1 tdp t_is t_same t_root i.no)
          (from_stack_is conf now valid t here quiet b F next w c.comes.is_vlan y at.shaped at.in_vlan may d everywhere root.0 root.1 tdp t_is t_same t_root)

      pub out_of_part : ((e : DpId) (n : ℕ) (x : Packet) → F 0 e n x ≡ 0) → (is_group y.dst || w.unicast_flood) ≡ true → (IsJoined s d.id t → ⊥) → F (suc k) d.id i.no p ≡ 0
      out_of_part nothing may apart =
          let at = comes conf now d i p w y c.comes c.shaped admission routing in
          let root = root_exists s (is conf valid now.ups) d.id node in
          begun ∙ floods.begun_apart conf now valid t here quiet b F next w c.comes.is_vlan y at.shaped at.in_vlan may d everywhere root.0 root.1 nothing apart k i.no d_is

    -- ---- a known host

    module _ (h : HostRec) (for : IsFor conf now d w y h) where
      pub to_host : (d.id ≡ h.dp → h.port ≡ i.no → ⊥) → F (suc k) d.id i.no p ≡ cond (below s (is conf valid now.ups) h.dp t d.id) b 0 + option_map_or (λ (q : Port). here h.dp h.port (as_sent q w.vid y)) (port_at conf h.dp h.port) 0
      to_host elsewhere =
          let at = comes conf now d i p w y c.comes c.shaped admission routing in
          let far = distance_exists s d.id h.dp for.joined in
          let less = distance_small s (is conf valid now.ups) h.dp far.0 d.id far.1 in
          let few = (is conf valid now.ups).at_most_64 in
          begun ∙ hosts.begun conf now valid c.network.state t here quiet b F next w c.comes.is_vlan y at.shaped at.in_vlan d d_is h for.known for.joined k far.0 i.no free far.1 (omega (arith, less, few, enough)) elsewhere

      pub to_itself : d.id ≡ h.dp → h.port ≡ i.no → F (suc k) d.id i.no p ≡ cond (below s (is conf valid now.ups) h.dp t d.id) b 0
      to_itself same back =
          let at = comes conf now d i p w y c.comes c.shaped admission routing in
          begun ∙ hosts.begun_there conf now valid c.network.state t here quiet b F next w c.comes.is_vlan y at.shaped at.in_vlan d d_is h for.known for.joined k i i_is c.no_hairpin same back
