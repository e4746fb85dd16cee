-- Numbers that are added up over what a datapath sends: what a send over a link brings at its other end, and
-- what any other brings here.
use Rattle.std.proofs.Common.{◌≡◌, ℕ, ◌+◌, ◌==◌, ◌&&◌, ◌||◌, Bool, true, false, not, cond, Option, Some, None, List, [], ◌++◌, map, filter, refl, inl, inr, sym, ap, ◌∙◌, arith}
use Rattle.std.specs.Prelude.{Contains}
use Rattle.std.specs.List.{flat_map}
use Rattle.std.specs.Option.{option_map_or}
use Rattle.std.proofs.lemmas.Bool.{and_parts, or_right, or_cases, both_ways, cases_Bool}
use Rattle.net_base.specs.Address.{is_group}
use Rattle.net_base.specs.declared.numbers.DpId.{DpId}
use Rattle.of_match.specs.declared.action.TheConstants.{CONTROLLER}
use Rattle.of_match.specs.declared.packet.Packet.{Packet}
use Rattle.of_match.specs.declared.packet.Sent.{Sent}
use Rattle.stack_paths.specs.Chosen.{Step, is_same_dp, is_tree_port}
use Rattle.stack_paths.specs.Stack.{Stack}
use Rattle.conf_types.specs.declared.datapath.Dp.{Dp}
use Rattle.conf_types.specs.declared.datapath.Port.{Port}
use Rattle.conf_types.specs.declared.vlan.Vlan.{Vlan}
use Rattle.conf_types.specs.Configuration.{Configuration, dp_with}
use Rattle.conf_types.specs.Lists.{is_among}
use Rattle.conf_types.specs.Membership.{is_edge, is_stack, is_native_in, is_tagged_in, is_edge_member, is_mirror_of, mirrors_of}
use Rattle.conf_types.specs.State.{State}
use Rattle.conf_types.specs.Valid.{IsValid}
use Rattle.packet_way.specs.Flood.{is_flooded, gets_flood, flooded}
use Rattle.packet_way.specs.Known.{stack_of}
use Rattle.packet_way.specs.Leaving.{sent, copies, to_controller, without_tag, as_sent, delivered}
use Rattle.packet_way.proofs.Members.{stack_has_no_native}
use Rattle.law_trees.specs.Ways.{IsNoEnd, step_at}
use Rattle.law_trees.proofs.Floods.{along, along_is}
use Rattle.law_trees.proofs.Sides.{no_step}
use Rattle.law_trees.proofs.Totals.{total, total_joined, total_filtered, total_flat, total_mapped, total_same, total_none, total_plus}
use Rattle.law_network.proofs.Ports.{is, ports_of, controller_free, own, edge_free, mirror_free, tree_stack, stack_is_port}

-- what a send brings at a datapath, by its port and its packet: nothing by a port that mirrors others, by an end of a stack link
-- and to the controller, and nothing at any datapath but t
pub record Quiet (conf : Configuration) (t : DpId) (brings : DpId → ℕ → Packet → ℕ) : Type 0 where
  pub mirror : (d : Dp) (m : Port) → dp_with conf.dps d.id ≡ Some d → Contains d.ports m → (m.mirror ≡ [] → ⊥) → (x : Packet) → brings d.id m.no x ≡ 0
  pub stack : (d : Dp) (q : Port) → dp_with conf.dps d.id ≡ Some d → Contains d.ports q → is_stack q ≡ true → (x : Packet) → brings d.id q.no x ≡ 0
  pub controller : (d : DpId) (x : Packet) → brings d CONTROLLER x ≡ 0
  pub elsewhere : (d : DpId) (n : ℕ) (x : Packet) → is_same_dp t d ≡ false → brings d n x ≡ 0

either_none : (b : Bool) → ◌≡◌ {A = ℕ} (cond b 0 0) 0
either_none true = refl
either_none false = refl

module _ (conf : Configuration) (now : State) (valid : IsValid conf) (t : DpId) (here : DpId → ℕ → Packet → ℕ) (quiet : Quiet conf t here) (rest : DpId → ℕ → Packet → ℕ) where
  abbrev s : Stack
  s = stack_of conf now.ups

  -- what a send brings
  abbrev pub weight : DpId → Sent → ℕ
  weight d x = option_map_or (λ (w : Step). rest w.far w.far_port x.packet) (step_at s d x.port) (here d x.port x.packet)

  pub weight_free : (d : DpId) (n : ℕ) (x : Packet) → IsNoEnd s d n → weight d (sent n x) ≡ here d n x
  weight_free d n x free = ap (λ o. option_map_or (λ (w : Step). rest w.far w.far_port x) o (here d n x)) (no_step s (is conf valid now.ups) d n free)

  pub controlled : (d : DpId) (x : Packet) → total (weight d) (to_controller x) ≡ 0
  controlled d x = let none = weight_free d CONTROLLER x (controller_free conf valid now.ups d) ∙ quiet.controller d x in omega (arith, none)

  module _ (d : Dp) (dp_is : dp_with conf.dps d.id ≡ Some d) where
    mirrors_some : (m : Port) (n : ℕ) → is_mirror_of m n ≡ true → m.mirror ≡ [] → ⊥
    mirrors_some m n mirrors none = both_ways (is_mirror_of m n) (ap (λ ns. is_among ns n) none) mirrors

    pub copied : (n : ℕ) (x : Packet) → total (weight d.id) (copies (mirrors_of d n) x) ≡ 0
    copied n x =
        total_mapped (weight d.id) (λ (m : Port). sent m.no x) (mirrors_of d n)
        ∙ total_filtered (λ (m : Port). weight d.id (sent m.no x)) (λ (m : Port). m.enabled && is_mirror_of m n) d.ports
        ∙ total_none (λ (m : Port). cond (m.enabled && is_mirror_of m n) (weight d.id (sent m.no x)) 0) d.ports (λ m c. elim (cases_Bool (m.enabled && is_mirror_of m n)) [
          | inl is_one ↦
              let mirrors = mirrors_some m n (and_parts m.enabled (is_mirror_of m n) is_one).1 in
              rw is_one (weight_free d.id m.no x (mirror_free conf valid now.ups d dp_is m c mirrors) ∙ quiet.mirror d m dp_is c mirrors x)
          | inr isnt ↦ rw isnt refl
        ])

    pub one_delivered : (vid : ℕ) (y : Packet) (q : Port) → total (weight d.id) (delivered d vid y q) ≡ weight d.id (sent q.no (as_sent q vid y))
    one_delivered vid y q = let none = copied q.no (as_sent q vid y) in omega (arith, none)

    edge_of : (q : Port) (vid : ℕ) → is_edge_member q vid ≡ true → is_edge q ≡ true
    edge_of q vid member = (and_parts (is_edge q) (is_native_in q vid || is_tagged_in q vid) member).0

    -- an edge port sends once, and its mirrors bring nothing
    pub edge_delivered : (vid : ℕ) (y : Packet) (q : Port) → Contains d.ports q → is_edge q ≡ true → total (weight d.id) (delivered d vid y q) ≡ here d.id q.no (as_sent q vid y)
    edge_delivered vid y q c edge = one_delivered vid y q ∙ weight_free d.id q.no (as_sent q vid y) (edge_free conf valid now.ups d dp_is q c edge)

    module _ (v : Vlan) (y : Packet) (port : ℕ) where
      -- what the flood brings over a port of the tree, and what it brings here by a port
      abbrev through : Port → ℕ
      through q = cond (is_tree_port s d.id q.no) (cond (q.no == port) 0 (option_map_or (λ (w : Step). rest w.far w.far_port y) (step_at s d.id q.no) 0)) 0

      abbrev pub by_port : Port → ℕ
      by_port q = cond (gets_flood s d port v y q) (here d.id q.no (as_sent q v.vid y)) 0

      on_tree : (q : Port) → Contains d.ports q → is_tree_port s d.id q.no ≡ true → cond (gets_flood s d port v y q) (weight d.id (sent q.no (as_sent q v.vid y))) 0 ≡ through q + by_port q
      on_tree q c tree =
          let stack = tree_stack conf valid now.ups d dp_is q c tree in
          let none = quiet.stack d q dp_is c stack (as_sent q v.vid y) in
          let hairpin = (stack_is_port conf valid now.ups d dp_is q c stack).2.no_hairpin in
          let whole : as_sent q v.vid y ≡ y = ap (λ b. cond b (without_tag y) y) (stack_has_no_native conf valid d.id d dp_is q (own conf valid now.ups d dp_is q c) v.vid stack) in
          let gets : gets_flood s d port v y q ≡ (true && (not (q.no == port) || false)) =
          ap (λ b. b && (not (q.no == port) || q.hairpin)) (or_right (is_edge_member q v.vid && (is_group y.dst || q.unicast_flood)) (is_tree_port s d.id q.no) tree) ∙ ap (λ b. true && (not (q.no == port) || b)) hairpin in
          ap (λ b. cond b (weight d.id (sent q.no (as_sent q v.vid y))) 0) gets
          ∙ by (q.no == port) (step_at s d.id q.no) whole none
          ∙ ap (λ b. cond b (cond (q.no == port) 0 (option_map_or (λ (w : Step). rest w.far w.far_port y) (step_at s d.id q.no) 0)) 0 + cond (true && (not (q.no == port) || false)) (here d.id q.no (as_sent q v.vid y)) 0) (sym tree)
          ∙ ap (λ b. through q + cond b (here d.id q.no (as_sent q v.vid y)) 0) (sym gets)
        where
          by : (b : Bool) (o : Option Step) → as_sent q v.vid y ≡ y → here d.id q.no (as_sent q v.vid y) ≡ 0
              → cond (true && (not b || false)) (option_map_or (λ (w : Step). rest w.far w.far_port (as_sent q v.vid y)) o (here d.id q.no (as_sent q v.vid y))) 0
              ≡ cond true (cond b 0 (option_map_or (λ (w : Step). rest w.far w.far_port y) o 0)) 0 + cond (true && (not b || false)) (here d.id q.no (as_sent q v.vid y)) 0
          by true o whole none = omega arith
          by false None whole none = omega (arith, none)
          by false (Some w) whole none = let same : rest w.far w.far_port (as_sent q v.vid y) ≡ rest w.far w.far_port y = ap (rest w.far w.far_port) whole in omega (arith, none, same)

      off_tree : (q : Port) → Contains d.ports q → is_tree_port s d.id q.no ≡ false → cond (gets_flood s d port v y q) (weight d.id (sent q.no (as_sent q v.vid y))) 0 ≡ through q + by_port q
      off_tree q c tree =
          let none : through q ≡ 0 = ap (λ b. cond b (cond (q.no == port) 0 (option_map_or (λ (w : Step). rest w.far w.far_port y) (step_at s d.id q.no) 0)) 0) tree in
          elim (cases_Bool (gets_flood s d port v y q)) [
            | inl gets ↦
                let flooded_too = (and_parts (is_flooded s d v y q) (not (q.no == port) || q.hairpin) gets).0 in
                let member : is_edge_member q v.vid ≡ true = elim (or_cases (is_edge_member q v.vid && (is_group y.dst || q.unicast_flood)) (is_tree_port s d.id q.no) flooded_too) [
                  | inl m ↦ (and_parts (is_edge_member q v.vid) (is_group y.dst || q.unicast_flood) m).0
                  | inr is_tree ↦ absurd (both_ways (is_tree_port s d.id q.no) tree is_tree)
                ] in
                let brought = weight_free d.id q.no (as_sent q v.vid y) (edge_free conf valid now.ups d dp_is q c (edge_of q v.vid member)) in
                rw gets (omega (arith, none, brought))
            | inr gets ↦ rw gets (omega (arith, none))
          ]

      each_port : (q : Port) → Contains d.ports q → cond (gets_flood s d port v y q) (total (weight d.id) (delivered d v.vid y q)) 0 ≡ through q + by_port q
      each_port q c = ap (λ n. cond (gets_flood s d port v y q) n 0) (one_delivered v.vid y q) ∙ elim (cases_Bool (is_tree_port s d.id q.no)) [ inl tree ↦ on_tree q c tree | inr tree ↦ off_tree q c tree ]

      -- a flood brings what it brings here, and what the rest of it brings over the ports of the tree
      pub flood_brings : (r : DpId) → (is_group y.dst || v.unicast_flood) ≡ true
          → total (weight d.id) (flooded s d port v y) ≡ along s (is conf valid now.ups) r (ports_of conf) (λ e q. rest e q y) d.id port + total by_port d.ports
      unfolding flooded
      flood_brings r may =
          let xs : total (weight d.id) (flooded s d port v y) ≡ total (weight d.id) (flat_map (delivered d v.vid y) (filter (gets_flood s d port v y) d.ports)) = ap (λ b. total (weight d.id) (cond b (flat_map (delivered d v.vid y) (filter (gets_flood s d port v y) d.ports)) [])) may in
          let listed : ports_of conf d.id ≡ map (λ (q : Port). q.no) d.ports = ap (λ (o : Option Dp). option_map_or (λ (e : Dp). map (λ (q : Port). q.no) e.ports) o []) dp_is in
          let by_number = λ (x : ℕ). cond (is_tree_port s d.id x) (cond (x == port) 0 (option_map_or (λ (w : Step). rest w.far w.far_port y) (step_at s d.id x) 0)) 0 in
          let tree : along s (is conf valid now.ups) r (ports_of conf) (λ e q. rest e q y) d.id port ≡ total through d.ports =
          along_is s (is conf valid now.ups) r (ports_of conf) (λ e q. rest e q y) d.id port ∙ ap (total by_number) listed ∙ total_mapped by_number (λ (q : Port). q.no) d.ports in
          xs
          ∙ total_flat (weight d.id) (delivered d v.vid y) (filter (gets_flood s d port v y) d.ports)
          ∙ total_filtered (λ (q : Port). total (weight d.id) (delivered d v.vid y q)) (gets_flood s d port v y) d.ports
          ∙ total_same (λ (q : Port). cond (gets_flood s d port v y q) (total (weight d.id) (delivered d v.vid y q)) 0) (λ (q : Port). through q + by_port q) d.ports each_port
          ∙ total_plus through by_port d.ports
          ∙ ap (λ (n : ℕ). n + total by_port d.ports) (sym tree)

      pub no_flood : (is_group y.dst || v.unicast_flood) ≡ false → total (weight d.id) (flooded s d port v y) ≡ 0
      unfolding flooded
      no_flood may_not = ap (λ b. total (weight d.id) (cond b (flat_map (delivered d v.vid y) (filter (gets_flood s d port v y) d.ports)) [])) may_not

    -- what mirrors and the controller get brings nothing: before the packet comes to the step of destinations
    pub extras : (n : ℕ) (p x : Packet) (b : Bool) (on : List Sent) → total (weight d.id) (copies (mirrors_of d n) p ++ (cond b (to_controller x) [] ++ on)) ≡ total (weight d.id) on
    extras n p x b on =
        let first = total_joined (weight d.id) (copies (mirrors_of d n) p) (cond b (to_controller x) [] ++ on) in
        let second = total_joined (weight d.id) (cond b (to_controller x) []) on in
        let none = copied n p in
        let none_too : total (weight d.id) (cond b (to_controller x) []) ≡ 0 = by b in
        omega (arith, first, second, none, none_too)
      where
        by : (b : Bool) → total (weight d.id) (cond b (to_controller x) []) ≡ 0
        by true = controlled d.id x
        by false = refl
