-- The counts of arrivals, of visits and of cuts of a packet that comes in.
use Rattle.std.proofs.Common.{◌≡◌, ◌⊎◌, ℕ, zero, suc, ◌+◌, ◌^◌, ◌<◌, ◌≤◌, ◌==◌, ◌&&◌, ◌||◌, Bool, true, false, not, cond, Option, Some, None, count_by, refl, inl, inr, sym, ap, ◌∙◌, subst, arith}
use Rattle.std.specs.Prelude.{Contains, option_and_then}
use Rattle.std.specs.Option.{option_map_or}
use Rattle.std.proofs.lemmas.Bool.{and_parts, and_from, and_left, or_cases, or_from, or_left, or_right, both_ways, eqb-true, eq-eqb, ne_eqb, not_from_false, false_from_ne_true, cases_Bool}
use Rattle.std.proofs.lemmas.Option.{same_Some}
use Rattle.net_base.specs.Address.{is_group}
use Rattle.net_base.specs.declared.numbers.DpId.{DpId}
use Rattle.of_match.specs.Shaped.{IsShaped}
use Rattle.of_match.specs.declared.packet.Packet.{Packet}
use Rattle.stack_paths.specs.Chosen.{is_same_dp, is_tree_port}
use Rattle.stack_paths.specs.Stack.{Stack, IsJoined}
use Rattle.stack_paths.proofs.ChosenWalks.{same_dp, dp_same}
use Rattle.conf_types.specs.declared.datapath.Dp.{Dp}
use Rattle.conf_types.specs.declared.datapath.Port.{Port}
use Rattle.conf_types.specs.declared.state.HostRec.{HostRec}
use Rattle.conf_types.specs.declared.vlan.Vlan.{Vlan}
use Rattle.conf_types.specs.Configuration.{Configuration, dp_with, port_with, port_at}
use Rattle.conf_types.specs.Membership.{is_stack, is_edge_member}
use Rattle.conf_types.specs.State.{State}
use Rattle.packet_way.specs.Description.{sends}
use Rattle.packet_way.specs.Flood.{is_flooded, gets_flood}
use Rattle.packet_way.specs.Known.{stack_of}
use Rattle.packet_way.specs.Leaving.{as_sent}
use Rattle.packet_way.proofs.Ports.{found, only_port, datapath, edge_is_no_stack}
use Rattle.plan_units.specs.Laws.{IsSetting, AdmissionLaw, RoutingLaw}
use Rattle.cold_start.specs.Cold.{cold}
use Rattle.law_runs.specs.Runs.{SendsJust}
use Rattle.net_walk.specs.declared.arrival.Arrival.{Arrival}
use Rattle.net_walk.specs.Arrivals.{arrivals}
use Rattle.law_trees.proofs.Lines.{below}
use Rattle.law_trees.proofs.Roots.{joined_known}
use Rattle.law_trees.proofs.Totals.{total, total_none, total_once, total_same, count_is as count_is_total}
use Rattle.law_network.specs.Coming.{ComesIn, IsEdgePort, IsFlooded, may_flood, IsFor}
use Rattle.law_network.specs.Visited.{arrives_at, visited}
use Rattle.law_network.proofs.Counts.{nowhere, nowhere_is, nowhere_quiet, visits, visits_is, no_visits, visits_next, cuts, cuts_next, arrivals_same, at_port, at_port_is, at_port_quiet, arrive, arrive_is, none_arrive, arrive_next}
use Rattle.law_network.proofs.Outcomes.{d_is, i_is, node, dp_of, way, no_more, in_part, out_of_part, to_host, to_itself}
use Rattle.law_network.proofs.Ports.{is, tree_stack, one_has}

either_none : (b : Bool) → ◌≡◌ {A = ℕ} (cond b 0 0) 0
either_none true = refl
either_none false = refl

module _ (cold_law : (conf : Configuration) (now : State) (d : Dp) → IsSetting conf now d → (port : ℕ) (p : Packet) → port < 2 ^ 32 → IsShaped p → SendsJust (cold conf now d) port 0 p (sends conf now d.id port p))
    (admission_law : (conf : Configuration) (now : State) (d : Dp) → IsSetting conf now d → AdmissionLaw conf now d)
    (routing_law : (conf : Configuration) (now : State) (d : Dp) → IsSetting conf now d → RoutingLaw conf now d)
    (conf : Configuration) (now : State) (d : Dp) (i : Port) (p : Packet) (w : Vlan) (y : Packet) (c : ComesIn conf now d i p w y) where
  abbrev s : Stack
  s = stack_of conf now.ups

  pub setting : (e : Dp) → dp_with conf.dps e.id ≡ Some e → IsSetting conf now e
  setting e e_is = record { valid = c.network.valid; state = c.network.state; addresses = c.network.addresses; is_dp = e_is }

  pub sent : (e : Dp) (port : ℕ) (x : Packet) → dp_with conf.dps e.id ≡ Some e → port < 2 ^ 32 → IsShaped x → SendsJust (cold conf now e) port 0 x (sends conf now e.id port x)
  sent e port x e_is fits shaped = cold_law conf now e (setting e e_is) port x fits shaped

  admission : AdmissionLaw conf now d
  admission = admission_law conf now d (setting d c.comes.let_in.is_dp)

  routing : RoutingLaw conf now d
  routing = routing_law conf now d (setting d c.comes.let_in.is_dp)

  -- ---- arrivals at an edge port

  module _ (k : ℕ) (enough : 64 ≤ suc k) (e : Dp) (q : Port) (at : IsEdgePort conf e q) (test : Packet → Bool) where
    abbrev here : DpId → ℕ → Packet → ℕ
    here = at_port conf now c.network.valid sent e at.is_dp q at.is_port at.edge test

    abbrev count : ℕ
    count = count_by (λ (a : Arrival). arrives_at e.id q.no a && test a.packet) (arrivals conf now (suc k) d.id i.no p)

    -- the packet as the port sends it is counted where it passes the test
    abbrev counts : ℕ
    counts = cond (test (as_sent q w.vid y)) 1 0

    count_is : arrive conf now c.network.valid sent e at.is_dp q at.is_port at.edge test (suc k) d.id i.no p ≡ count
    count_is = arrive_is conf now c.network.valid sent e at.is_dp q at.is_port at.edge test (suc k) d.id i.no p

    inside : Contains e.ports q
    inside = (found (λ (m : Port). m.no == q.no) e.ports q at.is_port).0

    -- over all ports only this one is counted
    pick : (g : Port → Bool) → total (λ (m : Port). cond (g m) (here e.id m.no (as_sent m w.vid y)) 0) e.ports ≡ cond (g q) counts 0
    pick g =
        total_same (λ (m : Port). cond (g m) (here e.id m.no (as_sent m w.vid y)) 0) (λ (m : Port). cond (m.no == q.no) (cond (g q) counts 0) 0) e.ports
        (λ m in_ports. elim (cases_Bool (m.no == q.no)) [
          | inl same ↦
              let is_q : m ≡ q = only_port conf c.network.valid e.id e at.is_dp q.no q m at.is_port in_ports (eqb-true m.no q.no same) in
              let one : here e.id m.no (as_sent m w.vid y) ≡ cond (test (as_sent m w.vid y)) 1 0 =
              at_port_is conf now c.network.valid sent e at.is_dp q at.is_port at.edge test e.id m.no (as_sent m w.vid y)
              ∙ ap (λ b. cond b (cond (m.no == q.no) (cond (test (as_sent m w.vid y)) 1 0) 0) 0) (dp_same e.id e.id refl) ∙ ap (λ b. cond b (cond (test (as_sent m w.vid y)) 1 0) 0) same in
              ap (λ n. cond (g m) n 0) one ∙ ap (λ (x : Port). cond (g x) (cond (test (as_sent x w.vid y)) 1 0) 0) is_q ∙ sym (ap (λ b. cond b (cond (g q) counts 0) 0) same)
          | inr other ↦
              let none : here e.id m.no (as_sent m w.vid y) ≡ 0 =
              at_port_is conf now c.network.valid sent e at.is_dp q at.is_port at.edge test e.id m.no (as_sent m w.vid y)
              ∙ ap (λ b. cond (is_same_dp e.id e.id) (cond b (cond (test (as_sent m w.vid y)) 1 0) 0) 0) other ∙ either_none (is_same_dp e.id e.id) in
              ap (λ n. cond (g m) n 0) none ∙ either_none (g m) ∙ sym (ap (λ b. cond b (cond (g q) counts 0) 0) other)
        ])
        ∙ total_once (λ (m : Port). m.no == q.no) (cond (g q) counts 0) e.ports (one_has (λ (m : Port). m.no) e.ports (datapath conf c.network.valid e.id e at.is_dp).in_order q inside)

    off_tree : is_tree_port s e.id q.no ≡ false
    off_tree = false_from_ne_true (is_tree_port s e.id q.no) (λ tree. both_ways (is_stack q) (edge_is_no_stack q at.edge) (tree_stack conf c.network.valid now.ups e at.is_dp q inside tree))

    -- ---- of a flood

    module _ (everywhere : IsFlooded conf now d w y) where
      in_the_part : (is_group y.dst || w.unicast_flood) ≡ true → IsJoined s d.id e.id → count ≡ cond (is_same_dp e.id d.id) (cond (gets_flood s e i.no w y q) counts 0) (cond (is_flooded s e w y q) counts 0)
      in_the_part may joined =
          sym count_is
          ∙ in_part conf now d i p w y c admission routing e.id here (at_port_quiet conf now c.network.valid sent e at.is_dp q at.is_port at.edge test) 0 (arrive conf now c.network.valid sent e at.is_dp q at.is_port at.edge test) (arrive_next conf now c.network.valid sent e at.is_dp q at.is_port at.edge test) k enough everywhere may e at.is_dp refl joined
          ∙ ap (λ n. cond (is_same_dp e.id d.id) n (0 + total (λ (m : Port). cond (is_flooded s e w y m) (here e.id m.no (as_sent m w.vid y)) 0) e.ports)) (plain (gets_flood s e i.no w y))
          ∙ ap (λ n. cond (is_same_dp e.id d.id) (cond (gets_flood s e i.no w y q) counts 0) n) (plain (is_flooded s e w y))
        where
          plain : (g : Port → Bool) → 0 + total (λ (m : Port). cond (g m) (here e.id m.no (as_sent m w.vid y)) 0) e.ports ≡ cond (g q) counts 0
          plain g = let picked = pick g in omega (arith, picked)

      not_in_part : (is_group y.dst || w.unicast_flood) ≡ true → (IsJoined s d.id e.id → ⊥) → count ≡ 0
      not_in_part may apart =
          sym count_is
          ∙ out_of_part conf now d i p w y c admission routing e.id here (at_port_quiet conf now c.network.valid sent e at.is_dp q at.is_port at.edge test) 0 (arrive conf now c.network.valid sent e at.is_dp q at.is_port at.edge test) (arrive_next conf now c.network.valid sent e at.is_dp q at.is_port at.edge test) k enough everywhere (none_arrive conf now c.network.valid sent e at.is_dp q at.is_port at.edge test) may apart

      not_at_all : (is_group y.dst || w.unicast_flood) ≡ false → count ≡ 0
      not_at_all may_not =
          sym count_is
          ∙ no_more conf now d i p w y c admission routing e.id here (at_port_quiet conf now c.network.valid sent e at.is_dp q at.is_port at.edge test) 0 (arrive conf now c.network.valid sent e at.is_dp q at.is_port at.edge test) (arrive_next conf now c.network.valid sent e at.is_dp q at.is_port at.edge test) k enough everywhere may_not
          ∙ either_none (is_same_dp e.id d.id)

      pub once : IsJoined s d.id e.id → is_edge_member q w.vid ≡ true → may_flood w y q ≡ true → (e.id ≡ d.id → q.no ≡ i.no → ⊥) → count ≡ counts
      once joined member may other =
          in_the_part flows joined ∙ by (is_same_dp e.id d.id) refl
        where
          flows : (is_group y.dst || w.unicast_flood) ≡ true
          flows = elim (or_cases (is_group y.dst) (w.unicast_flood && q.unicast_flood) may) [
            | inl group ↦ or_left (is_group y.dst) w.unicast_flood group
            | inr single ↦ or_right (is_group y.dst) w.unicast_flood (and_parts w.unicast_flood q.unicast_flood single).0
          ]

          by_port : (is_group y.dst || q.unicast_flood) ≡ true
          by_port = elim (or_cases (is_group y.dst) (w.unicast_flood && q.unicast_flood) may) [
            | inl group ↦ or_left (is_group y.dst) q.unicast_flood group
            | inr single ↦ or_right (is_group y.dst) q.unicast_flood (and_parts w.unicast_flood q.unicast_flood single).1
          ]

          gets : is_flooded s e w y q ≡ true
          gets = or_left (is_edge_member q w.vid && (is_group y.dst || q.unicast_flood)) (is_tree_port s e.id q.no) (and_from (is_edge_member q w.vid) (is_group y.dst || q.unicast_flood) member by_port)

          by : (b : Bool) → is_same_dp e.id d.id ≡ b → ◌≡◌ {A = ℕ} (cond b (cond (gets_flood s e i.no w y q) counts 0) (cond (is_flooded s e w y q) counts 0)) counts
          by false apart = ap (λ b. cond b counts 0) gets
          by true same =
              let differs : (q.no == i.no) ≡ false = ne_eqb q.no i.no (other (same_dp e.id d.id same)) in
              ap (λ b. cond b counts 0) (and_from (is_flooded s e w y q) (not (q.no == i.no) || q.hairpin) gets (or_left (not (q.no == i.no)) q.hairpin (not_from_false (q.no == i.no) differs)))

      -- nowhere else
      unless : ((b : Bool) → is_same_dp e.id d.id ≡ b → ◌≡◌ {A = ℕ} (cond b (cond (gets_flood s e i.no w y q) counts 0) (cond (is_flooded s e w y q) counts 0)) 0) → count ≡ 0
      unless none =
          elim (cases_Bool (is_group y.dst || w.unicast_flood)) [
            | inr may_not ↦ not_at_all may_not
            | inl may ↦ elim (joined_known s (is conf c.network.valid now.ups) d.id e.id) [
              | inl joined ↦ in_the_part may joined ∙ none (is_same_dp e.id d.id) refl
              | inr apart ↦ not_in_part may apart
            ]
          ]

      pub outside : is_edge_member q w.vid ≡ false → count ≡ 0
      outside no_member = unless by
        where
          none : is_flooded s e w y q ≡ false
          none = or_from (is_edge_member q w.vid && (is_group y.dst || q.unicast_flood)) (is_tree_port s e.id q.no) (and_left (is_edge_member q w.vid) (is_group y.dst || q.unicast_flood) no_member) off_tree

          by : (b : Bool) → is_same_dp e.id d.id ≡ b → ◌≡◌ {A = ℕ} (cond b (cond (gets_flood s e i.no w y q) counts 0) (cond (is_flooded s e w y q) counts 0)) 0
          by false apart = ap (λ b. cond b counts 0) none
          by true same = ap (λ b. cond b counts 0) (and_left (is_flooded s e w y q) (not (q.no == i.no) || q.hairpin) none)

      pub elsewhere : (IsJoined s d.id e.id → ⊥) → count ≡ 0
      elsewhere apart =
          elim (cases_Bool (is_group y.dst || w.unicast_flood)) [ inl may ↦ not_in_part may apart | inr may_not ↦ not_at_all may_not ]

      pub back : e.id ≡ d.id → q.no ≡ i.no → count ≡ 0
      back same number = unless by
        where
          dps : e ≡ d
          dps = same_Some e d (sym at.is_dp ∙ subst (λ x. dp_with conf.dps x ≡ Some d) (sym same) (d_is conf now d i p w y c admission routing))

          is_i : q ≡ i
          is_i = only_port conf c.network.valid d.id d (d_is conf now d i p w y c admission routing) i.no i q (i_is conf now d i p w y c admission routing) (subst (λ (x : Dp). Contains x.ports q) dps inside) number

          stays : (x a : Bool) → a ≡ true → (h : Bool) → h ≡ false → (x && (not a || h)) ≡ false
          stays true a came h isnt = rw (came, isnt) refl
          stays false a came h isnt = refl

          by : (b : Bool) → is_same_dp e.id d.id ≡ b → ◌≡◌ {A = ℕ} (cond b (cond (gets_flood s e i.no w y q) counts 0) (cond (is_flooded s e w y q) counts 0)) 0
          by true passes = ap (λ b. cond b counts 0) (stays (is_flooded s e w y q) (q.no == i.no) (eq-eqb q.no i.no number) q.hairpin (ap (λ (x : Port). x.hairpin) is_i ∙ c.no_hairpin))
          by false fails = absurd (both_ways (is_same_dp e.id d.id) fails (dp_same e.id d.id same))

    -- ---- of a packet for a host

    module _ (h : HostRec) (for : IsFor conf now d w y h) where
      -- what is counted at the port of the host
      at_host : ℕ
      at_host = option_map_or (λ (m : Port). here h.dp h.port (as_sent m w.vid y)) (port_at conf h.dp h.port) 0

      sent_to : (d.id ≡ h.dp → h.port ≡ i.no → ⊥) → count ≡ at_host
      unfolding at_host
      sent_to other =
          let way_none = either_none (below s (is conf c.network.valid now.ups) h.dp e.id d.id) in
          let all = to_host conf now d i p w y c admission routing e.id here (at_port_quiet conf now c.network.valid sent e at.is_dp q at.is_port at.edge test) 0 (arrive conf now c.network.valid sent e at.is_dp q at.is_port at.edge test) (arrive_next conf now c.network.valid sent e at.is_dp q at.is_port at.edge test) k enough h for other in
          sym count_is ∙ all ∙ omega (arith, way_none)

      at_host_is : e.id ≡ h.dp → q.no ≡ h.port → at_host ≡ counts
      unfolding at_host
      at_host_is same number =
          let found_at : port_at conf h.dp h.port ≡ Some q =
          ap (λ n. port_at conf h.dp n) (sym number) ∙ ap (λ x. port_at conf x q.no) (sym same) ∙ ap (λ (o : Option Dp). option_and_then (λ (x : Dp). port_with x.ports q.no) o) at.is_dp ∙ at.is_port in
          ap (λ (o : Option Port). option_map_or (λ (m : Port). here h.dp h.port (as_sent m w.vid y)) o 0) found_at
          ∙ at_port_is conf now c.network.valid sent e at.is_dp q at.is_port at.edge test h.dp h.port (as_sent q w.vid y)
          ∙ ap (λ b. cond b (cond (h.port == q.no) counts 0) 0) (dp_same e.id h.dp same) ∙ ap (λ b. cond b counts 0) (eq-eqb h.port q.no (sym number))

      not_at_host : (e.id ≡ h.dp → q.no ≡ h.port → ⊥) → at_host ≡ 0
      unfolding at_host
      not_at_host other = by (port_at conf h.dp h.port)
        where
          none : (x : Packet) (a : Bool) → is_same_dp e.id h.dp ≡ a → (b : Bool) → (h.port == q.no) ≡ b → ◌≡◌ {A = ℕ} (cond a (cond b (cond (test x) 1 0) 0) 0) 0
          none x false away b n = refl
          none x true same false n = refl
          none x true same true n = absurd (other (same_dp e.id h.dp same) (sym (eqb-true h.port q.no n)))

          by : (o : Option Port) → option_map_or (λ (m : Port). here h.dp h.port (as_sent m w.vid y)) o 0 ≡ 0
          by None = refl
          by (Some m) = at_port_is conf now c.network.valid sent e at.is_dp q at.is_port at.edge test h.dp h.port (as_sent m w.vid y) ∙ none (as_sent m w.vid y) (is_same_dp e.id h.dp) refl (h.port == q.no) refl

      pub host_once : e.id ≡ h.dp → q.no ≡ h.port → (d.id ≡ h.dp → h.port ≡ i.no → ⊥) → count ≡ counts
      host_once same number other = sent_to other ∙ at_host_is same number

      pub host_back : d.id ≡ h.dp → h.port ≡ i.no → count ≡ 0
      host_back same number =
          sym count_is
          ∙ to_itself conf now d i p w y c admission routing e.id here (at_port_quiet conf now c.network.valid sent e at.is_dp q at.is_port at.edge test) 0 (arrive conf now c.network.valid sent e at.is_dp q at.is_port at.edge test) (arrive_next conf now c.network.valid sent e at.is_dp q at.is_port at.edge test) k enough h for same number
          ∙ either_none (below s (is conf c.network.valid now.ups) h.dp e.id d.id)

      pub host_elsewhere : (e.id ≡ h.dp → q.no ≡ h.port → ⊥) → count ≡ 0
      host_elsewhere other =
          elim (cases_Bool (is_same_dp d.id h.dp)) [
            | inr away ↦ sent_to (λ same number. both_ways (is_same_dp d.id h.dp) away (dp_same d.id h.dp same)) ∙ not_at_host other
            | inl same ↦ elim (cases_Bool (h.port == i.no)) [
              | inl number ↦ host_back (same_dp d.id h.dp same) (eqb-true h.port i.no number)
              | inr differs ↦ sent_to (λ same number. both_ways (h.port == i.no) differs (eq-eqb h.port i.no number)) ∙ not_at_host other
            ]
          ]

  -- ---- visits

  module _ (k : ℕ) (enough : 64 ≤ suc k) where
    at_most : (b : Bool) → cond b 1 0 ≤ 1
    at_most true = omega arith
    at_most false = omega arith

    none_of : (e : Dp) (g : Port → Bool) → total (λ (m : Port). cond (g m) (nowhere conf now c.network.valid sent e.id m.no (as_sent m w.vid y)) 0) e.ports ≡ 0
    none_of e g = total_none (λ (m : Port). cond (g m) (nowhere conf now c.network.valid sent e.id m.no (as_sent m w.vid y)) 0) e.ports (λ m in_ports. ap (λ n. cond (g m) n 0) (nowhere_is conf now c.network.valid sent e.id m.no (as_sent m w.vid y)) ∙ either_none (g m))

    no_host : (h : HostRec) (o : Option Port) → option_map_or (λ (m : Port). nowhere conf now c.network.valid sent h.dp h.port (as_sent m w.vid y)) o 0 ≡ 0
    no_host h None = refl
    no_host h (Some m) = nowhere_is conf now c.network.valid sent h.dp h.port (as_sent m w.vid y)

    pub visited_once : (t : DpId) → count_by (is_same_dp t) (visited conf now (suc k) d.id i.no p) ≤ 1
    visited_once t = subst (λ n. n ≤ 1) (visits_is conf now c.network.valid sent t (suc k) d.id i.no p) (by (way conf now d i p w y c admission routing))
      where
        F : ℕ → DpId → ℕ → Packet → ℕ
        F = visits conf now c.network.valid sent t

        either : (b : Bool) (m n : ℕ) → m ≤ 1 → n ≤ 1 → cond b m n ≤ 1
        either true m n x y = x
        either false m n x y = y

        flood : IsFlooded conf now d w y → F (suc k) d.id i.no p ≤ 1
        flood everywhere =
            elim (cases_Bool (is_group y.dst || w.unicast_flood)) [
              | inr may_not ↦ subst (λ n. n ≤ 1) (sym (no_more conf now d i p w y c admission routing t (nowhere conf now c.network.valid sent) (nowhere_quiet conf now c.network.valid sent t) 1 F (visits_next conf now c.network.valid sent t) k enough everywhere may_not)) (at_most (is_same_dp t d.id))
              | inl may ↦ elim (joined_known s (is conf c.network.valid now.ups) d.id t) [
                | inr apart ↦ subst (λ n. n ≤ 1) (sym (out_of_part conf now d i p w y c admission routing t (nowhere conf now c.network.valid sent) (nowhere_quiet conf now c.network.valid sent t) 1 F (visits_next conf now c.network.valid sent t) k enough everywhere (no_visits conf now c.network.valid sent t) may apart)) (omega arith)
                | inl joined ↦
                    let e = dp_of conf now d i p w y c admission routing t joined in
                    let x = none_of e.0 (gets_flood s e.0 i.no w y) in
                    let z = none_of e.0 (is_flooded s e.0 w y) in
                    let all = in_part conf now d i p w y c admission routing t (nowhere conf now c.network.valid sent) (nowhere_quiet conf now c.network.valid sent t) 1 F (visits_next conf now c.network.valid sent t) k enough everywhere may e.0 e.1 e.2 joined in
                    subst (λ n. n ≤ 1) (sym all) (either (is_same_dp t d.id) _ _ (omega (arith, x)) (omega (arith, z)))
              ]
            ]

        there : (h : HostRec) → IsFor conf now d w y h → F (suc k) d.id i.no p ≤ 1
        there h for =
            elim (cases_Bool (is_same_dp d.id h.dp && h.port == i.no)) [
              | inl same ↦
                  let both = and_parts (is_same_dp d.id h.dp) (h.port == i.no) same in
                  subst (λ n. n ≤ 1) (sym (to_itself conf now d i p w y c admission routing t (nowhere conf now c.network.valid sent) (nowhere_quiet conf now c.network.valid sent t) 1 F (visits_next conf now c.network.valid sent t) k enough h for (same_dp d.id h.dp both.0) (eqb-true h.port i.no both.1))) (at_most (below s (is conf c.network.valid now.ups) h.dp t d.id))
              | inr other ↦
                  let most = at_most (below s (is conf c.network.valid now.ups) h.dp t d.id) in
                  let none = no_host h (port_at conf h.dp h.port) in
                  let all = to_host conf now d i p w y c admission routing t (nowhere conf now c.network.valid sent) (nowhere_quiet conf now c.network.valid sent t) 1 F (visits_next conf now c.network.valid sent t) k enough h for (λ same number. both_ways (is_same_dp d.id h.dp && h.port == i.no) other (and_from (is_same_dp d.id h.dp) (h.port == i.no) (dp_same d.id h.dp same) (eq-eqb h.port i.no number))) in
                  omega (arith, most, none, all)
            ]

        by : IsFlooded conf now d w y ⊎ ((h : HostRec) × IsFor conf now d w y h) → F (suc k) d.id i.no p ≤ 1
        by (inl everywhere) = flood everywhere
        by (inr (h, for)) = there h for

    -- ---- cuts

    pub never_cut : cuts conf now c.network.valid sent (suc k) d.id i.no p ≡ 0
    never_cut = by (way conf now d i p w y c admission routing)
      where
        F : ℕ → DpId → ℕ → Packet → ℕ
        F = cuts conf now c.network.valid sent

        either : (b : Bool) (m n : ℕ) → m ≡ 0 → n ≡ 0 → cond b m n ≡ 0
        either true m n x z = x
        either false m n x z = z

        flood : IsFlooded conf now d w y → F (suc k) d.id i.no p ≡ 0
        flood everywhere =
            elim (cases_Bool (is_group y.dst || w.unicast_flood)) [
              | inr may_not ↦ no_more conf now d i p w y c admission routing d.id (nowhere conf now c.network.valid sent) (nowhere_quiet conf now c.network.valid sent d.id) 0 F (cuts_next conf now c.network.valid sent d.id) k enough everywhere may_not ∙ either_none (is_same_dp d.id d.id)
              | inl may ↦
                  let x = none_of d (gets_flood s d i.no w y) in
                  let z = none_of d (is_flooded s d w y) in
                  in_part conf now d i p w y c admission routing d.id (nowhere conf now c.network.valid sent) (nowhere_quiet conf now c.network.valid sent d.id) 0 F (cuts_next conf now c.network.valid sent d.id) k enough everywhere may d (d_is conf now d i p w y c admission routing) refl (zero, (node conf now d i p w y c admission routing, refl))
                  ∙ either (is_same_dp d.id d.id) _ _ (omega (arith, x)) (omega (arith, z))
            ]

        there : (h : HostRec) → IsFor conf now d w y h → F (suc k) d.id i.no p ≡ 0
        there h for =
            elim (cases_Bool (is_same_dp d.id h.dp && h.port == i.no)) [
              | inl same ↦
                  let both = and_parts (is_same_dp d.id h.dp) (h.port == i.no) same in
                  to_itself conf now d i p w y c admission routing d.id (nowhere conf now c.network.valid sent) (nowhere_quiet conf now c.network.valid sent d.id) 0 F (cuts_next conf now c.network.valid sent d.id) k enough h for (same_dp d.id h.dp both.0) (eqb-true h.port i.no both.1)
                  ∙ either_none (below s (is conf c.network.valid now.ups) h.dp d.id d.id)
              | inr other ↦
                  let way_none = either_none (below s (is conf c.network.valid now.ups) h.dp d.id d.id) in
                  let none = no_host h (port_at conf h.dp h.port) in
                  to_host conf now d i p w y c admission routing d.id (nowhere conf now c.network.valid sent) (nowhere_quiet conf now c.network.valid sent d.id) 0 F (cuts_next conf now c.network.valid sent d.id) k enough h for (λ same number. both_ways (is_same_dp d.id h.dp && h.port == i.no) other (and_from (is_same_dp d.id h.dp) (h.port == i.no) (dp_same d.id h.dp same) (eq-eqb h.port i.no number)))
                  ∙ omega (arith, way_none, none)
            ]

        by : IsFlooded conf now d w y ⊎ ((h : HostRec) × IsFor conf now d w y h) → F (suc k) d.id i.no p ≡ 0
        by (inl everywhere) = flood everywhere
        by (inr (h, for)) = there h for

  pub walk_ends : (m : ℕ) → 64 ≤ m → arrivals conf now m d.id i.no p ≡ arrivals conf now 64 d.id i.no p
  walk_ends m more = arrivals_same conf now c.network.valid sent 64 m d.id i.no p (never_cut 63 (omega arith)) more

  -- ---- over any number of datapaths that is enough

  abbrev counted : ℕ → Dp → Port → (Packet → Bool) → ℕ
  counted k e q test = count_by (λ (a : Arrival). arrives_at e.id q.no a && test a.packet) (arrivals conf now k d.id i.no p)

  abbrev all : ℕ → Dp → Port → ℕ
  all k e q = count_by (arrives_at e.id q.no) (arrivals conf now k d.id i.no p)

  -- without a test
  untested : (k : ℕ) (e : Dp) (q : Port) → all k e q ≡ counted k e q (λ x. true)
  untested k e q =
      let made = arrivals conf now k d.id i.no p in
      count_is_total (arrives_at e.id q.no) made
      ∙ total_same (λ (a : Arrival). cond (arrives_at e.id q.no a) 1 0) (λ (a : Arrival). cond (arrives_at e.id q.no a && true) 1 0) made (λ a in_list. by (arrives_at e.id q.no a))
      ∙ sym (count_is_total (λ (a : Arrival). arrives_at e.id q.no a && true) made)
    where
      by : (b : Bool) → ◌≡◌ {A = ℕ} (cond b 1 0) (cond (b && true) 1 0)
      by true = refl
      by false = refl

  pub packet_from : (k : ℕ) → 64 ≤ k → (e : Dp) (q : Port) → IsEdgePort conf e q → (test : Packet → Bool) → test (as_sent q w.vid y) ≡ true → IsFlooded conf now d w y → IsJoined s d.id e.id → is_edge_member q w.vid ≡ true → may_flood w y q ≡ true → (e.id ≡ d.id → q.no ≡ i.no → ⊥) → counted k e q test ≡ 1
  packet_from zero enough e q at test passes everywhere joined member may other = absurd (omega (arith, enough))
  packet_from (suc k) enough e q at test passes everywhere joined member may other = once k enough e q at test everywhere joined member may other ∙ ap (λ b. cond b 1 0) passes

  pub once_from : (k : ℕ) → 64 ≤ k → (e : Dp) (q : Port) → IsEdgePort conf e q → IsFlooded conf now d w y → IsJoined s d.id e.id → is_edge_member q w.vid ≡ true → may_flood w y q ≡ true → (e.id ≡ d.id → q.no ≡ i.no → ⊥) → all k e q ≡ 1
  once_from zero enough e q at everywhere joined member may other = absurd (omega (arith, enough))
  once_from (suc k) enough e q at everywhere joined member may other = untested (suc k) e q ∙ once k enough e q at (λ x. true) everywhere joined member may other

  pub back_from : (k : ℕ) → 64 ≤ k → (e : Dp) (q : Port) → IsEdgePort conf e q → IsFlooded conf now d w y → e.id ≡ d.id → q.no ≡ i.no → all k e q ≡ 0
  back_from zero enough e q at everywhere same number = absurd (omega (arith, enough))
  back_from (suc k) enough e q at everywhere same number = untested (suc k) e q ∙ back k enough e q at (λ x. true) everywhere same number

  pub outside_from : (k : ℕ) → 64 ≤ k → (e : Dp) (q : Port) → IsEdgePort conf e q → IsFlooded conf now d w y → is_edge_member q w.vid ≡ false → all k e q ≡ 0
  outside_from zero enough e q at everywhere no_member = absurd (omega (arith, enough))
  outside_from (suc k) enough e q at everywhere no_member = untested (suc k) e q ∙ outside k enough e q at (λ x. true) everywhere no_member

  pub elsewhere_from : (k : ℕ) → 64 ≤ k → (e : Dp) (q : Port) → IsEdgePort conf e q → IsFlooded conf now d w y → (IsJoined s d.id e.id → ⊥) → all k e q ≡ 0
  elsewhere_from zero enough e q at everywhere apart = absurd (omega (arith, enough))
  elsewhere_from (suc k) enough e q at everywhere apart = untested (suc k) e q ∙ elsewhere k enough e q at (λ x. true) everywhere apart

  pub host_packet_from : (k : ℕ) → 64 ≤ k → (e : Dp) (q : Port) → IsEdgePort conf e q → (test : Packet → Bool) → test (as_sent q w.vid y) ≡ true → (h : HostRec) → IsFor conf now d w y h → e.id ≡ h.dp → q.no ≡ h.port → (d.id ≡ h.dp → h.port ≡ i.no → ⊥) → counted k e q test ≡ 1
  host_packet_from zero enough e q at test passes h for same number other = absurd (omega (arith, enough))
  host_packet_from (suc k) enough e q at test passes h for same number other = host_once k enough e q at test h for same number other ∙ ap (λ b. cond b 1 0) passes

  pub host_once_from : (k : ℕ) → 64 ≤ k → (e : Dp) (q : Port) → IsEdgePort conf e q → (h : HostRec) → IsFor conf now d w y h → e.id ≡ h.dp → q.no ≡ h.port → (d.id ≡ h.dp → h.port ≡ i.no → ⊥) → all k e q ≡ 1
  host_once_from zero enough e q at h for same number other = absurd (omega (arith, enough))
  host_once_from (suc k) enough e q at h for same number other = untested (suc k) e q ∙ host_once k enough e q at (λ x. true) h for same number other

  pub host_back_from : (k : ℕ) → 64 ≤ k → (e : Dp) (q : Port) → IsEdgePort conf e q → (h : HostRec) → IsFor conf now d w y h → d.id ≡ h.dp → h.port ≡ i.no → all k e q ≡ 0
  host_back_from zero enough e q at h for same number = absurd (omega (arith, enough))
  host_back_from (suc k) enough e q at h for same number = untested (suc k) e q ∙ host_back k enough e q at (λ x. true) h for same number

  pub host_elsewhere_from : (k : ℕ) → 64 ≤ k → (e : Dp) (q : Port) → IsEdgePort conf e q → (h : HostRec) → IsFor conf now d w y h → (e.id ≡ h.dp → q.no ≡ h.port → ⊥) → all k e q ≡ 0
  host_elsewhere_from zero enough e q at h for other = absurd (omega (arith, enough))
  host_elsewhere_from (suc k) enough e q at h for other = untested (suc k) e q ∙ host_elsewhere k enough e q at (λ x. true) h for other

  pub visited_from : (k : ℕ) → 64 ≤ k → (t : DpId) → count_by (is_same_dp t) (visited conf now k d.id i.no p) ≤ 1
  visited_from zero enough t = absurd (omega (arith, enough))
  visited_from (suc k) enough t = visited_once k enough t
