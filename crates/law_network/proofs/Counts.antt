-- What is counted along a walk: arrivals at an edge port, how often it comes to a datapath, and how often it is
-- cut off.
use Rattle.std.proofs.Common.{◌≡◌, ℕ, zero, suc, ◌+◌, ◌^◌, ◌<◌, ◌≤◌, ◌==◌, ◌&&◌, Bool, true, false, cond, Option, Some, None, List, [], ◌∷◌, ◌++◌, count_by, refl, inl, inr, sym, ap, ◌∙◌, subst, arith}
use Rattle.std.specs.Prelude.{Contains}
use Rattle.std.specs.List.{flat_map, list_any}
use Rattle.std.specs.Option.{option_map, option_map_or}
use Rattle.std.proofs.lemmas.Bool.{and_parts, both_ways, eqb-true, ne_eqb, cases_Bool}
use Rattle.std.proofs.lemmas.Option.{same_Some}
use Rattle.net_base.specs.declared.numbers.DpId.{DpId}
use Rattle.of_match.specs.Pipeline.{first_run}
use Rattle.of_match.specs.Shaped.{IsShaped}
use Rattle.of_match.specs.declared.action.TheConstants.{CONTROLLER}
use Rattle.of_match.specs.declared.packet.Packet.{Packet}
use Rattle.of_match.specs.declared.packet.Sent.{Sent}
use Rattle.stack_paths.specs.Chosen.{Step, is_same_dp}
use Rattle.stack_paths.proofs.ChosenWalks.{same_dp, any_found}
use Rattle.stack_paths.proofs.Finite.{contains_here, contains_there, contains_cons}
use Rattle.conf_types.specs.declared.datapath.Dp.{Dp}
use Rattle.conf_types.specs.declared.datapath.Port.{Port}
use Rattle.conf_types.specs.declared.datapath.StackEnd.{StackEnd}
use Rattle.conf_types.specs.Configuration.{Configuration, dp_with, port_with}
use Rattle.conf_types.specs.Links.{links}
use Rattle.conf_types.specs.Membership.{is_edge, is_stack}
use Rattle.conf_types.specs.State.{State}
use Rattle.conf_types.specs.Valid.{IsValid}
use Rattle.packet_way.specs.Description.{sends}
use Rattle.packet_way.specs.Known.{stack_of}
use Rattle.packet_way.proofs.Ports.{found, only_port, port_of, edge_mirrors_none, edge_is_no_stack}
use Rattle.cold_start.specs.Cold.{cold, cold_at}
use Rattle.law_runs.specs.Runs.{SendsJust}
use Rattle.net_walk.specs.declared.arrival.Arrival.{Arrival}
use Rattle.net_walk.specs.Arrivals.{far_end, is_stack_port, arrived, going_on, arrivals}
use Rattle.law_trees.specs.Ways.{step_at}
use Rattle.law_trees.proofs.Totals.{total, total_flat, total_same, count_is}
use Rattle.law_network.proofs.Runs.{run_totals, far_step, end_of}
use Rattle.law_network.proofs.Sends.{Quiet, weight}
use Rattle.law_network.specs.Visited.{arrives_at, visited}

either_none : (b : Bool) → ◌≡◌ {A = ℕ} (cond b 0 0) 0
either_none true = refl
either_none false = refl

plus_none : (n m : ℕ) → n ≡ 0 → m ≡ n + m
plus_none n m none = omega (arith, none)

module _ (conf : Configuration) (now : State) (valid : IsValid conf)
    (sent : (d : Dp) (port : ℕ) (p : Packet) → dp_with conf.dps d.id ≡ Some d → port < 2 ^ 32 → IsShaped p → SendsJust (cold conf now d) port 0 p (sends conf now d.id port p)) where
  -- ---- nothing is brought by what is sent elsewhere

  pub nowhere : DpId → ℕ → Packet → ℕ
  nowhere d n x = 0

  pub nowhere_is : (d : DpId) (n : ℕ) (x : Packet) → nowhere d n x ≡ 0
  unfolding nowhere
  nowhere_is d n x = refl

  pub nowhere_quiet : (t : DpId) → Quiet conf t nowhere
  unfolding nowhere
  nowhere_quiet t = record { mirror = λ d m is_dp c mirrors x. refl; stack = λ d q is_dp c stack x. refl; controller = λ d x. refl; elsewhere = λ d n x other. refl }

  -- ---- how often a walk comes to a datapath

  pub visits : DpId → ℕ → DpId → ℕ → Packet → ℕ
  visits t k d port p = count_by (is_same_dp t) (visited conf now k d port p)

  pub visits_is : (t : DpId) (k : ℕ) (d : DpId) (port : ℕ) (p : Packet) → visits t k d port p ≡ count_by (is_same_dp t) (visited conf now k d port p)
  unfolding visits
  visits_is t k d port p = refl

  pub no_visits : (t d : DpId) (port : ℕ) (p : Packet) → visits t 0 d port p ≡ 0
  unfolding visits visited
  no_visits t d port p = refl

  pub visits_next : (t : DpId) (k : ℕ) (d : Dp) (port : ℕ) (p : Packet) → dp_with conf.dps d.id ≡ Some d → port < 2 ^ 32 → IsShaped p
      → visits t (suc k) d.id port p ≡ cond (is_same_dp t d.id) 1 0 + total (weight conf now valid t nowhere (nowhere_quiet t) (visits t k) d.id) (sends conf now d.id port p)
  unfolding visits visited nowhere
  visits_next t k d port p d_is fits shaped =
      let ls = links conf now.ups in
      let run = first_run (cold_at conf now d.id) port p in
      let test = λ (e : DpId). cond (is_same_dp t e) 1 0 in
      let go = λ (s : Sent). option_map_or (λ far. visited conf now k far.dp far.port s.packet) (far_end ls d.id s.port) [] in
      count_is (is_same_dp t) (d.id ∷ flat_map go run)
      ∙ ap (λ (n : ℕ). cond (is_same_dp t d.id) 1 0 + n)
      (total_flat test go run
      ∙ total_same (λ s. total test (go s)) (weight conf now valid t nowhere (nowhere_quiet t) (λ e q x. count_by (is_same_dp t) (visited conf now k e q x)) d.id) run
      (λ s c. ap (λ o. total test (option_map_or (λ far. visited conf now k far.dp far.port s.packet) o [])) (far_step ls d.id s.port) ∙ by s (step_at (stack_of conf now.ups) d.id s.port))
      ∙ run_totals conf now d port p (weight conf now valid t nowhere (nowhere_quiet t) (λ e q x. count_by (is_same_dp t) (visited conf now k e q x)) d.id) d_is (sent d port p d_is fits shaped))
    where
      by : (s : Sent) (o : Option Step) → total (λ (e : DpId). cond (is_same_dp t e) 1 0) (option_map_or (λ far. visited conf now k far.dp far.port s.packet) (option_map end_of o) []) ≡ option_map_or (λ (z : Step). count_by (is_same_dp t) (visited conf now k z.far z.far_port s.packet)) o 0
      by s None = refl
      by s (Some z) = sym (count_is (is_same_dp t) (visited conf now k z.far z.far_port s.packet))

  -- ---- how often it is cut off

  pub cuts : ℕ → DpId → ℕ → Packet → ℕ
  cuts zero d port p = 1
  cuts (suc k) d port p = total (λ (s : Sent). option_map_or (λ far. cuts k far.dp far.port s.packet) (far_end (links conf now.ups) d s.port) 0) (first_run (cold_at conf now d) port p)

  pub cuts_next : (t : DpId) (k : ℕ) (d : Dp) (port : ℕ) (p : Packet) → dp_with conf.dps d.id ≡ Some d → port < 2 ^ 32 → IsShaped p
      → cuts (suc k) d.id port p ≡ cond (is_same_dp t d.id) 0 0 + total (weight conf now valid t nowhere (nowhere_quiet t) (cuts k) d.id) (sends conf now d.id port p)
  unfolding cuts nowhere
  cuts_next t k d port p d_is fits shaped =
      let ls = links conf now.ups in
      let run = first_run (cold_at conf now d.id) port p in
      let sum = total_same (λ (s : Sent). option_map_or (λ far. cuts k far.dp far.port s.packet) (far_end ls d.id s.port) 0) (weight conf now valid t nowhere (nowhere_quiet t) (cuts k) d.id) run
      (λ s c. ap (λ o. option_map_or (λ far. cuts k far.dp far.port s.packet) o 0) (far_step ls d.id s.port) ∙ by s (step_at (stack_of conf now.ups) d.id s.port))
      ∙ run_totals conf now d port p (weight conf now valid t nowhere (nowhere_quiet t) (cuts k) d.id) d_is (sent d port p d_is fits shaped) in
      let none = either_none (is_same_dp t d.id) in
      sum ∙ omega (arith, none)
    where
      by : (s : Sent) (o : Option Step) → option_map_or (λ far. cuts k far.dp far.port s.packet) (option_map end_of o) 0 ≡ option_map_or (λ (z : Step). cuts k z.far z.far_port s.packet) o 0
      by s None = refl
      by s (Some z) = refl

  in_sum : {X : Type 0} (w : X → ℕ) (xs : List X) → total w xs ≡ 0 → (x : X) → Contains xs x → w x ≡ 0
  in_sum w [] none x c = absurd (omega (arith, c.1))
  in_sum w (z ∷ zs) none x c = elim (contains_cons z x zs c) [
    | inl first ↦ let same = ap w first in omega (arith, none, same)
    | inr later ↦ in_sum w zs (omega (arith, none)) x later
  ]

  each_flat : {X Y : Type 0} (f g : X → List Y) (xs : List X) → ((x : X) → Contains xs x → f x ≡ g x) → flat_map f xs ≡ flat_map g xs
  each_flat f g [] same = refl
  each_flat {Y = Y} f g (x ∷ xs) same = ap (λ (l : List Y). l ++ flat_map f xs) (same x (contains_here x xs)) ∙ ap (λ (l : List Y). g x ++ l) (each_flat f g xs (λ z c. same z (contains_there x z xs c)))

  -- a walk that is nowhere cut off is the same over more datapaths
  pub arrivals_same : (k m : ℕ) (d : DpId) (port : ℕ) (p : Packet) → cuts k d port p ≡ 0 → k ≤ m → arrivals conf now m d port p ≡ arrivals conf now k d port p
  unfolding cuts arrivals
  arrivals_same zero m d port p none more = absurd (omega (arith, none))
  arrivals_same (suc k) zero d port p none more = absurd (omega (arith, more))
  arrivals_same (suc k) (suc m) d port p none more =
      let ls = links conf now.ups in
      let run = first_run (cold_at conf now d) port p in
      each_flat (going_on conf ls (λ e q x. arrivals conf now m e q x) d) (going_on conf ls (λ e q x. arrivals conf now k e q x) d) run
      (λ s c. by s (far_end ls d s.port) (in_sum (λ (s : Sent). option_map_or (λ far. cuts k far.dp far.port s.packet) (far_end ls d s.port) 0) run none s c) (λ e q none. arrivals_same k m e q s.packet none (omega (arith, more))))
    where
      by : (s : Sent) (o : Option StackEnd) → option_map_or (λ far. cuts k far.dp far.port s.packet) o 0 ≡ 0 → ((e : DpId) (q : ℕ) → cuts k e q s.packet ≡ 0 → arrivals conf now m e q s.packet ≡ arrivals conf now k e q s.packet)
          → option_map_or (λ far. arrivals conf now m far.dp far.port s.packet) o (arrived conf d s) ≡ option_map_or (λ far. arrivals conf now k far.dp far.port s.packet) o (arrived conf d s)
      by s None none same = refl
      by s (Some far) none same = same far.dp far.port none

  -- ---- arrivals at an edge port

  module _ (e : Dp) (e_is : dp_with conf.dps e.id ≡ Some e) (q : Port) (q_is : port_with e.ports q.no ≡ Some q) (edge : is_edge q ≡ true) (test : Packet → Bool) where
    in_ports : Contains e.ports q
    in_ports = (found (λ (m : Port). m.no == q.no) e.ports q q_is).0

    -- at the port, with a packet that passes a test
    abbrev pub is_counted : Arrival → Bool
    is_counted a = arrives_at e.id q.no a && test a.packet

    pub at_port : DpId → ℕ → Packet → ℕ
    at_port d n x = cond (is_same_dp e.id d) (cond (n == q.no) (cond (test x) 1 0) 0) 0

    pub at_port_is : (d : DpId) (n : ℕ) (x : Packet) → at_port d n x ≡ cond (is_same_dp e.id d) (cond (n == q.no) (cond (test x) 1 0) 0) 0
    unfolding at_port
    at_port_is d n x = refl

    same_port : (d : Dp) (m : Port) → dp_with conf.dps d.id ≡ Some d → Contains d.ports m → is_same_dp e.id d.id ≡ true → (m.no == q.no) ≡ true → m ≡ q
    same_port d m d_is c same number =
        let ids : e.id ≡ d.id = same_dp e.id d.id same in
        let dps : d ≡ e = same_Some d e (sym d_is ∙ subst (λ x. dp_with conf.dps x ≡ Some e) ids e_is) in
        only_port conf valid e.id e e_is q.no q m q_is (subst (λ (x : Dp). Contains x.ports m) dps c) (eqb-true m.no q.no number)

    none_by : (d : Dp) (m : Port) → dp_with conf.dps d.id ≡ Some d → Contains d.ports m → (m ≡ q → ⊥) → (x : Packet) → at_port d.id m.no x ≡ 0
    unfolding at_port
    none_by d m d_is c other x =
        elim (cases_Bool (is_same_dp e.id d.id)) [
          | inl same ↦ elim (cases_Bool (m.no == q.no)) [
            | inl number ↦ absurd (other (same_port d m d_is c same number))
            | inr number ↦ rw (same, number) refl
          ]
          | inr apart ↦ rw apart refl
        ]

    pub at_port_quiet : Quiet conf e.id at_port
    unfolding at_port
    at_port_quiet = record {
      mirror = λ d m d_is c mirrors x. none_by d m d_is c (λ is_q. mirrors (ap (λ (r : Port). r.mirror) is_q ∙ edge_mirrors_none q edge)) x;
      stack = λ d m d_is c stack x. none_by d m d_is c (λ is_q. both_ways (is_stack m) (ap is_stack is_q ∙ edge_is_no_stack q edge) stack) x;
      controller = λ d x.
          let within = in_ports in
          let most = (port_of conf valid e.id e e_is q within).number.most in
          ap (λ b. cond (is_same_dp e.id d) (cond b (cond (test x) 1 0) 0) 0) (ne_eqb CONTROLLER q.no (λ same. omega (arith, most, same))) ∙ either_none (is_same_dp e.id d);
      elsewhere = λ d n x other. rw other refl;
    }

    pub arrive : ℕ → DpId → ℕ → Packet → ℕ
    arrive k d port p = count_by is_counted (arrivals conf now k d port p)

    pub arrive_is : (k : ℕ) (d : DpId) (port : ℕ) (p : Packet) → arrive k d port p ≡ count_by is_counted (arrivals conf now k d port p)
    unfolding arrive
    arrive_is k d port p = refl

    pub none_arrive : (d : DpId) (port : ℕ) (p : Packet) → arrive 0 d port p ≡ 0
    unfolding arrive arrivals
    none_arrive d port p = refl

    -- the edge port is no end of a stack link
    no_end : (d : DpId) (n : ℕ) (x : Packet) → is_stack_port conf d n ≡ true → at_port d n x ≡ 0
    unfolding at_port
    no_end d n x is_end =
        elim (cases_Bool (is_same_dp e.id d)) [
          | inl same ↦ elim (cases_Bool (n == q.no)) [
            | inl number ↦
                let here : list_any (λ (m : Port). m.no == n && is_stack m) e.ports ≡ true = sym (ap (λ (o : Option Dp). option_map_or (λ (r : Dp). list_any (λ (m : Port). m.no == n && is_stack m) r.ports) o false) (subst (λ z. dp_with conf.dps z ≡ Some e) (same_dp e.id d same) e_is)) ∙ is_end in
                let f = any_found (λ (m : Port). m.no == n && is_stack m) e.ports here in
                let both = and_parts (f.0.no == n) (is_stack f.0) f.2 in
                let is_q : f.0 ≡ q = only_port conf valid e.id e e_is q.no q f.0 q_is f.1 (eqb-true f.0.no n both.0 ∙ eqb-true n q.no number) in
                absurd (both_ways (is_stack f.0) (ap is_stack is_q ∙ edge_is_no_stack q edge) both.1)
            | inr number ↦ rw (same, number) refl
          ]
          | inr apart ↦ rw apart refl
        ]

    one_arrives : (d : DpId) (s : Sent) → total (λ (a : Arrival). cond (is_counted a) 1 0) (arrived conf d s) ≡ at_port d s.port s.packet
    unfolding at_port
    one_arrives d s = by (is_stack_port conf d s.port) refl
      where
        flat : (a c z : Bool) → cond ((a && c) && z) 1 0 + 0 ≡ cond a (cond c (cond z 1 0) 0) 0
        flat true true z = omega arith
        flat true false z = omega arith
        flat false c z = omega arith

        by : (b : Bool) → is_stack_port conf d s.port ≡ b → total (λ (a : Arrival). cond (is_counted a) 1 0) (cond b [] (record { dp = d; port = s.port; packet = s.packet } ∷ [])) ≡ cond (is_same_dp e.id d) (cond (s.port == q.no) (cond (test s.packet) 1 0) 0) 0
        by true is_end = sym (no_end d s.port s.packet is_end)
        by false isnt = flat (is_same_dp e.id d) (s.port == q.no) (test s.packet)

    pub arrive_next : (k : ℕ) (d : Dp) (port : ℕ) (p : Packet) → dp_with conf.dps d.id ≡ Some d → port < 2 ^ 32 → IsShaped p
        → arrive (suc k) d.id port p ≡ cond (is_same_dp e.id d.id) 0 0 + total (weight conf now valid e.id at_port at_port_quiet (arrive k) d.id) (sends conf now d.id port p)
    unfolding arrive arrivals
    arrive_next k d port p d_is fits shaped =
        let ls = links conf now.ups in
        let run = first_run (cold_at conf now d.id) port p in
        let each = λ (a : Arrival). cond (is_counted a) 1 0 in
        let go = λ (s : Sent). going_on conf ls (λ f r x. arrivals conf now k f r x) d.id s in
        let w = weight conf now valid e.id at_port at_port_quiet (λ f r x. count_by is_counted (arrivals conf now k f r x)) d.id in
        let sum : count_by is_counted (flat_map go run) ≡ total w (sends conf now d.id port p) =
        count_is is_counted (flat_map go run)
        ∙ total_flat each go run
        ∙ total_same (λ s. total each (go s)) w run
        (λ s c. ap (λ o. total each (option_map_or (λ far. arrivals conf now k far.dp far.port s.packet) o (arrived conf d.id s))) (far_step ls d.id s.port) ∙ by s (step_at (stack_of conf now.ups) d.id s.port))
        ∙ run_totals conf now d port p w d_is (sent d port p d_is fits shaped) in
        let none = either_none (is_same_dp e.id d.id) in
        sum ∙ plus_none (cond (is_same_dp e.id d.id) 0 0) (total w (sends conf now d.id port p)) none
      where
        by : (s : Sent) (o : Option Step) → total (λ (a : Arrival). cond (is_counted a) 1 0) (option_map_or (λ far. arrivals conf now k far.dp far.port s.packet) (option_map end_of o) (arrived conf d.id s))
            ≡ option_map_or (λ (z : Step). count_by is_counted (arrivals conf now k z.far z.far_port s.packet)) o (at_port d.id s.port s.packet)
        by s None = one_arrives d.id s
        by s (Some z) = sym (count_is is_counted (arrivals conf now k z.far z.far_port s.packet))
