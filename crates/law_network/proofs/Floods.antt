-- What a flood brings to a datapath t, over all datapaths that it comes to. F adds it up, from a packet that a
-- datapath took in by a port, over at most so many datapaths one behind another.
use Rattle.std.proofs.Common.{◌≡◌, ℕ, zero, suc, ◌+◌, ◌^◌, ◌<◌, ◌≤◌, ◌==◌, ◌&&◌, ◌||◌, Bool, true, false, not, cond, Some, [], refl, inl, inr, sym, ap, ◌∙◌, subst, arith}
use Rattle.std.specs.Prelude.{Contains}
use Rattle.std.specs.Option.{option_map_or}
use Rattle.std.proofs.lemmas.Bool.{eqb-true, false_from_ne_true, cases_Bool}
use Rattle.std.proofs.lemmas.Option.{same_Some}
use Rattle.net_base.specs.Address.{is_group}
use Rattle.net_base.specs.declared.numbers.DpId.{DpId}
use Rattle.of_match.specs.Shaped.{IsShaped}
use Rattle.of_match.specs.declared.packet.Packet.{Packet}
use Rattle.of_match.specs.declared.packet.Tag.{Tag}
use Rattle.stack_paths.specs.Chosen.{is_same_dp}
use Rattle.stack_paths.specs.Stack.{Stack, HasLink, IsJoined, IsRoot}
use Rattle.stack_paths.proofs.ChosenWalks.{same_dp}
use Rattle.stack_paths.proofs.LawLemmas.{joined_trans, joined_back}
use Rattle.conf_types.specs.declared.datapath.Dp.{Dp}
use Rattle.conf_types.specs.declared.datapath.Port.{Port}
use Rattle.conf_types.specs.declared.vlan.Vlan.{Vlan}
use Rattle.conf_types.specs.Configuration.{Configuration, dp_with, port_with, vlan_with}
use Rattle.conf_types.specs.Membership.{is_stack}
use Rattle.conf_types.specs.State.{State}
use Rattle.conf_types.specs.Valid.{IsValid}
use Rattle.packet_way.specs.declared.known.Onward.TheVariants.{Everywhere}
use Rattle.packet_way.specs.Description.{sent_onward, leaving, leaving_in, from_stack, sends}
use Rattle.packet_way.specs.Flood.{is_flooded, gets_flood, flooded}
use Rattle.packet_way.specs.Known.{stack_of, onward}
use Rattle.packet_way.specs.Leaving.{as_sent}
use Rattle.packet_way.proofs.Members.{end_is}
use Rattle.packet_way.proofs.Ports.{found, at_port, port_within, port_number}
use Rattle.packet_way.proofs.Taking.{not_bare, sends_from}
use Rattle.plan_units.specs.Laws.{IsIn}
use Rattle.law_trees.specs.Ways.{IsNoEnd}
use Rattle.law_trees.proofs.Floods.{Place, size, size_some, along, along_none, beyond, brings, brought}
use Rattle.law_trees.proofs.Sides.{IsBranch, branch_link, branch_back}
use Rattle.law_trees.proofs.Totals.{total, total_none, total_same}
use Rattle.law_network.proofs.Parts.{flood_shared}
use Rattle.law_network.proofs.Ports.{is, have, ports_of, own, link_end, link_number}
use Rattle.law_network.proofs.Sends.{Quiet, weight, flood_brings}

either_none : (b : Bool) → ◌≡◌ {A = ℕ} (cond b 0 0) 0
either_none true = refl
either_none false = refl

module _ (conf : Configuration) (now : State) (valid : IsValid conf) where
  abbrev pub s : Stack
  s = stack_of conf now.ups

  -- a datapath and an end of a stack link of it, by their numbers
  pub record Stand (e : DpId) (n : ℕ) : Type 0 where
    pub dp : Dp
    pub dp_is : dp_with conf.dps dp.id ≡ Some dp
    pub id_is : dp.id ≡ e
    pub port : Port
    pub inside : Contains dp.ports port
    pub number_is : port.no ≡ n
    pub stack : is_stack port ≡ true
    pub fits : n < 2 ^ 32

  pub stands : (e : DpId) (n : ℕ) (f : DpId) (u : ℕ) → HasLink s e n f u → Stand e n
  stands e n f u link =
      let end = link_end conf valid now.ups e n f u link in
      let at = at_port conf e n end.port end.here in
      let made : ℕ → DpId = λ k. record { 0 = k } in
      let same : at.dp.id ≡ e = ap made (eqb-true at.dp.id.0 e.0 (found (λ (d : Dp). d.id.0 == e.0) conf.dps at.dp at.dp_is).1) in
      let most = (link_number conf valid now.ups e n f u link).most in
      record {
        dp = at.dp;
        dp_is = subst (λ x. dp_with conf.dps x ≡ Some at.dp) (sym same) at.dp_is;
        id_is = same;
        port = end.port;
        inside = port_within conf e n end.port at;
        number_is = port_number conf e n end.port at;
        stack = end.is;
        fits = omega (arith, most);
      }

  module _ (w : Vlan) (w_is : vlan_with conf.vlans w.vid ≡ Some w) (y : Packet) (in_vlan : IsIn w.vid y) where
    -- what comes over the stack goes to the step of destinations at once
    pub over_stack : (e : Dp) (q : Port) → dp_with conf.dps e.id ≡ Some e → Contains e.ports q → is_stack q ≡ true → sends conf now e.id q.no y ≡ leaving conf now e q.no w y
    unfolding from_stack
    over_stack e q e_is c stack =
        sends_from conf now y e.id q.no e q e_is (own conf valid now.ups e e_is q c)
        ∙ rw (stack, not_bare y in_vlan.0 in_vlan.1) (ap (λ o. option_map_or (λ (tag : Tag). leaving_in conf now e q.no tag.vid y) o []) in_vlan.1
        ∙ ap (λ vid. leaving_in conf now e q.no vid y) in_vlan.2
        ∙ ap (λ o. option_map_or (λ (v : Vlan). leaving conf now e q.no v y) o []) w_is)

  pub leaving_flooded : (w : Vlan) (y : Packet) (e : Dp) (port : ℕ) → onward conf now.hosts s e w.vid y.dst ≡ Everywhere → leaving conf now e port w y ≡ flooded s e port w y
  unfolding leaving
  leaving_flooded w y e port is_flood = ap (sent_onward s e port w y) is_flood

  module _ (t : DpId) (here : DpId → ℕ → Packet → ℕ) (quiet : Quiet conf t here) (b : ℕ) (F : ℕ → DpId → ℕ → Packet → ℕ)
      (next : (k : ℕ) (d : Dp) (port : ℕ) (x : Packet) → dp_with conf.dps d.id ≡ Some d → port < 2 ^ 32 → IsShaped x
      → F (suc k) d.id port x ≡ cond (is_same_dp t d.id) b 0 + total (weight conf now valid t here quiet (F k) d.id) (sends conf now d.id port x))
      (w : Vlan) (w_is : vlan_with conf.vlans w.vid ≡ Some w) (y : Packet) (shaped : IsShaped y) (in_vlan : IsIn w.vid y) (may : (is_group y.dst || w.unicast_flood) ≡ true)
      (d : Dp) (everywhere : onward conf now.hosts s d w.vid y.dst ≡ Everywhere) (r : DpId) (root : IsRoot s d.id r) where
    part_joined : (e : DpId) → IsRoot s e r → IsJoined s d.id e
    part_joined e e_root = let back = joined_back s (is conf valid now.ups) r d.id root.joined in joined_trans s back.0 d.id r e back.1 e_root.joined

    -- over an end of a stack link
    stack_next : (k : ℕ) (e : Dp) (q : Port) → dp_with conf.dps e.id ≡ Some e → Contains e.ports q → is_stack q ≡ true → q.no < 2 ^ 32 → IsRoot s e.id r
        → F (suc k) e.id q.no y ≡ cond (is_same_dp t e.id) b 0 + total (weight conf now valid t here quiet (F k) e.id) (flooded s e q.no w y)
    stack_next k e q e_is c stack fits e_root =
        next k e q.no y e_is fits shaped
        ∙ ap (λ l. cond (is_same_dp t e.id) b 0 + total (weight conf now valid t here quiet (F k) e.id) l)
        (over_stack w w_is y in_vlan e q e_is c stack ∙ leaving_flooded w y e q.no (flood_shared conf valid now.ups now.hosts d e w.vid y.dst (part_joined e.id e_root) everywhere))

    -- ---- where t lies in the part

    module _ (tdp : Dp) (t_is : dp_with conf.dps tdp.id ≡ Some tdp) (t_same : tdp.id ≡ t) (t_root : IsRoot s t r) where
      -- what it brings at t itself, of a packet that came in by a port
      pub at_t : ℕ → ℕ
      at_t port = b + total (λ (q : Port). cond (gets_flood s tdp port w y q) (here tdp.id q.no (as_sent q w.vid y)) 0) tdp.ports

      -- by an end of a stack link
      pub from_stack_t : ℕ
      from_stack_t = b + total (λ (q : Port). cond (is_flooded s tdp w y q) (here tdp.id q.no (as_sent q w.vid y)) 0) tdp.ports

      pub at_t_is : (port : ℕ) → at_t port ≡ b + total (λ (q : Port). cond (gets_flood s tdp port w y q) (here tdp.id q.no (as_sent q w.vid y)) 0) tdp.ports
      unfolding at_t
      at_t_is port = refl

      pub from_stack_is : from_stack_t ≡ b + total (λ (q : Port). cond (is_flooded s tdp w y q) (here tdp.id q.no (as_sent q w.vid y)) 0) tdp.ports
      unfolding from_stack_t
      from_stack_is = refl

      pub alike : (port : ℕ) (e : DpId) (q : ℕ) → IsBranch s (is conf valid now.ups) r t port e q → at_t port ≡ from_stack_t
      unfolding at_t from_stack_t
      alike port e q branch =
          ap (λ (n : ℕ). b + n) (total_same (λ (q : Port). cond (gets_flood s tdp port w y q) (here tdp.id q.no (as_sent q w.vid y)) 0) (λ (q : Port). cond (is_flooded s tdp w y q) (here tdp.id q.no (as_sent q w.vid y)) 0) tdp.ports (λ r c. each r c (r.no == port) refl))
        where
          link : HasLink s tdp.id port e q
          link = subst (λ x. HasLink s x port e q) (sym t_same) (branch_link s (is conf valid now.ups) r t port e q branch)

          kept : (x : Bool) (a : Bool) → (x && (true || a)) ≡ x
          kept true a = refl
          kept false a = refl

          each : (q : Port) → Contains tdp.ports q → (same : Bool) → (q.no == port) ≡ same → cond (is_flooded s tdp w y q && (not same || q.hairpin)) (here tdp.id q.no (as_sent q w.vid y)) 0 ≡ cond (is_flooded s tdp w y q) (here tdp.id q.no (as_sent q w.vid y)) 0
          each q c false other = ap (λ x. cond x (here tdp.id q.no (as_sent q w.vid y)) 0) (kept (is_flooded s tdp w y q) q.hairpin)
          each q c true same =
              let ends = link_end conf valid now.ups tdp.id port e _ link in
              let number : q.no ≡ port = eqb-true q.no port same in
              let stack = end_is conf valid tdp.id tdp t_is port q ends (subst (λ n. port_with tdp.ports n ≡ Some q) number (own conf valid now.ups tdp t_is q c)) in
              let none = quiet.stack tdp q t_is c stack (as_sent q w.vid y) in
              rw none (either_none (is_flooded s tdp w y q && (true && q.hairpin)) ∙ sym (either_none (is_flooded s tdp w y q)))

      abbrev pub value : DpId → ℕ → ℕ
      value = brings s (is conf valid now.ups) r (ports_of conf) (have conf valid now.ups) t t_root at_t from_stack_t alike

      -- at one datapath
      at_one : (rest : DpId → ℕ → Packet → ℕ) (e : Dp) (port : ℕ) → dp_with conf.dps e.id ≡ Some e
          → cond (is_same_dp t e.id) b 0 + total (weight conf now valid t here quiet rest e.id) (flooded s e port w y)
          ≡ cond (is_same_dp t e.id) (at_t port) 0 + along s (is conf valid now.ups) r (ports_of conf) (λ a q. rest a q y) e.id port
      unfolding at_t
      at_one rest e port e_is =
          let all = flood_brings conf now valid t here quiet rest e e_is w y port r may in
          let by_port = λ (x : Dp) (q : Port). cond (gets_flood s x port w y q) (here x.id q.no (as_sent q w.vid y)) 0 in
          elim (cases_Bool (is_same_dp t e.id)) [
            | inl same ↦
                let id_same : e.id ≡ tdp.id = sym (same_dp t e.id same) ∙ sym t_same in
                let dp_same : e ≡ tdp = same_Some e tdp (sym e_is ∙ subst (λ x. dp_with conf.dps x ≡ Some tdp) (sym id_same) t_is) in
                let moved : total (by_port e) e.ports ≡ total (by_port tdp) tdp.ports = ap (λ (x : Dp). total (by_port x) x.ports) dp_same in
                rw same (omega (arith, all, moved))
            | inr other ↦
                let none = total_none (by_port e) e.ports (λ q c. ap (λ n. cond (gets_flood s e port w y q) n 0) (quiet.elsewhere e.id q.no (as_sent q w.vid y) other) ∙ either_none (gets_flood s e port w y q)) in
                rw other (omega (arith, all, none))
          ]

      claim : (k : ℕ) (e : DpId) (n : ℕ) (f : DpId) (u : ℕ) → IsBranch s (is conf valid now.ups) r e n f u → Place s (is conf valid now.ups) r e n → size s (is conf valid now.ups) r e n ≤ k → F k e n y ≡ value e n
      claim zero e n f u branch place small = let some = size_some s (is conf valid now.ups) r e n place in absurd (omega (arith, some, small))
      claim (suc k) e n f u branch place small =
          let st = stands e n f u (branch_link s (is conf valid now.ups) r e n f u branch) in
          let P : DpId → ℕ → Type 0 = λ x m. Place s (is conf valid now.ups) r x m → size s (is conf valid now.ups) r x m ≤ suc k → F (suc k) x m y ≡ value x m in
          let proved : P st.dp.id st.port.no = λ at few.
          stack_next k st.dp st.port st.dp_is st.inside st.stack (subst (λ m. m < 2 ^ 32) (sym st.number_is) st.fits) at.root
          ∙ at_one (F k) st.dp st.port.no st.dp_is
          ∙ brought s (is conf valid now.ups) r (ports_of conf) (have conf valid now.ups) t t_root at_t from_stack_t alike (λ a q. F k a q y) k (claim k) st.dp.id st.port.no at few in
          subst (λ x. P x n) st.id_is (subst (P st.dp.id) st.number_is proved) place small

      -- the first datapath takes the packet in by a port at which no link begins
      pub begun : (k port : ℕ) → IsNoEnd s d.id port → dp_with conf.dps d.id ≡ Some d → size s (is conf valid now.ups) r d.id port ≤ suc k
          → cond (is_same_dp t d.id) b 0 + total (weight conf now valid t here quiet (F k) d.id) (leaving conf now d port w y) ≡ value d.id port
      begun k port free d_is small =
          ap (λ l. cond (is_same_dp t d.id) b 0 + total (weight conf now valid t here quiet (F k) d.id) l) (leaving_flooded w y d port everywhere)
          ∙ at_one (F k) d port d_is
          ∙ brought s (is conf valid now.ups) r (ports_of conf) (have conf valid now.ups) t t_root at_t from_stack_t alike (λ a q. F k a q y) k (claim k) d.id port (record { root = root; entry = inr free }) small

    -- ---- where it lies in another part

    module _ (nothing : (e : DpId) (n : ℕ) (x : Packet) → F 0 e n x ≡ 0) (apart : IsJoined s d.id t → ⊥) where
      not_t : (e : DpId) → IsRoot s e r → is_same_dp t e ≡ false
      not_t e e_root = false_from_ne_true (is_same_dp t e) (λ same. apart (subst (λ x. IsJoined s d.id x) (sym (same_dp t e same)) (part_joined e e_root)))

      none_along : (rest : DpId → ℕ → Packet → ℕ) → ((e : DpId) (n : ℕ) (f : DpId) (u : ℕ) → IsBranch s (is conf valid now.ups) r e n f u → IsRoot s e r → rest e n y ≡ 0) → (e : Dp) (port : ℕ) → dp_with conf.dps e.id ≡ Some e → IsRoot s e.id r
          → cond (is_same_dp t e.id) b 0 + total (weight conf now valid t here quiet rest e.id) (flooded s e port w y) ≡ 0
      none_along rest never e port e_is e_root =
          let other = not_t e.id e_root in
          let all = flood_brings conf now valid t here quiet rest e e_is w y port r may in
          let none = total_none (λ (q : Port). cond (gets_flood s e port w y q) (here e.id q.no (as_sent q w.vid y)) 0) e.ports (λ q c. ap (λ n. cond (gets_flood s e port w y q) n 0) (quiet.elsewhere e.id q.no (as_sent q w.vid y) other) ∙ either_none (gets_flood s e port w y q)) in
          let behind = along_none s (is conf valid now.ups) r (ports_of conf) (λ a q. rest a q y) e.id port e_root (λ x f u branch. never f u e.id x (branch_back s (is conf valid now.ups) r e.id x f u branch) (beyond s (is conf valid now.ups) r e.id x f u e_root branch).root) in
          rw other (omega (arith, all, none, behind))

      never : (k : ℕ) (e : DpId) (n : ℕ) (f : DpId) (u : ℕ) → IsBranch s (is conf valid now.ups) r e n f u → IsRoot s e r → F k e n y ≡ 0
      never zero e n f u branch e_root = nothing e n y
      never (suc k) e n f u branch e_root =
          let st = stands e n f u (branch_link s (is conf valid now.ups) r e n f u branch) in
          let P : DpId → ℕ → Type 0 = λ x m. IsRoot s x r → F (suc k) x m y ≡ 0 in
          let proved : P st.dp.id st.port.no = λ at.
          stack_next k st.dp st.port st.dp_is st.inside st.stack (subst (λ m. m < 2 ^ 32) (sym st.number_is) st.fits) at
          ∙ none_along (F k) (never k) st.dp st.port.no st.dp_is at in
          subst (λ x. P x n) st.id_is (subst (P st.dp.id) st.number_is proved) e_root

      pub begun_apart : (k port : ℕ) → dp_with conf.dps d.id ≡ Some d
          → cond (is_same_dp t d.id) b 0 + total (weight conf now valid t here quiet (F k) d.id) (leaving conf now d port w y) ≡ 0
      begun_apart k port d_is =
          ap (λ l. cond (is_same_dp t d.id) b 0 + total (weight conf now valid t here quiet (F k) d.id) l) (leaving_flooded w y d port everywhere)
          ∙ none_along (F k) (never k) d port d_is root
