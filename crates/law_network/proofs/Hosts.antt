-- What a packet for a known host brings to a datapath t, over all datapaths that it comes to, as F adds it up.
use Rattle.std.proofs.Common.{◌≡◌, ℕ, zero, suc, ◌+◌, ◌^◌, ◌<◌, ◌≤◌, ◌==◌, ◌&&◌, ◌||◌, Bool, true, false, not, cond, Option, Some, None, [], ◌∷◌, refl, sym, ap, ◌∙◌, subst, arith}
use Rattle.std.specs.Prelude.{Contains, IsSomeAnd, option_and_then}
use Rattle.std.specs.Option.{option_map_or}
use Rattle.std.proofs.lemmas.Bool.{and_parts, both_ways, eqb-true, eq-eqb, ne_eqb, false_from_ne_true}
use Rattle.std.proofs.lemmas.Option.{same_Some}
use Rattle.net_base.specs.declared.numbers.DpId.{DpId}
use Rattle.of_match.specs.Shaped.{IsShaped}
use Rattle.of_match.specs.declared.packet.Packet.{Packet}
use Rattle.stack_paths.specs.Chosen.{Step, is_same_dp, hop_of}
use Rattle.stack_paths.specs.Stack.{Stack, HasLink, IsJoined, IsDistance, IsHop}
use Rattle.stack_paths.proofs.ChosenHops.{next_hop_here}
use Rattle.stack_paths.proofs.ChosenWalks.{same_dp, dp_same}
use Rattle.stack_paths.proofs.LawLemmas.{distance_same, joined_trans, link_back}
use Rattle.stack_paths.proofs.Walks.{walk_start, walk_end}
use Rattle.conf_types.proofs.Reached.{same_id}
use Rattle.conf_types.specs.declared.datapath.Dp.{Dp}
use Rattle.conf_types.specs.declared.datapath.Port.{Port}
use Rattle.conf_types.specs.declared.state.HostRec.{HostRec}
use Rattle.conf_types.specs.declared.vlan.Vlan.{Vlan}
use Rattle.conf_types.specs.Configuration.{Configuration, dp_with, port_with, port_at, vlan_with}
use Rattle.conf_types.specs.Groups.{group_of}
use Rattle.conf_types.specs.Lists.{is_same}
use Rattle.conf_types.specs.Membership.{is_edge, is_stack, is_accepting, is_edge_member}
use Rattle.conf_types.specs.State.{State, IsHost, IsValidState, is_host_in}
use Rattle.conf_types.specs.Valid.{IsValid}
use Rattle.packet_way.specs.declared.known.Onward.TheVariants.{ByPort, OverStack, Everywhere}
use Rattle.packet_way.specs.Description.{sent_onward, leaving, sends}
use Rattle.packet_way.specs.Known.{stack_of, host_with, onward_to, to_port}
use Rattle.packet_way.specs.Leaving.{sent, as_sent, delivered}
use Rattle.packet_way.proofs.Ports.{of_all, found, edge_is_no_stack}
use Rattle.plan_units.specs.Laws.{IsIn}
use Rattle.law_trees.specs.Ways.{IsNoEnd}
use Rattle.law_trees.proofs.Floods.{linked}
use Rattle.law_trees.proofs.Lines.{below, below_root, below_hop, above}
use Rattle.law_trees.proofs.Nearer.{Hopped, hopped, goes_onward, itself}
use Rattle.law_trees.proofs.Sides.{step_of}
use Rattle.law_trees.proofs.Totals.{total}
use Rattle.law_network.proofs.Floods.{stands, over_stack}
use Rattle.law_network.proofs.Parts.{host_onward}
use Rattle.law_network.proofs.Ports.{is, own}
use Rattle.law_network.proofs.Sends.{Quiet, weight, edge_delivered}

same_turned : (a b : DpId) → is_same_dp a b ≡ is_same_dp b a
same_turned a b = by (is_same_dp a b) refl
  where
    by : (x : Bool) → is_same_dp a b ≡ x → x ≡ is_same_dp b a
    by true same = sym (dp_same b a (sym (same_dp a b same)))
    by false other = sym (false_from_ne_true (is_same_dp b a) (λ same. both_ways (is_same_dp a b) other (dp_same a b (sym (same_dp b a same)))))

module _ (conf : Configuration) (now : State) (valid : IsValid conf) (state : IsValidState conf now) where
  abbrev s : Stack
  s = stack_of conf now.ups

  -- the edge port at which a host stands
  pub record HostPort (e : Dp) (h : HostRec) : Type 0 where
    pub port : Port
    pub found_is : port_with e.ports h.port ≡ Some port
    pub inside : Contains e.ports port
    pub number_is : port.no ≡ h.port
    pub edge : is_edge port ≡ true
    pub is_at : port_at conf h.dp h.port ≡ Some port

  host_port : (e : Dp) (h : HostRec) → dp_with conf.dps e.id ≡ Some e → e.id ≡ h.dp → Contains now.hosts h → HostPort e h
  host_port e h e_is same c =
      let place = (of_all (IsHost conf now) now.hosts h state.hosts c).place in
      let at : port_at conf h.dp h.port ≡ port_with e.ports h.port = ap (λ (o : Option Dp). option_and_then (λ (x : Dp). port_with x.ports h.port) o) (subst (λ x. dp_with conf.dps x ≡ Some e) same e_is) in
      by (port_with e.ports h.port) refl at (subst (λ o. IsSomeAnd o (λ p. (is_accepting p && is_edge_member p h.vid) ≡ true)) at place)
    where
      by : (o : Option Port) → port_with e.ports h.port ≡ o → port_at conf h.dp h.port ≡ o → IsSomeAnd o (λ p. (is_accepting p && is_edge_member p h.vid) ≡ true) → HostPort e h
      by None none there place = absurd place
      by (Some q) some there place =
          let f = found (λ (p : Port). p.no == h.port) e.ports q some in
          record {
            port = q;
            found_is = some;
            inside = f.0;
            number_is = eqb-true q.no h.port f.1;
            is_at = there;
            edge = (and_parts (is_edge q) (not q.output_only) (and_parts (is_accepting q) (is_edge_member q h.vid) place).0).0;
          }

  host_known : (d : Dp) (vid : ℕ) (h : HostRec) (y : Packet) → host_with conf now.hosts d vid y.dst ≡ Some h → Contains now.hosts h
  host_known d vid h y known = (found (λ (g : HostRec). is_host_in conf (group_of conf d.id) vid g && is_same g.mac.0 y.dst.0) now.hosts h known).0

  module _ (t : DpId) (here : DpId → ℕ → Packet → ℕ) (quiet : Quiet conf t here) (b : ℕ) (F : ℕ → DpId → ℕ → Packet → ℕ)
      (next : (k : ℕ) (d : Dp) (port : ℕ) (x : Packet) → dp_with conf.dps d.id ≡ Some d → port < 2 ^ 32 → IsShaped x
      → F (suc k) d.id port x ≡ cond (is_same_dp t d.id) b 0 + total (weight conf now valid t here quiet (F k) d.id) (sends conf now d.id port x))
      (w : Vlan) (w_is : vlan_with conf.vlans w.vid ≡ Some w) (y : Packet) (shaped : IsShaped y) (in_vlan : IsIn w.vid y)
      (d : Dp) (d_is : dp_with conf.dps d.id ≡ Some d) (h : HostRec) (known : host_with conf now.hosts d w.vid y.dst ≡ Some h) (joined : IsJoined s d.id h.dp) where
    abbrev r : DpId
    r = h.dp

    -- what is brought at the host's port
    abbrev pub at_host : ℕ
    at_host = option_map_or (λ (q : Port). here h.dp h.port (as_sent q w.vid y)) (port_at conf h.dp h.port) 0

    leaving_to : (e : Dp) (port : ℕ) → IsJoined s d.id e.id → leaving conf now e port w y ≡ sent_onward s e port w y (onward_to s e h)
    unfolding leaving
    leaving_to e port on = ap (sent_onward s e port w y) (host_onward conf valid now.ups now.hosts d e w.vid y.dst h on known)

    -- on the datapath of the host
    at_end : (rest : DpId → ℕ → Packet → ℕ) (e : Dp) (port : ℕ) → dp_with conf.dps e.id ≡ Some e → IsJoined s d.id e.id → e.id ≡ h.dp → (h.port ≡ port → ⊥)
        → total (weight conf now valid t here quiet rest e.id) (leaving conf now e port w y) ≡ at_host
    at_end rest e port e_is on same other =
        let hp = host_port e h e_is same (host_known d w.vid h y known) in
        let by_port : (h.dp.0 == e.id.0) ≡ true = eq-eqb h.dp.0 e.id.0 (ap (λ (x : DpId). x.0) (sym same)) in
        let differs : (hp.port.no == port) ≡ false = ne_eqb hp.port.no port (λ eq. other (sym hp.number_is ∙ eq)) in
        let way : onward_to s e h ≡ ByPort h.port = ap (λ x. cond x (ByPort h.port) (option_map_or OverStack (hop_of s e.id h.dp) Everywhere)) by_port in
        ap (total (weight conf now valid t here quiet rest e.id)) (leaving_to e port on ∙ ap (sent_onward s e port w y) way ∙ ap (λ (o : Option Port). option_map_or (to_port e port w.vid y) o []) hp.found_is ∙ ap (λ x. cond (x && not hp.port.hairpin) [] (delivered e w.vid y hp.port)) differs)
        ∙ edge_delivered conf now valid t here quiet rest e e_is w.vid y hp.port hp.inside hp.edge
        ∙ ap (λ x. here x hp.port.no (as_sent hp.port w.vid y)) same ∙ ap (λ n. here h.dp n (as_sent hp.port w.vid y)) hp.number_is
        ∙ sym (ap (λ (o : Option Port). option_map_or (λ (q : Port). here h.dp h.port (as_sent q w.vid y)) o 0) hp.is_at)

    -- but not back to it without `hairpin`
    at_end_back : (rest : DpId → ℕ → Packet → ℕ) (e : Dp) (i : Port) → dp_with conf.dps e.id ≡ Some e → port_with e.ports i.no ≡ Some i → i.hairpin ≡ false → IsJoined s d.id e.id → e.id ≡ h.dp → h.port ≡ i.no
        → total (weight conf now valid t here quiet rest e.id) (leaving conf now e i.no w y) ≡ 0
    at_end_back rest e i e_is i_is no_hairpin on same back =
        let by_port : (h.dp.0 == e.id.0) ≡ true = eq-eqb h.dp.0 e.id.0 (ap (λ (x : DpId). x.0) (sym same)) in
        let way : onward_to s e h ≡ ByPort h.port = ap (λ x. cond x (ByPort h.port) (option_map_or OverStack (hop_of s e.id h.dp) Everywhere)) by_port in
        ap (total (weight conf now valid t here quiet rest e.id))
        (leaving_to e i.no on ∙ ap (sent_onward s e i.no w y) way ∙ ap (λ n. option_map_or (to_port e i.no w.vid y) (port_with e.ports n) []) back ∙ ap (λ (o : Option Port). option_map_or (to_port e i.no w.vid y) o []) i_is
        ∙ ap (λ x. cond (x && not i.hairpin) [] (delivered e w.vid y i)) (eq-eqb i.no i.no refl) ∙ ap (λ x. cond (true && not x) [] (delivered e w.vid y i)) no_hairpin)

    -- on any other datapath
    on_way : (rest : DpId → ℕ → Packet → ℕ) (e : Dp) (port n : ℕ) → dp_with conf.dps e.id ≡ Some e → IsJoined s d.id e.id → IsDistance s e.id r (suc n) → (x : Hopped s e.id r n) → (x.port ≡ port → ⊥)
        → total (weight conf now valid t here quiet rest e.id) (leaving conf now e port w y) ≡ rest x.far x.far_port y
    on_way rest e port n e_is on far x other =
        let away : (h.dp.0 == e.id.0) ≡ false = ne_eqb h.dp.0 e.id.0 (λ eq.
        let same : e.id ≡ r = sym (same_id h.dp e.id eq) in
        let node = walk_end s (is conf valid now.ups) (suc n) e.id r far.walk in
        let none = distance_same s e.id r (suc n) 0 far (subst (λ z. IsDistance s z r 0) (sym same) (itself s (is conf valid now.ups) r node)) in
        omega (arith, none)) in
        let hop = next_hop_here s (is conf valid now.ups) e.id r x.port (x.far, x.far_port, x.hop) in
        let way : onward_to s e h ≡ OverStack x.port = ap (λ z. cond z (ByPort h.port) (option_map_or OverStack (hop_of s e.id h.dp) Everywhere)) away ∙ ap (λ o. option_map_or OverStack o Everywhere) hop in
        let one : leaving conf now e port w y ≡ sent x.port y ∷ [] = leaving_to e port on ∙ ap (sent_onward s e port w y) way ∙ ap (λ z. cond z [] (sent x.port y ∷ [])) (ne_eqb x.port port other) in
        let st = step_of s (is conf valid now.ups) e.id x.port x.far x.far_port x.hop.nearer.link in
        let brings : weight conf now valid t here quiet rest e.id (sent x.port y) ≡ rest x.far x.far_port y =
        ap (λ o. option_map_or (λ (z : Step). rest z.far z.far_port y) o (here e.id x.port y)) st.is ∙ ap (λ z. rest z st.step.far_port y) st.far ∙ ap (λ q. rest x.far q y) st.far_port in
        ap (total (weight conf now valid t here quiet rest e.id)) one ∙ omega (arith, brings)

    -- what it brings from a datapath on
    abbrev pub from_here : DpId → ℕ
    from_here e = cond (below s (is conf valid now.ups) r t e) b 0 + at_host

    -- the datapath itself, and those behind it
    counted : (e : DpId) (n : ℕ) → IsDistance s e r (suc n) → (x : Hopped s e r n) → cond (is_same_dp t e) b 0 + cond (below s (is conf valid now.ups) r t x.far) b 0 ≡ cond (below s (is conf valid now.ups) r t e) b 0
    counted e n far x =
        sum (is_same_dp e t) (below s (is conf valid now.ups) r t x.far) (λ same further.
        let a = above s (is conf valid now.ups) r n t x.far x.left further in
        let most = a.most in
        let level = distance_same s t r a.distance (suc n) a.is_far (subst (λ z. IsDistance s z r (suc n)) (same_dp e t same) far) in
        omega (arith, most, level)) (is_same_dp t e) (same_turned t e)
        ∙ ap (λ z. cond z b 0) (sym (below_hop s (is conf valid now.ups) r t e x.port x.far x.far_port x.hop))
      where
        sum : (a c : Bool) → (a ≡ true → c ≡ true → ⊥) → (a' : Bool) → a' ≡ a → cond a' b 0 + cond c b 0 ≡ cond (a || c) b 0
        sum true true never a' same = absurd (never refl refl)
        sum true false never a' same = rw same (omega arith)
        sum false c never a' same = rw same (omega arith)

    ended : (e : DpId) → e ≡ r → cond (is_same_dp t e) b 0 ≡ cond (below s (is conf valid now.ups) r t e) b 0
    ended e same =
        let node = walk_end s (is conf valid now.ups) joined.0 d.id r joined.1 in
        let far : IsDistance s e r 0 = subst (λ z. IsDistance s z r 0) (sym same) (itself s (is conf valid now.ups) r node) in
        ap (λ z. cond z b 0) (same_turned t e ∙ sym (below_root s (is conf valid now.ups) r t e far))

    -- one step of the way, by what the rest of it brings
    step : (k n : ℕ) (e : Dp) (port : ℕ) → dp_with conf.dps e.id ≡ Some e → IsJoined s d.id e.id → IsDistance s e.id r n
        → (e.id ≡ r → h.port ≡ port → ⊥) → ((m : ℕ) → (x : Hopped s e.id r m) → x.port ≡ port → ⊥)
        → ((m : ℕ) → n ≡ suc m → (x : Hopped s e.id r m) → IsJoined s d.id x.far → F k x.far x.far_port y ≡ from_here x.far)
        → cond (is_same_dp t e.id) b 0 + total (weight conf now valid t here quiet (F k) e.id) (leaving conf now e port w y) ≡ from_here e.id
    step k zero e port e_is on far no_host no_hop more =
        let same : e.id ≡ r = far.walk.1 in
        let brings = at_end (F k) e port e_is on same (no_host same) in
        let level = ended e.id same in
        omega (arith, brings, level)
    step k (suc n) e port e_is on far no_host no_hop more =
        let x = hopped s (is conf valid now.ups) r e.id n far in
        let brings = on_way (F k) e port n e_is on far x (no_hop n x) in
        let next_joined : IsJoined s d.id x.far = joined_trans s on.0 d.id e.id x.far on.1 (linked s (is conf valid now.ups) e.id x.port x.far x.far_port x.hop.nearer.link) in
        let rest = more n refl x next_joined in
        let count = counted e.id n far x in
        omega (arith, brings, rest, count)

    carried : (k n : ℕ) (e : DpId) (q : ℕ) (f : DpId) (u : ℕ) → IsHop s f r u e q → IsJoined s d.id e → IsDistance s e r n → n < k → F k e q y ≡ from_here e
    carried zero n e q f u by on far enough = absurd (omega (arith, enough))
    carried (suc k) n e q f u by on far enough =
        let st = stands conf now valid e q f u (link_back s f u e q by.nearer.link) in
        let P : DpId → ℕ → Type 0 = λ x m. IsHop s f r u x m → IsJoined s d.id x → IsDistance s x r n → F (suc k) x m y ≡ from_here x in
        let proved : P st.dp.id st.port.no = λ hop at left.
        next k st.dp st.port.no y st.dp_is (subst (λ m. m < 2 ^ 32) (sym st.number_is) st.fits) shaped
        ∙ ap (λ l. cond (is_same_dp t st.dp.id) b 0 + total (weight conf now valid t here quiet (F k) st.dp.id) l) (over_stack conf now valid w w_is y in_vlan st.dp st.port st.dp_is st.inside st.stack)
        ∙ step k n st.dp st.port.no st.dp_is at left
        (λ same eq.
        let hp = host_port st.dp h st.dp_is same (host_known d w.vid h y known) in
        let one : hp.port ≡ st.port = same_Some hp.port st.port (sym hp.found_is ∙ ap (port_with st.dp.ports) eq ∙ own conf valid now.ups st.dp st.dp_is st.port st.inside) in
        both_ways (is_stack hp.port) (edge_is_no_stack hp.port hp.edge) (ap is_stack one ∙ st.stack))
        (λ m x eq. goes_onward s (is conf valid now.ups) r f st.dp.id u st.port.no x.port hop x.far x.far_port x.hop eq)
        (λ m level x next_joined. carried k m x.far x.far_port st.dp.id x.port x.hop next_joined x.left (omega (arith, enough, level))) in
        subst (λ x. P x q) st.id_is (subst (P st.dp.id) st.number_is proved) by on far

    -- the first datapath takes the packet in by a port at which no link begins: elsewhere than at the host's
    pub begun : (k n port : ℕ) → IsNoEnd s d.id port → IsDistance s d.id r n → n ≤ k → (d.id ≡ r → h.port ≡ port → ⊥)
        → cond (is_same_dp t d.id) b 0 + total (weight conf now valid t here quiet (F k) d.id) (leaving conf now d port w y) ≡ from_here d.id
    begun k n port free far enough elsewhere =
        let node = walk_start s (is conf valid now.ups) joined.0 d.id r joined.1 in
        step k n d port d_is (zero, (node, refl)) far elsewhere
        (λ m x eq. free x.far x.far_port (subst (λ p. HasLink s d.id p x.far x.far_port) eq x.hop.nearer.link))
        (λ m level x next_joined. carried k m x.far x.far_port d.id x.port x.hop next_joined x.left (omega (arith, enough, level)))

    -- or there
    pub begun_there : (k : ℕ) (i : Port) → port_with d.ports i.no ≡ Some i → i.hairpin ≡ false → d.id ≡ r → h.port ≡ i.no
        → cond (is_same_dp t d.id) b 0 + total (weight conf now valid t here quiet (F k) d.id) (leaving conf now d i.no w y) ≡ cond (below s (is conf valid now.ups) r t d.id) b 0
    begun_there k i i_is no_hairpin same back =
        let node = walk_start s (is conf valid now.ups) joined.0 d.id r joined.1 in
        let none = at_end_back (F k) d i d_is i_is no_hairpin (zero, (node, refl)) same back in
        let level = ended d.id same in
        omega (arith, none, level)
