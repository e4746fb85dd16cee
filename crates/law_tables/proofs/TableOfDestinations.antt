-- Table 7, case by case.
use Rattle.std.proofs.Common.{◌≡◌, ◌⊎◌, ℕ, ◌^◌, ◌<◌, ◌≤◌, ◌==◌, ◌&&◌, ◌||◌, not, Bool, true, false, List, [], ◌∷◌, ◌++◌, Option, Some, None, refl, sym, ap, ◌∙◌, subst, true≢false, eqb-true, eq-eqb, arith, if◌then◌else◌}
use Rattle.std.specs.Prelude.{Contains, IsSomeAnd, option_to_list}
use Rattle.std.specs.List.{AllByRecursion, flat_map}
use Rattle.std.specs.Option.{option_map, option_map_or, option_and_then}
use Rattle.std.proofs.lemmas.Bool.{and_parts}
use Rattle.std.proofs.lemmas.Option.{same_Some, none-some}
use Rattle.std.proofs.lemmas.List.{append-nil}
use Rattle.net_base.specs.declared.field.FieldId.TheVariants.{VlanVid}
use Rattle.net_base.specs.declared.numbers.DpId.{DpId}
use Rattle.net_base.specs.Numbers.{IsVid, IsPortNo}
use Rattle.net_base.specs.declared.field.Field.{Field}
use Rattle.of_match.specs.declared.action.Action.{Action}
use Rattle.of_match.specs.declared.entry.Entry.{Entry}
use Rattle.of_match.specs.declared.packet.Packet.{Packet}
use Rattle.of_match.specs.declared.packet.Sent.{Sent}
use Rattle.of_match.specs.declared.packet.Tag.{Tag}
use Rattle.of_match.specs.Act.{act_sends, act_left, left_by, sends_of}
use Rattle.of_match.specs.Hit.{hits, agrees, value_of}
use Rattle.of_match.specs.Pipeline.{sends_by}
use Rattle.conf_types.specs.declared.datapath.Dp.{Dp}
use Rattle.conf_types.specs.declared.datapath.Port.{Port}
use Rattle.conf_types.specs.declared.state.HostRec.{HostRec}
use Rattle.conf_types.specs.declared.vlan.Vlan.{Vlan}
use Rattle.conf_types.specs.Configuration.{Configuration, dp_with, port_with, port_at}
use Rattle.conf_types.specs.Groups.{group_of}
use Rattle.conf_types.specs.Lists.{is_same}
use Rattle.conf_types.specs.Membership.{is_stack, is_native_in}
use Rattle.conf_types.specs.State.{State, is_host_in}
use Rattle.packet_way.specs.declared.known.Onward.{Onward}
use Rattle.packet_way.specs.declared.known.Onward.TheVariants.{ByPort, OverStack, Everywhere}
use Rattle.packet_way.specs.Known.{stack_of, host_with, onward_to, onward, to_port, to_hop}
use Rattle.packet_way.specs.Leaving.{delivered, as_sent}
use Rattle.packet_way.specs.Leaving as leaving
use Rattle.stack_paths.specs.Chosen.{hop_of}
use Rattle.stack_paths.specs.Stack.{Stack}
use Rattle.plan_base.specs.declared.table.Table.TheVariants as table
use Rattle.plan_base.specs.Fields.{in_port, eth_dst, vid_field}
use Rattle.plan_base.specs.Entries.{leads_to, entry}
use Rattle.plan_base.specs.Actions.{out, to_ingress}
use Rattle.plan_base.specs.Sending.{sent, copied}
use Rattle.vlan_compile.specs.Destinations.{destinations, at_port, from_its_port, to_its_port, over_stack, sent_back}
use Rattle.vlan_compile.specs.Sources.{sources}
use Rattle.law_runs.specs.Decided.{Does, IsDecided, decided}
use Rattle.law_runs.specs.Members.{in_front, behind, in_flat, in_filtered, in_then, in_else, head_of, tail_of, all_if, all_filtered, all_by, of_all}
use Rattle.law_runs.specs.Order.{same_self, same_equal}
use Rattle.law_runs.specs.Runs.{stopped, went}
use Rattle.law_tables.proofs.Hits.{two, three}
use Rattle.law_tables.proofs.Ingress.{Entered, entered, end_of, end_number, in_group, place, six_of, one_host}
use Rattle.plan_units.specs.Agrees.{by_port, to_address, in_vlan, names_vlan, same_bytes, equal_bytes}
use Rattle.plan_units.specs.Copies.{no_ingress, popped_first, copied_sends}
use Rattle.plan_units.specs.Facts.{found, none_found, port_in, port_number}
use Rattle.plan_units.specs.Fixed.{from_group, passes, pass, fixed, drops}
use Rattle.plan_units.specs.Laws.{IsSetting, Leaves, Sends, DestinationLaw}
use Rattle.plan_units.specs.Steps.{followed, sends_led, goes_led, ends_led}
use Rattle.plan_units.specs.Tables.{ByFamily, by_family, elsewhere_in, here_in, drops_in, port_acl_in, admissions_in, misses_in, vlan_acl_in, vips_in, floods_in, sources_in, routes_elsewhere}
use Rattle.plan_units.specs.Units.{plan, of_port, of_vlan, of_host, hosts_of, is_of_group}

-- an entry's part in the decision: if it hits, and none of this priority comes before it, it does so
abbrev Part : ℕ → Packet → ℕ → List Sent → Option (ℕ × Packet) → Entry → Type 0
Part port p priority sent on e = hits e.key.fields port p ≡ true → priority ≤ e.key.priority → Does 7 port p sent on e

abbrev default : Entry
default = pass table.Destination table.Flood

-- next hops are ends of stack links
module _ (conf : Configuration) (now : State) (d : Dp) (setting : IsSetting conf now d) (hop_ends : (to : DpId) (hop : ℕ) → hop_of (stack_of conf now.ups) d.id to ≡ Some hop → IsSomeAnd (port_at conf d.id hop) (λ q. is_stack q ≡ true)) where
  abbrev stack : Stack
  stack = stack_of conf now.ups

  by_destinations : (port : ℕ) (p : Packet) (sent : List Sent) (on : Option (ℕ × Packet)) (by : Entry)
      → Part port p by.key.priority sent on default
      → ((h : HostRec) → Contains (hosts_of conf now d) h → AllByRecursion (Part port p by.key.priority sent on) (destinations d h stack))
      → Contains (plan conf now d) by → by.key.table ≡ 7 → hits by.key.fields port p ≡ true
      → IsDecided 7 port p (plan conf now d) sent on
  by_destinations port p sent on by last hosts within in_7 hit = record {
    by = by;
    within = within;
    hit = rw (eq-eqb by.key.table 7 in_7) hit;
    all = followed 7 port p by.key.priority sent on (plan conf now d) (by_family conf now d 7 (Part port p by.key.priority sent on) families);
  }
    where
      families : ByFamily conf now d 7 (Part port p by.key.priority sent on)
      families = record {
        drops = elsewhere_in 7 1 _ _ (λ e. omega (arith, e)) (drops_in conf d);
        groups = ((λ e. absurd (omega (arith, e))), ((λ e. absurd (omega (arith, e))), ((λ e. absurd (omega (arith, e))), ((λ e. absurd (omega (arith, e))), ((λ e. last), tt)))));
        port_acls = λ i c. elsewhere_in 7 0 _ _ (λ e. omega (arith, e)) (port_acl_in conf d i);
        admissions = λ i c. elsewhere_in 7 1 _ _ (λ e. omega (arith, e)) (admissions_in conf d i);
        misses = λ i c. elsewhere_in 7 3 _ _ (λ e. omega (arith, e)) (misses_in conf d i _);
        vlan_acls = λ v c. elsewhere_in 7 2 _ _ (λ e. omega (arith, e)) (vlan_acl_in conf d v);
        vips = λ v c. elsewhere_in 7 6 _ _ (λ e. omega (arith, e)) (vips_in d v);
        floods = λ v c. elsewhere_in 7 8 _ _ (λ e. omega (arith, e)) (floods_in d v _);
        sources = λ h c. elsewhere_in 7 3 _ _ (λ e. omega (arith, e)) (sources_in conf d h _);
        destinations = λ h c. here_in 7 _ _ (hosts h c);
        routes = λ v c. routes_elsewhere conf now d v 7 _ (λ e. omega (arith, e)) (λ e. omega (arith, e));
      }

  -- the parts of the entries of a host
  of_host_by : (port : ℕ) (p : Packet) (priority : ℕ) (sent : List Sent) (on : Option (ℕ × Packet)) (h : HostRec)
      → ((q : Port) → h.dp.0 ≡ d.id.0 → port_with d.ports h.port ≡ Some q → Part port p priority sent on (from_its_port d h q) × Part port p priority sent on (to_its_port d h q))
      → ((hop : ℕ) → (h.dp.0 == d.id.0) ≡ false → hop_of stack d.id h.dp ≡ Some hop → Part port p priority sent on (over_stack h hop))
      → AllByRecursion (Part port p priority sent on) (destinations d h stack)
  of_host_by port p priority sent on h here away =
      all_if (Part port p priority sent on) (h.dp.0 == d.id.0) (option_map_or (at_port d h) (port_with d.ports h.port) []) (option_to_list (option_map (over_stack h) (hop_of stack d.id h.dp)))
      (λ is. by (eqb-true h.dp.0 d.id.0 is) (port_with d.ports h.port) refl) (λ is. far is (hop_of stack d.id h.dp) refl)
    where
      by : h.dp.0 ≡ d.id.0 → (o : Option Port) → port_with d.ports h.port ≡ o → AllByRecursion (Part port p priority sent on) (option_map_or (at_port d h) o [])
      by is None e = tt
      by is (Some q) e = let x = here q is e in (x.0, (x.1, tt))

      far : (h.dp.0 == d.id.0) ≡ false → (o : Option ℕ) → hop_of stack d.id h.dp ≡ o → AllByRecursion (Part port p priority sent on) (option_to_list (option_map (over_stack h) o))
      far is None e = tt
      far is (Some hop) e = (away hop is e, tt)

  host_in : (h : HostRec) (e : Entry) → Contains (hosts_of conf now d) h → Contains (destinations d h stack) e → Contains (plan conf now d) e
  host_in h e c w =
      behind (fixed conf d) _ e
      (behind (flat_map (of_port conf now d) d.ports) _ e
      (behind (flat_map (of_vlan conf now d) conf.vlans) _ e
      (in_front (flat_map (of_host conf now d) (hosts_of conf now d)) _ e (in_flat (of_host conf now d) (hosts_of conf now d) h e c (behind (sources conf d h now.moment) (destinations d h stack) e w)))))

  last_in : Contains (plan conf now d) default
  last_in = in_front (fixed conf d) _ default (behind (drops conf d) (from_group ∷ passes) default (4, omega arith, refl))

  group_is : (h : HostRec) → Contains (hosts_of conf now d) h → is_of_group conf d h ≡ true
  group_is h c = of_all (λ x. is_of_group conf d x ≡ true) (hosts_of conf now d) (all_filtered (λ x. is_of_group conf d x ≡ true) (is_of_group conf d) now.hosts (all_by (λ x. is_of_group conf d x ≡ true → is_of_group conf d x ≡ true) now.hosts (λ x c is. is))) h c

  module _ (port : ℕ) (p : Packet) (i : Port) (v : Vlan) (l : Leaves conf now d port p i v) where
    came : Entered d port i
    came = entered conf now d setting port i l.is_port

    abbrev tag : Tag
    tag = (l.is_in).0

    vlan_hit : (vid : ℕ) → IsVid vid → agrees (vid_field vid) (value_of VlanVid port p) ≡ (v.vid == vid)
    vlan_hit vid is = in_vlan port p l.shaped vid is ∙ names_vlan p tag vid (l.is_in).1 ∙ ap (λ n. n == vid) (l.is_in).2

    abbrev test : HostRec → Bool
    test h = is_host_in conf (group_of conf d.id) v.vid h && is_same h.mac.0 p.dst.0

    to_fields : (h : HostRec) → Contains now.hosts h → hits (eth_dst h.mac ∷ vid_field h.vid ∷ []) port p ≡ is_same p.dst.0 h.mac.0 && ((v.vid == h.vid) && true)
    to_fields h c =
        ap (λ b. b && (agrees (vid_field h.vid) (value_of VlanVid port p) && true)) (to_address port p l.shaped h.mac (six_of conf now d setting h c))
        ∙ ap (λ b. is_same p.dst.0 h.mac.0 && (b && true)) (vlan_hit h.vid (place conf now d setting h c).vid)

    from_fields : (h : HostRec) (q : Port) → Contains now.hosts h → IsPortNo q.no → hits (in_port q.no ∷ eth_dst h.mac ∷ vid_field h.vid ∷ []) port p ≡ (port == q.no) && (is_same p.dst.0 h.mac.0 && ((v.vid == h.vid) && true))
    from_fields h q c is =
        ap (λ b. b && hits (eth_dst h.mac ∷ vid_field h.vid ∷ []) port p) (by_port port p l.shaped came.fits q.no is) ∙ ap (λ b. (port == q.no) && b) (to_fields h c)

    -- a host of the group whose entries hit is the destination
    passes_test : (h : HostRec) → Contains (hosts_of conf now d) h → (is_same p.dst.0 h.mac.0 ≡ true) → (v.vid == h.vid) ≡ true → test h ≡ true
    passes_test h c mac vid = rw (group_is h c) (rw (eq-eqb h.vid v.vid (sym (eqb-true v.vid h.vid vid))) (equal_bytes h.mac.0 p.dst.0 (sym (same_bytes p.dst.0 h.mac.0 mac))))

    hit_to : (h : HostRec) → Contains (hosts_of conf now d) h → hits (eth_dst h.mac ∷ vid_field h.vid ∷ []) port p ≡ true → test h ≡ true
    hit_to h c hit = let x = two (is_same p.dst.0 h.mac.0) (v.vid == h.vid) (sym (to_fields h (in_group conf now d setting h c)) ∙ hit) in passes_test h c x.0 x.1

    hit_from : (h : HostRec) (q : Port) → Contains (hosts_of conf now d) h → IsPortNo q.no → hits (in_port q.no ∷ eth_dst h.mac ∷ vid_field h.vid ∷ []) port p ≡ true → (port ≡ q.no) × (test h ≡ true)
    hit_from h q c is hit =
        let x = three (port == q.no) (is_same p.dst.0 h.mac.0) (v.vid == h.vid) (sym (from_fields h q (in_group conf now d setting h c) is) ∙ hit) in
        (eqb-true port q.no x.0, passes_test h c x.1 x.2)

    abbrev Just : List Sent → Option (ℕ × Packet) → Type 0
    Just sent on = IsDecided 7 port p (plan conf now d) sent on

    -- ---- a destination that isn't known, or that no way leads to, goes on

    goes_on_by : ((h : HostRec) → Contains (hosts_of conf now d) h → test h ≡ true → (h.dp.0 == d.id.0 ≡ false) × (hop_of stack d.id h.dp ≡ None)) → Just [] (Some (8, p))
    goes_on_by no_way =
        by_destinations port p [] (Some (8, p)) default (λ hit le. (same_self [], refl))
        (λ h c. of_host_by port p 0 [] (Some (8, p)) h
        (λ q here is. (
          (λ hit le. absurd (true≢false (sym (eq-eqb h.dp.0 d.id.0 here) ∙ (no_way h c (hit_from h q c (port_number conf setting.valid d setting.is_dp q (port_in conf setting.valid d setting.is_dp h.port q is)) hit).1).0))),
          (λ hit le. absurd (true≢false (sym (eq-eqb h.dp.0 d.id.0 here) ∙ (no_way h c (hit_to h c hit)).0))),
        ))
        (λ hop far is hit le. absurd (none-some hop (sym (no_way h c (hit_to h c hit)).1 ∙ is))))
        last_in refl refl

    -- ---- a destination that is known
    module _ (h : HostRec) (is : host_with conf now.hosts d v.vid p.dst ≡ Some h) where
      h_within : Contains now.hosts h
      h_within = (found test now.hosts h is).within

      h_test : test h ≡ true
      h_test = (found test now.hosts h is).passes

      h_mac : h.mac.0 ≡ p.dst.0
      h_mac = same_bytes h.mac.0 p.dst.0 (and_parts (is_host_in conf (group_of conf d.id) v.vid h) (is_same h.mac.0 p.dst.0) h_test).1

      h_in : is_host_in conf (group_of conf d.id) v.vid h ≡ true
      h_in = (and_parts (is_host_in conf (group_of conf d.id) v.vid h) (is_same h.mac.0 p.dst.0) h_test).0

      h_group : is_of_group conf d h ≡ true
      h_group = (and_parts ((group_of conf h.dp).0 == (group_of conf d.id).0) (h.vid == v.vid) h_in).0

      h_vid : h.vid ≡ v.vid
      h_vid = eqb-true h.vid v.vid (and_parts ((group_of conf h.dp).0 == (group_of conf d.id).0) (h.vid == v.vid) h_in).1

      h_of : Contains (hosts_of conf now d) h
      h_of = in_filtered (is_of_group conf d) now.hosts h h_within h_group

      -- any host of the group that passes the test is this one
      the_one : (g : HostRec) → Contains (hosts_of conf now d) g → test g ≡ true → h ≡ g
      the_one g c t =
          let x = and_parts (is_host_in conf (group_of conf d.id) v.vid g) (is_same g.mac.0 p.dst.0) t in
          let y = and_parts ((group_of conf g.dp).0 == (group_of conf d.id).0) (g.vid == v.vid) x.0 in
          one_host conf now d setting h g h_within (in_group conf now d setting g c) (eqb-true (group_of conf h.dp).0 (group_of conf d.id).0 h_group ∙ sym (eqb-true (group_of conf g.dp).0 (group_of conf d.id).0 y.0)) (h_vid ∙ sym (eqb-true g.vid v.vid y.1)) (h_mac ∙ sym (same_bytes g.mac.0 p.dst.0 x.1))

      to_hits : hits (eth_dst h.mac ∷ vid_field h.vid ∷ []) port p ≡ true
      to_hits = to_fields h h_within ∙ rw (equal_bytes p.dst.0 h.mac.0 (sym h_mac)) (rw (eq-eqb v.vid h.vid (sym h_vid)) refl)

      -- no table comes next
      nowhere : (o : Option Packet) → ◌≡◌ {A = Option (ℕ × Packet)} (option_and_then (λ (q : Packet). option_map (λ (u : ℕ). (u, q)) None) o) None
      nowhere None = refl
      nowhere (Some q) = refl

      stops_at : (priority : ℕ) (fields : List Field) (actions : List Action) (outs : List Sent) → act_sends actions port p ≡ outs → Does 7 port p outs None (entry table.Destination priority fields (leads_to actions None))
      stops_at priority fields actions outs is = (
        same_equal (sends_by (entry table.Destination priority fields (leads_to actions None)) port p) outs (sends_led table.Destination priority fields actions None port p ∙ is),
        goes_led table.Destination priority fields actions None 7 p
            ∙ ap (λ (o : Option ℕ). option_and_then (λ (q : Packet). option_map (λ (u : ℕ). (u, q)) o) (act_left actions p)) (ends_led actions 7) ∙ nowhere (act_left actions p),
      )

      -- ---- on this datapath
      module _ (here : h.dp.0 ≡ d.id.0) (q : Port) (q_is : port_with d.ports h.port ≡ Some q) where
        q_in : Contains d.ports q
        q_in = port_in conf setting.valid d setting.is_dp h.port q q_is

        q_number : IsPortNo q.no
        q_number = port_number conf setting.valid d setting.is_dp q q_in

        -- what goes out by the host's port
        goes_out : (by : Action) → ((r : Packet) → left_by by r ≡ Some r) → ((r : Packet) → sends_of by port r ≡ record { port = q.no; packet = r } ∷ []) → act_sends (sent d h.vid q by) port p ≡ delivered d v.vid p q
        goes_out by leaves sends =
            popped_first (is_native_in q h.vid) (copied d q.no by) port p
            ∙ copied_sends conf setting.valid d setting.is_dp port i l.is_port l.takes_in q by (as_sent q h.vid p) (leaves (as_sent q h.vid p)) (sends (as_sent q h.vid p))
            ∙ ap (λ n. delivered d n p q) h_vid

        -- the same host has the same port
        same_port : (g : HostRec) → h ≡ g → (r : Port) → port_with d.ports g.port ≡ Some r → q ≡ r
        same_port g same r is = same_Some q r (sym q_is ∙ ap (λ (x : HostRec). port_with d.ports x.port) same ∙ is)

        back_again : q.no ≡ port → Just (to_port d port v.vid p q) None
        back_again own =
            by_destinations port p (to_port d port v.vid p q) None (from_its_port d h q) (λ hit le. absurd (omega (arith, le)))
            (λ g c. of_host_by port p 20 (to_port d port v.vid p q) None g
            (λ r here_g is_r. (
              (λ hit le. (
                  let same = the_one g c (hit_from g r c (port_number conf setting.valid d setting.is_dp r (port_in conf setting.valid d setting.is_dp g.port r is_r)) hit).1 in
                  subst (λ x. Does 7 port p (to_port d port v.vid p q) None (from_its_port d g x)) (same_port g same r is_r) (subst (λ x. Does 7 port p (to_port d port v.vid p q) None (from_its_port d x q)) same does)
                  )),
              (λ hit le. absurd (omega (arith, le))),
            ))
            (λ hop far is_hop hit le. absurd (omega (arith, le))))
            (host_in h (from_its_port d h q) h_of (in_then (h.dp.0 == d.id.0) (option_map_or (at_port d h) (port_with d.ports h.port) []) _ (from_its_port d h q) (eq-eqb h.dp.0 d.id.0 here) (subst (λ o. Contains (option_map_or (at_port d h) o []) (from_its_port d h q)) (sym q_is) (head_of (from_its_port d h q) (to_its_port d h q ∷ [])))))
            refl
            (from_fields h q h_within q_number ∙ rw (eq-eqb port q.no (sym own)) (sym (to_fields h h_within) ∙ to_hits))
          where
            does : Does 7 port p (to_port d port v.vid p q) None (from_its_port d h q)
            does = stops_at 20 (in_port q.no ∷ eth_dst h.mac ∷ vid_field h.vid ∷ []) (sent_back d q h) (to_port d port v.vid p q) (by q.hairpin refl)
              where
                by : (b : Bool) → q.hairpin ≡ b → act_sends (if b then sent d h.vid q to_ingress else []) port p ≡ (if q.no == port && not b then [] else delivered d v.vid p q)
                by true is = goes_out to_ingress (λ r. refl) (λ r. ap (λ n. record { port = n; packet = r } ∷ []) (sym own)) ∙ rw (eq-eqb q.no port own) refl
                by false is = rw (eq-eqb q.no port own) refl

        by_its_port : (q.no == port) ≡ false → Just (to_port d port v.vid p q) None
        by_its_port other =
            by_destinations port p (to_port d port v.vid p q) None (to_its_port d h q) (λ hit le. absurd (omega (arith, le)))
            (λ g c. of_host_by port p 10 (to_port d port v.vid p q) None g
            (λ r here_g is_r. (
              (λ hit le. (
                  let x = hit_from g r c (port_number conf setting.valid d setting.is_dp r (port_in conf setting.valid d setting.is_dp g.port r is_r)) hit in
                  absurd (true≢false (sym (eq-eqb q.no port (ap (λ (y : Port). y.no) (same_port g (the_one g c x.1) r is_r) ∙ sym x.0)) ∙ other))
                  )),
              (λ hit le. (
                  let same = the_one g c (hit_to g c hit) in
                  subst (λ x. Does 7 port p (to_port d port v.vid p q) None (to_its_port d g x)) (same_port g same r is_r) (subst (λ x. Does 7 port p (to_port d port v.vid p q) None (to_its_port d x q)) same does)
                  )),
            ))
            (λ hop far is_hop hit le. absurd (true≢false (sym (eq-eqb h.dp.0 d.id.0 here) ∙ ap (λ (x : HostRec). x.dp.0 == d.id.0) (the_one g c (hit_to g c hit)) ∙ far))))
            (host_in h (to_its_port d h q) h_of (in_then (h.dp.0 == d.id.0) (option_map_or (at_port d h) (port_with d.ports h.port) []) _ (to_its_port d h q) (eq-eqb h.dp.0 d.id.0 here) (subst (λ o. Contains (option_map_or (at_port d h) o []) (to_its_port d h q)) (sym q_is) (tail_of (from_its_port d h q) (to_its_port d h q ∷ []) (to_its_port d h q) (head_of (to_its_port d h q) [])))))
            refl
            to_hits
          where
            does : Does 7 port p (to_port d port v.vid p q) None (to_its_port d h q)
            does =
                stops_at 10 (eth_dst h.mac ∷ vid_field h.vid ∷ []) (sent d h.vid q (out q.no)) (to_port d port v.vid p q)
                (goes_out (out q.no) (λ r. refl) (λ r. rw (no_ingress q.no q_number) (rw other refl)) ∙ rw other refl)

      -- ---- elsewhere in the stack
      over : (h.dp.0 == d.id.0) ≡ false → (hop : ℕ) → hop_of stack d.id h.dp ≡ Some hop → Just (to_hop port p hop) None
      over far hop hop_is =
          by_destinations port p (to_hop port p hop) None (over_stack h hop) (λ hit le. absurd (omega (arith, le)))
          (λ g c. of_host_by port p 10 (to_hop port p hop) None g
          (λ r here_g is_r. (
            (λ hit le. absurd (true≢false (sym (eq-eqb g.dp.0 d.id.0 here_g) ∙ ap (λ (x : HostRec). x.dp.0 == d.id.0) (sym (the_one g c (hit_from g r c (port_number conf setting.valid d setting.is_dp r (port_in conf setting.valid d setting.is_dp g.port r is_r)) hit).1)) ∙ far))),
            (λ hit le. absurd (true≢false (sym (eq-eqb g.dp.0 d.id.0 here_g) ∙ ap (λ (x : HostRec). x.dp.0 == d.id.0) (sym (the_one g c (hit_to g c hit))) ∙ far))),
          ))
          (λ other far_g is_hop hit le. (
          let same = the_one g c (hit_to g c hit) in
          let one : hop ≡ other = same_Some hop other (sym hop_is ∙ ap (λ (x : HostRec). hop_of stack d.id x.dp) same ∙ is_hop) in
          subst (λ n. Does 7 port p (to_hop port p hop) None (over_stack g n)) one (subst (λ x. Does 7 port p (to_hop port p hop) None (over_stack x hop)) same does)
          )))
          (host_in h (over_stack h hop) h_of (in_else (h.dp.0 == d.id.0) _ (option_to_list (option_map (over_stack h) (hop_of stack d.id h.dp))) (over_stack h hop) far (subst (λ o. Contains (option_to_list (option_map (over_stack h) o)) (over_stack h hop)) (sym hop_is) (head_of (over_stack h hop) []))))
          refl
          to_hits
        where
          does : Does 7 port p (to_hop port p hop) None (over_stack h hop)
          does = stops_at 10 (eth_dst h.mac ∷ vid_field h.vid ∷ []) (out hop ∷ []) (to_hop port p hop) (rw (no_ingress hop (end_number conf now d setting hop (end_of conf now d setting hop (hop_ends h.dp hop hop_is)))) (append-nil (to_hop port p hop)))

    -- ---- by where the packet is to go on

    abbrev Outcome : Onward → Type 0
    Outcome (ByPort n) = Sends conf now d 7 port p (option_map_or (to_port d port v.vid p) (port_with d.ports n) [])
    Outcome (OverStack hop) = Sends conf now d 7 port p (to_hop port p hop)
    Outcome Everywhere = (rest : List Sent) → Sends conf now d 8 port p rest → Sends conf now d 7 port p rest

    stopped_by : (outs : List Sent) → Just outs None → Sends conf now d 7 port p outs
    stopped_by outs j = stopped (plan conf now d) port 7 p outs (decided 7 port p (plan conf now d) outs None j)

    goes_by : Just [] (Some (8, p)) → (rest : List Sent) → Sends conf now d 8 port p rest → Sends conf now d 7 port p rest
    goes_by j rest x = went (plan conf now d) port 7 p [] 8 p rest (decided 7 port p (plan conf now d) [] (Some (8, p)) j) x

    same_dp : (a b : DpId) → a.0 ≡ b.0 → a ≡ b
    same_dp a b is = let made : ℕ → DpId = λ n. record { 0 = n } in ap made is

    toward : (h : HostRec) → host_with conf now.hosts d v.vid p.dst ≡ Some h → Outcome (onward_to stack d h)
    toward h is = by (h.dp.0 == d.id.0) refl
      where
        on_port : (q : Port) → port_with d.ports h.port ≡ Some q → h.dp.0 ≡ d.id.0 → (b : Bool) → (q.no == port) ≡ b → Sends conf now d 7 port p (to_port d port v.vid p q)
        on_port q q_is here true own = stopped_by (to_port d port v.vid p q) (back_again h is here q q_is (eqb-true q.no port own))
        on_port q q_is here false other = stopped_by (to_port d port v.vid p q) (by_its_port h is here q q_is other)

        by_hop : (h.dp.0 == d.id.0) ≡ false → (o : Option ℕ) → hop_of stack d.id h.dp ≡ o → Outcome (option_map_or OverStack o Everywhere)
        by_hop far (Some hop) e = stopped_by (to_hop port p hop) (over h is far hop e)
        by_hop far None e = goes_by (goes_on_by (λ g c t. (
            let same = the_one h is g c t in
            (ap (λ (x : HostRec). x.dp.0 == d.id.0) (sym same) ∙ far, ap (λ (x : HostRec). hop_of stack d.id x.dp) (sym same) ∙ e)
            )))

        by : (b : Bool) → (h.dp.0 == d.id.0) ≡ b → Outcome (if b then ByPort h.port else option_map_or OverStack (hop_of stack d.id h.dp) Everywhere)
        by true e =
            let here = eqb-true h.dp.0 d.id.0 e in
            let pl = place conf now d setting h (h_within h is) in
            let on_d : d ≡ pl.on = same_Some d pl.on (sym setting.is_dp ∙ ap (dp_with conf.dps) (sym (same_dp h.dp d.id here)) ∙ pl.is_dp) in
            let at_d : port_with d.ports h.port ≡ Some pl.at = ap (λ (x : Dp). port_with x.ports h.port) on_d ∙ pl.is_port in
            subst (λ o. Sends conf now d 7 port p (option_map_or (to_port d port v.vid p) o [])) (sym at_d) (on_port pl.at at_d here (pl.at.no == port) refl)
        by false e = by_hop e (hop_of stack d.id h.dp) refl

    outcome : Outcome (onward conf now.hosts stack d v.vid p.dst)
    unfolding onward
    outcome = by (host_with conf now.hosts d v.vid p.dst) refl
      where
        by : (o : Option HostRec) → host_with conf now.hosts d v.vid p.dst ≡ o → Outcome (option_map_or (onward_to stack d) o Everywhere)
        by None is = goes_by (goes_on_by (λ h c t. absurd (true≢false (sym t ∙ of_all (λ x. test x ≡ false) now.hosts (none_found test now.hosts is) h (in_group conf now d setting h c)))))
        by (Some h) is = toward h is

  pub law : DestinationLaw conf now d
  law = record {
    by_port = λ port p i v q l is. subst (Outcome port p i v l) is (outcome port p i v l);
    over_stack = λ port p i v hop l is. subst (Outcome port p i v l) is (outcome port p i v l);
    everywhere = λ port p i v l is. subst (Outcome port p i v l) is (outcome port p i v l);
  }
