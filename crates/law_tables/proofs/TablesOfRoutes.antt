-- Tables 4 to 6, case by case; tables 4 and 5 by one law over a family.
use Rattle.std.proofs.Common.{◌≡◌, ◌⊎◌, ℕ, ◌+◌, ◌-◌, ◌/◌, ◌^◌, ◌<◌, ◌≤◌, ◌==◌, ◌&&◌, ◌||◌, not, Bool, true, false, List, [], ◌∷◌, ◌++◌, length, map, filter, Option, Some, None, refl, sym, ap, ◌∙◌, subst, inl, inr, true≢false, eqb-true, eq-eqb, arith, if◌then◌else◌}
use Rattle.std.specs.Prelude.{Contains, option_and_then}
use Rattle.std.specs.List.{AllByRecursion, cons_option}
use Rattle.std.specs.Option.{option_map, option_map_or}
use Rattle.std.proofs.Math.Nat.{div-eq_of_lt}
use Rattle.std.proofs.lemmas.Bool.{and_parts}
use Rattle.net_base.specs.declared.address.Mac.{Mac}
use Rattle.net_base.specs.declared.field.Field.{Field}
use Rattle.net_base.specs.declared.field.FieldId.TheVariants.{EthDst, EthType, VlanVid}
use Rattle.net_base.specs.Address.{IsSixBytes}
use Rattle.net_base.specs.Field.{prefix_in}
use Rattle.net_base.specs.Numbers.{IsVid}
use Rattle.of_match.specs.declared.action.Action.{Action}
use Rattle.of_match.specs.declared.entry.Entry.{Entry}
use Rattle.of_match.specs.declared.packet.Packet.{Packet}
use Rattle.of_match.specs.declared.packet.Sent.{Sent}
use Rattle.of_match.specs.declared.packet.Upper.{Upper}
use Rattle.of_match.specs.Act.{act_sends, act_left}
use Rattle.of_match.specs.Hit.{agrees, hits, value_of}
use Rattle.of_match.specs.Shaped.{AgreesWithType}
use Rattle.conf_types.specs.declared.address.Ip.{Ip}
use Rattle.conf_types.specs.declared.address.Ip.TheVariants as ip
use Rattle.conf_types.specs.declared.address.Net.{Net}
use Rattle.conf_types.specs.declared.address.Net.TheVariants as net
use Rattle.conf_types.specs.declared.datapath.Dp.{Dp}
use Rattle.conf_types.specs.declared.datapath.Port.{Port}
use Rattle.conf_types.specs.declared.family.Family.{Family}
use Rattle.conf_types.specs.declared.vlan.Vlan.{Vlan}
use Rattle.conf_types.specs.Configuration.{Configuration, vlan_with}
use Rattle.conf_types.specs.Families.{IsAddress, ipv4, ipv6, ip_value, width_of, is_same_family, address_of, len_of}
use Rattle.conf_types.specs.Groups.{group_of}
use Rattle.conf_types.specs.Lists.{is_same}
use Rattle.conf_types.specs.Membership.{is_accepting, is_edge_member}
use Rattle.conf_types.specs.State.{State}
use Rattle.conf_types.specs.Valid.{IsVlan, IsVip}
use Rattle.packet_way.specs.declared.routes.RouteItem.{RouteItem}
use Rattle.packet_way.specs.declared.routes.Routed.{Routed}
use Rattle.packet_way.specs.declared.routes.Routed.TheVariants as routed_case
use Rattle.packet_way.specs.declared.routes.Target.{Target}
use Rattle.packet_way.specs.declared.routes.Target.TheVariants.{Gateway, Hop, Network}
use Rattle.packet_way.specs.Leaving.{to_controller}
use Rattle.packet_way.specs.Routes.{vip_item, hop_item, network_item, route_list, routed, routed_to, passed_by, led_by, sent_on, longest, item_holds, destination, is_arp_for, is_solicitation_for, is_told, hop_less}
use Rattle.plan_base.specs.declared.table.Table.TheVariants as table
use Rattle.plan_base.specs.Actions as action
use Rattle.plan_base.specs.Entries.{entry, table_number}
use Rattle.plan_base.specs.Families.{IsFamily}
use Rattle.plan_base.specs.Fields.{eth_dst, eth_type, vid_field, ip_dst, ip_proto, icmpv4_type, arp_tpa, icmpv6_type, nd_target}
use Rattle.plan_base.proofs.Families.{of_families, is_row}
use Rattle.route_compile.specs.declared.gateways.TheConstants.{ICMP, ECHO_REQUEST, ICMP6, ECHO_REQUEST6, ADVERTISEMENT}
use Rattle.of_match.specs.declared.ether_type.TheConstants.{ARP, IPV4, IPV6}
use Rattle.route_compile.specs.Gateways.{has_gateway, has_entrance, is_entrance}
use Rattle.route_compile.specs.Routes.{packets_for, item_fields, led_to, item_entry, no_route, is_item_of, family_fib, fib_of, route_table}
use Rattle.route_compile.specs.Vips.{only_to_controller, asking_for, asked_entry, echo_entry, echo6_entry, advert_entry, heard_entry, end_entry, messages, vip_slice}
use Rattle.law_runs.specs.Decided.{Does, IsDecided, decided}
use Rattle.law_runs.specs.Members.{in_front, behind, in_mapped, in_filtered, in_then, head_of, all_joined, all_if, all_mapped, all_filtered, all_by, of_all}
use Rattle.law_runs.specs.Order.{AreSame, same_self, same_equal}
use Rattle.law_runs.specs.Runs.{stopped, went}
use Rattle.plan_units.specs.Agrees.{to_address, of_type, in_vlan, names_vlan, hits_one}
use Rattle.plan_units.specs.Facts.{vlan_in, one_vlan, vlan_number}
use Rattle.plan_units.specs.Fixed.{pass}
use Rattle.plan_units.specs.Laws.{IsSetting, IsOf, Leaves, Sends, RoutingLaw}
use Rattle.plan_units.specs.Steps.{followed}
use Rattle.plan_units.specs.Tables.{fib_in, vips_in}
use Rattle.plan_units.specs.Units.{plan}
use Rattle.law_tables.proofs.RouteFamilies.{next_table, pass_by, at_routes, at_6, pass_in, vip_in, route_in, route_pass_in}
use Rattle.law_tables.proofs.Headers.{both, IsSeen, dst_seen, dst_unseen, dst_fits, no_hop, asks, asked_for, arp_type, solicits, Solicited, solicited_for, solicitation_type, solicitation_told, echoes, is_echoed, Told, solicited as by_solicitation, echo as by_echo, advert as by_advert, tells, is_message, moved, moved_left, moved_sends, tags_fit, upper_fits, moved_tag}
use Rattle.law_tables.proofs.Hits.{each_agrees, hits_where, not_hit, in_prefix}
use Rattle.law_tables.proofs.Items.{InSet, From, of_vip, of_neighbour, of_network, of_route, Origin, same_to, item_fits, no_default, origins, any_true}
use Rattle.law_tables.proofs.Longest.{Chosen, chosen}
use Rattle.law_tables.proofs.Ingress.{Entered, entered}

module _ (conf : Configuration) (now : State) (d : Dp) (setting : IsSetting conf now d) where
  vlan_is : (w : Vlan) → Contains conf.vlans w → IsVlan w
  vlan_is w c = of_all IsVlan conf.vlans setting.valid.vlans.each w c

  six_of : (w : Vlan) → Contains conf.vlans w → IsSixBytes w.mac.0
  six_of w c = let is = (vlan_is w c).mac in record { count = is.six; each = is.each }

  module _ (port : ℕ) (p : Packet) (i : Port) (v : Vlan) (o : IsOf conf now d port p i v) where
    came : Entered d port i
    came = entered conf now d setting port i o.is_port

    v_in : Contains conf.vlans v
    v_in = vlan_in conf setting.valid d setting.is_dp v.vid v o.is_vlan

    abbrev items : List RouteItem
    items = route_list conf now.neighbours (group_of conf d.id) v.vid

    -- an entry's part in table t: if it hits, and none of this priority comes before it, it does so
    abbrev Part : ℕ → ℕ → List Sent → Option (ℕ × Packet) → Entry → Type 0
    Part t priority sent on e = hits e.key.fields port p ≡ true → priority ≤ e.key.priority → Does t port p sent on e

    abbrev NoHit : Entry → Type 0
    NoHit e = hits e.key.fields port p ≡ true → ⊥

    no_parts : (t priority : ℕ) (sent : List Sent) (on : Option (ℕ × Packet)) (es : List Entry) → AllByRecursion NoHit es → AllByRecursion (Part t priority sent on) es
    no_parts t priority sent on es none = all_by (Part t priority sent on) es (λ e c hit le. absurd (of_all NoHit es none e c hit))

    -- ---- the fields as questions

    vlan_hit : (vid : ℕ) → IsVid vid → agrees (vid_field vid) (value_of VlanVid port p) ≡ (v.vid == vid)
    vlan_hit vid is = in_vlan port p o.shaped vid is ∙ names_vlan p (o.is_in).0 vid (o.is_in).1 ∙ ap (λ n. n == vid) (o.is_in).2

    own_vlan : agrees (vid_field v.vid) (value_of VlanVid port p) ≡ true
    own_vlan = vlan_hit v.vid (vlan_number conf setting.valid d setting.is_dp v v_in) ∙ eq-eqb v.vid v.vid refl

    to_gateway : agrees (eth_dst v.mac) (value_of EthDst port p) ≡ is_same p.dst.0 v.mac.0
    to_gateway = to_address port p o.shaped v.mac (six_of v v_in)

    type_hit : (number : ℕ) → number < 2 ^ 16 → agrees (eth_type number) (value_of EthType port p) ≡ (p.eth_type == number)
    type_hit number less = of_type port p o.shaped number less

    -- ---- entries of other VLANs take nothing

    abbrev routes_of : Family → Vlan → List Entry
    routes_of f w = fib_of f conf now.neighbours d w

    fib_without : (f : Family) (w : Vlan) (x : Field) → Contains (packets_for f w) x → agrees x (value_of x.id port p) ≡ false → AllByRecursion NoHit (routes_of f w)
    fib_without f w x c is =
        let list = route_list conf now.neighbours (group_of conf d.id) w.vid in
        let own = filter (is_item_of f) list in
        all_if NoHit (has_gateway d w) (family_fib f w list) []
        (λ has. all_joined NoHit (map (item_entry f w) own) (no_route f w ∷ [])
        (all_mapped NoHit (item_entry f w) own (all_by (λ i. NoHit (item_entry f w i)) own
        (λ i at hit. not_hit (item_fields f w i) port p x (in_front (packets_for f w) (cons_option (ip_dst f (ip_value i.ip) i.len) []) x c) is hit)))
        ((λ hit. not_hit (packets_for f w) port p x c is hit), tt)) (λ has. tt)

    slice_by : (Q : Entry → Type 0) (w : Vlan) → (has_gateway d w ≡ true → (vip : Net) → Contains w.vips vip → Q (asked_entry w vip))
        → Q (echo_entry w) → Q (echo6_entry w) → Q (advert_entry w) → Q (heard_entry w) → Q (end_entry w) → AllByRecursion Q (vip_slice d w)
    slice_by Q w asked echo echo6 advert heard end =
        all_if Q (has_gateway d w) (map (asked_entry w) w.vips ++ messages w) []
        (λ has. all_joined Q (map (asked_entry w) w.vips) (messages w) (all_mapped Q (asked_entry w) w.vips (all_by (λ vip. Q (asked_entry w vip)) w.vips (asked has))) (echo, (echo6, (advert, (heard, (end, tt)))))) (λ has. tt)

    other_vlan : (w : Vlan) → Contains conf.vlans w → (v.vid == w.vid) ≡ false → agrees (vid_field w.vid) (value_of VlanVid port p) ≡ false
    other_vlan w c is = vlan_hit w.vid (vlan_number conf setting.valid d setting.is_dp w c) ∙ is

    -- the VLAN is the second that is asked of one who asks for an address
    vid_asked : (vid : ℕ) (a : Ip) → Contains (asking_for vid a) (vid_field vid)
    vid_asked vid (ip.V4 a) = (1, omega arith, refl)
    vid_asked vid (ip.V6 a) = (1, omega arith, refl)

    other_slice : (w : Vlan) → agrees (vid_field w.vid) (value_of VlanVid port p) ≡ false → AllByRecursion NoHit (vip_slice d w)
    other_slice w is =
        slice_by NoHit w (λ has vip c hit. not_hit (asked_entry w vip).key.fields port p (vid_field w.vid) (vid_asked w.vid (address_of vip)) is hit)
        (λ hit. not_hit (echo_entry w).key.fields port p (vid_field w.vid) (2, omega arith, refl) is hit)
        (λ hit. not_hit (echo6_entry w).key.fields port p (vid_field w.vid) (2, omega arith, refl) is hit)
        (λ hit. not_hit (advert_entry w).key.fields port p (vid_field w.vid) (2, omega arith, refl) is hit)
        (λ hit. not_hit (heard_entry w).key.fields port p (vid_field w.vid) (2, omega arith, refl) is hit)
        (λ hit. not_hit (end_entry w).key.fields port p (vid_field w.vid) (1, omega arith, refl) is hit)

    -- where the entries of the packet's VLAN do so, and those of the others take nothing, so do all
    each_vlan : (t priority : ℕ) (sent : List Sent) (on : Option (ℕ × Packet)) (es : Vlan → List Entry) → AllByRecursion (Part t priority sent on) (es v)
        → ((w : Vlan) → agrees (vid_field w.vid) (value_of VlanVid port p) ≡ false → AllByRecursion NoHit (es w))
        → (w : Vlan) → Contains conf.vlans w → AllByRecursion (Part t priority sent on) (es w)
    each_vlan t priority sent on es own others w c = by (v.vid == w.vid) refl
      where
        by : (b : Bool) → (v.vid == w.vid) ≡ b → AllByRecursion (Part t priority sent on) (es w)
        by true is = subst (λ x. AllByRecursion (Part t priority sent on) (es x)) (one_vlan conf setting.valid d setting.is_dp v w v_in c (eqb-true v.vid w.vid is)) own
        by false is = no_parts t priority sent on (es w) (others w (other_vlan w c is))

    each_fib : (f : Family) (t priority : ℕ) (sent : List Sent) (on : Option (ℕ × Packet)) → AllByRecursion (Part t priority sent on) (routes_of f v)
        → (w : Vlan) → Contains conf.vlans w → AllByRecursion (Part t priority sent on) (routes_of f w)
    each_fib f t priority sent on own = each_vlan t priority sent on (routes_of f) own (λ w is. fib_without f w (vid_field w.vid) (2, omega arith, refl) is)

    each_slice : (priority : ℕ) (sent : List Sent) (on : Option (ℕ × Packet)) → AllByRecursion (Part 6 priority sent on) (vip_slice d v)
        → (w : Vlan) → Contains conf.vlans w → AllByRecursion (Part 6 priority sent on) (vip_slice d w)
    each_slice priority sent on own = each_vlan 6 priority sent on (vip_slice d) own other_slice

    -- ---- what decides

    abbrev Just : ℕ → List Sent → Option (ℕ × Packet) → Type 0
    Just t sent on = IsDecided t port p (plan conf now d) sent on

    -- in a family's table
    abbrev at : Family → ℕ
    at f = table_number (route_table f)

    by_routes : (f : Family) → IsFamily f → (sent : List Sent) (on : Option (ℕ × Packet)) (by : Entry) → Contains (routes_of f v) by → hits by.key.fields port p ≡ true → 1 ≤ by.key.priority
        → AllByRecursion (Part (at f) by.key.priority sent on) (routes_of f v) → Just (at f) sent on
    by_routes f fam sent on by within hit some all = record {
      by = by;
      within = route_in conf now d f fam v by v_in within;
      hit = rw (eq-eqb by.key.table (at f) (of_all (λ e. e.key.table ≡ at f) (routes_of f v) (fib_in f conf now d v) by within)) hit;
      all = followed (at f) port p by.key.priority sent on (plan conf now d) (at_routes conf now d f fam (Part (at f) by.key.priority sent on) (λ h le. absurd (omega (arith, some, le))) (each_fib f (at f) by.key.priority sent on all));
    }

    by_vips : (sent : List Sent) (on : Option (ℕ × Packet)) (by : Entry) → Contains (vip_slice d v) by → hits by.key.fields port p ≡ true → 1 ≤ by.key.priority
        → AllByRecursion (Part 6 by.key.priority sent on) (vip_slice d v) → Just 6 sent on
    by_vips sent on by within hit some all = record {
      by = by;
      within = vip_in conf now d v by v_in within;
      hit = rw (eq-eqb by.key.table 6 (of_all (λ e. e.key.table ≡ 6) (vip_slice d v) (vips_in d v) by within)) hit;
      all = followed 6 port p by.key.priority sent on (plan conf now d) (at_6 conf now d (Part 6 by.key.priority sent on) (λ h le. absurd (omega (arith, some, le))) (each_slice by.key.priority sent on all));
    }

    -- where no entry of the VLAN takes the packet, it goes on
    pass_does : (f : Family) → IsFamily f → Does (at f) port p [] (Some (table_number (next_table f), p)) (pass_by f)
    pass_does = of_families (λ f. Does (at f) port p [] (Some (table_number (next_table f), p)) (pass_by f)) (same_self [], refl) (same_self [], refl)

    passes : (f : Family) → IsFamily f → AllByRecursion NoHit (routes_of f v) → Just (at f) [] (Some (table_number (next_table f), p))
    passes f fam none =
        let on : Option (ℕ × Packet) = Some (table_number (next_table f), p) in
        record {
          by = pass_by f;
          within = route_pass_in conf now d f fam;
          hit = rw (eq-eqb (at f) (at f) refl) refl;
          all = followed (at f) port p 0 [] on (plan conf now d) (at_routes conf now d f fam (Part (at f) 0 [] on) (λ h le. pass_does f fam) (each_fib f (at f) 0 [] on (no_parts (at f) 0 [] on (routes_of f v) none)));
        }

    passes_6 : AllByRecursion NoHit (vip_slice d v) → Just 6 [] (Some (7, p))
    passes_6 none = record {
      by = pass table.Vip table.Destination;
      within = pass_in conf now d (pass table.Vip table.Destination) (3, omega arith, refl);
      hit = refl;
      all = followed 6 port p 0 [] (Some (7, p)) (plan conf now d) (at_6 conf now d (Part 6 0 [] (Some (7, p))) (λ h le. (same_self [], refl)) (each_slice 0 [] (Some (7, p)) (no_parts 6 0 [] (Some (7, p)) (vip_slice d v) none)));
    }

    abbrev Out : ℕ → List Sent → Type 0
    Out t outs = Sends conf now d t port p outs

    over : (f : Family) → IsFamily f → AllByRecursion NoHit (routes_of f v) → (rest : List Sent) → Out (table_number (next_table f)) rest → Out (at f) rest
    over f fam none rest x = went (plan conf now d) port (at f) p [] (table_number (next_table f)) p rest (decided (at f) port p (plan conf now d) [] (Some (table_number (next_table f), p)) (passes f fam none)) x

    over_4 : AllByRecursion NoHit (routes_of ipv4 v) → (rest : List Sent) → Out 5 rest → Out 4 rest
    over_4 none rest x = over ipv4 (inl refl) none rest x

    over_5 : AllByRecursion NoHit (routes_of ipv6 v) → (rest : List Sent) → Out 6 rest → Out 5 rest
    over_5 none rest x = over ipv6 (inr refl) none rest x

    over_both : AllByRecursion NoHit (routes_of ipv4 v) → AllByRecursion NoHit (routes_of ipv6 v) → (rest : List Sent) → Out 6 rest → Out 4 rest
    over_both no_four no_six rest x = over_4 no_four rest (over_5 no_six rest x)

    over_6 : AllByRecursion NoHit (vip_slice d v) → (rest : List Sent) → Out 7 rest → Out 6 rest
    over_6 none rest x = went (plan conf now d) port 6 p [] 7 p rest (decided 6 port p (plan conf now d) [] (Some (7, p)) (passes_6 none)) x

    -- ---- what entries do

    to_it : act_sends (action.to_controller ∷ []) port p ≡ to_controller p
    to_it = rw came.no_controller refl

    answers_6 : (priority : ℕ) (fields : List Field) → Does 6 port p (to_controller p) None (entry table.Vip priority fields only_to_controller)
    answers_6 priority fields = (same_equal (act_sends (action.to_controller ∷ []) port p) (to_controller p) to_it, refl)

    -- ---- what becomes of the packet, from a table on

    record GoesTo (t vid : ℕ) (q : Packet) : Type 0 where
      vlan : Vlan
      is_vlan : vlan_with conf.vlans vid ≡ Some vlan
      leaves : Leaves conf now d port q i vlan
      goes : (rest : List Sent) → Sends conf now d 7 port q rest → Out t rest

    abbrev Outcome : ℕ → Routed → Type 0
    Outcome t (routed_case.GoesOn vid q) = GoesTo t vid q
    Outcome t routed_case.ToController = Out t (to_controller p)
    Outcome t routed_case.Ends = Out t []

    -- table 4 goes before table 5
    earlier : AllByRecursion NoHit (routes_of ipv4 v) → (r : Routed) → Outcome 5 r → Outcome 4 r
    earlier none (routed_case.GoesOn vid q) o = record { vlan = o.vlan; is_vlan = o.is_vlan; leaves = o.leaves; goes = λ rest x. over_4 none rest (o.goes rest x) }
    earlier none routed_case.ToController o = over_4 none (to_controller p) o
    earlier none routed_case.Ends o = over_4 none [] o

    -- not for the gateway
    as_it_is : AllByRecursion NoHit (routes_of ipv4 v) → AllByRecursion NoHit (routes_of ipv6 v) → AllByRecursion NoHit (vip_slice d v) → GoesTo 4 v.vid p
    as_it_is no_four no_six no_answer = record {
      vlan = v;
      is_vlan = o.is_vlan;
      leaves = record { shaped = o.shaped; is_port = o.is_port; takes_in = inr o.accepting; is_vlan = o.is_vlan; is_in = o.is_in };
      goes = λ rest x. over_both no_four no_six rest (over_6 no_answer rest x);
    }

    -- a VLAN without VIPs has no gateway
    without_vips : (length v.vips == 0) ≡ true → GoesTo 4 v.vid p
    without_vips none = as_it_is (nothing (family_fib ipv4 v items)) (nothing (family_fib ipv6 v items)) (nothing (map (asked_entry v) v.vips ++ messages v))
      where
        no_gateway : has_gateway d v ≡ false
        no_gateway = ap (λ b. not b && has_entrance d v.vid) none

        nothing : (es : List Entry) → AllByRecursion NoHit (if has_gateway d v then es else [])
        nothing es = all_if NoHit (has_gateway d v) es [] (λ has. absurd (true≢false (sym has ∙ no_gateway))) (λ has. tt)

    module _ (some : (length v.vips == 0) ≡ false) where
      has : has_gateway d v ≡ true
      has =
          both (not (length v.vips == 0)) (has_entrance d v.vid) (ap not some)
          (any_true (is_entrance v.vid) d.ports i came.within (both (is_accepting i) (is_edge_member i v.vid) o.accepting o.member))

      vip_fits : (vip : Net) → Contains v.vips vip → IsAddress (address_of vip)
      vip_fits vip c = (of_all IsVip v.vips (vlan_is v v_in).vips vip c).address

      in_slice : (e : Entry) → Contains (map (asked_entry v) v.vips ++ messages v) e → Contains (vip_slice d v) e
      in_slice e c = in_then (has_gateway d v) _ [] e has c

      in_last : (e : Entry) → Contains (messages v) e → Contains (vip_slice d v) e
      in_last e c = in_slice e (behind (map (asked_entry v) v.vips) _ e c)

      in_asked : (vip : Net) → Contains v.vips vip → Contains (vip_slice d v) (asked_entry v vip)
      in_asked vip c = in_slice (asked_entry v vip) (in_front (map (asked_entry v) v.vips) _ (asked_entry v vip) (in_mapped (asked_entry v) v.vips vip c))

      -- ---- table 6

      -- every entry but the last has the controller answer
      answered : (by : Entry) → Contains (vip_slice d v) by → hits by.key.fields port p ≡ true → 11 ≤ by.key.priority → Out 6 (to_controller p)
      answered by within hit above =
          stopped (plan conf now d) port 6 p (to_controller p) (decided 6 port p (plan conf now d) (to_controller p) None
          (by_vips (to_controller p) None by within hit (omega (arith, above))
          (slice_by (Part 6 by.key.priority (to_controller p) None) v (λ own vip c h le. answers_6 30 (asked_entry v vip).key.fields) (λ h le. answers_6 30 (echo_entry v).key.fields)
          (λ h le. answers_6 30 (echo6_entry v).key.fields) (λ h le. answers_6 20 (advert_entry v).key.fields) (λ h le. answers_6 20 (heard_entry v).key.fields)
          (λ h le. absurd (omega (arith, above, le))))))

      -- what is for the gateway, and no other entry takes, ends
      ended : ((vip : Net) → Contains v.vips vip → NoHit (asked_entry v vip)) → NoHit (echo_entry v) → NoHit (echo6_entry v) → NoHit (advert_entry v) → NoHit (heard_entry v) → is_same p.dst.0 v.mac.0 ≡ true → Out 6 []
      ended no_asked no_echo no_echo6 no_advert no_heard own =
          stopped (plan conf now d) port 6 p [] (decided 6 port p (plan conf now d) [] None
          (by_vips [] None (end_entry v) (in_last (end_entry v) (4, omega arith, refl)) (hits_where (end_entry v).key.fields port p (to_gateway ∙ own, (own_vlan, tt))) (omega arith)
          (slice_by (Part 6 10 [] None) v (λ g vip c h le. absurd (no_asked vip c h)) (λ h le. absurd (no_echo h)) (λ h le. absurd (no_echo6 h)) (λ h le. absurd (no_advert h)) (λ h le. absurd (no_heard h))
          (λ h le. (same_self [], refl)))))

      -- an entry that asks for another type takes nothing
      other_type : (e : Entry) (number : ℕ) → number < 2 ^ 16 → Contains e.key.fields (eth_type number) → (p.eth_type == number) ≡ false → NoHit e
      other_type e number less c is hit = not_hit e.key.fields port p (eth_type number) c (type_hit number less ∙ is) hit

      -- a field that a match asks for
      asks_in : (e : Entry) (f : Field) → Contains e.key.fields f → hits e.key.fields port p ≡ true → agrees f (value_of f.id port p) ≡ true
      asks_in e f c h = of_all (λ f. agrees f (value_of f.id port p) ≡ true) e.key.fields (each_agrees e.key.fields port p h) f c

      -- who asks for a VIP does so by ARP or by a solicitation
      vip_asked : (vip : Net) → Contains v.vips vip → hits (asked_entry v vip).key.fields port p ≡ true → (is_arp_for v.vips p.upper ≡ true) ⊎ (is_solicitation_for v.vips p.upper ≡ true)
      vip_asked (net.V4 n) c h = inl (asks v.vips p.upper o.shaped.numbers (net.V4 n) c n.ip refl (vip_fits (net.V4 n) c) (asks_in (asked_entry v (net.V4 n)) (arp_tpa n.ip.0) (2, omega arith, refl) h))
      vip_asked (net.V6 n) c h =
          inr (solicits v.vips p.upper p.eth_type o.shaped.upper o.shaped.numbers (net.V6 n) c n.ip refl (vip_fits (net.V6 n) c)
          (asks_in (asked_entry v (net.V6 n)) (icmpv6_type 135) (3, omega arith, refl) h) (asks_in (asked_entry v (net.V6 n)) (nd_target n.ip.0) (4, omega arith, refl) h))

      -- the entry of a VIP that is solicited
      solicited : (s : Solicited v.vips p.upper) → (p.eth_type == IPV6) ≡ true → Out 6 (to_controller p)
      solicited s is =
          answered (asked_entry v s.vip) (in_asked s.vip s.vip_in)
          (subst (λ a. hits (asking_for v.vid a) port p ≡ true) (sym s.address)
          (hits_where (asking_for v.vid (ip.V6 s.target)) port p (type_hit IPV6 (omega arith) ∙ is, (own_vlan, (s.next, (s.kind, (s.asked, tt))))))) (omega arith)

      -- ARP for a VIP
      asks_for_vip : is_arp_for v.vips p.upper ≡ true → Out 4 (to_controller p)
      asks_for_vip is =
          let is_arp : p.eth_type ≡ ARP = arp_type v.vips p.upper p.eth_type o.shaped.upper is in
          let a = asked_for v.vips p.upper o.shaped.numbers is in
          over_both (fib_without ipv4 v (eth_type IPV4) (1, omega arith, refl) (type_hit IPV4 (omega arith) ∙ ap (λ n. n == IPV4) is_arp))
          (fib_without ipv6 v (eth_type IPV6) (1, omega arith, refl) (type_hit IPV6 (omega arith) ∙ ap (λ n. n == IPV6) is_arp)) (to_controller p)
          (answered (asked_entry v a.vip) (in_asked a.vip a.vip_in)
          (subst (λ x. hits (asking_for v.vid x) port p ≡ true) (sym a.address)
          (hits_where (asking_for v.vid (ip.V4 a.target)) port p (type_hit ARP (omega arith) ∙ eq-eqb p.eth_type ARP is_arp, (own_vlan, (a.asked, tt))))) (omega arith))

      module _ (no_vip : is_arp_for v.vips p.upper ≡ false) where
        -- ---- not to the gateway
        module _ (apart : is_same p.dst.0 v.mac.0 ≡ false) where
          misses : agrees (eth_dst v.mac) (value_of EthDst port p) ≡ false
          misses = to_gateway ∙ apart

          no_four : AllByRecursion NoHit (routes_of ipv4 v)
          no_four = fib_without ipv4 v (eth_dst v.mac) (0, omega arith, refl) misses

          no_six : AllByRecursion NoHit (routes_of ipv6 v)
          no_six = fib_without ipv6 v (eth_dst v.mac) (0, omega arith, refl) misses

          not_for_it : (b : Bool) → is_solicitation_for v.vips p.upper ≡ b → Outcome 4 (if b then routed_case.ToController else routed_case.GoesOn v.vid p)
          not_for_it true is =
              over_both no_four no_six (to_controller p) (solicited (solicited_for v.vips p.upper o.shaped.numbers is) (eq-eqb p.eth_type IPV6 (solicitation_type v.vips p.upper p.eth_type o.shaped.upper is)))
          not_for_it false is =
              as_it_is no_four no_six
              (slice_by NoHit v (λ g vip c h. elim (vip_asked vip c h) [ inl arp ↦ true≢false (sym arp ∙ no_vip) | inr solicits ↦ true≢false (sym solicits ∙ is) ])
              (λ h. not_hit (echo_entry v).key.fields port p (eth_dst v.mac) (0, omega arith, refl) misses h)
              (λ h. not_hit (echo6_entry v).key.fields port p (eth_dst v.mac) (0, omega arith, refl) misses h)
              (λ h. not_hit (advert_entry v).key.fields port p (eth_dst v.mac) (0, omega arith, refl) misses h)
              (λ h. not_hit (heard_entry v).key.fields port p (eth_dst v.mac) (0, omega arith, refl) misses h)
              (λ h. not_hit (end_entry v).key.fields port p (eth_dst v.mac) (0, omega arith, refl) misses h))

        module _ (own : is_same p.dst.0 v.mac.0 ≡ true) where
          -- other ARP, and what is neither ARP nor IP
          module _ (no_ipv4 : (p.eth_type == IPV4) ≡ false) (no_ipv6 : (p.eth_type == IPV6) ≡ false) where
            over_ip : (rest : List Sent) → Out 6 rest → Out 4 rest
            over_ip rest x =
                over_both (fib_without ipv4 v (eth_type IPV4) (1, omega arith, refl) (type_hit IPV4 (omega arith) ∙ no_ipv4))
                (fib_without ipv6 v (eth_type IPV6) (1, omega arith, refl) (type_hit IPV6 (omega arith) ∙ no_ipv6)) rest x

            heard : (p.eth_type == ARP) ≡ true → Out 4 (to_controller p)
            heard is =
                over_ip (to_controller p) (answered (heard_entry v) (in_last (heard_entry v) (3, omega arith, refl))
                (hits_where (heard_entry v).key.fields port p (to_gateway ∙ own, (type_hit ARP (omega arith) ∙ is, (own_vlan, tt)))) (omega arith))

            no_asked : (p.eth_type == ARP) ≡ false → (vip : Net) → NoHit (asked_entry v vip)
            no_asked is (net.V4 n) = other_type (asked_entry v (net.V4 n)) ARP (omega arith) (0, omega arith, refl) is
            no_asked is (net.V6 n) = other_type (asked_entry v (net.V6 n)) IPV6 (omega arith) (0, omega arith, refl) no_ipv6

            other : (p.eth_type == ARP) ≡ false → Out 4 []
            other is =
                over_ip [] (ended (λ vip c. no_asked is vip) (other_type (echo_entry v) IPV4 (omega arith) (1, omega arith, refl) no_ipv4)
                (other_type (echo6_entry v) IPV6 (omega arith) (1, omega arith, refl) no_ipv6) (other_type (advert_entry v) IPV6 (omega arith) (1, omega arith, refl) no_ipv6)
                (other_type (heard_entry v) ARP (omega arith) (1, omega arith, refl) is) own)

          -- ---- what a VIP's item hands to table 6

          abbrev ToItself : Type 0
          ToItself = Out 6 (if is_told v.vips p.upper then to_controller p else [])

          at_vip4 : p.eth_type ≡ IPV4 → ToItself
          at_vip4 kind = by (is_told v.vips p.upper) refl
            where
              no_arp : (p.eth_type == ARP) ≡ false
              no_arp = ap (λ n. n == ARP) kind

              no_ipv6 : (p.eth_type == IPV6) ≡ false
              no_ipv6 = ap (λ n. n == IPV6) kind

              no_asked : (vip : Net) → NoHit (asked_entry v vip)
              no_asked (net.V4 n) = other_type (asked_entry v (net.V4 n)) ARP (omega arith) (0, omega arith, refl) no_arp
              no_asked (net.V6 n) = other_type (asked_entry v (net.V6 n)) IPV6 (omega arith) (0, omega arith, refl) no_ipv6

              by : (b : Bool) → is_told v.vips p.upper ≡ b → Out 6 (if b then to_controller p else [])
              by true is =
                  let a = echoes v.vips p.upper (subst (λ n. AgreesWithType n p.upper) kind o.shaped.upper) o.shaped.numbers is in
                  answered (echo_entry v) (in_last (echo_entry v) (0, omega arith, refl))
                  (hits_where (echo_entry v).key.fields port p (to_gateway ∙ own, (type_hit IPV4 (omega arith) ∙ eq-eqb p.eth_type IPV4 kind, (own_vlan, (a.0, (a.1, tt)))))) (omega arith)
              by false is =
                  ended (λ vip c. no_asked vip)
                  (λ h. true≢false (sym (is_echoed v.vips p.upper p.eth_type o.shaped.upper o.shaped.numbers (asks_in (echo_entry v) (ip_proto ICMP) (3, omega arith, refl) h, asks_in (echo_entry v) (icmpv4_type ECHO_REQUEST) (4, omega arith, refl) h)) ∙ is))
                  (other_type (echo6_entry v) IPV6 (omega arith) (1, omega arith, refl) no_ipv6) (other_type (advert_entry v) IPV6 (omega arith) (1, omega arith, refl) no_ipv6)
                  (other_type (heard_entry v) ARP (omega arith) (1, omega arith, refl) no_arp) own

          at_vip6 : p.eth_type ≡ IPV6 → ToItself
          at_vip6 kind = by (is_told v.vips p.upper) refl
            where
              no_arp : (p.eth_type == ARP) ≡ false
              no_arp = ap (λ n. n == ARP) kind

              no_ipv4 : (p.eth_type == IPV4) ≡ false
              no_ipv4 = ap (λ n. n == IPV4) kind

              typed : agrees (eth_type IPV6) (value_of EthType port p) ≡ true
              typed = type_hit IPV6 (omega arith) ∙ eq-eqb p.eth_type IPV6 kind

              told : Told v.vips p.upper → Out 6 (to_controller p)
              told (by_solicitation s) = solicited s (eq-eqb p.eth_type IPV6 kind)
              told (by_echo a) =
                  answered (echo6_entry v) (in_last (echo6_entry v) (1, omega arith, refl)) (hits_where (echo6_entry v).key.fields port p (to_gateway ∙ own, (typed, (own_vlan, (a.0, (a.1, tt)))))) (omega arith)
              told (by_advert a) =
                  answered (advert_entry v) (in_last (advert_entry v) (2, omega arith, refl)) (hits_where (advert_entry v).key.fields port p (to_gateway ∙ own, (typed, (own_vlan, (a.0, (a.1, tt)))))) (omega arith)

              by : (b : Bool) → is_told v.vips p.upper ≡ b → Out 6 (if b then to_controller p else [])
              by true is = told (tells v.vips p.upper (subst (λ n. AgreesWithType n p.upper) kind o.shaped.upper) o.shaped.numbers is)
              by false is =
                  ended
                  (λ vip c h. elim (vip_asked vip c h) [ inl arp ↦ true≢false (sym arp ∙ no_vip) | inr asks ↦ true≢false (sym (solicitation_told v.vips p.upper asks) ∙ is) ])
                  (other_type (echo_entry v) IPV4 (omega arith) (1, omega arith, refl) no_ipv4)
                  (λ h. true≢false (sym (is_message v.vips 128 (inl refl) p.upper p.eth_type o.shaped.upper o.shaped.numbers (asks_in (echo6_entry v) (ip_proto ICMP6) (3, omega arith, refl) h, asks_in (echo6_entry v) (icmpv6_type ECHO_REQUEST6) (4, omega arith, refl) h)) ∙ is))
                  (λ h. true≢false (sym (is_message v.vips 136 (inr refl) p.upper p.eth_type o.shaped.upper o.shaped.numbers (asks_in (advert_entry v) (ip_proto ICMP6) (3, omega arith, refl) h, asks_in (advert_entry v) (icmpv6_type ADVERTISEMENT) (4, omega arith, refl) h)) ∙ is))
                  (other_type (heard_entry v) ARP (omega arith) (1, omega arith, refl) no_arp) own

          -- ---- a family's table
          module _ (f : Family) (fam : IsFamily f) (is_type : p.eth_type ≡ f.ether_type) where
            abbrev t : ℕ
            t = at f

            is_typed : agrees (eth_type f.ether_type) (value_of EthType port p) ≡ true
            is_typed = type_hit f.ether_type (is_row f fam).type_fits ∙ eq-eqb p.eth_type f.ether_type is_type

            own_type : AgreesWithType f.ether_type p.upper
            own_type = subst (λ n. AgreesWithType n p.upper) is_type o.shaped.upper

            to_itself : ToItself
            to_itself = of_families (λ f. p.eth_type ≡ f.ether_type → ToItself) at_vip4 at_vip6 f fam is_type

            abbrev IsItem : RouteItem → Type 0
            IsItem x = Origin conf now d setting v v_in x

            is_item : (x : RouteItem) → Contains items x → IsItem x
            is_item x c = of_all IsItem items (origins conf now d setting v v_in) x c

            abbrev IsOwn : RouteItem → Type 0
            IsOwn x = is_item_of f x ≡ true

            of_width : (x : RouteItem) → IsOwn x → width_of x.ip ≡ f.width
            of_width x is = eqb-true (width_of x.ip) f.width is

            abbrev last_fields : RouteItem → List Field
            last_fields x = cons_option (ip_dst f (ip_value x.ip) x.len) []

            to_item : (x : RouteItem) → hits (last_fields x) port p ≡ true → hits (item_fields f v x) port p ≡ true
            to_item x h = hits_where (item_fields f v x) port p (to_gateway ∙ own, (is_typed, (own_vlan, each_agrees (last_fields x) port p h)))

            of_item : (x : RouteItem) → hits (item_fields f v x) port p ≡ true → hits (last_fields x) port p ≡ true
            of_item x h =
                let all = each_agrees (item_fields f v x) port p h in
                let more = all.1 in
                let last = more.1 in
                hits_where (last_fields x) port p last.1

            -- the family's entries of the route list
            routes_by : (Q : Entry → Type 0) → ((x : RouteItem) → Contains items x → IsOwn x → Q (item_entry f v x)) → Q (no_route f v) → AllByRecursion Q (routes_of f v)
            routes_by Q each last =
                all_if Q (has_gateway d v) (family_fib f v items) []
                (λ g. all_joined Q (map (item_entry f v) (filter (is_item_of f) items)) (no_route f v ∷ [])
                (all_mapped Q (item_entry f v) (filter (is_item_of f) items) (all_filtered (λ x. Q (item_entry f v x)) (is_item_of f) items (all_by (λ x. is_item_of f x ≡ true → Q (item_entry f v x)) items each))) (last, tt)) (λ g. tt)

            in_routes : (e : Entry) → Contains (family_fib f v items) e → Contains (routes_of f v) e
            in_routes e c = in_then (has_gateway d v) (family_fib f v items) [] e has c

            -- a packet that no item takes, or that ends with each that does
            no_way : ((x : RouteItem) → Contains items x → IsOwn x → hits (item_fields f v x) port p ≡ true → Does t port p [] None (item_entry f v x)) → Out t []
            no_way each =
                stopped (plan conf now d) port t p [] (decided t port p (plan conf now d) [] None
                (by_routes f fam [] None (no_route f v) (in_routes (no_route f v) (behind (map (item_entry f v) (filter (is_item_of f) items)) (no_route f v ∷ []) (no_route f v) (head_of (no_route f v) [])))
                (hits_where (packets_for f v) port p (to_gateway ∙ own, (is_typed, (own_vlan, tt)))) (omega arith)
                (routes_by (Part t 9 [] None) (λ x c own h le. each x c own h) (λ h le. (same_self [], refl)))))

            -- what an item's entry does
            abbrev sent_by : Target → List Sent
            sent_by Gateway = []
            sent_by (Hop vid gateway mac) = []
            sent_by Network = to_controller p

            abbrev on_by : Target → Option (ℕ × Packet)
            on_by Gateway = Some (6, p)
            on_by (Hop vid gateway mac) = option_map (λ upper. (7, moved vid gateway mac p upper)) (hop_less p.upper)
            on_by Network = None

            -- whatever its priority and fields, in the table of each family
            abbrev LeadsAt : Family → List Sent → Option (ℕ × Packet) → Target → Type 0
            LeadsAt f sent on to = (priority : ℕ) (fields : List Field) → Does (at f) port p sent on (entry (route_table f) priority fields (led_to to))

            led_to_vip : LeadsAt f [] (Some (6, p)) Gateway
            led_to_vip = of_families (λ f. LeadsAt f [] (Some (6, p)) Gateway) (λ priority fields. (same_self [], refl)) (λ priority fields. (same_self [], refl)) f fam

            led_to_network : LeadsAt f (to_controller p) None Network
            led_to_network = of_families (λ f. LeadsAt f (to_controller p) None Network) (λ priority fields. (same_equal (act_sends (action.to_controller ∷ []) port p) (to_controller p) to_it, refl)) (λ priority fields. (same_equal (act_sends (action.to_controller ∷ []) port p) (to_controller p) to_it, refl)) f fam

            led_to_hop : (vid : ℕ) (gateway mac : Mac) → vid < 2 ^ 12 → IsSixBytes gateway.0 → IsSixBytes mac.0 → LeadsAt f [] (on_by (Hop vid gateway mac)) (Hop vid gateway mac)
            led_to_hop vid gateway mac less six far = of_families (λ f. LeadsAt f [] (on_by (Hop vid gateway mac)) (Hop vid gateway mac)) (λ priority fields. (nothing, goes)) (λ priority fields. (nothing, goes)) f fam
              where
                actions : List Action
                actions = action.set_eth_src gateway ∷ action.set_eth_dst mac ∷ action.set_vid vid ∷ action.dec_ttl ∷ []

                nothing : AreSame (act_sends actions port p) []
                nothing = same_equal (act_sends actions port p) [] (moved_sends vid gateway mac port p)

                by : (u : Option Upper) → ◌≡◌ {A = Option (ℕ × Packet)} (option_and_then (λ (q : Packet). option_map (λ (u : ℕ). (u, q)) (Some 7)) (option_map (moved vid gateway mac p) u)) (option_map (λ upper. (7, moved vid gateway mac p upper)) u)
                by None = refl
                by (Some upper) = refl

                goes : ◌≡◌ {A = Option (ℕ × Packet)} (option_and_then (λ (q : Packet). option_map (λ (u : ℕ). (u, q)) (Some 7)) (act_left actions p)) (on_by (Hop vid gateway mac))
                goes = ap (λ (q : Option Packet). option_and_then (λ (q : Packet). option_map (λ (u : ℕ). (u, q)) (Some 7)) q) (moved_left vid gateway mac p less six far) ∙ by (hop_less p.upper)

            in_vlans : (w : Vlan) → vlan_with conf.vlans w.vid ≡ Some w → Contains conf.vlans w
            in_vlans w is = vlan_in conf setting.valid d setting.is_dp w.vid w is

            low : (w : Vlan) → vlan_with conf.vlans w.vid ≡ Some w → w.vid < 2 ^ 12
            low w is = let most = (vlan_number conf setting.valid d setting.is_dp w (in_vlans w is)).most in omega (arith, most)

            way_does : (w : Vlan) → vlan_with conf.vlans w.vid ≡ Some w → (x : RouteItem) → From conf now d setting v v_in w x → Does t port p (sent_by x.to) (on_by x.to) (item_entry f v x)
            way_does w is _ (of_vip vip c) = led_to_vip (10 + width_of (address_of vip)) (item_fields f v (vip_item vip))
            way_does w is _ (of_network vip c) = led_to_network (10 + len_of vip) (item_fields f v (network_item vip))
            way_does w is _ (of_neighbour n mac near six) = led_to_hop w.vid w.mac mac (low w is) (six_of w (in_vlans w is)) six (10 + width_of n.ip) (item_fields f v (hop_item w n.ip (width_of n.ip) mac))
            way_does w is _ (of_route route mac c far six) = led_to_hop w.vid w.mac mac (low w is) (six_of w (in_vlans w is)) six (10 + len_of route.dst) (item_fields f v (hop_item w (address_of route.dst) (len_of route.dst) mac))

            item_does : (x : RouteItem) → IsItem x → Does t port p (sent_by x.to) (on_by x.to) (item_entry f v x)
            item_does x is = way_does is.vlan is.in_set.is_vlan x is.way

            -- and what becomes of the packet then
            hop_ends : (w : Vlan) → vlan_with conf.vlans w.vid ≡ Some w → (mac : Mac) → IsSixBytes mac.0 → Just t [] (on_by (Hop w.vid w.mac mac)) → Outcome t (led_by v.vips (Hop w.vid w.mac mac) p)
            hop_ends w is mac six decides = by (hop_less p.upper) refl decides
              where
                by : (u : Option Upper) → hop_less p.upper ≡ u → Just t [] (option_map (λ upper. (7, moved w.vid w.mac mac p upper)) u) → Outcome t (option_map_or (sent_on w.vid w.mac mac p) u routed_case.Ends)
                by None none so = stopped (plan conf now d) port t p [] (decided t port p (plan conf now d) [] None so)
                by (Some upper) less so =
                    let fit = upper_fits p.eth_type p.upper upper less o.shaped.upper o.shaped.numbers in
                    let q = moved w.vid w.mac mac p upper in
                    record {
                      vlan = w;
                      is_vlan = is;
                      leaves = record {
                        shaped = record { dst = six; src = six_of w (in_vlans w is); tags = tags_fit w.vid (low w is) p.tags o.shaped.tags; eth_type = o.shaped.eth_type; upper = fit.0; numbers = fit.1 };
                        is_port = o.is_port;
                        takes_in = inr o.accepting;
                        is_vlan = is;
                        is_in = moved_tag w.vid p.tags (o.is_in).0 (o.is_in).1;
                      };
                      goes = λ rest x. went (plan conf now d) port t p [] 7 q rest (decided t port p (plan conf now d) [] (Some (7, q)) so) x;
                    }

            way_ends : (w : Vlan) → vlan_with conf.vlans w.vid ≡ Some w → (x : RouteItem) → From conf now d setting v v_in w x → Just t (sent_by x.to) (on_by x.to) → Outcome t (led_by v.vips x.to p)
            way_ends w is _ (of_vip vip c) decides = by (is_told v.vips p.upper) to_itself
              where
                by : (b : Bool) → Out 6 (if b then to_controller p else []) → Outcome t (if b then routed_case.ToController else routed_case.Ends)
                by true x = went (plan conf now d) port t p [] 6 p (to_controller p) (decided t port p (plan conf now d) [] (Some (6, p)) decides) x
                by false x = went (plan conf now d) port t p [] 6 p [] (decided t port p (plan conf now d) [] (Some (6, p)) decides) x
            way_ends w is _ (of_network vip c) decides = stopped (plan conf now d) port t p (to_controller p) (decided t port p (plan conf now d) (to_controller p) None decides)
            way_ends w is _ (of_neighbour n mac near six) decides = hop_ends w is mac six decides
            way_ends w is _ (of_route route mac c far six) decides = hop_ends w is mac six decides

            -- an item's entry takes the addresses that the item holds
            takes_held : (a : Ip) → destination p.upper ≡ Some a → (x : RouteItem) → IsItem x → IsOwn x → hits (last_fields x) port p ≡ item_holds a x
            takes_held a is x origin one = by (x.len == 0) refl ∙ ap (λ (k : Bool). k && test (width_of x.ip)) (sym kin)
              where
                seen : IsSeen f a (value_of f.destination port p)
                seen = dst_seen f fam port p a own_type is

                wide : width_of a ≡ f.width
                wide = ap (λ (f : Family). f.width) seen.family

                kin : is_same_family a x.ip ≡ true
                kin = eq-eqb (width_of a) (width_of x.ip) (wide ∙ sym (of_width x one))

                a_fits : ip_value a < 2 ^ f.width
                a_fits = subst (λ (n : ℕ). ip_value a < 2 ^ n) wide (dst_fits p.upper o.shaped.numbers a is)

                x_fits : ip_value x.ip < 2 ^ f.width
                x_fits = subst (λ (n : ℕ). ip_value x.ip < 2 ^ n) (of_width x one) (item_fits conf now d setting v v_in x origin)

                test : ℕ → Bool
                test n = ip_value a / 2 ^ (n - x.len) == ip_value x.ip / 2 ^ (n - x.len)

                by : (b : Bool) → (x.len == 0) ≡ b → hits (cons_option (if b then None else Some (prefix_in f.width f.destination (ip_value x.ip) x.len)) []) port p ≡ test (width_of x.ip)
                by true none =
                    let zero : x.len ≡ 0 = eqb-true x.len 0 none in
                    let all : f.width ≡ f.width - x.len = omega arith in
                    let whole : ip_value a / 2 ^ (f.width - x.len) ≡ ip_value x.ip / 2 ^ (f.width - x.len) =
                    subst (λ (n : ℕ). ip_value a / 2 ^ n ≡ ip_value x.ip / 2 ^ n) all (div-eq_of_lt a_fits ∙ sym (div-eq_of_lt x_fits)) in
                    sym (eq-eqb (ip_value a / 2 ^ (f.width - x.len)) (ip_value x.ip / 2 ^ (f.width - x.len)) whole) ∙ ap test (sym (of_width x one))
                by false more =
                    let own_field = prefix_in f.width f.destination (ip_value x.ip) x.len in
                    hits_one own_field port p ∙ ap (agrees own_field) seen.value ∙ in_prefix f.width f.destination (ip_value a) (ip_value x.ip) x.len a_fits x_fits ∙ ap test (sym (of_width x one))

            -- what isn't IP behind its type is taken by a route to everywhere alone, and has no hop left
            without_ip : destination p.upper ≡ None → Out t []
            without_ip none = no_way (λ x c one h. let is = is_item x c in ends_there is.vlan is.in_set x is.way one (no_length x (x.len == 0) refl (of_item x h)) (item_does x is))
              where
                no_length : (x : RouteItem) (b : Bool) → (x.len == 0) ≡ b → hits (cons_option (if b then None else Some (prefix_in f.width f.destination (ip_value x.ip) x.len)) []) port p ≡ true → x.len ≡ 0
                no_length x true is h = eqb-true x.len 0 is
                no_length x false is h =
                    let own_field = prefix_in f.width f.destination (ip_value x.ip) x.len in
                    absurd (true≢false (sym h ∙ hits_one own_field port p ∙ ap (agrees own_field) (dst_unseen f fam port p none)))

                -- an address alone has a prefix of some length
                no_address : {P : Type 0} (a : Ip) → width_of a ≡ f.width → width_of a ≡ 0 → P
                no_address a wide is = let some = (is_row f fam).some_bits in absurd (omega (arith, some, wide, is))

                ends_there : (w : Vlan) → InSet conf now d setting v v_in w → (x : RouteItem) → From conf now d setting v v_in w x → IsOwn x
                    → x.len ≡ 0 → Does t port p (sent_by x.to) (on_by x.to) (item_entry f v x) → Does t port p [] None (item_entry f v x)
                ends_there w s _ (of_vip vip c) one is does = no_address (address_of vip) (of_width (vip_item vip) one) is
                ends_there w s _ (of_neighbour n mac near six) one is does = no_address n.ip (of_width (hop_item w n.ip (width_of n.ip) mac) one) is
                ends_there w s _ (of_network vip c) one is does = no_default conf now d setting v v_in w s vip c is
                ends_there w s _ (of_route route mac c far six) one is does =
                    (does.0, does.1 ∙ ap (option_map (λ upper. (7, moved w.vid w.mac mac p upper))) (no_hop p.upper none))

            by_longest : (a : Ip) → destination p.upper ≡ Some a → (b : Option RouteItem) → Chosen items a b → Outcome t (option_map_or (λ item. led_by v.vips item.to p) b routed_case.Ends)
            by_longest a is None none = no_way (λ x c one h. absurd (true≢false (sym (of_item x h) ∙ takes_held a is x (is_item x c) one ∙ of_all (λ y. item_holds a y ≡ false) items none x c)))
            by_longest a is (Some b) best =
                let origin = is_item b best.0 in
                let one = own_holds b best.1 in
                way_ends origin.vlan origin.in_set.is_vlan b origin.way
                (by_routes f fam (sent_by b.to) (on_by b.to) (item_entry f v b)
                (in_routes (item_entry f v b) (in_front (map (item_entry f v) (filter (is_item_of f) items)) (no_route f v ∷ []) (item_entry f v b) (in_mapped (item_entry f v) (filter (is_item_of f) items) b (in_filtered (is_item_of f) items b best.0 one))))
                (to_item b (takes_held a is b origin one ∙ best.1)) (omega arith)
                (routes_by (Part t (10 + b.len) (sent_by b.to) (on_by b.to)) (λ x c own h le. (
                let of_x = is_item x c in
                let held = sym (takes_held a is x of_x own) ∙ of_item x h in
                let most = of_all (λ (y : RouteItem). item_holds a y ≡ true → y.len ≤ b.len) items best.2 x c held in
                let same : x.to ≡ b.to = same_to conf now d setting v v_in x b of_x origin a held best.1 (omega (arith, most, le)) in
                subst (λ to. Does t port p (sent_by to) (on_by to) (item_entry f v x)) same (item_does x of_x)
                )) (λ h le. absurd (omega (arith, le)))))
              where
                -- an item that holds it is of the family
                own_holds : (x : RouteItem) → item_holds a x ≡ true → IsOwn x
                own_holds x h =
                    let kin = (and_parts (is_same_family a x.ip) (ip_value a / 2 ^ (width_of x.ip - x.len) == ip_value x.ip / 2 ^ (width_of x.ip - x.len)) h).0 in
                    let seen = dst_seen f fam port p a own_type is in
                    eq-eqb (width_of x.ip) f.width (sym (eqb-true (width_of a) (width_of x.ip) kin) ∙ ap (λ (f : Family). f.width) seen.family)

            table_outcome : Outcome t (routed_to items v.vips p)
            table_outcome = by (destination p.upper) refl
              where
                by : (a : Option Ip) → destination p.upper ≡ a → Outcome t (option_map_or (λ item. led_by v.vips item.to p) (option_and_then (longest items) a) routed_case.Ends)
                by None is = without_ip is
                by (Some a) is = by_longest a is (longest items a) (chosen items a)

          -- IPv4 in table 4, IPv6 in table 5
          outcome_4 : p.eth_type ≡ IPV4 → Outcome 4 (routed_to items v.vips p)
          outcome_4 is = table_outcome ipv4 (inl refl) is

          outcome_5 : p.eth_type ≡ IPV6 → Outcome 4 (routed_to items v.vips p)
          outcome_5 is =
              earlier (fib_without ipv4 v (eth_type IPV4) (1, omega arith, refl) (type_hit IPV4 (omega arith) ∙ ap (λ n. n == IPV4) is)) (routed_to items v.vips p)
              (table_outcome ipv6 (inr refl) is)

    -- ---- all cases

    abbrev by_types : Bool → Bool → Bool → Routed
    by_types four six arp = if four || six then routed_to items v.vips p else if arp then routed_case.ToController else routed_case.Ends

    outcome : Outcome 4 (routed items v p)
    unfolding routed
    outcome = by (length v.vips == 0) refl
      where
        by_type : (some : (length v.vips == 0) ≡ false) (no_vip : is_arp_for v.vips p.upper ≡ false) (own : is_same p.dst.0 v.mac.0 ≡ true) (four six arp : Bool)
            → (p.eth_type == 0x0800) ≡ four → (p.eth_type == 0x86dd) ≡ six → (p.eth_type == 0x0806) ≡ arp → Outcome 4 (by_types four six arp)
        by_type some no_vip own true six arp is_four is_six is_arp = outcome_4 some no_vip own (eqb-true p.eth_type 0x0800 is_four)
        by_type some no_vip own false true arp is_four is_six is_arp = outcome_5 some no_vip own (eqb-true p.eth_type 0x86dd is_six)
        by_type some no_vip own false false true no_four no_six is_arp = heard some no_vip own no_four no_six is_arp
        by_type some no_vip own false false false no_four no_six no_arp = other some no_vip own no_four no_six no_arp

        by_own : (some : (length v.vips == 0) ≡ false) (no_vip : is_arp_for v.vips p.upper ≡ false) (own : Bool) → is_same p.dst.0 v.mac.0 ≡ own
            → Outcome 4 (if not own then passed_by v p else by_types (p.eth_type == 0x0800) (p.eth_type == 0x86dd) (p.eth_type == 0x0806))
        by_own some no_vip false is = not_for_it some no_vip is (is_solicitation_for v.vips p.upper) refl
        by_own some no_vip true is = by_type some no_vip is (p.eth_type == 0x0800) (p.eth_type == 0x86dd) (p.eth_type == 0x0806) refl refl refl

        by_arp : (some : (length v.vips == 0) ≡ false) (asks : Bool) → is_arp_for v.vips p.upper ≡ asks
            → Outcome 4 (if asks then routed_case.ToController else if not (is_same p.dst.0 v.mac.0) then passed_by v p else by_types (p.eth_type == 0x0800) (p.eth_type == 0x86dd) (p.eth_type == 0x0806))
        by_arp some true is = asks_for_vip some is
        by_arp some false is = by_own some is (is_same p.dst.0 v.mac.0) refl

        by : (none : Bool) → (length v.vips == 0) ≡ none
            → Outcome 4 (if none then routed_case.GoesOn v.vid p else if is_arp_for v.vips p.upper then routed_case.ToController else if not (is_same p.dst.0 v.mac.0) then passed_by v p else by_types (p.eth_type == 0x0800) (p.eth_type == 0x86dd) (p.eth_type == 0x0806))
        by true is = without_vips is
        by false is = by_arp is (is_arp_for v.vips p.upper) refl

  pub law : RoutingLaw conf now d
  law = record {
    lands = λ port p i v vid q o is. let there = subst (Outcome port p i v o 4) is (outcome port p i v o) in (there.vlan, there.is_vlan, there.leaves);
    goes_on = λ port p i v vid q o is rest x. let there = subst (Outcome port p i v o 4) is (outcome port p i v o) in there.goes rest x;
    to_controller = λ port p i v o is. subst (Outcome port p i v o 4) is (outcome port p i v o);
    ends = λ port p i v o is. subst (Outcome port p i v o 4) is (outcome port p i v o);
  }
