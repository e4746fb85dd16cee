-- A switch accepts each entry.
use Rattle.std.proofs.Common.{◌≡◌, ℕ, ◌<◌, ◌==◌, ◌&&◌, ◌||◌, not, Bool, true, false, cond, Option, Some, None, List, [], ◌∷◌, ◌++◌, map, filter, refl, lit<}
use Rattle.std.specs.Prelude.{Contains, option_to_list}
use Rattle.std.specs.List.{AllByRecursion, flat_map}
use Rattle.std.specs.Option.{option_map, option_map_or}
use Rattle.net_base.specs.declared.address.Mac.{Mac}
use Rattle.net_base.specs.Address.{IsSixBytes}
use Rattle.net_base.specs.Numbers.{IsVid, IsPortNo}
use Rattle.of_match.specs.declared.action.Action.{Action}
use Rattle.of_match.specs.WellFormed.{IsAction, AreInstrs}
use Rattle.stack_paths.specs.Stack.{Stack}
use Rattle.stack_paths.specs.Chosen.{hop_of}
use Rattle.conf_types.specs.declared.datapath.Dp.{Dp}
use Rattle.conf_types.specs.declared.datapath.Port.{Port}
use Rattle.conf_types.specs.declared.state.HostRec.{HostRec}
use Rattle.conf_types.specs.declared.state.UpRec.{UpRec}
use Rattle.conf_types.specs.declared.vlan.Vlan.{Vlan}
use Rattle.conf_types.specs.Configuration.{Configuration, port_with}
use Rattle.conf_types.specs.Links.{links}
use Rattle.conf_types.specs.Membership.{is_stack, is_accepting, is_native_in}
use Rattle.conf_types.specs.State.{State, IsValidState, is_stale, is_permanent}
use Rattle.conf_types.specs.Valid.{IsValid}
use Rattle.conf_types.proofs.Found.{all_found}
use Rattle.plan_base.specs.Accepted.{IsFlowEntry}
use Rattle.plan_base.specs.declared.table.Table.TheVariants as table
use Rattle.of_match.specs.declared.ether_type.TheConstants.{LLDP}
use Rattle.plan_base.specs.Fields.{in_port, eth_type, eth_dst, eth_src, group_dst, vid_field, untagged}
use Rattle.plan_base.specs.Actions.{out, to_ingress, to_controller, push_tag, set_vid}
use Rattle.plan_base.specs.Entries.{leads_to}
use Rattle.plan_base.specs.Sending.{mirrored, copied, sent}
use Rattle.plan_base.proofs.Each.{all_from, all_append, all_map, all_filter, all_flat_map, all_contains}
use Rattle.plan_base.proofs.Accepted.{is_out, is_to_controller, is_to_ingress, is_push_tag, is_set_vid, are_mirrored, are_copied, are_sent, are_instrs, made_of}
use Rattle.plan_base.proofs.MatchFields.{is_in_port, is_eth_type, is_eth_dst, is_eth_src, is_group_dst, is_vid_field, is_untagged, AreFields, are_fields}
use Rattle.vlan_compile.specs.declared.flood.Flood.{Flood}
use Rattle.vlan_compile.specs.declared.flood.Flood.TheVariants.{Group, Unicast}
use Rattle.vlan_compile.specs.declared.flood.Ingress.{Ingress}
use Rattle.vlan_compile.specs.declared.flood.Ingress.TheVariants.{Any, At}
use Rattle.vlan_compile.specs.Vlans.{native_vlan, tagged_vlans, vlans_of}
use Rattle.vlan_compile.specs.Admissions.{next_in, lldp_heard, from_stack, without_tag, with_tag, from_stacks, from_edges, admissions}
use Rattle.vlan_compile.specs.Sources.{heard_copies, at_its_port, elsewhere, sources}
use Rattle.vlan_compile.specs.Misses.{has_host, is_full, missed, miss, misses}
use Rattle.vlan_compile.specs.Destinations.{sent_back, from_its_port, to_its_port, over_stack, at_port, destinations}
use Rattle.vlan_compile.specs.Floods.{is_in, is_flooded, may_get, flooded, by_port, by_each, popped, flood_actions, flood_priority, from_fields, to_fields, flood_entry, is_apart, has_flooded, floods_to, floods}
use Rattle.vlan_compile.proofs.Valid.{is_datapath, ports_numbered, vlans_numbered, native_numbered, tagged_numbered, are_host_numbers, AreEnds, links_end, hop_numbered}

-- ---- matches

module _ (vid : ℕ) (is_vid : IsVid vid) where
  by_vid : AreFields (vid_field vid ∷ [])
  by_vid = are_fields _ (tt, tt) (is_vid_field vid is_vid, tt) (refl, tt)

  by_group : AreFields (group_dst ∷ vid_field vid ∷ [])
  by_group = are_fields _ ((lit< tt, tt), (tt, tt)) (is_group_dst, (is_vid_field vid is_vid, tt)) (refl, (refl, tt))

  module _ (port : ℕ) (is_port : IsPortNo port) where
    by_port_vid : AreFields (in_port port ∷ vid_field vid ∷ [])
    by_port_vid = are_fields _ ((lit< tt, tt), (tt, tt)) (is_in_port port is_port, (is_vid_field vid is_vid, tt)) (refl, (refl, tt))

    by_port_group : AreFields (in_port port ∷ group_dst ∷ vid_field vid ∷ [])
    by_port_group =
        are_fields _ ((lit< tt, (lit< tt, tt)), ((lit< tt, tt), (tt, tt))) (is_in_port port is_port, (is_group_dst, (is_vid_field vid is_vid, tt))) (refl, (refl, (refl, tt)))

  module _ (mac : Mac) (six : IsSixBytes mac.0) where
    by_src : AreFields (eth_src mac ∷ vid_field vid ∷ [])
    by_src = are_fields _ ((lit< tt, tt), (tt, tt)) (is_eth_src mac six, (is_vid_field vid is_vid, tt)) (refl, (refl, tt))

    by_dst : AreFields (eth_dst mac ∷ vid_field vid ∷ [])
    by_dst = are_fields _ ((lit< tt, tt), (tt, tt)) (is_eth_dst mac six, (is_vid_field vid is_vid, tt)) (refl, (refl, tt))

    module _ (port : ℕ) (is_port : IsPortNo port) where
      by_port_src : AreFields (in_port port ∷ eth_src mac ∷ vid_field vid ∷ [])
      by_port_src =
          are_fields _ ((lit< tt, (lit< tt, tt)), ((lit< tt, tt), (tt, tt))) (is_in_port port is_port, (is_eth_src mac six, (is_vid_field vid is_vid, tt))) (refl, (refl, (refl, tt)))

      by_port_dst : AreFields (in_port port ∷ eth_dst mac ∷ vid_field vid ∷ [])
      by_port_dst =
          are_fields _ ((lit< tt, (lit< tt, tt)), ((lit< tt, tt), (tt, tt))) (is_in_port port is_port, (is_eth_dst mac six, (is_vid_field vid is_vid, tt))) (refl, (refl, (refl, tt)))

by_port_untagged : (port : ℕ) → IsPortNo port → AreFields (in_port port ∷ untagged ∷ [])
by_port_untagged port is_port = are_fields _ ((lit< tt, tt), (tt, tt)) (is_in_port port is_port, (is_untagged, tt)) (refl, (refl, tt))

by_port_lldp : (port : ℕ) → IsPortNo port → AreFields (in_port port ∷ eth_type LLDP ∷ untagged ∷ [])
by_port_lldp port is_port =
    are_fields _ ((lit< tt, (lit< tt, tt)), ((lit< tt, tt), (tt, tt))) (is_in_port port is_port, (is_eth_type LLDP (lit< tt), (is_untagged, tt))) (refl, (refl, (refl, tt)))

-- ---- lists with conditions

pub all_if : {X : Type 0} (P : X → Type 0) (b : Bool) (xs : List X) → AllByRecursion P xs → AllByRecursion P (cond b xs [])
all_if P true xs all = all
all_if P false xs all = tt

all_option : {X Y : Type 0} (f : X → Y) (P : Y → Type 0) (o : Option X) → ((x : X) → o ≡ Some x → P (f x)) → AllByRecursion P (option_to_list (option_map f o))
all_option f P None h = tt
all_option f P (Some x) h = (h x refl, tt)

-- ---- of an interface, a host and a VLAN of a valid configuration

module _ (conf : Configuration) (valid : IsValid conf) (d : Dp) (of_conf : Contains conf.dps d) where
  numbers : AllByRecursion (λ (p : Port). IsPortNo p.no) d.ports
  numbers = ports_numbered conf valid d (is_datapath conf valid d of_conf)

  module _ (i : Port) (of_dp : Contains d.ports i) where
    is_number : IsPortNo i.no
    is_number = all_contains (λ (p : Port). IsPortNo p.no) d.ports numbers i of_dp

    lldp_heard_accepted : IsFlowEntry (lldp_heard i)
    lldp_heard_accepted = made_of table.Admission 40 _ _ (lit< tt) (by_port_lldp i.no is_number) (are_instrs (to_controller ∷ []) None (is_to_controller, tt))

    from_stack_accepted : (v : Vlan) → IsVid v.vid → IsFlowEntry (from_stack i v)
    from_stack_accepted v vid = made_of table.Admission 40 _ _ (lit< tt) (by_port_vid v.vid vid i.no is_number) (are_instrs [] (Some table.Destination) tt)

    without_tag_accepted : (v : Vlan) → IsVid v.vid → IsFlowEntry (without_tag d i v)
    without_tag_accepted v vid =
        made_of table.Admission 20 _ _ (lit< tt) (by_port_untagged i.no is_number)
        (are_instrs (mirrored d i.no ++ push_tag ∷ set_vid v.vid ∷ []) (Some (next_in v))
        (all_append IsAction (mirrored d i.no) (push_tag ∷ set_vid v.vid ∷ []) (are_mirrored d i.no numbers) (is_push_tag, (is_set_vid v.vid vid, tt))))

    with_tag_accepted : (v : Vlan) → IsVid v.vid → IsFlowEntry (with_tag d i v)
    with_tag_accepted v vid =
        made_of table.Admission 20 _ _ (lit< tt) (by_port_vid v.vid vid i.no is_number) (are_instrs (mirrored d i.no) (Some (next_in v)) (are_mirrored d i.no numbers))

    pub admissions_accepted : AllByRecursion IsFlowEntry (admissions conf d i)
    admissions_accepted =
        all_append IsFlowEntry (from_stacks conf i) (from_edges conf d i)
        (all_if IsFlowEntry (is_stack i) (lldp_heard i ∷ map (from_stack i) conf.vlans)
        (lldp_heard_accepted, all_map (from_stack i) IsFlowEntry conf.vlans (all_from {P = λ (v : Vlan). IsVid v.vid} {Q = λ (v : Vlan). IsFlowEntry (from_stack i v)} from_stack_accepted conf.vlans (vlans_numbered conf valid))))
        (all_if IsFlowEntry (is_accepting i) (option_to_list (option_map (without_tag d i) (native_vlan conf i)) ++ map (with_tag d i) (tagged_vlans conf i))
        (all_append IsFlowEntry (option_to_list (option_map (without_tag d i) (native_vlan conf i))) (map (with_tag d i) (tagged_vlans conf i))
        (all_option (without_tag d i) IsFlowEntry (native_vlan conf i) (λ v e. without_tag_accepted v (native_numbered conf valid i v e)))
        (all_map (with_tag d i) IsFlowEntry (tagged_vlans conf i) (all_from {P = λ (v : Vlan). IsVid v.vid} {Q = λ (v : Vlan). IsFlowEntry (with_tag d i v)} with_tag_accepted (tagged_vlans conf i) (tagged_numbered conf valid i)))))

    missed_accepted : (hosts : List HostRec) (v : Vlan) → AreInstrs (missed conf hosts d i v)
    missed_accepted hosts v = one (i.permanent_learn && has_host hosts d.id i.no v.vid) (is_full conf hosts d i v)
      where
        one : (kept full : Bool) → AreInstrs (cond kept (leads_to [] None) (cond full (leads_to [] (Some table.Ipv4Route)) (leads_to (to_controller ∷ []) (Some table.Ipv4Route))))
        one true full = are_instrs [] None tt
        one false true = are_instrs [] (Some table.Ipv4Route) tt
        one false false = are_instrs (to_controller ∷ []) (Some table.Ipv4Route) (is_to_controller, tt)

    miss_accepted : (hosts : List HostRec) (v : Vlan) → IsVid v.vid → IsFlowEntry (miss conf hosts d i v)
    miss_accepted hosts v vid = made_of table.Source 10 _ _ (lit< tt) (by_port_vid v.vid vid i.no is_number) (missed_accepted hosts v)

    vlans_of_numbered : AllByRecursion (λ (v : Vlan). IsVid v.vid) (vlans_of conf i)
    vlans_of_numbered =
        all_append (λ (v : Vlan). IsVid v.vid) (option_to_list (native_vlan conf i)) (tagged_vlans conf i)
        (native (native_vlan conf i) (λ v e. native_numbered conf valid i v e)) (tagged_numbered conf valid i)
      where
        native : (o : Option Vlan) → ((v : Vlan) → o ≡ Some v → IsVid v.vid) → AllByRecursion (λ (v : Vlan). IsVid v.vid) (option_to_list o)
        native None h = tt
        native (Some v) h = (h v refl, tt)

    pub misses_accepted : (hosts : List HostRec) → AllByRecursion IsFlowEntry (misses conf d i hosts)
    misses_accepted hosts =
        all_if IsFlowEntry (is_accepting i) (map (miss conf hosts d i) (vlans_of conf i))
        (all_map (miss conf hosts d i) IsFlowEntry (vlans_of conf i) (all_from {P = λ (v : Vlan). IsVid v.vid} {Q = λ (v : Vlan). IsFlowEntry (miss conf hosts d i v)} (miss_accepted hosts) (vlans_of conf i) vlans_of_numbered))

  module _ (h : HostRec) (port : IsPortNo h.port) (vid : IsVid h.vid) (six : IsSixBytes h.mac.0) where
    pub sources_accepted : (moment : ℕ) → AllByRecursion IsFlowEntry (sources conf d h moment)
    sources_accepted moment =
        all_append IsFlowEntry (cond (h.dp.0 == d.id.0) (at_its_port conf moment h ∷ []) []) (cond (is_permanent conf h) (elsewhere h ∷ []) [])
        (all_if IsFlowEntry (h.dp.0 == d.id.0) (at_its_port conf moment h ∷ [])
        (made_of table.Source 30 _ _ (lit< tt) (by_port_src h.vid vid h.mac six h.port port) (are_instrs (heard_copies conf moment h) (Some table.Ipv4Route) (all_if IsAction (is_stale conf moment h) (to_controller ∷ []) (is_to_controller, tt))), tt))
        (all_if IsFlowEntry (is_permanent conf h) (elsewhere h ∷ [])
        (made_of table.Source 20 _ _ (lit< tt) (by_src h.vid vid h.mac six) (are_instrs [] None tt), tt))

    at_port_accepted : (q : Port) → IsPortNo q.no → AllByRecursion IsFlowEntry (at_port d h q)
    at_port_accepted q number = (
      made_of table.Destination 20 _ _ (lit< tt) (by_port_dst h.vid vid h.mac six q.no number) (are_instrs (sent_back d q h) None (all_if IsAction q.hairpin (sent d h.vid q to_ingress) (are_sent d h.vid q to_ingress numbers is_to_ingress))),
      (made_of table.Destination 10 _ _ (lit< tt) (by_dst h.vid vid h.mac six) (are_instrs (sent d h.vid q (out q.no)) None (are_sent d h.vid q (out q.no) numbers (is_out q.no number))), tt),
    )

    pub destinations_accepted : (stack : Stack) → AllByRecursion AreEnds stack.links → AllByRecursion IsFlowEntry (destinations d h stack)
    destinations_accepted stack ends = one (h.dp.0 == d.id.0) (port_with d.ports h.port) refl
      where
        at : (o : Option Port) → port_with d.ports h.port ≡ o → AllByRecursion IsFlowEntry (option_map_or (at_port d h) o [])
        at None e = tt
        at (Some q) e = at_port_accepted q (all_found (λ (p : Port). IsPortNo p.no) (λ (p : Port). p.no == h.port) d.ports q numbers e)

        one : (here : Bool) (o : Option Port) → port_with d.ports h.port ≡ o → AllByRecursion IsFlowEntry (cond here (option_map_or (at_port d h) o []) (option_to_list (option_map (over_stack h) (hop_of stack d.id h.dp))))
        one true o e = at o e
        one false o e =
            all_option (over_stack h) IsFlowEntry (hop_of stack d.id h.dp)
            (λ hop is. made_of table.Destination 10 _ _ (lit< tt) (by_dst h.vid vid h.mac six) (are_instrs (out hop ∷ []) None (is_out hop (hop_numbered stack ends d.id h.dp hop is), tt)))

  module _ (v : Vlan) (vid : IsVid v.vid) (stack : Stack) where
    is_by_port : (from : Ingress) (number : ℕ) → IsPortNo number → IsAction (by_port from number)
    is_by_port Any number is = is_out number is
    is_by_port (At ingress) number is = one (number == ingress)
      where
        one : (b : Bool) → IsAction (cond b to_ingress (out number))
        one true = is_to_ingress
        one false = is_out number is

    are_by_each : (from : Ingress) (ports : List Port) → AllByRecursion (λ (p : Port). IsPortNo p.no) ports → AllByRecursion IsAction (by_each d from ports)
    are_by_each from ports all =
        all_flat_map (λ (q : Port). copied d q.no (by_port from q.no)) IsAction ports
        (all_from {P = λ (p : Port). IsPortNo p.no} {Q = λ (q : Port). AllByRecursion IsAction (copied d q.no (by_port from q.no))} (λ q is. are_copied d q.no (by_port from q.no) numbers (is_by_port from q.no is)) ports all)

    are_popped : (actions : List Action) → AllByRecursion IsAction actions → AllByRecursion IsAction (popped actions)
    are_popped [] all = tt
    are_popped (a ∷ more) all = (tt, all)

    flooded_numbers : (flood : Flood) (from : Ingress) (side : Port → Bool) → AllByRecursion (λ (p : Port). IsPortNo p.no) (filter side (flooded stack d v flood from))
    flooded_numbers flood from side =
        all_filter (λ (p : Port). IsPortNo p.no) side (flooded stack d v flood from)
        (all_filter (λ (p : Port). IsPortNo p.no) (λ q. is_flooded stack d v flood q && may_get from q) d.ports numbers)

    are_flood_actions : (flood : Flood) (from : Ingress) → AllByRecursion IsAction (flood_actions stack d v flood from)
    are_flood_actions flood from =
        let tagged = filter (λ (q : Port). not (is_native_in q v.vid)) (flooded stack d v flood from) in
        let native = filter (λ (q : Port). is_native_in q v.vid) (flooded stack d v flood from) in
        all_if IsAction (is_in flood v) (by_each d from tagged ++ popped (by_each d from native))
        (all_append IsAction (by_each d from tagged) (popped (by_each d from native))
        (are_by_each from tagged (flooded_numbers flood from (λ (q : Port). not (is_native_in q v.vid))))
        (are_popped (by_each d from native) (are_by_each from native (flooded_numbers flood from (λ (q : Port). is_native_in q v.vid)))))

    flood_instrs : (flood : Flood) (from : Ingress) → AreInstrs (leads_to (flood_actions stack d v flood from) None)
    flood_instrs flood from = are_instrs (flood_actions stack d v flood from) None (are_flood_actions flood from)

    from_any : (flood : Flood) → IsFlowEntry (flood_entry stack d v flood Any)
    from_any Group = made_of table.Flood 30 _ _ (lit< tt) (by_group v.vid vid) (flood_instrs Group Any)
    from_any Unicast = made_of table.Flood 10 _ _ (lit< tt) (by_vid v.vid vid) (flood_instrs Unicast Any)

    from_one : (flood : Flood) (port : ℕ) → IsPortNo port → IsFlowEntry (flood_entry stack d v flood (At port))
    from_one Group port is = made_of table.Flood 40 _ _ (lit< tt) (by_port_group v.vid vid port is) (flood_instrs Group (At port))
    from_one Unicast port is = made_of table.Flood 20 _ _ (lit< tt) (by_port_vid v.vid vid port is) (flood_instrs Unicast (At port))

    floods_to_accepted : (flood : Flood) → AllByRecursion IsFlowEntry (floods_to stack d v flood)
    floods_to_accepted flood =
        all_append IsFlowEntry (cond (has_flooded stack d v) (flood_entry stack d v flood Any ∷ []) []) (map (λ (i : Port). flood_entry stack d v flood (At i.no)) (filter (is_apart d v) d.ports))
        (all_if IsFlowEntry (has_flooded stack d v) (flood_entry stack d v flood Any ∷ []) (from_any flood, tt))
        (all_map (λ (i : Port). flood_entry stack d v flood (At i.no)) IsFlowEntry (filter (is_apart d v) d.ports)
        (all_from {P = λ (p : Port). IsPortNo p.no} {Q = λ (i : Port). IsFlowEntry (flood_entry stack d v flood (At i.no))} (λ i is. from_one flood i.no is) (filter (is_apart d v) d.ports)
        (all_filter (λ (p : Port). IsPortNo p.no) (is_apart d v) d.ports numbers)))

    pub floods_accepted : AllByRecursion IsFlowEntry (floods d v stack)
    floods_accepted = all_append IsFlowEntry (floods_to stack d v Unicast) (floods_to stack d v Group) (floods_to_accepted Unicast) (floods_to_accepted Group)

-- ---- as the laws say it

pub admissions_are : (conf : Configuration) → IsValid conf → (d : Dp) → Contains conf.dps d → (i : Port) → Contains d.ports i → AllByRecursion IsFlowEntry (admissions conf d i)
admissions_are conf valid d of_conf i of_dp = admissions_accepted conf valid d of_conf i of_dp

pub misses_are_accepted : (conf : Configuration) → IsValid conf → (d : Dp) → Contains conf.dps d → (i : Port) → Contains d.ports i → (hosts : List HostRec) → AllByRecursion IsFlowEntry (misses conf d i hosts)
misses_are_accepted conf valid d of_conf i of_dp hosts = misses_accepted conf valid d of_conf i of_dp hosts

pub sources_are : (conf : Configuration) → IsValid conf → (d : Dp) → Contains conf.dps d → (state : State) → IsValidState conf state → (h : HostRec) → Contains state.hosts h → IsSixBytes h.mac.0 → (moment : ℕ) → AllByRecursion IsFlowEntry (sources conf d h moment)
sources_are conf valid d of_conf state now h here six moment =
    let are = are_host_numbers conf valid state now h here in sources_accepted conf valid d of_conf h are.0 are.1 six moment

pub destinations_are : (conf : Configuration) → IsValid conf → (d : Dp) → Contains conf.dps d → (state : State) → IsValidState conf state → (h : HostRec) → Contains state.hosts h → IsSixBytes h.mac.0 → (stack : Stack) → stack.links ≡ links conf state.ups → AllByRecursion IsFlowEntry (destinations d h stack)
destinations_are conf valid d of_conf state now h here six stack up =
    let are = are_host_numbers conf valid state now h here in
    destinations_accepted conf valid d of_conf h are.0 are.1 six stack (rw up (links_end conf valid state.ups))

pub floods_are_accepted : (conf : Configuration) → IsValid conf → (d : Dp) → Contains conf.dps d → (v : Vlan) → Contains conf.vlans v → (stack : Stack) → AllByRecursion IsFlowEntry (floods d v stack)
floods_are_accepted conf valid d of_conf v here stack =
    floods_accepted conf valid d of_conf v (all_contains (λ (w : Vlan). IsVid w.vid) conf.vlans (vlans_numbered conf valid) v here) stack

pub ruleset accepted_laws = (admissions_are, misses_are_accepted, sources_are, destinations_are, floods_are_accepted)
