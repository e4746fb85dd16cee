-- Each row of the tables can be done.
use Rattle.std.specs.Prelude.{IsTrue, ◌≡◌, ℕ, ◌+◌, ◌<◌, ◌==◌, ◌&&◌, not, Bool, true, false, List, [], ◌∷◌, ◌++◌, map, filter, length, Option, Some, None, if◌then◌else◌}
use Rattle.std.specs.List.{AllByRecursion, cons_option, list_any}
use Rattle.std.specs.Option.{option_map, option_map_or}
use Rattle.std.proofs.Common.{refl, arith, subst}
use Rattle.std.proofs.lemmas.Option.{none-some, same_Some}
use Rattle.net_base.specs.declared.address.Mac.{Mac}
use Rattle.net_base.specs.declared.field.Field.{Field}
use Rattle.net_base.specs.declared.numbers.DpId.{DpId}
use Rattle.net_base.specs.Numbers.{IsVid}
use Rattle.of_match.specs.declared.action.Action.{Action}
use Rattle.stack_paths.specs.Stack.{Stack}
use Rattle.conf_types.specs.declared.acl.Rule.{Rule}
use Rattle.conf_types.specs.declared.address.Ip.{Ip}
use Rattle.conf_types.specs.declared.address.Net.{Net}
use Rattle.conf_types.specs.declared.datapath.Dp.{Dp}
use Rattle.conf_types.specs.declared.datapath.Port.{Port}
use Rattle.conf_types.specs.declared.family.Family.{Family}
use Rattle.conf_types.specs.declared.state.HostRec.{HostRec}
use Rattle.conf_types.specs.declared.state.NeighRec.{NeighRec}
use Rattle.conf_types.specs.declared.vlan.Vlan.{Vlan}
use Rattle.conf_types.specs.Changes.{mac_of_neighbour}
use Rattle.conf_types.specs.Configuration.{Configuration, vlan_with}
use Rattle.conf_types.specs.Families.{ipv4, ipv6, ip_value, width_of, address_of, len_of}
use Rattle.conf_types.specs.Groups.{group_of}
use Rattle.conf_types.specs.Membership.{is_native_in, mirrors_of}
use Rattle.conf_types.specs.Routing.{routing_set, vips_from}
use Rattle.conf_types.specs.State.{is_stale}
use Rattle.conf_types.specs.Valid.{IsValid}
use Rattle.packet_way.specs.declared.routes.RouteItem.{RouteItem}
use Rattle.packet_way.specs.declared.routes.Target.{Target}
use Rattle.packet_way.specs.declared.routes.Target.TheVariants.{Gateway, Hop, Network}
use Rattle.packet_way.specs.Routes.{vip_item, resolved, hop_item, neighbour_item, network_item, route_item, items_of, items_for, route_list}
use Rattle.plan_base.specs.declared.table.Table.{Table}
use Rattle.plan_base.specs.declared.table.Table.TheVariants as table
use Rattle.plan_base.specs.Actions.{out, to_controller, to_ingress, push_tag, set_vid, set_eth_src, set_eth_dst, dec_ttl}
use Rattle.plan_base.specs.Entries.{table_number, leads_to, entry}
use Rattle.of_match.specs.declared.ether_type.TheConstants.{LLDP}
use Rattle.plan_base.specs.Fields.{in_port, eth_type, eth_src, eth_dst, vid_field, untagged, group_src, ip_dst}
use Rattle.plan_base.specs.Sending.{mirrored, copied, sent}
use Rattle.plan_base.specs.Families.{IsFamily}
use Rattle.plan_base.proofs.Each.{all_filter_map}
use Rattle.plan_base.proofs.Families.{of_families}
use Rattle.acl_compile.specs.declared.place.Place.{Place}
use Rattle.acl_compile.specs.declared.place.Place.TheVariants.{AtPort, AtVlan}
use Rattle.acl_compile.specs.Places.{table_at, next_at, field_at}
use Rattle.acl_compile.specs.Rows.{rule_entry_for}
use Rattle.acl_compile.specs.Slices.{port_acl, vlan_acl}
use Rattle.acl_compile.specs.Targets.{targets}
use Rattle.vlan_compile.specs.declared.flood.Flood.{Flood}
use Rattle.vlan_compile.specs.declared.flood.Flood.TheVariants.{Group, Unicast}
use Rattle.vlan_compile.specs.declared.flood.Ingress.{Ingress}
use Rattle.vlan_compile.specs.declared.flood.Ingress.TheVariants.{Any, At}
use Rattle.vlan_compile.specs.Admissions.{admissions, without_tag, with_tag, next_in}
use Rattle.vlan_compile.specs.Destinations.{from_its_port, to_its_port, destinations, sent_back}
use Rattle.vlan_compile.specs.Floods.{floods, flood_entry, flood_actions, flood_priority, from_fields, to_fields, is_in, flooded, by_each, by_port, popped}
use Rattle.vlan_compile.specs.Misses.{misses, miss, has_host, is_full}
use Rattle.vlan_compile.specs.Sources.{sources, heard_copies}
use Rattle.vlan_compile.proofs.Valid.{native_numbered, vlan_numbered}
use Rattle.route_compile.specs.Routes.{packets_for, item_fields, fib, item_entry, led_to, route_table}
use Rattle.route_compile.specs.Vips.{vip_slice, asked_entry, echo_entry, echo6_entry, advert_entry, heard_entry, end_entry}
use Rattle.law_runs.specs.Members.{of_all, all_joined, all_mapped, all_flat, all_by}
use Rattle.plan_units.specs.Fixed.{drops, drop, from_group, passes}
use Rattle.plan_units.specs.Parts.{port_acl_by, vlan_acl_by, admissions_by, drops_by, misses_by, sources_by, fib_by, vips_by, destinations_by, floods_by}
use Rattle.law_entries.specs.Doable.{tags_asked, asks_for_tag, asks_for_ip, AreDoable, CanBeDone}
use Rattle.law_entries.proofs.WholeParts.{all_when}
use Rattle.law_entries.proofs.DoableParts.{IsLater, IsOutput, made, tagged, before_vid, asks_among, outputs_first, outputs, popped_first, sent_done, outs_are, numbers_are, copied_are}

-- an entry that ends
ends : (t : Table) (priority : ℕ) (fields : List Field) → CanBeDone (entry t priority fields [])
ends t priority fields = made t priority fields [] None tt tt

-- one that only leads on
passes_on : (t : Table) (priority : ℕ) (fields : List Field) (u : Table) → table_number t < table_number u → CanBeDone (entry t priority fields (leads_to [] (Some u)))
passes_on t priority fields u later = made t priority fields [] (Some u) later tt

-- one that hands the packet to the controller alone
handed : (t : Table) (priority : ℕ) (fields : List Field) → CanBeDone (entry t priority fields (leads_to (to_controller ∷ []) None))
handed t priority fields = made t priority fields (to_controller ∷ []) None tt (outputs fields (tags_asked fields) (to_controller ∷ []) (tt, tt))

-- ---- tables 0 and 2

module _ (d : Dp) (at : Place) where
  later_at : (b : Bool) → IsLater (table_at at) (if b then Some (next_at at) else None)
  later_at false = tt
  later_at true = by at
    where
      by : (place : Place) → table_number (table_at place) < table_number (next_at place)
      by (AtPort number) = omega arith
      by (AtVlan vid) = omega arith

  rule_done : (priority : ℕ) (rule : Rule) (fields : List Field) → CanBeDone (rule_entry_for at d priority rule fields)
  rule_done priority rule fields =
      made (table_at at) priority fields (map out (targets at d rule)) (if rule.allow then Some (next_at at) else None) (later_at rule.allow) (outputs fields (tags_asked fields) (map out (targets at d rule)) (numbers_are (targets at d rule)))

module _ (conf : Configuration) (d : Dp) where
  pub port_acl_done : (i : Port) → AllByRecursion CanBeDone (port_acl conf d i)
  port_acl_done i =
      port_acl_by CanBeDone conf d i (λ priority rule fields c is. rule_done d (AtPort i.no) priority rule fields) (ends table.PortAcl 1 (field_at (AtPort i.no) ∷ []))
      (passes_on table.PortAcl 1 (in_port i.no ∷ []) table.Admission (omega arith))

  pub vlan_acl_done : (v : Vlan) → AllByRecursion CanBeDone (vlan_acl conf d v)
  vlan_acl_done v = vlan_acl_by CanBeDone conf d v (λ priority rule fields c is. rule_done d (AtVlan v.vid) priority rule fields) (ends (table_at (AtVlan v.vid)) 1 (field_at (AtVlan v.vid) ∷ []))

  -- ---- table 1

  later_in : (v : Vlan) → table_number table.Admission < table_number (next_in v)
  later_in v = by (length v.acls == 0)
    where
      by : (b : Bool) → table_number table.Admission < table_number (if b then table.Source else table.VlanAcl)
      by true = omega arith
      by false = omega arith

  module _ (i : Port) where
    copies_are : AllByRecursion IsOutput (mirrored d i.no)
    copies_are = outs_are (mirrors_of d i.no)

    -- the tag is pushed before its VLAN is set
    without_tag_done : (v : Vlan) → IsVid v.vid → CanBeDone (without_tag d i v)
    without_tag_done v is =
        let fields = in_port i.no ∷ untagged ∷ [] in
        made table.Admission 20 fields (mirrored d i.no ++ push_tag ∷ set_vid v.vid ∷ []) (Some (next_in v)) (later_in v)
        (outputs_first fields (tags_asked fields) (mirrored d i.no) (push_tag ∷ set_vid v.vid ∷ []) copies_are
        (record { pushes = refl; sets = tt; values = tt; lowers = tt; pops = tt }, (record { pushes = tt; sets = omega arith; values = before_vid v.vid is; lowers = tt; pops = tt }, tt)))

    with_tag_done : (v : Vlan) → CanBeDone (with_tag d i v)
    with_tag_done v =
        let fields = in_port i.no ∷ vid_field v.vid ∷ [] in
        made table.Admission 20 fields (mirrored d i.no) (Some (next_in v)) (later_in v) (outputs fields (tags_asked fields) (mirrored d i.no) copies_are)

    pub admissions_done : IsValid conf → AllByRecursion CanBeDone (admissions conf d i)
    admissions_done valid =
        admissions_by CanBeDone conf d i (handed table.Admission 40 (in_port i.no ∷ eth_type LLDP ∷ untagged ∷ [])) (λ v. passes_on table.Admission 40 (in_port i.no ∷ vid_field v.vid ∷ []) table.Destination (omega arith))
        (λ v e. without_tag_done v (native_numbered conf valid i v e)) with_tag_done

    -- ---- table 3

    miss_done : (hosts : List HostRec) (v : Vlan) → CanBeDone (miss conf hosts d i v)
    miss_done hosts v = by (i.permanent_learn && has_host hosts d.id i.no v.vid) (is_full conf hosts d i v)
      where
        fields : List Field
        fields = in_port i.no ∷ vid_field v.vid ∷ []

        by : (kept full : Bool)
            → CanBeDone (entry table.Source 10 fields (if kept then leads_to [] None else if full then leads_to [] (Some table.Ipv4Route) else leads_to (to_controller ∷ []) (Some table.Ipv4Route)))
        by true full = ends table.Source 10 fields
        by false true = passes_on table.Source 10 fields table.Ipv4Route (omega arith)
        by false false = made table.Source 10 fields (to_controller ∷ []) (Some table.Ipv4Route) (omega arith) (outputs fields (tags_asked fields) (to_controller ∷ []) (tt, tt))

    pub misses_done : (hosts : List HostRec) → AllByRecursion CanBeDone (misses conf d i hosts)
    misses_done hosts = misses_by CanBeDone conf d i hosts (miss_done hosts)

  pub sources_done : (h : HostRec) (moment : ℕ) → AllByRecursion CanBeDone (sources conf d h moment)
  sources_done h moment =
      let fields = in_port h.port ∷ eth_src h.mac ∷ vid_field h.vid ∷ [] in
      sources_by CanBeDone conf d h moment
      (made table.Source 30 fields (heard_copies conf moment h) (Some table.Ipv4Route) (omega arith)
      (outputs fields (tags_asked fields) (heard_copies conf moment h) (all_when IsOutput (is_stale conf moment h) (to_controller ∷ []) (tt, tt))))
      (ends table.Source 20 (eth_src h.mac ∷ vid_field h.vid ∷ []))

  -- ---- table 7

  pub destinations_done : (h : HostRec) → IsVid h.vid → (stack : Stack) → AllByRecursion CanBeDone (destinations d h stack)
  destinations_done h is stack = destinations_by CanBeDone d h stack (λ q e. here q) (λ hop e. made table.Destination 10 fields (out hop ∷ []) None tt (outputs fields (tags_asked fields) (out hop ∷ []) (tt, tt)))
    where
      fields : List Field
      fields = eth_dst h.mac ∷ vid_field h.vid ∷ []

      back : (q : Port) (b : Bool) → AreDoable (in_port q.no ∷ fields) 1 (if b then sent d h.vid q to_ingress else [])
      back q true = sent_done (in_port q.no ∷ fields) d h.vid q to_ingress (copied_are d q.no to_ingress tt)
      back q false = tt

      here : (q : Port) → CanBeDone (from_its_port d h q) × CanBeDone (to_its_port d h q)
      here q = (
        tagged table.Destination 20 (in_port q.no ∷ fields) (sent_back d q h) None tt (asks_among h.vid is []) (back q q.hairpin),
        tagged table.Destination 10 fields (sent d h.vid q (out q.no)) None tt (asks_among h.vid is []) (sent_done fields d h.vid q (out q.no) (copied_are d q.no (out q.no) tt)),
      )

  -- ---- table 8

  by_port_is : (from : Ingress) (number : ℕ) → IsOutput (by_port from number)
  by_port_is Any number = tt
  by_port_is (At ingress) number = by (number == ingress)
    where
      by : (b : Bool) → IsOutput (if b then to_ingress else out number)
      by true = tt
      by false = tt

  by_each_are : (from : Ingress) (ports : List Port) → AllByRecursion IsOutput (by_each d from ports)
  by_each_are from ports =
      all_flat IsOutput (λ (q : Port). copied d q.no (by_port from q.no)) ports
      (all_by (λ (q : Port). AllByRecursion IsOutput (copied d q.no (by_port from q.no))) ports (λ q c. copied_are d q.no (by_port from q.no) (by_port_is from q.no)))

  popped_done : (fields : List Field) (actions : List Action) → AllByRecursion IsOutput actions → AreDoable fields 1 (popped actions)
  popped_done fields [] are = tt
  popped_done fields (a ∷ more) are = popped_first fields (a ∷ more) are

  module _ (stack : Stack) (v : Vlan) (is : IsVid v.vid) where
    flood_done : (flood : Flood) (from : Ingress) → CanBeDone (flood_entry stack d v flood from)
    flood_done flood from = tagged table.Flood (flood_priority flood from) fields (flood_actions stack d v flood from) None tt (asked from flood) (by (is_in flood v))
      where
        fields : List Field
        fields = from_fields from ++ to_fields flood v.vid

        asked : (i : Ingress) (f : Flood) → list_any asks_for_tag (from_fields i ++ to_fields f v.vid) ≡ true
        asked Any Group = asks_among v.vid is []
        asked Any Unicast = asks_among v.vid is []
        asked (At ingress) Group = asks_among v.vid is []
        asked (At ingress) Unicast = asks_among v.vid is []

        tags : List Action
        tags = by_each d from (filter (λ q. not (is_native_in q v.vid)) (flooded stack d v flood from))

        native : List Action
        native = by_each d from (filter (λ q. is_native_in q v.vid) (flooded stack d v flood from))

        by : (b : Bool) → AreDoable fields 1 (if b then tags ++ popped native else [])
        by true = outputs_first fields 1 tags (popped native) (by_each_are from _) (popped_done fields native (by_each_are from _))
        by false = tt

    pub floods_done : AllByRecursion CanBeDone (floods d v stack)
    floods_done = floods_by CanBeDone d v stack flood_done

-- ---- tables 4 and 5

abbrev InVlan : Target → Type 0
InVlan Gateway = Unit {0}
InVlan (Hop vid gateway mac) = IsVid vid
InVlan Network = Unit {0}

-- a packet goes on in a VLAN of the configuration
abbrev GoesInVlan : RouteItem → Type 0
GoesInVlan item = InVlan item.to

module _ (neighbours : List NeighRec) (group : DpId) where
  hop : (w : Vlan) → IsVid w.vid → (ip : Ip) (len : ℕ) (o : Option Mac) (item : RouteItem) → option_map (hop_item w ip len) o ≡ Some item → GoesInVlan item
  hop w is ip len None item e = absurd (none-some item e)
  hop w is ip len (Some mac) item e = subst GoesInVlan (same_Some (hop_item w ip len mac) item e) is

  in_vlans : (w : Vlan) → IsVid w.vid → (vips : List Net) → AllByRecursion GoesInVlan (items_of neighbours group w vips)
  in_vlans w is vips =
      all_joined GoesInVlan _ _ (all_joined GoesInVlan _ _ (all_joined GoesInVlan _ _
      (all_mapped GoesInVlan vip_item vips (all_by (λ vip. GoesInVlan (vip_item vip)) vips (λ vip c. tt)))
      (all_filter_map (neighbour_item group w vips) GoesInVlan neighbours
      (all_by (λ n. (item : RouteItem) → neighbour_item group w vips n ≡ Some item → GoesInVlan item) neighbours (λ n c item e. hop w is n.ip (width_of n.ip) (resolved group w vips n) item e))))
      (all_mapped GoesInVlan network_item vips (all_by (λ vip. GoesInVlan (network_item vip)) vips (λ vip c. tt))))
      (all_filter_map (route_item neighbours group w) GoesInVlan w.routes
      (all_by (λ r. (item : RouteItem) → route_item neighbours group w r ≡ Some item → GoesInVlan item) w.routes (λ r c item e. hop w is (address_of r.dst) (len_of r.dst) (mac_of_neighbour neighbours group w.vid r.gw) item e)))

  items_in_vlans : (conf : Configuration) → IsValid conf → (vid : ℕ) → AllByRecursion GoesInVlan (route_list conf neighbours group vid)
  unfolding route_list
  items_in_vlans conf valid vid =
      all_flat GoesInVlan (λ u. option_map_or (items_for neighbours group vid) (vlan_with conf.vlans u) []) (routing_set conf vid)
      (all_by (λ u. AllByRecursion GoesInVlan (option_map_or (items_for neighbours group vid) (vlan_with conf.vlans u) [])) (routing_set conf vid) (λ u c. one u (vlan_with conf.vlans u) refl))
    where
      one : (u : ℕ) (o : Option Vlan) → vlan_with conf.vlans u ≡ o → AllByRecursion GoesInVlan (option_map_or (items_for neighbours group vid) o [])
      one u None e = tt
      one u (Some w) e = in_vlans w (vlan_numbered conf valid u w e) (vips_from vid w)

module _ (v : Vlan) (is : IsVid v.vid) where
  -- where an item leads, with the fields and the table of its family
  abbrev LeadsThere : Target → RouteItem → Family → Type 0
  LeadsThere to item f = CanBeDone (entry (route_table f) (10 + item.len) (item_fields f v item) (led_to to))

  -- the hop limit is that of the family's packets
  sets_all : (f : Family) (item : RouteItem) → IsTrue (list_any asks_for_ip (item_fields f v item)) → (vid : ℕ) (gateway mac : Mac) → IsVid vid
      → AreDoable (item_fields f v item) 1 (set_eth_src gateway ∷ set_eth_dst mac ∷ set_vid vid ∷ dec_ttl ∷ [])
  sets_all f item asks vid gateway mac there = (
    record { pushes = tt; sets = tt; values = tt; lowers = tt; pops = tt },
    (
      record { pushes = tt; sets = tt; values = tt; lowers = tt; pops = tt },
      (record { pushes = tt; sets = omega arith; values = before_vid vid there; lowers = tt; pops = tt }, (record { pushes = tt; sets = tt; values = tt; lowers = asks; pops = tt }, tt)),
    ),
  )

  item_done : (f : Family) → IsFamily f → (item : RouteItem) → GoesInVlan item → CanBeDone (item_entry f v item)
  item_done f fam item there = by item.to there
    where
      by : (to : Target) → InVlan to → LeadsThere to item f
      by Gateway there =
          of_families (LeadsThere Gateway item) (passes_on table.Ipv4Route (10 + item.len) (item_fields ipv4 v item) table.Vip (omega arith))
          (passes_on table.Ipv6Route (10 + item.len) (item_fields ipv6 v item) table.Vip (omega arith)) f fam
      by (Hop vid gateway mac) there =
          of_families (LeadsThere (Hop vid gateway mac) item)
          (tagged table.Ipv4Route (10 + item.len) (item_fields ipv4 v item) (set_eth_src gateway ∷ set_eth_dst mac ∷ set_vid vid ∷ dec_ttl ∷ []) (Some table.Destination) (omega arith)
          (asks_among v.vid is (cons_option (ip_dst ipv4 (ip_value item.ip) item.len) [])) (sets_all ipv4 item refl vid gateway mac there))
          (tagged table.Ipv6Route (10 + item.len) (item_fields ipv6 v item) (set_eth_src gateway ∷ set_eth_dst mac ∷ set_vid vid ∷ dec_ttl ∷ []) (Some table.Destination) (omega arith)
          (asks_among v.vid is (cons_option (ip_dst ipv6 (ip_value item.ip) item.len) [])) (sets_all ipv6 item refl vid gateway mac there)) f fam
      by Network there = handed (route_table f) (10 + item.len) (item_fields f v item)

  pub fib_done : (conf : Configuration) → IsValid conf → (neighbours : List NeighRec) (d : Dp) → AllByRecursion CanBeDone (fib conf neighbours d v)
  fib_done conf valid neighbours d =
      let group = group_of conf d.id in
      fib_by CanBeDone conf neighbours d v (λ f fam item c own. item_done f fam item (of_all GoesInVlan (route_list conf neighbours group v.vid) (items_in_vlans neighbours group conf valid v.vid) item c))
      (λ f fam. ends (route_table f) 9 (packets_for f v))

-- ---- table 6

pub vips_done : (d : Dp) (v : Vlan) → AllByRecursion CanBeDone (vip_slice d v)
vips_done d v =
    vips_by CanBeDone d v (λ vip. handed table.Vip 30 (asked_entry v vip).key.fields) (handed table.Vip 30 (echo_entry v).key.fields)
    (handed table.Vip 30 (echo6_entry v).key.fields) (handed table.Vip 20 (advert_entry v).key.fields) (handed table.Vip 20 (heard_entry v).key.fields) (ends table.Vip 10 (end_entry v).key.fields)

-- ---- what stands once

drop_done : (priority : ℕ) (f : Field) → CanBeDone (drop priority f)
drop_done priority f = ends table.Admission priority (f ∷ [])

pub drops_done : (conf : Configuration) (d : Dp) → AllByRecursion CanBeDone (drops conf d)
drops_done conf d = drops_by CanBeDone conf d (drop_done 33 _) (drop_done 33 _) (drop_done 32 _) (drop_done 31 _) (λ mac c. drop_done 30 (eth_src mac))

pub groups_done : AllByRecursion CanBeDone (from_group ∷ passes)
groups_done = (
  passes_on table.Source 40 (group_src ∷ []) table.Ipv4Route (omega arith),
  (
    passes_on table.Ipv4Route 0 [] table.Ipv6Route (omega arith),
    (passes_on table.Ipv6Route 0 [] table.Vip (omega arith), (passes_on table.Vip 0 [] table.Destination (omega arith), (passes_on table.Destination 0 [] table.Flood (omega arith), tt))),
  ),
)
