-- The entries of admission, sources, destinations and floods are short: a packet goes by each interface and
-- the four that mirror it at most once.
use Rattle.std.specs.Prelude.{◌≡◌, ℕ, ◌+◌, ◌*◌, ◌≤◌, ◌==◌, ◌&&◌, not, Bool, true, List, [], ◌∷◌, ◌++◌, length, filter, count_by, Some, None, Contains, if◌then◌else◌}
use Rattle.std.specs.List.{AllByRecursion}
use Rattle.std.proofs.Common.{arith}
use Rattle.std.proofs.lemmas.Bool.{and_parts}
use Rattle.std.proofs.lemmas.List.{length-append, length-map}
use Rattle.of_match.specs.declared.action.Action.{Action}
use Rattle.stack_paths.specs.Stack.{Stack}
use Rattle.conf_types.specs.declared.datapath.Dp.{Dp}
use Rattle.conf_types.specs.declared.datapath.Port.{Port}
use Rattle.conf_types.specs.declared.state.HostRec.{HostRec}
use Rattle.conf_types.specs.declared.vlan.Vlan.{Vlan}
use Rattle.conf_types.specs.Configuration.{Configuration}
use Rattle.conf_types.specs.Membership.{is_native_in, is_mirror_of, mirrors_of}
use Rattle.conf_types.specs.State.{is_stale}
use Rattle.plan_base.specs.declared.table.Table.TheVariants as table
use Rattle.plan_base.specs.Actions.{out, to_controller, to_ingress, pop_tag, push_tag, set_vid}
use Rattle.plan_base.specs.Entries.{leads_to}
use Rattle.of_match.specs.declared.ether_type.TheConstants.{LLDP}
use Rattle.plan_base.specs.Fields.{in_port, eth_type, eth_src, eth_dst, vid_field, untagged}
use Rattle.plan_base.specs.Sending.{mirrored, copied, sent}
use Rattle.vlan_compile.specs.declared.flood.Flood.{Flood}
use Rattle.vlan_compile.specs.declared.flood.Flood.TheVariants.{Group, Unicast}
use Rattle.vlan_compile.specs.declared.flood.Ingress.{Ingress}
use Rattle.vlan_compile.specs.declared.flood.Ingress.TheVariants.{Any, At}
use Rattle.vlan_compile.specs.Admissions.{admissions, lldp_heard, from_stack, without_tag, with_tag, next_in}
use Rattle.vlan_compile.specs.Destinations.{from_its_port, to_its_port, destinations, sent_back}
use Rattle.vlan_compile.specs.Floods.{floods, flood_entry, flood_actions, flood_priority, from_fields, to_fields, is_in, flooded, is_flooded, may_get, by_each, by_port, popped}
use Rattle.vlan_compile.specs.Misses.{misses, miss, has_host, is_full}
use Rattle.vlan_compile.specs.Sources.{sources, heard_copies}
use Rattle.law_runs.specs.Members.{all_by, all_filtered, of_all}
use Rattle.plan_units.specs.Facts.{found}
use Rattle.plan_units.specs.Parts.{admissions_by, destinations_by, floods_by, misses_by, sources_by}
use Rattle.law_entries.specs.Short.{IsShort}
use Rattle.law_entries.proofs.ShortCounts.{filter_count, filter_fewer, filter_parts, flat_fewer}
use Rattle.law_entries.proofs.ShortParts.{short, led, led_if, length_if}

popped_few : (actions : List Action) → length (popped actions) ≤ 1 + length actions
popped_few [] = omega arith
popped_few (a ∷ more) = omega arith

from_few : (from : Ingress) (flood : Flood) (vid : ℕ) → length (from_fields from ++ to_fields flood vid) ≤ 64
from_few Any Group vid = omega arith
from_few Any Unicast vid = omega arith
from_few (At ingress) Group vid = omega arith
from_few (At ingress) Unicast vid = omega arith

module _ (d : Dp) (ports : length d.ports ≤ 256) (mirrors : AllByRecursion (λ p. count_by (λ m. is_mirror_of m p.no) d.ports ≤ 4) d.ports) where
  -- ---- copies

  mirrored_few : (i : Port) → Contains d.ports i → length (mirrored d i.no) ≤ 4
  mirrored_few i c =
      let same = length-map (mirrors_of d i.no) (λ (q : Port). out q.no) in
      let less = filter_count (λ (m : Port). m.enabled && is_mirror_of m i.no) (λ m. is_mirror_of m i.no) d.ports (λ m is. (and_parts m.enabled (is_mirror_of m i.no) is).1) in
      let most = of_all (λ (p : Port). count_by (λ m. is_mirror_of m p.no) d.ports ≤ 4) d.ports mirrors i c in
      omega (arith, same, less, most)

  copied_few : (i : Port) → Contains d.ports i → (by : Action) → length (copied d i.no by) ≤ 5
  copied_few i c by = let few = mirrored_few i c in omega (arith, few)

  sent_few : (vid : ℕ) (q : Port) → Contains d.ports q → (by : Action) → length (sent d vid q by) ≤ 6
  sent_few vid q c by =
      let both = length-append (if is_native_in q vid then pop_tag ∷ [] else []) (copied d q.no by) in
      let first = length_if 1 (is_native_in q vid) (pop_tag ∷ []) [] (omega arith) (omega arith) in
      let second = copied_few q c by in
      omega (arith, both, first, second)

  -- ---- table 1

  module _ (conf : Configuration) (i : Port) (here : Contains d.ports i) where
    without_tag_short : (v : Vlan) → IsShort (without_tag d i v)
    without_tag_short v =
        let both = length-append (mirrored d i.no) (push_tag ∷ set_vid v.vid ∷ []) in
        let few = mirrored_few i here in
        short table.Admission 20 (in_port i.no ∷ untagged ∷ []) (mirrored d i.no ++ push_tag ∷ set_vid v.vid ∷ []) (Some (next_in v)) (omega arith) (omega (arith, both, few))

    with_tag_short : (v : Vlan) → IsShort (with_tag d i v)
    with_tag_short v =
        let few = mirrored_few i here in
        short table.Admission 20 (in_port i.no ∷ vid_field v.vid ∷ []) (mirrored d i.no) (Some (next_in v)) (omega arith) (omega (arith, few))

    lldp_heard_short : IsShort (lldp_heard i)
    lldp_heard_short = short table.Admission 40 (in_port i.no ∷ eth_type LLDP ∷ untagged ∷ []) (to_controller ∷ []) None (omega arith) (omega arith)

    from_stack_short : (v : Vlan) → IsShort (from_stack i v)
    from_stack_short v = short table.Admission 40 (in_port i.no ∷ vid_field v.vid ∷ []) [] (Some table.Destination) (omega arith) (omega arith)

    pub admissions_short : AllByRecursion IsShort (admissions conf d i)
    admissions_short = admissions_by IsShort conf d i lldp_heard_short from_stack_short (λ v e. without_tag_short v) with_tag_short

  -- ---- table 7

  pub destinations_short : (h : HostRec) (stack : Stack) → AllByRecursion IsShort (destinations d h stack)
  destinations_short h stack =
      destinations_by IsShort d h stack (λ q e. here q (found (λ p. p.no == h.port) d.ports q e).within)
      (λ hop e. short table.Destination 10 (eth_dst h.mac ∷ vid_field h.vid ∷ []) (out hop ∷ []) None (omega arith) (omega arith))
    where
      back : (q : Port) → Contains d.ports q → length (sent_back d q h) ≤ 6
      back q c = length_if 6 q.hairpin (sent d h.vid q to_ingress) [] (sent_few h.vid q c to_ingress) (omega arith)

      here : (q : Port) → Contains d.ports q → IsShort (from_its_port d h q) × IsShort (to_its_port d h q)
      here q c =
          let first = back q c in
          let second = sent_few h.vid q c (out q.no) in (
            short table.Destination 20 (in_port q.no ∷ eth_dst h.mac ∷ vid_field h.vid ∷ []) (sent_back d q h) None (omega arith) (omega (arith, first)),
            short table.Destination 10 (eth_dst h.mac ∷ vid_field h.vid ∷ []) (sent d h.vid q (out q.no)) None (omega arith) (omega (arith, second)),
          )

  -- ---- table 8

  -- every interface and the mirrors of each, and the tag is taken off once
  module _ (stack : Stack) (v : Vlan) where
    flood_few : (flood : Flood) (from : Ingress) → length (flood_actions stack d v flood from) ≤ 2000
    flood_few flood from = length_if 2000 (is_in flood v) (by_each d from tagged ++ popped (by_each d from native)) [] fit (omega arith)
      where
        is_native : Port → Bool
        is_native q = is_native_in q v.vid

        gets : Port → Bool
        gets q = is_flooded stack d v flood q && may_get from q

        all : List Port
        all = flooded stack d v flood from

        tagged : List Port
        tagged = filter (λ q. not (is_native q)) all

        native : List Port
        native = filter is_native all

        all_few : AllByRecursion (λ q. length (copied d q.no (by_port from q.no)) ≤ 5) all
        all_few =
            all_filtered (λ q. length (copied d q.no (by_port from q.no)) ≤ 5) gets d.ports
            (all_by (λ q. gets q ≡ true → length (copied d q.no (by_port from q.no)) ≤ 5) d.ports (λ q c is. copied_few q c (by_port from q.no)))

        part_few : (p : Port → Bool) → length (by_each d from (filter p all)) ≤ length (filter p all) * 5
        part_few p =
            flat_fewer (λ q. copied d q.no (by_port from q.no)) 5 (filter p all)
            (all_filtered (λ q. length (copied d q.no (by_port from q.no)) ≤ 5) p all
            (all_by (λ q. p q ≡ true → length (copied d q.no (by_port from q.no)) ≤ 5) all (λ q c is. of_all (λ q. length (copied d q.no (by_port from q.no)) ≤ 5) all all_few q c)))

        fit : length (by_each d from tagged ++ popped (by_each d from native)) ≤ 2000
        fit =
            let both = length-append (by_each d from tagged) (popped (by_each d from native)) in
            let pop = popped_few (by_each d from native) in
            let first = part_few (λ q. not (is_native q)) in
            let second = part_few is_native in
            let parts = filter_parts is_native all in
            let less = filter_fewer gets d.ports in
            omega (arith, both, pop, first, second, parts, less, ports)

    flood_short : (flood : Flood) (from : Ingress) → IsShort (flood_entry stack d v flood from)
    flood_short flood from =
        short table.Flood (flood_priority flood from) (from_fields from ++ to_fields flood v.vid) (flood_actions stack d v flood from) None (from_few from flood v.vid) (flood_few flood from)

    pub floods_short : AllByRecursion IsShort (floods d v stack)
    floods_short = floods_by IsShort d v stack flood_short

-- ---- table 3

module _ (conf : Configuration) (d : Dp) where
  miss_short : (hosts : List HostRec) (i : Port) (v : Vlan) → IsShort (miss conf hosts d i v)
  miss_short hosts i v = record {
    table = omega arith;
    fields = omega arith;
    actions = led_if (i.permanent_learn && has_host hosts d.id i.no v.vid) (leads_to [] None) _ (led [] None (omega arith))
        (led_if (is_full conf hosts d i v) (leads_to [] (Some table.Ipv4Route)) (leads_to (to_controller ∷ []) (Some table.Ipv4Route)) (led [] (Some table.Ipv4Route) (omega arith)) (led (to_controller ∷ []) (Some table.Ipv4Route) (omega arith)));
  }

  pub misses_short : (i : Port) (hosts : List HostRec) → AllByRecursion IsShort (misses conf d i hosts)
  misses_short i hosts = misses_by IsShort conf d i hosts (miss_short hosts i)

  pub sources_short : (h : HostRec) (moment : ℕ) → AllByRecursion IsShort (sources conf d h moment)
  sources_short h moment =
      let heard = length_if 1 (is_stale conf moment h) (to_controller ∷ []) [] (omega arith) (omega arith) in
      sources_by IsShort conf d h moment (short table.Source 30 (in_port h.port ∷ eth_src h.mac ∷ vid_field h.vid ∷ []) (heard_copies conf moment h) (Some table.Ipv4Route) (omega arith) (omega (arith, heard)))
      (short table.Source 20 (eth_src h.mac ∷ vid_field h.vid ∷ []) [] None (omega arith) (omega arith))
