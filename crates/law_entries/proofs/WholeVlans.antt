-- The entries of admission, sources, destinations and floods.
use Rattle.std.proofs.Common.{refl}
use Rattle.std.specs.Prelude.{◌≡◌, ℕ, ◌==◌, ◌&&◌, not, Bool, true, false, List, [], ◌∷◌, ◌++◌, filter, Some, None, if◌then◌else◌}
use Rattle.std.specs.List.{AllByRecursion}
use Rattle.net_base.specs.declared.numbers.DpId.{DpId}
use Rattle.net_base.specs.Numbers.{IsPortNo}
use Rattle.of_match.specs.declared.action.Action.{Action}
use Rattle.stack_paths.specs.Chosen.{hop_of}
use Rattle.stack_paths.specs.Stack.{Stack}
use Rattle.conf_types.specs.declared.datapath.Dp.{Dp}
use Rattle.conf_types.specs.declared.datapath.Port.{Port}
use Rattle.conf_types.specs.declared.state.HostRec.{HostRec}
use Rattle.conf_types.specs.declared.vlan.Vlan.{Vlan}
use Rattle.conf_types.specs.Configuration.{Configuration, port_with}
use Rattle.conf_types.specs.Membership.{is_native_in}
use Rattle.conf_types.specs.State.{is_stale}
use Rattle.conf_types.proofs.Found.{all_found}
use Rattle.plan_base.specs.declared.table.Table.TheVariants as table
use Rattle.plan_base.specs.Actions.{out, to_controller, to_ingress, push_tag, set_vid}
use Rattle.plan_base.specs.Entries.{leads_to}
use Rattle.plan_base.specs.Sending.{mirrored, copied, sent}
use Rattle.plan_base.proofs.Each.{all_from, all_filter}
use Rattle.vlan_compile.specs.declared.flood.Flood.{Flood}
use Rattle.vlan_compile.specs.declared.flood.Ingress.{Ingress}
use Rattle.vlan_compile.specs.declared.flood.Ingress.TheVariants.{Any, At}
use Rattle.vlan_compile.specs.Admissions.{admissions, lldp_heard, from_stack, without_tag, with_tag, next_in}
use Rattle.vlan_compile.specs.Destinations.{from_its_port, to_its_port, destinations, sent_back}
use Rattle.vlan_compile.specs.Floods.{floods, flood_entry, flood_actions, is_in, is_flooded, flooded, may_get, by_each, by_port, popped}
use Rattle.vlan_compile.specs.Misses.{misses, missed, has_host, is_full}
use Rattle.vlan_compile.specs.Sources.{sources, heard_copies}
use Rattle.law_runs.specs.Members.{all_joined, all_flat}
use Rattle.plan_units.specs.Parts.{admissions_by, destinations_by, floods_by, misses_by, sources_by}
use Rattle.law_entries.specs.Whole.{IsWhole, DoesWhole, SendsWhole}
use Rattle.law_entries.proofs.WholeParts.{all_when, out_whole, to_controller_whole, to_ingress_whole, mirrored_whole, copied_whole, sent_whole, led}

popped_whole : (actions : List Action) → AllByRecursion IsWhole actions → AllByRecursion IsWhole (popped actions)
popped_whole [] all = tt
popped_whole (a ∷ more) all = (tt, all)

module _ (d : Dp) (numbers : AllByRecursion (λ (p : Port). IsPortNo p.no) d.ports) where
  -- ---- table 1

  module _ (i : Port) where
    without_tag_whole : (v : Vlan) → SendsWhole (without_tag d i v)
    without_tag_whole v =
        led (mirrored d i.no ++ push_tag ∷ set_vid v.vid ∷ []) (Some (next_in v))
        (all_joined IsWhole (mirrored d i.no) (push_tag ∷ set_vid v.vid ∷ []) (mirrored_whole d numbers i.no) (tt, (tt, tt)))

    with_tag_whole : (v : Vlan) → SendsWhole (with_tag d i v)
    with_tag_whole v = led (mirrored d i.no) (Some (next_in v)) (mirrored_whole d numbers i.no)

    lldp_heard_whole : SendsWhole (lldp_heard i)
    lldp_heard_whole = led (to_controller ∷ []) None (refl, tt)

    from_stack_whole : (v : Vlan) → SendsWhole (from_stack i v)
    from_stack_whole v = led [] (Some table.Destination) tt

    pub admissions_whole : (conf : Configuration) → AllByRecursion SendsWhole (admissions conf d i)
    admissions_whole conf = admissions_by SendsWhole conf d i lldp_heard_whole from_stack_whole (λ v e. without_tag_whole v) with_tag_whole

  -- ---- table 7

  module _ (stack : Stack) (hops : (a b : DpId) (n : ℕ) → hop_of stack a b ≡ Some n → IsPortNo n) where
    pub destinations_whole : (h : HostRec) → AllByRecursion SendsWhole (destinations d h stack)
    destinations_whole h = destinations_by SendsWhole d h stack here (λ hop e. led (out hop ∷ []) None (out_whole hop (hops d.id h.dp hop e), tt))
      where
        here : (q : Port) → port_with d.ports h.port ≡ Some q → SendsWhole (from_its_port d h q) × SendsWhole (to_its_port d h q)
        here q e =
            let is = all_found (λ (p : Port). IsPortNo p.no) (λ (p : Port). p.no == h.port) d.ports q numbers e in (
              led (sent_back d q h) None (all_when IsWhole q.hairpin (sent d h.vid q to_ingress) (sent_whole d numbers h.vid q to_ingress to_ingress_whole)),
              led (sent d h.vid q (out q.no)) None (sent_whole d numbers h.vid q (out q.no) (out_whole q.no is)),
            )

  -- ---- table 8

  by_port_whole : (from : Ingress) (number : ℕ) → IsPortNo number → IsWhole (by_port from number)
  by_port_whole Any number is = out_whole number is
  by_port_whole (At ingress) number is = by (number == ingress)
    where
      by : (b : Bool) → IsWhole (if b then to_ingress else out number)
      by true = to_ingress_whole
      by false = out_whole number is

  by_each_whole : (from : Ingress) (ports : List Port) → AllByRecursion (λ (p : Port). IsPortNo p.no) ports → AllByRecursion IsWhole (by_each d from ports)
  by_each_whole from ports all =
      all_flat IsWhole (λ (q : Port). copied d q.no (by_port from q.no)) ports
      (all_from {P = λ (p : Port). IsPortNo p.no} {Q = λ (q : Port). AllByRecursion IsWhole (copied d q.no (by_port from q.no))} (λ q is. copied_whole d numbers q.no (by_port from q.no) (by_port_whole from q.no is)) ports all)

  module _ (stack : Stack) (v : Vlan) where
    part_whole : (flood : Flood) (from : Ingress) (side : Port → Bool) → AllByRecursion IsWhole (by_each d from (filter side (flooded stack d v flood from)))
    part_whole flood from side =
        by_each_whole from (filter side (flooded stack d v flood from))
        (all_filter (λ (p : Port). IsPortNo p.no) side (flooded stack d v flood from)
        (all_filter (λ (p : Port). IsPortNo p.no) (λ q. is_flooded stack d v flood q && may_get from q) d.ports numbers))

    flood_whole : (flood : Flood) (from : Ingress) → SendsWhole (flood_entry stack d v flood from)
    flood_whole flood from =
        let tagged = by_each d from (filter (λ q. not (is_native_in q v.vid)) (flooded stack d v flood from)) in
        let native = by_each d from (filter (λ q. is_native_in q v.vid) (flooded stack d v flood from)) in
        led (flood_actions stack d v flood from) None (all_when IsWhole (is_in flood v) (tagged ++ popped native)
        (all_joined IsWhole tagged (popped native) (part_whole flood from (λ q. not (is_native_in q v.vid))) (popped_whole native (part_whole flood from (λ q. is_native_in q v.vid)))))

    pub floods_whole : AllByRecursion SendsWhole (floods d v stack)
    floods_whole = floods_by SendsWhole d v stack flood_whole

-- ---- table 3

module _ (conf : Configuration) (d : Dp) where
  missed_whole : (hosts : List HostRec) (i : Port) (v : Vlan) → AllByRecursion DoesWhole (missed conf hosts d i v)
  missed_whole hosts i v = by (i.permanent_learn && has_host hosts d.id i.no v.vid) (is_full conf hosts d i v)
    where
      by : (kept full : Bool)
          → AllByRecursion DoesWhole (if kept then leads_to [] None else if full then leads_to [] (Some table.Ipv4Route) else leads_to (to_controller ∷ []) (Some table.Ipv4Route))
      by true full = led [] None tt
      by false true = led [] (Some table.Ipv4Route) tt
      by false false = led (to_controller ∷ []) (Some table.Ipv4Route) (to_controller_whole, tt)

  pub misses_whole : (i : Port) (hosts : List HostRec) → AllByRecursion SendsWhole (misses conf d i hosts)
  misses_whole i hosts = misses_by SendsWhole conf d i hosts (missed_whole hosts i)

  pub sources_whole : (h : HostRec) (moment : ℕ) → AllByRecursion SendsWhole (sources conf d h moment)
  sources_whole h moment =
      sources_by SendsWhole conf d h moment
      (led (heard_copies conf moment h) (Some table.Ipv4Route) (all_when IsWhole (is_stale conf moment h) (to_controller ∷ []) (to_controller_whole, tt))) (led [] None tt)
