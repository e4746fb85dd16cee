-- What is learned is valid.
use Rattle.std.proofs.Common.{◌≡◌, ℕ, ◌<◌, ◌≤◌, ◌==◌, ◌&&◌, ◌||◌, ◌++◌, Bool, true, false, Option, Some, None, List, [], ◌∷◌, length, filter, not, nat_le, count_by, refl, sym, ap, ◌∙◌, arith, subst, eq-eqb, length-append, if◌then◌else◌}
use Rattle.std.specs.List.{AllByRecursion}
use Rattle.std.specs.Option.{option_and_then, option_map_or}
use Rattle.std.proofs.lemmas.Bool.{and_parts, and_from, both_ways, eqb-true, false≢true}
use Rattle.std.proofs.lemmas.List.{length-map}
use Rattle.net_base.specs.declared.numbers.DpId.{DpId}
use Rattle.conf_types.specs.declared.datapath.Dp.{Dp}
use Rattle.conf_types.specs.declared.datapath.Port.{Port}
use Rattle.conf_types.specs.declared.state.HostRec.{HostRec}
use Rattle.conf_types.specs.declared.vlan.Vlan.{Vlan}
use Rattle.conf_types.specs.Configuration.{Configuration, dp_with, port_at, port_with, vlan_with}
use Rattle.conf_types.specs.Groups.{group_of}
use Rattle.conf_types.specs.Links.{is_up}
use Rattle.conf_types.specs.Lists.{is_same}
use Rattle.conf_types.specs.State.{State, IsHost, IsNeighbour, IsSameHost, IsValidState, is_barred, is_host_at, is_host_in, is_permanent, is_running, most_hosts}
use Rattle.conf_types.specs.Valid.{IsValid}
use Rattle.host_learn.specs.declared.learn.Learn.TheVariants.{Learned, Moved, Refreshed, Full, NotLearnable}
use Rattle.host_learn.specs.Learning.{hosts_after, is_full, is_full_at, is_full_in, is_heard, is_host, is_kept_off, is_known, is_learnable, is_occupied, learned, refreshed, stands_there}
use Rattle.host_list.specs.Parts.{IsPartOf}
use Rattle.host_learn.specs.Table.{Table}
use Rattle.host_learn.proofs.KeptParts.{same_is_heard}
use Rattle.host_learn.proofs.KeptRoom.{KeepsFirst, counted, free_for, not_true, port_room, vlan_room}
use Rattle.host_learn.proofs.KeptValid.{ports_found, stands, vlans_found}
use Rattle.host_list.proofs.Lists.{all_both, all_map, all_part, all_push, before_part, before_push, count_off, count_part, filter_all, filter_part, found_passes, none_passes, part_same}
use Rattle.host_list.proofs.Moments.{refreshed_all, refreshed_before, refreshed_count}
use Rattle.host_learn.proofs.Sizes.{fewer_by_one, less, neither, second}

-- an interface that is found has the number
numbered : (o : Option Dp) (n : ℕ) (p : Port) → option_and_then (λ d. port_with d.ports n) o ≡ Some p → p.no ≡ n
numbered None n p is = absurd (cc)
numbered (Some d) n p is = eqb-true p.no n (found_passes (λ (q : Port). q.no == n) d.ports p is)

free_bits : (there elsewhere first occupied : Bool) → there ≡ false → not (not there && (elsewhere || (first && occupied))) ≡ true → not (first && occupied) ≡ true
free_bits true elsewhere first occupied new off = absurd (false≢true (sym new))
free_bits false true first occupied new off = absurd (false≢true off)
free_bits false false first occupied new off = off

module _ (conf : Configuration) (state : State) (heard : HostRec) where
  -- ---- the one that is heard, behind a part of the hosts

  record HasRoom (part : List HostRec) : Type 0 where
    of_hosts : IsPartOf part state.hosts
    others : AllByRecursion (λ host. is_heard conf heard host ≡ false) part
    free : not (is_permanent conf heard && is_occupied state.hosts heard) ≡ true
    port : not (is_full_at conf state.hosts heard) ≡ true
    vlan : (group : DpId) (v : Vlan) → vlan_with conf.vlans v.vid ≡ Some v → count_by (is_host_in conf group v.vid) state.hosts ≤ v.max_hosts → is_host_in conf group v.vid heard ≡ true
        → count_by (is_host_in conf group v.vid) part < v.max_hosts
    table : length part < most_hosts

  abbrev PortWithin : List HostRec → Dp → Port → Type 0
  PortWithin hosts d p = count_by (is_host_at d.id p.no) hosts ≤ p.max_hosts

  abbrev VlanWithin : List HostRec → Dp → Vlan → Type 0
  VlanWithin hosts d v = count_by (is_host_in conf (group_of conf d.id) v.vid) hosts ≤ v.max_hosts

  added_valid : IsValid conf → IsValidState conf state → IsHost conf state heard → (part : List HostRec) → HasRoom part → IsValidState conf (record state { hosts = part ++ heard ∷ [] })
  added_valid valid was here part room =
      let hosts : List HostRec = part ++ heard ∷ [] in
      let next : State = record state { hosts = hosts } in
      record {
        running = was.running;
        ups = was.ups;
        hosts =
            all_map (IsHost conf state) (IsHost conf next) (λ h is. record { runs = is.runs; up = is.up; place = is.place; individual = is.individual; no_gateway = is.no_gateway }) hosts
            (all_push (IsHost conf state) part heard (all_part (IsHost conf state) part state.hosts was.hosts room.of_hosts) here);
        host_keys =
            before_push (λ a b. IsSameHost conf a b → ⊥) part heard (before_part (λ a b. IsSameHost conf a b → ⊥) part state.hosts was.host_keys room.of_hosts)
            (all_map (λ a. is_heard conf heard a ≡ false) (λ a. IsSameHost conf a heard → ⊥)
            (λ a other same. both_ways (is_heard conf heard a) other (same_is_heard conf heard a (record { groups = sym same.groups; vlans = sym same.vlans; macs = sym same.macs }))) part room.others);
        permanent =
            before_push (KeepsFirst conf) part heard (before_part (KeepsFirst conf) part state.hosts was.permanent room.of_hosts)
            (all_part (λ a. KeepsFirst conf a heard) part state.hosts (free_for conf state.hosts heard room.free) room.of_hosts);
        ports =
            all_map (λ (d : Dp). AllByRecursion (λ (p : Port). port_at conf d.id p.no ≡ Some p) d.ports × AllByRecursion (PortWithin state.hosts d) d.ports) (λ (d : Dp). AllByRecursion (PortWithin hosts d) d.ports)
            (λ d of. all_map (λ (p : Port). (port_at conf d.id p.no ≡ Some p) × PortWithin state.hosts d p) (PortWithin hosts d)
            (λ p is. let fewer = count_part (is_host_at d.id p.no) part state.hosts room.of_hosts in
            counted (is_host_at d.id p.no) p.max_hosts part heard (omega (arith, fewer, is.1)) (λ at. omega (arith, fewer, port_room conf d p is.0 state.hosts heard room.port at)))
            d.ports (all_both (λ (p : Port). port_at conf d.id p.no ≡ Some p) (PortWithin state.hosts d) d.ports of.0 of.1)) conf.dps
            (all_both (λ (d : Dp). AllByRecursion (λ (p : Port). port_at conf d.id p.no ≡ Some p) d.ports) (λ (d : Dp). AllByRecursion (PortWithin state.hosts d) d.ports) conf.dps (ports_found conf valid) was.ports);
        vlans =
            all_map (λ (d : Dp). AllByRecursion (VlanWithin state.hosts d) conf.vlans) (λ (d : Dp). AllByRecursion (VlanWithin hosts d) conf.vlans)
            (λ d within. all_map (λ (v : Vlan). (vlan_with conf.vlans v.vid ≡ Some v) × VlanWithin state.hosts d v) (VlanWithin hosts d)
            (λ v is.
            counted (is_host_in conf (group_of conf d.id) v.vid) v.max_hosts part heard (omega (arith, count_part (is_host_in conf (group_of conf d.id) v.vid) part state.hosts room.of_hosts, is.1)) (room.vlan (group_of conf d.id) v is.0 is.1))
            conf.vlans (all_both (λ (v : Vlan). vlan_with conf.vlans v.vid ≡ Some v) (VlanWithin state.hosts d) conf.vlans (vlans_found conf valid) within)) conf.dps was.vlans;
        table = omega (arith, length-append part (heard ∷ []), room.table);
        neighbours = all_map (IsNeighbour conf state) (IsNeighbour conf next) (λ n is. record { address = is.address; runs = is.runs }) state.neighbours was.neighbours;
        neighbour_keys = was.neighbour_keys;
        neighbour_table = was.neighbour_table;
      }

  -- ---- another moment

  refreshed_valid : IsValidState conf state → IsValidState conf (record state { hosts = refreshed heard state.hosts })
  refreshed_valid was =
      let hosts : List HostRec = refreshed heard state.hosts in
      let next : State = record state { hosts = hosts } in
      record {
        running = was.running;
        ups = was.ups;
        hosts =
            refreshed_all heard (IsHost conf next) (λ h m is. record { runs = is.runs; up = is.up; place = is.place; individual = is.individual; no_gateway = is.no_gateway }) state.hosts
            (all_map (IsHost conf state) (IsHost conf next) (λ h is. record { runs = is.runs; up = is.up; place = is.place; individual = is.individual; no_gateway = is.no_gateway }) state.hosts was.hosts);
        host_keys =
            refreshed_before heard (λ a b. IsSameHost conf a b → ⊥) (λ a b m apart same. apart (record { groups = same.groups; vlans = same.vlans; macs = same.macs }))
            (λ a b m apart same. apart (record { groups = same.groups; vlans = same.vlans; macs = same.macs })) state.hosts was.host_keys;
        permanent = refreshed_before heard (KeepsFirst conf) (λ a b m is. is) (λ a b m is. is) state.hosts was.permanent;
        ports =
            all_map (λ (d : Dp). AllByRecursion (PortWithin state.hosts d) d.ports) (λ (d : Dp). AllByRecursion (PortWithin hosts d) d.ports)
            (λ d. all_map (PortWithin state.hosts d) (PortWithin hosts d) (λ p within. omega (arith, refreshed_count heard (is_host_at d.id p.no) (λ h m. refl) state.hosts, within)) d.ports) conf.dps was.ports;
        vlans =
            all_map (λ (d : Dp). AllByRecursion (VlanWithin state.hosts d) conf.vlans) (λ (d : Dp). AllByRecursion (VlanWithin hosts d) conf.vlans)
            (λ d. all_map (VlanWithin state.hosts d) (VlanWithin hosts d) (λ v within. omega (arith, refreshed_count heard (is_host_in conf (group_of conf d.id) v.vid) (λ h m. refl) state.hosts, within)) conf.vlans) conf.dps was.vlans;
        table = rw length-map was.table;
        neighbours = all_map (IsNeighbour conf state) (IsNeighbour conf next) (λ n is. record { address = is.address; runs = is.runs }) state.neighbours was.neighbours;
        neighbour_keys = was.neighbour_keys;
        neighbour_table = was.neighbour_table;
      }

  -- ---- what the answers say

  -- the port doesn't keep the host off
  free_at : (o : Option Port) → port_at conf heard.dp heard.port ≡ o → not (option_map_or (λ p. is_barred conf state.hosts heard.dp p heard.vid heard.mac.0) o false) ≡ true → stands_there state.hosts heard ≡ false
      → not (option_map_or (λ p. p.permanent_learn) o false && is_occupied state.hosts heard) ≡ true
  free_at None is off new = refl
  free_at (Some p) is off new =
      let number : p.no ≡ heard.port = numbered (dp_with conf.dps heard.dp) heard.port p is in
      free_bits (stands_there state.hosts heard) _ p.permanent_learn (is_occupied state.hosts heard) new
      (subst (λ (n : ℕ). not (is_barred conf state.hosts heard.dp (record p { no = n }) heard.vid heard.mac.0) ≡ true) number off)

  -- a host that is the one that is heard counts where that one does
  heard_counts : (group : DpId) (vid : ℕ) → is_host_in conf group vid heard ≡ true → (h : HostRec) → is_heard conf heard h ≡ true → is_host_in conf group vid h ≡ true
  heard_counts group vid at h is =
      let here = and_parts ((group_of conf heard.dp).0 == group.0) (heard.vid == vid) at in
      let key = and_parts (is_host_in conf (group_of conf heard.dp) heard.vid h) (is_same h.mac.0 heard.mac.0) is in
      let there = and_parts ((group_of conf h.dp).0 == (group_of conf heard.dp).0) (h.vid == heard.vid) key.0 in
      and_from ((group_of conf h.dp).0 == group.0) (h.vid == vid)
      (eq-eqb (group_of conf h.dp).0 group.0 (eqb-true (group_of conf h.dp).0 (group_of conf heard.dp).0 there.0 ∙ eqb-true (group_of conf heard.dp).0 group.0 here.0))
      (eq-eqb h.vid vid (eqb-true h.vid heard.vid there.1 ∙ eqb-true heard.vid vid here.1))

  module _ (limit : ℕ) (valid : IsValid conf) (within : limit ≤ most_hosts) (was : IsValidState conf state) (runs : is_running state.running heard.dp ≡ true) (up : is_up state.ups heard.dp heard.port ≡ true) where
    abbrev table : Table
    table = record { limit = limit; hosts = state.hosts }

    here_is : is_learnable conf state.hosts heard ≡ true → IsHost conf state heard
    here_is may = stands conf state heard runs up (and_parts (is_host conf heard) (not (is_kept_off conf state.hosts heard)) may).0

    free_is : is_learnable conf state.hosts heard ≡ true → stands_there state.hosts heard ≡ false → not (is_permanent conf heard && is_occupied state.hosts heard) ≡ true
    free_is may new = free_at (port_at conf heard.dp heard.port) refl (and_parts (is_host conf heard) (not (is_kept_off conf state.hosts heard)) may).1 new

    -- neither the port is full, nor the VLAN and the table for a new one
    no_limits : is_full conf table heard ≡ false
        → ((not (stands_there state.hosts heard) && is_full_at conf state.hosts heard) ≡ false) × ((not (is_known conf state.hosts heard) && (is_full_in conf state.hosts heard || nat_le limit (length state.hosts))) ≡ false)
    no_limits room =
        neither (not (stands_there state.hosts heard) && is_full_at conf state.hosts heard) (not (is_known conf state.hosts heard) && (is_full_in conf state.hosts heard || nat_le limit (length state.hosts))) room

    port_free : is_full conf table heard ≡ false → stands_there state.hosts heard ≡ false → not (is_full_at conf state.hosts heard) ≡ true
    port_free room new = ap not (second (stands_there state.hosts heard) (is_full_at conf state.hosts heard) (no_limits room).0 new)

    new_room : is_learnable conf state.hosts heard ≡ true → is_full conf table heard ≡ false → stands_there state.hosts heard ≡ false → is_known conf state.hosts heard ≡ false → HasRoom state.hosts
    new_room may room new unknown =
        let limits = neither (is_full_in conf state.hosts heard) (nat_le limit (length state.hosts)) (second (is_known conf state.hosts heard) (is_full_in conf state.hosts heard || nat_le limit (length state.hosts)) (no_limits room).1 unknown) in
        record {
          of_hosts = part_same state.hosts;
          others = none_passes (is_heard conf heard) state.hosts unknown;
          free = free_is may new;
          port = port_free room new;
          vlan = λ group v is few at. vlan_room conf group v is state.hosts heard (ap not limits.0) at;
          table = omega (arith, less limit (length state.hosts) (ap not limits.1), within);
        }

    moved_room : is_learnable conf state.hosts heard ≡ true → is_full conf table heard ≡ false → stands_there state.hosts heard ≡ false → is_known conf state.hosts heard ≡ true
        → HasRoom (filter (λ host. not (is_heard conf heard host)) state.hosts)
    moved_room may room new known =
        let left : List HostRec = filter (λ host. not (is_heard conf heard host)) state.hosts in
        record {
          of_hosts = filter_part (λ host. not (is_heard conf heard host)) state.hosts;
          others = all_map (λ host. not (is_heard conf heard host) ≡ true) (λ host. is_heard conf heard host ≡ false) (λ host. not_true (is_heard conf heard host)) left (filter_all (λ host. not (is_heard conf heard host)) state.hosts);
          free = free_is may new;
          port = port_free room new;
          vlan = λ group v is few at. omega (arith, count_off (is_heard conf heard) (is_host_in conf group v.vid) (heard_counts group v.vid at) state.hosts known, few);
          table = omega (arith, fewer_by_one conf limit heard state.hosts known, was.table);
        }

    by_answer : (may room there known : Bool) → is_learnable conf state.hosts heard ≡ may → is_full conf table heard ≡ room → stands_there state.hosts heard ≡ there → is_known conf state.hosts heard ≡ known
        → IsValidState conf (record state { hosts = hosts_after conf heard state.hosts (if not may then NotLearnable else if room then Full else if there then Refreshed else if known then Moved else Learned) })
    by_answer false full there known may_is full_is there_is known_is = was
    by_answer true true there known may_is full_is there_is known_is = was
    by_answer true false true known may_is full_is there_is known_is = refreshed_valid was
    by_answer true false false true may_is full_is there_is known_is = added_valid valid was (here_is may_is) (filter (λ host. not (is_heard conf heard host)) state.hosts) (moved_room may_is full_is there_is known_is)
    by_answer true false false false may_is full_is there_is known_is = added_valid valid was (here_is may_is) state.hosts (new_room may_is full_is there_is known_is)

  pub learned_is_valid : (limit : ℕ) → IsValid conf → limit ≤ most_hosts → IsValidState conf state → is_running state.running heard.dp ≡ true → is_up state.ups heard.dp heard.port ≡ true
      → IsValidState conf (record state { hosts = (learned conf (record { limit = limit; hosts = state.hosts }) heard).hosts })
  learned_is_valid limit valid within was runs up =
      let table : Table = record { limit = limit; hosts = state.hosts } in
      by_answer limit valid within was runs up (is_learnable conf state.hosts heard) (is_full conf table heard) (stands_there state.hosts heard) (is_known conf state.hosts heard) refl refl refl refl

pub learned_valid : (conf : Configuration) (state : State) (limit : ℕ) (heard : HostRec) → IsValid conf → limit ≤ most_hosts → IsValidState conf state → is_running state.running heard.dp ≡ true → is_up state.ups heard.dp heard.port ≡ true
    → IsValidState conf (record state { hosts = (learned conf (record { limit = limit; hosts = state.hosts }) heard).hosts })
learned_valid conf state limit heard = learned_is_valid conf state heard limit
