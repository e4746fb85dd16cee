-- A part of the hosts is valid.
use Rattle.std.proofs.Common.{◌≡◌, ◌≤◌, Bool, true, List, filter, count_by, arith, is_some, IsTrue}
use Rattle.std.specs.List.{AllByRecursion}
use Rattle.net_base.specs.declared.numbers.DpId.{DpId}
use Rattle.conf_types.specs.declared.datapath.Dp.{Dp}
use Rattle.conf_types.specs.declared.datapath.Port.{Port}
use Rattle.conf_types.specs.declared.state.HostRec.{HostRec}
use Rattle.conf_types.specs.declared.state.UpRec.{UpRec}
use Rattle.conf_types.specs.declared.vlan.Vlan.{Vlan}
use Rattle.conf_types.specs.Configuration.{Configuration, port_at}
use Rattle.conf_types.specs.Groups.{IsDp, group_of}
use Rattle.conf_types.specs.Links.{is_up}
use Rattle.conf_types.specs.State.{State, IsHost, IsNeighbour, IsSameHost, IsValidState, is_host_at, is_host_in, is_running}
use Rattle.host_learn.proofs.KeptRoom.{KeepsFirst}
use Rattle.host_list.proofs.Lists.{all_both, all_map, all_part, before_part, count_part, filter_all, filter_part}
use Rattle.host_learn.proofs.Sizes.{fewer}

pub part_valid : (conf : Configuration) (state : State) (running : List DpId) (ups : List UpRec) (test : HostRec → Bool) → IsValidState conf state
    → AllByRecursion (IsDp conf) running → AllByRecursion (λ (up : UpRec). IsTrue (is_some (port_at conf up.dp up.port))) ups
    → AllByRecursion (IsNeighbour conf (record state { running = running })) state.neighbours
    → ((h : HostRec) → test h ≡ true → is_running running h.dp ≡ true)
    → ((h : HostRec) → test h ≡ true → is_up ups h.dp h.port ≡ true)
    → IsValidState conf (record state { running = running; ups = ups; hosts = filter test state.hosts })
part_valid conf state running ups test was dps ports neighbours runs up =
    let left = filter test state.hosts in
    let next : State = record state { running = running; ups = ups; hosts = left } in
    let part = filter_part test state.hosts in
    record {
      running = dps;
      ups = ports;
      hosts =
          all_map (λ host. IsHost conf state host × (test host ≡ true)) (IsHost conf next)
          (λ host both. record { runs = runs host both.1; up = up host both.1; place = both.0.place; individual = both.0.individual; no_gateway = both.0.no_gateway }) left
          (all_both (IsHost conf state) (λ host. test host ≡ true) left (all_part (IsHost conf state) left state.hosts was.hosts part) (filter_all test state.hosts));
      host_keys = before_part (λ a b. IsSameHost conf a b → ⊥) left state.hosts was.host_keys part;
      permanent = before_part (KeepsFirst conf) left state.hosts was.permanent part;
      ports =
          all_map (λ (d : Dp). AllByRecursion (λ (p : Port). count_by (is_host_at d.id p.no) state.hosts ≤ p.max_hosts) d.ports) (λ (d : Dp). AllByRecursion (λ (p : Port). count_by (is_host_at d.id p.no) left ≤ p.max_hosts) d.ports)
          (λ d. all_map (λ (p : Port). count_by (is_host_at d.id p.no) state.hosts ≤ p.max_hosts) (λ (p : Port). count_by (is_host_at d.id p.no) left ≤ p.max_hosts)
          (λ p within. omega (arith, count_part (is_host_at d.id p.no) left state.hosts part, within)) d.ports) conf.dps was.ports;
      vlans =
          all_map (λ (d : Dp). AllByRecursion (λ (v : Vlan). count_by (is_host_in conf (group_of conf d.id) v.vid) state.hosts ≤ v.max_hosts) conf.vlans) (λ (d : Dp). AllByRecursion (λ (v : Vlan). count_by (is_host_in conf (group_of conf d.id) v.vid) left ≤ v.max_hosts) conf.vlans)
          (λ d. all_map (λ (v : Vlan). count_by (is_host_in conf (group_of conf d.id) v.vid) state.hosts ≤ v.max_hosts) (λ (v : Vlan). count_by (is_host_in conf (group_of conf d.id) v.vid) left ≤ v.max_hosts)
          (λ v within. omega (arith, count_part (is_host_in conf (group_of conf d.id) v.vid) left state.hosts part, within)) conf.vlans) conf.dps was.vlans;
      table = omega (arith, fewer test state.hosts, was.table);
      neighbours = all_map (IsNeighbour conf (record state { running = running })) (IsNeighbour conf next) (λ n is. record { address = is.address; runs = is.runs }) state.neighbours neighbours;
      neighbour_keys = was.neighbour_keys;
      neighbour_table = was.neighbour_table;
    }
