-- What is kept is valid.
use Rattle.std.proofs.Common.{◌≡◌, ℕ, ◌<◌, ◌≤◌, ◌&&◌, Bool, true, false, Option, Some, None, List, [], ◌∷◌, length, not, count_by, ap, ◌∙◌, arith, IsTrue, IsSomeAnd}
use Rattle.std.specs.List.{AllByRecursion}
use Rattle.std.specs.Option.{option_and_then, option_map_or}
use Rattle.std.proofs.lemmas.Bool.{and_parts}
use Rattle.net_base.specs.Address.{is_group}
use Rattle.conf_types.specs.declared.datapath.Dp.{Dp}
use Rattle.conf_types.specs.declared.datapath.Port.{Port}
use Rattle.conf_types.specs.declared.state.HostRec.{HostRec}
use Rattle.conf_types.specs.declared.vlan.Vlan.{Vlan}
use Rattle.conf_types.specs.Configuration.{Configuration, dp_with, port_with, port_at, vlan_with}
use Rattle.conf_types.specs.Groups.{group_of}
use Rattle.conf_types.specs.Links.{is_up}
use Rattle.conf_types.specs.Lists.{EachBefore}
use Rattle.conf_types.specs.Membership.{is_accepting, is_edge_member}
use Rattle.conf_types.specs.State.{State, IsHost, IsNeighbour, IsValidState, is_gateway_address, is_host_at, is_host_in, is_running, is_to_forget, most_hosts}
use Rattle.conf_types.specs.Valid.{IsValid, IsDatapath}
use Rattle.host_learn.specs.Kept.{kept_hosts, last_of_each, may_stay}
use Rattle.host_learn.specs.Learning.{is_host, takes_in}
use Rattle.host_learn.specs.Table.{Table}
use Rattle.host_learn.proofs.KeptParts.{kept_apart, kept_stays, staying}
use Rattle.host_learn.proofs.KeptRoom.{first_kept, not_true, port_within, vlan_within}
use Rattle.host_list.proofs.Lists.{all_both, all_map, each_found}
use Rattle.host_learn.proofs.Sizes.{room_within}

-- each item stands apart from those behind it in more than one way
before_map : {A : Type 0} (R S : A → A → Type 0) → ((x y : A) → R x y → S x y) → (xs : List A) → EachBefore R xs → EachBefore S xs
before_map R S f [] before = tt
before_map R S f (x ∷ xs) before = (all_map (R x) (S x) (f x) xs before.0, before_map R S f xs before.1)

module _ (conf : Configuration) (valid : IsValid conf) where
  below_apart : (a b : ℕ) → a < b → a ≡ b → ⊥
  below_apart a b less same = omega arith

  -- each interface and each VLAN is the one with its number
  pub ports_found : AllByRecursion (λ (d : Dp). AllByRecursion (λ (p : Port). port_at conf d.id p.no ≡ Some p) d.ports) conf.dps
  ports_found =
      all_map (λ (d : Dp). IsDatapath conf d × (dp_with conf.dps d.id ≡ Some d)) (λ (d : Dp). AllByRecursion (λ (p : Port). port_at conf d.id p.no ≡ Some p) d.ports)
      (λ d both. all_map (λ (p : Port). port_with d.ports p.no ≡ Some p) (λ (p : Port). port_at conf d.id p.no ≡ Some p)
      (λ p found. ap (λ (o : Option Dp). option_and_then (λ d. port_with d.ports p.no) o) both.1 ∙ found) d.ports
      (each_found (λ (p : Port). p.no) d.ports (before_map (λ (p : Port) (q : Port). p.no < q.no) (λ (p : Port) (q : Port). p.no ≡ q.no → ⊥) (λ p q. below_apart p.no q.no) d.ports both.0.in_order)))
      conf.dps (all_both (IsDatapath conf) (λ (d : Dp). dp_with conf.dps d.id ≡ Some d) conf.dps valid.datapaths.each (each_found (λ (d : Dp). d.id.0) conf.dps valid.datapaths.ids))

  pub vlans_found : AllByRecursion (λ (v : Vlan). vlan_with conf.vlans v.vid ≡ Some v) conf.vlans
  vlans_found =
      each_found (λ (v : Vlan). v.vid) conf.vlans (before_map (λ (v : Vlan) (w : Vlan). v.vid < w.vid) (λ (v : Vlan) (w : Vlan). v.vid ≡ w.vid → ⊥) (λ v w. below_apart v.vid w.vid) conf.vlans valid.vlans.in_order)

all_of : {A : Type 0} (P : A → Type 0) → ((x : A) → P x) → (xs : List A) → AllByRecursion P xs
all_of P f [] = tt
all_of P f (x ∷ xs) = (f x, all_of P f xs)

taken_in : (o : Option Port) (test : Port → Bool) → option_map_or test o false ≡ true → IsSomeAnd o (λ p. IsTrue (test p))
taken_in None test is = absurd (cc)
taken_in (Some p) test is = is

-- a host that may be learned where it stands, where that is up on a datapath that runs
pub stands : (conf : Configuration) (state : State) (host : HostRec) → is_running state.running host.dp ≡ true → is_up state.ups host.dp host.port ≡ true → is_host conf host ≡ true → IsHost conf state host
stands conf state host runs up is =
    let place = and_parts (takes_in conf host && not (is_group host.mac)) (not (is_gateway_address conf host.mac.0)) is in
    let station = and_parts (takes_in conf host) (not (is_group host.mac)) place.0 in
    record {
      runs = runs;
      up = up;
      place = taken_in (port_at conf host.dp host.port) (λ p. is_accepting p && is_edge_member p host.vid) station.0;
      individual = not_true (is_group host.mac) station.1;
      no_gateway = not_true (is_gateway_address conf host.mac.0) place.1;
    }

host_is : (conf : Configuration) (state : State) (moment : ℕ) (host : HostRec) → is_running state.running host.dp ≡ true → may_stay conf state.ups moment host ≡ true → IsHost conf state host
host_is conf state moment host runs stays =
    let up = is_up state.ups host.dp host.port in
    let two = and_parts (is_host conf host && up) (not (is_to_forget conf moment host)) stays in
    let one = and_parts (is_host conf host) up two.0 in
    stands conf state host runs one.1 one.0

pub kept_valid : (conf : Configuration) (state : State) (moment : ℕ) (table : Table) → IsValid conf → table.limit ≤ most_hosts → IsValidState conf (record state { hosts = [] })
    → AllByRecursion (λ host. is_running state.running host.dp ≡ true) (kept_hosts conf state.ups moment table) → IsValidState conf (record state { hosts = kept_hosts conf state.ups moment table })
kept_valid conf state moment table valid limit empty running =
    let kept = kept_hosts conf state.ups moment table in
    let last = last_of_each conf (staying conf state.ups moment table) in
    record {
      running = empty.running;
      ups = empty.ups;
      hosts =
          all_map (λ host. (is_running state.running host.dp ≡ true) × (may_stay conf state.ups moment host ≡ true)) (IsHost conf (record state { hosts = kept }))
          (λ host both. host_is conf (record state { hosts = kept }) moment host both.0 both.1) kept
          (all_both (λ host. is_running state.running host.dp ≡ true) (λ host. may_stay conf state.ups moment host ≡ true) kept running (kept_stays conf state.ups moment table));
      host_keys = kept_apart conf state.ups moment table;
      permanent = first_kept conf table.limit last;
      ports =
          all_map (λ (d : Dp). AllByRecursion (λ (p : Port). port_at conf d.id p.no ≡ Some p) d.ports) (λ (d : Dp). AllByRecursion (λ (p : Port). count_by (is_host_at d.id p.no) kept ≤ p.max_hosts) d.ports)
          (λ d found. all_map (λ (p : Port). port_at conf d.id p.no ≡ Some p) (λ (p : Port). count_by (is_host_at d.id p.no) kept ≤ p.max_hosts) (λ p is. port_within conf table.limit d p is last) d.ports found) conf.dps (ports_found conf valid);
      vlans =
          all_of (λ (d : Dp). AllByRecursion (λ (v : Vlan). count_by (is_host_in conf (group_of conf d.id) v.vid) kept ≤ v.max_hosts) conf.vlans)
          (λ d. all_map (λ (v : Vlan). vlan_with conf.vlans v.vid ≡ Some v) (λ (v : Vlan). count_by (is_host_in conf (group_of conf d.id) v.vid) kept ≤ v.max_hosts) (λ v is. vlan_within conf table.limit (group_of conf d.id) v is last) conf.vlans (vlans_found conf valid)) conf.dps;
      table = let within : length kept ≤ table.limit = room_within conf table.limit [] last (omega arith) in omega arith;
      neighbours =
          all_map (IsNeighbour conf (record state { hosts = [] })) (IsNeighbour conf (record state { hosts = kept })) (λ n is. record { address = is.address; runs = is.runs }) state.neighbours empty.neighbours;
      neighbour_keys = empty.neighbour_keys;
      neighbour_table = empty.neighbour_table;
    }
