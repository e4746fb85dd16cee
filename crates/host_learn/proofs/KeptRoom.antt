-- What finds room passes no limit.
use Rattle.std.proofs.Common.{◌≡◌, ℕ, ◌<◌, ◌≤◌, ◌==◌, ◌&&◌, ◌++◌, Bool, true, false, cond, Option, Some, List, [], ◌∷◌, length, not, nat_le, count_by, inl, inr, refl, sym, ap, ◌∙◌, arith, subst, if◌then◌else◌}
use Rattle.std.specs.List.{AllByRecursion, list_any}
use Rattle.std.specs.Option.{option_map_or}
use Rattle.std.proofs.lemmas.Bool.{cases_Bool, and_parts, and_from, both_ways, eqb-true, eq-eqb, false≢true}
use Rattle.net_base.specs.declared.numbers.DpId.{DpId}
use Rattle.conf_types.specs.declared.datapath.Dp.{Dp}
use Rattle.conf_types.specs.declared.datapath.Port.{Port}
use Rattle.conf_types.specs.declared.state.HostRec.{HostRec}
use Rattle.conf_types.specs.declared.vlan.Vlan.{Vlan}
use Rattle.conf_types.specs.Configuration.{Configuration, port_at, vlan_with}
use Rattle.conf_types.specs.Groups.{group_of}
use Rattle.conf_types.specs.Lists.{EachBefore}
use Rattle.conf_types.specs.State.{is_host_at, is_host_in, is_permanent, is_port_full, is_vlan_full}
use Rattle.conf_types.proofs.Reached.{same_id}
use Rattle.host_learn.specs.Kept.{finds_room, with_room}
use Rattle.host_learn.specs.Learning.{is_full_at, is_full_in, is_occupied}
use Rattle.host_list.proofs.Lists.{all_map, before_push, count_push, none_passes}
use Rattle.host_learn.proofs.Sizes.{less}

pub not_true : (b : Bool) → not b ≡ true → b ≡ false
not_true true is = absurd (false≢true is)
not_true false is = refl

never : (P : HostRec → Type 0) (hosts : List HostRec) → AllByRecursion (λ a. false ≡ true → P a) hosts
never P [] = tt
never P (host ∷ hosts) = (λ e. absurd (false≢true e), never P hosts)

-- what holds of no hosts, and of one more that finds room, holds of all that find room
pub room_keeps : (conf : Configuration) (limit : ℕ) (P : List HostRec → Type 0) → ((kept : List HostRec) (host : HostRec) → P kept → finds_room conf limit kept host ≡ true → P (kept ++ host ∷ []))
    → (kept hosts : List HostRec) → P kept → P (with_room conf limit kept hosts)
room_keeps conf limit P step kept [] here = here
room_keeps conf limit P step kept (host ∷ hosts) here =
    elim (cases_Bool (finds_room conf limit kept host)) [
      | inl room ↦ subst (λ b. P (with_room conf limit (if b then kept ++ host ∷ [] else kept) hosts)) (sym room) (room_keeps conf limit P step (kept ++ host ∷ []) hosts (step kept host here room))
      | inr none ↦ subst (λ b. P (with_room conf limit (if b then kept ++ host ∷ [] else kept) hosts)) (sym none) (room_keeps conf limit P step kept hosts here)
    ]

-- the parts of having room
record Room (conf : Configuration) (kept : List HostRec) (host : HostRec) : Type 0 where
  port : not (is_full_at conf kept host) ≡ true
  vlan : not (is_full_in conf kept host) ≡ true
  free : not (is_permanent conf host && is_occupied kept host) ≡ true

room_of : (conf : Configuration) (limit : ℕ) (kept : List HostRec) (host : HostRec) → finds_room conf limit kept host ≡ true → Room conf kept host
room_of conf limit kept host room =
    let a : Bool = not (is_full_at conf kept host) in
    let b : Bool = not (is_full_in conf kept host) in
    let c : Bool = not (nat_le limit (length kept)) in
    let d : Bool = not (is_permanent conf host && is_occupied kept host) in
    let last = and_parts (a && b && c) d room in
    let first = and_parts a b (and_parts (a && b) c last.0).0 in
    record { port = first.0; vlan = first.1; free = last.1 }

-- a count with one more stays within what it may be, where there is room for those that count
pub counted : (test : HostRec → Bool) (most : ℕ) (kept : List HostRec) (host : HostRec) → count_by test kept ≤ most → (test host ≡ true → count_by test kept < most) → count_by test (kept ++ host ∷ []) ≤ most
counted test most kept host within room =
    elim (cases_Bool (test host)) [
      | inl counts ↦ let one : ◌≡◌ {A = ℕ} (cond (test host) 1 0) 1 = ap (λ b. cond b 1 0) counts in omega (arith, count_push test kept host, room counts, one)
      | inr other ↦ let none : ◌≡◌ {A = ℕ} (cond (test host) 1 0) 0 = ap (λ b. cond b 1 0) other in omega (arith, count_push test kept host, none)
    ]

-- ---- a port

room_at : (conf : Configuration) (kept : List HostRec) (host : HostRec) (p : Port) → port_at conf host.dp host.port ≡ Some p → not (is_full_at conf kept host) ≡ true → count_by (is_host_at host.dp p.no) kept < p.max_hosts
room_at conf kept host p is room =
    less p.max_hosts (count_by (is_host_at host.dp p.no) kept) (subst (λ (o : Option Port). not (option_map_or (λ p. is_port_full kept host.dp p) o false) ≡ true) is room)

-- where its port isn't full there is room for the host
pub port_room : (conf : Configuration) (d : Dp) (p : Port) → port_at conf d.id p.no ≡ Some p → (kept : List HostRec) (host : HostRec) → not (is_full_at conf kept host) ≡ true → is_host_at d.id p.no host ≡ true
    → count_by (is_host_at d.id p.no) kept < p.max_hosts
port_room conf d p is kept host room at =
    let both = and_parts (host.dp.0 == d.id.0) (host.port == p.no) at in
    let dp : host.dp ≡ d.id = same_id host.dp d.id (eqb-true host.dp.0 d.id.0 both.0) in
    let here : port_at conf host.dp host.port ≡ Some p = ap (λ id. port_at conf id host.port) dp ∙ ap (port_at conf d.id) (eqb-true host.port p.no both.1) ∙ is in
    subst (λ (id : DpId). count_by (is_host_at id p.no) kept < p.max_hosts) dp (room_at conf kept host p here room)

-- ---- a VLAN in a group

room_in : (conf : Configuration) (kept : List HostRec) (host : HostRec) (v : Vlan) → vlan_with conf.vlans host.vid ≡ Some v → not (is_full_in conf kept host) ≡ true → count_by (is_host_in conf (group_of conf host.dp) v.vid) kept < v.max_hosts
room_in conf kept host v is room =
    less v.max_hosts (count_by (is_host_in conf (group_of conf host.dp) v.vid) kept) (subst (λ (o : Option Vlan). not (option_map_or (λ v. is_vlan_full conf kept (group_of conf host.dp) v) o false) ≡ true) is room)

-- where its VLAN isn't full there is room for the host
pub vlan_room : (conf : Configuration) (group : DpId) (v : Vlan) → vlan_with conf.vlans v.vid ≡ Some v → (kept : List HostRec) (host : HostRec) → not (is_full_in conf kept host) ≡ true → is_host_in conf group v.vid host ≡ true
    → count_by (is_host_in conf group v.vid) kept < v.max_hosts
vlan_room conf group v is kept host room at =
    let both = and_parts ((group_of conf host.dp).0 == group.0) (host.vid == v.vid) at in
    let same : group_of conf host.dp ≡ group = same_id (group_of conf host.dp) group (eqb-true (group_of conf host.dp).0 group.0 both.0) in
    let here : vlan_with conf.vlans host.vid ≡ Some v = ap (vlan_with conf.vlans) (eqb-true host.vid v.vid both.1) ∙ is in
    subst (λ (id : DpId). count_by (is_host_in conf id v.vid) kept < v.max_hosts) same (room_in conf kept host v here room)

-- ---- a port that keeps its first host

abbrev pub KeepsFirst : Configuration → HostRec → HostRec → Type 0
KeepsFirst conf a b = is_permanent conf a ≡ true → is_host_at a.dp a.port b ≡ true → a.vid ≡ b.vid → ⊥

none_there : (b : Bool) (test : HostRec → Bool) (hosts : List HostRec) → not (b && list_any test hosts) ≡ true → AllByRecursion (λ a. b ≡ true → test a ≡ false) hosts
none_there true test hosts free =
    all_map (λ a. test a ≡ false) (λ a. true ≡ true → test a ≡ false) (λ a fails same. fails) hosts (none_passes test hosts (not_true (list_any test hosts) free))
none_there false test hosts free = never (λ a. test a ≡ false) hosts

-- where a host finds its port free none keeps it off
pub free_for : (conf : Configuration) (kept : List HostRec) (host : HostRec) → not (is_permanent conf host && is_occupied kept host) ≡ true → AllByRecursion (λ a. KeepsFirst conf a host) kept
free_for conf kept host free =
    all_map
    (λ a. is_permanent conf host ≡ true → (is_host_at host.dp host.port a && a.vid == host.vid) ≡ false) (λ a. KeepsFirst conf a host)
    (λ a none permanent at vlan.
    let both = and_parts (host.dp.0 == a.dp.0) (host.port == a.port) at in
    let dp : host.dp ≡ a.dp = same_id host.dp a.dp (eqb-true host.dp.0 a.dp.0 both.0) in
    let port : host.port ≡ a.port = eqb-true host.port a.port both.1 in
    let keeps : is_permanent conf host ≡ true = ap (λ (o : Option Port). option_map_or (λ p. p.permanent_learn) o false) (ap (λ id. port_at conf id host.port) dp ∙ ap (port_at conf a.dp) port) ∙ permanent in
    let there : (is_host_at host.dp host.port a && a.vid == host.vid) ≡ true =
    and_from (is_host_at host.dp host.port a) (a.vid == host.vid) (and_from (a.dp.0 == host.dp.0) (a.port == host.port) (eq-eqb a.dp.0 host.dp.0 (ap (λ (id : DpId). id.0) (sym dp))) (eq-eqb a.port host.port (sym port))) (eq-eqb a.vid host.vid vlan) in
    both_ways (is_host_at host.dp host.port a && a.vid == host.vid) (none keeps) there)
    kept (none_there (is_permanent conf host) (λ a. is_host_at host.dp host.port a && a.vid == host.vid) kept free)

-- ---- what finds room

module _ (conf : Configuration) (limit : ℕ) where
  pub port_within : (d : Dp) (p : Port) → port_at conf d.id p.no ≡ Some p → (hosts : List HostRec) → count_by (is_host_at d.id p.no) (with_room conf limit [] hosts) ≤ p.max_hosts
  port_within d p is hosts =
      room_keeps conf limit (λ kept. count_by (is_host_at d.id p.no) kept ≤ p.max_hosts)
      (λ kept host within room. counted (is_host_at d.id p.no) p.max_hosts kept host within (port_room conf d p is kept host (room_of conf limit kept host room).port))
      [] hosts (omega arith)

  pub vlan_within : (group : DpId) (v : Vlan) → vlan_with conf.vlans v.vid ≡ Some v → (hosts : List HostRec) → count_by (is_host_in conf group v.vid) (with_room conf limit [] hosts) ≤ v.max_hosts
  vlan_within group v is hosts =
      room_keeps conf limit (λ kept. count_by (is_host_in conf group v.vid) kept ≤ v.max_hosts)
      (λ kept host within room. counted (is_host_in conf group v.vid) v.max_hosts kept host within (vlan_room conf group v is kept host (room_of conf limit kept host room).vlan))
      [] hosts (omega arith)

  pub first_kept : (hosts : List HostRec) → EachBefore (KeepsFirst conf) (with_room conf limit [] hosts)
  first_kept hosts =
      room_keeps conf limit (EachBefore (KeepsFirst conf))
      (λ kept host before room. before_push (KeepsFirst conf) kept host before (free_for conf kept host (room_of conf limit kept host room).free))
      [] hosts tt
