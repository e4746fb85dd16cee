-- What is compared behind a step names nothing but what differs.
use Rattle.std.proofs.Common.{◌≡◌, zero, suc, ◌==◌, ◌&&◌, Bool, true, false, not, List, [], ◌∷◌, ◌++◌, filter, is_some, Option, Some, None, refl, sym, ap, ◌∙◌, subst, eqb-true, eq-eqb, true≢false, arith}
use Rattle.std.specs.Prelude.{Contains}
use Rattle.std.specs.List.{AllByRecursion, list_any}
use Rattle.std.specs.Option.{option_and_then, option_eq, option_map, option_map_or}
use Rattle.std.proofs.lemmas.Bool.{and_from, and_parts, or_left, or_right}
use Rattle.net_base.specs.declared.address.Mac.{Mac}
use Rattle.net_base.specs.declared.numbers.DpId.{DpId}
use Rattle.conf_types.specs.declared.change.Change.{Change}
use Rattle.conf_types.specs.declared.change.Change.TheVariants as change
use Rattle.conf_types.specs.declared.state.HostRec.{HostRec}
use Rattle.conf_types.specs.declared.state.NeighRec.{NeighRec}
use Rattle.conf_types.specs.declared.state.UpRec.{UpRec}
use Rattle.conf_types.specs.Changes.{host_by, mac_of_neighbour, standing, standing_of}
use Rattle.conf_types.specs.Configuration.{Configuration}
use Rattle.conf_types.specs.Families.{is_same_ip}
use Rattle.conf_types.specs.Groups.{group_of}
use Rattle.conf_types.specs.Links.{is_up}
use Rattle.conf_types.specs.Lists.{EachBefore}
use Rattle.conf_types.specs.State.{IsSameNeighbour, IsValidState, State, is_running}
use Rattle.conf_types.proofs.Families.{is_that_ip, same_ip}
use Rattle.law_runs.specs.Members.{all_by, all_filtered, all_joined, all_mapped}
use Rattle.law_units.proofs.Hosts.{is_found, own}
use Rattle.plan_units.specs.Agrees.{equal_bytes}
use Rattle.plan_units.specs.Facts.{apart_or_one}
use Rattle.law_names.specs.Differing.{differs, host, is_one_address, is_one_place, neighbour}
use Rattle.law_names.proofs.Joined.{one_address, one_by}
use Rattle.law_names.proofs.Neighbours as neighbours
use Rattle.ctl_settle.specs.Names.{is_other}
use Rattle.ctl_core.specs.Behind.{behind, dps_behind, dps_left, hosts_behind, hosts_left, is_still, is_unlike, learned_behind, neighbours_left, ports_left, stands_at}
use Rattle.ctl_core.proofs.Behind.{no_longer}

not_left : (b : Bool) → not b ≡ true → b ≡ false
not_left true is = absurd (true≢false (sym is))
not_left false is = refl

-- a member that passes makes any pass
pub any_member : {A : Type 0} (test : A → Bool) (xs : List A) (x : A) → Contains xs x → test x ≡ true → list_any test xs ≡ true
any_member test [] x (k, lt, is) passes = absurd (omega (arith, lt))
any_member test (y ∷ ys) x (zero, lt, is) passes = or_left (test y) (list_any test ys) (ap test is ∙ passes)
any_member test (y ∷ ys) x (suc k, lt, is) passes = or_right (test y) (list_any test ys) (any_member test ys x (k, omega (arith, lt), is) passes)

-- one answer alone
alone : (a b : Bool) → a ≡ true → b ≡ false → is_other a b ≡ true
alone true false a b = refl
alone false b a c = absurd (true≢false (sym a))
alone true true a b = absurd (true≢false b)

alone_too : (a b : Bool) → b ≡ true → a ≡ false → is_other a b ≡ true
alone_too false true b a = refl
alone_too true b c a = absurd (true≢false a)
alone_too false false b a = absurd (true≢false (sym b))

its_place : (ups : List UpRec) (up : UpRec) → Contains ups up → is_up ups up.dp up.port ≡ true
its_place ups up within =
    any_member (λ (u : UpRec). u.dp.0 == up.dp.0 && u.port == up.port) ups up within (and_from (up.dp.0 == up.dp.0) (up.port == up.port) (eq-eqb up.dp.0 up.dp.0 refl) (eq-eqb up.port up.port refl))

-- a neighbour is the one of its key
pub own_mac : (ns : List NeighRec) → EachBefore (λ a b. IsSameNeighbour a b → ⊥) ns → (n : NeighRec) → Contains ns n → mac_of_neighbour ns n.group n.vid n.ip ≡ n.mac
own_mac ns apart n within =
    ap (λ (o : Option NeighRec). option_and_then (λ (m : NeighRec). m.mac) o)
    (is_found (neighbours.key n.group n.vid n.ip) ns n within
    (and_from _ _ (and_from _ _ (eq-eqb n.group.0 n.group.0 refl) (eq-eqb n.vid n.vid refl)) (is_that_ip n.ip n.ip refl))
    (λ m cm is.
    let outer = and_parts (m.group.0 == n.group.0 && m.vid == n.vid) (is_same_ip m.ip n.ip) is in
    let inner = and_parts (m.group.0 == n.group.0) (m.vid == n.vid) outer.0 in
    let same : IsSameNeighbour m n = record { groups = eqb-true m.group.0 n.group.0 inner.0; vlans = eqb-true m.vid n.vid inner.1; ips = same_ip m.ip n.ip outer.1 } in
    apart_or_one (λ (a b : NeighRec). IsSameNeighbour a b → ⊥) ns apart m n cm within (λ ne. ne same)
    (λ ne. ne (record { groups = sym same.groups; vlans = sym same.vlans; ips = sym same.ips }))))

pub mac_itself : (a : Option Mac) → option_eq is_one_address a a ≡ true
mac_itself None = refl
mac_itself (Some m) = equal_bytes m.0 m.0 refl

-- what isn't the same isn't so the other way round
turned_about : (a b : Option Mac) → not (option_eq is_one_address a b) ≡ true → not (option_eq is_one_address b a) ≡ true
turned_about a b is =
    no_longer (option_eq is_one_address b a)
    (λ same. one_by is_one_address one_address b a same)
    (λ e. true≢false (sym (subst (λ (o : Option Mac). option_eq is_one_address a o ≡ true) (sym e) (mac_itself a)) ∙ not_left (option_eq is_one_address a b) is))

module _ (conf : Configuration) (from to : State) where
  abbrev Differs : Change → Type 0
  Differs c = differs conf from to c ≡ true

  -- ---- hosts

  other_place : (h : HostRec) (o : Option HostRec) → option_map_or (λ x. is_one_place (stands_at conf from.moment h) (stands_at conf to.moment x)) o false ≡ false
      → option_eq is_one_place (Some (standing conf from h)) (option_map (standing conf to) o) ≡ false
  other_place h None is = refl
  other_place h (Some x) is = is

  host_differs : IsValidState conf from → (h : HostRec) → Contains from.hosts h → not (is_still conf from.moment to.moment to.hosts h) ≡ true → Differs (host conf h)
  host_differs valid h within left =
      let found : host_by conf from.hosts (group_of conf h.dp) h.vid h.mac ≡ Some h = own conf from.hosts valid.host_keys h within in
      ap not (ap (λ (o : Option HostRec). option_eq is_one_place (option_map (standing conf from) o) (standing_of conf to (group_of conf h.dp) h.vid h.mac)) found
      ∙ other_place h (host_by conf to.hosts (group_of conf h.dp) h.vid h.mac) (not_left (is_still conf from.moment to.moment to.hosts h) left))

  hosts_differ : IsValidState conf from → AllByRecursion Differs (hosts_left conf from.moment to.moment from.hosts to.hosts)
  hosts_differ valid =
      let left : HostRec → Bool = λ h. not (is_still conf from.moment to.moment to.hosts h) in
      all_mapped Differs (host conf) (filter left from.hosts)
      (all_filtered (λ (h : HostRec). Differs (host conf h)) left from.hosts (all_by (λ (h : HostRec). left h ≡ true → Differs (host conf h)) from.hosts (λ h within is. host_differs valid h within is)))

  -- ---- datapaths and interfaces

  dps_differ : AllByRecursion Differs (dps_left from.running to.running)
  dps_differ =
      let left : DpId → Bool = λ dp. not (is_running to.running dp) in
      all_mapped Differs (λ (dp : DpId). change.Dp dp) (filter left from.running)
      (all_filtered (λ (dp : DpId). Differs (change.Dp dp)) left from.running (all_by (λ (dp : DpId). left dp ≡ true → Differs (change.Dp dp)) from.running
      (λ dp within is. alone (is_running from.running dp) (is_running to.running dp) (any_member (λ (e : DpId). e.0 == dp.0) from.running dp within (eq-eqb dp.0 dp.0 refl)) (not_left _ is))))

  dps_come : AllByRecursion Differs (dps_left to.running from.running)
  dps_come =
      let left : DpId → Bool = λ dp. not (is_running from.running dp) in
      all_mapped Differs (λ (dp : DpId). change.Dp dp) (filter left to.running)
      (all_filtered (λ (dp : DpId). Differs (change.Dp dp)) left to.running (all_by (λ (dp : DpId). left dp ≡ true → Differs (change.Dp dp)) to.running
      (λ dp within is. alone_too (is_running from.running dp) (is_running to.running dp) (any_member (λ (e : DpId). e.0 == dp.0) to.running dp within (eq-eqb dp.0 dp.0 refl)) (not_left _ is))))

  abbrev port_of : UpRec → Change
  port_of up = change.Port up.dp up.port

  ports_differ : AllByRecursion Differs (ports_left from.ups to.ups)
  ports_differ =
      let left : UpRec → Bool = λ up. not (is_up to.ups up.dp up.port) in
      all_mapped Differs port_of (filter left from.ups)
      (all_filtered (λ (up : UpRec). Differs (port_of up)) left from.ups (all_by (λ (up : UpRec). left up ≡ true → Differs (port_of up)) from.ups
      (λ up within is. alone (is_up from.ups up.dp up.port) (is_up to.ups up.dp up.port) (its_place from.ups up within) (not_left _ is))))

  ports_come : AllByRecursion Differs (ports_left to.ups from.ups)
  ports_come =
      let left : UpRec → Bool = λ up. not (is_up from.ups up.dp up.port) in
      all_mapped Differs port_of (filter left to.ups)
      (all_filtered (λ (up : UpRec). Differs (port_of up)) left to.ups (all_by (λ (up : UpRec). left up ≡ true → Differs (port_of up)) to.ups
      (λ up within is. alone_too (is_up from.ups up.dp up.port) (is_up to.ups up.dp up.port) (its_place to.ups up within) (not_left _ is))))

  -- ---- neighbours

  abbrev mac_in : List NeighRec → NeighRec → Option Mac
  mac_in ns n = mac_of_neighbour ns n.group n.vid n.ip

  neighbours_differ : IsValidState conf from → AllByRecursion Differs (neighbours_left from.neighbours to.neighbours)
  neighbours_differ valid =
      all_mapped Differs neighbour (filter (is_unlike to.neighbours) from.neighbours)
      (all_filtered (λ (n : NeighRec). Differs (neighbour n)) (is_unlike to.neighbours) from.neighbours
      (all_by (λ (n : NeighRec). is_unlike to.neighbours n ≡ true → Differs (neighbour n)) from.neighbours
      (λ n within is. ap (λ (o : Option Mac). not (option_eq is_one_address o (mac_in to.neighbours n))) (own_mac from.neighbours valid.neighbour_keys n within) ∙ (and_parts (is_some n.mac) _ is).1)))

  neighbours_come : IsValidState conf to → AllByRecursion Differs (neighbours_left to.neighbours from.neighbours)
  neighbours_come valid =
      all_mapped Differs neighbour (filter (is_unlike from.neighbours) to.neighbours)
      (all_filtered (λ (n : NeighRec). Differs (neighbour n)) (is_unlike from.neighbours) to.neighbours
      (all_by (λ (n : NeighRec). is_unlike from.neighbours n ≡ true → Differs (neighbour n)) to.neighbours
      (λ n within is.
      ap (λ (o : Option Mac). not (option_eq is_one_address (mac_in from.neighbours n) o)) (own_mac to.neighbours valid.neighbour_keys n within)
      ∙ turned_about n.mac (mac_in from.neighbours n) (and_parts (is_some n.mac) _ is).1)))

  pub behind_differs : IsValidState conf from → IsValidState conf to → AllByRecursion Differs (behind conf from to)
  behind_differs valid valid_too =
      all_joined Differs (dps_behind conf from to ++ ports_left from.ups to.ups) (ports_left to.ups from.ups)
      (all_joined Differs (dps_behind conf from to) (ports_left from.ups to.ups)
      (all_joined Differs (learned_behind conf from to ++ dps_left from.running to.running) (dps_left to.running from.running)
      (all_joined Differs (learned_behind conf from to) (dps_left from.running to.running)
      (all_joined Differs (hosts_behind conf from to ++ neighbours_left from.neighbours to.neighbours) (neighbours_left to.neighbours from.neighbours)
      (all_joined Differs (hosts_behind conf from to) (neighbours_left from.neighbours to.neighbours) (hosts_differ valid) (neighbours_differ valid)) (neighbours_come valid_too))
      dps_differ) dps_come) ports_differ) ports_come
