-- What differs between two states is a part of one of them.
use Rattle.std.proofs.Common.{◌≡◌, ℕ, Bool, true, false, ◌==◌, ◌&&◌, List, [], ◌++◌, map, Option, Some, None, refl, sym, ap, ◌∙◌, subst, eqb-true}
use Rattle.std.specs.Prelude.{Contains}
use Rattle.std.specs.List.{find, list_any}
use Rattle.std.specs.Option.{option_map, option_and_then}
use Rattle.std.proofs.lemmas.Bool.{and_parts}
use Rattle.net_base.specs.declared.address.Mac.{Mac}
use Rattle.net_base.specs.declared.numbers.DpId.{DpId}
use Rattle.conf_types.specs.declared.address.Ip.{Ip}
use Rattle.conf_types.specs.declared.change.Change.{Change}
use Rattle.conf_types.specs.declared.change.Change.TheVariants as change
use Rattle.conf_types.specs.Changes.{host_by, standing, standing_of, mac_of_neighbour, AreNamed}
use Rattle.conf_types.specs.declared.state.HostRec.{HostRec}
use Rattle.conf_types.specs.declared.state.NeighRec.{NeighRec}
use Rattle.conf_types.specs.declared.state.UpRec.{UpRec}
use Rattle.conf_types.specs.Configuration.{Configuration}
use Rattle.conf_types.specs.Families.{is_same_ip}
use Rattle.conf_types.specs.Groups.{group_of}
use Rattle.conf_types.specs.Links.{is_up}
use Rattle.conf_types.specs.Lists.{is_same}
use Rattle.conf_types.specs.State.{State, is_running, is_host_in}
use Rattle.conf_types.proofs.Families.{same_ip}
use Rattle.plan_units.specs.Agrees.{same_bytes}
use Rattle.plan_units.specs.Facts.{found, some_passes}
use Rattle.law_runs.specs.Members.{in_front, behind, in_mapped}
use Rattle.test_plans.specs.Named.{names}

module _ (conf : Configuration) (now : State) where
  abbrev hosts : List Change
  hosts = map (λ (h : HostRec). change.Host (group_of conf h.dp) h.vid h.mac) now.hosts

  abbrev ports : List Change
  ports = map (λ (up : UpRec). change.Port up.dp up.port) now.ups

  abbrev dps : List Change
  dps = map change.Dp now.running

  abbrev neighbours : List Change
  neighbours = map (λ (n : NeighRec). change.Neighbour n.group n.vid n.ip) now.neighbours

  has_host : (group : DpId) (vid : ℕ) (mac : Mac) (h : HostRec) → host_by conf now.hosts group vid mac ≡ Some h → Contains (names conf now) (change.Host group vid mac)
  has_host group vid mac h is =
      let f = found (λ (g : HostRec). is_host_in conf group vid g && is_same g.mac.0 mac.0) now.hosts h is in
      let both = and_parts (is_host_in conf group vid h) (is_same h.mac.0 mac.0) f.passes in
      let place = and_parts ((group_of conf h.dp).0 == group.0) (h.vid == vid) both.0 in
      let groups : (group_of conf h.dp).0 ≡ group.0 = eqb-true (group_of conf h.dp).0 group.0 place.0 in
      let vids : h.vid ≡ vid = eqb-true h.vid vid place.1 in
      let macs : h.mac.0 ≡ mac.0 = same_bytes h.mac.0 mac.0 both.1 in
      subst (λ (c : Change). Contains (names conf now) c) (λ i. change.Host (record { 0 = groups i }) (vids i) (record { 0 = macs i }))
      (in_front hosts (ports ++ (dps ++ neighbours)) (change.Host (group_of conf h.dp) h.vid h.mac) (in_mapped (λ (g : HostRec). change.Host (group_of conf g.dp) g.vid g.mac) now.hosts h f.within))

  has_port : (dp : DpId) (port : ℕ) → is_up now.ups dp port ≡ true → Contains (names conf now) (change.Port dp port)
  has_port dp port is =
      let f = some_passes (λ (up : UpRec). up.dp.0 == dp.0 && up.port == port) now.ups is in
      let up = f.0 in
      let both = and_parts (up.dp.0 == dp.0) (up.port == port) (f.1).passes in
      let ids : up.dp.0 ≡ dp.0 = eqb-true up.dp.0 dp.0 both.0 in
      let numbers : up.port ≡ port = eqb-true up.port port both.1 in
      subst (λ (c : Change). Contains (names conf now) c) (λ i. change.Port (record { 0 = ids i }) (numbers i))
      (behind hosts (ports ++ (dps ++ neighbours)) (change.Port up.dp up.port) (in_front ports (dps ++ neighbours) (change.Port up.dp up.port) (in_mapped (λ (u : UpRec). change.Port u.dp u.port) now.ups up (f.1).within)))

  has_dp : (dp : DpId) → is_running now.running dp ≡ true → Contains (names conf now) (change.Dp dp)
  has_dp dp is =
      let f = some_passes (λ (r : DpId). r.0 == dp.0) now.running is in
      let ids : (f.0).0 ≡ dp.0 = eqb-true (f.0).0 dp.0 (f.1).passes in
      subst (λ (c : Change). Contains (names conf now) c) (λ i. change.Dp (record { 0 = ids i }))
      (behind hosts (ports ++ (dps ++ neighbours)) (change.Dp f.0) (behind ports (dps ++ neighbours) (change.Dp f.0) (in_front dps neighbours (change.Dp f.0) (in_mapped change.Dp now.running f.0 (f.1).within))))

  has_neighbour : (group : DpId) (vid : ℕ) (ip : Ip) (n : NeighRec) → find (λ m. m.group.0 == group.0 && m.vid == vid && is_same_ip m.ip ip) now.neighbours ≡ Some n → Contains (names conf now) (change.Neighbour group vid ip)
  has_neighbour group vid ip n is =
      let f = found (λ (m : NeighRec). m.group.0 == group.0 && m.vid == vid && is_same_ip m.ip ip) now.neighbours n is in
      let last = and_parts (n.group.0 == group.0 && n.vid == vid) (is_same_ip n.ip ip) f.passes in
      let first = and_parts (n.group.0 == group.0) (n.vid == vid) last.0 in
      let groups : n.group.0 ≡ group.0 = eqb-true n.group.0 group.0 first.0 in
      let vids : n.vid ≡ vid = eqb-true n.vid vid first.1 in
      let ips : n.ip ≡ ip = same_ip n.ip ip last.1 in
      subst (λ (c : Change). Contains (names conf now) c) (λ i. change.Neighbour (record { 0 = groups i }) (vids i) (ips i))
      (behind hosts (ports ++ (dps ++ neighbours)) (change.Neighbour n.group n.vid n.ip) (behind ports (dps ++ neighbours) (change.Neighbour n.group n.vid n.ip) (behind dps neighbours (change.Neighbour n.group n.vid n.ip)
      (in_mapped (λ (m : NeighRec). change.Neighbour m.group m.vid m.ip) now.neighbours n f.within))))

module _ (conf : Configuration) (old new : State) where
  abbrev both_names : List Change
  both_names = names conf old ++ names conf new

  of_old : (c : Change) → Contains (names conf old) c → Contains both_names c
  of_old c here = in_front (names conf old) (names conf new) c here

  of_new : (c : Change) → Contains (names conf new) c → Contains both_names c
  of_new c here = behind (names conf old) (names conf new) c here

  host_named : (group : DpId) (vid : ℕ) (mac : Mac) → (standing_of conf old group vid mac ≡ standing_of conf new group vid mac → ⊥) → Contains both_names (change.Host group vid mac)
  host_named group vid mac differ = by (host_by conf old.hosts group vid mac) (host_by conf new.hosts group vid mac) refl refl
    where
      by : (o p : Option HostRec) → host_by conf old.hosts group vid mac ≡ o → host_by conf new.hosts group vid mac ≡ p → Contains both_names (change.Host group vid mac)
      by (Some h) p stood stands = of_old (change.Host group vid mac) (has_host conf old group vid mac h stood)
      by None (Some h) stood stands = of_new (change.Host group vid mac) (has_host conf new group vid mac h stands)
      by None None stood stands = absurd (differ (ap (option_map (standing conf old)) stood ∙ sym (ap (option_map (standing conf new)) stands)))

  port_named : (dp : DpId) (port : ℕ) → (is_up old.ups dp port ≡ is_up new.ups dp port → ⊥) → Contains both_names (change.Port dp port)
  port_named dp port differ = by (is_up old.ups dp port) (is_up new.ups dp port) refl refl
    where
      by : (b c : Bool) → is_up old.ups dp port ≡ b → is_up new.ups dp port ≡ c → Contains both_names (change.Port dp port)
      by true c was is = of_old (change.Port dp port) (has_port conf old dp port was)
      by false true was is = of_new (change.Port dp port) (has_port conf new dp port is)
      by false false was is = absurd (differ (was ∙ sym is))

  dp_named : (dp : DpId) → (is_running old.running dp ≡ is_running new.running dp → ⊥) → Contains both_names (change.Dp dp)
  dp_named dp differ = by (is_running old.running dp) (is_running new.running dp) refl refl
    where
      by : (b c : Bool) → is_running old.running dp ≡ b → is_running new.running dp ≡ c → Contains both_names (change.Dp dp)
      by true c was is = of_old (change.Dp dp) (has_dp conf old dp was)
      by false true was is = of_new (change.Dp dp) (has_dp conf new dp is)
      by false false was is = absurd (differ (was ∙ sym is))

  neighbour_named : (group : DpId) (vid : ℕ) (ip : Ip) → (mac_of_neighbour old.neighbours group vid ip ≡ mac_of_neighbour new.neighbours group vid ip → ⊥) → Contains both_names (change.Neighbour group vid ip)
  neighbour_named group vid ip differ = by (find asked old.neighbours) (find asked new.neighbours) refl refl
    where
      asked : NeighRec → Bool
      asked = λ n. n.group.0 == group.0 && n.vid == vid && is_same_ip n.ip ip

      by : (o p : Option NeighRec) → find asked old.neighbours ≡ o → find asked new.neighbours ≡ p → Contains both_names (change.Neighbour group vid ip)
      by (Some n) p was is = of_old (change.Neighbour group vid ip) (has_neighbour conf old group vid ip n was)
      by None (Some n) was is = of_new (change.Neighbour group vid ip) (has_neighbour conf new group vid ip n is)
      by None None was is = absurd (differ (ap (option_and_then (λ (n : NeighRec). n.mac)) was ∙ sym (ap (option_and_then (λ (n : NeighRec). n.mac)) is)))

  pub all_are_named : AreNamed conf old new both_names
  all_are_named = record { hosts = host_named; ports = port_named; dps = dp_named; neighbours = neighbour_named }
