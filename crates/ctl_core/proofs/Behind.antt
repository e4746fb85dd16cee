-- What is compared behind a step names all that differs, where no host is new.
use Rattle.std.proofs.Common.{◌≡◌, ℕ, ◌==◌, ◌&&◌, ◌||◌, Bool, true, false, cond, not, List, [], ◌∷◌, ◌++◌, map, filter, is_some, Option, Some, None, refl, sym, ap, ◌∙◌, subst, eqb-true, true≢false}
use Rattle.std.specs.Prelude.{Contains}
use Rattle.std.specs.List.{find, list_any}
use Rattle.std.specs.Option.{option_and_then, option_eq, option_map, option_map_or}
use Rattle.std.proofs.lemmas.Bool.{and_from, and_parts}
use Rattle.std.proofs.lemmas.Option.{none-some, same_Some}
use Rattle.conf_types.specs.declared.address.Ip.{Ip}
use Rattle.net_base.specs.declared.address.Mac.{Mac}
use Rattle.net_base.specs.declared.numbers.DpId.{DpId}
use Rattle.conf_types.specs.declared.change.Change.{Change}
use Rattle.conf_types.specs.declared.change.Change.TheVariants as change
use Rattle.conf_types.specs.declared.state.HostRec.{HostRec}
use Rattle.conf_types.specs.declared.state.NeighRec.{NeighRec}
use Rattle.conf_types.specs.declared.state.UpRec.{UpRec}
use Rattle.conf_types.specs.Changes.{AreNamed, host_by, mac_of_neighbour, standing, standing_of}
use Rattle.conf_types.specs.Configuration.{Configuration}
use Rattle.conf_types.specs.Groups.{group_of}
use Rattle.conf_types.specs.Links.{is_up}
use Rattle.conf_types.specs.State.{State, is_running}
use Rattle.law_runs.specs.Members.{behind as further, head_of, in_filtered, in_front, in_mapped, tail_of}
use Rattle.law_names.specs.Differing.{host, is_one_address, is_one_place, neighbour}
use Rattle.law_names.proofs.Hosts as hosts
use Rattle.law_names.proofs.Joined.{one_address, one_by, one_place}
use Rattle.law_names.proofs.Neighbours as neighbours
use Rattle.ctl_core.specs.Behind.{behind, dps_behind, dps_left, hosts_behind, is_still, is_unlike, learned_behind, neighbours_left, ports_left, stands_at}

-- ---- what is found in a list

module _ {A : Type 0} (key : A → Bool) where
  pub record IsFound (xs : List A) (x : A) : Type 0 where
    pub within : Contains xs x
    pub passes : key x ≡ true

  pub found_in : (xs : List A) (x : A) → find key xs ≡ Some x → IsFound xs x
  found_in [] x is = absurd (none-some x is)
  found_in (y ∷ ys) x is = by (key y) refl is (λ e. found_in ys x e)
    where
      by : (b : Bool) → key y ≡ b → cond b (Some y) (find key ys) ≡ Some x → (find key ys ≡ Some x → IsFound ys x) → IsFound (y ∷ ys) x
      by true it e more =
          let same = same_Some y x e in
          record { within = subst (λ z. Contains (y ∷ ys) z) same (head_of y ys); passes = subst (λ z. key z ≡ true) same it }
      by false it e more = let f = more e in record { within = tail_of y ys x f.within; passes = f.passes }

  pub any_is : (xs : List A) → list_any key xs ≡ is_some (find key xs)
  any_is [] = refl
  any_is (x ∷ xs) = elim (key x) as (λ b. (b || list_any key xs) ≡ is_some (cond b (Some x) (find key xs))) [ true ↦ refl | false ↦ any_is xs ]

  -- those that pass a test are named
  module _ (name : A → Change) (test : A → Bool) (c : Change) (is_c : (x : A) → key x ≡ true → name x ≡ c) (passes : (x : A) → key x ≡ true → test x ≡ true) where
    pub named_in : (xs : List A) → list_any key xs ≡ true → Contains (map name (filter test xs)) c
    named_in xs any = by (find key xs) refl (sym (any_is xs) ∙ any)
      where
        by : (o : Option A) → find key xs ≡ o → is_some o ≡ true → Contains (map name (filter test xs)) c
        by None none some = absurd (true≢false (sym some))
        by (Some x) is some =
            let f = found_in xs x is in
            subst (λ d. Contains (map name (filter test xs)) d) (is_c x f.passes) (in_mapped name (filter test xs) x (in_filtered test xs x f.within (passes x f.passes)))

pub no_longer : {P : Type 0} (b : Bool) → (b ≡ true → P) → (P → ⊥) → not b ≡ true
no_longer true equal other = absurd (other (equal refl))
no_longer false equal other = refl

-- ---- hosts

abbrev look_up : Configuration → List HostRec → Change → Option HostRec
look_up conf hs (change.Host group vid mac) = host_by conf hs group vid mac
look_up conf hs c = None

module _ (conf : Configuration) (from to : State) (only : (test : HostRec → Bool) → list_any test to.hosts ≡ true → list_any test from.hosts ≡ true) where
  module _ (group : DpId) (vid : ℕ) (mac : Mac) where
    abbrev c : Change
    c = change.Host group vid mac

    same_place : (h : HostRec) (o : Option HostRec) → option_map_or (λ x. is_one_place (stands_at conf from.moment h) (stands_at conf to.moment x)) o false ≡ true
        → Some (standing conf from h) ≡ option_map (standing conf to) o
    same_place h None is = absurd (true≢false (sym is))
    same_place h (Some x) is = ap Some (one_place (standing conf from h) (standing conf to x) is)

    still : (h : HostRec) → hosts.key conf group vid mac h ≡ true → is_still conf from.moment to.moment to.hosts h ≡ true
        → Some (standing conf from h) ≡ standing_of conf to group vid mac
    still h it is =
        let found : host_by conf to.hosts (group_of conf h.dp) h.vid h.mac ≡ host_by conf to.hosts group vid mac = ap (look_up conf to.hosts) (hosts.key_named conf group vid mac h it) in
        same_place h (host_by conf to.hosts group vid mac)
        (sym (ap (λ (o : Option HostRec). option_map_or (λ x. is_one_place (stands_at conf from.moment h) (stands_at conf to.moment x)) o false) found) ∙ is)

    host_named : (standing_of conf from group vid mac ≡ standing_of conf to group vid mac → ⊥) → Contains (hosts_behind conf from to) c
    host_named other = by (host_by conf from.hosts group vid mac) refl
      where
        gone : host_by conf from.hosts group vid mac ≡ None → (o : Option HostRec) → host_by conf to.hosts group vid mac ≡ o → Contains (hosts_behind conf from to) c
        gone none None too = absurd (other (ap (option_map (standing conf from)) none ∙ sym (ap (option_map (standing conf to)) too)))
        gone none (Some x) there =
            let any = only (hosts.key conf group vid mac) (any_is (hosts.key conf group vid mac) to.hosts ∙ ap is_some there) in
            absurd (true≢false (sym any ∙ any_is (hosts.key conf group vid mac) from.hosts ∙ ap is_some none))

        by : (o : Option HostRec) → host_by conf from.hosts group vid mac ≡ o → Contains (hosts_behind conf from to) c
        by None none = gone none (host_by conf to.hosts group vid mac) refl
        by (Some h) is =
            let f = found_in (hosts.key conf group vid mac) from.hosts h is in
            let left : not (is_still conf from.moment to.moment to.hosts h) ≡ true =
            no_longer (is_still conf from.moment to.moment to.hosts h) (λ stays. still h f.passes stays) (λ same. other (ap (option_map (standing conf from)) is ∙ same)) in
            subst (λ d. Contains (hosts_behind conf from to) d) (hosts.key_named conf group vid mac h f.passes)
            (in_mapped (host conf) (filter (λ g. not (is_still conf from.moment to.moment to.hosts g)) from.hosts) h
            (in_filtered (λ g. not (is_still conf from.moment to.moment to.hosts g)) from.hosts h f.within left))

-- ---- neighbours

abbrev known_mac : List NeighRec → Change → Option Mac
known_mac ns (change.Neighbour group vid ip) = mac_of_neighbour ns group vid ip
known_mac ns c = None

module _ (group : DpId) (vid : ℕ) (ip : Ip) where
  abbrev neighbour_c : Change
  neighbour_c = change.Neighbour group vid ip

  module _ (from to : List NeighRec) (m : Mac) (is : mac_of_neighbour from group vid ip ≡ Some m) (other : mac_of_neighbour from group vid ip ≡ mac_of_neighbour to group vid ip → ⊥) where
    neighbour_by : (o : Option NeighRec) → find (neighbours.key group vid ip) from ≡ o → option_and_then (λ (n : NeighRec). n.mac) o ≡ Some m → Contains (neighbours_left from to) neighbour_c
    neighbour_by None none e = absurd (none-some m e)
    neighbour_by (Some n) there e =
        let f = found_in (neighbours.key group vid ip) from n there in
        let named = neighbours.key_named group vid ip n f.passes in
        let looked : mac_of_neighbour to n.group n.vid n.ip ≡ mac_of_neighbour to group vid ip = ap (known_mac to) named in
        let left : not (option_eq is_one_address n.mac (mac_of_neighbour to n.group n.vid n.ip)) ≡ true =
        no_longer (option_eq is_one_address n.mac (mac_of_neighbour to n.group n.vid n.ip))
        (λ same. one_by is_one_address one_address n.mac (mac_of_neighbour to n.group n.vid n.ip) same)
        (λ same. other (is ∙ sym e ∙ same ∙ looked)) in
        subst (λ d. Contains (neighbours_left from to) d) named
        (in_mapped neighbour (filter (is_unlike to) from) n (in_filtered (is_unlike to) from n f.within (and_from (is_some n.mac) _ (ap is_some e) left)))

    neighbour_left : Contains (neighbours_left from to) neighbour_c
    neighbour_left = neighbour_by (find (neighbours.key group vid ip) from) refl is

-- ---- datapaths and interfaces

dp_is : (dp id : DpId) → (id.0 == dp.0) ≡ true → id ≡ dp
dp_is dp id is = let same = eqb-true id.0 dp.0 is in λ i. record { 0 = same i }

dp_left : (from to : List DpId) (dp : DpId) → is_running from dp ≡ true → is_running to dp ≡ false → Contains (dps_left from to) (change.Dp dp)
dp_left from to dp ran gone =
    named_in (λ (id : DpId). id.0 == dp.0) (λ (id : DpId). change.Dp id) (λ (id : DpId). not (is_running to id)) (change.Dp dp)
    (λ id is. ap (λ (e : DpId). change.Dp e) (dp_is dp id is)) (λ id is. ap not (ap (is_running to) (dp_is dp id is) ∙ gone)) from ran

up_is : (dp : DpId) (port : ℕ) (up : UpRec) → (up.dp.0 == dp.0 && up.port == port) ≡ true → up ≡ record { dp = dp; port = port }
up_is dp port up is =
    let p = and_parts (up.dp.0 == dp.0) (up.port == port) is in
    let same = eqb-true up.dp.0 dp.0 p.0 in
    let number = eqb-true up.port port p.1 in
    λ i. record { dp = record { 0 = same i }; port = number i }

port_left : (from to : List UpRec) (dp : DpId) (port : ℕ) → is_up from dp port ≡ true → is_up to dp port ≡ false → Contains (ports_left from to) (change.Port dp port)
port_left from to dp port was gone =
    named_in (λ (up : UpRec). up.dp.0 == dp.0 && up.port == port) (λ (up : UpRec). change.Port up.dp up.port) (λ (up : UpRec). not (is_up to up.dp up.port)) (change.Port dp port)
    (λ up is. ap (λ (u : UpRec). change.Port u.dp u.port) (up_is dp port up is)) (λ up is. ap not (ap (λ (u : UpRec). is_up to u.dp u.port) (up_is dp port up is) ∙ gone)) from was

-- what passes in one of two alone
of_one : {P : Type 0} (a b : Bool) → (a ≡ b → ⊥) → (a ≡ true → b ≡ false → P) → (b ≡ true → a ≡ false → P) → P
of_one true true other first second = absurd (other refl)
of_one false false other first second = absurd (other refl)
of_one true false other first second = first refl refl
of_one false true other first second = second refl refl

-- ---- all of it

module _ (conf : Configuration) (from to : State) (only : (test : HostRec → Bool) → list_any test to.hosts ≡ true → list_any test from.hosts ≡ true) where
  abbrev of_learned : (x : Change) → Contains (learned_behind conf from to) x → Contains (behind conf from to) x
  of_learned x here =
      in_front (dps_behind conf from to ++ ports_left from.ups to.ups) (ports_left to.ups from.ups) x
      (in_front (dps_behind conf from to) (ports_left from.ups to.ups) x
      (in_front (learned_behind conf from to ++ dps_left from.running to.running) (dps_left to.running from.running) x
      (in_front (learned_behind conf from to) (dps_left from.running to.running) x here)))

  abbrev of_dps : (x : Change) → Contains (dps_behind conf from to) x → Contains (behind conf from to) x
  of_dps x here =
      in_front (dps_behind conf from to ++ ports_left from.ups to.ups) (ports_left to.ups from.ups) x (in_front (dps_behind conf from to) (ports_left from.ups to.ups) x here)

  host_behind : (group : DpId) (vid : ℕ) (mac : Mac) → (standing_of conf from group vid mac ≡ standing_of conf to group vid mac → ⊥) → Contains (behind conf from to) (change.Host group vid mac)
  host_behind group vid mac other =
      let x : Change = change.Host group vid mac in
      of_learned x
      (in_front (hosts_behind conf from to ++ neighbours_left from.neighbours to.neighbours) (neighbours_left to.neighbours from.neighbours) x
      (in_front (hosts_behind conf from to) (neighbours_left from.neighbours to.neighbours) x (host_named conf from to only group vid mac other)))

  neighbour_behind : (group : DpId) (vid : ℕ) (ip : Ip) → (mac_of_neighbour from.neighbours group vid ip ≡ mac_of_neighbour to.neighbours group vid ip → ⊥) → Contains (behind conf from to) (change.Neighbour group vid ip)
  neighbour_behind group vid ip other = by (mac_of_neighbour from.neighbours group vid ip) refl (mac_of_neighbour to.neighbours group vid ip) refl
    where
      x : Change
      x = change.Neighbour group vid ip

      by : (a : Option Mac) → mac_of_neighbour from.neighbours group vid ip ≡ a → (b : Option Mac) → mac_of_neighbour to.neighbours group vid ip ≡ b → Contains (behind conf from to) x
      by (Some m) is b too =
          of_learned x
          (in_front (hosts_behind conf from to ++ neighbours_left from.neighbours to.neighbours) (neighbours_left to.neighbours from.neighbours) x
          (further (hosts_behind conf from to) (neighbours_left from.neighbours to.neighbours) x (neighbour_left group vid ip from.neighbours to.neighbours m is other)))
      by None none (Some m) is =
          of_learned x
          (further (hosts_behind conf from to ++ neighbours_left from.neighbours to.neighbours) (neighbours_left to.neighbours from.neighbours) x
          (neighbour_left group vid ip to.neighbours from.neighbours m is (λ same. other (sym same))))
      by None none None too = absurd (other (none ∙ sym too))

  pub behind_named : AreNamed conf from to (behind conf from to)
  behind_named = record {
    hosts = host_behind;
    ports = λ dp port other.
        of_one (is_up from.ups dp port) (is_up to.ups dp port) other
        (λ was gone. in_front (dps_behind conf from to ++ ports_left from.ups to.ups) (ports_left to.ups from.ups) (change.Port dp port)
        (further (dps_behind conf from to) (ports_left from.ups to.ups) (change.Port dp port) (port_left from.ups to.ups dp port was gone)))
        (λ is was. further (dps_behind conf from to ++ ports_left from.ups to.ups) (ports_left to.ups from.ups) (change.Port dp port) (port_left to.ups from.ups dp port is was));
    dps = λ dp other.
        of_one (is_running from.running dp) (is_running to.running dp) other
        (λ was gone. of_dps (change.Dp dp) (in_front (learned_behind conf from to ++ dps_left from.running to.running) (dps_left to.running from.running) (change.Dp dp)
        (further (learned_behind conf from to) (dps_left from.running to.running) (change.Dp dp) (dp_left from.running to.running dp was gone))))
        (λ is was. of_dps (change.Dp dp) (further (learned_behind conf from to ++ dps_left from.running to.running) (dps_left to.running from.running) (change.Dp dp) (dp_left to.running from.running dp is was)));
    neighbours = neighbour_behind;
  }
