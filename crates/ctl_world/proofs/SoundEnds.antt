-- A sound world is sound with a part of its hosts, and with other connections once what is lost is forgotten.
use Rattle.std.proofs.Common.{◌≡◌, ℕ, ◌&&◌, Bool, true, false, cond, List, [], ◌∷◌, filter, refl, ap, ◌∙◌, subst, arith}
use Rattle.std.specs.List.{AllByRecursion}
use Rattle.std.proofs.lemmas.Bool.{and_from, and_parts}
use Rattle.std.proofs.lemmas.List.Sums.{length-filter, count_by-le-length}
use Rattle.conf_types.specs.declared.state.HostRec.{HostRec}
use Rattle.conf_types.specs.declared.state.NeighRec.{NeighRec}
use Rattle.conf_types.specs.Configuration.{Configuration}
use Rattle.conf_types.specs.Links.{is_up}
use Rattle.conf_types.specs.State.{State, IsHost, IsNeighbour, IsSameNeighbour, IsValidState, is_running}
use Rattle.conf_types.specs.Valid.{IsValid}
use Rattle.host_learn.proofs.Lists.{all_both, all_map, all_part, before_part, filter_all, filter_part}
use Rattle.host_learn.proofs.PartValid.{part_valid}
use Rattle.switch_session.specs.declared.closing.Closing.{Closing}
use Rattle.ctl_world.specs.declared.conns.Conn.{Conn}
use Rattle.ctl_world.specs.declared.said.Said.TheVariants as said
use Rattle.ctl_world.specs.Connections.{without}
use Rattle.ctl_world.specs.Ends.{close, drop_conn, end_line, ended, forget_lost, is_reached, stands}
use Rattle.ctl_world.specs.World.{IsSound, World, now, running, ups}
use Rattle.ctl_world.proofs.SoundChanges.{added_sound}
use Rattle.ctl_world.proofs.SoundPlaces.{nothing_valid}

-- ---- a part of the hosts

-- a test that all pass needn't be made
filter_both : {A : Type 0} (p q : A → Bool) (xs : List A) → AllByRecursion (λ x. q x ≡ true) xs → filter (λ x. p x && q x) xs ≡ filter p xs
filter_both p q [] all = refl
filter_both p q (x ∷ xs) all =
    ap (λ b. cond (p x && b) (x ∷ filter (λ y. p y && q y) xs) (filter (λ y. p y && q y) xs)) all.0
    ∙ elim (p x) as (λ b. cond (b && true) (x ∷ filter (λ y. p y && q y) xs) (filter (λ y. p y && q y) xs) ≡ cond b (x ∷ filter p xs) (filter p xs)) [
      | true ↦ ap (λ ys. x ∷ ys) (filter_both p q xs all.1)
      | false ↦ filter_both p q xs all.1
    ]

pub part_sound : (test : HostRec → Bool) (w : World) → IsSound w → IsSound (record w { hosts = record w.hosts { hosts = filter test w.hosts.hosts } })
part_sound test w sound =
    let valid = sound.valid in
    let at : HostRec → Bool = stands (running w) (ups w) in
    let passed : (h : HostRec) → (test h && at h) ≡ true → at h ≡ true = λ h is. (and_parts (test h) (at h) is).1 in
    let part = part_valid w.conf (now w) (running w) (ups w) (λ h. test h && at h) valid valid.running valid.ups valid.neighbours
    (λ h is. (and_parts (is_running (running w) h.dp) (is_up (ups w) h.dp h.port) (passed h is)).0)
    (λ h is. (and_parts (is_running (running w) h.dp) (is_up (ups w) h.dp h.port) (passed h is)).1) in
    let all : AllByRecursion (λ h. at h ≡ true) w.hosts.hosts =
    all_map (IsHost w.conf (now w)) (λ h. at h ≡ true) (λ h is. and_from (is_running (running w) h.dp) (is_up (ups w) h.dp h.port) is.runs is.up) w.hosts.hosts valid.hosts in
    record {
      valid = subst (λ hosts. IsValidState w.conf (record (now w) { hosts = hosts })) (filter_both test at w.hosts.hosts all) part;
      hosts = sound.hosts;
      neighbours = sound.neighbours;
    }

-- ---- what is lost

neighbours_part : (conf : Configuration) (state : State) (test : NeighRec → Bool) → IsValidState conf state → IsValidState conf (record state { neighbours = filter test state.neighbours })
neighbours_part conf state test valid =
    let left = filter test state.neighbours in
    let next : State = record state { neighbours = left } in
    let part = filter_part test state.neighbours in
    record {
      running = valid.running;
      ups = valid.ups;
      hosts = all_map (IsHost conf state) (IsHost conf next) (λ h is. record { runs = is.runs; up = is.up; place = is.place; individual = is.individual; no_gateway = is.no_gateway }) state.hosts valid.hosts;
      host_keys = valid.host_keys;
      permanent = valid.permanent;
      ports = valid.ports;
      vlans = valid.vlans;
      table = valid.table;
      neighbours = all_map (IsNeighbour conf state) (IsNeighbour conf next) (λ n is. record { address = is.address; runs = is.runs }) left (all_part (IsNeighbour conf state) left state.neighbours valid.neighbours part);
      neighbour_keys = before_part (λ a b. IsSameNeighbour a b → ⊥) left state.neighbours valid.neighbour_keys part;
      neighbour_table = omega (arith, length-filter test state.neighbours, count_by-le-length test state.neighbours, valid.neighbour_table);
    }

pub forget_sound : (w : World) (conns : List Conn) → IsValid w.conf → IsSound w → IsSound (forget_lost (record w { conns = conns }))
forget_sound w conns conf sound =
    let next : World = record w { conns = conns } in
    let places = nothing_valid w.conf conns conf w.moment.0 in
    let reached : NeighRec → Bool = is_reached w.conf (running next) in
    let left : List NeighRec = filter reached w.neighbours.neighbours in
    let fewer : State = record (now w) { neighbours = left } in
    let valid = neighbours_part w.conf (now w) reached sound.valid in
    let neighbours : AllByRecursion (IsNeighbour w.conf (record fewer { running = running next })) left =
    all_map (λ n. IsNeighbour w.conf fewer n × (reached n ≡ true)) (IsNeighbour w.conf (record fewer { running = running next })) (λ n both. record { address = both.0.address; runs = both.1 }) left
    (all_both (IsNeighbour w.conf fewer) (λ n. reached n ≡ true) left valid.neighbours (filter_all reached w.neighbours.neighbours)) in
    record {
      valid = part_valid w.conf fewer (running next) (ups next) (stands (running next) (ups next)) valid places.running places.ups neighbours
          (λ h is. (and_parts (is_running (running next) h.dp) (is_up (ups next) h.dp h.port) is).0)
          (λ h is. (and_parts (is_running (running next) h.dp) (is_up (ups next) h.dp h.port) is).1);
      hosts = sound.hosts;
      neighbours = sound.neighbours;
    }

-- ---- ends

pub close_sound : (cause : Closing) (number : ℕ) (w : World) → IsValid w.conf → IsSound w → IsSound (close cause number w)
close_sound cause number w conf sound = added_sound (said.Closing number cause ∷ end_line number cause ∷ []) (drop_conn number w) (forget_sound w (without number w.conns) conf sound)

pub ended_sound : (cause : Closing) (number : ℕ) (w : World) → IsValid w.conf → IsSound w → IsSound (ended cause number w)
ended_sound cause number w conf sound = added_sound (end_line number cause ∷ []) (drop_conn number w) (forget_sound w (without number w.conns) conf sound)

-- ---- nothing is lost of a sound world

all_kept : {A : Type 0} (test : A → Bool) (xs : List A) → AllByRecursion (λ x. test x ≡ true) xs → filter test xs ≡ xs
all_kept test [] all = refl
all_kept test (x ∷ xs) all = ap (λ b. cond b (x ∷ filter test xs) (filter test xs)) all.0 ∙ ap (λ ys. x ∷ ys) (all_kept test xs all.1)

pub nothing_lost : (w : World) → IsSound w → forget_lost w ≡ w
nothing_lost w sound =
    let hosts : filter (stands (running w) (ups w)) w.hosts.hosts ≡ w.hosts.hosts =
    all_kept (stands (running w) (ups w)) w.hosts.hosts
    (all_map (IsHost w.conf (now w)) (λ h. stands (running w) (ups w) h ≡ true) (λ h is. and_from (is_running (running w) h.dp) (is_up (ups w) h.dp h.port) is.runs is.up) w.hosts.hosts sound.valid.hosts) in
    let neighbours : filter (is_reached w.conf (running w)) w.neighbours.neighbours ≡ w.neighbours.neighbours =
    all_kept (is_reached w.conf (running w)) w.neighbours.neighbours
    (all_map (IsNeighbour w.conf (now w)) (λ n. is_reached w.conf (running w) n ≡ true) (λ n is. is.runs) w.neighbours.neighbours sound.valid.neighbours) in
    λ i. record w { hosts = record w.hosts { hosts = hosts i }; neighbours = record w.neighbours { neighbours = neighbours i } }
