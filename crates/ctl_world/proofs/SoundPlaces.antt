-- Where nothing is learned the state is valid, whatever the connections are.
use Rattle.std.proofs.Common.{◌≡◌, ℕ, suc, ◌++◌, true, false, cond, Some, None, List, [], ◌∷◌, map, filter, is_some, IsTrue, refl, ap, arith}
use Rattle.std.specs.Prelude.{Contains}
use Rattle.std.specs.List.{AllByRecursion, flat_map}
use Rattle.std.specs.Option.{option_map_or}
use Rattle.conf_types.specs.declared.datapath.Dp.{Dp}
use Rattle.conf_types.specs.declared.datapath.Port.{Port}
use Rattle.conf_types.specs.declared.state.UpRec.{UpRec}
use Rattle.conf_types.specs.Configuration.{Configuration, port_at}
use Rattle.conf_types.specs.Groups.{IsDp}
use Rattle.conf_types.specs.State.{IsValidState}
use Rattle.conf_types.specs.Valid.{IsValid}
use Rattle.host_learn.proofs.KeptValid.{ports_found}
use Rattle.host_learn.proofs.Lists.{all_map, all_part, filter_part}
use Rattle.ctl_world.specs.declared.conns.Conn.{Conn}
use Rattle.ctl_world.specs.Connections.{conn_of}
use Rattle.ctl_world.specs.World.{has_ports, is_at_work, is_up_by, running_of, ups_by, ups_of, ups_on}

every : {A : Type 0} (P : A → Type 0) → ((x : A) → P x) → (xs : List A) → AllByRecursion P xs
every P f [] = tt
every P f (x ∷ xs) = (f x, every P f xs)

all_mapped : {A B : Type 0} (P : B → Type 0) (f : A → B) (xs : List A) → AllByRecursion (λ x. P (f x)) xs → AllByRecursion P (map f xs)
all_mapped P f [] all = tt
all_mapped P f (x ∷ xs) all = (all.0, all_mapped P f xs all.1)

all_joined : {A : Type 0} (P : A → Type 0) (xs ys : List A) → AllByRecursion P xs → AllByRecursion P ys → AllByRecursion P (xs ++ ys)
all_joined P [] ys here there = there
all_joined P (x ∷ xs) ys here there = (here.0, all_joined P xs ys here.1 there)

all_flat : {A B : Type 0} (P : B → Type 0) (f : A → List B) (xs : List A) → AllByRecursion (λ x. AllByRecursion P (f x)) xs → AllByRecursion P (flat_map f xs)
all_flat P f [] all = tt
all_flat P f (x ∷ xs) all = all_joined P (f x) (flat_map f xs) all.0 (all_flat P f xs all.1)

contains_each : {A : Type 0} (xs : List A) → AllByRecursion (Contains xs) xs
contains_each [] = tt
contains_each (x ∷ xs) = ((0, omega arith, refl), all_map (Contains xs) (Contains (x ∷ xs)) (λ y c. (suc c.0, omega (arith, c.1), c.2)) xs (contains_each xs))

-- ---- the datapaths that run and the interfaces that are up are the configuration's

abbrev IsThere : Configuration → UpRec → Type 0
IsThere conf up = IsTrue (is_some (port_at conf up.dp up.port))

abbrev IsFound : Configuration → Dp → Port → Type 0
IsFound conf d p = port_at conf d.id p.no ≡ Some p

module _ (conf : Configuration) (conns : List Conn) where
  running_there : AllByRecursion (IsDp conf) (running_of conf conns)
  running_there =
      all_mapped (IsDp conf) (λ d. d.id) (filter (is_at_work conns) conf.dps)
      (all_map (Contains conf.dps) (λ d. IsDp conf d.id) (λ d here. record { dp = d; here = here; id_is = refl }) (filter (is_at_work conns) conf.dps)
      (all_part (Contains conf.dps) (filter (is_at_work conns) conf.dps) conf.dps (contains_each conf.dps) (filter_part (is_at_work conns) conf.dps)))

  by_there : (d : Dp) (c : Conn) → AllByRecursion (IsFound conf d) d.ports → AllByRecursion (IsThere conf) (ups_by d c)
  by_there d c found =
      let up : List Port = filter (is_up_by c.session.state.ports) d.ports in
      let made : Port → UpRec = λ p. record { dp = d.id; port = p.no } in
      elim (has_ports c.session.state.stage) as (λ b. AllByRecursion (IsThere conf) (cond b (map made up) [])) [
        | true ↦ all_mapped (IsThere conf) made up
            (all_map (IsFound conf d) (λ p. IsThere conf (made p)) (λ p is. ap is_some is) up
            (all_part (IsFound conf d) up d.ports found (filter_part (is_up_by c.session.state.ports) d.ports)))
        | false ↦ tt
      ]

  on_there : (d : Dp) → AllByRecursion (IsFound conf d) d.ports → AllByRecursion (IsThere conf) (ups_on conns d)
  on_there d found =
      elim (conn_of conns d.id) as (λ o. AllByRecursion (IsThere conf) (option_map_or (ups_by d) o [])) [
        | Some c ↦ by_there d c found
        | None ↦ tt
      ]

  pub nothing_valid : IsValid conf → (moment : ℕ) → IsValidState conf (record { moment = moment; running = running_of conf conns; ups = ups_of conf conns; hosts = []; neighbours = [] })
  nothing_valid valid moment = record {
    running = running_there;
    ups = all_flat (IsThere conf) (ups_on conns) conf.dps
        (all_map (λ (d : Dp). AllByRecursion (IsFound conf d) d.ports) (λ d. AllByRecursion (IsThere conf) (ups_on conns d)) on_there conf.dps (ports_found conf valid));
    hosts = tt;
    host_keys = tt;
    permanent = tt;
    ports = every _ (λ d. every _ (λ p. omega arith) d.ports) conf.dps;
    vlans = every _ (λ d. every _ (λ v. omega arith) conf.vlans) conf.dps;
    table = omega arith;
    neighbours = tt;
    neighbour_keys = tt;
    neighbour_table = omega arith;
  }
