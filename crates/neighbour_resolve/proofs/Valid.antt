-- What each call leaves is valid.
use Rattle.std.proofs.Common.{◌≡◌, ℕ, ◌≤◌, ◌==◌, Bool, true, false, List, [], ◌∷◌, length, filter, not, refl, ap, ◌∙◌, arith, cond}
use Rattle.std.specs.List.{AllByRecursion, filter_map, list_any}
use Rattle.std.proofs.lemmas.Bool.{and_parts}
use Rattle.net_base.specs.declared.numbers.DpId.{DpId}
use Rattle.conf_types.specs.declared.state.NeighRec.{NeighRec}
use Rattle.conf_types.specs.Configuration.{Configuration}
use Rattle.conf_types.specs.Groups.{group_of}
use Rattle.conf_types.specs.Networks.{is_neighbour_address}
use Rattle.conf_types.specs.Routing.{vips_of}
use Rattle.conf_types.specs.State.{IsHost, IsNeighbour, IsSameNeighbour, IsValidState, State}
use Rattle.neighbour_resolve.specs.Due.{after_due}
use Rattle.neighbour_resolve.specs.Kept.{kept_neighbours, last_of_each, may_stay, regrouped}
use Rattle.neighbour_resolve.specs.Table.{IsTable, Table, after_told, outcome, off_group}
use Rattle.neighbour_resolve.specs.Parts.{AreSomeOf}
use Rattle.neighbour_resolve.proofs.Keys.{all_map, due_some, filter_some, kept_table, last_some, some_each, some_table, told_each, told_table}

module _ (conf : Configuration) (state : State) where
  neighbour_by_key : (a b : NeighRec) → IsSameNeighbour a b → IsNeighbour conf state b → IsNeighbour conf state a
  neighbour_by_key a b same is = record {
    address = ap (λ vid. is_neighbour_address (vips_of conf vid) a.ip) same.vlans ∙ ap (is_neighbour_address (vips_of conf b.vid)) same.ips ∙ is.address;
    runs = ap (λ number. list_any (λ dp. (group_of conf dp).0 == number) state.running) same.groups ∙ is.runs;
  }

  with_neighbours : (ns : List NeighRec) → IsValidState conf state → AllByRecursion (IsNeighbour conf state) ns → IsTable (record { limit = 2048; neighbours = ns }) → IsValidState conf (record state { neighbours = ns })
  with_neighbours ns valid each table = record {
    running = valid.running;
    ups = valid.ups;
    hosts = all_map (IsHost conf state) (IsHost conf (record state { neighbours = ns })) (λ h is. record { runs = is.runs; up = is.up; place = is.place; individual = is.individual; no_gateway = is.no_gateway }) state.hosts valid.hosts;
    host_keys = valid.host_keys;
    permanent = valid.permanent;
    ports = valid.ports;
    vlans = valid.vlans;
    table = valid.table;
    neighbours = all_map (IsNeighbour conf state) (IsNeighbour conf (record state { neighbours = ns })) (λ n is. record { address = is.address; runs = is.runs }) ns each;
    neighbour_keys = table.keys;
    neighbour_table = table.within;
  }

  some_valid : (ns : List NeighRec) → AreSomeOf ns state.neighbours → IsValidState conf state → IsValidState conf (record state { neighbours = ns })
  some_valid ns some valid =
      with_neighbours ns valid (some_each (IsNeighbour conf state) neighbour_by_key ns state.neighbours some valid.neighbours)
      (some_table 2048 ns state.neighbours some (record { within = valid.neighbour_table; keys = valid.neighbour_keys }))

  pub due_valid : (moment : ℕ) → IsValidState conf state → IsValidState conf (record state { neighbours = after_due conf moment state.neighbours })
  due_valid moment valid = some_valid (after_due conf moment state.neighbours) (due_some conf moment state.neighbours) valid

  pub forgotten_valid : (group : DpId) → IsValidState conf state → IsValidState conf (record state { neighbours = off_group group state.neighbours })
  forgotten_valid group valid = some_valid (off_group group state.neighbours) (filter_some (λ n. not (n.group.0 == group.0)) state.neighbours) valid

  pub told_valid : (stays : NeighRec → Bool) (told : NeighRec) (limit : ℕ) → limit ≤ 2048 → length state.neighbours ≤ limit → IsNeighbour conf state told → IsValidState conf state
      → IsValidState conf (record state { neighbours = (after_told stays told (record { limit = limit; neighbours = state.neighbours })).neighbours })
  told_valid stays told limit few within is valid =
      let table : Table = record { limit = limit; neighbours = state.neighbours } in
      let ns = (after_told stays told table).neighbours in
      let kept = told_table stays told limit state.neighbours (record { within = within; keys = valid.neighbour_keys }) in
      with_neighbours ns valid (told_each (IsNeighbour conf state) neighbour_by_key stays told state.neighbours (outcome table told) is valid.neighbours)
      (record { within = omega (arith, kept.within); keys = kept.keys })

  -- ---- under a new configuration

  filter_all : (p : NeighRec → Bool) (ns : List NeighRec) → AllByRecursion (λ n. p n ≡ true) (filter p ns)
  filter_all p [] = tt
  filter_all p (n ∷ ns) = one (p n) refl (filter_all p ns) where
    one : (b : Bool) → p n ≡ b → AllByRecursion (λ n. p n ≡ true) (filter p ns) → AllByRecursion (λ n. p n ≡ true) (cond b (n ∷ filter p ns) (filter p ns))
    one true is rest = (is, rest)
    one false is rest = rest

  kept_each : (ns : List NeighRec) → AllByRecursion (IsNeighbour conf state) (kept_neighbours conf state.running ns)
  kept_each ns =
      let staying = filter (may_stay conf state.running) (filter_map (regrouped conf) ns) in
      some_each (IsNeighbour conf state) neighbour_by_key (last_of_each staying) staying (last_some staying)
      (all_map (λ n. may_stay conf state.running n ≡ true) (IsNeighbour conf state)
      (λ n is. let both = and_parts (is_neighbour_address (vips_of conf n.vid) n.ip) (list_any (λ dp. (group_of conf dp).0 == n.group.0) state.running) is in record { address = both.0; runs = both.1 })
      staying (filter_all (may_stay conf state.running) (filter_map (regrouped conf) ns)))

  pub kept_valid : (ns : List NeighRec) → length ns ≤ 2048 → IsValidState conf (record state { neighbours = [] }) → IsValidState conf (record state { neighbours = kept_neighbours conf state.running ns })
  kept_valid ns few empty =
      let ns_kept = kept_neighbours conf state.running ns in
      record {
        running = empty.running;
        ups = empty.ups;
        hosts = all_map (IsHost conf (record state { neighbours = [] })) (IsHost conf (record state { neighbours = ns_kept })) (λ h is. record { runs = is.runs; up = is.up; place = is.place; individual = is.individual; no_gateway = is.no_gateway }) state.hosts empty.hosts;
        host_keys = empty.host_keys;
        permanent = empty.permanent;
        ports = empty.ports;
        vlans = empty.vlans;
        table = empty.table;
        neighbours = all_map (IsNeighbour conf state) (IsNeighbour conf (record state { neighbours = ns_kept })) (λ n is. record { address = is.address; runs = is.runs }) ns_kept (kept_each ns);
        neighbour_keys = (kept_table conf state.running 2048 ns few).keys;
        neighbour_table = (kept_table conf state.running 2048 ns few).within;
      }
