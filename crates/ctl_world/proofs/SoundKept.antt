-- What is kept under a new configuration is sound.
use Rattle.std.proofs.Common.{◌≡◌, ◌==◌, ◌&&◌, ◌||◌, Bool, true, false, cond, not, Some, None, List, [], ◌∷◌, map, filter, is_some, inl, inr, refl, sym, ap, ◌∙◌, arith}
use Rattle.std.specs.List.{AllByRecursion}
use Rattle.std.specs.Option.{option_and_then, option_map_or}
use Rattle.std.proofs.lemmas.Bool.{and_parts, cases_Bool, eqb-true, false≢true}
use Rattle.net_base.specs.Address.{is_group}
use Rattle.net_base.specs.declared.numbers.DpId.{DpId}
use Rattle.conf_types.specs.declared.datapath.Dp.{Dp}
use Rattle.conf_types.specs.declared.datapath.Port.{Port}
use Rattle.conf_types.specs.declared.state.HostRec.{HostRec}
use Rattle.conf_types.specs.Configuration.{Configuration, dp_with, port_with}
use Rattle.conf_types.specs.Links.{is_up}
use Rattle.conf_types.specs.Membership.{is_accepting, is_edge_member}
use Rattle.conf_types.specs.State.{State, IsHost, is_gateway_address, is_running, is_to_forget}
use Rattle.conf_types.specs.Valid.{IsValid}
use Rattle.conf_types.proofs.Reached.{same_id}
use Rattle.host_learn.specs.Kept.{kept as kept_hosts, may_stay}
use Rattle.host_learn.specs.Learning.{is_host, takes_in}
use Rattle.host_learn.proofs.KeptParts.{kept_part, kept_stays}
use Rattle.host_learn.proofs.KeptValid.{kept_valid as hosts_valid}
use Rattle.host_learn.proofs.Lists.{all_both, all_map, all_part}
use Rattle.neighbour_resolve.specs.Kept.{kept as kept_neighbours}
use Rattle.neighbour_resolve.proofs.Valid.{kept_valid as neighbours_valid}
use Rattle.ctl_world.specs.declared.conns.Conn.{Conn}
use Rattle.ctl_world.specs.Connections.{conn_of}
use Rattle.ctl_world.specs.World.{IsSound, World, is_at_work, now, running_of, runs, ups_of}
use Rattle.ctl_world.proofs.SoundPlaces.{nothing_valid}

module _ (conns : List Conn) (id : DpId) where
  -- the datapath runs, whatever configuration it is in
  abbrev works : Bool
  works = option_map_or (λ c. runs c.session.state.stage) (conn_of conns id) false

  abbrev runs_in : List Dp → Bool
  runs_in dps = is_running (map (λ d. d.id) (filter (is_at_work conns) dps)) id

  -- with one datapath more, which is at work or not
  abbrev runs_with : Dp → List Dp → Bool → Bool
  runs_with d ds b = is_running (map (λ e. e.id) (cond b (d ∷ filter (is_at_work conns) ds) (filter (is_at_work conns) ds))) id

  at_work : (d : Dp) → (d.id.0 == id.0) ≡ true → is_at_work conns d ≡ works
  at_work d same = ap (λ at. option_map_or (λ c. runs c.session.state.stage) (conn_of conns at) false) (same_id d.id id (eqb-true d.id.0 id.0 same))

  it_works : (dps : List Dp) → runs_in dps ≡ true → works ≡ true
  it_works [] is = absurd (false≢true is)
  it_works (d ∷ ds) is =
      elim (cases_Bool (is_at_work conns d)) [
        | inl does ↦ elim (cases_Bool (d.id.0 == id.0)) [
          | inl same ↦ sym (at_work d same) ∙ does
          | inr other ↦ it_works ds (sym (ap (runs_with d ds) does ∙ ap (λ b. b || runs_in ds) other) ∙ is)
        ]
        | inr idle ↦ it_works ds (sym (ap (runs_with d ds) idle) ∙ is)
      ]

  it_runs : works ≡ true → (dps : List Dp) → is_some (dp_with dps id) ≡ true → runs_in dps ≡ true
  it_runs work [] here = absurd (false≢true here)
  it_runs work (d ∷ ds) here =
      elim (cases_Bool (d.id.0 == id.0)) [
        | inl same ↦ ap (runs_with d ds) (at_work d same ∙ work) ∙ ap (λ b. b || runs_in ds) same
        | inr other ↦
            let rest : runs_in ds ≡ true = it_runs work ds (sym (ap (λ b. is_some (cond b (Some d) (dp_with ds id))) other) ∙ here) in
            elim (is_at_work conns d) as (λ b. runs_with d ds b ≡ true) [
              | true ↦ ap (λ b. b || runs_in ds) other ∙ rest
              | false ↦ rest
            ]
      ]

-- where a host may be learned is a datapath of the configuration
is_there : (conf : Configuration) (host : HostRec) → takes_in conf host ≡ true → is_some (dp_with conf.dps host.dp) ≡ true
is_there conf host =
    let test : Port → Bool = λ p. is_accepting p && is_edge_member p host.vid in
    elim (dp_with conf.dps host.dp) as (λ o. option_map_or test (option_and_then (λ (d : Dp). port_with d.ports host.port) o) false ≡ true → is_some o ≡ true) [
      | Some d ↦ λ is. refl
      | None ↦ λ is. is
    ]

module _ (next : Configuration) (w : World) (sound : IsSound w) where
  staying_runs : (h : HostRec) → IsHost w.conf (now w) h → may_stay next (ups_of next w.conns) w.moment.0 h ≡ true → is_running (running_of next w.conns) h.dp ≡ true
  staying_runs h was stays =
      let up : Bool = is_up (ups_of next w.conns) h.dp h.port in
      let host = and_parts (is_host next h) up (and_parts (is_host next h && up) (not (is_to_forget next w.moment.0 h)) stays).0 in
      let place = and_parts (takes_in next h && not (is_group h.mac)) (not (is_gateway_address next h.mac.0)) host.0 in
      it_runs w.conns h.dp (it_works w.conns h.dp w.conf.dps was.runs) next.dps (is_there next h (and_parts (takes_in next h) (not (is_group h.mac)) place.0).0)

  kept_run : AllByRecursion (λ h. is_running (running_of next w.conns) h.dp ≡ true) (kept_hosts next (ups_of next w.conns) w.moment.0 w.hosts).hosts
  kept_run =
      let ups = ups_of next w.conns in
      let moment = w.moment.0 in
      let kept = (kept_hosts next ups moment w.hosts).hosts in
      all_map (λ h. IsHost w.conf (now w) h × (may_stay next ups moment h ≡ true)) (λ h. is_running (running_of next w.conns) h.dp ≡ true) (λ h both. staying_runs h both.0 both.1) kept
      (all_both (IsHost w.conf (now w)) (λ h. may_stay next ups moment h ≡ true) kept
      (all_part (IsHost w.conf (now w)) kept w.hosts.hosts sound.valid.hosts (kept_part next ups moment w.hosts)) (kept_stays next ups moment w.hosts))

  pub kept_sound : IsValid next → IsSound (record w {
    conf = next;
    hosts = kept_hosts next (ups_of next w.conns) w.moment.0 w.hosts;
    neighbours = kept_neighbours next (running_of next w.conns) w.neighbours;
  })
  kept_sound valid =
      let runs : List DpId = running_of next w.conns in
      let nothing : State = record { moment = w.moment.0; running = runs; ups = ups_of next w.conns; hosts = []; neighbours = [] } in
      let neighbours = neighbours_valid next nothing w.neighbours.neighbours sound.valid.neighbour_table (nothing_valid next w.conns valid w.moment.0) in
      record {
        valid = hosts_valid next (record nothing { neighbours = (kept_neighbours next runs w.neighbours).neighbours }) w.moment.0 w.hosts valid (omega (arith, sound.hosts)) neighbours kept_run;
        hosts = sound.hosts;
        neighbours = sound.neighbours;
      }
