-- What leaves a sound world sound: what is said, changes that keep what connections tell, and time.
use Rattle.std.proofs.Common.{◌≡◌, ℕ, ◌==◌, true, false, cond, Some, None, List, [], ◌∷◌, map, filter, nat_lt, refl, sym, ap, subst, ◌∙◌, if◌then◌else◌}
use Rattle.std.specs.List.{flat_map}
use Rattle.std.specs.Option.{option_map_or}
use Rattle.net_base.specs.declared.numbers.DpId.{DpId}
use Rattle.net_base.specs.declared.numbers.Moment.{Moment}
use Rattle.conf_types.specs.declared.datapath.Dp.{Dp}
use Rattle.conf_types.specs.State.{State, IsHost, IsNeighbour, IsValidState}
use Rattle.host_learn.proofs.Lists.{all_map}
use Rattle.of13_codec.specs.declared.message.Message.{Message}
use Rattle.ctl_world.specs.declared.conns.Conn.{Conn}
use Rattle.ctl_world.specs.declared.said.Said.{Said}
use Rattle.ctl_world.specs.Connections.{change, conn_of, conn_with, has_number, is_of, put, with_asked, with_said}
use Rattle.ctl_world.specs.Saying.{add_said, ask, say, say_by}
use Rattle.ctl_world.specs.World.{IsSound, World, has_ports, is_at_work, is_up_by, now, runs, ups_by, ups_on}

-- ---- with other connections the same datapaths run and the same interfaces are up

pub now_with_conns : (next : List Conn) (w : World) → ((d : Dp) → is_at_work next d ≡ is_at_work w.conns d) → ((d : Dp) → ups_on next d ≡ ups_on w.conns d) → now (record w { conns = next }) ≡ now w
now_with_conns next w work up = λ i. record {
  moment = w.moment.0;
  running = map (λ d. d.id) (filter (λ d. work d i) w.conf.dps);
  ups = flat_map (λ d. up d i) w.conf.dps;
  hosts = w.hosts.hosts;
  neighbours = w.neighbours.neighbours;
}

with_conns : (next : List Conn) (w : World) → ((d : Dp) → is_at_work next d ≡ is_at_work w.conns d) → ((d : Dp) → ups_on next d ≡ ups_on w.conns d) → IsSound w → IsSound (record w { conns = next })
with_conns next w work up sound =
    record { valid = subst (IsValidState w.conf) (sym (now_with_conns next w work up)) sound.valid; hosts = sound.hosts; neighbours = sound.neighbours }

-- ---- a connection is changed

module _ (f : Conn → Conn) (dp : (c : Conn) → (f c).dp ≡ c.dp) where
  -- what is seen of a datapath's connection stays, where a change keeps it
  seen : {A : Type 0} (g : Conn → A) → ((c : Conn) → g (f c) ≡ g c) → (number : ℕ) (conns : List Conn) (id : DpId) (none : A)
      → option_map_or g (conn_of (change number f conns) id) none ≡ option_map_or g (conn_of conns id) none
  seen g same number [] id none = refl
  seen g same number (c ∷ cs) id none =
      elim (has_number number c) as (λ b. option_map_or g (conn_of (if b then f c ∷ cs else c ∷ change number f cs) id) none ≡ option_map_or g (conn_of (c ∷ cs) id) none) [
        | true ↦ ap (λ o. option_map_or g (cond (option_map_or (λ (d : DpId). d.0 == id.0) o false) (Some (f c)) (conn_of cs id)) none) (dp c)
            ∙ elim (is_of id c) as (λ b. option_map_or g (cond b (Some (f c)) (conn_of cs id)) none ≡ option_map_or g (cond b (Some c) (conn_of cs id)) none) [ true ↦ same c | false ↦ refl ]
        | false ↦ elim (is_of id c) as (λ b. option_map_or g (cond b (Some c) (conn_of (change number f cs) id)) none ≡ option_map_or g (cond b (Some c) (conn_of cs id)) none) [
          | true ↦ refl
          | false ↦ seen g same number cs id none
        ]
      ]

  pub change_sound : ((c : Conn) → (f c).session.state.stage ≡ c.session.state.stage) → ((c : Conn) → (f c).session.state.ports ≡ c.session.state.ports)
      → (number : ℕ) (w : World) → IsSound w → IsSound (record w { conns = change number f w.conns })
  change_sound stage ports number w sound =
      let up : (d : Dp) (c : Conn) → ups_by d (f c) ≡ ups_by d c =
      λ d c i. if has_ports (stage c i) then map (λ p. record { dp = d.id; port = p.no }) (filter (is_up_by (ports c i)) d.ports) else [] in
      with_conns (change number f w.conns) w (λ d. seen (λ c. runs c.session.state.stage) (λ c. ap runs (stage c)) number w.conns d.id false) (λ d. seen (ups_by d) (up d) number w.conns d.id []) sound

-- ---- one without a datapath opens

unseen : (c : Conn) → c.dp ≡ None → (conns : List Conn) (id : DpId) → conn_of (put c conns) id ≡ conn_of conns id
unseen c none conns id = met conns where
  passed : (cs : List Conn) → conn_of (c ∷ cs) id ≡ conn_of cs id
  passed cs = ap (λ o. cond (option_map_or (λ (d : DpId). d.0 == id.0) o false) (Some c) (conn_of cs id)) none

  met : (cs : List Conn) → conn_of (put c cs) id ≡ conn_of cs id
  met [] = passed []
  met (d ∷ ds) =
      elim (nat_lt c.number d.number) as (λ b. conn_of (if b then c ∷ d ∷ ds else d ∷ put c ds) id ≡ conn_of (d ∷ ds) id) [
        | true ↦ passed (d ∷ ds)
        | false ↦ ap (cond (is_of id d) (Some d)) (met ds)
      ]

pub put_sound : (c : Conn) (w : World) → c.dp ≡ None → IsSound w → IsSound (record w { conns = put c w.conns })
put_sound c w none =
    with_conns (put c w.conns) w (λ d. ap (λ o. option_map_or (λ c. runs c.session.state.stage) o false) (unseen c none w.conns d.id)) (λ d. ap (λ o. option_map_or (ups_by d) o []) (unseen c none w.conns d.id))

-- ---- what is said

pub added_sound : (more : List Said) (w : World) → IsSound w → IsSound (add_said more w)
added_sound more w sound = record { valid = sound.valid; hosts = sound.hosts; neighbours = sound.neighbours }

said_by_sound : (f : Conn → Conn) → ((number : ℕ) (w : World) → IsSound w → IsSound (record w { conns = change number f w.conns }))
    → (number : ℕ) (m : Message) (w : World) → IsSound w → IsSound (option_map_or (say_by f m w) (conn_with w.conns number) w)
said_by_sound f change_kept number m w sound =
    elim (conn_with w.conns number) as (λ o. IsSound (option_map_or (say_by f m w) o w)) [
      | Some c ↦ let changed = change_kept c.number w sound in record { valid = changed.valid; hosts = changed.hosts; neighbours = changed.neighbours }
      | None ↦ sound
    ]

pub say_sound : (number : ℕ) (m : Message) (w : World) → IsSound w → IsSound (say number m w)
say_sound = said_by_sound with_said (change_sound with_said (λ c. refl) (λ c. refl) (λ c. refl))

pub ask_sound : (number : ℕ) (m : Message) (w : World) → IsSound w → IsSound (ask number m w)
ask_sound = said_by_sound with_asked (change_sound with_asked (λ c. refl) (λ c. refl) (λ c. refl))

-- ---- another moment

pub moment_sound : (moment : Moment) (w : World) → IsSound w → IsSound (record w { moment = moment })
moment_sound moment w sound =
    let valid = sound.valid in
    let later : State = record (now w) { moment = moment.0 } in
    record {
      valid = record {
        running = valid.running;
        ups = valid.ups;
        hosts = all_map (IsHost w.conf (now w)) (IsHost w.conf later) (λ h is. record { runs = is.runs; up = is.up; place = is.place; individual = is.individual; no_gateway = is.no_gateway }) w.hosts.hosts valid.hosts;
        host_keys = valid.host_keys;
        permanent = valid.permanent;
        ports = valid.ports;
        vlans = valid.vlans;
        table = valid.table;
        neighbours = all_map (IsNeighbour w.conf (now w)) (IsNeighbour w.conf later) (λ n is. record { address = is.address; runs = is.runs }) w.neighbours.neighbours valid.neighbours;
        neighbour_keys = valid.neighbour_keys;
        neighbour_table = valid.neighbour_table;
      };
      hosts = sound.hosts;
      neighbours = sound.neighbours;
    }
