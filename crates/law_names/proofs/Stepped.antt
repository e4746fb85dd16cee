-- What the steps of connections, of packets and of a settling name.
use Rattle.std.proofs.Common.{◌≡◌, ℕ, Bool, true, false, ◌==◌, if◌then◌else◌, List, [], ◌∷◌, ◌++◌, Option, Some, None, refl, sym, ap, ◌∙◌, subst, append-nil, arith}
use Rattle.std.specs.Prelude.{Contains}
use Rattle.std.specs.Option.{option_map, option_map_or}
use Rattle.conf_types.specs.declared.address.Ip.{Ip}
use Rattle.net_base.specs.declared.address.Mac.{Mac}
use Rattle.net_base.specs.declared.numbers.DpId.{DpId}
use Rattle.net_base.specs.declared.numbers.Moment.{Moment}
use Rattle.conf_types.specs.declared.state.HostRec.{HostRec}
use Rattle.conf_types.specs.declared.state.NeighRec.{NeighRec}
use Rattle.conf_types.specs.Groups.{group_of}
use Rattle.conf_types.specs.Links.{is_up}
use Rattle.conf_types.specs.State.{is_running}
use Rattle.conf_types.specs.Valid.{IsValid}
use Rattle.host_learn.specs.Learning as hosts
use Rattle.neighbour_resolve.specs.Table as neighbours
use Rattle.of13_codec.specs.declared.message.Message.{Message}
use Rattle.of13_codec.specs.declared.message.Message.TheVariants as messages
use Rattle.switch_session.specs.declared.closing.Closing.{Closing}
use Rattle.ctl_world.specs.declared.conns.Conn.{Conn}
use Rattle.ctl_world.specs.declared.said.Said.{Said}
use Rattle.ctl_world.specs.declared.said.Said.TheVariants as said
use Rattle.ctl_world.specs.Connections.{change as changed, conn_of, conn_with, put, with_asked, with_dp, with_fed, with_said, without}
use Rattle.ctl_world.specs.Ends.{close, drop_conn, end_line, ended, forget_lost, is_reached, stands}
use Rattle.ctl_world.specs.Saying.{add_said, ask, say, say_by}
use Rattle.ctl_world.specs.World.{World, now, running, ups}
use Rattle.ctl_life.specs.Life.{feed, open_conn, replace, take_dp}
use Rattle.switch_session.specs.declared.closing.Closing.TheVariants.{Replaced}
use Rattle.switch_session.specs.Connections.{opened}
use Rattle.ctl_packets.specs.Packets.{learn, want}
use Rattle.conf_types.specs.declared.change.Change.{Change}
use Rattle.conf_types.specs.declared.change.Change.TheVariants as change
use Rattle.conf_types.specs.Changes.{AreNamed, mac_of_neighbour}
use Rattle.law_names.specs.Ends.{by_change, by_end, by_replace, by_take, dps_on, lost, places}
use Rattle.law_names.specs.Names.{Names}
use Rattle.law_names.proofs.Hosts as host_proofs
use Rattle.law_names.proofs.Joined.{more_named, none_named, through_named}
use Rattle.law_names.proofs.Neighbours as neighbour_proofs
use Rattle.law_names.proofs.Places.{changed_same, dp_named, kept_same, or_none, port_named, put_same, run_same, seen, seen_of, up_same, without_same}
use Rattle.law_runs.specs.Members.{behind, in_front}

-- ---- steps one behind the other

pub nothing : (w : World) → Names w w []
nothing w = record { conf = refl; named = none_named w.conf (now w) }

none_in : {A : Type 0} (xs : List A) (x : A) → Contains [] x → Contains xs x
none_in xs x (k, lt, is) = absurd (omega (arith, lt))

pub some : (w v : World) (xs : List Change) → Names w v [] → Names w v xs
some w v xs n = record { conf = n.conf; named = more_named w.conf (now w) (now v) [] xs (λ c none. none_in xs c none) n.named }

pub join : (u v w : World) (xs ys : List Change) → Names u v xs → Names v w ys → Names u w (xs ++ ys)
join u v w xs ys first second = record {
  conf = second.conf ∙ first.conf;
  named = through_named u.conf (now u) (now v) (now w) xs ys first.named (subst (λ conf. AreNamed conf (now v) (now w) ys) first.conf second.named);
}

pub then_quiet : (u v w : World) (xs : List Change) → Names u v xs → Names v w [] → Names u w xs
then_quiet u v w xs first second = subst (Names u w) (append-nil xs) (join u v w xs [] first second)

pub still : (w v : World) (xs : List Change) → Names w v xs → IsValid w.conf → IsValid v.conf
still w v xs n valid = subst IsValid (sym n.conf) valid

module _ {A : Type 0} (w : World) (f : A → World) (g : A → List Change) where
  pub of_option : (o : Option A) → ((x : A) → Names w (f x) (g x)) → Names w (option_map_or f o w) (option_map_or g o [])
  of_option None each = nothing w
  of_option (Some x) each = each x

pub quiet_option : {A : Type 0} (w : World) (f : A → World) (o : Option A) → ((x : A) → Names w (f x) []) → Names w (option_map_or f o w) []
quiet_option w f None each = nothing w
quiet_option w f (Some x) each = each x

pub of_two : (w v u : World) (xs ys : List Change) (b : Bool) → Names w v xs → Names w u ys → Names w (if b then v else u) (if b then xs else ys)
of_two w v u xs ys true one other = one
of_two w v u xs ys false one other = other

pub of_either : (w v u : World) (xs : List Change) (b : Bool) → Names w v xs → Names w u xs → Names w (if b then v else u) xs
of_either w v u xs true one other = one
of_either w v u xs false one other = other

-- ---- connections

pub conns_named : (w : World) → IsValid w.conf → (conns : List Conn) (dps : List DpId) → ((dp : DpId) → is_running dps dp ≡ false → seen_of w.conns dp ≡ seen_of conns dp)
    → Names w (record w { conns = conns }) (places w.conf dps)
conns_named w valid conns dps rest = record {
  conf = refl;
  named = record {
    hosts = λ group vid mac other. absurd (other refl);
    ports = λ dp port other. port_named w.conf valid w.conns conns dps rest dp port other;
    dps = λ dp other. dp_named w.conf valid w.conns conns dps rest dp other;
    neighbours = λ group vid ip other. absurd (other refl);
  };
}

pub conns_quiet : (w : World) (conns : List Conn) → ((dp : DpId) → seen_of w.conns dp ≡ seen_of conns dp) → Names w (record w { conns = conns }) []
conns_quiet w conns same = record {
  conf = refl;
  named = record {
    hosts = λ group vid mac other. absurd (other refl);
    ports = λ dp port other. absurd (other (up_same w.conns conns dp (same dp) port w.conf));
    dps = λ dp other. absurd (other (run_same w.conns conns dp (same dp) w.conf));
    neighbours = λ group vid ip other. absurd (other refl);
  };
}

-- one that keeps its datapath, its stage and its ports
pub kept_quiet : (number : ℕ) (f : Conn → Conn) → ((c : Conn) → (f c).dp ≡ c.dp) → ((c : Conn) → seen (f c) ≡ seen c) → (w : World) → Names w (record w { conns = changed number f w.conns }) []
kept_quiet number f dps sees w = conns_quiet w (changed number f w.conns) (λ dp. sym (kept_same number dp f dps sees w.conns))

pub lost_named : (w : World) → Names w (forget_lost w) (lost w)
lost_named w = record {
  conf = refl;
  named = record {
    hosts = λ group vid mac other. in_front _ _ (change.Host group vid mac) (host_proofs.gone_named w.conf group vid mac (now w) (stands (running w) (ups w)) w.hosts.hosts other);
    ports = λ dp port other. absurd (other refl);
    dps = λ dp other. absurd (other refl);
    neighbours = λ group vid ip other. behind _ _ (change.Neighbour group vid ip) (neighbour_proofs.gone_named group vid ip (is_reached w.conf (running w)) w.neighbours.neighbours other);
  };
}

-- ---- what is said

pub added_quiet : (more : List Said) (w : World) → Names w (add_said more w) []
added_quiet more w = record { conf = refl; named = none_named w.conf (now w) }

said_by : (f : Conn → Conn) → ((c : Conn) → (f c).dp ≡ c.dp) → ((c : Conn) → seen (f c) ≡ seen c) → (number : ℕ) (m : Message) (w : World) → Names w (option_map_or (say_by f m w) (conn_with w.conns number) w) []
said_by f dps sees number m w =
    quiet_option w (say_by f m w) (conn_with w.conns number)
    (λ c. let kept = kept_quiet c.number f dps sees w in record { conf = refl; named = kept.named })

pub say_quiet : (number : ℕ) (m : Message) (w : World) → Names w (say number m w) []
say_quiet number m w = said_by with_said (λ c. refl) (λ c. refl) number m w

pub ask_quiet : (number : ℕ) (m : Message) (w : World) → Names w (ask number m w) []
ask_quiet number m w = said_by with_asked (λ c. refl) (λ c. refl) number m w

-- ---- connections that end, or take a step

pub drop_named : (number : ℕ) (w : World) → IsValid w.conf → Names w (drop_conn number w) (by_end number w)
drop_named number w valid =
    let left : World = record w { conns = without number w.conns } in
    join w left (forget_lost left) (places w.conf (dps_on number w.conns)) (lost left)
    (conns_named w valid (without number w.conns) (dps_on number w.conns) (λ dp out. ap (option_map seen) (sym (without_same number dp w.conns out)))) (lost_named left)

pub close_named : (cause : Closing) (number : ℕ) (w : World) → IsValid w.conf → Names w (close cause number w) (by_end number w)
close_named cause number w valid =
    then_quiet w (drop_conn number w) (close cause number w) (by_end number w) (drop_named number w valid) (added_quiet (said.Closing number cause ∷ end_line number cause ∷ []) (drop_conn number w))

pub ended_named : (cause : Closing) (number : ℕ) (w : World) → IsValid w.conf → Names w (ended cause number w) (by_end number w)
ended_named cause number w valid =
    then_quiet w (drop_conn number w) (ended cause number w) (by_end number w) (drop_named number w valid) (added_quiet (end_line number cause ∷ []) (drop_conn number w))

pub change_named : (number : ℕ) (f : Conn → Conn) → ((c : Conn) → (f c).dp ≡ c.dp) → (w : World) → IsValid w.conf → Names w (forget_lost (record w { conns = changed number f w.conns })) (by_change number f w)
change_named number f dps w valid =
    let next : World = record w { conns = changed number f w.conns } in
    join w next (forget_lost next) (places w.conf (dps_on number w.conns)) (lost next)
    (conns_named w valid (changed number f w.conns) (dps_on number w.conns)
    (λ dp out. ap (option_map seen) (sym (changed_same number dp f (λ c is. ap (λ o. option_map_or (λ (d : DpId). d.0 == dp.0) o false) (dps c) ∙ is) w.conns out)))) (lost_named next)

pub take_named : (number : ℕ) (dp : DpId) (w : World) → IsValid w.conf → Names w (take_dp number dp w) (by_take number dp w)
take_named number dp w valid =
    let next : World = record w { conns = changed number (with_dp dp) w.conns } in
    join w next (forget_lost next) (places w.conf (dp ∷ dps_on number w.conns)) (lost next)
    (conns_named w valid (changed number (with_dp dp) w.conns) (dp ∷ dps_on number w.conns)
    (λ other out.
    let parts = or_none (dp.0 == other.0) (is_running (dps_on number w.conns) other) out in
    ap (option_map seen) (sym (changed_same number other (with_dp dp) (λ c is. parts.0) w.conns parts.1)))) (lost_named next)

pub replace_named : (dp : DpId) (w : World) → IsValid w.conf → Names w (replace dp w) (by_replace dp w)
replace_named dp w valid = of_option w (λ c. close Replaced c.number w) (λ c. by_end c.number w) (conn_of w.conns dp) (λ c. close_named Replaced c.number w valid)

-- ---- hosts and neighbours

pub learn_named : (dp : DpId) (port vid : ℕ) (mac : Mac) (w : World) → Names w (learn dp port vid mac w) (change.Host (group_of w.conf dp) vid mac ∷ [])
learn_named dp port vid mac w =
    let heard : HostRec = record { dp = dp; port = port; vid = vid; mac = mac; learned = w.moment } in
    let behind : World = record w { hosts = hosts.learned w.conf w.hosts heard } in
    let names : List Change = change.Host (group_of w.conf dp) vid mac ∷ [] in
    of_either w behind w names (is_up (ups w) dp port)
    (record {
      conf = refl;
      named = record {
        hosts = λ group v m other. host_proofs.learned_named w.conf group v m (now w) heard w.hosts.hosts (hosts.outcome w.conf w.hosts heard) other;
        ports = λ d p other. absurd (other refl);
        dps = λ d other. absurd (other refl);
        neighbours = λ group v ip other. absurd (other refl);
      };
    })
    (some w w names (nothing w))

-- another list of neighbours, of which each that differs is named
module _ (w : World) (table : neighbours.Table) (names : List Change) where
  abbrev AreTold : Type 0
  AreTold = (group : DpId) (vid : ℕ) (ip : Ip) → (mac_of_neighbour w.neighbours.neighbours group vid ip ≡ mac_of_neighbour table.neighbours group vid ip → ⊥) → Contains names (change.Neighbour group vid ip)

  pub neighbours_named : AreTold → Names w (record w { neighbours = table }) names
  neighbours_named each = record {
    conf = refl;
    named = record {
      hosts = λ group vid mac other. absurd (other refl);
      ports = λ dp port other. absurd (other refl);
      dps = λ dp other. absurd (other refl);
      neighbours = each;
    };
  }

pub told_named : (keeps : NeighRec → Bool) (told : NeighRec) (w : World) → Names w (record w { neighbours = neighbours.after_told keeps told w.neighbours }) (change.Neighbour told.group told.vid told.ip ∷ [])
told_named keeps told w =
    neighbours_named w (neighbours.after_told keeps told w.neighbours) (change.Neighbour told.group told.vid told.ip ∷ [])
    (λ group vid ip other. neighbour_proofs.told_named group vid ip keeps told w.neighbours.neighbours (neighbours.outcome w.neighbours told) other)

-- one that is wanted
pub want_quiet : (group : DpId) (vid : ℕ) (ip : Ip) (w : World) → Names w (want group vid ip w) []
want_quiet group vid ip w =
    let told : NeighRec = neighbours.unresolved group vid ip w.moment in
    neighbours_named w (neighbours.after_told (neighbours.stays true) told w.neighbours) []
    (λ g v i other. absurd (other (sym (neighbour_proofs.wanted_same g v i told refl w.neighbours.neighbours (neighbours.outcome w.neighbours told)))))

-- ---- what opens and what comes

pub open_quiet : (number : ℕ) (w : World) → Names w (open_conn number w) []
open_quiet number w =
    let c : Conn = record { number = number; session = opened w.moment; dp = None; sent = [] } in
    let next : World = record w { conns = put c w.conns } in
    join w next (open_conn number w) [] [] (conns_quiet w (put c w.conns) (λ dp. ap (option_map seen) (sym (put_same c refl dp w.conns)))) (say_quiet number (messages.Hello 4 (Some 16)) next)

fed_seen : (piece : List ℕ) (now : Moment) (c : Conn) → seen (with_fed piece now c) ≡ seen c
fed_seen [] now c = refl
fed_seen (byte ∷ piece) now c = refl

pub feed_quiet : (number : ℕ) (piece : List ℕ) (w : World) → Names w (feed number piece w) []
feed_quiet number piece w = kept_quiet number (with_fed piece w.moment) (λ c. refl) (fed_seen piece w.moment) w
