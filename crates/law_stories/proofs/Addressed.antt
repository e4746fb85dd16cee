-- The addresses of the hosts and neighbours that were learned are Ethernet addresses, where what was heard is bytes.
use Rattle.std.proofs.Common.{nat_lt, ◌<◌, filter, not, ◌≡◌, ℕ, ◌==◌, ◌&&◌, Bool, true, false, Option, Some, None, List, [], ◌∷◌, Result, map, refl, sym, subst, if◌then◌else◌}
use Rattle.std.specs.List.{list_any}
use Rattle.std.specs.Option.{option_and_then, option_map, option_map_or}
use Rattle.net_base.specs.declared.address.Mac.{Mac}
use Rattle.net_base.specs.declared.numbers.DpId.{DpId}
use Rattle.of_match.specs.InPort.{in_port}
use Rattle.conf_types.specs.declared.address.Ip.{Ip}
use Rattle.conf_types.specs.declared.address.Ip.TheVariants as ips
use Rattle.conf_types.specs.declared.state.HostRec.{HostRec}
use Rattle.conf_types.specs.declared.vlan.Vlan.{Vlan}
use Rattle.conf_types.specs.Configuration.{Configuration, vlan_with}
use Rattle.conf_types.specs.Groups.{group_of}
use Rattle.conf_types.specs.Links.{is_up}
use Rattle.conf_types.specs.State.{is_running}
use Rattle.host_learn.specs.Learning.{learned}
use Rattle.of13_codec.specs.declared.message.Message.{Message}
use Rattle.of13_codec.specs.declared.message.Message.TheVariants as messages
use Rattle.of13_codec.specs.declared.packet_in.PacketIn.{PacketIn}
use Rattle.flow_messages.specs.declared.messages.TheConstants.{COOKIE}
use Rattle.pkt_view.specs.Frame.{FrameParts, parts}
use Rattle.flow_messages.specs.Messages.{delete_all}
use Rattle.neighbour_resolve.specs.Answers.{answer}
use Rattle.neighbour_resolve.specs.Counted.{counted_vid}
use Rattle.neighbour_resolve.specs.Hearing.{heard_sender}
use Rattle.switch_session.specs.declared.closing.Closing.{Closing}
use Rattle.switch_session.specs.declared.closing.Closing.TheVariants.{BadFrame}
use Rattle.switch_session.specs.Connections.{opened}
use Rattle.ctl_world.specs.declared.conns.Conn.{Conn}
use Rattle.ctl_world.specs.Connections.{change, conn_with, put, with_asked, with_dp, with_fed, with_heard, with_looked, with_said}
use Rattle.ctl_world.specs.Ends.{close, ended, forget_lost}
use Rattle.ctl_world.specs.Frames.{with_read}
use Rattle.ctl_world.specs.Saying.{ask, packet_out, say, say_by}
use Rattle.ctl_world.specs.World.{World, running, ups}
use Rattle.ctl_packets.specs.Packets.{destination, gateways, glean, glean_at, glean_in, glean_to, hear_neighbour, hear_sender, is_for_gateway, is_resolved, is_route_table, learn, network_vlan, outgoing, packet_at, packet_by, packet_in, packet_of_table, reply, sources, want}
use Rattle.ctl_life.specs.Life.{read, take_dp, feed, open_conn}
use Rattle.ctl_core.specs.Hearing.{hear_frame, packet, want_gateways}
use Rattle.ctl_core.specs.Reloading.{reload, renew}
use Rattle.ctl_core.specs.Turns.{pass}
use Rattle.std.specs.Prelude.{IfSome}
use Rattle.std.specs.List.{AllByRecursion, cons_option, filter_map}
use Rattle.net_base.specs.Address.{IsSixBytes, is_group}
use Rattle.net_base.specs.declared.numbers.Moment.{Moment}
use Rattle.conf_types.specs.declared.state.NeighRec.{NeighRec}
use Rattle.conf_types.specs.declared.vlan.Route.{Route}
use Rattle.conf_types.specs.Configuration.{dp_with}
use Rattle.conf_types.specs.Lists.{is_same}
use Rattle.conf_types.specs.Networks.{is_neighbour_address}
use Rattle.conf_types.specs.Routing.{vips_of}
use Rattle.host_learn.specs.declared.learn.Learn.{Learn}
use Rattle.host_learn.specs.declared.learn.Learn.TheVariants as learns
use Rattle.host_learn.specs.Learning.{hosts_after, is_heard, is_in_place}
use Rattle.host_learn.specs.Learning as learning
use Rattle.host_learn.proofs.KeptParts.{kept_part}
use Rattle.host_learn.proofs.Lists.{all_part, all_push}
use Rattle.neighbour_resolve.specs.declared.hearing.Sender.{Sender}
use Rattle.neighbour_resolve.specs.declared.neighbour.Want.{Want}
use Rattle.neighbour_resolve.specs.declared.neighbour.Want.TheVariants as wants
use Rattle.neighbour_resolve.specs.Due.{next}
use Rattle.neighbour_resolve.specs.Discovery.{nd_message, who}
use Rattle.neighbour_resolve.specs.Hearing.{nd_sender, sender_at, upper_sender}
use Rattle.neighbour_resolve.specs.Kept.{last_of_each, may_stay, regrouped}
use Rattle.neighbour_resolve.specs.Table.{Table as Neighbours, after_told, gives_way, neighbours_after, stays, unresolved}
use Rattle.neighbour_resolve.specs.Table as table
use Rattle.of_match.proofs.AfterOrder.{all_append, all_filter}
use Rattle.pkt_view.specs.Frame.{UpperParts, Unknown, Arp, V4, V6}
use Rattle.ctl_world.specs.Connections.{has_number, without}
use Rattle.ctl_core.specs.Hearing.{want_gateways, want_routes}
use Rattle.ctl_core.proofs.Walk.{Setup, Steps, either, heard_kept, pass_kept, reload_kept, wants_by, with_any}
use Rattle.law_stories.proofs.PacketBytes.{AreBytes, HasBytes, behind_bytes, source_six}

abbrev pub IsHost : HostRec → Type 0
IsHost h = IsSixBytes h.mac.0

abbrev pub IsNeighbour : NeighRec → Type 0
IsNeighbour n = IfSome n.mac (λ mac. IsSixBytes mac.0)

abbrev pub IsRead : Conn → Type 0
IsRead c = AreBytes c.session.unread

-- and what is still to be read is bytes
abbrev pub IsAddressed : World → Type 0
IsAddressed w = AllByRecursion IsHost w.hosts.hosts × AllByRecursion IsNeighbour w.neighbours.neighbours × AllByRecursion IsRead w.conns

-- ---- connections

changed_read : (f : Conn → Conn) → ((c : Conn) → IsRead c → IsRead (f c)) → (number : ℕ) (conns : List Conn) → AllByRecursion IsRead conns → AllByRecursion IsRead (change number f conns)
changed_read f kept number [] all = tt
changed_read f kept number (c ∷ cs) all =
    elim (has_number number c) as (λ b. AllByRecursion IsRead (if b then f c ∷ cs else c ∷ change number f cs)) [
      | true ↦ (kept c all.0, all.1)
      | false ↦ (all.0, changed_read f kept number cs all.1)
    ]

pub changed : (f : Conn → Conn) → ((c : Conn) → IsRead c → IsRead (f c)) → (number : ℕ) (w : World) → IsAddressed w → IsAddressed (record w { conns = change number f w.conns })
changed f kept number w is = (is.0, is.1, changed_read f kept number w.conns is.2)

pub said_addressed : (number : ℕ) (m : Message) (w : World) → IsAddressed w → IsAddressed (say number m w)
said_addressed number m w known =
    elim (conn_with w.conns number) as (λ o. IsAddressed (option_map_or (say_by with_said m w) o w)) [
      | Some c ↦ changed with_said (λ d all. all) c.number w known
      | None ↦ known
    ]

pub asked_addressed : (number : ℕ) (m : Message) (w : World) → IsAddressed w → IsAddressed (ask number m w)
asked_addressed number m w known =
    elim (conn_with w.conns number) as (λ o. IsAddressed (option_map_or (say_by with_asked m w) o w)) [
      | Some c ↦ changed with_asked (λ d all. all) c.number w known
      | None ↦ known
    ]

forgotten : (w : World) → IsAddressed w → IsAddressed (forget_lost w)
forgotten w is = (all_filter IsHost _ w.hosts.hosts is.0, all_filter IsNeighbour _ w.neighbours.neighbours is.1, is.2)

pub close_addressed : (cause : Closing) (number : ℕ) (w : World) → IsAddressed w → IsAddressed (close cause number w)
close_addressed cause number w is = forgotten (record w { conns = without number w.conns }) (is.0, is.1, all_filter IsRead _ w.conns is.2)

pub ended_addressed : (cause : Closing) (number : ℕ) (w : World) → IsAddressed w → IsAddressed (ended cause number w)
ended_addressed cause number w is = forgotten (record w { conns = without number w.conns }) (is.0, is.1, all_filter IsRead _ w.conns is.2)

take_addressed : (number : ℕ) (dp : DpId) (w : World) → IsAddressed w → IsAddressed (take_dp number dp w)
take_addressed number dp w is = forgotten (record w { conns = change number (with_dp dp) w.conns }) (changed (with_dp dp) (λ d all. all) number w is)

-- ---- hosts and neighbours

hosts_learned : (conf : Configuration) (heard : HostRec) → IsHost heard → (hosts : List HostRec) → AllByRecursion IsHost hosts → (l : Learn) → AllByRecursion IsHost (hosts_after conf heard hosts l)
hosts_learned conf heard six hosts all learns.Learned = all_push IsHost hosts heard all six
hosts_learned conf heard six hosts all learns.Moved =
    all_push IsHost (filter (λ host. not (is_heard conf heard host)) hosts) heard (all_filter IsHost _ hosts all) six
hosts_learned conf heard six hosts all learns.Refreshed = each hosts all
  where
    each : (hs : List HostRec) → AllByRecursion IsHost hs → AllByRecursion IsHost (map (λ host. if is_in_place heard host then record host { learned = heard.learned } else host) hs)
    each [] all = tt
    each (h ∷ hs) all =
        (elim (is_in_place heard h) as (λ b. IsHost (if b then record h { learned = heard.learned } else h)) [ true ↦ all.0 | false ↦ all.0 ], each hs all.1)
hosts_learned conf heard six hosts all learns.Full = all
hosts_learned conf heard six hosts all learns.NotLearnable = all

neighbours_told : (keep : NeighRec → Bool) (n : NeighRec) → IsNeighbour n → (ns : List NeighRec) → AllByRecursion IsNeighbour ns → (t : Want) → AllByRecursion IsNeighbour (neighbours_after keep n ns t)
neighbours_told keep n six ns all wants.Added = all_push IsNeighbour ns n all six
neighbours_told keep n six ns all wants.Full = all
neighbours_told keep n six ns all wants.Known = each ns all
  where
    each : (ms : List NeighRec) → AllByRecursion IsNeighbour ms → AllByRecursion IsNeighbour (map (λ m. if gives_way keep n m then n else m) ms)
    each [] all = tt
    each (m ∷ ms) all = (elim (gives_way keep n m) as (λ b. IsNeighbour (if b then n else m)) [ true ↦ six | false ↦ all.0 ], each ms all.1)

table_told : (keep : NeighRec → Bool) (n : NeighRec) → IsNeighbour n → (t : Neighbours) → AllByRecursion IsNeighbour t.neighbours → AllByRecursion IsNeighbour (after_told keep n t).neighbours
table_told keep n six t all = neighbours_told keep n six t.neighbours all (table.outcome t n)

-- ---- packets

glean_in_addressed : (group : DpId) (ip : Ip) (w : World) (vid : ℕ) → IsAddressed w → IsAddressed (glean_in group ip w vid)
glean_in_addressed group ip w vid known = either IsAddressed (is_resolved w.neighbours.neighbours group vid ip) w (want group vid ip w) known (known.0, table_told (stays true) (unresolved group vid ip w.moment) tt w.neighbours known.1, known.2)

glean_to_addressed : (group : DpId) (vid : ℕ) (ip : Ip) (w : World) → IsAddressed w → IsAddressed (glean_to group vid ip w)
glean_to_addressed group vid ip w known = with_any IsAddressed (glean_in group ip w) (network_vlan w.conf vid ip) w (λ v. glean_in_addressed group ip w v known) known

glean_at_addressed : (dp : DpId) (frame : FrameParts) (w : World) (v : Vlan) → IsAddressed w → IsAddressed (glean_at dp frame w v)
glean_at_addressed dp frame w v known =
    let to : Ip → World = λ ip. glean_to (group_of w.conf dp) v.vid ip w in
    either IsAddressed (is_for_gateway v frame) (option_map_or to (destination frame.upper) w) w
    (with_any IsAddressed to (destination frame.upper) w (λ ip. glean_to_addressed (group_of w.conf dp) v.vid ip w known) known) known

glean_addressed : (dp : DpId) (vid : ℕ) (frame : FrameParts) (w : World) → IsAddressed w → IsAddressed (glean dp vid frame w)
glean_addressed dp vid frame w known = with_any IsAddressed (glean_at dp frame w) (vlan_with w.conf.vlans vid) w (λ v. glean_at_addressed dp frame w v known) known

learn_addressed : (dp : DpId) (port vid : ℕ) (mac : Mac) → IsSixBytes mac.0 → (w : World) → IsAddressed w → IsAddressed (learn dp port vid mac w)
learn_addressed dp port vid mac six w known =
    let heard : HostRec = record { dp = dp; port = port; vid = vid; mac = mac; learned = w.moment } in
    either IsAddressed (is_up (ups w) dp port) (record w { hosts = learned w.conf w.hosts heard }) w
    (hosts_learned w.conf heard six w.hosts.hosts known.0 (learning.outcome w.conf w.hosts heard), known.1, known.2) known

module _ (conf : Configuration) (vid : ℕ) (src : Mac) (six : IsSixBytes src.0) where
  at_six : (ip : Ip) → IfSome (sender_at conf vid src ip) (λ s. IsSixBytes s.mac.0)
  at_six ip =
      elim (is_neighbour_address (vips_of conf vid) ip && not (is_group src)) as (λ b. IfSome {T = Sender} (if b then Some (record { ip = ip; mac = src }) else None) (λ s. IsSixBytes s.mac.0)) [
        | true ↦ six
        | false ↦ tt
      ]

  where_six : (b : Bool) (ip : Ip) → IfSome {T = Sender} (if b then sender_at conf vid src ip else None) (λ s. IsSixBytes s.mac.0)
  where_six true ip = at_six ip
  where_six false ip = tt

  sender_six : (upper : UpperParts) → IfSome (upper_sender conf vid src upper) (λ s. IsSixBytes s.mac.0)
  sender_six Unknown = tt
  sender_six (V4 header payload) = tt
  sender_six (Arp op sha spa tha tpa) = where_six (is_same sha.0 src.0) (ips.V4 spa)
  sender_six (V6 header payload) =
      elim (nd_message src header payload) as (λ o. IfSome (option_and_then (nd_sender conf vid src) o) (λ s. IsSixBytes s.mac.0)) [
        | None ↦ tt
        | Some m ↦ where_six m.is_own (who m)
      ]

hear_addressed : (dp : DpId) (vid : ℕ) (frame : FrameParts) → IsSixBytes frame.src.0 → (w : World) → IsAddressed w → IsAddressed (hear_neighbour dp vid frame w)
hear_addressed dp vid frame six w known = by (heard_sender w.conf vid frame) (sender_six w.conf vid frame.src six frame.upper)
  where
    by : (o : Option Sender) → IfSome o (λ s. IsSixBytes s.mac.0) → IsAddressed (option_map_or (hear_sender dp vid w) o w)
    by None is = known
    by (Some s) is = (known.0, table_told (stays false) _ is w.neighbours known.1, known.2)

reply_addressed : (number : ℕ) (dp : DpId) (port vid : ℕ) (frame : FrameParts) (w : World) → IsAddressed w → IsAddressed (reply number dp port vid frame w)
reply_addressed number dp port vid frame w known =
    with_any IsAddressed (λ out. say number (packet_out out) w) (outgoing w.conf dp port vid (answer w.conf dp port frame)) w (λ out. said_addressed number (packet_out out) w known) known

table_addressed : (table number : ℕ) (dp : DpId) (port vid : ℕ) (frame : FrameParts) → IsSixBytes frame.src.0 → (w : World) → IsAddressed w → IsAddressed (packet_of_table table number dp port vid frame w)
table_addressed table number dp port vid frame six w known =
    let learned : World = learn dp port vid frame.src w in
    let gleaned : World = glean dp vid frame w in
    let answered : World = reply number dp port vid frame (hear_neighbour dp vid frame w) in
    either IsAddressed (table == sources) learned (if is_route_table table frame.upper then gleaned else if table == gateways then answered else w) (learn_addressed dp port vid frame.src six w known)
    (either IsAddressed (is_route_table table frame.upper) gleaned (if table == gateways then answered else w) (glean_addressed dp vid frame w known)
    (either IsAddressed (table == gateways) answered w (reply_addressed number dp port vid frame (hear_neighbour dp vid frame w) (hear_addressed dp vid frame six w known)) known))

at_addressed : (m : PacketIn) (number : ℕ) (dp : DpId) (w : World) (port : ℕ) (frame : FrameParts) → IsSixBytes frame.src.0 → IsAddressed w → IsAddressed (packet_at m number dp w port frame)
at_addressed m number dp w port frame six known =
    with_any IsAddressed (λ vid. packet_of_table m.table number dp port vid frame w) (counted_vid w.conf dp port frame) w (λ vid. table_addressed m.table number dp port vid frame six w known) known

by_addressed : (m : PacketIn) (number : ℕ) (dp : DpId) (w : World) (port : ℕ) → AreBytes m.payload → IsAddressed w → IsAddressed (packet_by m number dp w port)
by_addressed m number dp w port bytes known = by (parts m.payload) (source_six m.payload bytes)
  where
    by : (o : Option FrameParts) → IfSome o (λ frame. IsSixBytes frame.src.0) → IsAddressed (option_map_or (packet_at m number dp w port) o w)
    by None is = known
    by (Some frame) is = at_addressed m number dp w port frame is known

packet_in_addressed : (m : PacketIn) (number : ℕ) (dp : DpId) (w : World) → AreBytes m.payload → IsAddressed w → IsAddressed (packet_in m number dp w)
packet_in_addressed m number dp w bytes known =
    either IsAddressed (m.cookie == COOKIE && is_running (running w) dp) (option_map_or (packet_by m number dp w) (in_port m.fields) w) w
    (with_any IsAddressed (packet_by m number dp w) (in_port m.fields) w (λ port. by_addressed m number dp w port bytes known) known) known

packet_addressed : (m : Message) → HasBytes m → (number : ℕ) (dp : Option DpId) (w : World) → IsAddressed w → IsAddressed (packet m number dp w)
packet_addressed (messages.PacketIn m) bytes number (Some dp) w known = packet_in_addressed m number dp w bytes known
packet_addressed m bytes number dp w known = known

-- ---- gateways

routes_told : (group : DpId) (vid : ℕ) (routes : List Route) (moment : Moment) (t : Neighbours) → AllByRecursion IsNeighbour t.neighbours → AllByRecursion IsNeighbour (want_routes group vid routes moment t).neighbours
routes_told group vid [] moment t all = all
routes_told group vid (r ∷ rs) moment t all =
    routes_told group vid rs moment (after_told (stays true) (unresolved group vid r.gw moment) t) (table_told (stays true) (unresolved group vid r.gw moment) tt t all)

gateways_told : (group : DpId) (vlans : List Vlan) (moment : Moment) (t : Neighbours) → AllByRecursion IsNeighbour t.neighbours → AllByRecursion IsNeighbour (want_gateways group vlans moment t).neighbours
gateways_told group [] moment t all = all
gateways_told group (v ∷ vs) moment t all = gateways_told group vs moment (want_routes group v.vid v.routes moment t) (routes_told group v.vid v.routes moment t all)

single : Steps IsAddressed
single = record {
  sends = λ number out w known. said_addressed number (packet_out out) w known;
  asks_echo = λ number w known. said_addressed number (messages.EchoRequest []) w known;
  closes = λ cause number w at known. close_addressed cause number w known;
  looks = λ number w known. changed (with_looked w.moment) (λ d all. all) number w known;
  shows = λ moment w known. known;
  ages = λ w known. (all_filter IsHost _ w.hosts.hosts known.0, known.1, known.2);
  wants = λ group w known. wants_by IsAddressed group w (known.0, gateways_told group w.conf.vlans w.moment w.neighbours known.1, known.2) known;
  tells = λ text w known. known;
}

-- ---- one message

setup : Setup IsAddressed
setup = record {
  hears = λ m xid number w known. forgotten (record w { conns = change number (with_heard m xid) w.conns }) (changed (with_heard m xid) (λ d all. all) number w known);
  features = λ number w known. said_addressed number messages.FeaturesRequest w known;
  takes = λ number dp w known. take_addressed number dp w known;
  ports = λ number w known. asked_addressed number messages.PortDescRequest w known;
  wipes = λ number w known. asked_addressed number messages.BarrierRequest (say number delete_all w) (said_addressed number delete_all w known);
  answers = λ number payload xid w at known. known;
  refuses = λ number xid w at known. known;
}

pub heard_addressed : (heard : Option (Message × ℕ)) → IfSome heard (λ s. HasBytes s.0) → (number : ℕ) (w : World) → IsAddressed w → IsAddressed (hear_frame heard number w)
heard_addressed heard bytes number w known =
    heard_kept IsAddressed single setup heard (λ s is. packet_addressed s.0 (subst (λ (o : Option (Message × ℕ)). IfSome o (λ x. HasBytes x.0)) is bytes)) number w
    (close_addressed BadFrame number w known) known

pub read_addressed : (number : ℕ) (w : World) → IsAddressed w → IsAddressed (read number w)
read_addressed number w known = changed with_read (λ c all. behind_bytes c.session.unread all) number w known

-- ---- what opens and what comes, and the clock

pub pass_addressed : (moment : ℕ) (w : World) → IsAddressed w → IsAddressed (pass moment w)
pass_addressed moment w known = pass_kept IsAddressed single moment w known

pub feed_addressed : (number : ℕ) (piece : List ℕ) (w : World) → AreBytes piece → IsAddressed w → IsAddressed (feed number piece w)
feed_addressed number [] w bytes known = changed (with_fed [] w.moment) (λ c all. all) number w known
feed_addressed number (byte ∷ piece) w bytes known =
    changed (with_fed (byte ∷ piece) w.moment) (λ c all. all_append (λ b. b < 256) c.session.unread (byte ∷ piece) all bytes) number w known

put_read : (c : Conn) (conns : List Conn) → IsRead c → AllByRecursion IsRead conns → AllByRecursion IsRead (put c conns)
put_read c [] here all = (here, tt)
put_read c (d ∷ ds) here all =
    elim (nat_lt c.number d.number) as (λ b. AllByRecursion IsRead (if b then c ∷ d ∷ ds else d ∷ put c ds)) [ true ↦ (here, all) | false ↦ (all.0, put_read c ds here all.1) ]

pub open_addressed : (number : ℕ) (w : World) → IsAddressed w → IsAddressed (open_conn number w)
open_addressed number w known =
    let c : Conn = record { number = number; session = opened w.moment; dp = None; sent = [] } in
    said_addressed number (messages.Hello 4 (Some 16)) (record w { conns = put c w.conns }) (known.0, known.1, put_read c w.conns tt known.2)

-- ---- a reload

last_six : (ns : List NeighRec) → AllByRecursion IsNeighbour ns → AllByRecursion IsNeighbour (last_of_each ns)
last_six [] all = tt
last_six (n ∷ ns) all =
    elim (list_any (table.is_same n) ns) as (λ b. AllByRecursion IsNeighbour (if b then last_of_each ns else n ∷ last_of_each ns)) [ true ↦ last_six ns all.1 | false ↦ (all.0, last_six ns all.1) ]

regrouped_six : (conf : Configuration) (ns : List NeighRec) → AllByRecursion IsNeighbour ns → AllByRecursion IsNeighbour (filter_map (regrouped conf) ns)
regrouped_six conf [] all = tt
regrouped_six conf (n ∷ ns) all =
    elim (dp_with conf.dps n.group) as (λ o. AllByRecursion IsNeighbour (cons_option (option_map (λ d. record n { group = group_of conf d.id }) o) (filter_map (regrouped conf) ns))) [
      | Some d ↦ (all.0, regrouped_six conf ns all.1)
      | None ↦ regrouped_six conf ns all.1
    ]

renew_addressed : (next : Configuration) (w : World) → IsAddressed w → IsAddressed (renew next w)
renew_addressed next w known =
    let v : World = record w { conf = next } in (
      all_part IsHost _ w.hosts.hosts known.0 (kept_part next (ups v) w.moment.0 w.hosts),
      last_six (filter (may_stay next (running v)) (filter_map (regrouped next) w.neighbours.neighbours))
          (all_filter IsNeighbour (may_stay next (running v)) (filter_map (regrouped next) w.neighbours.neighbours) (regrouped_six next w.neighbours.neighbours known.1)),
      known.2,
    )

pub reload_addressed : (text : Result Configuration (List ℕ)) (w : World) → IsAddressed w → IsAddressed (reload text w)
reload_addressed text w known = reload_kept IsAddressed single text (λ next v is kept. renew_addressed next v kept) w known
