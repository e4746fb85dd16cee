-- When the times of hosts end behind a packet, against a moment before which none did.
use Rattle.std.proofs.Common.{◌≡◌, ℕ, ◌≤◌, ◌==◌, ◌&&◌, Bool, true, false, Option, Some, None, List, [], ◌∷◌, filter, map, not, refl, inl, inr, sym, ap, subst, ◌∙◌, arith, eqb-true, if◌then◌else◌}
use Rattle.std.specs.Prelude.{◌⊎◌, min}
use Rattle.std.specs.List.{AllByRecursion}
use Rattle.std.specs.Option.{option_and_then, option_map_or}
use Rattle.std.proofs.lemmas.Bool.{and_parts}
use Rattle.net_base.specs.declared.numbers.DpId.{DpId}
use Rattle.net_base.specs.declared.numbers.Moment.{Moment}
use Rattle.conf_types.specs.declared.change.Change.{Change}
use Rattle.conf_types.specs.declared.change.Change.TheVariants as change
use Rattle.conf_types.specs.declared.state.HostRec.{HostRec}
use Rattle.conf_types.specs.Configuration.{Configuration}
use Rattle.conf_types.specs.Groups.{group_of}
use Rattle.conf_types.specs.Links.{is_up}
use Rattle.conf_types.specs.Lists.{is_same}
use Rattle.conf_types.specs.State.{is_host_at, is_running}
use Rattle.host_learn.specs.declared.learn.Learn.{Learn}
use Rattle.host_learn.specs.declared.learn.Learn.TheVariants.{Learned, Moved, Refreshed, Full, NotLearnable}
use Rattle.host_learn.specs.Learning.{hosts_after, is_heard, is_in_place, learned, outcome}
use Rattle.of_match.specs.InPort.{in_port}
use Rattle.of13_codec.specs.declared.packet_in.PacketIn.{PacketIn}
use Rattle.flow_messages.specs.declared.messages.TheConstants.{COOKIE}
use Rattle.pkt_view.specs.Frame.{FrameParts, parts}
use Rattle.neighbour_resolve.specs.declared.hearing.Sender.{Sender}
use Rattle.neighbour_resolve.specs.Counted.{counted_vid}
use Rattle.neighbour_resolve.specs.Hearing.{heard_sender}
use Rattle.ctl_world.specs.Connections.{conn_with, with_said}
use Rattle.ctl_world.specs.Saying.{packet_out, say_by}
use Rattle.ctl_world.specs.World.{World, running, ups}
use Rattle.ctl_packets.specs.Packets.{gateways, is_route_table, packet_in, sources}
use Rattle.ctl_packets.specs.Told.{told_at, told_by, told_in}
use Rattle.ctl_packets.proofs.Keeping.{packet_in_kept}
use Rattle.ctl_packets.proofs.PacketHosts.{hosts_told, packet_hosts}
use Rattle.ctl_settle.specs.Rest.{AreBounded, host_until}
use Rattle.ctl_settle.proofs.Until.{less_bounded, same_bounded}
use Rattle.ctl_settle.specs.Names.{Names, host}
use Rattle.ctl_settle.specs.Names as names
use Rattle.ctl_settle.proofs.Names.{packet_named}
use Rattle.law_runs.specs.Members.{all_joined}
use Rattle.ctl_core.specs.declared.ends.Ends.{Ends}
use Rattle.ctl_core.specs.declared.ends.Ends.TheVariants as ends
use Rattle.ctl_core.specs.declared.found.Found.{Found}
use Rattle.ctl_core.specs.declared.found.Found.TheVariants.{Nothing, Again, Due, Heard, One, Named, Any}
use Rattle.ctl_core.specs.Found.{Bounds, Leaves, Tells, by_packet, by_parts, by_port, by_table, ends_of, is_touched}

-- ---- the hosts that are known behind one that is heard

module _ (conf : Configuration) (moment until : ℕ) (h : HostRec) where
  abbrev bound : ℕ
  bound = min until (host_until conf moment h)

  abbrev Ends_late : HostRec → Type 0
  Ends_late x = until ≤ host_until conf moment x

  abbrev Is_bound : HostRec → Type 0
  Is_bound x = bound ≤ host_until conf moment x

  late : (hosts : List HostRec) → AllByRecursion Ends_late hosts → AllByRecursion Is_bound hosts
  late [] all = tt
  late (x ∷ xs) all = (omega (arith, all.0), late xs all.1)

  own : Is_bound h
  own = omega arith

  -- one that stands where it is heard ends when the one does that is heard
  in_place : (x : HostRec) → is_in_place h x ≡ true → Is_bound (record x { learned = h.learned })
  in_place x is =
      let place = and_parts (is_host_at h.dp h.port x && (x.vid == h.vid)) (is_same x.mac.0 h.mac.0) is in
      let at = and_parts (is_host_at h.dp h.port x) (x.vid == h.vid) place.0 in
      let where_it_is = and_parts (x.dp.0 == h.dp.0) (x.port == h.port) at.0 in
      let dp : h.dp ≡ x.dp = let same = eqb-true x.dp.0 h.dp.0 where_it_is.0 in λ i. record { 0 = sym same i } in
      let port : h.port ≡ x.port = sym (eqb-true x.port h.port where_it_is.1) in
      subst (λ (n : ℕ). bound ≤ host_until conf moment (record x { dp = x.dp; port = n; learned = h.learned })) port
      (subst (λ (d : DpId). bound ≤ host_until conf moment (record x { dp = d; port = h.port; learned = h.learned })) dp own)

  refreshed_bound : (hosts : List HostRec) → AllByRecursion Ends_late hosts → AllByRecursion Is_bound (map (λ x. if is_in_place h x then record x { learned = h.learned } else x) hosts)
  refreshed_bound [] all = tt
  refreshed_bound (x ∷ xs) all = (by (is_in_place h x) refl, refreshed_bound xs all.1)
    where
      by : (b : Bool) → is_in_place h x ≡ b → Is_bound (if b then record x { learned = h.learned } else x)
      by true is = in_place x is
      by false is = omega (arith, all.0)

  kept_bound : (keep : HostRec → Bool) (hosts : List HostRec) → AllByRecursion Ends_late hosts → AllByRecursion Is_bound (filter keep hosts)
  kept_bound keep [] all = tt
  kept_bound keep (x ∷ xs) all = by (keep x) (kept_bound keep xs all.1)
    where
      by : (b : Bool) → AllByRecursion Is_bound (filter keep xs) → AllByRecursion Is_bound (if b then x ∷ filter keep xs else filter keep xs)
      by true rest = (omega (arith, all.0), rest)
      by false rest = rest

  pub after_bound : (hosts : List HostRec) (said : Learn) → AllByRecursion Ends_late hosts → AllByRecursion Is_bound (hosts_after conf h hosts said)
  after_bound hosts Learned all = all_joined Is_bound hosts (h ∷ []) (late hosts all) (own, tt)
  after_bound hosts Moved all =
      all_joined Is_bound (filter (λ x. not (is_heard conf h x)) hosts) (h ∷ []) (kept_bound (λ x. not (is_heard conf h x)) hosts all) (own, tt)
  after_bound hosts Refreshed all = refreshed_bound hosts all
  after_bound hosts Full all = late hosts all
  after_bound hosts NotLearnable all = late hosts all

-- ---- the host that a packet tells of is the one that is found

module _ (m : PacketIn) (dp : DpId) (w : World) where
  abbrev IsTold : Option HostRec → Found → Type 0
  IsTold o found = (o ≡ None) ⊎ ((h : HostRec) × ((o ≡ Some h) × (found ≡ Heard h)))

  abbrev heard_at : ℕ → ℕ → FrameParts → HostRec
  heard_at port vid frame = record { dp = dp; port = port; vid = vid; mac = frame.src; learned = w.moment }

  -- of a table that isn't that of sources
  abbrev elsewhere : ℕ → FrameParts → Found
  elsewhere vid frame =
      if is_route_table m.table frame.upper then Due
      else if m.table == gateways then option_map_or (λ s. One (change.Neighbour (group_of w.conf dp) vid s.ip)) (heard_sender w.conf vid frame) Due
      else Due

  module _ (source : (m.table == sources) ≡ true) where
    at_vid : (port vid : ℕ) (frame : FrameParts) (b : Bool) → IsTold (if b then Some (heard_at port vid frame) else None) (by_table m.table dp port vid frame w)
    at_vid port vid frame true = inr (heard_at port vid frame, (refl, ap (λ (c : Bool). if c then Heard (heard_at port vid frame) else elsewhere vid frame) source))
    at_vid port vid frame false = inl refl

    at_parts : (port : ℕ) (frame : FrameParts) (o : Option ℕ)
        → IsTold (option_and_then (λ vid. if is_up (ups w) dp port then Some (heard_at port vid frame) else None) o) (option_map_or (λ vid. by_table m.table dp port vid frame w) o Due)
    at_parts port frame None = inl refl
    at_parts port frame (Some vid) = at_vid port vid frame (is_up (ups w) dp port)

    at_port : (port : ℕ) (o : Option FrameParts) → IsTold (option_and_then (told_at dp w port) o) (option_map_or (by_parts m dp w port) o Due)
    at_port port None = inl refl
    at_port port (Some frame) = at_parts port frame (counted_vid w.conf dp port frame)

    at_in : (o : Option ℕ) → IsTold (option_and_then (told_by m dp w) o) (option_map_or (by_port m dp w) o Due)
    at_in None = inl refl
    at_in (Some port) = at_port port (parts m.payload)

  pub told_found : IsTold (told_in m dp w) (by_packet m dp w)
  told_found = by (m.cookie == COOKIE && is_running (running w) dp && m.table == sources) refl
    where
      by : (b : Bool) → (m.cookie == COOKIE && is_running (running w) dp && m.table == sources) ≡ b → IsTold (if b then option_and_then (told_by m dp w) (in_port m.fields) else None) (by_packet m dp w)
      by false is = inl refl
      by true is = at_in (and_parts (m.cookie == COOKIE && is_running (running w) dp) (m.table == sources) is).1 (in_port m.fields)

-- ---- what a packet leaves

abbrev Stays : Configuration → Moment → World → Type 0
Stays conf moment w = (w.conf ≡ conf) × (w.moment ≡ moment)

packet_stays : (m : PacketIn) (number : ℕ) (dp : DpId) (w : World) → Stays w.conf w.moment (packet_in m number dp w)
packet_stays m number dp w =
    packet_in_kept (Stays w.conf w.moment)
    (λ on out v stays. elim (conn_with v.conns on) as (λ o. Stays w.conf w.moment (option_map_or (say_by with_said (packet_out out) v) o v)) [ Some c ↦ stays | None ↦ stays ])
    (λ hosts neighbours v stays. stays) m number dp w (refl, refl)

module _ (m : PacketIn) (number : ℕ) (dp : DpId) (w : World) where
  abbrev behind : World
  behind = packet_in m number dp w

  -- any end is one that was there, or that of the host that was heard
  of_ends : (e : Ends) → (until : ℕ) → AreBounded until behind → Bounds e until behind
  of_ends ends.Later until all = all
  of_ends (ends.But h) until all = less_bounded behind until (min until (host_until behind.conf behind.moment.0 h)) (omega arith) all
  of_ends ends.Any until all = tt

  pub packet_leaves : Leaves w behind (ends_of (by_packet m dp w))
  packet_leaves until all =
      let stays = packet_stays m number dp w in
      let hosts = packet_hosts m number dp w in
      elim (told_found m dp w) [
        | inl none ↦ of_ends (ends_of (by_packet m dp w)) until (same_bounded behind w until stays.0 stays.1 (hosts ∙ ap (hosts_told w) none) all)
        | inr some ↦
            let h = some.0 in
            let known : behind.hosts ≡ learned w.conf w.hosts h = hosts ∙ ap (hosts_told w) (some.1).0 in
            let left : World = record w { hosts = learned w.conf w.hosts h } in
            let least : AreBounded (min until (host_until w.conf w.moment.0 h)) left = after_bound w.conf w.moment.0 until h w.hosts.hosts (outcome w.conf w.hosts h) all in
            let there : AreBounded (min until (host_until w.conf w.moment.0 h)) behind = same_bounded behind left (min until (host_until w.conf w.moment.0 h)) stays.0 stays.1 known least in
            let here : Bounds (ends.But h) until behind =
            subst (λ (n : ℕ). AreBounded (min until n) behind) (λ i. host_until (sym stays.0 i) (sym stays.1 i).0 h) there in
            subst (λ found. Bounds (ends_of found) until behind) (sym (some.1).1) here
      ]

-- ---- what a packet names

abbrev names_of : Configuration → Found → List Change
names_of conf Nothing = []
names_of conf Again = []
names_of conf Due = []
names_of conf (Heard h) = host conf h ∷ []
names_of conf (One c) = c ∷ []
names_of conf (Named None) = []
names_of conf (Named (Some changes)) = changes
names_of conf Any = []

module _ {A : Type 0} (g : Found → List Change) (f : A → Found) (l : A → List Change) (none : g Due ≡ []) where
  of_option : (o : Option A) → ((x : A) → g (f x) ≡ l x) → g (option_map_or f o Due) ≡ option_map_or l o []
  of_option None each = none
  of_option (Some x) each = each x

table_names : (table : ℕ) (dp : DpId) (port vid : ℕ) (frame : FrameParts) (w : World) → names_of w.conf (by_table table dp port vid frame w) ≡ names.by_table table dp vid frame w
table_names table dp port vid frame w =
    let of_sender : Sender → Found = λ s. One (change.Neighbour (group_of w.conf dp) vid s.ip) in
    let sender : Found = option_map_or of_sender (heard_sender w.conf vid frame) Due in
    let named : List Change = option_map_or (λ (s : Sender). change.Neighbour (group_of w.conf dp) vid s.ip ∷ []) (heard_sender w.conf vid frame) [] in
    elim (table == sources) as (λ b. names_of w.conf (if b then Heard (record { dp = dp; port = port; vid = vid; mac = frame.src; learned = w.moment }) else if is_route_table table frame.upper then Due else if table == gateways then sender else Due)
    ≡ (if b then change.Host (group_of w.conf dp) vid frame.src ∷ [] else if is_route_table table frame.upper then [] else if table == gateways then named else [])) [
      | true ↦ refl
      | false ↦ elim (is_route_table table frame.upper) as (λ b. names_of w.conf (if b then Due else if table == gateways then sender else Due) ≡ (if b then [] else if table == gateways then named else [])) [
        | true ↦ refl
        | false ↦ elim (table == gateways) as (λ b. names_of w.conf (if b then sender else Due) ≡ (if b then named else [])) [
          | true ↦ of_option (names_of w.conf) of_sender (λ s. change.Neighbour (group_of w.conf dp) vid s.ip ∷ []) refl (heard_sender w.conf vid frame) (λ s. refl)
          | false ↦ refl
        ]
      ]
    ]

packet_names : (m : PacketIn) (dp : DpId) (w : World) → names_of w.conf (by_packet m dp w) ≡ names.by_packet_in m dp w
packet_names m dp w =
    of_option (names_of w.conf) (by_port m dp w) (names.by_port m dp w) refl (in_port m.fields) (λ port.
    of_option (names_of w.conf) (by_parts m dp w port) (names.by_parts m dp w port) refl (parts m.payload) (λ frame.
    of_option (names_of w.conf) (λ vid. by_table m.table dp port vid frame w) (λ vid. names.by_table m.table dp vid frame w) refl (counted_vid w.conf dp port frame) (λ vid.
    table_names m.table dp port vid frame w)))

-- ---- so it is told what a packet changes

module _ {A : Type 0} (f : A → Found) where
  option_touched : (o : Option A) → ((x : A) → is_touched (f x) ≡ true) → is_touched (option_map_or f o Due) ≡ true
  option_touched None each = refl
  option_touched (Some x) each = each x

table_touched : (table : ℕ) (dp : DpId) (port vid : ℕ) (frame : FrameParts) (w : World) → is_touched (by_table table dp port vid frame w) ≡ true
table_touched table dp port vid frame w =
    let of_sender : Sender → Found = λ s. One (change.Neighbour (group_of w.conf dp) vid s.ip) in
    let sender : Found = option_map_or of_sender (heard_sender w.conf vid frame) Due in
    elim (table == sources) as (λ b. is_touched (if b then Heard (record { dp = dp; port = port; vid = vid; mac = frame.src; learned = w.moment }) else if is_route_table table frame.upper then Due else if table == gateways then sender else Due) ≡ true) [
      | true ↦ refl
      | false ↦ elim (is_route_table table frame.upper) as (λ b. is_touched (if b then Due else if table == gateways then sender else Due) ≡ true) [
        | true ↦ refl
        | false ↦ elim (table == gateways) as (λ b. is_touched (if b then sender else Due) ≡ true) [
          | true ↦ option_touched of_sender (heard_sender w.conf vid frame) (λ s. refl)
          | false ↦ refl
        ]
      ]
    ]

packet_touched : (m : PacketIn) (dp : DpId) (w : World) → is_touched (by_packet m dp w) ≡ true
packet_touched m dp w =
    option_touched (by_port m dp w) (in_port m.fields) (λ port. option_touched (by_parts m dp w port) (parts m.payload) (λ frame.
    option_touched (λ vid. by_table m.table dp port vid frame w) (counted_vid w.conf dp port frame) (λ vid. table_touched m.table dp port vid frame w)))

tells_of : (w v : World) (found : Found) → is_touched found ≡ true → Names w v (names_of w.conf found) → Leaves w v (ends_of found) → Tells w v found
tells_of w v Nothing none names leaves = absurd (cc)
tells_of w v Again none names leaves = absurd (cc)
tells_of w v Due some names leaves = (names, leaves)
tells_of w v (Heard h) some names leaves = (names, leaves)
tells_of w v (One c) some names leaves = (names, leaves)
tells_of w v (Named None) some names leaves = (names.conf, tt)
tells_of w v (Named (Some changes)) some names leaves = (names.conf, names.named)
tells_of w v Any some names leaves = tt

pub packet_tells : (m : PacketIn) (number : ℕ) (dp : DpId) (w : World) → Tells w (packet_in m number dp w) (by_packet m dp w)
packet_tells m number dp w =
    tells_of w (packet_in m number dp w) (by_packet m dp w) (packet_touched m dp w)
    (subst (Names w (packet_in m number dp w)) (sym (packet_names m dp w)) (packet_named m number dp w)) (packet_leaves m number dp w)
