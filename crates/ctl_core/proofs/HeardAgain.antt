-- A packet of a host that is known where it stands, and is fresh there, leaves all that a settling looks at.
use Rattle.std.proofs.Common.{◌≡◌, ◌==◌, ◌&&◌, ℕ, Bool, true, false, not, Option, Some, None, List, refl, inl, inr, sym, ap, ◌∙◌, subst, eqb-true, true≢false, if◌then◌else◌}
use Rattle.std.specs.Prelude.{◌⊎◌, nat_le}
use Rattle.std.specs.List.{AllByRecursion}
use Rattle.std.specs.Option.{option_map_or}
use Rattle.std.proofs.lemmas.Bool.{and_from, and_parts, leb-true}
use Rattle.net_base.specs.declared.address.Mac.{Mac}
use Rattle.net_base.specs.declared.numbers.DpId.{DpId}
use Rattle.conf_types.specs.declared.change.Change.TheVariants as change
use Rattle.conf_types.specs.declared.state.HostRec.{HostRec}
use Rattle.conf_types.specs.Changes.{host_by}
use Rattle.conf_types.specs.Configuration.{Configuration}
use Rattle.conf_types.specs.Groups.{group_of}
use Rattle.conf_types.specs.Links.{is_up}
use Rattle.conf_types.specs.Lists.{EachBefore, is_same}
use Rattle.conf_types.specs.State.{IsSameHost, is_fresh, is_host_at, is_host_in, is_running}
use Rattle.host_learn.specs.declared.learn.Learn.TheVariants.{Learned, Moved, Refreshed, Full, NotLearnable}
use Rattle.host_learn.specs.Learning.{hosts_after, is_full, is_in_place, is_known, is_learnable, learned, refreshed, stands_there}
use Rattle.host_learn.specs.Table.{Table as Hosts, has_key, host_of}
use Rattle.of_match.specs.InPort.{in_port}
use Rattle.of13_codec.specs.declared.packet_in.PacketIn.{PacketIn}
use Rattle.flow_messages.specs.declared.messages.TheConstants.{COOKIE}
use Rattle.pkt_view.specs.Frame.{FrameParts, parts}
use Rattle.plan_units.specs.Agrees.{same_bytes}
use Rattle.neighbour_resolve.specs.declared.hearing.Sender.{Sender}
use Rattle.neighbour_resolve.specs.Counted.{counted_vid}
use Rattle.neighbour_resolve.specs.Hearing.{heard_sender}
use Rattle.ctl_world.specs.World.{IsSound, World, now, running, ups}
use Rattle.ctl_packets.specs.Packets.{gateways, glean, hear_neighbour, is_route_table, learn, packet_at, packet_by, packet_in, packet_of_table, reply, sources}
use Rattle.ctl_packets.specs.Told.{told_in}
use Rattle.ctl_packets.proofs.PacketHosts.{hosts_told, packet_hosts}
use Rattle.law_runs.specs.Members.{all_by}
use Rattle.law_units.proofs.Hosts.{own}
use Rattle.ctl_core.specs.declared.found.Found.{Found}
use Rattle.ctl_core.specs.declared.found.Found.TheVariants.{Nothing, Again, Due, Heard, One, Named, Any}
use Rattle.ctl_core.specs.Found.{IsStill, Tells, by_packet, by_parts, by_port, by_table, is_known_there, or_again, stands_fresh}
use Rattle.ctl_core.proofs.Behind.{found_in}
use Rattle.ctl_core.proofs.Bounded.{packet_tells, told_found}
use Rattle.ctl_core.proofs.Exact.{any_member}
use Rattle.ctl_core.proofs.Refreshed.{IsEarlier, WasFresh, bounded_again, cold_at_again, found_again}
use Rattle.ctl_core.proofs.Still.{still_same}
use Rattle.ctl_core.proofs.Walk.{either, with_any}

-- ---- the one host that stands where it is heard

module _ (conf : Configuration) (moment : ℕ) (heard : HostRec) where
  pub record StandsThere (x : HostRec) : Type 0 where
    pub dp : x.dp.0 ≡ heard.dp.0
    pub port : (x.port == heard.port) ≡ true
    pub fresh : WasFresh conf moment heard x

  stands : (x : HostRec) → stands_fresh conf moment heard x ≡ true → StandsThere x
  stands x is =
      let first = and_parts (x.dp.0 == heard.dp.0) (x.port == heard.port && (nat_le x.learned.0 heard.learned.0 && is_fresh conf moment x)) is in
      let second = and_parts (x.port == heard.port) (nat_le x.learned.0 heard.learned.0 && is_fresh conf moment x) first.1 in
      let third = and_parts (nat_le x.learned.0 heard.learned.0) (is_fresh conf moment x) second.1 in
      record { dp = eqb-true x.dp.0 heard.dp.0 first.0; port = second.0; fresh = record { fresh = third.1; before = leb-true x.learned.0 heard.learned.0 third.0 } }

  abbrev is_it : Option HostRec → Bool
  is_it o = option_map_or (stands_fresh conf moment heard) o false

  module _ (hosts : List HostRec) (known : is_it (host_of conf hosts heard.dp heard.vid heard.mac.0) ≡ true) where
    -- it is found by its key
    earlier : EachBefore (λ a b. IsSameHost conf a b → ⊥) hosts → AllByRecursion (IsEarlier conf moment heard) hosts
    earlier apart =
        all_by (IsEarlier conf moment heard) hosts (λ x within is.
        let outer = and_parts (is_host_at heard.dp heard.port x && x.vid == heard.vid) (is_same x.mac.0 heard.mac.0) is in
        let inner = and_parts (is_host_at heard.dp heard.port x) (x.vid == heard.vid) outer.0 in
        let at = and_parts (x.dp.0 == heard.dp.0) (x.port == heard.port) inner.0 in
        let dp : x.dp.0 ≡ heard.dp.0 = eqb-true x.dp.0 heard.dp.0 at.0 in
        let vid : x.vid ≡ heard.vid = eqb-true x.vid heard.vid inner.1 in
        let mac : x.mac.0 ≡ heard.mac.0 = same_bytes x.mac.0 heard.mac.0 outer.1 in
        let moved : host_by conf hosts (group_of conf heard.dp) heard.vid heard.mac ≡ host_by conf hosts (group_of conf x.dp) x.vid x.mac =
        λ i. host_by conf hosts (group_of conf (record { 0 = sym dp i })) (sym vid i) (record { 0 = sym mac i }) in
        let found : host_of conf hosts heard.dp heard.vid heard.mac.0 ≡ Some x = moved ∙ own conf hosts apart x within in
        (stands x (sym (ap is_it found) ∙ known)).fresh)

    -- and stands where it is heard
    place_by : (o : Option HostRec) → host_of conf hosts heard.dp heard.vid heard.mac.0 ≡ o → is_it o ≡ true → stands_there hosts heard ≡ true
    place_by None none is = absurd (true≢false (sym is))
    place_by (Some x) there is =
        let f = found_in (has_key conf (group_of conf heard.dp) heard.vid heard.mac.0) hosts x there in
        let key = and_parts (is_host_in conf (group_of conf heard.dp) heard.vid x) (is_same x.mac.0 heard.mac.0) f.passes in
        let group = and_parts ((group_of conf x.dp).0 == (group_of conf heard.dp).0) (x.vid == heard.vid) key.0 in
        let first = and_parts (x.dp.0 == heard.dp.0) (x.port == heard.port && (nat_le x.learned.0 heard.learned.0 && is_fresh conf moment x)) is in
        any_member (is_in_place heard) hosts x f.within
        (and_from (is_host_at heard.dp heard.port x && x.vid == heard.vid) (is_same x.mac.0 heard.mac.0)
        (and_from (is_host_at heard.dp heard.port x) (x.vid == heard.vid) (and_from (x.dp.0 == heard.dp.0) (x.port == heard.port) first.0 (stands x is).port) group.1) key.1)

    in_place : stands_there hosts heard ≡ true
    in_place = place_by (host_of conf hosts heard.dp heard.vid heard.mac.0) refl known

-- ---- the world behind it

module _ (w : World) (heard : HostRec) (known : is_known_there w heard ≡ true) (sound : IsSound w) where
  abbrev refreshed_world : World
  refreshed_world = record w { hosts = record w.hosts { hosts = refreshed heard w.hosts.hosts } }

  fresh_ones : AllByRecursion (IsEarlier w.conf w.moment.0 heard) w.hosts.hosts
  fresh_ones = earlier w.conf w.moment.0 heard w.hosts.hosts known sound.valid.host_keys

  refreshed_still : IsStill w refreshed_world
  refreshed_still = record {
    alike = record { conf = refl; moment = refl; conns = refl; hosts = refl; neighbours = refl };
    names = record {
      conf = refl;
      named = record {
        hosts = λ group vid mac other. absurd (other (found_again w.conf w.moment.0 heard (λ h. is_host_in w.conf group vid h && is_same h.mac.0 mac.0) (λ x. refl) w.hosts.hosts fresh_ones));
        ports = λ dp port other. absurd (other refl);
        dps = λ dp other. absurd (other refl);
        neighbours = λ group vid ip other. absurd (other refl);
      };
    };
    leaves = λ until all. bounded_again w.conf w.moment.0 heard until w.hosts.hosts fresh_ones all;
    entries = λ dp. cold_at_again w.conf w.moment.0 heard (now w) refl fresh_ones dp;
  }

  -- a host that stands where it is heard is refreshed at most
  by_outcome : (a b c d : Bool) → c ≡ true
      → IsStill w (record w { hosts = record w.hosts { hosts = hosts_after w.conf heard w.hosts.hosts (if a then NotLearnable else if b then Full else if c then Refreshed else if d then Moved else Learned) } })
  by_outcome true b c d is = still_same w
  by_outcome false true c d is = still_same w
  by_outcome false false true d is = refreshed_still
  by_outcome false false false d is = absurd (true≢false (sym is))

  learned_still : IsStill w (record w { hosts = learned w.conf w.hosts heard })
  learned_still =
      by_outcome (not (is_learnable w.conf w.hosts.hosts heard)) (is_full w.conf w.hosts heard) (stands_there w.hosts.hosts heard) (is_known w.conf w.hosts.hosts heard)
      (in_place w.conf w.moment.0 heard w.hosts.hosts known)

-- ---- a packet that a host is found of

abbrev of_host : Found → Bool
of_host Nothing = false
of_host Again = false
of_host Due = false
of_host (Heard h) = true
of_host (One change) = false
of_host (Named may) = false
of_host Any = false

abbrev host_in : HostRec → Found → HostRec
host_in h Nothing = h
host_in h Again = h
host_in h Due = h
host_in h (Heard x) = x
host_in h (One change) = h
host_in h (Named may) = h
host_in h Any = h

module _ {A : Type 0} (f : A → Found) where
  of_none : (o : Option A) → ((x : A) → of_host (f x) ≡ false) → of_host (option_map_or f o Due) ≡ false
  of_none None each = refl
  of_none (Some x) each = each x

module _ (m : PacketIn) (number : ℕ) (dp : DpId) (w : World) where
  -- the table isn't that of sources
  table_none : (port vid : ℕ) (frame : FrameParts) → (m.table == sources) ≡ false → of_host (by_table m.table dp port vid frame w) ≡ false
  table_none port vid frame out =
      let of_sender : Sender → Found = λ s. One (change.Neighbour (group_of w.conf dp) vid s.ip) in
      let sender : Found = option_map_or of_sender (heard_sender w.conf vid frame) Due in
      let h : HostRec = record { dp = dp; port = port; vid = vid; mac = frame.src; learned = w.moment } in
      ap (λ b. of_host (if b then Heard h else if is_route_table m.table frame.upper then Due else if m.table == gateways then sender else Due)) out
      ∙ elim (is_route_table m.table frame.upper) as (λ b. of_host (if b then Due else if m.table == gateways then sender else Due) ≡ false) [
        | true ↦ refl
        | false ↦ elim (m.table == gateways) as (λ b. of_host (if b then sender else Due) ≡ false) [
          | true ↦ of_none of_sender (heard_sender w.conf vid frame) (λ s. refl)
          | false ↦ refl
        ]
      ]

  packet_none : (m.table == sources) ≡ false → of_host (by_packet m dp w) ≡ false
  packet_none out =
      of_none (by_port m dp w) (in_port m.fields) (λ port. of_none (by_parts m dp w port) (parts m.payload) (λ frame.
      of_none (λ vid. by_table m.table dp port vid frame w) (counted_vid w.conf dp port frame) (λ vid. table_none port vid frame out)))

  of_sources : (h : HostRec) → by_packet m dp w ≡ Heard h → (m.table == sources) ≡ true
  of_sources h is = by (m.table == sources) refl
    where
      by : (b : Bool) → (m.table == sources) ≡ b → (m.table == sources) ≡ true
      by true here = here
      by false out = absurd (true≢false (sym (ap of_host is) ∙ packet_none out))

  -- such a packet changes the hosts alone
  abbrev Only : World → Type 0
  Only v = v ≡ record w { hosts = v.hosts }

  learn_only : (port vid : ℕ) (mac : Mac) → Only (learn dp port vid mac w)
  learn_only port vid mac =
      let h : HostRec = record { dp = dp; port = port; vid = vid; mac = mac; learned = w.moment } in
      either Only (is_up (ups w) dp port) (record w { hosts = learned w.conf w.hosts h }) w refl refl

  packet_only : (m.table == sources) ≡ true → Only (packet_in m number dp w)
  packet_only here =
      either Only (m.cookie == COOKIE && is_running (running w) dp) (option_map_or (packet_by m number dp w) (in_port m.fields) w) w
      (with_any Only (packet_by m number dp w) (in_port m.fields) w (λ port.
      with_any Only (packet_at m number dp w port) (parts m.payload) w (λ frame.
      with_any Only (λ vid. packet_of_table m.table number dp port vid frame w) (counted_vid w.conf dp port frame) w (λ vid.
      let gleaned : World = glean dp vid frame w in
      let answered : World = reply number dp port vid frame (hear_neighbour dp vid frame w) in
      subst (λ b. Only (if b then learn dp port vid frame.src w else if is_route_table m.table frame.upper then gleaned else if m.table == gateways then answered else w)) (sym here)
      (learn_only port vid frame.src)) refl) refl) refl) refl

  -- the one that is told is the one that is found
  module _ (h : HostRec) (found : by_packet m dp w ≡ Heard h) (known : is_known_there w h ≡ true) (sound : IsSound w) where
    told_still : (told_in m dp w ≡ None) ⊎ ((x : HostRec) × ((told_in m dp w ≡ Some x) × (by_packet m dp w ≡ Heard x))) → IsStill w (record w { hosts = hosts_told w (told_in m dp w) })
    told_still (inl none) = subst (λ (p : Option HostRec). IsStill w (record w { hosts = hosts_told w p })) (sym none) (still_same w)
    told_still (inr some) =
        let same : some.0 ≡ h = ap (host_in h) (sym (some.1).1 ∙ found) in
        subst (λ (p : Option HostRec). IsStill w (record w { hosts = hosts_told w p })) (sym ((some.1).0 ∙ ap Some same)) (learned_still w h known sound)

    packet_still : IsStill w (packet_in m number dp w)
    packet_still =
        let known_hosts : packet_in m number dp w ≡ record w { hosts = hosts_told w (told_in m dp w) } =
        packet_only (of_sources h found) ∙ ap (λ (t : Hosts). record w { hosts = t }) (packet_hosts m number dp w) in
        subst (IsStill w) (sym known_hosts) (told_still (told_found m dp w))

  -- ---- so it is told what a packet changes

  heard_tells : (h : HostRec) → by_packet m dp w ≡ Heard h → Tells w (packet_in m number dp w) (Heard h) → (b : Bool) → is_known_there w h ≡ b → Tells w (packet_in m number dp w) (if b then Again else Heard h)
  heard_tells h is told true known = λ sound. packet_still h is known sound
  heard_tells h is told false other = told

  by_found : (found : Found) → by_packet m dp w ≡ found → Tells w (packet_in m number dp w) found → Tells w (packet_in m number dp w) (or_again w found)
  by_found (Heard h) is told = heard_tells h is told (is_known_there w h) refl
  by_found Nothing is told = told
  by_found Again is told = told
  by_found Due is told = told
  by_found (One c) is told = told
  by_found (Named may) is told = told
  by_found Any is told = told

  pub again_tells : Tells w (packet_in m number dp w) (or_again w (by_packet m dp w))
  again_tells = by_found (by_packet m dp w) refl (packet_tells m number dp w)
