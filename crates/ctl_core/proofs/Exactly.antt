-- What is told of a packet, where all of it differs.
use Rattle.std.proofs.Common.{◌≡◌, ℕ, ◌==◌, not, Bool, true, false, cond, Option, Some, None, List, [], ◌∷◌, refl, sym, ap, ◌∙◌, subst, if◌then◌else◌}
use Rattle.std.specs.Option.{option_eq, option_map, option_map_or}
use Rattle.conf_types.specs.declared.address.Ip.{Ip}
use Rattle.net_base.specs.declared.numbers.DpId.{DpId}
use Rattle.conf_types.specs.declared.change.Change.{Change}
use Rattle.conf_types.specs.declared.change.Change.TheVariants as change
use Rattle.conf_types.specs.declared.state.HostRec.{HostRec}
use Rattle.conf_types.specs.Changes.{AreNamed, host_by, mac_of_neighbour, standing}
use Rattle.conf_types.specs.Configuration.{Configuration}
use Rattle.conf_types.specs.Groups.{group_of}
use Rattle.conf_types.specs.State.{State}
use Rattle.law_names.specs.Differing.{differs, is_one_address, is_one_place}
use Rattle.law_names.proofs.Joined.{exact_named}
use Rattle.neighbour_resolve.specs.Counted.{counted_vid}
use Rattle.neighbour_resolve.specs.Hearing.{heard_sender}
use Rattle.of_match.specs.InPort.{in_port}
use Rattle.of13_codec.specs.declared.packet_in.PacketIn.{PacketIn}
use Rattle.pkt_view.specs.Frame.{FrameParts, parts}
use Rattle.ctl_world.specs.World.{World, now}
use Rattle.ctl_packets.specs.Packets.{gateways, is_route_table, sources}
use Rattle.ctl_settle.specs.Names.{host}
use Rattle.ctl_core.specs.declared.found.Found.{Found}
use Rattle.ctl_core.specs.declared.found.Found.TheVariants.{Nothing, Again, Due, Heard, One, Named, Any}
use Rattle.ctl_core.specs.Found.{Tells, by_packet, by_parts, by_port, by_table, is_known_there, may_differ, or_again}
use Rattle.ctl_core.specs.Told.{AllDiffer, IsExact, exactly, is_same_place, place, place_at}

-- what doesn't differ needn't be named
unnamed : (conf : Configuration) (old new : State) (c : Change) → differs conf old new c ≡ false → AreNamed conf old new (c ∷ []) → AreNamed conf old new []
unnamed conf old new c same named = subst (λ (cs : List Change). AreNamed conf old new cs) (ap (λ (b : Bool). cond b (c ∷ []) []) same) (exact_named conf old new (c ∷ []) named)

-- ---- what packets may tell

abbrev OfPacket : Found → Type 0
OfPacket Nothing = Unit {0}
OfPacket Again = Unit {0}
OfPacket Due = Unit {0}
OfPacket (Heard h) = Unit {0}
OfPacket (One (change.Host group vid mac)) = ⊥
OfPacket (One (change.Port dp port)) = ⊥
OfPacket (One (change.Dp dp)) = ⊥
OfPacket (One (change.Neighbour group vid ip)) = Unit {0}
OfPacket (Named may) = ⊥
OfPacket Any = ⊥

by_option : {A : Type 0} (f : A → Found) (o : Option A) → ((a : A) → OfPacket (f a)) → OfPacket (option_map_or f o Due)
by_option f None each = tt
by_option f (Some a) each = each a

either_of : (b : Bool) (x y : Found) → OfPacket x → OfPacket y → OfPacket (if b then x else y)
either_of true x y a b = a
either_of false x y a b = b

packet_of : (m : PacketIn) (dp : DpId) (w : World) → OfPacket (by_packet m dp w)
packet_of m dp w =
    by_option (by_port m dp w) (in_port m.fields) (λ port. by_option (by_parts m dp w port) (parts m.payload) (λ frame. by_option (λ vid. by_table m.table dp port vid frame w) (counted_vid w.conf dp port frame) (λ vid. of_table port vid frame)))
  where
    of_table : (port vid : ℕ) (frame : FrameParts) → OfPacket (by_table m.table dp port vid frame w)
    of_table port vid frame =
        either_of (m.table == sources) _ _ tt (either_of (is_route_table m.table frame.upper) _ _ tt (either_of (m.table == gateways) _ _
        (by_option (λ s. One (change.Neighbour (group_of w.conf dp) vid s.ip)) (heard_sender w.conf vid frame) (λ s. tt)) tt))

again_of : (w : World) (found : Found) → OfPacket found → OfPacket (or_again w found)
again_of w Nothing of = tt
again_of w Again of = tt
again_of w Due of = tt
again_of w (Heard h) of = either_of (is_known_there w h) Again (Heard h) tt tt
again_of w (One c) of = of
again_of w (Named may) of = of
again_of w Any of = of

pub told_of : (m : PacketIn) (dp : DpId) (w : World) → OfPacket (or_again w (by_packet m dp w))
told_of m dp w = again_of w (by_packet m dp w) (packet_of m dp w)

-- ---- what differs of it

same_places : (conf : Configuration) (s t : State) (o p : Option HostRec)
    → not (option_eq is_one_place (option_map (standing conf s) o) (option_map (standing conf t) p)) ≡ not (option_eq is_same_place (option_map (place conf s.moment) o) (option_map (place conf t.moment) p))
same_places conf s t None None = refl
same_places conf s t None (Some y) = refl
same_places conf s t (Some x) None = refl
same_places conf s t (Some x) (Some y) = refl

module _ (w v : World) where
  abbrev is_still : HostRec → Bool
  is_still h = option_eq is_same_place (place_at w h) (place_at v h)

  moves : v.conf ≡ w.conf → (h : HostRec) → differs w.conf (now w) (now v) (host w.conf h) ≡ not (is_still h)
  moves conf h =
      same_places w.conf (now w) (now v) (host_by w.conf w.hosts.hosts (group_of w.conf h.dp) h.vid h.mac) (host_by w.conf v.hosts.hosts (group_of w.conf h.dp) h.vid h.mac)
      ∙ (λ i. not (option_eq is_same_place (place_at w h) (option_map (place (sym conf i) v.moment.0) (host_by (sym conf i) v.hosts.hosts (group_of (sym conf i) h.dp) h.vid h.mac))))

  abbrev is_same_mac : DpId → ℕ → Ip → Bool
  is_same_mac group vid ip = option_eq is_one_address (mac_of_neighbour w.neighbours.neighbours group vid ip) (mac_of_neighbour v.neighbours.neighbours group vid ip)

  pub exactly_tells : (found : Found) → Tells w v found → Tells w v (exactly w v found)
  exactly_tells Nothing told = told
  exactly_tells Again told = told
  exactly_tells Due told = told
  exactly_tells (Heard h) told = by (is_still h) refl
    where
      by : (b : Bool) → is_still h ≡ b → Tells w v (if b then Named (Some []) else Heard h)
      by true is = ((told.0).conf, unnamed w.conf (now w) (now v) (host w.conf h) (moves (told.0).conf h ∙ ap not is) (told.0).named)
      by false is = told
  exactly_tells (One (change.Host group vid mac)) told = told
  exactly_tells (One (change.Port dp port)) told = told
  exactly_tells (One (change.Dp dp)) told = told
  exactly_tells (One (change.Neighbour group vid ip)) told = by (is_same_mac group vid ip) refl
    where
      by : (b : Bool) → is_same_mac group vid ip ≡ b → Tells w v (if b then Due else One (change.Neighbour group vid ip))
      by true is = (record { conf = (told.0).conf; named = unnamed w.conf (now w) (now v) (change.Neighbour group vid ip) (ap not is) (told.0).named }, told.1)
      by false is = told
  exactly_tells (Named may) told = told
  exactly_tells Any told = told

  pub exactly_exact : (found : Found) → OfPacket found → Tells w v found → IsExact w v (exactly w v found)
  exactly_exact Nothing of told = λ sound behind. (told.conf, tt)
  exactly_exact Again of told = λ sound behind. ((told sound).names.conf, tt)
  exactly_exact Due of told = λ sound behind. ((told.0).conf, tt)
  exactly_exact (Heard h) of told = λ sound behind. by (is_still h) refl
    where
      by : (b : Bool) → is_still h ≡ b → (v.conf ≡ w.conf) × AllDiffer w v (may_differ v.conf (if b then Named (Some []) else Heard h))
      by true is = ((told.0).conf, tt)
      by false is = ((told.0).conf, (subst (λ (cf : Configuration). differs w.conf (now w) (now v) (host cf h) ≡ true) (sym (told.0).conf) (moves (told.0).conf h ∙ ap not is), tt))
  exactly_exact (One (change.Host group vid mac)) of told = absurd of
  exactly_exact (One (change.Port dp port)) of told = absurd of
  exactly_exact (One (change.Dp dp)) of told = absurd of
  exactly_exact (One (change.Neighbour group vid ip)) of told = λ sound behind. by (is_same_mac group vid ip) refl
    where
      by : (b : Bool) → is_same_mac group vid ip ≡ b → (v.conf ≡ w.conf) × AllDiffer w v (may_differ v.conf (if b then Due else One (change.Neighbour group vid ip)))
      by true is = ((told.0).conf, tt)
      by false is = ((told.0).conf, (ap not is, tt))
  exactly_exact (Named may) of told = absurd of
  exactly_exact Any of told = absurd of
