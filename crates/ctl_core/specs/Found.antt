-- What may differ behind a frame, as the code tells it.
use Rattle.std.specs.Prelude.{◌≡◌, ℕ, ◌==◌, ◌&&◌, min, nat_le, Bool, true, false, if◌then◌else◌, Some, None, [], ◌∷◌}
use Rattle.std.specs.Option.{option_map_or}
use Rattle.net_base.specs.declared.numbers.DpId.{DpId}
use Rattle.conf_types.specs.declared.change.Change.TheVariants as change
use Rattle.conf_types.specs.declared.state.HostRec.{HostRec}
use Rattle.conf_types.specs.Configuration.{Configuration}
use Rattle.conf_types.specs.Groups.{group_of}
use Rattle.conf_types.specs.State.{is_fresh}
use Rattle.host_learn.specs.Table.{host_of}
use Rattle.of_match.specs.InPort.{in_port}
use Rattle.of13_codec.specs.declared.message.Message.{Message}
use Rattle.of13_codec.specs.declared.message.Message.TheVariants as messages
use Rattle.of13_codec.specs.declared.packet_in.PacketIn.{PacketIn}
use Rattle.pkt_view.specs.Frame.{FrameParts, parts}
use Rattle.neighbour_resolve.specs.Counted.{counted_vid}
use Rattle.neighbour_resolve.specs.Hearing.{heard_sender}
use Rattle.switch_session.specs.declared.state.Step.{Step}
use Rattle.switch_session.specs.declared.state.Step.TheVariants as steps
use Rattle.ctl_world.specs.declared.conns.Conn.{Conn}
use Rattle.ctl_world.specs.Alike.{IsAlike}
use Rattle.ctl_world.specs.World.{IsSound, World, now, runs}
use Rattle.ctl_packets.specs.Packets.{gateways, is_route_table, sources}
use Rattle.ctl_settle.specs.Rest.{AreBounded, host_until}
use Rattle.ctl_settle.specs.Settling.{wanted}
use Rattle.ctl_settle.specs.Touched.{AreAmong, MayDiffer}
use Rattle.ctl_settle.specs.Names.{Names, host}
use Rattle.ctl_core.specs.declared.ends.Ends.{Ends}
use Rattle.ctl_core.specs.declared.ends.Ends.TheVariants as ends
use Rattle.ctl_core.specs.declared.found.Found.{Found}
use Rattle.ctl_core.specs.declared.found.Found.TheVariants.{Nothing, Again, Due, Heard, One, Named, Any}

-- a settling looks at it
abbrev pub is_touched : Found → Bool
is_touched Nothing = false
is_touched Again = false
is_touched Due = true
is_touched (Heard h) = true
is_touched (One change) = true
is_touched (Named may) = true
is_touched Any = true

abbrev pub may_differ : Configuration → Found → MayDiffer
may_differ conf Nothing = Some []
may_differ conf Again = Some []
may_differ conf Due = Some []
may_differ conf (Heard h) = Some (host conf h ∷ [])
may_differ conf (One change) = Some (change ∷ [])
may_differ conf (Named may) = may
may_differ conf Any = None

-- ---- when the hosts' times end

abbrev pub ends_of : Found → Ends
ends_of Nothing = ends.Later
ends_of Again = ends.Later
ends_of Due = ends.Later
ends_of (Heard h) = ends.But h
ends_of (One change) = ends.Later
ends_of (Named may) = ends.Any
ends_of Any = ends.Any

-- against a moment before which none ended: none does now, or one that was heard alone, or any may
abbrev pub Bounds : Ends → (until : ℕ) → World → Type 0
Bounds ends.Later until w = AreBounded until w
Bounds (ends.But h) until w = AreBounded (min until (host_until w.conf w.moment.0 h)) w
Bounds ends.Any until w = Unit {0}

-- whatever moment none of the hosts ended before, behind a step
abbrev pub Leaves : World → World → Ends → Type 0
Leaves w v e = (until : ℕ) → AreBounded until w → Bounds e until v

-- ---- packets

-- the host that is heard, or the neighbour; where one is looked for, there may be something to say
abbrev pub by_table : (table : ℕ) → DpId → (port vid : ℕ) → FrameParts → World → Found
by_table table dp port vid frame w =
    if table == sources then Heard (record { dp = dp; port = port; vid = vid; mac = frame.src; learned = w.moment })
    else if is_route_table table frame.upper then Due
    else if table == gateways then option_map_or (λ s. One (change.Neighbour (group_of w.conf dp) vid s.ip)) (heard_sender w.conf vid frame) Due
    else Due

abbrev pub by_parts : PacketIn → DpId → World → (port : ℕ) → FrameParts → Found
by_parts m dp w port frame = option_map_or (λ vid. by_table m.table dp port vid frame w) (counted_vid w.conf dp port frame) Due

abbrev pub by_port : PacketIn → DpId → World → (port : ℕ) → Found
by_port m dp w port = option_map_or (by_parts m dp w port) (parts m.payload) Due

abbrev pub by_packet : PacketIn → DpId → World → Found
by_packet m dp w = option_map_or (by_port m dp w) (in_port m.fields) Due

-- ---- hosts that are heard again

-- a host that is known stands where one was heard, no later than that, and is fresh
abbrev pub stands_fresh : Configuration → (moment : ℕ) → (heard known : HostRec) → Bool
stands_fresh conf moment heard known =
    known.dp.0 == heard.dp.0 && (known.port == heard.port && (nat_le known.learned.0 heard.learned.0 && is_fresh conf moment known))

abbrev pub is_known_there : World → HostRec → Bool
is_known_there w heard = option_map_or (stands_fresh w.conf w.moment.0 heard) (host_of w.conf w.hosts.hosts heard.dp heard.vid heard.mac.0) false

-- such a host changes nothing that a settling looks at
abbrev pub or_again : World → Found → Found
or_again w (Heard h) = if is_known_there w h then Again else Heard h
or_again w found = found

-- all but the hosts looks the same to a settling; of these no more differs than when they were heard, none ends earlier, and
-- each datapath is to have the entries that it was to have
pub record IsStill (w v : World) : Type 0 where
  pub alike : IsAlike (record v { hosts = w.hosts }) w
  pub names : Names w v []
  pub leaves : Leaves w v ends.Later
  pub entries : (dp : DpId) → wanted v dp ≡ wanted w dp

-- ---- what is told

-- all that differs is told, and when the hosts' times end; behind nothing a settling finds the same
abbrev pub Tells : World → World → Found → Type 0
Tells w v Nothing = IsAlike v w
Tells w v Again = IsSound w → IsStill w v
Tells w v Due = Names w v [] × Leaves w v ends.Later
Tells w v (Heard h) = Names w v (host w.conf h ∷ []) × Leaves w v (ends.But h)
Tells w v (One change) = Names w v (change ∷ []) × Leaves w v ends.Later
Tells w v (Named may) = (v.conf ≡ w.conf) × AreAmong w.conf (now w) (now v) may
Tells w v Any = Unit {0}

-- ---- the reply to a barrier

abbrev pub is_barrier_reply : Message → Bool
is_barrier_reply messages.BarrierReply = true
is_barrier_reply m = false

-- on a connection that runs
abbrev pub is_reply : Conn → Message → Bool
is_reply c m = runs c.session.state.stage && is_barrier_reply m

-- it came
abbrev pub is_settled : Step → Bool
is_settled steps.Nothing = false
is_settled steps.AskFeatures = false
is_settled (steps.Features dp n_tables auxiliary) = false
is_settled steps.PortsKnown = false
is_settled steps.Wiped = false
is_settled steps.Settled = true
is_settled (steps.PortChanged port) = false
is_settled steps.Packet = false
is_settled steps.Echo = false
is_settled (steps.Close cause) = false
