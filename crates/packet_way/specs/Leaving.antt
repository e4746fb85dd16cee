-- Packets as they leave a datapath.
use Rattle.std.specs.Prelude.{ℕ, List, [], ◌∷◌, map, if◌then◌else◌}
use Rattle.of_match.specs.Act.{popped}
use Rattle.of_match.specs.declared.action.TheConstants.{CONTROLLER}
use Rattle.of_match.specs.declared.packet.Packet.{Packet}
use Rattle.of_match.specs.declared.packet.Sent.{Sent}
use Rattle.conf_types.specs.declared.datapath.Dp.{Dp}
use Rattle.conf_types.specs.declared.datapath.Port.{Port}
use Rattle.conf_types.specs.Membership.{is_native_in, mirrors_of}

-- the packet by a port
abbrev pub sent : ℕ → Packet → Sent
sent port p = record { port = port; packet = p }

-- the packet by each of these interfaces
abbrev pub copies : List Port → Packet → List Sent
copies ports p = map (λ q. sent q.no p) ports

-- the whole packet to the controller (OpenFlow 1.3, 7.2.1, OFPP_CONTROLLER)
abbrev pub to_controller : Packet → List Sent
to_controller p = sent CONTROLLER p ∷ []

-- the packet without its outermost tag
abbrev pub without_tag : Packet → Packet
without_tag p = record p { tags = popped p.tags }

-- a packet of a VLAN as an edge port sends it: where the VLAN is native without the outermost tag, and
-- else as it is
abbrev pub as_sent : Port → ℕ → Packet → Packet
as_sent q vid p = if is_native_in q vid then without_tag p else p

-- by the port, and what it sends by each that mirrors it
abbrev pub delivered : Dp → ℕ → Packet → Port → List Sent
delivered d vid p q = copies (q ∷ mirrors_of d q.no) (as_sent q vid p)
