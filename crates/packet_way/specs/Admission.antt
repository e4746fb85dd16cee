-- Which VLAN admits a packet that comes in by an edge port.
use Rattle.std.specs.Prelude.{ℕ, Bool, true, false, List, [], ◌∷◌, Option, Some, None, if◌then◌else◌}
use Rattle.std.specs.Option.{option_map_or}
use Rattle.of_match.specs.Hit.{outermost}
use Rattle.of_match.specs.declared.ether_type.TheConstants.{VLAN_TAG}
use Rattle.of_match.specs.declared.packet.Packet.{Packet}
use Rattle.of_match.specs.declared.packet.Tag.{Tag}
use Rattle.conf_types.specs.declared.datapath.Port.{Port}
use Rattle.conf_types.specs.Membership.{is_tagged_in}

-- without a tag the native VLAN, if there is one; with a tag the VLAN that the outermost one names, if it
-- is a tagged VLAN of the port. A tag with identifier 0 is a tag, and names no VLAN.
abbrev pub admitted_to : Port → Packet → Option ℕ
admitted_to i p = option_map_or (λ tag. if is_tagged_in i tag.vid then Some tag.vid else None) (outermost p.tags) i.native

abbrev pub is_tagged : List Tag → Bool
is_tagged [] = false
is_tagged (tag ∷ tags) = true

-- the packet with a tag of the VLAN (IEEE 802.1Q, 9.3)
abbrev pub with_tag : ℕ → Packet → Packet
with_tag vid p = record p { tags = record { tpid = VLAN_TAG; pcp = 0; dei = false; vid = vid } ∷ p.tags }

-- an admitted packet has a tag of its VLAN from here on: one that came without a tag gets one
abbrev pub tagged_with : ℕ → Packet → Packet
tagged_with vid p = if is_tagged p.tags then p else with_tag vid p
