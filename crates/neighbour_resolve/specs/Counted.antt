-- The frames that a controller answers and learns from.
use Rattle.std.specs.Prelude.{ℕ, ◌%◌, ◌^◌, ◌==◌, ◌&&◌, Bool, true, false, Option, Some, None, length, nat_le, if◌then◌else◌}
use Rattle.std.specs.Option.{option_and_then}
use Rattle.net_base.specs.declared.numbers.DpId.{DpId}
use Rattle.conf_types.specs.declared.datapath.Member.{Member}
use Rattle.conf_types.specs.declared.datapath.Member.TheVariants.{Native, Tagged, Stack}
use Rattle.conf_types.specs.declared.datapath.Member.TheVariants as member_case
use Rattle.conf_types.specs.Configuration.{Configuration}
use Rattle.conf_types.specs.Membership.{member}
use Rattle.pkt_view.specs.Frame.{FrameParts}
use Rattle.pkt_view.specs.Numbers.{number_at}

-- the identifier of a VLAN, 0 being that of a priority tag and 4095 reserved (IEEE 802.1Q, 9.6)
abbrev pub vid_of : ℕ → Option ℕ
vid_of n = if nat_le 1 n && nat_le n 4094 then Some n else None

-- the VLAN of a frame's one tag, by the tag's last 12 bits; none where there is no tag, or more than one
abbrev pub only_vid : FrameParts → Option ℕ
only_vid frame = if length frame.tags == 4 then vid_of (number_at 2 2 frame.tags % 2 ^ 12) else None

abbrev pub is_edge_membership : Member → Bool
is_edge_membership Native = true
is_edge_membership Tagged = true
is_edge_membership Stack = false
is_edge_membership member_case.None = false

-- the VLAN in which a frame counts that came in by a port: that of its one tag, where the port is an edge
-- member of it
abbrev pub counted_vid : Configuration → DpId → ℕ → FrameParts → Option ℕ
counted_vid conf dp port frame =
    option_and_then (λ vid. if is_edge_membership (member conf dp port vid) then Some vid else None) (only_vid frame)
