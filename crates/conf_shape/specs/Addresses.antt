-- What is wrong with a text that has to spell an address or a network.
use Rattle.std.specs.Prelude.{ℕ, ◌%◌, ◌^◌, ◌==◌, Bool, true, false, ◌&&◌, ◌||◌, nat_le, if◌then◌else◌, List, [], ◌∷◌, Option, Some, None, min, slice_index, bit_and}
use Rattle.std.specs.Char.{is_ascii_digit}
use Rattle.std.specs.Int.{is_in_range}
use Rattle.std.specs.List.{list_any, list_all}
use Rattle.std.specs.Option.{option_map}
use Rattle.std.proofs.Math.Nat.{min-le_right}
use Rattle.net_base.specs.AddressReading.{spelled_mac, ip4_of, net4_of, cut_at}
use Rattle.net_base.specs.Address6Reading.{ip6_of, net6_of}
use Rattle.conf_types.specs.declared.address.Ip.{Ip}
use Rattle.conf_types.specs.declared.address.Ip.TheVariants as ip
use Rattle.conf_types.specs.declared.address.Net.{Net}
use Rattle.conf_types.specs.declared.address.Net.TheVariants as net
use Rattle.conf_types.specs.Families.{ipv4, ipv6, family_of, ip_value, address_of, len_of, host_bits}
use Rattle.conf_shape.specs.declared.refused.ConfCause.{ConfCause}
use Rattle.conf_shape.specs.declared.refused.ConfCause.TheVariants.{OutOfRange, BadText}

-- ---- Ethernet addresses

-- the bit of a group's address is the first one sent (IEEE 802, 8.2)
abbrev pub is_group : List ℕ → Bool
is_group mac = slice_index mac 0 % 2 == 1

abbrev pub is_zero : List ℕ → Bool
is_zero mac = list_all (λ byte. byte == 0) mac

abbrev pub station_fault : Option (List ℕ) → Option ConfCause
station_fault None = Some BadText
station_fault (Some mac) = if is_group mac || is_zero mac then Some OutOfRange else None

abbrev pub station_cause : List ℕ → Option ConfCause
station_cause text = station_fault (spelled_mac text)

-- no bit of the value stands outside the mask
abbrev pub is_masked : List ℕ → List ℕ → Bool
is_masked [] mask = true
is_masked (v ∷ vs) [] = true
is_masked (v ∷ vs) (m ∷ ms) = bit_and v m == v && is_masked vs ms

abbrev pub masked_fault : Option (List ℕ) → Option (List ℕ) → Option ConfCause
masked_fault (Some value) (Some mask) = if is_masked value mask then None else Some BadText
masked_fault _ _ = Some BadText

abbrev pub mac_fault : Option (List ℕ) → Option ConfCause
mac_fault (Some mac) = None
mac_fault None = Some BadText

-- an address alone, or a value and a mask around a slash
abbrev pub masked_parts : List ℕ → Option (List ℕ × List ℕ) → Option ConfCause
masked_parts text None = mac_fault (spelled_mac text)
masked_parts text (Some parts) = masked_fault (spelled_mac parts.0) (spelled_mac parts.1)

abbrev pub masked_cause : List ℕ → Option ConfCause
masked_cause text = masked_parts text (cut_at 47 text)

-- ---- IP addresses and networks

abbrev pub has_colon : List ℕ → Bool
has_colon text = list_any (λ b. b == 58) text

-- how many bits an address has in the family that a text is read as: with a colon it is IPv6
abbrev pub width_written : List ℕ → ℕ
width_written text = if has_colon text then ipv6.width else ipv4.width

abbrev pub ip4_with : ℕ → Ip
ip4_with n = ip.V4 (record { 0 = n })

abbrev pub ip6_with : ℕ → Ip
ip6_with n = ip.V6 (record { 0 = n })

-- the network of an address and a length, of which no text spells one that is too long
abbrev pub net4_with : ℕ × ℕ → Net
net4_with n = net.V4 (record { ip = record { 0 = n.0 }; len = min n.1 32; short = min-le_right n.1 32 })

abbrev pub net6_with : ℕ × ℕ → Net
net6_with n = net.V6 (record { ip = record { 0 = n.0 }; len = min n.1 128; short = min-le_right n.1 128 })

-- what a text spells in the family of so many bits
abbrev pub ip_in : ℕ → List ℕ → Option Ip
ip_in width text = if width == ipv6.width then option_map ip6_with (ip6_of text) else option_map ip4_with (ip4_of text)

abbrev pub net_in : ℕ → List ℕ → Option Net
net_in width text = if width == ipv6.width then option_map net6_with (net6_of text) else option_map net4_with (net4_of text)

-- decimal digits without leading zeros
abbrev pub is_length : List ℕ → Bool
is_length [] = false
is_length (d ∷ ds) = is_in_range 49 57 d && list_all is_ascii_digit ds

abbrev pub long_behind : Option Ip → List ℕ → ConfCause
long_behind None length = BadText
long_behind (Some ip) length = if is_length length then OutOfRange else BadText

abbrev pub long_parts : ℕ → Option (List ℕ × List ℕ) → ConfCause
long_parts width None = BadText
long_parts width (Some parts) = long_behind (ip_in width parts.0) parts.1

-- where a text spells no network, its length may still be one that is too long
abbrev pub other_cause : ℕ → List ℕ → ConfCause
other_cause width text = long_parts width (cut_at 47 text)

-- a VIP's prefix leaves room for neighbours
abbrev pub leaves_room : Net → Bool
leaves_room net = nat_le 1 (len_of net) && nat_le (len_of net) (family_of (address_of net)).most_vip_len

abbrev pub has_no_host_bits : Net → Bool
has_no_host_bits net = ip_value (address_of net) % 2 ^ host_bits net == 0

abbrev pub vip_fault : ConfCause → Option Net → Option ConfCause
vip_fault other None = Some other
vip_fault other (Some net) = if leaves_room net then None else Some OutOfRange

abbrev pub network_fault : ConfCause → Option Net → Option ConfCause
network_fault other None = Some other
network_fault other (Some net) = if has_no_host_bits net then None else Some BadText

abbrev pub address_or : Option ConfCause → Option Ip → Option ConfCause
address_or fault None = fault
address_or fault (Some ip) = None

abbrev pub network_cause : ℕ → List ℕ → Option ConfCause
network_cause width text = network_fault (other_cause width text) (net_in width text)

abbrev pub address_cause : ℕ → List ℕ → Option ConfCause
address_cause width text = address_or (Some BadText) (ip_in width text)

-- an address, or a network without host bits
abbrev pub prefix_cause : ℕ → List ℕ → Option ConfCause
prefix_cause width text = address_or (network_cause width text) (ip_in width text)

abbrev pub vip_cause : List ℕ → Option ConfCause
vip_cause text = vip_fault (other_cause (width_written text) text) (net_in (width_written text) text)

abbrev pub destination_cause : List ℕ → Option ConfCause
destination_cause text = network_cause (width_written text) text

abbrev pub gateway_cause : List ℕ → Option ConfCause
gateway_cause text = address_cause (width_written text) text

-- an address of IPv4 that isn't zero
abbrev pub identifier_fault : Option ℕ → Option ConfCause
identifier_fault None = Some BadText
identifier_fault (Some ip) = if ip == 0 then Some OutOfRange else None

abbrev pub identifier_cause : List ℕ → Option ConfCause
identifier_cause text = identifier_fault (ip4_of text)
