-- IP networks (RFC 4632, 3.1; RFC 4291, 2.3), of either family.
use Rattle.std.specs.Prelude.{◌≡◌, ◌==◌, ◌&&◌, not, ℕ, ◌-◌, ◌/◌, ◌%◌, ◌^◌, ◌≤◌, nat_le, Bool, false, List, Option}
use Rattle.std.specs.List.{list_any, find}
use Rattle.conf_types.specs.declared.address.Ip.{Ip}
use Rattle.conf_types.specs.declared.address.Net.{Net}
use Rattle.conf_types.specs.declared.address.Net.TheVariants.{V4, V6}
use Rattle.conf_types.specs.Families.{family_of, ip_value, is_same_family, is_same_ip, address_of, len_of, host_bits}

-- the bits of an address that a network's prefix looks at
abbrev pub prefix_bits : Net → Ip → ℕ
prefix_bits net ip = ip_value ip / 2 ^ host_bits net

-- the address is of the network: one of its family, with the same bits in the prefix
abbrev pub is_held : Net → Ip → Bool
is_held net ip = is_same_family ip (address_of net) && prefix_bits net ip == prefix_bits net (address_of net)

pub record Holds (net : Net) (ip : Ip) : Type 0 where
  pub family : family_of ip ≡ family_of (address_of net)
  pub prefix : prefix_bits net ip ≡ prefix_bits net (address_of net)

-- no address is of both
abbrev pub AreApart : Net → Net → Type 0
AreApart a b = (ip : Ip) → Holds a ip → Holds b ip → ⊥

-- a equals b or lies inside it
pub record LiesIn (a b : Net) : Type 0 where
  pub longer : len_of b ≤ len_of a
  pub inside : Holds b (address_of a)

-- they have one address and one length
pub record AreSame (a b : Net) : Type 0 where
  pub ip : address_of a ≡ address_of b
  pub len : len_of a ≡ len_of b

-- all bits behind the prefix are zero
abbrev pub HasNoHostBits : Net → Type 0
HasNoHostBits net = ip_value (address_of net) % 2 ^ host_bits net ≡ 0

-- a network of link-local addresses lies in fe80::/10 (RFC 4291, 2.5.6)
abbrev pub is_link_local : Net → Bool
is_link_local (V4 net) = false
is_link_local (V6 net) = nat_le 10 net.len && net.ip.0 / 2 ^ (128 - 10) == 0xfe80 / 2 ^ (16 - 10)

-- no address is of both, unless both are link-local, and so each is of its own link
abbrev pub AreApartOrLocal : Net → Net → Type 0
AreApartOrLocal a b = (is_link_local a && is_link_local b) ≡ false → AreApart a b

-- the address is that of a VIP
abbrev pub is_vip : List Net → Ip → Bool
is_vip vips ip = list_any (λ vip. is_same_ip (address_of vip) ip) vips

-- the VIP whose network the address is of
abbrev pub vip_for : List Net → Ip → Option Net
vip_for vips ip = find (λ vip. is_held vip ip) vips

-- a neighbour's address: it lies in a network of the VIPs, and is none of them
abbrev pub is_neighbour_address : List Net → Ip → Bool
is_neighbour_address vips ip = list_any (λ vip. is_held vip ip) vips && not (is_vip vips ip)
