-- The families of IP addresses, each one row, and which parts an address and a network have.
use Rattle.std.specs.Prelude.{ℕ, ◌+◌, ◌-◌, ◌==◌, ◌&&◌, ◌<◌, ◌^◌, Bool, List, map, filter}
use Rattle.net_base.specs.declared.field.FieldId.{FieldId}
use Rattle.net_base.specs.declared.field.FieldId.TheVariants.{Ipv4Src, Ipv4Dst, Ipv6Src, Ipv6Dst}
use Rattle.conf_types.specs.declared.address.Ip.{Ip}
use Rattle.conf_types.specs.declared.address.Ip.TheVariants as ip
use Rattle.conf_types.specs.declared.address.Net.{Net}
use Rattle.conf_types.specs.declared.address.Net.TheVariants as net
use Rattle.conf_types.specs.declared.family.Family.{Family}
use Rattle.conf_types.specs.Lists.{different}

-- how many bits an address has, which tells the families apart; the greatest length of a VIP's prefix,
-- which leaves room for neighbours; the EtherType of packets; and the fields of a match for where a
-- packet comes from and goes to
abbrev pub row : ℕ → ℕ → ℕ → FieldId → FieldId → Family
row width most_vip_len ether_type source destination =
    record { width = width; most_vip_len = most_vip_len; ether_type = ether_type; source = source; destination = destination }

abbrev pub ipv4 : Family
ipv4 = row 32 31 0x0800 Ipv4Src Ipv4Dst

abbrev pub ipv6 : Family
ipv6 = row 128 127 0x86dd Ipv6Src Ipv6Dst

-- ---- addresses: a family and a number

abbrev pub family_of : Ip → Family
family_of (ip.V4 a) = ipv4
family_of (ip.V6 a) = ipv6

-- the address as a number, its first byte the most significant one
abbrev pub ip_value : Ip → ℕ
ip_value (ip.V4 a) = a.0
ip_value (ip.V6 a) = a.0

abbrev pub width_of : Ip → ℕ
width_of a = (family_of a).width

-- the address has as many bits as its family says
abbrev pub IsAddress : Ip → Type 0
IsAddress a = ip_value a < 2 ^ width_of a

-- the two are of one family
abbrev pub is_same_family : Ip → Ip → Bool
is_same_family a b = width_of a == width_of b

-- the two are one address; two families may share a number
abbrev pub is_same_ip : Ip → Ip → Bool
is_same_ip a b = is_same_family a b && ip_value a == ip_value b

-- the numbers of those addresses that are of a family
abbrev pub values_in : Family → List Ip → List ℕ
values_in f ips = map ip_value (filter (λ a. width_of a == f.width) ips)

-- how many different addresses there are
abbrev pub different_ips : List Ip → ℕ
different_ips ips = different (values_in ipv4 ips) + different (values_in ipv6 ips)

-- ---- networks: an address and how many of its bits are the prefix

abbrev pub address_of : Net → Ip
address_of (net.V4 n) = ip.V4 n.ip
address_of (net.V6 n) = ip.V6 n.ip

abbrev pub len_of : Net → ℕ
len_of (net.V4 n) = n.len
len_of (net.V6 n) = n.len

-- how many bits stand behind the prefix
abbrev pub host_bits : Net → ℕ
host_bits n = width_of (address_of n) - len_of n
