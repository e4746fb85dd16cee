-- Numbers and addresses that stand in bytes.
use Rattle.std.specs.Prelude.{ℕ, List, take, drop}
use Rattle.byteorder.specs.Endian.{big_number, big_bytes}
use Rattle.net_base.specs.declared.address.Mac.{Mac}
use Rattle.net_base.specs.declared.address.Ip4.{Ip4}
use Rattle.net_base.specs.declared.address6.Ip6.{Ip6}

-- the number of so many bytes that begins at a place, its first byte the most significant one
-- (RFC 791, appendix B)
unfoldable pub number_at : ℕ → ℕ → List ℕ → ℕ
number_at len at bytes = big_number len (drop at bytes)

-- the same, from a number to its bytes
unfoldable pub number : ℕ → ℕ → List ℕ
number len value = big_bytes len value

-- the Ethernet address that begins at a place
abbrev pub mac_at : ℕ → List ℕ → Mac
mac_at at bytes = record { 0 = take 6 (drop at bytes) }

-- the IPv4 address that begins at a place
abbrev pub ip4_at : ℕ → List ℕ → Ip4
ip4_at at bytes = record { 0 = number_at 4 at bytes }

-- the IPv6 address that begins at a place
abbrev pub ip6_at : ℕ → List ℕ → Ip6
ip6_at at bytes = record { 0 = number_at 16 at bytes }
