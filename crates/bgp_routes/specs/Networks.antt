-- Networks as destinations of routes.
use Rattle.std.specs.Prelude.{◌≡◌, ◌-◌, ◌*◌, ◌/◌, ◌%◌, ◌^◌, ◌≤◌, ◌&&◌, ◌||◌, ◌==◌, nat_lt, Bool}
use Rattle.net_base.specs.declared.net4.Net4.{Net4}

-- the network with its host bits cleared (RFC 4271, 4.3: their value is irrelevant)
abbrev pub cleared : Net4 → Net4
cleared net = record { ip = record { 0 = net.ip.0 / 2 ^ (32 - net.len) * 2 ^ (32 - net.len) }; len = net.len; short = net.short }

-- no host bit is set
abbrev pub IsNetwork : Net4 → Type 0
IsNetwork net = net.ip.0 % 2 ^ (32 - net.len) ≡ 0

-- by the address, and then by the length
abbrev pub is_before : Net4 → Net4 → Bool
is_before a b = nat_lt a.ip.0 b.ip.0 || (a.ip.0 == b.ip.0 && nat_lt a.len b.len)

abbrev pub is_same : Net4 → Net4 → Bool
is_same a b = a.ip.0 == b.ip.0 && a.len == b.len

-- 16 bits are a length of a prefix
abbrev pub Fits : Type 0
Fits = 16 ≤ 32
