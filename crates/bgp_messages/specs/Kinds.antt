-- The types of messages (RFC 4271, 4.1).
use Rattle.std.specs.Prelude.{ℕ, ◌==◌, nat_le, Bool, if◌then◌else◌, Option, Some, None}
use Rattle.bgp_messages.specs.declared.kind.Kind.{Kind}
use Rattle.bgp_messages.specs.declared.kind.Kind.TheVariants.{Open, Update, Notification, KeepAlive}

abbrev pub number_of : Kind → ℕ
number_of Open = 1
number_of Update = 2
number_of Notification = 3
number_of KeepAlive = 4

-- the type with this number
abbrev pub kind_of : ℕ → Option Kind
kind_of n =
    if n == 1 then Some Open else (if n == 2 then Some Update else (if n == 3 then Some Notification else (if n == 4 then Some KeepAlive else None)))

-- a message of this type may have this many bytes, its header among them: what its fields of fixed
-- length take, and more where others follow (6.1)
abbrev pub is_length : Kind → ℕ → Bool
is_length Open len = nat_le 29 len
is_length Update len = nat_le 23 len
is_length Notification len = nat_le 21 len
is_length KeepAlive len = len == 19
