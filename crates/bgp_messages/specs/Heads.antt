-- The header of a message (RFC 4271, 4.1), what is wrong with one (6.1), and what stands at the front of a
-- stream of messages.
use Rattle.std.specs.Prelude.{ℕ, ◌||◌, nat_lt, not, Bool, if◌then◌else◌, List, length, take, ◌==◌, Option, Some, None, Result, Ok, Err}
use Rattle.std.specs.List.{list_all}
use Rattle.bgp_messages.specs.declared.kind.Kind.{Kind}
use Rattle.bgp_messages.specs.declared.fault.Fault.{Fault}
use Rattle.bgp_messages.specs.declared.fault.Fault.TheVariants.{ConnectionNotSynchronized, BadMessageLength, BadMessageType}
use Rattle.bgp_messages.specs.declared.head.Head.{Head}
use Rattle.bgp_messages.specs.declared.head.Front.{Front}
use Rattle.bgp_messages.specs.declared.head.Front.TheVariants.{NotYet, Refused, Whole}
use Rattle.bgp_messages.specs.Numbers.{number_in}
use Rattle.bgp_messages.specs.Kinds.{kind_of, is_length}

-- the marker is 16 bytes of ones
abbrev pub is_marked : List ℕ → Bool
is_marked bytes = list_all (λ b. b == 255) (take 16 bytes)

-- the length of the whole message, and its type
abbrev pub length_in : List ℕ → ℕ
length_in bytes = number_in 16 2 bytes

abbrev pub kind_in : List ℕ → Option Kind
kind_in bytes = kind_of (number_in 18 1 bytes)

-- a message has 19 to 4096 bytes
abbrev pub is_out_of_range : ℕ → Bool
is_out_of_range len = nat_lt len 19 || nat_lt 4096 len

abbrev pub typed_head : ℕ → Option Kind → Result Head Fault
typed_head len None = Err BadMessageType
typed_head len (Some kind) = if is_length kind len then Ok (record { kind = kind; len = len }) else Err BadMessageLength

-- what the 19 bytes of a header tell: the marker is tested first, then the length, then the type
abbrev pub head_of : List ℕ → Result Head Fault
head_of bytes =
    if not (is_marked bytes) then Err ConnectionNotSynchronized else (
    if is_out_of_range (length_in bytes) then Err BadMessageLength else typed_head (length_in bytes) (kind_in bytes))

abbrev pub front_with : Result Head Fault → (there : ℕ) → Front
front_with (Err fault) there = Refused fault
front_with (Ok head) there = if nat_lt there head.len then NotYet else Whole head

-- a header is judged as soon as all of it came, and its message is there once all of that came
abbrev pub front_of : List ℕ → Front
front_of bytes = if nat_lt (length bytes) 19 then NotYet else front_with (head_of bytes) (length bytes)
