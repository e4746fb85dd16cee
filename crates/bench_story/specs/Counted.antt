-- What is counted of all that a controller says, and what a switch owes for it.
use Rattle.std.specs.Prelude.{ℕ, ◌==◌, Bool, false, if◌then◌else◌, nat_lt, List, [], length, Option, Some, None, sum, sum_by, count_by}
use Rattle.std.specs.List.{flat_map}
use Rattle.std.specs.Option.{option_map_or}
use Rattle.of13_codec.specs.declared.codec.FrameHead.{FrameHead}
use Rattle.of13_codec.specs.declared.message.Message.TheVariants.{BarrierReply}
use Rattle.of13_codec.specs.Messages.{head_of, written}
use Rattle.ctl_life.specs.declared.saying.Saying.{Saying}
use Rattle.ctl_life.specs.declared.saying.Saying.TheVariants.{Send, Close, Line}

-- the header of a message (OpenFlow 1.3, 7.1)
abbrev pub head_by : Saying → Option FrameHead
head_by (Send conn bytes) = if nat_lt (length bytes) 8 then None else Some (head_of bytes)
head_by (Close conn cause) = None
head_by (Line text) = None

-- ---- counts

-- it is a message of this type
abbrev pub is_of : (kind : ℕ) → Saying → Bool
is_of kind saying = option_map_or (λ h. h.kind == kind) (head_by saying) false

-- the types of BARRIER_REQUEST and FLOW_MOD (7.1)
abbrev pub barrier_request : ℕ
barrier_request = 20

abbrev pub flow_mod : ℕ
flow_mod = 14

-- how many messages of a type there are
unfoldable pub count_of : (kind : ℕ) → List Saying → ℕ
count_of kind sayings = count_by (is_of kind) sayings

-- the bytes of a message
abbrev pub bytes_by : Saying → List ℕ
bytes_by (Send conn bytes) = bytes
bytes_by (Close conn cause) = []
bytes_by (Line text) = []

-- the values of all their bytes together
unfoldable pub total : List Saying → ℕ
total sayings = sum_by (λ saying. sum (bytes_by saying)) sayings

-- ---- replies

-- a BARRIER_REQUEST asks for a BARRIER_REPLY with its transaction id (7.3.8)
abbrev pub reply_by : Option FrameHead → List ℕ
reply_by None = []
reply_by (Some head) = if head.kind == barrier_request then written BarrierReply head.xid else []

abbrev pub reply_to : Saying → List ℕ
reply_to saying = reply_by (head_by saying)

unfoldable pub replies_to : List Saying → List ℕ
replies_to sayings = flat_map reply_to sayings
