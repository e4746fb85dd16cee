-- The frames at the front of the bytes that came on a connection (OpenFlow 1.3, 7.1): each begins with a header of 8
-- bytes, which tells the length of the whole.
use Rattle.std.specs.Prelude.{ℕ, nat_lt, Bool, true, false, if◌then◌else◌, List, length, take, drop}
use Rattle.switch_session.specs.Frames.{told_length}
use Rattle.ctl_world.specs.declared.conns.Conn.{Conn}
use Rattle.ctl_world.specs.declared.frames.Front.{Front}
use Rattle.ctl_world.specs.declared.frames.Front.TheVariants.{Part, Frame, Bad}

-- less than a frame, a header that tells less than its own length, or a frame
abbrev pub front : List ℕ → Front
front bytes =
    if nat_lt (length bytes) 8 then Part
    else if nat_lt (told_length bytes) 8 then Bad
    else if nat_lt (length bytes) (told_length bytes) then Part
    else Frame (take (told_length bytes) bytes)

abbrev pub is_frame : Front → Bool
is_frame Part = false
is_frame (Frame frame) = true
is_frame Bad = false

-- what is behind the frame at the front; all where there is none
abbrev pub behind_frame : List ℕ → List ℕ
behind_frame bytes = if is_frame (front bytes) then drop (told_length bytes) bytes else bytes

-- what stands at the front was taken
abbrev pub with_read : Conn → Conn
with_read c = record c { session = record c.session { unread = behind_frame c.session.unread } }
