-- What contracts see of a session, and what its calls but `hear` do to it.
use Rattle.std.specs.Prelude.{ℕ, ◌+◌, ◌-◌, Bool, true, false, ◌==◌, nat_le, if◌then◌else◌, List, [], ◌∷◌, ◌++◌, None}
use Rattle.net_base.specs.declared.numbers.Moment.{Moment}
use Rattle.switch_session.specs.declared.quiet.Quiet.{Quiet}
use Rattle.switch_session.specs.declared.quiet.Quiet.TheVariants.{Well, Echo, Silent}
use Rattle.switch_session.specs.declared.state.Stage.TheVariants.{Greeting}
use Rattle.switch_session.specs.Stages.{State}

-- one connection
pub record Connection : Type 0 where
  -- its stage, the transaction id that is outstanding, and the ports told
  pub state : State
  -- the moment of the last heard byte, or else of the opening
  pub heard : Moment
  -- whether an echo was asked for since
  pub echoed : Bool
  -- the transaction id of the last message that was said, or 0
  pub last_xid : ℕ
  -- the bytes that came and that no frame has taken yet
  pub unread : List ℕ

-- nothing came, and nothing was said
abbrev pub opened : Moment → Connection
opened now = record {
  state = record { stage = Greeting; awaited = None; ports = [] };
  heard = now;
  echoed = false;
  last_xid = 0;
  unread = [];
}

-- a piece came at a moment; an empty one is no heard byte
abbrev pub fed : Connection → (piece : List ℕ) → Moment → Connection
fed c [] now = c
fed c (byte ∷ piece) now = record c { heard = now; echoed = false; unread = c.unread ++ byte ∷ piece }

-- transaction ids count from 1, and from the greatest one on to 1
abbrev pub next_id : ℕ → ℕ
next_id last = if last == 0xffffffff then 1 else last + 1

-- what is due after so many milliseconds without a heard byte, where an echo was asked for since or not
abbrev pub due : (echoed : Bool) → (silence : ℕ) → Quiet
due true silence = if nat_le 60000 silence then Silent else Well
due false silence = if nat_le 60000 silence then Silent else (if nat_le 20000 silence then Echo else Well)

-- a moment below that of the last heard byte counts as none later
abbrev pub due_at : Connection → Moment → Quiet
due_at c now = due c.echoed (now.0 - c.heard.0)

abbrev pub asks_echo : Quiet → Bool → Bool
asks_echo Echo echoed = true
asks_echo quiet echoed = echoed
