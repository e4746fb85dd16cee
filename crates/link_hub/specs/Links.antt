-- What happens to an open link.
use Rattle.std.specs.Prelude.{◌≡◌, ◌≢◌, ◌⊎◌, ℕ, ◌+◌, ◌<◌, ◌≤◌, List, [], ◌++◌, length, Option, Some, None}
use Rattle.fg_outside.specs.Counts.{Rose}
use Rattle.fg_outside.specs.Left.{prepended, IsAtEnd}
use Rattle.fg_outside.specs.Wrote.{appended}
use Rattle.fg_links.specs.declared.link.Link as link
use Rattle.fg_links.specs.declared.link.Took.{Took}
use Rattle.fg_links.specs.declared.link.Took.TheVariants as reads
use Rattle.fg_links.specs.Moved.{IfTook, UnlessTook}
use Rattle.fg_outside.specs.declared.hub.EndCause.{EndCause}
use Rattle.fg_outside.specs.declared.hub.EndCause.TheVariants.{End, LinkFault, Overfull}
use Rattle.link_hub.specs.declared.live.Live.{Live}

-- how many bytes may wait to be written on one link
abbrev pub most_unsent : ℕ
most_unsent = 67108864

-- Behind what waited to be written a piece was said, and of both together a front was written; the rest waits. Nothing
-- was read.
pub record Sends {L : Type 0} (it : link.Ghosts L) (piece : List ℕ) (old new : Live L) : Type 0 where
  pub front : List ℕ
  pub parts : old.unsent ++ piece ≡ front ++ new.unsent
  pub wrote : it.wrote new.link ≡ appended (it.wrote old.link) front
  pub opened : new.opened ≡ old.opened
  pub faults : it.faults old.link ≤ it.faults new.link
  pub unwritten : it.unwritten old.link ≤ it.unwritten new.link

-- nothing was read
pub record IsUnread {L : Type 0} (it : link.Ghosts L) (old new : Live L) : Type 0 where
  pub left : it.left new.link ≡ it.left old.link
  pub unread : it.unread new.link ≡ it.unread old.link

-- nothing waits, or the link took no more
abbrev pub IsFlushed : {L : Type 0} → link.Ghosts L → Live L → Live L → Type 0
IsFlushed it old new = (new.unsent ≡ []) ⊎ Rose (it.unwritten old.link) (it.unwritten new.link)

-- a link that opens: nothing waits
pub record IsNew {L : Type 0} (opens : L) (new : Live L) : Type 0 where
  pub link : new.link ≡ opens
  pub unsent : new.unsent ≡ []
  pub opened : new.opened.value ≡ opens

-- the piece has room behind what waits
abbrev pub Fits : {L : Type 0} → List ℕ → Live L → Type 0
Fits piece old = length old.unsent + length piece ≤ most_unsent

-- what waited was written as far as it can be, and then the link answered a read of at most so many bytes with these
pub record Serves {L : Type 0} (it : link.Ghosts L) (answer : Took) (room : ℕ) (heard : List ℕ) (old new : Live L) : Type 0 where
  pub some : 0 < room → IfTook answer (λ _. 0 < length heard)
  pub within : IfTook answer (λ _. length heard ≤ room)
  pub took : IfTook answer (λ _. it.left old.link ≡ prepended heard (it.left new.link))
  pub kept : UnlessTook answer (it.left new.link ≡ it.left old.link)
  pub end : answer ≡ reads.End → IsAtEnd (it.left new.link)
  pub not_yet : answer ≡ reads.NotYet → Rose (it.unread old.link) (it.unread new.link)
  pub no_wait : answer ≢ reads.NotYet → it.unread new.link ≡ it.unread old.link
  pub sends : Sends it [] old new
  pub flushed : answer ≢ reads.Failed → IsFlushed it old new
  pub fault : answer ≡ reads.Failed → Rose (it.faults old.link) (it.faults new.link)

-- a piece was said, and what can be written is
pub record Takes {L : Type 0} (it : link.Ghosts L) (piece : List ℕ) (old new : Live L) : Type 0 where
  pub fits : Fits piece old
  pub sends : Sends it piece old new
  pub unread : IsUnread it old new
  pub flushed : IsFlushed it old new

-- a piece was said, and a write failed
pub record Breaks {L : Type 0} (it : link.Ghosts L) (piece : List ℕ) (old new : Live L) : Type 0 where
  pub fits : Fits piece old
  pub sends : Sends it piece old new
  pub fault : Rose (it.faults old.link) (it.faults new.link)

-- what comes of a piece that is said: no end, or why the link ends
abbrev pub Says : {L : Type 0} → link.Ghosts L → List ℕ → Live L → Option EndCause → Live L → Type 0
Says it piece old None new = Takes it piece old new
Says it piece old (Some Overfull) new = (most_unsent < length old.unsent + length piece) × (new ≡ old)
Says it piece old (Some LinkFault) new = Breaks it piece old new
Says it piece old (Some End) new = ⊥
