-- What a hub keeps, and what a call may make of it.
use Rattle.std.specs.Prelude.{◌≡◌, ◌≢◌, ◌⊎◌, ℕ, ◌+◌, ◌-◌, ◌^◌, ◌<◌, ◌≤◌, Bool, true, false, List, [], ◌∷◌, length, drop, is_some, Option, Some, None}
use Rattle.std.specs.Option.{option_map}
use Rattle.std.specs.Ordering.{nat_cmp}
use Rattle.std.specs.BTreeMap.{BTreeMap, get, btree_map_len}
use Rattle.fg_outside.specs.Counts.{Rose}
use Rattle.fg_outside.specs.Left.{prepended, IsAtEnd}
use Rattle.fg_outside.specs.HubStep.{HubStep, turned, said, closed}
use Rattle.fg_outside.specs.declared.hub.EndCause.{EndCause}
use Rattle.fg_outside.specs.declared.hub.EndCause.TheVariants.{End, LinkFault, Overfull}
use Rattle.fg_outside.specs.declared.hub.Happening.TheVariants.{Opened, Heard, Closed}
use Rattle.fg_outside.specs.declared.hub.Happening.TheVariants as happenings
use Rattle.fg_outside.specs.declared.hub.Turn.{Turn}
use Rattle.fg_outside.specs.declared.hub.Turn.TheVariants.{Happened, Done, Failed, Memory}
use Rattle.fg_outside.specs.declared.hub.Said.{Said}
use Rattle.fg_outside.specs.declared.hub.Said.TheVariants as answers
use Rattle.fg_links.specs.declared.link.Link as link
use Rattle.fg_links.specs.declared.link.Took.{Took}
use Rattle.fg_links.specs.declared.next.Next.{Next}
use Rattle.fg_links.specs.declared.next.Next.TheVariants as nexts
use Rattle.fg_links.specs.declared.next.MemNext.{MemNext}
use Rattle.fg_links.specs.declared.poller.Poller as poller
use Rattle.fg_links.specs.Nexts.{next_of}
use Rattle.fg_links.specs.declared.told.Told.{Told}
use Rattle.fg_links.specs.declared.told.Told.TheVariants.{Quiet, Gone}
use Rattle.fg_links.specs.Calls.{Appends}
use Rattle.link_hub.specs.declared.hub.LinkHub.{LinkHub}
use Rattle.link_hub.specs.declared.live.Live.{Live}
use Rattle.link_hub.specs.Links.{Sends, Serves, Says, IsNew, IsFlushed}

-- how many links may be open
abbrev pub most_open : ℕ
most_open = 256

-- how many bytes a read takes at most
abbrev pub read_len : ℕ
read_len = 65536

-- how many answers of the poller a turn takes at most that give nothing
abbrev pub most_empty : ℕ
most_empty = 1024

-- the open link of a connection, with what waits to be written on it
abbrev pub live_at : {P L : Type 0} → LinkHub P L → ℕ → Option (Live L)
live_at hub conn = get nat_cmp hub.live conn

-- the connection is open
abbrev pub is_live : {P L : Type 0} → LinkHub P L → ℕ → Bool
is_live hub conn = is_some (live_at hub conn)

-- how many links are open
abbrev pub open_count : {P L : Type 0} → LinkHub P L → ℕ
open_count hub = btree_map_len hub.live

-- why a connection ended whose end is still to be told
abbrev pub ended_at : {P L : Type 0} → LinkHub P L → ℕ → Option EndCause
ended_at hub conn = get nat_cmp hub.ended conn

-- the poller that it asks
abbrev pub poller_of : {P L : Type 0} → LinkHub P L → P
poller_of hub = hub.poller

-- of two maps the later one has this at a number, and at the others what the earlier one has
pub record IsSet {X : Type 0} (conn : ℕ) (value : Option X) (old new : BTreeMap ℕ X) : Type 0 where
  pub here : get nat_cmp new conn ≡ value
  pub elsewhere : (other : ℕ) → other ≢ conn → get nat_cmp new other ≡ get nat_cmp old other

-- two maps have the same at each number
abbrev pub IsSame : {X : Type 0} → BTreeMap ℕ X → BTreeMap ℕ X → Type 0
IsSame old new = (conn : ℕ) → get nat_cmp new conn ≡ get nat_cmp old conn

-- ---- the poller

-- the poller gave this answer
pub record Answers {P L : Type 0} (p : poller.Ghosts P L) (answer : Next L) (old new : P) : Type 0 where
  pub next : answer ≢ nexts.Failed → (list : List (MemNext L)) → p.ahead old ≡ Some list → answer ≡ next_of list
  pub onward : answer ≢ nexts.Failed → p.ahead new ≡ option_map (drop 1) (p.ahead old)
  pub kept : answer ≡ nexts.Failed → p.ahead new ≡ p.ahead old
  pub told : p.told new ≡ p.told old

-- the poller was told this of a link
pub record IsTold {P L : Type 0} (p : poller.Ghosts P L) (call : Told) (old new : P) : Type 0 where
  pub told : Appends (p.told old) (call ∷ []) (p.told new)
  pub ahead : p.ahead new ≡ p.ahead old

-- ---- a link opens

-- it has the next number, and is open
pub record Opens {P L : Type 0} (opens : L) (conn : ℕ) (old new : LinkHub P L) : Type 0 where
  pub number : conn ≡ old.given + 1
  pub room : open_count old < most_open
  pub live : Live L
  pub fresh : IsNew opens live
  pub set : IsSet conn (Some live) old.live new.live
  pub rest : new ≡ record old { given = conn; live = new.live }

-- too many are open: it is let go
pub record IsBeyond {P L : Type 0} (p : poller.Ghosts P L) (old new : LinkHub P L) : Type 0 where
  pub full : most_open ≤ open_count old
  pub gone : IsTold p (Gone (old.given + 1)) old.poller new.poller
  pub rest : new ≡ record old { poller = new.poller; given = old.given + 1 }

-- all numbers are used up: it is let go
pub record IsUnnumbered {P L : Type 0} (old new : LinkHub P L) : Type 0 where
  pub last : 2 ^ 32 - 1 ≤ old.given
  pub rest : new ≡ old

-- memory ran out: it is let go
pub record IsLost {P L : Type 0} (p : poller.Ghosts P L) (old new : LinkHub P L) : Type 0 where
  pub gone : IsTold p (Gone (old.given + 1)) old.poller new.poller
  pub same : IsSame old.live new.live
  pub rest : new ≡ record old { poller = new.poller; given = old.given + 1; live = new.live; spent = true }

abbrev pub TakesLink : {P L : Type 0} → poller.Ghosts P L → L → LinkHub P L → Option Turn → LinkHub P L → Type 0
TakesLink p opens old None new = IsBeyond p old new ⊎ IsUnnumbered old new
TakesLink p opens old (Some (Happened (Opened conn))) new = Opens opens conn old new
TakesLink p opens old (Some Memory) new = IsLost p old new
TakesLink p opens old _ new = ⊥

-- ---- a link is ready

-- the link is served
pub record IsServed {L : Type 0} (it : link.Ghosts L) (answer : Took) (room : ℕ) (heard : List ℕ) (conn : ℕ) (old new : BTreeMap ℕ (Live L)) : Type 0 where
  pub was : Live L
  pub is : Live L
  pub found : get nat_cmp old conn ≡ Some was
  pub serves : Serves it answer room heard was is
  pub set : IsSet conn (Some is) old new

-- a piece is said on the link
pub record IsSaid {L : Type 0} (it : link.Ghosts L) (piece : List ℕ) (end : Option EndCause) (conn : ℕ) (old new : BTreeMap ℕ (Live L)) : Type 0 where
  pub was : Live L
  pub is : Live L
  pub found : get nat_cmp old conn ≡ Some was
  pub says : Says it piece was end is
  pub set : IsSet conn (Some is) old new

-- no byte has come: the poller is told so
pub record Waits {P L : Type 0} (it : link.Ghosts L) (p : poller.Ghosts P L) (conn : ℕ) (old new : LinkHub P L) : Type 0 where
  pub was : Live L
  pub is : Live L
  pub found : live_at old conn ≡ Some was
  pub sends : Sends it [] was is
  pub flushed : IsFlushed it was is
  pub left : it.left is.link ≡ it.left was.link
  pub not_yet : Rose (it.unread was.link) (it.unread is.link)
  pub set : IsSet conn (Some is) old.live new.live
  pub quiet : IsTold p (Quiet conn) old.poller new.poller
  pub rest : new ≡ record old { poller = new.poller; live = new.live }

-- bytes came
pub record Hears {P L : Type 0} (it : link.Ghosts L) (conn : ℕ) (piece : List ℕ) (old new : LinkHub P L) : Type 0 where
  pub was : Live L
  pub is : Live L
  pub found : live_at old conn ≡ Some was
  pub sends : Sends it [] was is
  pub flushed : IsFlushed it was is
  pub some : 0 < length piece
  pub within : length piece ≤ read_len
  pub heard : it.left was.link ≡ prepended piece (it.left is.link)
  pub no_wait : it.unread is.link ≡ it.unread was.link
  pub set : IsSet conn (Some is) old.live new.live
  pub rest : new ≡ record old { live = new.live }

-- why a link ends that is ready
abbrev pub EndsBy : {L : Type 0} → link.Ghosts L → EndCause → Live L → Live L → Type 0
EndsBy it End was last = IsAtEnd (it.left last.link)
EndsBy it LinkFault was last = Rose (it.faults was.link) (it.faults last.link)
EndsBy it Overfull was last = ⊥

-- the link ends, and is let go
pub record Ends {P L : Type 0} (it : link.Ghosts L) (p : poller.Ghosts P L) (conn : ℕ) (cause : EndCause) (old new : LinkHub P L) : Type 0 where
  pub was : Live L
  pub last : Live L
  pub found : live_at old conn ≡ Some was
  pub sends : Sends it [] was last
  pub left : it.left last.link ≡ it.left was.link
  pub why : EndsBy it cause was last
  pub set : IsSet conn None old.live new.live
  pub gone : IsTold p (Gone conn) old.poller new.poller
  pub rest : new ≡ record old { poller = new.poller; live = new.live }

abbrev pub ServesLink : {P L : Type 0} → link.Ghosts L → poller.Ghosts P L → ℕ → LinkHub P L → Option Turn → LinkHub P L → Type 0
ServesLink it p conn old None new = ((live_at old conn ≡ None) × (new ≡ old)) ⊎ Waits it p conn old new
ServesLink it p conn old (Some (Happened (Heard heard piece))) new = (heard ≡ conn) × Hears it conn piece old new
ServesLink it p conn old (Some (Happened (Closed ended cause))) new = (ended ≡ conn) × Ends it p conn cause old new
ServesLink it p conn old (Some Memory) new = new ≡ record old { spent = true }
ServesLink it p conn old _ new = ⊥

-- ---- the poller is asked

-- what comes of its answer
abbrev pub DoesNext : {P L : Type 0} → link.Ghosts L → poller.Ghosts P L → Next L → LinkHub P L → Option Turn → LinkHub P L → Type 0
DoesNext it p (nexts.New opens) old turn new = TakesLink p opens old turn new
DoesNext it p (nexts.Ready conn) old turn new = ServesLink it p conn old turn new
DoesNext it p (nexts.Moment moment) old turn new = (turn ≡ Some (Happened (happenings.Moment moment))) × (new ≡ record old { moment = moment })
DoesNext it p nexts.Stop old turn new = (turn ≡ Some Done) × (new ≡ old)
DoesNext it p nexts.Failed old turn new = (turn ≡ Some Failed) × (new ≡ old)

-- the poller gave an answer, and the hub did what comes of it
pub record Asks {P L : Type 0} (it : link.Ghosts L) (p : poller.Ghosts P L) (old : LinkHub P L) (turn : Option Turn) (new : LinkHub P L) : Type 0 where
  pub answer : Next L
  pub asked : P
  pub answers : Answers p answer old.poller asked
  pub does : DoesNext it p answer (record old { poller = asked }) turn new

-- so many answers of the poller gave no turn
pub data Passes {P L : Type 0} (it : link.Ghosts L) (p : poller.Ghosts P L) (from : LinkHub P L) : ℕ → LinkHub P L → Type 0 where
  start : Passes it p from 0 from
  next : (n : ℕ) (mid to : LinkHub P L) → Passes it p from n mid → Asks it p mid None to → Passes it p from (n + 1) to

-- ---- the calls

-- no end waits to be told
abbrev pub IsIdle : {P L : Type 0} → LinkHub P L → Type 0
IsIdle hub = (conn : ℕ) → ended_at hub conn ≡ None

-- an end is told, the one with the least number first
pub record TellsEnd {P L : Type 0} (conn : ℕ) (cause : EndCause) (old new : LinkHub P L) : Type 0 where
  pub ended : ended_at old conn ≡ Some cause
  pub least : (other : ℕ) → other < conn → ended_at old other ≡ None
  pub set : IsSet conn None old.ended new.ended
  pub rest : new ≡ record old { ended = new.ended }

-- what a turn tells that tells an end
abbrev pub TellsTurn : {P L : Type 0} → LinkHub P L → Turn → LinkHub P L → Type 0
TellsTurn old (Happened (Closed conn cause)) new = TellsEnd conn cause old new
TellsTurn old _ new = ⊥

pub data Turns {P L : Type 0} (it : link.Ghosts L) (p : poller.Ghosts P L) (old : LinkHub P L) : Turn → LinkHub P L → Type 0 where
  -- memory had run out
  spent : old.spent ≡ true → Turns it p old Memory old
  told : (conn : ℕ) (cause : EndCause) (new : LinkHub P L) → old.spent ≡ false → TellsEnd conn cause old new → Turns it p old (Happened (Closed conn cause)) new
  asked : (n : ℕ) (mid : LinkHub P L) (turn : Turn) (new : LinkHub P L) → old.spent ≡ false → IsIdle old → n < most_empty → Passes it p old n mid → Asks it p mid (Some turn) new → Turns it p old turn new
  -- the last moment, behind answers that gave nothing
  empty : (new : LinkHub P L) → old.spent ≡ false → IsIdle old → Passes it p old most_empty new → Turns it p old (Happened (happenings.Moment new.moment)) new

-- a piece was said
pub record SaysPiece {P L : Type 0} (it : link.Ghosts L) (conn : ℕ) (piece : List ℕ) (old new : LinkHub P L) : Type 0 where
  pub was : Live L
  pub is : Live L
  pub found : live_at old conn ≡ Some was
  pub takes : Says it piece was None is
  pub set : IsSet conn (Some is) old.live new.live
  pub rest : new ≡ record old { live = new.live }

-- the link ended when a piece was said, and is let go
pub record EndsSaying {P L : Type 0} (it : link.Ghosts L) (p : poller.Ghosts P L) (conn : ℕ) (piece : List ℕ) (cause : EndCause) (old new : LinkHub P L) : Type 0 where
  pub was : Live L
  pub last : Live L
  pub found : live_at old conn ≡ Some was
  pub why : Says it piece was (Some cause) last
  pub set : IsSet conn None old.live new.live
  pub gone : IsTold p (Gone conn) old.poller new.poller

-- its end is to be told
pub record EndsLater {P L : Type 0} (it : link.Ghosts L) (p : poller.Ghosts P L) (conn : ℕ) (piece : List ℕ) (old new : LinkHub P L) : Type 0 where
  pub cause : EndCause
  pub ends : EndsSaying it p conn piece cause old new
  pub later : IsSet conn (Some cause) old.ended new.ended
  pub rest : new ≡ record old { poller = new.poller; live = new.live; ended = new.ended }

-- memory ran out: nothing was said, or the link ended
pub record RunsOut {P L : Type 0} (it : link.Ghosts L) (p : poller.Ghosts P L) (conn : ℕ) (piece : List ℕ) (old new : LinkHub P L) : Type 0 where
  pub spent : new.spent ≡ true
  pub given : new.given ≡ old.given
  pub either : (IsSame old.live new.live × (new.poller ≡ old.poller)) ⊎ ((cause : EndCause) × EndsSaying it p conn piece cause old new)

abbrev pub SaysStep : {P L : Type 0} → link.Ghosts L → poller.Ghosts P L → ℕ → List ℕ → LinkHub P L → Said → LinkHub P L → Type 0
SaysStep it p conn piece old answers.Taken new = (old.spent ≡ false) × SaysPiece it conn piece old new
SaysStep it p conn piece old answers.Gone new = (old.spent ≡ false) × (((live_at old conn ≡ None) × (new ≡ old)) ⊎ EndsLater it p conn piece old new)
SaysStep it p conn piece old answers.Memory new = ((old.spent ≡ true) × (new ≡ old)) ⊎ ((old.spent ≡ false) × RunsOut it p conn piece old new)

-- the link of a connection is let go, where it is open
pub record LetsGo {P L : Type 0} (p : poller.Ghosts P L) (conn : ℕ) (old new : LinkHub P L) : Type 0 where
  pub set : IsSet conn None old.live new.live
  pub gone : is_live old conn ≡ true → IsTold p (Gone conn) old.poller new.poller
  pub untold : is_live old conn ≡ false → new.poller ≡ old.poller
  pub rest : new ≡ record old { poller = new.poller; live = new.live }

-- an open link is let go, and its end is to be told, unless memory ran out
pub record LetsGoLater {P L : Type 0} (p : poller.Ghosts P L) (conn : ℕ) (cause : EndCause) (old : LinkHub P L) (answer : Said) (new : LinkHub P L) : Type 0 where
  pub set : IsSet conn None old.live new.live
  pub gone : is_live old conn ≡ true → IsTold p (Gone conn) old.poller new.poller
  pub taken : answer ≡ answers.Taken → ⊥
  pub given : new.given ≡ old.given
  pub later : answer ≡ answers.Gone → IsSet conn (Some cause) old.ended new.ended
  pub rest : answer ≡ answers.Gone → new ≡ record old { poller = new.poller; live = new.live; ended = new.ended }
  pub spent : answer ≡ answers.Memory → new.spent ≡ true

-- a connection is closed: it has no turn more
pub record Closes {P L : Type 0} (p : poller.Ghosts P L) (conn : ℕ) (old new : LinkHub P L) : Type 0 where
  pub set : IsSet conn None old.live new.live
  pub gone : is_live old conn ≡ true → IsTold p (Gone conn) old.poller new.poller
  pub untold : is_live old conn ≡ false → new.poller ≡ old.poller
  pub ended : IsSet conn None old.ended new.ended
  pub rest : new ≡ record old { poller = new.poller; live = new.live; ended = new.ended }

-- a step that the hub may take
abbrev pub LinkStep : {P L : Type 0} → link.Ghosts L → poller.Ghosts P L → LinkHub P L → HubStep → LinkHub P L → Type 0
LinkStep it p old (turned turn) new = Turns it p old turn new
LinkStep it p old (said conn piece answer) new = SaysStep it p conn piece old answer new
LinkStep it p old (closed conn) new = Closes p conn old new

-- a hub that no call was made of
pub record IsFresh {P L : Type 0} (poller : P) (hub : LinkHub P L) : Type 0 where
  pub asks : hub.poller ≡ poller
  pub none : (conn : ℕ) → live_at hub conn ≡ None
  pub ended : (conn : ℕ) → ended_at hub conn ≡ None
  pub given : hub.given ≡ 0
  pub moment : hub.moment ≡ 0
  pub running : hub.spent ≡ false
