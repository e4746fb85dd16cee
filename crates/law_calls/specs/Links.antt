-- Why a hub of links refuses, why connections end, and what it never passes.
use Rattle.std.specs.Prelude.{◌≡◌, ℕ, ◌+◌, ◌<◌, ◌≤◌, Bool, true, false, List, [], ◌∷◌, ◌++◌, length, drop, count_by, nat_eq, Some, None}
use Rattle.std.specs.List.{AllByRecursion, IsDistinct}
use Rattle.std.specs.Option.{option_map}
use Rattle.fg_outside.specs.Counts.{Rose}
use Rattle.fg_outside.specs.Left.{IsAtEnd}
use Rattle.fg_outside.specs.HubStep.{HubStep, turned, said, closed, Leads}
use Rattle.fg_outside.specs.declared.hub.EndCause.{EndCause}
use Rattle.fg_outside.specs.declared.hub.EndCause.TheVariants.{End, LinkFault, Overfull}
use Rattle.fg_outside.specs.declared.hub.Turn.{Turn}
use Rattle.fg_outside.specs.declared.hub.Turn.TheVariants.{Happened, Done, Failed, Memory}
use Rattle.fg_outside.specs.declared.hub.Said.TheVariants as answers
use Rattle.fg_links.specs.declared.link.Link as link
use Rattle.fg_links.specs.declared.next.MemNext.{MemNext}
use Rattle.fg_links.specs.declared.poller.Poller as poller
use Rattle.link_hub.specs.declared.hub.LinkHub.{LinkHub}
use Rattle.link_hub.specs.declared.live.Live.{Live}
use Rattle.link_hub.specs.Hub.{is_live, live_at, most_open, poller_of}
use Rattle.link_hub.specs.Links.{most_unsent}

-- ---- refusals

-- why a turn gives nothing: the poller has nothing left, or it failed in this call; want of memory has no cause here
abbrev pub TurnCause : {P L : Type 0} → poller.Ghosts P L → LinkHub P L → Turn → LinkHub P L → Type 0
TurnCause p old (Happened it) new = Unit {0}
TurnCause {L = L} p old Done new = (list : List (MemNext L)) → p.ahead (poller_of new) ≡ Some list → list ≡ []
TurnCause p old Failed new = Rose (p.faults (poller_of old)) (p.faults (poller_of new))
TurnCause p old Memory new = Unit {0}

-- why a piece isn't taken
pub data SayCause {P L : Type 0} (it : link.Ghosts L) (conn : ℕ) (piece : List ℕ) (old new : LinkHub P L) : Type 0 where
  -- the connection isn't open, and nothing is done
  not_open : live_at old conn ≡ None → new ≡ old → SayCause it conn piece old new
  -- more would wait on its link than may
  too_much : (was : Live L) → live_at old conn ≡ Some was → most_unsent < length was.unsent + length piece → SayCause it conn piece old new
  -- its link failed in this call
  link_failed : (was last : Live L) → live_at old conn ≡ Some was → Rose (it.faults was.link) (it.faults last.link) → SayCause it conn piece old new

-- ---- ends

-- why a connection ended in a call, where its link was so before the call and when it was let go
abbrev pub EndCauses : {L : Type 0} → link.Ghosts L → ℕ → EndCause → (was last : Live L) → HubStep → Type 0
EndCauses it conn End was last step = IsAtEnd (it.left last.link)
EndCauses it conn LinkFault was last step = Rose (it.faults last.opened.value) (it.faults last.link)
EndCauses it conn Overfull was last step = (piece : List ℕ) × (step ≡ said conn piece answers.Gone) × (most_unsent < length was.unsent + length piece)

-- an open connection ended in this call, for this cause
pub record IsEnd {P L : Type 0} (it : link.Ghosts L) (conn : ℕ) (cause : EndCause) (old : LinkHub P L) (step : HubStep) (new : LinkHub P L) : Type 0 where
  pub was : Live L
  pub last : Live L
  pub found : live_at old conn ≡ Some was
  pub opened : last.opened ≡ was.opened
  pub why : EndCauses it conn cause was last step
  pub gone : live_at new conn ≡ None

-- a run of which one call has this
pub data OneStep {H : Type 0} (may has : H → HubStep → H → Type 0) (from : H) : List HubStep → H → Type 0 where
  in_last : (steps : List HubStep) (old : H) (step : HubStep) (new : H) → Leads may from steps old → may old step new → has old step new → OneStep may has from (steps ++ step ∷ []) new
  in_earlier : (steps : List HubStep) (old : H) (step : HubStep) (new : H) → OneStep may has from steps old → may old step new → OneStep may has from (steps ++ step ∷ []) new

-- ---- limits

-- no open link has more waiting than it may
abbrev pub WaitsWithin : {P L : Type 0} → LinkHub P L → Type 0
WaitsWithin {L = L} hub = (conn : ℕ) (live : Live L) → live_at hub conn ≡ Some live → length live.unsent ≤ most_unsent

-- no more connections are open than may be
abbrev pub OpensWithin : {P L : Type 0} → LinkHub P L → Type 0
OpensWithin hub = (conns : List ℕ) → IsDistinct nat_eq conns → AllByRecursion (λ conn. is_live hub conn ≡ true) conns → length conns ≤ most_open

-- the poller was asked for so many answers at most
pub record AsksWithin {P L : Type 0} (p : poller.Ghosts P L) (most : ℕ) (old new : LinkHub P L) : Type 0 where
  pub count : ℕ
  pub few : count ≤ most
  pub ahead : p.ahead (poller_of new) ≡ option_map (drop count) (p.ahead (poller_of old))

abbrev pub is_turn : HubStep → Bool
is_turn (turned turn) = true
is_turn (said conn piece answer) = false
is_turn (closed conn) = false

abbrev pub turns_in : List HubStep → ℕ
turns_in steps = count_by is_turn steps
