-- What each step of a hub changes of its links, and tells its poller.
use Rattle.std.proofs.Common.{◌≡◌, ◌≢◌, ◌⊎◌, ◌==◌, ℕ, ◌+◌, Bool, true, false, if◌then◌else◌, is_some, List, [], ◌∷◌, ◌++◌, Option, Some, None, refl, sym, ◌∙◌, ap, subst, inl, inr, arith, append-nil}
use Rattle.std.proofs.lemmas.Grind.{common_steps}
use Rattle.fg_outside.specs.Counts.{Rose}
use Rattle.fg_outside.specs.Left.{prepended}
use Rattle.fg_outside.specs.HubStep.{HubStep, turned, said, closed, Event, happening, saying, closing, told_by, story, Leads}
use Rattle.fg_outside.proofs.StoryLemmas.{Story-keeps}
use Rattle.fg_outside.specs.declared.hub.EndCause.{EndCause}
use Rattle.fg_outside.specs.declared.hub.Happening.TheVariants.{Opened, Heard, Closed, Reload}
use Rattle.fg_outside.specs.declared.hub.Happening.TheVariants as happenings
use Rattle.fg_outside.specs.declared.hub.Turn.{Turn}
use Rattle.fg_outside.specs.declared.hub.Turn.TheVariants.{Happened, Done, Failed, Memory}
use Rattle.fg_outside.specs.declared.hub.Said.{Said}
use Rattle.fg_outside.specs.declared.hub.Said.TheVariants as answers
use Rattle.fg_links.specs.declared.link.Link as link
use Rattle.fg_links.specs.declared.next.Next.{Next}
use Rattle.fg_links.specs.declared.next.Next.TheVariants as nexts
use Rattle.fg_links.specs.declared.poller.Poller as poller
use Rattle.fg_links.specs.declared.told.Told.{Told}
use Rattle.fg_links.specs.declared.told.Told.TheVariants.{Quiet, Gone}
use Rattle.fg_links.specs.Calls.{Appends}
use Rattle.link_hub.specs.declared.hub.LinkHub.{LinkHub}
use Rattle.link_hub.specs.declared.live.Live.{Live}
use Rattle.link_hub.specs.Links.{Sends, IsNew}
use Rattle.link_hub.specs.Hub.{live_at, ended_at, is_live, most_empty, IsSet, IsSame, EndsSaying, TakesLink, ServesLink, Hears, DoesNext, Asks, Passes, start, next, Turns, spent, told, asked, empty, SaysStep, Closes, LinkStep}
use Rattle.link_hub.specs.Runs.{heard_on, said_on}
use Rattle.link_hub.proofs.MapLemmas.{same_at}

pub prepended-nil : (w : Option (List ℕ)) → prepended [] w ≡ w
prepended-nil None = refl
prepended-nil (Some w) = refl

-- the events tell nothing of a connection's bytes
pub record IsSilent (conn : ℕ) (events : List Event) : Type 0 where
  pub heard : heard_on conn events ≡ []
  pub said : said_on conn events ≡ []

pub silent_nil : (conn : ℕ) → IsSilent conn []
silent_nil conn = record { heard = refl; said = refl }

other_piece : (c conn : ℕ) (piece : List ℕ) → c ≢ conn → (if c == conn then piece else []) ++ [] ≡ []
other_piece c conn piece ne = grind (arith, common_steps, ne)

same_piece : (conn : ℕ) (piece : List ℕ) → (if conn == conn then piece else []) ++ [] ≡ piece
same_piece conn piece = grind (arith, common_steps)

none_of : {A : Type 0} (o : Option A) → is_some o ≡ false → o ≡ None
none_of None e = refl
none_of (Some a) e = absurd (let no : true ≡ false = e in cc)

some_of_live : {A : Type 0} (o : Option A) → is_some o ≡ true → (a : A) × (o ≡ Some a)
some_of_live None e = absurd (let no : false ≡ true = e in cc)
some_of_live (Some a) e = (a, refl)

some_eq : {A : Type 0} (a b : A) → Some a ≡ Some b → a ≡ b
some_eq a b e = cc

-- nothing was told
pub appends_same : (a b : Option (List Told)) → b ≡ a → Appends a [] b
appends_same a None e = tt
appends_same None (Some after) e = absurd (let no : Some after ≡ None = e in cc)
appends_same (Some before) (Some after) e = some_eq after before e ∙ sym (append-nil before)

-- what a turn adds to the story, where there is one
abbrev pub told_in : Option Turn → List Event
told_in None = []
told_in (Some turn) = told_by (turned turn)

module _ {P L : Type 0} (it : link.Ghosts L) (p : poller.Ghosts P L) where
  -- what becomes of an open link that stays
  pub record Moves (conn : ℕ) (more : List Event) (was now : Live L) : Type 0 where
    pub sends : Sends it (said_on conn more) was now
    pub heard : it.left was.link ≡ prepended (heard_on conn more) (it.left now.link)

  -- what the poller is told of a link that stays: that no byte has come, or nothing
  pub data Reads (conn : ℕ) (was now : Live L) : List Told → Type 0 where
    read_later : Rose (it.unread was.link) (it.unread now.link) → Reads conn was now (Quiet conn ∷ [])
    read_some : it.unread now.link ≡ it.unread was.link → Reads conn was now []

  -- at most one link changes: nothing, one moves on, one ends, one opens, or one is given and dropped
  pub data Change (more : List Event) (old new : LinkHub P L) : Type 0 where
    unchanged : IsSame old.live new.live → new.given ≡ old.given → p.told new.poller ≡ p.told old.poller → ((conn : ℕ) → IsSilent conn more) → Change more old new
    moved : (conn : ℕ) (was now : Live L) (calls : List Told) → live_at old conn ≡ Some was → IsSet conn (Some now) old.live new.live → new.given ≡ old.given → Appends (p.told old.poller) calls (p.told new.poller) → Reads conn was now calls → Moves conn more was now → ((other : ℕ) → other ≢ conn → IsSilent other more) → Change more old new
    let_go : (conn : ℕ) (was : Live L) → live_at old conn ≡ Some was → IsSet conn None old.live new.live → new.given ≡ old.given → Appends (p.told old.poller) (Gone conn ∷ []) (p.told new.poller) → ((other : ℕ) → IsSilent other more) → Change more old new
    taken : (conn : ℕ) (came : L) (now : Live L) → IsNew came now → IsSet conn (Some now) old.live new.live → conn ≡ old.given + 1 → new.given ≡ conn → p.told new.poller ≡ p.told old.poller → more ≡ happening (Opened conn) ∷ [] → Change more old new
    dropped : IsSame old.live new.live → new.given ≡ old.given + 1 → Appends (p.told old.poller) (Gone (old.given + 1) ∷ []) (p.told new.poller) → ((conn : ℕ) → IsSilent conn more) → Change more old new

  -- beside that no end comes to wait
  abbrev Changed : List Event → LinkHub P L → LinkHub P L → Type 0
  Changed more old new = Change more old new × IsSame old.ended new.ended

  given_of : (new other : LinkHub P L) → new ≡ other → new.given ≡ other.given
  given_of new other e = ap (λ (hub : LinkHub P L). hub.given) e

  live_of : (new other : LinkHub P L) → new ≡ other → (conn : ℕ) → live_at new conn ≡ live_at other conn
  live_of new other e conn = ap (λ (hub : LinkHub P L). live_at hub conn) e

  pub ended_of : (new other : LinkHub P L) → new ≡ other → (conn : ℕ) → ended_at new conn ≡ ended_at other conn
  ended_of new other e conn = ap (λ (hub : LinkHub P L). ended_at hub conn) e

  told_of : (new other : LinkHub P L) → new ≡ other → p.told new.poller ≡ p.told other.poller
  told_of new other e = ap (λ (hub : LinkHub P L). p.told hub.poller) e

  told_on : (a b d : Option (List Told)) (calls : List Told) → b ≡ a → Appends b calls d → Appends a calls d
  told_on a b d calls same h = subst (λ w. Appends w calls d) same h

  -- ---- an answer of the poller

  takes_change : (old new : LinkHub P L) (came : L) (after : P) (turn : Option Turn) → p.told after ≡ p.told old.poller → TakesLink p came (record old { poller = after }) turn new → Changed (told_in turn) old new
  takes_change old new came after None alike (inl h) =
      (dropped (live_of new _ h.rest) (given_of new _ h.rest) (told_on (p.told old.poller) (p.told after) (p.told new.poller) _ alike h.gone.told) silent_nil, ended_of new _ h.rest)
  takes_change old new came after None alike (inr h) = (unchanged (live_of new _ h.rest) (given_of new _ h.rest) (told_of new _ h.rest ∙ alike) silent_nil, ended_of new _ h.rest)
  takes_change old new came after (Some (Happened (Opened conn))) alike h =
      (taken conn came h.live h.fresh h.set h.number (given_of new _ h.rest) (told_of new _ h.rest ∙ alike) refl, ended_of new _ h.rest)
  takes_change old new came after (Some (Happened (Heard conn piece))) alike h = absurd h
  takes_change old new came after (Some (Happened (Closed conn cause))) alike h = absurd h
  takes_change old new came after (Some (Happened (happenings.Moment moment))) alike h = absurd h
  takes_change old new came after (Some (Happened (Reload text))) alike h = absurd h
  takes_change old new came after (Some Done) alike h = absurd h
  takes_change old new came after (Some Failed) alike h = absurd h
  takes_change old new came after (Some Memory) alike h =
      (dropped h.same (given_of new _ h.rest) (told_on (p.told old.poller) (p.told after) (p.told new.poller) _ alike h.gone.told) silent_nil, ended_of new _ h.rest)

  hears_change : (old new : LinkHub P L) (conn : ℕ) (piece : List ℕ) (after : P) → p.told after ≡ p.told old.poller → Hears it conn piece (record old { poller = after }) new → Changed (happening (Heard conn piece) ∷ []) old new
  hears_change old new conn piece after alike h = (
    moved conn h.was h.is [] h.found h.set (given_of new _ h.rest) (appends_same (p.told old.poller) (p.told new.poller) (told_of new _ h.rest ∙ alike)) (read_some h.no_wait)
        (record { sends = h.sends; heard = h.heard ∙ sym (ap (λ (l : List ℕ). prepended l (it.left h.is.link)) (same_piece conn piece)) })
        (λ other ne. record { heard = other_piece conn other piece (λ e. ne (sym e)); said = refl }),
    ended_of new _ h.rest,
  )

  serves_change : (old new : LinkHub P L) (conn : ℕ) (after : P) (turn : Option Turn) → p.told after ≡ p.told old.poller → ServesLink it p conn (record old { poller = after }) turn new → Changed (told_in turn) old new
  serves_change old new conn after None alike (inl h) = (unchanged (live_of new _ h.1) (given_of new _ h.1) (told_of new _ h.1 ∙ alike) silent_nil, ended_of new _ h.1)
  serves_change old new conn after None alike (inr h) = (
    moved conn h.was h.is (Quiet conn ∷ []) h.found h.set (given_of new _ h.rest) (told_on (p.told old.poller) (p.told after) (p.told new.poller) _ alike h.quiet.told) (read_later h.not_yet)
        (record { sends = h.sends; heard = sym (prepended-nil (it.left h.is.link) ∙ h.left) })
        (λ other _. silent_nil other),
    ended_of new _ h.rest,
  )
  serves_change old new conn after (Some (Happened (Opened c))) alike h = absurd h
  serves_change old new conn after (Some (Happened (Heard c piece))) alike h =
      subst (λ n. Changed (happening (Heard n piece) ∷ []) old new) (sym h.0) (hears_change old new conn piece after alike h.1)
  serves_change old new conn after (Some (Happened (Closed c cause))) alike h = (
    let_go conn h.1.was h.1.found h.1.set (given_of new _ h.1.rest) (told_on (p.told old.poller) (p.told after) (p.told new.poller) _ alike h.1.gone.told)
        (λ other. record { heard = refl; said = refl }),
    ended_of new _ h.1.rest,
  )
  serves_change old new conn after (Some (Happened (happenings.Moment moment))) alike h = absurd h
  serves_change old new conn after (Some (Happened (Reload text))) alike h = absurd h
  serves_change old new conn after (Some Done) alike h = absurd h
  serves_change old new conn after (Some Failed) alike h = absurd h
  serves_change old new conn after (Some Memory) alike h = (unchanged (live_of new _ h) (given_of new _ h) (told_of new _ h ∙ alike) silent_nil, ended_of new _ h)

  -- an answer that tells of no link
  plain : (old new : LinkHub P L) (after : P) (turn is : Option Turn) → turn ≡ is → ((conn : ℕ) → IsSilent conn (told_in is)) → IsSame old.live new.live → new.given ≡ old.given → p.told new.poller ≡ p.told old.poller → IsSame old.ended new.ended → Changed (told_in turn) old new
  plain old new after turn is e silent live given alike ended = subst (λ (t : Option Turn). Changed (told_in t) old new) (sym e) (unchanged live given alike silent, ended)

  does_change : (old new : LinkHub P L) (answer : Next L) (after : P) (turn : Option Turn) → p.told after ≡ p.told old.poller → DoesNext it p answer (record old { poller = after }) turn new → Changed (told_in turn) old new
  does_change old new (nexts.New came) after turn alike h = takes_change old new came after turn alike h
  does_change old new (nexts.Ready conn) after turn alike h = serves_change old new conn after turn alike h
  does_change old new (nexts.Moment moment) after turn alike h =
      plain old new after turn (Some (Happened (happenings.Moment moment))) h.0 (λ conn. record { heard = refl; said = refl }) (live_of new _ h.1) (given_of new _ h.1) (told_of new _ h.1 ∙ alike) (ended_of new _ h.1)
  does_change old new nexts.Stop after turn alike h = plain old new after turn (Some Done) h.0 silent_nil (live_of new _ h.1) (given_of new _ h.1) (told_of new _ h.1 ∙ alike) (ended_of new _ h.1)
  does_change old new nexts.Failed after turn alike h = plain old new after turn (Some Failed) h.0 silent_nil (live_of new _ h.1) (given_of new _ h.1) (told_of new _ h.1 ∙ alike) (ended_of new _ h.1)

  pub asks_change : (old : LinkHub P L) (turn : Option Turn) (new : LinkHub P L) → Asks it p old turn new → Changed (told_in turn) old new
  asks_change old turn new a = does_change old new a.answer a.asked turn a.answers.told a.does

  -- what gives no turn lets no end wait
  pub passes_ended : (old : LinkHub P L) (n : ℕ) (to : LinkHub P L) → Passes it p old n to → (conn : ℕ) → ended_at to conn ≡ ended_at old conn
  passes_ended old _ _ start conn = refl
  passes_ended old _ _ (next n mid to way asks) conn = (asks_change mid None to asks).1 conn ∙ passes_ended old n mid way conn

  -- ---- the calls

  ends_saying : (more : List Event) (old new : LinkHub P L) (conn : ℕ) (piece : List ℕ) (cause : EndCause) → EndsSaying it p conn piece cause old new → new.given ≡ old.given → ((other : ℕ) → IsSilent other more) → Change more old new
  ends_saying more old new conn piece cause h given silent = let_go conn h.was h.found h.set given h.gone.told silent

  out_change : (old new : LinkHub P L) (conn : ℕ) (piece : List ℕ) → new.given ≡ old.given → (IsSame old.live new.live × (new.poller ≡ old.poller)) ⊎ ((cause : EndCause) × EndsSaying it p conn piece cause old new) → Change (saying conn piece answers.Memory ∷ []) old new
  out_change old new conn piece given (inl h) = unchanged h.0 given (ap (λ (x : P). p.told x) h.1) (λ other. record { heard = refl; said = refl })
  out_change old new conn piece given (inr h) = ends_saying (saying conn piece answers.Memory ∷ []) old new conn piece h.0 h.1 given (λ other. record { heard = refl; said = refl })

  says_change : (old new : LinkHub P L) (conn : ℕ) (piece : List ℕ) (answer : Said) → SaysStep it p conn piece old answer new → Change (saying conn piece answer ∷ []) old new
  says_change old new conn piece answers.Taken (running, h) =
      moved conn h.was h.is [] h.found h.set (given_of new _ h.rest) (appends_same (p.told old.poller) (p.told new.poller) (told_of new _ h.rest)) (read_some h.takes.unread.unread)
      (record {
        sends = subst (λ (l : List ℕ). Sends it l h.was h.is) (sym (same_piece conn piece)) h.takes.sends;
        heard = sym (prepended-nil (it.left h.is.link) ∙ h.takes.unread.left);
      })
      (λ other ne. record { heard = refl; said = other_piece conn other piece (λ e. ne (sym e)) })
  says_change old new conn piece answers.Gone (running, inl h) = unchanged (live_of new _ h.1) (given_of new _ h.1) (told_of new _ h.1) (λ other. record { heard = refl; said = refl })
  says_change old new conn piece answers.Gone (running, inr h) = ends_saying (saying conn piece answers.Gone ∷ []) old new conn piece h.cause h.ends (given_of new _ h.rest) (λ other. record { heard = refl; said = refl })
  says_change old new conn piece answers.Memory (inl h) = unchanged (live_of new _ h.1) (given_of new _ h.1) (told_of new _ h.1) (λ other. record { heard = refl; said = refl })
  says_change old new conn piece answers.Memory (inr h) = out_change old new conn piece h.1.given h.1.either

  closes_or : (old new : LinkHub P L) (conn : ℕ) (b : Bool) → is_live old conn ≡ b → Closes p conn old new → Change (closing conn ∷ []) old new
  closes_or old new conn true is h =
      let was = some_of_live (live_at old conn) is in
      let_go conn was.0 was.1 h.set (given_of new _ h.rest) (h.gone is).told (λ other. record { heard = refl; said = refl })
  closes_or old new conn false is h =
      unchanged (same_at conn None old.live new.live (none_of (live_at old conn) is) h.set) (given_of new _ h.rest) (ap (λ (x : P). p.told x) (h.untold is)) (λ other. record { heard = refl; said = refl })

  -- ---- runs

  pub data Changes (from : LinkHub P L) : List Event → LinkHub P L → Type 0 where
    none : Changes from [] from
    more : (events later : List Event) (mid to : LinkHub P L) → Changes from events mid → Change later mid to → Changes from (events ++ later) to

  -- what each change keeps holds behind all
  pub Changes-keep : (Q : LinkHub P L → List Event → Type 0) → ((mid : LinkHub P L) (events later : List Event) (to : LinkHub P L) → Q mid events → Change later mid to → Q to (events ++ later)) → (from : LinkHub P L) → Q from [] → (events : List Event) (to : LinkHub P L) → Changes from events to → Q to events
  Changes-keep Q keeps from first _ _ none = first
  Changes-keep Q keeps from first _ _ (more events later mid to way change) = keeps mid events later to (Changes-keep Q keeps from first events mid way) change

  passes_change : (from : LinkHub P L) (events : List Event) (old : LinkHub P L) (n : ℕ) (to : LinkHub P L) → Changes from events old → Passes it p old n to → Changes from events to
  passes_change from events old _ _ way start = way
  passes_change from events old _ _ way (next n mid to passes asks) =
      subst (λ (l : List Event). Changes from l to) (append-nil events)
      (more events [] mid to (passes_change from events old n mid way passes) (asks_change mid None to asks).0)

  same_hub : (hub : LinkHub P L) (later : List Event) → ((conn : ℕ) → IsSilent conn later) → Change later hub hub
  same_hub hub later silent = unchanged (λ _. refl) refl refl silent

  turns_change : (from : LinkHub P L) (events : List Event) (old : LinkHub P L) (turn : Turn) (new : LinkHub P L) → Changes from events old → Turns it p old turn new → Changes from (events ++ told_by (turned turn)) new
  turns_change from events old _ _ way (spent is) = more events [] old old way (same_hub old [] silent_nil)
  turns_change from events old _ _ way (told conn cause new running h) =
      more events (happening (Closed conn cause) ∷ []) old new way (unchanged (live_of new _ h.rest) (given_of new _ h.rest) (told_of new _ h.rest) (λ other. record { heard = refl; said = refl }))
  turns_change from events old _ _ way (asked n mid turn new running idle few passes asks) =
      more events (told_by (turned turn)) mid new (passes_change from events old n mid way passes) (asks_change mid (Some turn) new asks).0
  turns_change from events old _ _ way (empty new running idle passes) =
      more events (happening (happenings.Moment new.moment) ∷ []) new new (passes_change from events old most_empty new way passes)
      (same_hub new (happening (happenings.Moment new.moment) ∷ []) (λ other. record { heard = refl; said = refl }))

  step_change : (from old : LinkHub P L) (events : List Event) (step : HubStep) (new : LinkHub P L) → Changes from events old → LinkStep it p old step new → Changes from (events ++ told_by step) new
  step_change from old events (turned turn) new way h = turns_change from events old turn new way h
  step_change from old events (said conn piece answer) new way h = more events (saying conn piece answer ∷ []) old new way (says_change old new conn piece answer h)
  step_change from old events (closed conn) new way h = more events (closing conn ∷ []) old new way (closes_or old new conn (is_live old conn) refl h)

  pub run_changes : (from to : LinkHub P L) (steps : List HubStep) → Leads (λ old step new. LinkStep it p old step new) from steps to → Changes from (story steps) to
  run_changes from to steps way =
      Story-keeps (λ old step new. LinkStep it p old step new) (λ (hub : LinkHub P L) (events : List Event). Changes from events hub) (step_change from) from none steps to way
