-- What the calls on one link come to for the hub.
use Rattle.std.proofs.Common.{rules, ◌≡◌, ◌≢◌, ℕ, ◌<◌, true, false, List, is_some, Option, Some, None, Result, Ok, Err, IfOk, OnOk, IsSome, is_err, refl, sym, ◌∙◌, ap, subst, inr, arith}
use Rattle.std.specs.Ordering.{nat_cmp, is_gt}
use Rattle.std.specs.BTreeMap.{BTreeMap, get, IsLowerBound}
use Rattle.fg_outside.specs.declared.hub.EndCause.{EndCause}
use Rattle.fg_outside.specs.declared.hub.EndCause.TheVariants.{End, LinkFault}
use Rattle.fg_outside.specs.declared.hub.Happening.TheVariants.{Opened, Heard, Closed, Moment, Reload}
use Rattle.fg_outside.specs.declared.hub.Turn.{Turn}
use Rattle.fg_outside.specs.declared.hub.Turn.TheVariants.{Happened, Done, Failed, Memory}
use Rattle.fg_outside.specs.declared.hub.Said.{Said}
use Rattle.fg_outside.specs.declared.hub.Said.TheVariants as answers
use Rattle.fg_links.specs.declared.link.Link as link
use Rattle.fg_links.specs.declared.link.Took.{Took}
use Rattle.fg_links.specs.declared.link.Took.TheVariants as reads
use Rattle.fg_links.specs.declared.poller.Poller as poller
use Rattle.fg_links.specs.declared.told.Told.TheVariants.{Quiet}
use Rattle.fg_links.specs.Moved.{IfTook, UnlessTook}
use Rattle.link_hub.specs.declared.hub.LinkHub.{LinkHub}
use Rattle.link_hub.specs.declared.live.Live.{Live}
use Rattle.link_hub.specs.Hub.{read_len, IsSet, IsTold, IsServed, IsSaid, Waits, Hears, Ends, EndsBy, LetsGo, LetsGoLater, SaysPiece, SaysStep, EndsSaying, Closes, Asks, Passes, IsIdle, TellsTurn, Turns, told, asked, empty, most_empty}
use Rattle.link_hub.proofs.MapLemmas.{set_again}

true_false : true ≡ false → ⊥
true_false e = cc

pub on_ok : {A E P : Type 0} (r : Result A E) → is_err r ≡ false → OnOk r P → P
on_ok (Ok x) e h = h
on_ok (Err x) e h = absurd (true_false e)

pub if_ok_at : {A E : Type 0} (P : A → Type 0) (r : Result A E) (x : A) → r ≡ Ok x → IfOk r P → P x
if_ok_at P r x e h = subst (λ s. IfOk s P) e h

pub some_inner : {A : Type 0} (a b : A) → Some a ≡ Some b → a ≡ b
some_inner a b e = cc

pub some_of : {A : Type 0} (o : Option A) (x : A) → o ≡ Some x → IsSome o
some_of o x e = rw e (search rules)

pub is_some_of : {A : Type 0} (o : Option A) (x : A) → o ≡ Some x → is_some o ≡ true
is_some_of o x e = ap (λ q. is_some q) e

if_took_at : (P : Type 0) (t : Took) (n : ℕ) → t ≡ reads.Some n → IfTook t (λ _. P) → P
if_took_at P t n e h = let F : Took → Type 0 = λ s. IfTook s (λ _. P) in subst F e h

unless_at : (P : Type 0) (t s : Took) → t ≡ s → UnlessTook t P → UnlessTook s P
unless_at P t s e h = let F : Took → Type 0 = λ s. UnlessTook s P in subst F e h

apart_reads : (t : Took) (n : ℕ) → t ≡ reads.Some n → (t ≢ reads.Failed) × (t ≢ reads.NotYet)
apart_reads t n e = ((λ h. absurd (let k : reads.Some n ≡ reads.Failed = sym e ∙ h in cc)), (λ h. absurd (let k : reads.Some n ≡ reads.NotYet = sym e ∙ h in cc)))

apart_not_yet : (t : Took) → t ≡ reads.NotYet → t ≢ reads.Failed
apart_not_yet t e = λ h. absurd (let k : reads.NotYet ≡ reads.Failed = sym e ∙ h in cc)

pub none_is : {A : Type 0} (a : A) → None ≡ Some a → ⊥
none_is a e = cc

module _ {P L : Type 0} (it : link.Ghosts L) (p : poller.Ghosts P L) where
  pub hears_from : (conn n : ℕ) (t : Took) (room : ℕ) (piece : List ℕ) (old : LinkHub P L) (lives : BTreeMap ℕ (Live L)) → t ≡ reads.Some n → room ≡ read_len → IsServed it t room piece conn old.live lives → Hears it conn piece old (record old { live = lives })
  hears_from conn n t room piece old lives is full s = record {
    was = s.was;
    is = s.is;
    found = s.found;
    sends = s.serves.sends;
    flushed = s.serves.flushed (apart_reads t n is).0;
    some = if_took_at _ t n is (s.serves.some (omega (arith, full)));
    within = omega (arith, full, if_took_at _ t n is s.serves.within);
    heard = if_took_at _ t n is s.serves.took;
    no_wait = s.serves.no_wait (apart_reads t n is).1;
    set = s.set;
    rest = refl;
  }

  pub waits_from : (conn : ℕ) (t : Took) (room : ℕ) (piece : List ℕ) (old : LinkHub P L) (lives : BTreeMap ℕ (Live L)) (poller : P) → t ≡ reads.NotYet → IsServed it t room piece conn old.live lives → IsTold p (Quiet conn) old.poller poller → Waits it p conn old (record old { poller = poller; live = lives })
  waits_from conn t room piece old lives poller is s quiet = record {
    was = s.was;
    is = s.is;
    found = s.found;
    sends = s.serves.sends;
    flushed = s.serves.flushed (apart_not_yet t is);
    left = unless_at _ t reads.NotYet is s.serves.kept;
    not_yet = s.serves.not_yet is;
    set = s.set;
    quiet = quiet;
    rest = refl;
  }

  ends_from : (conn : ℕ) (cause : EndCause) (t : Took) (room : ℕ) (piece : List ℕ) (old : LinkHub P L) (lives : BTreeMap ℕ (Live L)) (new : LinkHub P L) (s : IsServed it t room piece conn old.live lives) → EndsBy it cause s.was s.is → it.left s.is.link ≡ it.left s.was.link → LetsGo p conn (record old { live = lives }) new → Ends it p conn cause old new
  ends_from conn cause t room piece old lives new s why left goes = record {
    was = s.was;
    last = s.is;
    found = s.found;
    sends = s.serves.sends;
    left = left;
    why = why;
    set = set_again conn (Some s.is) None old.live lives new.live s.set goes.set;
    gone = goes.gone (is_some_of (get nat_cmp lives conn) s.is s.set.here);
    rest = goes.rest;
  }

  pub ends_at_end : (conn : ℕ) (t : Took) (room : ℕ) (piece : List ℕ) (old : LinkHub P L) (lives : BTreeMap ℕ (Live L)) (new : LinkHub P L) → t ≡ reads.End → IsServed it t room piece conn old.live lives → LetsGo p conn (record old { live = lives }) new → Ends it p conn End old new
  ends_at_end conn t room piece old lives new is s goes = ends_from conn End t room piece old lives new s (s.serves.end is) (unless_at _ t reads.End is s.serves.kept) goes

  pub ends_by_fault : (conn : ℕ) (t : Took) (room : ℕ) (piece : List ℕ) (old : LinkHub P L) (lives : BTreeMap ℕ (Live L)) (new : LinkHub P L) → t ≡ reads.Failed → IsServed it t room piece conn old.live lives → LetsGo p conn (record old { live = lives }) new → Ends it p conn LinkFault old new
  ends_by_fault conn t room piece old lives new is s goes = ends_from conn LinkFault t room piece old lives new s (s.serves.fault is) (unless_at _ t reads.Failed is s.serves.kept) goes

  pub says_from : (conn : ℕ) (piece : List ℕ) (old : LinkHub P L) (lives : BTreeMap ℕ (Live L)) → IsSaid it piece None conn old.live lives → SaysPiece it conn piece old (record old { live = lives })
  says_from conn piece old lives s = record {
    was = s.was;
    is = s.is;
    found = s.found;
    takes = s.says;
    set = s.set;
    rest = refl;
  }

  ends_saying : (conn : ℕ) (piece : List ℕ) (cause : EndCause) (old : LinkHub P L) (lives : BTreeMap ℕ (Live L)) (answer : Said) (new : LinkHub P L) → IsSaid it piece (Some cause) conn old.live lives → LetsGoLater p conn cause (record old { live = lives }) answer new → EndsSaying it p conn piece cause old new
  ends_saying conn piece cause old lives answer new s goes = record {
    was = s.was;
    last = s.is;
    found = s.found;
    why = s.says;
    set = set_again conn (Some s.is) None old.live lives new.live s.set goes.set;
    gone = goes.gone (is_some_of (get nat_cmp lives conn) s.is s.set.here);
  }

  pub ends_later : (conn : ℕ) (piece : List ℕ) (cause : EndCause) (old : LinkHub P L) (lives : BTreeMap ℕ (Live L)) (answer : Said) (new : LinkHub P L) → old.spent ≡ false → IsSaid it piece (Some cause) conn old.live lives → LetsGoLater p conn cause (record old { live = lives }) answer new → SaysStep it p conn piece old answer new
  ends_later conn piece cause old lives answers.Taken new running s goes = absurd (goes.taken refl)
  ends_later conn piece cause old lives answers.Gone new running s goes =
      (running, inr (record { cause = cause; ends = ends_saying conn piece cause old lives answers.Gone new s goes; later = goes.later refl; rest = goes.rest refl }))
  ends_later conn piece cause old lives answers.Memory new running s goes =
      inr (running, record { spent = goes.spent refl; given = goes.given; either = inr (cause, ends_saying conn piece cause old lives answers.Memory new s goes) })

  pub closes_from : (conn : ℕ) (old mid : LinkHub P L) (ended : BTreeMap ℕ EndCause) → LetsGo p conn old mid → IsSet conn None mid.ended ended → Closes p conn old (record mid { ended = ended })
  closes_from conn old mid ended goes set = record {
    set = goes.set;
    gone = goes.gone;
    untold = goes.untold;
    ended = record { here = set.here; elsewhere = λ other ne. set.elsewhere other ne ∙ ap (λ (hub : LinkHub P L). get nat_cmp hub.ended other) goes.rest };
    rest = ap (λ (hub : LinkHub P L). record hub { ended = ended }) goes.rest;
  }

gt_above : (conn other : ℕ) → is_gt (nat_cmp conn other) ≡ false → other < conn → ⊥
gt_above conn other e below = grind (arith, e, below)

least_or : {X : Type 0} (o : Option X) (conn other : ℕ) → (IsSome o → is_gt (nat_cmp conn other) ≡ false) → other < conn → o ≡ None
least_or None conn other h below = refl
least_or (Some x) conn other h below = absurd (gt_above conn other (h (search rules)) below)

-- no number below the least has a value
pub least_has : {X : Type 0} (conn other : ℕ) (map : BTreeMap ℕ X) → IsLowerBound nat_cmp map conn → other < conn → get nat_cmp map other ≡ None
least_has conn other map least below = least_or (get nat_cmp map other) conn other (least other) below

closed_failed : (conn : ℕ) (cause : EndCause) → Happened (Closed conn cause) ≡ Failed → ⊥
closed_failed conn cause e = cc

module _ {P L : Type 0} (it : link.Ghosts L) (p : poller.Ghosts P L) (old : LinkHub P L) where
  pub tells_turn : (turn : Turn) (new : LinkHub P L) → old.spent ≡ false → TellsTurn old turn new → Turns it p old turn new
  tells_turn (Happened (Closed conn cause)) new running h = told conn cause new running h
  tells_turn (Happened (Opened conn)) new running h = absurd h
  tells_turn (Happened (Heard conn piece)) new running h = absurd h
  tells_turn (Happened (Moment moment)) new running h = absurd h
  tells_turn (Happened (Reload text)) new running h = absurd h
  tells_turn Done new running h = absurd h
  tells_turn Failed new running h = absurd h
  tells_turn Memory new running h = absurd h

  pub tells_same_poller : (turn : Turn) (new : LinkHub P L) → TellsTurn old turn new → (new.poller ≡ old.poller) × (turn ≢ Failed)
  tells_same_poller (Happened (Closed conn cause)) new h = (ap (λ (hub : LinkHub P L). hub.poller) h.rest, λ e. absurd (closed_failed conn cause e))
  tells_same_poller (Happened (Opened conn)) new h = absurd h
  tells_same_poller (Happened (Heard conn piece)) new h = absurd h
  tells_same_poller (Happened (Moment moment)) new h = absurd h
  tells_same_poller (Happened (Reload text)) new h = absurd h
  tells_same_poller Done new h = absurd h
  tells_same_poller Failed new h = absurd h
  tells_same_poller Memory new h = absurd h

  pub asked_from : (from mid new : LinkHub P L) (n : ℕ) (turn : Turn) → IsIdle old × (from ≡ old) → old.spent ≡ false → n < most_empty → Passes it p from n mid → Asks it p mid (Some turn) new → Turns it p old turn new
  asked_from from mid new n turn idle running less way asks = asked n mid turn new running idle.0 less (subst (λ (hub : LinkHub P L). Passes it p hub n mid) idle.1 way) asks

  pub empty_from : (from new : LinkHub P L) (n : ℕ) → IsIdle old × (from ≡ old) → old.spent ≡ false → n ≡ most_empty → Passes it p from n new → Turns it p old (Happened (Moment new.moment)) new
  empty_from from new n idle running full way = empty new running idle.0 (subst (λ (hub : LinkHub P L). Passes it p hub most_empty new) idle.1 (subst (λ k. Passes it p from k new) full way))
