-- What waits on a link behind a call.
use Rattle.std.proofs.Common.{◌≡◌, ◌≢◌, ◌⊎◌, ℕ, List, [], ◌∷◌, ◌++◌, Option, Some, None, refl, sym, ◌∙◌, ap, subst, inl, inr, arith, append-nil}
use Rattle.fg_outside.specs.HubStep.{Event}
use Rattle.fg_outside.proofs.CountLemmas.{Rose-later, Rose-since}
use Rattle.fg_outside.proofs.SinkLemmas.{appended-nil}
use Rattle.fg_outside.specs.declared.hub.Happening.TheVariants.{Opened, Heard, Closed, Reload}
use Rattle.fg_outside.specs.declared.hub.Happening.TheVariants as happenings
use Rattle.fg_outside.specs.declared.hub.Turn.{Turn}
use Rattle.fg_outside.specs.declared.hub.Turn.TheVariants.{Happened, Done, Failed, Memory}
use Rattle.fg_outside.specs.declared.hub.Said.TheVariants as answers
use Rattle.fg_links.specs.declared.link.Link as link
use Rattle.fg_links.specs.declared.next.Next.{Next}
use Rattle.fg_links.specs.declared.next.Next.TheVariants as nexts
use Rattle.fg_links.specs.declared.poller.Poller as poller
use Rattle.link_hub.specs.declared.hub.LinkHub.{LinkHub}
use Rattle.link_hub.specs.declared.live.Live.{Live}
use Rattle.link_hub.specs.Links.{Sends, IsFlushed}
use Rattle.link_hub.specs.Hub.{live_at, DoesNext, ServesLink, Asks, Passes, start, next, Turns, spent, told, asked, empty, most_empty, SaysStep}
use Rattle.link_hub.specs.Runs.{said_on, IsReadyAmong, IsReadyIn, TookNoMore, IsWritten}
use Rattle.link_hub.proofs.LinkLemmas.{sends_then}
use Rattle.link_hub.proofs.ChangeLemmas.{told_in, asks_change}
use Rattle.link_hub.proofs.RunLemmas.{some_same, none_some, Origin, still, moves, comes, origin_of}

nil_of : (xs ys : List ℕ) → [] ≡ xs ++ ys → ys ≡ []
nil_of [] ys e = sym e
nil_of (x ∷ xs) ys e = absurd (let no : [] ≡ x ∷ (xs ++ ys) = e in cc)

-- a turn says nothing
nothing_said : (conn : ℕ) (turn : Option Turn) → said_on conn (told_in turn) ≡ []
nothing_said conn None = refl
nothing_said conn (Some (Happened it)) = refl
nothing_said conn (Some Done) = refl
nothing_said conn (Some Failed) = refl
nothing_said conn (Some Memory) = refl

none_none : {A : Type 0} (a : A) → None ≡ Some a → ⊥
none_none a e = cc

module _ {P L : Type 0} (it : link.Ghosts L) (p : poller.Ghosts P L) where
  sends_same : (live : Live L) → Sends it [] live live
  sends_same live = record {
    front = [];
    parts = append-nil live.unsent;
    wrote = sym (appended-nil (it.wrote live.link));
    opened = refl;
    faults = omega arith;
    unwritten = omega arith;
  }

  emptied : (was now : Live L) → Sends it [] was now → was.unsent ≡ [] → now.unsent ≡ []
  emptied was now sends e = nil_of sends.front now.unsent (sym (ap (λ (l : List ℕ). l ++ []) e) ∙ sends.parts)

  -- a link was open, and of what waited a front was written
  pub record Carried (old : LinkHub P L) (conn : ℕ) (now : Live L) : Type 0 where
    pub was : Live L
    pub found : live_at old conn ≡ Some was
    pub sends : Sends it [] was now

  carried_then : (old mid : LinkHub P L) (conn : ℕ) (now : Live L) → ((live : Live L) → live_at mid conn ≡ Some live → Carried old conn live) → Carried mid conn now → Carried old conn now
  carried_then old mid conn now first c =
      let b = first c.was c.found in
      record { was = b.was; found = b.found; sends = sends_then it [] b.was c.was now b.sends c.sends }

  -- an open link was open, unless it opened and nothing waits
  carried_or : (more : List Event) (old new : LinkHub P L) (conn : ℕ) (now : Live L) → said_on conn more ≡ [] → Origin it p more old new conn now → (now.unsent ≡ []) ⊎ Carried old conn now
  carried_or more old new conn now none (still found silent) = inr (record { was = now; found = found; sends = sends_same now })
  carried_or more old new conn now none (moves was found m) = inr (record { was = was; found = found; sends = subst (λ (l : List ℕ). Sends it l was now) none m.sends })
  carried_or more old new conn now none (comes link fresh event above within) = inl fresh.unsent

  kept_or : (old new : LinkHub P L) (conn : ℕ) (now : Live L) → Origin it p [] old new conn now → Carried old conn now
  kept_or old new conn now (still found silent) = record { was = now; found = found; sends = sends_same now }
  kept_or old new conn now (moves was found m) = record { was = was; found = found; sends = m.sends }
  kept_or old new conn now (comes link fresh event above within) = absurd (let no : [] ≡ _ ∷ [] = event in cc)

  -- answers that give no turn open nothing
  pub kept : (old : LinkHub P L) (n : ℕ) (to : LinkHub P L) → Passes it p old n to → (conn : ℕ) (now : Live L) → live_at to conn ≡ Some now → Carried old conn now
  kept old _ _ start conn now is = record { was = now; found = is; sends = sends_same now }
  kept old _ _ (next n mid to way asks) conn now is =
      carried_then old mid conn now (kept old n mid way conn) (kept_or mid to conn now (origin_of it p [] mid to (asks_change it p mid None to asks).0 conn now is))

  written_on : (old mid : LinkHub P L) (conn : ℕ) (now : Live L) → IsWritten it conn old mid → (now.unsent ≡ []) ⊎ Carried mid conn now → (now.unsent ≡ []) ⊎ TookNoMore it conn old now
  written_on old mid conn now written (inl e) = inl e
  written_on old mid conn now written (inr c) =
      elim (written c.was c.found) [
        | inl e ↦ inl (emptied c.was now c.sends e)
        | inr t ↦ inr (record { was = t.was; found = t.found; rose = Rose-later (it.unwritten t.was.link) (it.unwritten c.was.link) (it.unwritten now.link) t.rose c.sends.unwritten })
      ]

  -- what was written so is so behind a further answer of the poller
  written_then : (old mid new : LinkHub P L) (turn : Option Turn) (conn : ℕ) → IsWritten it conn old mid → Asks it p mid turn new → IsWritten it conn old new
  written_then old mid new turn conn written asks = λ now is.
      written_on old mid conn now written (carried_or (told_in turn) mid new conn now (nothing_said conn turn) (origin_of it p (told_in turn) mid new (asks_change it p mid turn new asks).0 conn now is))

  flushed_is : (old : LinkHub P L) (conn : ℕ) (was now : Live L) → Carried old conn was → IsFlushed it was now → (now.unsent ≡ []) ⊎ TookNoMore it conn old now
  flushed_is old conn was now c (inl e) = inl e
  flushed_is old conn was now c (inr rose) = inr (record { was = c.was; found = c.found; rose = Rose-since (it.unwritten c.was.link) (it.unwritten was.link) (it.unwritten now.link) c.sends.unwritten rose })

  flushed_at : (old mid new : LinkHub P L) (conn : ℕ) (was then_ : Live L) → ((now : Live L) → live_at mid conn ≡ Some now → Carried old conn now) → live_at mid conn ≡ Some was → live_at new conn ≡ Some then_ → IsFlushed it was then_ → IsWritten it conn old new
  flushed_at old mid new conn was then_ carried found here flushed = λ now is.
      subst (λ (l : Live L). (l.unsent ≡ []) ⊎ TookNoMore it conn old l) (sym (some_same then_ now (live_at new conn) here is)) (flushed_is old conn was then_ (carried was found) flushed)

  -- a link that is ready is written as far as it takes
  served_is : (old mid new : LinkHub P L) (asked : P) (conn : ℕ) (turn : Option Turn) → ((now : Live L) → live_at mid conn ≡ Some now → Carried old conn now) → (turn ≡ Some Memory → ⊥) → ServesLink it p conn (record mid { poller = asked }) turn new → IsWritten it conn old new
  served_is old mid new after conn None carried running (inl h) = λ now is. absurd (none_some now (live_at mid conn) h.0 (sym (ap (λ (hub : LinkHub P L). live_at hub conn) h.1) ∙ is))
  served_is old mid new after conn None carried running (inr h) = flushed_at old mid new conn h.was h.is carried h.found h.set.here h.flushed
  served_is old mid new after conn (Some (Happened (Opened c))) carried running h = absurd h
  served_is old mid new after conn (Some (Happened (Heard c piece))) carried running h = flushed_at old mid new conn h.1.was h.1.is carried h.1.found h.1.set.here h.1.flushed
  served_is old mid new after conn (Some (Happened (Closed c cause))) carried running h = λ now is. absurd (none_some now (live_at new conn) h.1.set.here is)
  served_is old mid new after conn (Some (Happened (happenings.Moment moment))) carried running h = absurd h
  served_is old mid new after conn (Some (Happened (Reload text))) carried running h = absurd h
  served_is old mid new after conn (Some Done) carried running h = absurd h
  served_is old mid new after conn (Some Failed) carried running h = absurd h
  served_is old mid new after conn (Some Memory) carried running h = absurd (running refl)

  ready_is : (old mid new : LinkHub P L) (conn : ℕ) (turn : Option Turn) → ((now : Live L) → live_at mid conn ≡ Some now → Carried old conn now) → (turn ≡ Some Memory → ⊥) → (asks : Asks it p mid turn new) → asks.answer ≡ nexts.Ready conn → IsWritten it conn old new
  ready_is old mid new conn turn carried running asks is =
      served_is old mid new asks.asked conn turn carried running (subst (λ (a : Next L). DoesNext it p a (record mid { poller = asks.asked }) turn new) is asks.does)

  written_among : (old : LinkHub P L) (conn n : ℕ) (to : LinkHub P L) (way : Passes it p old n to) → IsReadyAmong it p conn old n to way → IsWritten it conn old to
  written_among old conn _ _ start h = absurd h
  written_among old conn _ _ (next n mid to way asks) (inl h) = written_then old mid to None conn (written_among old conn n mid way h) asks
  written_among old conn _ _ (next n mid to way asks) (inr is) = ready_is old mid to conn None (kept old n mid way conn) (λ e. absurd (none_none Memory e)) asks is

  some_memory : (turn : Turn) → turn ≢ Memory → Some turn ≡ Some Memory → ⊥
  some_memory turn ne e = ne (let same_turn : turn ≡ Memory = cc in same_turn)

  pub turn_writes : (old : LinkHub P L) (conn : ℕ) (turn : Turn) (new : LinkHub P L) (call : Turns it p old turn new) → turn ≢ Memory → IsReadyIn it p conn old turn new call → IsWritten it conn old new
  turn_writes old conn _ _ (spent is) running h = absurd h
  turn_writes old conn _ _ (told c cause new up tells) running h = absurd h
  turn_writes old conn _ _ (asked n mid turn new up idle few way asks) running (inl h) = written_then old mid new (Some turn) conn (written_among old conn n mid way h) asks
  turn_writes old conn _ _ (asked n mid turn new up idle few way asks) running (inr is) = ready_is old mid new conn (Some turn) (kept old n mid way conn) (some_memory turn running) asks is
  turn_writes old conn _ _ (empty new up idle way) running h = written_among old conn most_empty new way h

  said_or : (old : LinkHub P L) (conn : ℕ) (was now : Live L) → live_at old conn ≡ Some was → IsFlushed it was now → (now.unsent ≡ []) ⊎ TookNoMore it conn old now
  said_or old conn was now found (inl e) = inl e
  said_or old conn was now found (inr rose) = inr (record { was = was; found = found; rose = rose })

  pub say_writes : (old : LinkHub P L) (conn : ℕ) (piece : List ℕ) (new : LinkHub P L) → SaysStep it p conn piece old answers.Taken new → IsWritten it conn old new
  say_writes old conn piece new (up, h) = λ now is.
      subst (λ (l : Live L). (l.unsent ≡ []) ⊎ TookNoMore it conn old l) (sym (some_same h.is now (live_at new conn) h.set.here is)) (said_or old conn h.was h.is h.found h.takes.flushed)
