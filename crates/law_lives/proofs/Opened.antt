-- Open are the connections that opened, and that neither ended nor were closed since.
use Rattle.std.proofs.Common.{◌≡◌, ℕ, ◌==◌, Bool, true, false, Option, Some, None, List, [], ◌∷◌, ◌++◌, Result, Ok, Err, inl, inr, refl, sym, ap, subst, ◌∙◌, if◌then◌else◌}
use Rattle.std.specs.List.{fold}
use Rattle.std.proofs.lemmas.Bool.{cases_Bool, eqb-true}
use Rattle.std.proofs.lemmas.List.Sums.{fold-append}
use Rattle.fg_outside.specs.declared.hub.Happening.{Happening}
use Rattle.fg_outside.specs.declared.hub.Happening.TheVariants as happenings
use Rattle.conf_types.specs.Configuration.{Configuration}
use Rattle.of13_codec.specs.declared.message.Message.{Message}
use Rattle.of13_codec.specs.declared.message.Message.TheVariants as messages
use Rattle.switch_session.specs.declared.closing.Closing.{Closing}
use Rattle.switch_session.specs.Connections.{next_id}
use Rattle.ctl_world.specs.declared.conns.Conn.{Conn}
use Rattle.ctl_world.specs.declared.said.Said.{Said}
use Rattle.ctl_world.specs.declared.said.Said.TheVariants as told
use Rattle.ctl_world.specs.Connections.{change, is_open, put, with_fed, with_said, without}
use Rattle.ctl_world.specs.Ends.{end_line, ended}
use Rattle.ctl_world.specs.World.{World}
use Rattle.ctl_core.specs.Settlings.{settle}
use Rattle.ctl_life.specs.Life.{closing_for, feed, open_conn}
use Rattle.ctl_world.proofs.Numbered.{unlike}
use Rattle.ctl_life.proofs.Openings.{change_open, fresh, put_open, put_opens, with_fresh}
use Rattle.ctl_core.specs.Reloading.{accepted, close_each, reload, renew, strays}
use Rattle.ctl_core.specs.Story.{behind}
use Rattle.ctl_core.specs.Turns.{hear, pass, turn, work}
use Rattle.law_stories.proofs.StoryOpen.{left_open}
use Rattle.law_lives.specs.Known.{open_more, opens, shuts}
use Rattle.law_lives.specs.Told.{Told, as_told}
use Rattle.law_lives.proofs.Fixed.{Any}
use Rattle.law_lives.proofs.Walk.{IsStill, Steps, hear_stays, pass_stays, said_stays, settle_stays, strays_stay, wanted_stays}

module _ (opened : ℕ → Bool) where
  -- where these were open before anything was said
  abbrev Stand : World → Type 0
  Stand w = (n : ℕ) → fold (shuts n) (opened n) w.said ≡ is_open w.conns n

  more_said : (n : ℕ) (w : World) (more : List Said) → Stand w → fold (shuts n) (opened n) (w.said ++ more) ≡ fold (shuts n) (is_open w.conns n) more
  more_said n w more stand = fold-append (shuts n) (opened n) w.said more ∙ ap (λ (b : Bool). fold (shuts n) b more) (stand n)

  single : Steps Any Stand
  single = record {
    changes = λ f is number w stand n. stand n ∙ sym (change_open f is.number number n w.conns);
    says = λ number m xid w at stand n. more_said n w (told.Message number m xid ∷ []) stand;
    closes = λ cause number w any at stand n. more_said n w (told.Closing number cause ∷ end_line number cause ∷ []) stand ∙ left_open number w.conns n;
    knows = λ hosts neighbours w stand. stand;
  }

  settled : (w : World) → Stand w → Stand (settle w)
  settled w stand = settle_stays Any Stand single w stand

-- ---- a turn, where nothing was said before it

module _ (w : World) (silent : w.said ≡ []) where
  abbrev Turned : Happening → World → Type 0
  Turned h v = Stand (λ n. opens n (is_open w.conns n) h) v

  begun : (opened : ℕ → Bool) (conns : List Conn) → ((n : ℕ) → opened n ≡ is_open conns n) → (n : ℕ) → fold (shuts n) (opened n) w.said ≡ is_open conns n
  begun opened conns same n = ap (fold (shuts n) (opened n)) silent ∙ same n

  -- what is as it was
  already : (number : ℕ) (b : Bool) → is_open w.conns number ≡ b → (n : ℕ) → (if number == n then b else is_open w.conns n) ≡ is_open w.conns n
  already number b is n =
      elim (cases_Bool (number == n)) [
        | inl same ↦
            ap (λ (c : Bool). if c then b else is_open w.conns n) same ∙ sym is ∙ ap (is_open w.conns) (eqb-true number n same)
        | inr other ↦ ap (λ (c : Bool). if c then b else is_open w.conns n) other
      ]

  come : (number : ℕ) → is_open w.conns number ≡ false → (n : ℕ) → (if number == n then true else is_open w.conns n) ≡ is_open (put (fresh number w) w.conns) n
  come number shut n =
      let c : Conn = fresh number w in
      elim (cases_Bool (number == n)) [
        | inl same ↦
            ap (λ (b : Bool). if b then true else is_open w.conns n) same
            ∙ sym (ap (is_open (put c w.conns)) (sym (eqb-true number n same)) ∙ put_opens c w.conns shut)
        | inr other ↦
            ap (λ (b : Bool). if b then true else is_open w.conns n) other ∙ sym (put_open c n (λ e. unlike number n other (sym e)) w.conns)
      ]

  opened_stand : (number : ℕ) (b : Bool) → is_open w.conns number ≡ b → Turned (happenings.Opened number) (if b then w else settle (open_conn number w))
  opened_stand number true is = begun (λ n. if number == n then true else is_open w.conns n) w.conns (already number true is)
  opened_stand number false is =
      let opened : ℕ → Bool = λ n. if number == n then true else is_open w.conns n in
      settled opened (open_conn number w)
      (said_stays Any (Stand opened) (single opened) number (messages.Hello 4 (Some 16)) (with_fresh number w) (begun opened (put (fresh number w) w.conns) (come number is)))

  fed_stand : (number : ℕ) (piece : List ℕ) → Stand (is_open w.conns) (feed number piece w)
  fed_stand number [] = begun (is_open w.conns) (feed number [] w).conns (λ n. sym (change_open (with_fed [] w.moment) (λ c. refl) number n w.conns))
  fed_stand number (byte ∷ piece) =
      begun (is_open w.conns) (feed number (byte ∷ piece) w).conns (λ n. sym (change_open (with_fed (byte ∷ piece) w.moment) (λ c. refl) number n w.conns))

  heard_stand : (number : ℕ) (piece : List ℕ) (b : Bool) → Stand (is_open w.conns) (if b then hear number piece w else w)
  heard_stand number piece true =
      hear_stays Any (Stand (is_open w.conns)) (single (is_open w.conns)) number (λ conf heard cause is. tt) (λ n. tt) piece w (fed_stand number piece)
  heard_stand number piece false = begun (is_open w.conns) w.conns (λ n. refl)

  closed_stand : (number : ℕ) (cause : Closing) (b : Bool) → is_open w.conns number ≡ b
      → Stand (λ n. if number == n then false else is_open w.conns n) (if b then settle (ended cause number w) else w)
  closed_stand number cause true is =
      let opened : ℕ → Bool = λ n. if number == n then false else is_open w.conns n in
      settled opened (ended cause number w)
      (λ n. fold-append (shuts n) (opened n) w.said (end_line number cause ∷ []) ∙ begun opened (without number w.conns) (λ k. left_open number w.conns k) n)
  closed_stand number cause false is = begun (λ n. if number == n then false else is_open w.conns n) w.conns (already number false is)

  here : Stand (is_open w.conns) w
  here = begun (is_open w.conns) w.conns (λ n. refl)

  reloaded_stand : (read : Result Configuration (List ℕ)) → Stand (is_open w.conns) (settle (reload read w))
  reloaded_stand (Ok next) =
      let opened : ℕ → Bool = is_open w.conns in
      let left : World = close_each (strays next w.conns) w in
      settled opened (reload (Ok next) w)
      (wanted_stays Any (Stand opened) (single opened) (renew next left) (strays_stay Any (Stand opened) (single opened) (λ n. tt) (strays next w.conns) w here))
  reloaded_stand (Err cause) =
      settled (is_open w.conns) (reload (Err cause) w) (λ n. fold-append (shuts n) (is_open w.conns n) w.said (reload (Err cause) (record w { said = [] })).said ∙ here n)

  work_stand : (h : Happening) → Turned h (work h w)
  work_stand (happenings.Opened number) = opened_stand number (is_open w.conns number) refl
  work_stand (happenings.Heard number piece) = heard_stand number piece (is_open w.conns number)
  work_stand (happenings.Closed number cause) = closed_stand number (closing_for cause) (is_open w.conns number) refl
  work_stand (happenings.Moment moment) =
      settled (is_open w.conns) (pass moment w) (pass_stays Any (Stand (is_open w.conns)) (single (is_open w.conns)) (λ n. tt) moment w here)
  work_stand (happenings.Reload text) = reloaded_stand (accepted text)

-- ---- a story

abbrev pub taken : Happening → World → Told
taken h w = record { what = h; said = (turn h w).said }

pub turn_open : (h : Happening) (w : World) (n : ℕ) → open_more n (is_open w.conns n) (taken h w) ≡ is_open (turn h w).conns n
turn_open h w n = work_stand (record w { said = [] }) refl h n

pub open_known : (n : ℕ) (w : World) (story : List Happening) → fold (open_more n) (is_open w.conns n) (as_told w story) ≡ is_open (behind w story).conns n
open_known n w [] = refl
open_known n w (h ∷ hs) = ap (λ (b : Bool). fold (open_more n) b (as_told (turn h w) hs)) (turn_open h w n) ∙ open_known n (turn h w) hs
