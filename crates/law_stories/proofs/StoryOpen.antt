-- What is said is said where a connection is open: in each turn, step by step.
use Rattle.std.proofs.Common.{◌≡◌, ℕ, zero, suc, ◌==◌, Bool, true, false, codes, is_some, Option, Some, None, List, [], ◌∷◌, ◌++◌, length, inl, inr, refl, sym, ap, subst, ◌∙◌, if◌then◌else◌}
use Rattle.std.specs.Fmt.{decimal}
use Rattle.std.proofs.lemmas.Bool.{cases_Bool, eqb-true}
use Rattle.fg_outside.specs.declared.hub.EndCause.{EndCause}
use Rattle.fg_outside.specs.declared.hub.Happening.{Happening}
use Rattle.fg_outside.specs.declared.hub.Happening.TheVariants as happenings
use Rattle.of13_codec.specs.declared.message.Message.{Message}
use Rattle.of13_codec.specs.declared.message.Message.TheVariants as messages
use Rattle.switch_session.specs.declared.closing.Closing.{Closing}
use Rattle.switch_session.specs.Connections.{next_id}
use Rattle.ctl_world.specs.declared.conns.Conn.{Conn}
use Rattle.ctl_world.specs.declared.frames.Front.{Front}
use Rattle.ctl_world.specs.declared.frames.Front.TheVariants.{Part, Frame, Bad}
use Rattle.ctl_world.specs.declared.said.Said.{Said}
use Rattle.ctl_world.specs.declared.said.Said.TheVariants as told
use Rattle.ctl_world.specs.Connections.{change, conn_with, is_open, put, with_said, without}
use Rattle.ctl_world.specs.Ends.{closing_text, end_line, ended}
use Rattle.ctl_world.specs.Frames.{front}
use Rattle.ctl_world.specs.World.{World}
use Rattle.ctl_core.specs.Settlings.{settle}
use Rattle.ctl_life.specs.Life.{has_frame, read, says, unread, closing_for, feed, open_conn}
use Rattle.ctl_core.specs.Hearing.{hear_frame, hear_frames, hear_front, hear_next}
use Rattle.ctl_core.specs.Reloading.{accepted, reload}
use Rattle.ctl_core.specs.Turns.{hear, pass, turn, work}
use Rattle.law_stories.specs.Sayable.{IsOnOpen, SaysOnOpen, opens_in}
use Rattle.ctl_world.proofs.Numbered.{unlike}
use Rattle.ctl_life.proofs.Openings.{change_open, fresh, fresh_is, open_is, opens_by, put_open, put_opens, without_open, without_shut}
use Rattle.law_stories.proofs.Singly.{Steps, feed_stays, heard_stays, pass_stays, read_stays, reload_stays, settle_stays}

-- ---- what is said, and more

-- it is open behind what was said
abbrev still_open : (number : ℕ) → (opened : Bool) → List Said → Bool
still_open number opened [] = opened
still_open number opened (told.Message conn m xid ∷ more) = still_open number opened more
still_open number opened (told.Closing conn cause ∷ more) = still_open number (if conn == number then false else opened) more
still_open number opened (told.Line text ∷ more) = still_open number opened more

still_more : (number : ℕ) (opened : Bool) (said more : List Said) → still_open number opened (said ++ more) ≡ still_open number (still_open number opened said) more
still_more number opened [] more = refl
still_more number opened (told.Message conn m xid ∷ said) more = still_more number opened said more
still_more number opened (told.Closing conn cause ∷ said) more = still_more number (if conn == number then false else opened) said more
still_more number opened (told.Line text ∷ said) more = still_more number opened said more

on_more : (number : ℕ) (opened : Bool) (said more : List Said) → IsOnOpen number opened said → IsOnOpen number (still_open number opened said) more → IsOnOpen number opened (said ++ more)
on_more number opened [] more on rest = rest
on_more number opened (told.Message conn m xid ∷ said) more on rest = (on.0, on_more number opened said more on.1 rest)
on_more number opened (told.Closing conn cause ∷ said) more on rest = (on.0, on_more number (if conn == number then false else opened) said more on.1 rest)
on_more number opened (told.Line text ∷ said) more on rest = on_more number opened said more on rest

-- what is open where one was closed
pub left_open : (number : ℕ) (conns : List Conn) (n : ℕ) → (if number == n then false else is_open conns n) ≡ is_open (without number conns) n
left_open number conns n =
    elim (cases_Bool (number == n)) [
      | inl is ↦
          ap (λ (b : Bool). if b then false else is_open conns n) is ∙ sym (ap (is_open (without number conns)) (sym (eqb-true number n is)) ∙ without_shut number conns)
      | inr other ↦ ap (λ (b : Bool). if b then false else is_open conns n) other ∙ sym (without_open number n (λ e. unlike number n other (sym e)) conns)
    ]

-- ---- single steps

module _ (opened : ℕ → Bool) where
  -- all was said where it was open, and what is open now is what was left so
  abbrev AreOnOpen : List Conn → List Said → Type 0
  AreOnOpen conns said = (n : ℕ) → IsOnOpen n (opened n) said × (still_open n (opened n) said ≡ is_open conns n)

  more_on : (conns conns' : List Conn) (said more : List Said) → AreOnOpen conns said
      → ((n : ℕ) → IsOnOpen n (is_open conns n) more × (still_open n (is_open conns n) more ≡ is_open conns' n)) → AreOnOpen conns' (said ++ more)
  more_on conns conns' said more on rest n =
      let o : Bool = still_open n (opened n) said in
      let here : IsOnOpen n o more × (still_open n o more ≡ is_open conns' n) =
      subst (λ (b : Bool). IsOnOpen n b more × (still_open n b more ≡ is_open conns' n)) (sym ((on n).1)) (rest n) in
      (on_more n (opened n) said more (on n).0 here.0, still_more n (opened n) said more ∙ here.1)

  changes : (f : Conn → Conn) → ((c : Conn) → (f c).number ≡ c.number) → (number : ℕ) (conns : List Conn) (said : List Said) → AreOnOpen conns said → AreOnOpen (change number f conns) said
  changes f same number conns said on n = ((on n).0, (on n).1 ∙ sym (change_open f same number n conns))

  message : (number : ℕ) (m : Message) (xid : ℕ) (conns : List Conn) (said : List Said) → is_open conns number ≡ true → AreOnOpen conns said → AreOnOpen conns (said ++ told.Message number m xid ∷ [])
  message number m xid conns said at on =
      more_on conns conns said (told.Message number m xid ∷ []) on (λ n. ((λ it. subst (λ (k : ℕ). is_open conns k ≡ true) it at, tt), refl))

  says_on : (f : Conn → Conn) → ((c : Conn) → (f c).number ≡ c.number) → (number : ℕ) (m : Message) (c : Conn) (conns : List Conn) (said : List Said) → conn_with conns number ≡ Some c → AreOnOpen conns said
      → AreOnOpen (change number f conns) (said ++ told.Message number m (next_id c.session.last_xid) ∷ [])
  says_on f same number m c conns said some on =
      let xid : ℕ = next_id c.session.last_xid in
      changes f same number conns (said ++ told.Message number m xid ∷ [])
      (message number m xid conns said (open_is conns number ∙ ap (λ (o : Option Conn). is_some o) some) on)

  closes : (cause : Closing) (number : ℕ) (conns : List Conn) (said : List Said) → is_open conns number ≡ true → AreOnOpen conns said
      → AreOnOpen (without number conns) (said ++ told.Closing number cause ∷ end_line number cause ∷ [])
  closes cause number conns said at on =
      more_on conns (without number conns) said (told.Closing number cause ∷ end_line number cause ∷ []) on
      (λ n. ((λ it. subst (λ (k : ℕ). is_open conns k ≡ true) it at, tt), left_open number conns n))

  tells : (text : List ℕ) (conns : List Conn) (said : List Said) → AreOnOpen conns said → AreOnOpen conns (said ++ told.Line text ∷ [])
  tells text conns said on = more_on conns conns said (told.Line text ∷ []) on (λ n. (tt, refl))

  single : Steps AreOnOpen
  single = record {
    changes = λ f still number conns said on. changes f still.number number conns said on;
    says = λ f counting number m own c conns said some on. says_on f counting.number number m c conns said some on;
    repeats = λ number m answers xid conns said at on. message number m xid conns said at on;
    closes = closes;
    tells = tells;
  }

  -- ---- frames

  abbrev On : World → Type 0
  On w = AreOnOpen w.conns w.said

  settled : (w : World) → On w → On (settle w)
  settled w on = settle_stays AreOnOpen single w on

  front_on : (number : ℕ) (w : World) → On w → (f : Front) → front (unread number w) ≡ f → On (hear_front f number (read number w))
  front_on number w on Part is = read_stays AreOnOpen single number w on
  front_on number w on (Frame frame) is =
      settled (hear_frame (says frame) number (read number w)) (heard_stays AreOnOpen single (says frame) number w (λ part. absurd (cc)) on)
  front_on number w on Bad is = settled (hear_frame None number (read number w)) (heard_stays AreOnOpen single None number w (λ part. absurd (cc)) on)

  frames_on : (most number : ℕ) (w : World) → On w → On (hear_frames most number w)
  frames_on zero number w on = on
  frames_on (suc most) number w on =
      let next : On (hear_next number w) = front_on number w on (front (unread number w)) refl in
      elim (has_frame number w) as (λ b. On (if b then hear_frames most number (hear_next number w) else hear_next number w)) [
        | true ↦ frames_on most number (hear_next number w) next
        | false ↦ next
      ]

  hear_on : (number : ℕ) (piece : List ℕ) (w : World) → On w → On (hear number piece w)
  hear_on number piece w on =
      let fed : World = feed number piece w in
      frames_on (length (unread number fed)) number fed (feed_stays AreOnOpen single number piece w on)

-- ---- a turn

module _ (w : World) (silent : w.said ≡ []) where
  abbrev Says : Happening → World → Type 0
  Says h v = (n : ℕ) → IsOnOpen n (opens_in h n w) v.said

  nothing : (h : Happening) → Says h w
  nothing h n = subst (IsOnOpen n (opens_in h n w)) (sym silent) tt

  abbrev before : ℕ → Bool
  before n = is_open w.conns n

  begins : On before w
  begins n = subst (λ (said : List Said). IsOnOpen n (before n) said × (still_open n (before n) said ≡ is_open w.conns n)) (sym silent) (tt, refl)

  opened_on : (number : ℕ) → (b : Bool) → is_open w.conns number ≡ b → Says (happenings.Opened number) (if b then w else settle (open_conn number w))
  opened_on number true is = nothing (happenings.Opened number)
  opened_on number false is = λ n. (settled opened (open_conn number w) said n).0
    where
      opened : ℕ → Bool
      opened n = opens_in (happenings.Opened number) n w

      c : Conn
      c = fresh number w

      come : (n : ℕ) → (if number == n then true else is_open w.conns n) ≡ is_open (put c w.conns) n
      come n =
          elim (cases_Bool (number == n)) [
            | inl same ↦
                ap (λ (b : Bool). if b then true else is_open w.conns n) same
                ∙ sym (ap (is_open (put c w.conns)) (sym (eqb-true number n same)) ∙ put_opens c w.conns is)
            | inr other ↦
                ap (λ (b : Bool). if b then true else is_open w.conns n) other ∙ sym (put_open c n (λ e. unlike number n other (sym e)) w.conns)
          ]

      first : AreOnOpen opened (put c w.conns) w.said
      first n = subst (λ (said : List Said). IsOnOpen n (opened n) said × (still_open n (opened n) said ≡ is_open (put c w.conns) n)) (sym silent) (tt, come n)

      said : On opened (open_conn number w)
      said =
          subst (On opened) (sym (opens_by number w is))
          (says_on opened with_said (λ d. refl) number (messages.Hello 4 (Some 16)) c (put c w.conns) w.said (fresh_is number w is) first)

  ended_on : (number : ℕ) (cause : EndCause) → Says (happenings.Closed number cause) (settle (ended (closing_for cause) number w))
  ended_on number cause = λ n. (settled opened (ended (closing_for cause) number w) said n).0
    where
      opened : ℕ → Bool
      opened n = opens_in (happenings.Closed number cause) n w

      first : AreOnOpen opened (without number w.conns) w.said
      first n = subst (λ (said : List Said). IsOnOpen n (opened n) said × (still_open n (opened n) said ≡ is_open (without number w.conns) n)) (sym silent) (tt, left_open number w.conns n)

      said : On opened (ended (closing_for cause) number w)
      said = tells opened (codes "conn " ++ decimal number ++ codes ": " ++ closing_text (closing_for cause)) (without number w.conns) w.said first

  work_on : (h : Happening) → Says h (work h w)
  work_on (happenings.Opened number) = opened_on number (is_open w.conns number) refl
  work_on (happenings.Heard number piece) =
      elim (is_open w.conns number) as (λ b. Says (happenings.Heard number piece) (if b then hear number piece w else w)) [
        | true ↦ λ n. (hear_on before number piece w begins n).0
        | false ↦ nothing (happenings.Heard number piece)
      ]
  work_on (happenings.Closed number cause) =
      elim (is_open w.conns number) as (λ b. Says (happenings.Closed number cause) (if b then settle (ended (closing_for cause) number w) else w)) [
        | true ↦ ended_on number cause
        | false ↦ nothing (happenings.Closed number cause)
      ]
  work_on (happenings.Moment moment) = λ n. (settled before (pass moment w) (pass_stays (AreOnOpen before) (single before) moment w begins) n).0
  work_on (happenings.Reload text) = λ n. (settled before (reload (accepted text) w) (reload_stays (AreOnOpen before) (single before) (accepted text) w begins) n).0

-- ---- a story

unsaid : (h : Happening) (n : ℕ) (w : World) → opens_in h n (record w { said = [] }) ≡ opens_in h n w
unsaid (happenings.Opened number) n w = refl
unsaid (happenings.Heard number piece) n w = refl
unsaid (happenings.Closed number cause) n w = refl
unsaid (happenings.Moment moment) n w = refl
unsaid (happenings.Reload text) n w = refl

turn_on : (h : Happening) (w : World) (n : ℕ) → IsOnOpen n (opens_in h n w) (turn h w).said
turn_on h w n = subst (λ (b : Bool). IsOnOpen n b (turn h w).said) (unsaid h n w) (work_on (record w { said = [] }) refl h n)

pub story_on_open : (w : World) (story : List Happening) → SaysOnOpen w story
story_on_open w [] = tt
story_on_open w (h ∷ hs) = (turn_on h w, story_on_open (turn h w) hs)
