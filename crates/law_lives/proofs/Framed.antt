-- What is said where bytes are heard is said of the frames in them, one behind the other.
use Rattle.std.proofs.Common.{◌≡◌, ℕ, zero, suc, ◌==◌, ◌&&◌, ◌||◌, not, Bool, true, false, is_some, Option, Some, None, List, [], ◌∷◌, ◌++◌, length, inl, inr, refl, sym, ap, ◌∙◌, subst, append_assoc, append-nil, true≢false, if◌then◌else◌}
use Rattle.std.specs.List.{AllByRecursion, fold, list_any}
use Rattle.std.specs.Option.{option_map_or}
use Rattle.std.proofs.lemmas.List.Sums.{fold-append}
use Rattle.net_base.specs.declared.numbers.DpId.{DpId}
use Rattle.fg_outside.specs.declared.hub.Happening.{Happening}
use Rattle.fg_outside.specs.declared.hub.Happening.TheVariants as happenings
use Rattle.of_match.proofs.AfterOrder.{all_append}
use Rattle.of13_codec.specs.declared.message.Message.{Message}
use Rattle.switch_session.specs.declared.closing.Closing.{Closing}
use Rattle.switch_session.specs.declared.state.Step.{Step}
use Rattle.switch_session.specs.declared.state.Step.TheVariants as steps
use Rattle.switch_session.specs.Stages.{leads}
use Rattle.ctl_world.specs.declared.conns.Conn.{Conn}
use Rattle.ctl_world.specs.declared.frames.Front.{Front}
use Rattle.ctl_world.specs.declared.frames.Front.TheVariants.{Part, Frame, Bad}
use Rattle.ctl_world.specs.declared.said.Said.{Said}
use Rattle.ctl_world.specs.declared.said.Said.TheVariants as told
use Rattle.ctl_world.specs.Connections.{change, conn_with, is_open, with_heard}
use Rattle.ctl_world.specs.Ends.{close, end_line, forget_lost}
use Rattle.ctl_world.specs.Frames.{front, is_frame, with_read}
use Rattle.ctl_world.specs.World.{World}
use Rattle.ctl_core.specs.Settlings.{settle}
use Rattle.ctl_life.specs.Life.{feed, read, says, tell_version, unread}
use Rattle.ctl_life.proofs.Openings.{change_open, front_open, without_shut}
use Rattle.ctl_core.specs.Hearing.{follow, hear_frame, hear_frames, hear_front, hear_on, introduce, unfit}
use Rattle.ctl_core.specs.Turns.{hear, turn}
use Rattle.law_stories.proofs.StoryOpen.{left_open}
use Rattle.law_lives.specs.Causes.{HasHeardCause, IsHeardCause, closes}
use Rattle.law_lives.specs.Known.{shuts}
use Rattle.law_lives.specs.Steps.{Heard, at_frames, at_front, at_piece, turns}
use Rattle.law_lives.proofs.Fixed.{Any}
use Rattle.law_lives.proofs.Speaking as speaking
use Rattle.law_lives.proofs.Walk.{Steps, heard_stays, settle_stays}
use Rattle.law_lives.specs.Frames.{IsSaidOf, is_refused, is_refused_on, is_refusing, SaysByFrames, SpeaksByFrames, SpeaksByItsFrames}

-- ---- what is closed

none_closed : (b : Bool) → b ≡ (b && true)
none_closed true = refl
none_closed false = refl

any_closed : (b : Bool) → false ≡ (b && false)
any_closed true = refl
any_closed false = refl

-- a connection is open behind what is said where it was so before, and isn't closed in it
shut_by : (on : ℕ) (b : Bool) (said : List Said) → fold (shuts on) b said ≡ (b && not (list_any (closes on) said))
shut_by on b [] = none_closed b
shut_by on b (told.Message number m xid ∷ said) = shut_by on b said
shut_by on b (told.Line text ∷ said) = shut_by on b said
shut_by on b (told.Closing number cause ∷ said) =
    elim (number == on) as (λ (c : Bool). fold (shuts on) (if c then false else b) said ≡ (b && not (c || list_any (closes on) said))) [
      | true ↦ shut_by on false said ∙ any_closed b
      | false ↦ shut_by on b said
    ]

not_false : (b : Bool) → not b ≡ false → b ≡ true
not_false true is = refl
not_false false is = absurd (true≢false is)

-- ---- what is said of one frame

module _ (heard : Option (Message × ℕ)) (on : ℕ) (w : World) where
  record Grown (v : World) : Type 0 where
    own : List Said
    said : v.said ≡ w.said ++ own
    causes : AllByRecursion (HasHeardCause w heard on) own
    opened : fold (shuts on) true own ≡ is_open v.conns on

  grow : (v u : World) (x : List Said) → u.said ≡ v.said ++ x → AllByRecursion (HasHeardCause w heard on) x → fold (shuts on) (is_open v.conns on) x ≡ is_open u.conns on → Grown v → Grown u
  grow v u x is each opens grown = record {
    own = grown.own ++ x;
    said = is ∙ ap (λ (all : List Said). all ++ x) grown.said ∙ append_assoc w.said grown.own x;
    causes = all_append (HasHeardCause w heard on) grown.own x grown.causes each;
    opened = fold-append (shuts on) true grown.own x ∙ ap (λ (b : Bool). fold (shuts on) b x) grown.opened ∙ opens;
  }

  single : Steps (IsHeardCause w heard on) Grown
  single = record {
    changes = λ f is number v grown. record { own = grown.own; said = grown.said; causes = grown.causes; opened = grown.opened ∙ sym (change_open f is.number number on v.conns) };
    says = λ number m xid v at grown. grow v (record v { said = v.said ++ told.Message number m xid ∷ [] }) (told.Message number m xid ∷ []) refl (tt, tt) refl grown;
    closes = λ cause number v is at grown. grow v (close cause number v) (told.Closing number cause ∷ end_line number cause ∷ []) refl (is, (tt, tt)) (left_open number v.conns on) grown;
    knows = λ hosts neighbours v grown. record { own = grown.own; said = grown.said; causes = grown.causes; opened = grown.opened };
  }

  framed : is_open w.conns on ≡ true → Grown (settle (hear_frame heard on w))
  framed at =
      settle_stays (IsHeardCause w heard on) Grown single (hear_frame heard on w)
      (heard_stays (IsHeardCause w heard on) Grown single w heard on (λ cause is. inl (refl, is)) (λ number gives. inr (refl, gives)) at
      (record { own = []; said = sym (append-nil w.said); causes = tt; opened = sym at }))

-- ---- a frame that is refused

abbrev Shut : ℕ → World → Type 0
Shut on v = is_open v.conns on ≡ false

stays_shut : (on : ℕ) → speaking.Speaks (Shut on)
stays_shut on = record {
  changes = λ f is number v shut. change_open f is.number number on v.conns ∙ shut;
  says = λ number m xid v at shut. shut;
  meets = λ neighbours v shut. shut;
}

step_shut : (step : Step) (m : Message) (xid on : ℕ) (dp : Option DpId) (w : World) → is_refusing w.conf step ≡ true → Shut on (follow step m xid on dp w)
step_shut (steps.Close cause) m xid on dp w is = without_shut on (tell_version cause on xid w).conns
step_shut (steps.Features id n_tables auxiliary) m xid on dp w is = by (unfit w.conf id n_tables auxiliary) is
  where
    by : (o : Option Closing) → is_some o ≡ true → Shut on (introduce on id o w)
    by (Some cause) is = without_shut on w.conns
    by None is = absurd (true≢false (sym is))
step_shut step m xid on dp w is = absurd (true≢false (sym is))

frame_shut : (heard : Option (Message × ℕ)) (on : ℕ) (w : World) → is_refused heard on w ≡ true → Shut on (hear_frame heard on w)
frame_shut None on w is = without_shut on w.conns
frame_shut (Some s) on w is = by (conn_with w.conns on) is
  where
    by : (o : Option Conn) → option_map_or (is_refused_on s.0 s.1 w) o false ≡ true → Shut on (option_map_or (hear_on s.0 s.1 on w) o w)
    by None is = absurd (true≢false (sym is))
    by (Some c) is =
        step_shut (leads c.session.state s.0 s.1).1 s.0 s.1 on c.dp (forget_lost (record w { conns = change on (with_heard s.0 s.1) w.conns })) is

refused_shut : (heard : Option (Message × ℕ)) (on : ℕ) (w : World) → is_refused heard on w ≡ true → Shut on (settle (hear_frame heard on w))
refused_shut heard on w is = speaking.settle_stays (Shut on) (stays_shut on) (hear_frame heard on w) (frame_shut heard on w is)

module _ (heard : Option (Message × ℕ)) (on : ℕ) (w : World) (at : is_open w.conns on ≡ true) where
  abbrev one : Heard
  one = record { on = on; says = heard; before = w }

  abbrev own : List Said
  own = (framed heard on w at).own

  closed_by : is_open (settle (hear_frame heard on w)).conns on ≡ false → list_any (closes on) own ≡ true
  closed_by shut = not_false (list_any (closes on) own) (sym (shut_by on true own) ∙ (framed heard on w at).opened ∙ shut)

  said_of : IsSaidOf one own
  said_of = record {
    all = (framed heard on w at).said;
    causes = (framed heard on w at).causes;
    refused = λ is. closed_by (refused_shut heard on w is);
  }

  shut_behind : list_any (closes on) own ≡ true → Shut on (settle (hear_frame heard on w))
  shut_behind closed = sym (framed heard on w at).opened ∙ shut_by on true own ∙ ap not closed

-- ---- the frames of a piece

-- where a connection isn't open no frame is heard on it
none_heard : (most number : ℕ) (w : World) → Shut number w → at_frames most number w ≡ []
none_heard zero number w shut = refl
none_heard (suc most) number w shut = by (front (unread number w)) refl
  where
    by : (f : Front) → front (unread number w) ≡ f → at_front f number (read number w) ++ (if is_frame f then at_frames most number (hear_front f number (read number w)) else []) ≡ []
    by Part is = refl
    by (Frame frame) is = absurd (true≢false (sym (front_open number w (λ part. absurd (cc))) ∙ shut))
    by Bad is = absurd (true≢false (sym (front_open number w (λ part. absurd (cc))) ∙ shut))

abbrev SaysFrom : (base : List Said) → List Heard → (all : List Said) → Type 0
SaysFrom base frames all = (more : List Said) × (all ≡ base ++ more) × SaysByFrames frames more

read_open : (number : ℕ) (w : World) → (front (unread number w) ≡ Part → ⊥) → is_open (read number w).conns number ≡ true
read_open number w some = change_open with_read (λ c. refl) number number w.conns ∙ front_open number w some

-- what stands at the front, and the frames behind it
front_framed : (most number : ℕ) (w : World) → ((next : World) → SaysFrom next.said (at_frames most number next) (hear_frames most number next).said) → (f : Front) → front (unread number w) ≡ f
    → SaysFrom w.said (at_front f number (read number w) ++ (if is_frame f then at_frames most number (hear_front f number (read number w)) else []))
    (if is_frame f then hear_frames most number (hear_front f number (read number w)) else hear_front f number (read number w)).said
front_framed most number w more Part is = ([], sym (append-nil w.said), refl)
front_framed most number w more Bad is =
    let at : is_open (read number w).conns number ≡ true = read_open number w (λ part. absurd (cc)) in
    let said : List Said = own None number (read number w) at in
    (said, (framed None number (read number w) at).said, (said, [], sym (append-nil said), said_of None number (read number w) at, λ closed. refl, refl))
front_framed most number w more (Frame frame) is =
    let v : World = read number w in
    let at : is_open v.conns number ≡ true = read_open number w (λ part. absurd (cc)) in
    let said : List Said = own (says frame) number v at in
    let next : World = settle (hear_frame (says frame) number v) in
    let rest = more next in (
      said ++ rest.0,
      rest.1 ∙ ap (λ (all : List Said). all ++ rest.0) (framed (says frame) number v at).said ∙ append_assoc w.said said rest.0,
      (said, rest.0, refl, said_of (says frame) number v at, λ closed. none_heard most number next (shut_behind (says frame) number v at closed), rest.2),
    )

frames_framed : (most number : ℕ) (w : World) → SaysFrom w.said (at_frames most number w) (hear_frames most number w).said
frames_framed zero number w = ([], sym (append-nil w.said), refl)
frames_framed (suc most) number w = front_framed most number w (λ next. frames_framed most number next) (front (unread number w)) refl

-- ---- a turn, and a story

heard_framed : (number : ℕ) (piece : List ℕ) (w : World) (b : Bool)
    → SaysByFrames (if b then at_piece number (feed number piece (record w { said = [] })) else []) (if b then hear number piece (record w { said = [] }) else record w { said = [] }).said
heard_framed number piece w false = refl
heard_framed number piece w true =
    let fed : World = feed number piece (record w { said = [] }) in
    let all = frames_framed (length (unread number fed)) number fed in
    subst (SaysByFrames (at_piece number fed)) (sym all.1) all.2

turn_framed : (h : Happening) (w : World) → SpeaksByFrames h w (turn h w).said
turn_framed (happenings.Heard number piece) w = heard_framed number piece w (is_open w.conns number)
turn_framed (happenings.Opened number) w = tt
turn_framed (happenings.Closed number cause) w = tt
turn_framed (happenings.Moment moment) w = tt
turn_framed (happenings.Reload text) w = tt

pub turns_framed : (w : World) (story : List Happening) → AllByRecursion SpeaksByItsFrames (turns w story)
turns_framed w [] = tt
turns_framed w (h ∷ hs) = (turn_framed h w, turns_framed (turn h w) hs)
