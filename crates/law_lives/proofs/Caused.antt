-- Each closing has its cause.
use Rattle.std.proofs.Common.{◌≡◌, ℕ, ◌++◌, Bool, true, false, not, nat_lt, is_some, is_ok, Option, Some, None, List, [], ◌∷◌, Result, Ok, Err, inl, inr, refl, sym, ap, subst, ◌∙◌, ◌==◌, codes, append_assoc, append-nil, if◌then◌else◌}
use Rattle.std.specs.List.{AllByRecursion}
use Rattle.fg_outside.specs.declared.hub.Happening.{Happening}
use Rattle.fg_outside.specs.declared.hub.Happening.TheVariants as happenings
use Rattle.of_match.proofs.AfterOrder.{all_append}
use Rattle.conf_types.specs.Configuration.{Configuration, dp_with}
use Rattle.of13_codec.specs.declared.features.FeaturesReply.{FeaturesReply}
use Rattle.of13_codec.specs.declared.message.Message.{Message}
use Rattle.of13_codec.specs.declared.message.Message.TheVariants as messages
use Rattle.switch_session.specs.declared.closing.Closing.{Closing}
use Rattle.switch_session.specs.declared.closing.Closing.TheVariants.{Auxiliary, BadFrame, Replaced, Silent, SwitchError, TooFewTables, UnknownDp, WrongVersion}
use Rattle.ctl_world.specs.declared.said.Said.{Said}
use Rattle.ctl_world.specs.declared.said.Said.TheVariants as told
use Rattle.ctl_world.specs.Connections.{is_open}
use Rattle.ctl_world.specs.Ends.{end_line, ended}
use Rattle.ctl_world.specs.World.{World}
use Rattle.ctl_core.specs.Settlings.{settle}
use Rattle.ctl_life.specs.Life.{closing_for, open_conn}
use Rattle.ctl_life.proofs.Openings.{with_fresh}
use Rattle.ctl_core.specs.Hearing.{hear_frame, unfit}
use Rattle.ctl_core.specs.Reloading.{accepted, close_each, reload, renew, strays}
use Rattle.ctl_core.specs.Turns.{hear, pass, turn, work}
use Rattle.law_lives.specs.Causes.{GivesWayTo, HasCause, HasHeardCause, IsCause, IsHeardCause, IsOfFrame, IsOfMessage, is_of_bytes}
use Rattle.law_lives.proofs.Walk.{Steps, hear_stays, heard_stays, pass_stays, said_stays, settle_stays, strays_stay, wanted_stays}

-- ---- what a switch says is one of the causes that a switch may give

tested : (a b c : Bool) (cause : Closing) → (if a then Some UnknownDp else if b then Some TooFewTables else if c then Some Auxiliary else None) ≡ Some cause → is_of_bytes cause ≡ true
tested true b c cause is = let same : UnknownDp ≡ cause = cc in ap is_of_bytes (sym same)
tested false true c cause is = let same : TooFewTables ≡ cause = cc in ap is_of_bytes (sym same)
tested false false true cause is = let same : Auxiliary ≡ cause = cc in ap is_of_bytes (sym same)
tested false false false cause is = absurd (cc)

of_message : (conf : Configuration) (m : Message) (cause : Closing) → IsOfMessage conf m cause → is_of_bytes cause ≡ true
of_message conf (messages.Hello version bitmap) cause is = ap is_of_bytes is.0
of_message conf (messages.Error kind code payload) cause is = ap is_of_bytes is
of_message conf (messages.FeaturesReply reply) cause is =
    tested (not (is_some (dp_with conf.dps reply.dp))) (nat_lt reply.n_tables 9) (not (reply.auxiliary == 0)) cause is
of_message conf m cause is = absurd is

of_frame : (conf : Configuration) (heard : Option (Message × ℕ)) (cause : Closing) → IsOfFrame conf heard cause → is_of_bytes cause ≡ true
of_frame conf (Some heard) cause is = of_message conf heard.0 cause is
of_frame conf None cause is = ap is_of_bytes is

-- ---- in a turn

module _ (h : Happening) where
  abbrev Caused : World → Type 0
  Caused w = AllByRecursion (HasCause h) w.said

  single : Steps (IsCause h) Caused
  single = record {
    changes = λ f is number w all. all;
    says = λ number m xid w at all. all_append (HasCause h) w.said (told.Message number m xid ∷ []) all (tt, tt);
    closes = λ cause number w is at all. all_append (HasCause h) w.said (told.Closing number cause ∷ end_line number cause ∷ []) all (is, (tt, tt));
    knows = λ hosts neighbours w all. all;
  }

  settled : (w : World) → Caused w → Caused (settle w)
  settled w all = settle_stays (IsCause h) Caused single w all

module _ (w : World) (silent : w.said ≡ []) where
  none : (h : Happening) → Caused h w
  none h = subst (AllByRecursion (HasCause h)) (sym silent) tt

  opened_caused : (number : ℕ) (b : Bool) → Caused (happenings.Opened number) (if b then w else settle (open_conn number w))
  opened_caused number true = none (happenings.Opened number)
  opened_caused number false =
      let h : Happening = happenings.Opened number in
      settled h (open_conn number w) (said_stays (IsCause h) (Caused h) (single h) number (messages.Hello 4 (Some 16)) (with_fresh number w) (none h))

  heard_caused : (number : ℕ) (piece : List ℕ) (b : Bool) → Caused (happenings.Heard number piece) (if b then hear number piece w else w)
  heard_caused number piece true =
      let h : Happening = happenings.Heard number piece in
      hear_stays (IsCause h) (Caused h) (single h) number (λ conf heard cause is. inl (refl, of_frame conf heard cause is)) (λ n. inr refl) piece w (none h)
  heard_caused number piece false = none (happenings.Heard number piece)

  ended_caused : (h : Happening) (number : ℕ) (cause : Closing) (b : Bool) → Caused h (if b then settle (ended cause number w) else w)
  ended_caused h number cause true = settled h (ended cause number w) (all_append (HasCause h) w.said (end_line number cause ∷ []) (none h) (tt, tt))
  ended_caused h number cause false = none h

  reloaded_caused : (text : List ℕ) (read : Result Configuration (List ℕ)) → accepted text ≡ read → Caused (happenings.Reload text) (settle (reload read w))
  reloaded_caused text (Ok next) is =
      let h : Happening = happenings.Reload text in
      let left : World = close_each (strays next w.conns) w in
      let why : is_ok (accepted text) ≡ true = ap (λ (r : Result Configuration (List ℕ)). is_ok r) is in
      settled h (reload (Ok next) w) (wanted_stays (IsCause h) (Caused h) (single h) (renew next left) (strays_stay (IsCause h) (Caused h) (single h) (λ n. (refl, why)) (strays next w.conns) w (none h)))
  reloaded_caused text (Err cause) is =
      let h : Happening = happenings.Reload text in
      settled h (reload (Err cause) w) (all_append (HasCause h) w.said (told.Line (codes "reload: " ++ cause) ∷ []) (none h) (tt, tt))

  pub work_caused : (h : Happening) → AllByRecursion (HasCause h) (work h w).said
  work_caused (happenings.Opened number) = opened_caused number (is_open w.conns number)
  work_caused (happenings.Heard number piece) = heard_caused number piece (is_open w.conns number)
  work_caused (happenings.Closed number cause) = ended_caused (happenings.Closed number cause) number (closing_for cause) (is_open w.conns number)
  work_caused (happenings.Moment moment) =
      let h : Happening = happenings.Moment moment in
      settled h (pass moment w) (pass_stays (IsCause h) (Caused h) (single h) (λ n. refl) moment w (none h))
  work_caused (happenings.Reload text) = reloaded_caused text (accepted text) refl

-- ---- when a frame is heard

module _ (heard : Option (Message × ℕ)) (on : ℕ) (w : World) where
  abbrev Grown : World → Type 0
  Grown v = (more : List Said) × (v.said ≡ w.said ++ more) × AllByRecursion (HasHeardCause w heard on) more

  grow : (v : World) (x : List Said) → AllByRecursion (HasHeardCause w heard on) x → Grown v → (more : List Said) × (v.said ++ x ≡ w.said ++ more) × AllByRecursion (HasHeardCause w heard on) more
  grow v x each grown =
      (grown.0 ++ x, ap (λ (all : List Said). all ++ x) grown.1 ∙ append_assoc w.said grown.0 x, all_append (HasHeardCause w heard on) grown.0 x grown.2 each)

  single_heard : Steps (IsHeardCause w heard on) Grown
  single_heard = record {
    changes = λ f is number v grown. grown;
    says = λ number m xid v at grown. grow v (told.Message number m xid ∷ []) (tt, tt) grown;
    closes = λ cause number v is at grown. grow v (told.Closing number cause ∷ end_line number cause ∷ []) (is, (tt, tt)) grown;
    knows = λ hosts neighbours v grown. grown;
  }

  pub frame_caused : is_open w.conns on ≡ true → (more : List Said) × ((hear_frame heard on w).said ≡ w.said ++ more) × AllByRecursion (HasHeardCause w heard on) more
  frame_caused at =
      heard_stays (IsHeardCause w heard on) Grown single_heard w heard on (λ cause is. inl (refl, is)) (λ number gives. inr (refl, gives)) at ([], sym (append-nil w.said), tt)
