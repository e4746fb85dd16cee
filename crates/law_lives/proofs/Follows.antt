-- Opening, and what follows from a message that is heard, leaves each life and connection fitting.
use Rattle.std.proofs.Common.{◌≡◌, ℕ, ◌==◌, ◌<◌, Bool, true, false, slice_index, Option, Some, None, List, [], ◌∷◌, ◌++◌, inl, inr, refl, sym, ap, subst, ◌∙◌, append_assoc, append-nil, eq-eqb, true≢false, cond}
use Rattle.std.specs.List.{concat}
use Rattle.std.specs.Option.{option_map, option_map_or}
use Rattle.std.proofs.lemmas.Bool.{cases_Bool, eqb-true}
use Rattle.std.proofs.lemmas.List.Folds.{concat-append}
use Rattle.net_base.specs.declared.numbers.DpId.{DpId}
use Rattle.fg_outside.specs.declared.hub.Happening.{Happening}
use Rattle.of_match.proofs.AfterOrder.{all_append}
use Rattle.of13_codec.specs.declared.message.Message.{Message}
use Rattle.of13_codec.specs.declared.message.Message.TheVariants as messages
use Rattle.flow_messages.specs.Messages.{delete_all}
use Rattle.switch_session.specs.declared.closing.Closing.{Closing}
use Rattle.switch_session.specs.declared.closing.Closing.TheVariants.{BadFrame, Replaced, WrongVersion}
use Rattle.switch_session.specs.declared.state.Stage.{Stage}
use Rattle.switch_session.specs.declared.state.Stage.TheVariants.{Features, Ports, Wiping}
use Rattle.switch_session.specs.declared.state.Step.{Step}
use Rattle.switch_session.specs.declared.state.Step.TheVariants as steps
use Rattle.switch_session.specs.Connections.{next_id}
use Rattle.switch_session.specs.Frames.{IsFrame}
use Rattle.switch_session.specs.Stages.{State, leads}
use Rattle.ctl_world.specs.declared.conns.Conn.{Conn}
use Rattle.ctl_world.specs.declared.said.Said.{Said}
use Rattle.ctl_world.specs.declared.said.Said.TheVariants as told
use Rattle.ctl_world.specs.Connections.{change, conn_of, conn_with, is_of, with_asked, with_dp, with_heard, with_said, without}
use Rattle.ctl_world.specs.Ends.{close, end_line, forget_lost}
use Rattle.ctl_world.specs.Frames.{behind_frame, with_read}
use Rattle.ctl_world.specs.Saying.{ask, repeat, say}
use Rattle.ctl_world.specs.World.{World}
use Rattle.ctl_life.specs.Life.{echo, read, replace, take_dp, turn_away}
use Rattle.ctl_world.proofs.Numbered.{changed_other, changed_own, is_its, unlike, without_other, without_own}
use Rattle.ctl_core.proofs.Settlings.{AreByNumber}
use Rattle.ctl_core.proofs.Numbered.{of_with}
use Rattle.ctl_core.proofs.Ordered.{AreOrdered, change_ordered}
use Rattle.ctl_core.specs.Hearing.{follow, hear_message, hear_on, introduce, unfit, wipe}
use Rattle.ctl_core.proofs.Walk.{begin_kept}
use Rattle.law_lives.specs.Lives.{Life, Lives, asked_after, barrier_after, dp_after, shut, speaks, takes}
use Rattle.law_lives.specs.Sessions.{Has, IsHeardOn, IsSpelled, MaySay, setup_in}
use Rattle.law_lives.proofs.Fronts.{IsWhole}
use Rattle.law_lives.proofs.Meets.{After, ByStage, UnlessEcho, met}
use Rattle.law_lives.proofs.Runs.{Alone, Calm, Ended, Fit, Lived, Of, Runs, Way, about, about_other, about_own, closes, fit_at, fit_changed, frame_more, full_of, more, of_full, spoken, still, to_full}
use Rattle.law_lives.proofs.Steps.{Kept, asked_lived, packets, said_lived, single, spoken_lived}

-- a message was met that led to this step
pub record Met (m : Message) (xid : ℕ) (step : Step) (l : Life) (c : Conn) : Type 0 where
  pub after : After c.dp l.steps step l.state.stage l.dp l.barrier l.state.awaited
  pub asked : l.asked ≡ asked_after m xid l.answered
  pub unless_echo : UnlessEcho step (l.asked ≡ l.answered)

-- the connection is known to be the only one of its datapath
abbrev pub keeps_dp : Step → Bool
keeps_dp (steps.Features id n_tables auxiliary) = false
keeps_dp (steps.Close cause) = false
keeps_dp step = true

same_dp : (step : Step) (before dp : Option DpId) (said : List Message) (stage : Stage) (b a : Option ℕ) → keeps_dp step ≡ true → After before said step stage dp b a → dp ≡ before
same_dp steps.Nothing before dp said stage b a keeps after = after.0
same_dp steps.AskFeatures before dp said stage b a keeps after = after.1
same_dp (steps.Features id n_tables auxiliary) before dp said stage b a keeps after = absurd (true≢false (sym keeps))
same_dp steps.PortsKnown before dp said stage b a keeps after = after.1
same_dp steps.Wiped before dp said stage b a keeps after = after.0
same_dp steps.Settled before dp said stage b a keeps after = after.0
same_dp (steps.PortChanged port) before dp said stage b a keeps after = after.0
same_dp steps.Packet before dp said stage b a keeps after = after.0
same_dp steps.Echo before dp said stage b a keeps after = after.0
same_dp (steps.Close cause) before dp said stage b a keeps after = absurd (true≢false (sym keeps))

-- a FEATURES_REPLY named this datapath, and isn't followed yet
pub record Named (dp : DpId) (l : Life) (c : Conn) : Type 0 where
  pub stands : l.state.stage ≡ Ports
  pub before : c.dp ≡ None
  pub mine : l.dp ≡ Some dp
  pub said : l.steps ≡ setup_in Features
  pub free : l.barrier ≡ None
  pub echoes : l.answered ≡ l.asked

-- it was accepted, and it is noted whose connection it is
pub record Taken (dp : DpId) (l : Life) (c : Conn) : Type 0 where
  pub stands : l.state.stage ≡ Ports
  pub mine : l.dp ≡ Some dp
  pub noted : c.dp ≡ Some dp
  pub said : l.steps ≡ setup_in Features
  pub free : l.barrier ≡ None
  pub echoes : l.answered ≡ l.asked

-- the wipe is said, and its barrier isn't yet
pub record Deleting (l : Life) (c : Conn) : Type 0 where
  pub stands : l.state.stage ≡ Wiping
  pub dp : l.dp ≡ c.dp
  pub said : l.steps ≡ setup_in Ports ++ delete_all ∷ []
  pub free : l.barrier ≡ None
  pub echoes : l.answered ≡ l.asked

-- ---- datapaths of connections

shared : (a b : DpId) → (a.0 == b.0) ≡ true → a ≡ b
shared a b is = λ i. record { 0 = eqb-true a.0 b.0 is i }

of_dp : (dp : DpId) (c : Conn) → is_of dp c ≡ true → c.dp ≡ Some dp
of_dp dp c is = by c.dp refl is
  where
    by : (o : Option DpId) → c.dp ≡ o → option_map_or (λ (d : DpId). d.0 == dp.0) o false ≡ true → c.dp ≡ Some dp
    by None none is = absurd (true≢false (sym is))
    by (Some d) some is = some ∙ ap (λ (x : DpId). Some x) (shared d dp is)

none_of : (conns : List Conn) (dp : DpId) → conn_of conns dp ≡ None → (n : ℕ) (c : Conn) → conn_with conns n ≡ Some c → c.dp ≡ Some dp → ⊥
none_of [] dp none n c some has = absurd (cc)
none_of (x ∷ xs) dp none n c some has =
    elim (cases_Bool (is_of dp x)) [
      | inl is ↦ let e : Some x ≡ None = sym (ap (λ (b : Bool). cond b (Some x) (conn_of xs dp)) is) ∙ none in absurd (cc)
      | inr not ↦
          let rest : conn_of xs dp ≡ None = sym (ap (λ (b : Bool). cond b (Some x) (conn_of xs dp)) not) ∙ none in
          elim (cases_Bool (x.number == n)) [
            | inl here ↦
                let e : Some x ≡ Some c = sym (ap (λ (b : Bool). cond b (Some x) (conn_with xs n)) here) ∙ some in
                let same : x ≡ c = cc in
                true≢false (sym (ap (λ (o : Option DpId). option_map_or (λ (d : DpId). d.0 == dp.0) o false) (ap (λ (k : Conn). k.dp) same ∙ has) ∙ eq-eqb dp.0 dp.0 refl) ∙ not)
            | inr there ↦ none_of xs dp rest n c (sym (ap (λ (b : Bool). cond b (Some x) (conn_with xs n)) there) ∙ some) has
          ]
    ]

-- ---- another connection is closed

has_before : (k : ℕ) (lives : Lives) (x : ℕ) (dp : DpId) → Has (about k shut lives x) dp → (x ≡ k → ⊥) × Has (lives x) dp
has_before k lives x dp has =
    elim (cases_Bool (x == k)) [
      | inl is ↦
          let own : Has (shut (lives k)) dp = subst (λ (l : Life). Has l dp) (about_own k shut lives) (subst (λ (n : ℕ). Has (about k shut lives n) dp) (eqb-true x k is) has) in
          absurd (true≢false (sym own.0))
      | inr other ↦ (unlike x k other, subst (λ (l : Life). Has l dp) (about_other k shut lives x (unlike x k other)) has)
    ]

ended_of : (l : Life) (o : Option Conn) → Of Calm l o → Ended (shut l)
ended_of l None own = record { gone = refl; rest = own.rest; bytes = own.bytes; frames = own.frames; echoes = own.echoes }
ended_of l (Some c) own = record { gone = refl; rest = c.session.unread; bytes = own.bytes; frames = own.frames; echoes = own.holds.2 }

fit_gone : (number k : ℕ) → (k ≡ number → ⊥) → (T : Way) (b : Bool) (lives : Lives) (conns : List Conn) → Fit number T b lives conns → Fit number T b (about k shut lives) (without k conns)
fit_gone number k differs T b lives conns fit = record {
  own = subst (λ (l : Life). Of T l (conn_with (without k conns) number)) (sym (about_other k shut lives number (λ is. differs (sym is))))
      (subst (Of T (lives number)) (sym (without_other k number (λ is. differs (sym is)) conns)) fit.own);
  others = λ n off. elim (cases_Bool (n == k)) [
    | inl is ↦
        subst (λ (x : ℕ). Of Calm (about k shut lives x) (conn_with (without k conns) x)) (sym (eqb-true n k is))
        (subst (λ (l : Life). Of Calm l (conn_with (without k conns) k)) (sym (about_own k shut lives))
        (subst (Of Calm (shut (lives k))) (sym (without_own k conns)) (ended_of (lives k) (conn_with conns k) (fit.others k differs))))
    | inr other ↦
        subst (λ (l : Life). Of Calm l (conn_with (without k conns) n)) (sym (about_other k shut lives n (unlike n k other)))
        (subst (Of Calm (lives n)) (sym (without_other k n (unlike n k other) conns)) (fit.others n off))
  ];
  apart = λ x y dp dx dy hx hy. fit.apart x y dp dx dy (has_before k lives x dp hx).1 (has_before k lives y dp hy).1;
  alone = λ yes x dp off own other. fit.alone yes x dp off (has_before k lives number dp own).1 (has_before k lives x dp other).1;
}

module _ (what : Happening) (start : Lives) where
  abbrev Meeting : ℕ → Way → Bool → World → Type 0
  Meeting number T b w = Runs what start (Fit number T b) w.conns w.said

  recast : (number : ℕ) (T T' : Way) (b : Bool) (w : World) → ((l : Life) (c : Conn) → T l c → T' l c) → Meeting number T b w → Meeting number T' b w
  recast number T T' b w casts meeting =
      still what start (Fit number T b) (Fit number T' b) w.conns w.conns w.said
      (λ lives fit. record { own = by lives (conn_with w.conns number) fit.own; others = fit.others; apart = fit.apart; alone = fit.alone }) meeting
    where
      by : (lives : Lives) (o : Option Conn) → Of T (lives number) o → Of T' (lives number) o
      by lives None own = own
      by lives (Some c) own = record { open_ = own.open_; bytes = own.bytes; frames = own.frames; last = own.last; state = own.state; holds = casts (lives number) c own.holds }

  calm_kept : (number : ℕ) (T : Way) (w : World) → ((l : Life) (c : Conn) → T l c → Calm l c) → Meeting number T true w → Kept what start w
  calm_kept number T w calm meeting = to_full what start number w.conns w.said (recast number T Calm true w calm meeting)

  -- what repeats a transaction id that was heard
  repeated : (number : ℕ) (m : Message) (xid : ℕ) (T T' : Way) (b : Bool) (w : World) (c : Conn) → conn_with w.conns number ≡ Some c → ((lives : Lives) → MaySay number m lives)
      → ((l : Life) → Lived T l c → Lived T' (speaks m xid l) c) → Meeting number T b w → Meeting number T' b (repeat number m xid w)
  repeated number m xid T T' b w c some may grows meeting =
      more what start (told.Message number m xid) (Fit number T b) (Fit number T' b) w.conns w.conns w.said
      (λ lives fit. (
        may lives,
        fit_at number (speaks m xid) T T' b b lives w.conns w.conns (λ n differs. refl)
            (subst (Of T' (speaks m xid (lives number))) (sym some) (grows (lives number) (subst (Of T (lives number)) some fit.own)))
            (λ yes k dp differs own other. fit.alone yes k dp differs own other) fit,
      ))
      meeting

  module _ (m : Message) (xid number : ℕ) where
    -- ---- FEATURES_REQUEST

    features_kept : (w : World) → Meeting number (Met m xid steps.AskFeatures) true w → Kept what start (say number messages.FeaturesRequest w)
    features_kept w meeting =
        let T : Way = Met m xid steps.AskFeatures in
        let v : World = say number messages.FeaturesRequest w in
        to_full what start number v.conns v.said
        (spoken what start number messages.FeaturesRequest with_said (λ c. refl) T Calm true true w
        (λ lives c is it fit.
        let l : Life = lives number in (
          tt,
          said_lived T Calm messages.FeaturesRequest (next_id c.session.last_xid) l c refl
              (λ h. (
                h.after.1,
                subst (λ (s : Stage). ByStage s l.dp (l.steps ++ messages.FeaturesRequest ∷ []) l.barrier l.state.awaited) (sym h.after.0)
                    (h.after.2, ap (λ (said : List Message). said ++ messages.FeaturesRequest ∷ []) h.after.3, h.after.4),
                sym h.unless_echo,
              ))
              it,
          fit.alone,
        ))
        meeting)

    -- ---- the datapath is taken

    -- of none of the others is this the datapath
    abbrev Clear : DpId → Lives → Type 0
    Clear dp lives = (k : ℕ) → (k ≡ number → ⊥) → Has (lives k) dp → ⊥

    record Replacing (dp : DpId) (lives : Lives) (conns : List Conn) : Type 0 where
      fit : Fit number (Named dp) false lives conns
      clear : Clear dp lives

    of_other : (dp : DpId) (lives : Lives) (conns : List Conn) → Fit number (Named dp) false lives conns → (k : ℕ) → (k ≡ number → ⊥) → Has (lives k) dp
        → (c : Conn) × (conn_with conns k ≡ Some c) × (c.dp ≡ Some dp)
    of_other dp lives conns fit k differs has = by (conn_with conns k) refl (fit.others k differs)
      where
        by : (o : Option Conn) → conn_with conns k ≡ o → Of Calm (lives k) o → (c : Conn) × (conn_with conns k ≡ Some c) × (c.dp ≡ Some dp)
        by None none own = absurd (true≢false (sym has.0 ∙ own.gone))
        by (Some c) some own = (c, some, sym own.holds.0 ∙ has.1)

    other_has : (dp : DpId) (lives : Lives) (conns : List Conn) → Fit number (Named dp) false lives conns → (c : Conn) → conn_with conns c.number ≡ Some c → c.dp ≡ Some dp
        → (c.number ≡ number → ⊥) → Has (lives c.number) dp
    other_has dp lives conns fit c some has differs =
        let it : Lived Calm (lives c.number) c = subst (Of Calm (lives c.number)) some (fit.others c.number differs) in
        (it.open_, it.holds.0 ∙ has)

    own_not : (dp : DpId) (lives : Lives) (conns : List Conn) → Fit number (Named dp) false lives conns → (c : Conn) → conn_with conns c.number ≡ Some c → c.dp ≡ Some dp
        → c.number ≡ number → ⊥
    own_not dp lives conns fit c some has is =
        let at_number : conn_with conns number ≡ Some c = ap (conn_with conns) (sym is) ∙ some in
        let it : Lived (Named dp) (lives number) c = subst (Of (Named dp) (lives number)) at_number fit.own in
        let bad : ◌≡◌ {A = Option DpId} None (Some dp) = sym it.holds.before ∙ has in
        absurd (cc)

    replaced : (dp : DpId) (w : World) → AreByNumber w.conns → Meeting number (Named dp) false w → Runs what start (Replacing dp) (replace dp w).conns (replace dp w).said
    replaced dp w ordered meeting = by (conn_of w.conns dp) refl
      where
        by : (o : Option Conn) → conn_of w.conns dp ≡ o
            → Runs what start (Replacing dp) (option_map_or (λ (c : Conn). close Replaced c.number w) o w).conns (option_map_or (λ (c : Conn). close Replaced c.number w) o w).said
        by None none =
            still what start (Fit number (Named dp) false) (Replacing dp) w.conns w.conns w.said
            (λ lives fit. record {
              fit = fit;
              clear = λ k differs has. let it = of_other dp lives w.conns fit k differs has in none_of w.conns dp none k it.0 it.1 it.2;
            })
            meeting
        by (Some c) is =
            let some : conn_with w.conns c.number ≡ Some c = of_with w.conns dp c ordered is in
            let has : c.dp ≡ Some dp = of_dp dp c (is_its w.conns dp c is) in
            let left : List Conn = without c.number w.conns in
            let x : Said = told.Closing c.number Replaced in
            let line : Said = end_line c.number Replaced in
            subst (Runs what start (Replacing dp) left) (append_assoc w.said (x ∷ []) (line ∷ []))
            (more what start line (Replacing dp) (Replacing dp) left left (w.said ++ x ∷ []) (λ lives replacing. (tt, replacing))
            (more what start x (Fit number (Named dp) false) (Replacing dp) w.conns left w.said
            (λ lives fit.
            let differs : c.number ≡ number → ⊥ = own_not dp lives w.conns fit c some has in (
              tt,
              record {
                fit = fit_gone number c.number differs (Named dp) false lives w.conns fit;
                clear = λ k off its. let before = has_before c.number lives k dp its in
                    before.0 (fit.apart k c.number dp off differs before.1 (other_has dp lives w.conns fit c some has differs));
              },
            ))
            meeting))

    alone_of : (dp : DpId) (lives : Lives) (o : Option Conn) → Of (Named dp) (lives number) o → Clear dp lives → Alone number lives
    alone_of dp lives None own clear k d differs its other = absurd (true≢false (sym its.0 ∙ own.gone))
    alone_of dp lives (Some c) own clear k d differs its other =
        let both : Some d ≡ Some dp = sym its.1 ∙ own.holds.mine in
        let same : d ≡ dp = cc in
        clear k differs (subst (Has (lives k)) same other)

    taken : (dp : DpId) (w : World) → AreByNumber w.conns → Meeting number (Named dp) false w → Meeting number (Taken dp) true (take_dp number dp (replace dp w))
    taken dp w ordered meeting =
        let v : World = replace dp w in
        still what start (Replacing dp) (Fit number (Taken dp) true) v.conns (change number (with_dp dp) v.conns) v.said
        (λ lives replacing.
        let changed = fit_changed number (with_dp dp) (λ c. refl) (Named dp) (Taken dp) false lives v.conns
        (λ c is it. record {
          open_ = it.open_;
          bytes = it.bytes;
          frames = it.frames;
          last = it.last;
          state = it.state;
          holds = record { stands = it.holds.stands; mine = it.holds.mine; noted = refl; said = it.holds.said; free = it.holds.free; echoes = it.holds.echoes };
        })
        replacing.fit in
        record {
          own = changed.own;
          others = changed.others;
          apart = changed.apart;
          alone = λ yes. alone_of dp lives (conn_with v.conns number) replacing.fit.own replacing.clear;
        })
        (replaced dp w ordered meeting)

    ports_kept : (dp : DpId) (w : World) → Meeting number (Taken dp) true w → Kept what start (ask number messages.PortDescRequest w)
    ports_kept dp w meeting =
        let v : World = ask number messages.PortDescRequest w in
        to_full what start number v.conns v.said
        (spoken what start number messages.PortDescRequest with_asked (λ c. refl) (Taken dp) Calm true true w
        (λ lives c is it fit.
        let l : Life = lives number in
        let id : ℕ = next_id c.session.last_xid in (
          λ other d own its. elim (cases_Bool (other == number)) [
            | inl same ↦ eqb-true other number same
            | inr off ↦ absurd (fit.alone refl other d (unlike other number off) own its)
          ],
          asked_lived (Taken dp) Calm messages.PortDescRequest l c refl
              (λ h. (
                h.mine ∙ sym h.noted,
                subst (λ (s : Stage). ByStage s l.dp (l.steps ++ messages.PortDescRequest ∷ []) l.barrier (Some id)) (sym h.stands)
                    (ap (λ (said : List Message). said ++ messages.PortDescRequest ∷ []) h.said, h.free, refl),
                h.echoes,
              ))
              it,
          fit.alone,
        ))
        meeting)

    introduce_kept : (id : DpId) (n_tables auxiliary : ℕ) (cause : Option Closing) (w : World) → AreByNumber w.conns → Meeting number (Met m xid (steps.Features id n_tables auxiliary)) false w
        → Kept what start (introduce number id cause w)
    introduce_kept id n_tables auxiliary (Some cause) w ordered meeting =
        closes what start (Met m xid (steps.Features id n_tables auxiliary)) (λ l c h. sym h.unless_echo) false cause number w meeting
    introduce_kept id n_tables auxiliary None w ordered meeting =
        ports_kept id (take_dp number id (replace id w))
        (taken id w ordered
        (recast number (Met m xid (steps.Features id n_tables auxiliary)) (Named id) false w
        (λ l c h. record { stands = h.after.0; before = h.after.1; mine = h.after.2; said = h.after.3; free = h.after.4; echoes = sym h.unless_echo })
        meeting))

    -- ---- the wipe

    wipe_kept : (w : World) → Meeting number (Met m xid steps.PortsKnown) true w → Kept what start (wipe number w)
    wipe_kept w meeting =
        let T : Way = Met m xid steps.PortsKnown in
        let v : World = say number delete_all w in
        let u : World = ask number messages.BarrierRequest v in
        to_full what start number u.conns u.said
        (spoken what start number messages.BarrierRequest with_asked (λ c. refl) Deleting Calm true true v
        (λ lives c is it fit.
        let l : Life = lives number in
        let id : ℕ = next_id c.session.last_xid in (
          it.holds.free,
          asked_lived Deleting Calm messages.BarrierRequest l c refl
              (λ h. (
                h.dp,
                subst (λ (s : Stage). ByStage s l.dp (l.steps ++ messages.BarrierRequest ∷ []) (Some id) (Some id)) (sym h.stands)
                    (ap (λ (said : List Message). said ++ messages.BarrierRequest ∷ []) h.said, refl, refl),
                h.echoes,
              ))
              it,
          fit.alone,
        ))
        (spoken what start number delete_all with_said (λ c. refl) T Deleting true true w
        (λ lives c is it fit.
        let l : Life = lives number in (
          it.holds.after.3,
          said_lived T Deleting delete_all (next_id c.session.last_xid) l c refl
              (λ h. record {
                stands = h.after.0;
                dp = h.after.1;
                said = ap (λ (said : List Message). said ++ delete_all ∷ []) h.after.2;
                free = h.after.3;
                echoes = sym h.unless_echo;
              })
              it,
          fit.alone,
        ))
        meeting))

    -- ---- a closing

    away_kept : (cause closing : Closing) (w : World) (c : Conn) → conn_with w.conns number ≡ Some c → Meeting number (Met m xid (steps.Close cause)) false w
        → Kept what start (turn_away closing number xid w)
    away_kept cause WrongVersion w c some meeting =
        let T : Way = Met m xid (steps.Close cause) in
        closes what start T (λ l d h. sym h.unless_echo) false WrongVersion number (repeat number (messages.Error 0 0 []) xid w)
        (repeated number (messages.Error 0 0 []) xid T T false w c some (λ lives. tt)
        (λ l it. spoken_lived T (messages.Error 0 0 []) xid l c c refl refl it.state (record { after = tt; asked = it.holds.asked; unless_echo = it.holds.unless_echo }) it)
        meeting)
    away_kept cause closing w c some meeting = closes what start (Met m xid (steps.Close cause)) (λ l d h. sym h.unless_echo) false closing number w meeting

  -- ---- an echo

  echo_kept : (m : Message) (xid number : ℕ) (w : World) (c : Conn) → conn_with w.conns number ≡ Some c → Meeting number (Met m xid steps.Echo) true w → Kept what start (echo m number xid w)
  echo_kept (messages.EchoRequest payload) xid number w c some meeting =
      let T : Way = Met (messages.EchoRequest payload) xid steps.Echo in
      to_full what start number w.conns (repeat number (messages.EchoReply payload) xid w).said
      (repeated number (messages.EchoReply payload) xid T Calm true w c some (λ lives. tt)
      (λ l it. spoken_lived Calm (messages.EchoReply payload) xid l c c refl refl it.state (it.holds.after.0, it.holds.after.1, sym it.holds.asked) it)
      meeting)
  echo_kept m xid number w c some meeting = calm_kept number (Met m xid steps.Echo) w (λ l d h. (h.after.0, h.after.1, sym h.asked)) meeting

  -- ---- what follows from a step

  follow_kept : (step : Step) (m : Message) (xid number : ℕ) (dp : Option DpId) (w : World) (c : Conn) → AreByNumber w.conns → conn_with w.conns number ≡ Some c
      → Meeting number (Met m xid step) (keeps_dp step) w → Kept what start (follow step m xid number dp w)
  follow_kept steps.Nothing m xid number dp w c ordered some meeting = calm_kept number (Met m xid steps.Nothing) w (λ l d h. (h.after.0, h.after.1, sym h.unless_echo)) meeting
  follow_kept steps.AskFeatures m xid number dp w c ordered some meeting = features_kept m xid number w meeting
  follow_kept (steps.Features id n_tables auxiliary) m xid number dp w c ordered some meeting = introduce_kept m xid number id n_tables auxiliary (unfit w.conf id n_tables auxiliary) w ordered meeting
  follow_kept steps.PortsKnown m xid number dp w c ordered some meeting = wipe_kept m xid number w meeting
  follow_kept steps.Wiped m xid number dp w c ordered some meeting =
      begin_kept (Kept what start) (single what start) dp w (calm_kept number (Met m xid steps.Wiped) w (λ l d h. (h.after.0, h.after.1, sym h.unless_echo)) meeting)
  follow_kept steps.Settled m xid number dp w c ordered some meeting = calm_kept number (Met m xid steps.Settled) w (λ l d h. (h.after.0, h.after.1, sym h.unless_echo)) meeting
  follow_kept (steps.PortChanged port) m xid number dp w c ordered some meeting =
      calm_kept number (Met m xid (steps.PortChanged port)) w (λ l d h. (h.after.0, h.after.1, sym h.unless_echo)) meeting
  follow_kept steps.Packet m xid number dp w c ordered some meeting =
      packets what start m number dp w (calm_kept number (Met m xid steps.Packet) w (λ l d h. (h.after.0, h.after.1, sym h.unless_echo)) meeting)
  follow_kept steps.Echo m xid number dp w c ordered some meeting = echo_kept m xid number w c some meeting
  follow_kept (steps.Close cause) m xid number dp w c ordered some meeting = away_kept m xid number cause cause w c some meeting

  -- ---- a frame

  -- a frame was taken from the front of the bytes
  taken_bytes : (l : Life) (frame unread behind : List ℕ) → l.bytes ≡ concat l.frames ++ unread → unread ≡ frame ++ behind → l.bytes ≡ concat (l.frames ++ frame ∷ []) ++ behind
  taken_bytes l frame unread behind bytes parts =
      bytes ∙ ap (λ (u : List ℕ). concat l.frames ++ u) parts ∙ sym (append_assoc (concat l.frames) frame behind)
      ∙ ap (λ (u : List ℕ). u ++ behind) (sym (concat-append l.frames (frame ∷ []) ∙ ap (λ (u : List ℕ). concat l.frames ++ u) (append-nil frame)))

  module _ (number : ℕ) (frame : List ℕ) (here : IsHeardOn what number) (w : World) (c : Conn) (some : conn_with w.conns number ≡ Some c) (whole : IsWhole c.session.unread frame)
      (kept : Kept what start w) where
    abbrev after_read : World
    after_read = read number w

    own_read : conn_with after_read.conns number ≡ Some (with_read c)
    own_read = changed_own with_read (λ d. refl) number w.conns ∙ ap (option_map with_read) some

    module _ (m : Message) (xid : ℕ) (spelled : ((i : ℕ) → slice_index frame i < 256) → IsSpelled frame (Some (m, xid))) where
      abbrev step : Step
      step = (leads c.session.state m xid).1

      abbrev met_conns : List Conn
      met_conns = change number (with_heard m xid) after_read.conns

      own_met : conn_with met_conns number ≡ Some (with_heard m xid (with_read c))
      own_met = changed_own (with_heard m xid) (λ d. refl) number after_read.conns ∙ ap (option_map (with_heard m xid)) own_read

      met_lived : (l : Life) → Lived Calm l c → Lived (Met m xid step) (takes frame (Some (m, xid)) l) (with_heard m xid (with_read c))
      met_lived l it =
          let goes = met l.dp l.steps l.asked l.state m xid l.barrier it.holds.1 in
          let steps_same : (leads l.state m xid).1 ≡ step = ap (λ (s : State). (leads s m xid).1) it.state in
          let next : State = (leads l.state m xid).0 in
          record {
            open_ = it.open_;
            bytes = taken_bytes l frame c.session.unread (behind_frame c.session.unread) it.bytes whole.parts;
            frames = all_append IsFrame l.frames (frame ∷ []) it.frames (whole.is, tt);
            last = it.last;
            state = ap (λ (s : State). (leads s m xid).0) it.state;
            holds = record {
              after = subst (λ (st : Step). After c.dp l.steps st next.stage (dp_after l.state.stage m l.dp) (barrier_after m xid l.barrier) next.awaited) steps_same
                  (subst (λ (d : Option DpId). After d l.steps (leads l.state m xid).1 next.stage (dp_after l.state.stage m l.dp) (barrier_after m xid l.barrier) next.awaited) it.holds.0 goes.0);
              asked = ap (asked_after m xid) (sym it.holds.2);
              unless_echo = subst (λ (st : Step). UnlessEcho st (asked_after m xid l.asked ≡ l.answered)) steps_same
                  (subst (λ (a : List (List ℕ × ℕ)). UnlessEcho (leads l.state m xid).1 (asked_after m xid l.asked ≡ a)) (sym it.holds.2) goes.1);
            };
          }

      met_fit : (lives : Lives) → Fit number Calm true lives w.conns → Fit number (Met m xid step) (keeps_dp step) (about number (takes frame (Some (m, xid))) lives) met_conns
      met_fit lives fit =
          let l : Life = lives number in
          let it : Lived Calm l c = subst (Of Calm l) some fit.own in
          let lived = met_lived l it in
          fit_at number (takes frame (Some (m, xid))) Calm (Met m xid step) true (keeps_dp step) lives w.conns met_conns
          (λ n differs. changed_other (with_heard m xid) (λ d. refl) number n differs after_read.conns ∙ changed_other with_read (λ d. refl) number n differs w.conns)
          (subst (Of (Met m xid step) (takes frame (Some (m, xid)) l)) (sym own_met) lived)
          (λ yes k dp differs own other.
          let same : dp_after l.state.stage m l.dp ≡ c.dp = same_dp step c.dp (dp_after l.state.stage m l.dp) l.steps (leads l.state m xid).0.stage (barrier_after m xid l.barrier) (leads l.state m xid).0.awaited yes lived.holds.after in
          fit.alone refl k dp differs (it.open_, it.holds.0 ∙ sym same ∙ own.1) other)
          fit

      pub message_kept : AreOrdered w.conns → Kept what start (hear_message m xid number after_read)
      message_kept ordered =
          subst (λ (o : Option Conn). Kept what start (option_map_or (hear_on m xid number after_read) o after_read)) (sym own_read)
          (follow_kept step m xid number c.dp (forget_lost (record after_read { conns = met_conns })) (with_heard m xid (with_read c)) met_ordered own_met
          (frame_more what start number frame (Some (m, xid)) here (Fit number Calm true) (Fit number (Met m xid step) (keeps_dp step)) w.conns met_conns w.said
          (λ lives fit.
          let it : Lived Calm (lives number) c = subst (Of Calm (lives number)) some fit.own in
          ((it.open_, spelled, (full_of number lives w.conns fit).apart), met_fit lives fit))
          (of_full what start number w.conns w.said kept)))
        where
          met_ordered : AreByNumber met_conns
          met_ordered = (change_ordered (with_heard m xid) (λ d. refl) (λ d. refl) number after_read.conns (change_ordered with_read (λ d. refl) (λ d. refl) number w.conns ordered)).0

    pub none_kept : (((i : ℕ) → slice_index frame i < 256) → IsSpelled frame None) → Kept what start (close BadFrame number after_read)
    none_kept spelled =
        closes what start Calm (λ l d calm. calm.2) true BadFrame number after_read
        (frame_more what start number frame None here (Fit number Calm true) (Fit number Calm true) w.conns after_read.conns w.said
        (λ lives fit.
        let l : Life = lives number in
        let it : Lived Calm l c = subst (Of Calm l) some fit.own in (
          (it.open_, spelled, (full_of number lives w.conns fit).apart),
          fit_at number (takes frame None) Calm Calm true true lives w.conns after_read.conns (λ n differs. changed_other with_read (λ d. refl) number n differs w.conns)
              (subst (Of Calm (takes frame None l)) (sym own_read)
              (record {
                open_ = it.open_;
                bytes = taken_bytes l frame c.session.unread (behind_frame c.session.unread) it.bytes whole.parts;
                frames = all_append IsFrame l.frames (frame ∷ []) it.frames (whole.is, tt);
                last = it.last;
                state = it.state;
                holds = it.holds;
              }))
              (λ yes k dp differs own other. fit.alone yes k dp differs own other) fit,
        ))
        (of_full what start number w.conns w.said kept))
