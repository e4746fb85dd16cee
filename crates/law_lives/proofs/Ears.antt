-- When the last byte came on a connection, and so which are silent.
use Rattle.std.proofs.Common.{◌≡◌, ℕ, ◌==◌, ◌-◌, ◌&&◌, nat_le, max, Bool, true, false, is_some, Option, Some, None, List, [], ◌∷◌, ◌++◌, Result, Ok, Err, inl, inr, refl, sym, ap, subst, ◌∙◌, true≢false, if◌then◌else◌}
use Rattle.std.specs.List.{fold, list_any}
use Rattle.std.specs.Option.{option_map, option_map_or}
use Rattle.std.proofs.lemmas.Bool.{cases_Bool, eqb-true}
use Rattle.std.proofs.lemmas.List.Sums.{fold-append}
use Rattle.net_base.specs.declared.numbers.Moment.{Moment}
use Rattle.fg_outside.specs.declared.hub.Happening.{Happening}
use Rattle.fg_outside.specs.declared.hub.Happening.TheVariants as happenings
use Rattle.conf_types.specs.Configuration.{Configuration}
use Rattle.of13_codec.specs.declared.message.Message.TheVariants as messages
use Rattle.switch_session.specs.declared.closing.Closing.{Closing}
use Rattle.ctl_world.specs.declared.conns.Conn.{Conn}
use Rattle.ctl_world.specs.Connections.{change, conn_with, is_open, put, with_fed, without}
use Rattle.ctl_world.specs.Ends.{ended}
use Rattle.ctl_world.specs.World.{World}
use Rattle.ctl_core.specs.Settlings.{settle}
use Rattle.ctl_life.specs.Life.{closing_for, feed, open_conn}
use Rattle.ctl_life.specs.Silence.{falls_silent, is_silent, show}
use Rattle.ctl_world.proofs.Numbered.{changed_other, changed_own, put_other, shut_none, unlike, with_seen, without_other, without_own}
use Rattle.ctl_life.proofs.Openings.{fresh, fresh_is, open_is, with_fresh}
use Rattle.ctl_core.specs.Reloading.{accepted, close_each, reload, renew, strays}
use Rattle.ctl_core.specs.Turns.{hear, pass, turn, work}
use Rattle.law_lives.specs.Causes.{ClosesTheSilent, Ear, HaveTheirCauses, closes, ear_by, ear_more, heard_more, is_silent_at}
use Rattle.law_lives.specs.Known.{moment_more, open_more}
use Rattle.law_lives.specs.Told.{Told, as_told}
use Rattle.law_lives.proofs.Caused.{work_caused}
use Rattle.law_lives.proofs.Fixed.{Any, turn_moment}
use Rattle.law_lives.proofs.Opened.{taken, turn_open}
use Rattle.law_lives.proofs.Silences.{moment_closes}
use Rattle.law_lives.proofs.Walk.{Steps, hear_stays, pass_stays, said_stays, settle_stays, strays_stay, wanted_stays}

abbrev pub heard_by : Conn → Option ℕ
heard_by c = Some c.session.heard.0

module _ (n : ℕ) where
  abbrev pub heard_in : List Conn → Option ℕ
  heard_in conns = option_map_or heard_by (conn_with conns n) None

  gone_in : (number : ℕ) (conns : List Conn) (h : ℕ) → heard_in (without number conns) ≡ Some h → heard_in conns ≡ Some h
  gone_in number conns h some =
      elim (cases_Bool (n == number)) [
        | inl is ↦
            let none : heard_in (without number conns) ≡ None =
            ap (λ (o : Option Conn). option_map_or heard_by o None) (ap (conn_with (without number conns)) (eqb-true n number is) ∙ without_own number conns) in
            let e : None ≡ Some h = sym none ∙ some in
            absurd (cc)
        | inr other ↦ sym (ap (λ (o : Option Conn). option_map_or heard_by o None) (without_other number n (unlike n number other) conns)) ∙ some
      ]

  module _ (at : ℕ) where
    -- where it is opened, it was heard then
    abbrev pub Hears : World → Type 0
    Hears w = (h : ℕ) → heard_in w.conns ≡ Some h → at ≡ h

    single : Steps Any Hears
    single = record {
      changes = λ f is number w hears h some.
          hears h (sym (with_seen f is.number number heard_by (λ c. ap (λ (m : Moment). Some m.0) (is.heard c)) n w.conns None) ∙ some);
      says = λ number m xid w opened hears. hears;
      closes = λ cause number w any opened hears h some. hears h (gone_in number w.conns h some);
      knows = λ hosts neighbours w hears. hears;
    }

    settled : (w : World) → Hears w → Hears (settle w)
    settled w hears = settle_stays Any Hears single w hears

  pub record IsEar (ear : Ear) (w : World) : Type 0 where
    pub shown : ear.shown ≡ w.moment.0
    pub opened : ear.opened ≡ is_open w.conns n
    pub heard : Hears ear.heard w

  module _ (ear : Ear) (w : World) (is_ear : IsEar ear w) where
    -- ---- one opens

    -- it was opened
    again : (number : ℕ) → is_open w.conns number ≡ true → heard_more n ear (happenings.Opened number) ≡ ear.heard
    again number at =
        elim (cases_Bool (number == n)) [
          | inl same ↦
              let it : number ≡ n = eqb-true number n same in
              let was : ear.opened ≡ true = is_ear.opened ∙ ap (is_open w.conns) (sym it) ∙ at in
              λ i. if same i then (if was i then ear.heard else ear.shown) else ear.heard
          | inr other ↦ ap (λ (b : Bool). if b then (if ear.opened then ear.heard else ear.shown) else ear.heard) other
        ]

    come : (number : ℕ) → is_open w.conns number ≡ false → Hears (heard_more n ear (happenings.Opened number)) (with_fresh number w)
    come number shut h some =
        let c : Conn = fresh number w in
        elim (cases_Bool (number == n)) [
          | inl same ↦
              let it : number ≡ n = eqb-true number n same in
              let was : ear.opened ≡ false = is_ear.opened ∙ ap (is_open w.conns) (sym it) ∙ shut in
              let now : heard_in (put c w.conns) ≡ Some w.moment.0 =
              ap (λ (o : Option Conn). option_map_or heard_by o None) (ap (conn_with (put c w.conns)) (sym it) ∙ fresh_is number w shut) in
              let both : Some w.moment.0 ≡ Some h = sym now ∙ some in
              let is : w.moment.0 ≡ h = cc in
              (λ i. if same i then (if was i then ear.heard else ear.shown) else ear.heard) ∙ is_ear.shown ∙ is
          | inr other ↦
              let differs : n ≡ number → ⊥ = λ e. unlike number n other (sym e) in
              ap (λ (b : Bool). if b then (if ear.opened then ear.heard else ear.shown) else ear.heard) other
              ∙ is_ear.heard h (sym (ap (λ (o : Option Conn). option_map_or heard_by o None) (put_other c n differs w.conns)) ∙ some)
        ]

    opened_hears : (number : ℕ) (b : Bool) → is_open w.conns number ≡ b → Hears (heard_more n ear (happenings.Opened number)) (if b then w else settle (open_conn number w))
    opened_hears number true at = subst (λ (m : ℕ). Hears m w) (sym (again number at)) is_ear.heard
    opened_hears number false shut =
        let m : ℕ = heard_more n ear (happenings.Opened number) in
        settled m (open_conn number w) (said_stays Any (Hears m) (single m) number (messages.Hello 4 (Some 16)) (with_fresh number w) (come number shut))

    -- ---- bytes come

    bytes_hears : (number byte : ℕ) (piece : List ℕ) → Hears (heard_more n ear (happenings.Heard number (byte ∷ piece))) (feed number (byte ∷ piece) w)
    bytes_hears number byte piece h some =
        let f : Conn → Conn = with_fed (byte ∷ piece) w.moment in
        elim (cases_Bool (number == n)) [
          | inl same ↦
              let it : number ≡ n = eqb-true number n same in
              ap (λ (b : Bool). if b then ear.shown else ear.heard) same ∙ is_ear.shown
              ∙ fed (conn_with w.conns number) (sym (ap (λ (o : Option Conn). option_map_or heard_by o None) (ap (conn_with (change number f w.conns)) (sym it) ∙ changed_own f (λ c. refl) number w.conns)) ∙ some)
          | inr other ↦
              ap (λ (b : Bool). if b then ear.shown else ear.heard) other
              ∙ is_ear.heard h (sym (ap (λ (o : Option Conn). option_map_or heard_by o None) (changed_other f (λ c. refl) number n (λ e. unlike number n other (sym e)) w.conns)) ∙ some)
        ]
      where
        fed : (o : Option Conn) → option_map_or heard_by (option_map (with_fed (byte ∷ piece) w.moment) o) None ≡ Some h → w.moment.0 ≡ h
        fed None is = absurd (let e : None ≡ Some h = is in cc)
        fed (Some c) is = let e : Some w.moment.0 ≡ Some h = is in cc

    fed_hears : (number : ℕ) (piece : List ℕ) → Hears (heard_more n ear (happenings.Heard number piece)) (feed number piece w)
    fed_hears number [] = (single ear.heard).changes (with_fed [] w.moment) (record { number = λ c. refl; heard = λ c. refl }) number w is_ear.heard
    fed_hears number (byte ∷ piece) = bytes_hears number byte piece

    -- no bytes come on what isn't open
    shut_hears : (number : ℕ) (piece : List ℕ) → is_open w.conns number ≡ false → Hears (heard_more n ear (happenings.Heard number piece)) w
    shut_hears number [] shut h some = is_ear.heard h some
    shut_hears number (byte ∷ piece) shut h some =
        elim (cases_Bool (number == n)) [
          | inl same ↦
              let none : heard_in w.conns ≡ None =
              ap (λ (o : Option Conn). option_map_or heard_by o None) (ap (conn_with w.conns) (sym (eqb-true number n same)) ∙ shut_none number w.conns shut) in
              let e : None ≡ Some h = sym none ∙ some in
              absurd (cc)
          | inr other ↦ ap (λ (b : Bool). if b then ear.shown else ear.heard) other ∙ is_ear.heard h some
        ]

    heard_hears : (number : ℕ) (piece : List ℕ) (b : Bool) → is_open w.conns number ≡ b → Hears (heard_more n ear (happenings.Heard number piece)) (if b then hear number piece w else w)
    heard_hears number piece true at =
        let m : ℕ = heard_more n ear (happenings.Heard number piece) in
        hear_stays Any (Hears m) (single m) number (λ conf heard cause is. tt) (λ k. tt) piece w (fed_hears number piece)
    heard_hears number piece false shut = shut_hears number piece shut

    -- ---- the rest

    ended_hears : (number : ℕ) (cause : Closing) (b : Bool) → Hears ear.heard (if b then settle (ended cause number w) else w)
    ended_hears number cause true = settled ear.heard (ended cause number w) (λ h some. is_ear.heard h (gone_in number w.conns h some))
    ended_hears number cause false = is_ear.heard

    reloaded_hears : (read : Result Configuration (List ℕ)) → Hears ear.heard (settle (reload read w))
    reloaded_hears (Ok next) =
        let K : World → Type 0 = Hears ear.heard in
        let left : World = close_each (strays next w.conns) w in
        settled ear.heard (reload (Ok next) w)
        (wanted_stays Any K (single ear.heard) (renew next left) (strays_stay Any K (single ear.heard) (λ k. tt) (strays next w.conns) w is_ear.heard))
    reloaded_hears (Err cause) = settled ear.heard (reload (Err cause) w) is_ear.heard

    work_hears : (h : Happening) → Hears (heard_more n ear h) (work h w)
    work_hears (happenings.Opened number) = opened_hears number (is_open w.conns number) refl
    work_hears (happenings.Heard number piece) = heard_hears number piece (is_open w.conns number) refl
    work_hears (happenings.Closed number cause) = ended_hears number (closing_for cause) (is_open w.conns number)
    work_hears (happenings.Moment moment) =
        settled ear.heard (pass moment w) (pass_stays Any (Hears ear.heard) (single ear.heard) (λ k. tt) moment w is_ear.heard)
    work_hears (happenings.Reload text) = reloaded_hears (accepted text)

  turn_ear : (h : Happening) (ear : Ear) (w : World) → IsEar ear w → IsEar (ear_more n ear (taken h w)) (turn h w)
  turn_ear h ear w is_ear = record {
    shown = ap (λ (m : ℕ). moment_more m h) is_ear.shown ∙ sym (turn_moment h w);
    opened = ap (λ (b : Bool). open_more n b (taken h w)) is_ear.opened ∙ turn_open h w n;
    heard = work_hears ear (record w { said = [] }) (record { shown = is_ear.shown; opened = is_ear.opened; heard = is_ear.heard }) h;
  }

  -- ---- so the silent are closed

  silent_told : (moment : ℕ) (ear : Ear) (w : World) → IsEar ear w → falls_silent (show moment w) n ≡ is_silent_at moment ear
  silent_told moment ear w is_ear = by (conn_with w.conns n) refl
    where
      shown : Moment
      shown = record { 0 = max w.moment.0 moment }

      by : (o : Option Conn) → conn_with w.conns n ≡ o → option_map_or (is_silent shown) (conn_with w.conns n) false ≡ is_silent_at moment ear
      by None is =
          ap (λ (o : Option Conn). option_map_or (is_silent shown) o false) is
          ∙ sym (ap (λ (b : Bool). b && nat_le 60000 (max ear.shown moment - ear.heard)) (is_ear.opened ∙ open_is w.conns n ∙ ap (λ (o : Option Conn). is_some o) is))
      by (Some c) is =
          let at : ear.opened ≡ true = is_ear.opened ∙ open_is w.conns n ∙ ap (λ (o : Option Conn). is_some o) is in
          let heard : ear.heard ≡ c.session.heard.0 = is_ear.heard c.session.heard.0 (ap (λ (o : Option Conn). option_map_or heard_by o None) is) in
          ap (λ (o : Option Conn). option_map_or (is_silent shown) o false) is
          ∙ sym (λ i. at i && nat_le 60000 (max (is_ear.shown i) moment - heard i))

-- ---- a story

abbrev pub AreEars : List Told → World → Type 0
AreEars before w = (n : ℕ) → IsEar n (ear_by n before) w

closes_silent : (before : List Told) (h : Happening) (w : World) → AreEars before w → ClosesTheSilent before h (turn h w).said
closes_silent before (happenings.Opened number) w ears = tt
closes_silent before (happenings.Heard number piece) w ears = tt
closes_silent before (happenings.Closed number cause) w ears = tt
closes_silent before (happenings.Moment moment) w ears =
    λ n. moment_closes n moment (record w { said = [] }) refl ∙ silent_told n moment (ear_by n before) w (ears n)
closes_silent before (happenings.Reload text) w ears = tt

ears_more : (before : List Told) (h : Happening) (w : World) → AreEars before w → AreEars (before ++ taken h w ∷ []) (turn h w)
ears_more before h w ears n =
    subst (λ (ear : Ear). IsEar n ear (turn h w)) (sym (fold-append (ear_more n) (record { shown = 0; opened = false; heard = 0 }) before (taken h w ∷ [])))
    (turn_ear n h (ear_by n before) w (ears n))

pub have_causes : (before : List Told) (w : World) (story : List Happening) → AreEars before w → HaveTheirCauses before (as_told w story)
have_causes before w [] ears = tt
have_causes before w (h ∷ hs) ears =
    (work_caused (record w { said = [] }) refl h, closes_silent before h w ears, have_causes (before ++ taken h w ∷ []) (turn h w) hs (ears_more before h w ears))

pub no_ears : (w : World) → w.moment.0 ≡ 0 → w.conns ≡ [] → AreEars [] w
no_ears w moment none n = record {
  shown = sym moment;
  opened = sym (ap (λ (conns : List Conn). is_open conns n) none);
  heard = λ h some. absurd (let e : None ≡ Some h = sym (ap (λ (conns : List Conn). heard_in n conns) none) ∙ some in cc);
}
