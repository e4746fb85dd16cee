-- Turn by turn, and over a story: a log in which each connection lives as it is to.
use Rattle.std.proofs.Common.{◌≡◌, ◌⊎◌, ℕ, zero, suc, ◌==◌, ◌+◌, ◌-◌, ◌<◌, ◌≤◌, nat_le, max, Bool, true, false, is_some, slice_index, Option, Some, None, List, [], ◌∷◌, ◌++◌, codes, length, drop, map, inl, inr, refl, sym, ap, subst, ◌∙◌, append_assoc, arith, true≢false, if◌then◌else◌}
use Rattle.std.specs.List.{concat}
use Rattle.std.specs.Fmt.{decimal}
use Rattle.std.specs.Option.{option_map, option_map_or}
use Rattle.std.proofs.lemmas.Bool.{cases_Bool, eqb-true, le-leb, leb-true}
use Rattle.net_base.specs.declared.numbers.DpId.{DpId}
use Rattle.net_base.specs.declared.numbers.Moment.{Moment}
use Rattle.fg_outside.specs.declared.hub.EndCause.{EndCause}
use Rattle.fg_outside.specs.declared.hub.Happening.{Happening}
use Rattle.fg_outside.specs.declared.hub.Happening.TheVariants as happenings
use Rattle.of_match.specs.FlowTables.{IsInKeyOrder}
use Rattle.conf_types.specs.declared.datapath.Dp.{Dp}
use Rattle.conf_types.specs.Configuration.{Configuration}
use Rattle.conf_types.specs.State.{State}
use Rattle.cold_start.specs.Cold.{cold}
use Rattle.of13_codec.specs.declared.message.Message.{Message}
use Rattle.of13_codec.specs.declared.message.Message.TheVariants as messages
use Rattle.switch_session.specs.declared.closing.Closing.TheVariants.{BadFrame}
use Rattle.switch_session.specs.declared.state.Stage.{Stage}
use Rattle.switch_session.specs.declared.state.Stage.TheVariants.{Greeting, Features, Ports, Wiping, Running, Shut}
use Rattle.switch_session.specs.Connections.{next_id}
use Rattle.switch_session.specs.Frames.{told_length}
use Rattle.ctl_world.specs.declared.conns.Conn.{Conn}
use Rattle.ctl_world.specs.declared.frames.Front.{Front}
use Rattle.ctl_world.specs.declared.frames.Front.TheVariants.{Part, Frame, Bad}
use Rattle.ctl_world.specs.declared.said.Said.{Said}
use Rattle.ctl_world.specs.declared.said.Said.TheVariants as told
use Rattle.ctl_world.specs.Connections.{conn_with, is_open, put, with_fed, with_said, without}
use Rattle.ctl_world.specs.Ends.{closing_text, ended}
use Rattle.ctl_world.specs.Frames.{behind_frame, front, is_frame, with_read}
use Rattle.ctl_world.specs.World.{World, first, has_ports}
use Rattle.ctl_core.specs.Settlings.{settle}
use Rattle.ctl_life.specs.Life.{closing_for, feed, has_frame, open_conn, read, says, unread}
use Rattle.ctl_life.specs.Silence.{show}
use Rattle.ctl_world.proofs.Numbered.{changed_other, changed_own, put_other, shut_none, unlike, without_other, without_own}
use Rattle.ctl_life.proofs.Openings.{fresh, fresh_is, front_open, open_is, with_fresh}
use Rattle.ctl_core.specs.Hearing.{hear_frame, hear_frames, hear_front, hear_next}
use Rattle.ctl_core.specs.Reloading.{accepted, reload}
use Rattle.ctl_core.specs.Story.{behind, said_by_turn}
use Rattle.ctl_core.specs.Turns.{hear, pass, turn, work}
use Rattle.ctl_core.proofs.Ordered.{AreOrdered}
use Rattle.ctl_core.proofs.Stands.{ended_stands, feed_stands, heard_stands, open_stands, pass_stands, read_stands, reload_stands}
use Rattle.ctl_core.proofs.Walk.{pass_kept, reload_kept}
use Rattle.ctl_core.proofs.Settlings.{settled_ordered as both_ordered}
use Rattle.law_lives.specs.Lives.{Life, Lives, Note, Turn, begun, behind_turn, behind_turns, came, closed, comes, fed as fed_life, none_lives, noted, noted_all, opened, opens, probes_said, shut, speaks, takes, went}
use Rattle.law_lives.specs.Sessions.{AreRightTurns, Has, IsHeardOn, IsOf, IsRightLife, IsSetUp, IsSpelled, Tells, said_of}
use Rattle.law_lives.proofs.BatchesSaid.{settle_kept}
use Rattle.law_lives.proofs.Follows.{message_kept, none_kept}
use Rattle.law_lives.proofs.Fronts.{IsWhole, front_part, front_whole}
use Rattle.law_lives.proofs.Meets.{ByStage}
use Rattle.law_lives.proofs.Runs.{Calm, Ended, Fit, Full, Lived, Of, Runs, about, about_other, about_own, fit_at, fit_changed, fit_of, full_of, of_full, spoken, still, to_full}
use Rattle.law_lives.proofs.Moments.{frames_show, looks_show, reload_shows, said_shows, settled_shows}
use Rattle.law_lives.proofs.Plain as plain
use Rattle.law_lives.proofs.Plain.{is_probe}
use Rattle.law_lives.proofs.Probes.{Asked, Early, Has as Probed, Sees, all_asked, counts, ended_has as probes_ended, keeps, now_early, probes_in, said_has as hello_probed, seen as seen_of, seen_at}
use Rattle.law_lives.proofs.Seen as seen
use Rattle.law_lives.proofs.Silent.{IsLoud, Within, all_looked, frames_loud, heard_at, now_within}
use Rattle.law_lives.proofs.Steps.{Kept, close_kept, said_lived, single, tells}
use Rattle.law_lives.proofs.Unread.{ended_has, frames_other, frames_part, passed_has, reloaded_has, said_has, settled_has}

-- a connection that opens, before its HELLO is said
record Fresh (l : Life) (c : Conn) : Type 0 where
  stands : l.state.stage ≡ Greeting
  none : l.dp ≡ None
  noted : c.dp ≡ None
  said : l.steps ≡ []
  free : l.barrier ≡ None
  echoes : l.answered ≡ l.asked

-- whatever the configuration
abbrev Any : Configuration → Type 0
Any conf = Unit {0}

module _ (order : (conf : Configuration) (state : State) (d : Dp) → IsInKeyOrder (cold conf state d)) where
  settled_ordered : (w : World) → AreOrdered w.conns → AreOrdered (settle w).conns
  settled_ordered w ordered = both_ordered order w ordered.0 ordered.1

  -- ---- the frames of a piece

  module _ (spells : (frame : List ℕ) → ((i : ℕ) → slice_index frame i < 256) → IsSpelled frame (says frame)) where
    module _ (what : Happening) (start : Lives) (number : ℕ) (here : IsHeardOn what number) where
      conn_at : (w : World) → is_open w.conns number ≡ true → (c : Conn) × (conn_with w.conns number ≡ Some c)
      conn_at w at = by (conn_with w.conns number) refl
        where
          by : (o : Option Conn) → conn_with w.conns number ≡ o → (c : Conn) × (conn_with w.conns number ≡ Some c)
          by None none = absurd (true≢false (sym at ∙ open_is w.conns number ∙ ap (λ (o : Option Conn). is_some o) none))
          by (Some c) some = (c, some)

      same_bytes : (w : World) (c : Conn) → conn_with w.conns number ≡ Some c → unread number w ≡ c.session.unread
      same_bytes w c some = ap (λ (o : Option Conn). option_map_or (λ (d : Conn). d.session.unread) o []) some

      frame_kept : (w : World) (frame : List ℕ) → front (unread number w) ≡ Frame frame → AreOrdered w.conns → Kept what start w → Kept what start (hear_frame (says frame) number (read number w))
      frame_kept w frame is ordered kept =
          let found = conn_at w (front_open number w (λ part. let bad : Frame frame ≡ Part = sym is ∙ part in absurd (cc))) in
          let c : Conn = found.0 in
          let whole = front_whole c.session.unread frame (ap front (sym (same_bytes w c found.1)) ∙ is) in
          by c found.1 whole (says frame) (spells frame)
        where
          by : (c : Conn) → conn_with w.conns number ≡ Some c → IsWhole c.session.unread frame → (said : Option (Message × ℕ)) → (((i : ℕ) → slice_index frame i < 256) → IsSpelled frame said)
              → Kept what start (hear_frame said number (read number w))
          by c some whole None spelled = none_kept what start number frame here w c some whole kept spelled
          by c some whole (Some said) spelled = message_kept what start number frame here w c some whole kept said.0 said.1 spelled ordered

      -- where no frame stands at the front, nothing is taken
      read_kept : (w : World) → is_frame (front (unread number w)) ≡ false → Kept what start w → Kept what start (read number w)
      read_kept w none kept =
          to_full what start number (read number w).conns w.said
          (still what start (Fit number Calm true) (Fit number Calm true) w.conns (read number w).conns w.said
          (λ lives fit. fit_changed number with_read (λ c. refl) Calm Calm true lives w.conns
          (λ c some it. record {
            open_ = it.open_;
            bytes = it.bytes ∙ ap (λ (u : List ℕ). concat (lives number).frames ++ u) (sym (all_left c some));
            frames = it.frames;
            last = it.last;
            state = it.state;
            holds = it.holds;
          })
          fit)
          (of_full what start number w.conns w.said kept))
        where
          all_left : (c : Conn) → conn_with w.conns number ≡ Some c → behind_frame c.session.unread ≡ c.session.unread
          all_left c some =
              ap (λ (b : Bool). if b then drop (told_length c.session.unread) c.session.unread else c.session.unread)
              (ap (λ (u : List ℕ). is_frame (front u)) (sym (same_bytes w c some)) ∙ none)

      front_kept : (w : World) (f : Front) → front (unread number w) ≡ f → AreOrdered w.conns → Kept what start w → Kept what start (hear_front f number (read number w))
      front_kept w Part is ordered kept = read_kept w (ap is_frame is) kept
      front_kept w (Frame frame) is ordered kept =
          settle_kept what start order (hear_frame (says frame) number (read number w))
          (heard_stands Any (says frame) number (read number w) (read_stands Any number w (tt, ordered))).1 (frame_kept w frame is ordered kept)
      front_kept w Bad is ordered kept =
          settle_kept what start order (hear_frame None number (read number w)) (heard_stands Any None number (read number w) (read_stands Any number w (tt, ordered))).1
          (close_kept what start BadFrame number (read number w) (read_kept w (ap is_frame is) kept))

      front_ordered : (w : World) (f : Front) → AreOrdered w.conns → AreOrdered (hear_front f number w).conns
      front_ordered w Part ordered = ordered
      front_ordered w (Frame frame) ordered = settled_ordered (hear_frame (says frame) number w) (heard_stands Any (says frame) number w (tt, ordered)).1
      front_ordered w Bad ordered = settled_ordered (hear_frame None number w) (heard_stands Any None number w (tt, ordered)).1

      frames_kept : (most : ℕ) (w : World) → AreOrdered w.conns → Kept what start w → Kept what start (hear_frames most number w) × AreOrdered (hear_frames most number w).conns
      frames_kept zero w ordered kept = (kept, ordered)
      frames_kept (suc most) w ordered kept =
          let next : Kept what start (hear_next number w) = front_kept w (front (unread number w)) refl ordered kept in
          let next_ordered : AreOrdered (hear_next number w).conns = front_ordered (read number w) (front (unread number w)) (read_stands Any number w (tt, ordered)).1 in
          elim (has_frame number w) as (λ b. let v : World = if b then hear_frames most number (hear_next number w) else hear_next number w in Kept what start v × AreOrdered v.conns) [
            | true ↦ frames_kept most (hear_next number w) next_ordered next
            | false ↦ (next, next_ordered)
          ]

    -- ---- one turn

    -- nothing of a frame is left unread
    abbrev AreParts : World → Type 0
    AreParts w = (n : ℕ) → front (unread n w) ≡ Part

    -- the clock of each life
    abbrev AreAt : Lives → World → Type 0
    AreAt lives w = (n : ℕ) → (lives n).moment ≡ w.moment.0

    abbrev AreLoud : World → Type 0
    AreLoud w = (n : ℕ) → IsLoud w.moment.0 n w

    -- of what the session has of the clock
    abbrev AreProbed : Lives → World → Type 0
    AreProbed lives w = (n : ℕ) → Sees (Asked w.moment n (lives n).probes) 0 (seen_at n w)

    record Goes (h : Happening) (lives : Lives) (v : World) : Type 0 where
      kept : Kept h (begun h lives) v
      ordered : AreOrdered v.conns
      parts : AreParts v
      clocks : AreAt (begun h lives) v
      loud : AreLoud v
      probed : (n : ℕ) → Probed n (Asked v.moment n (begun h lives n).probes) v

    module _ (lives : Lives) (w : World) (silent : w.said ≡ []) (ordered : AreOrdered w.conns) (parts : AreParts w) (clocks : AreAt lives w) (loud : AreLoud w) (probed : AreProbed lives w) (full : Full lives w.conns) where
      begin : (h : Happening) (R : Lives → List Conn → Type 0) (conns : List Conn) → R (begun h lives) conns → Runs h (begun h lives) R conns w.said
      begin h R conns now = record { notes = []; within = tt; told = sym silent; each = tt; now = now }

      -- the clock stands still
      goes_still : (h : Happening) (v : World) → Kept h (begun h lives) v → AreOrdered v.conns → AreParts v → v.moment ≡ w.moment → ((n : ℕ) → (begun h lives n).moment ≡ (lives n).moment)
          → ((n : ℕ) → IsLoud w.moment.0 n v) → ((n : ℕ) → Probed n (Asked w.moment n (begun h lives n).probes) v) → Goes h lives v
      goes_still h v kept in_order left shows same heard asked = record {
        kept = kept;
        ordered = in_order;
        parts = left;
        clocks = λ n. same n ∙ clocks n ∙ ap (λ (m : Moment). m.0) (sym shows);
        loud = λ n. subst (λ (m : Moment). IsLoud m.0 n v) (sym shows) (heard n);
        probed = λ n. subst (λ (m : Moment). Probed n (Asked m n (begun h lives n).probes) v) (sym shows) (asked n);
      }

      -- nothing was said yet
      probed_first : (n : ℕ) (P : Bool → ℕ → ℕ → Type 0) (o : Option (Bool × ℕ)) → Sees P 0 o → Sees P (probes_in n w.said) o
      probed_first n P o has = subst (λ (said : List Said). Sees P (probes_in n said) o) (sym silent) has

      -- a life that is as it was, or whose connection isn't there
      probed_same : (number : ℕ) (f : Life → Life) → ((f (lives number)).probes ≡ (lives number).probes) ⊎ (conn_with w.conns number ≡ None) → (n : ℕ)
          → Probed n (Asked w.moment n (about number f lives n).probes) w
      probed_same number f same n =
          elim (cases_Bool (n == number)) [
            | inl own ↦
                subst (λ (k : ℕ). Probed k (Asked w.moment k (about number f lives k).probes) w) (sym (eqb-true n number own))
                (subst (λ (l : Life). Probed number (Asked w.moment number l.probes) w) (sym (about_own number f lives)) (by same))
            | inr other ↦
                subst (λ (l : Life). Probed n (Asked w.moment n l.probes) w) (sym (about_other number f lives n (unlike n number other)))
                (probed_first n (Asked w.moment n (lives n).probes) (seen_at n w) (probed n))
          ]
        where
          by : ((f (lives number)).probes ≡ (lives number).probes) ⊎ (conn_with w.conns number ≡ None) → Probed number (Asked w.moment number (f (lives number)).probes) w
          by (inl kept) =
              subst (λ (k : ℕ). Probed number (Asked w.moment number k) w) (sym kept) (probed_first number (Asked w.moment number (lives number).probes) (seen_at number w) (probed number))
          by (inr none) =
              subst (λ (o : Option Conn). Sees (Asked w.moment number (f (lives number)).probes) (probes_in number w.said) (option_map_or seen_of o None)) (sym none) tt

      clock_at : (number : ℕ) (f : Life → Life) → ((l : Life) → (f l).moment ≡ l.moment) → (n : ℕ) → (about number f lives n).moment ≡ (lives n).moment
      clock_at number f same n =
          elim (number == n) as (λ b. (if b then f (lives n) else lives n).moment ≡ (lives n).moment) [ true ↦ same (lives n) | false ↦ refl ]

      -- a life of what isn't open
      gone_at : (number : ℕ) → is_open w.conns number ≡ false → Ended (lives number)
      gone_at number shut_ = subst (Of Calm (lives number)) (shut_none number w.conns shut_) (full.each number)

      ended_kept : (number : ℕ) (f : Life → Life) → Ended (f (lives number)) → conn_with w.conns number ≡ None → Full (about number f lives) w.conns
      ended_kept number f gone none =
          full_of number (about number f lives) w.conns
          (fit_at number f Calm Calm true true lives w.conns w.conns (λ n differs. refl) (subst (Of Calm (f (lives number))) (sym none) gone)
          (λ yes k dp differs own other. absurd (true≢false (sym own.0 ∙ gone.gone))) (fit_of number lives w.conns full))

      -- ---- one opens

      opens_clock : (l : Life) → (opens l).moment ≡ l.moment
      opens_clock l = elim l.is_open as (λ b. (if b then l else opened l.moment).moment ≡ l.moment) [ true ↦ refl | false ↦ refl ]

      opened_goes : (number : ℕ) → (b : Bool) → is_open w.conns number ≡ b → Goes (happenings.Opened number) lives (if b then w else settle (open_conn number w))
      opened_goes number true is =
          goes_still (happenings.Opened number) w (begin (happenings.Opened number) Full w.conns still_open) ordered parts refl (clock_at number opens opens_clock) loud
          (probed_same number opens (inl (ap (λ (l : Life). l.probes) kept)))
        where
          is_there : (o : Option Conn) → conn_with w.conns number ≡ o → Of Calm (lives number) o → (lives number).is_open ≡ true
          is_there None none own = absurd (true≢false (sym is ∙ open_is w.conns number ∙ ap (λ (o : Option Conn). is_some o) none))
          is_there (Some c) some own = own.open_

          kept : opens (lives number) ≡ lives number
          kept = ap (λ (b : Bool). if b then lives number else opened (lives number).moment) (is_there (conn_with w.conns number) refl (full.each number))

          still_open : Full (about number opens lives) w.conns
          still_open =
              full_of number (about number opens lives) w.conns
              (fit_at number opens Calm Calm true true lives w.conns w.conns (λ n differs. refl) (subst (λ (l : Life). Of Calm l (conn_with w.conns number)) (sym kept) (full.each number))
              (λ yes k dp differs own other. (fit_of number lives w.conns full).alone refl k dp differs (subst (λ (l : Life). Has l dp) kept own) other)
              (fit_of number lives w.conns full))
      opened_goes number false is =
          goes_still h (settle (open_conn number w)) (settle_kept h start order (open_conn number w) opened_ordered said) (settled_ordered (open_conn number w) opened_ordered)
          (λ n. settled_has n (λ bytes. front bytes ≡ Part) refl (open_conn number w) (said_has n (λ bytes. front bytes ≡ Part) refl number hello put_in (put_part n)))
          (settled_shows w.moment (open_conn number w) (said_shows w.moment number hello put_in refl)) (clock_at number opens opens_clock)
          (λ n. seen.settled_has heard_at w.moment.0 n (Within w.moment.0) (now_within w.moment.0) (open_conn number w)
          (seen.said_has heard_at w.moment.0 n (Within w.moment.0) (now_within w.moment.0) number hello put_in (put_loud n)))
          (λ n. plain.settled_shows (Probed n (Asked w.moment n (start n).probes)) (keeps n (Asked w.moment n (start n).probes)) (open_conn number w)
          (hello_probed n (Asked w.moment n (start n).probes) number hello refl put_in (put_probed n)))
        where
          h : Happening
          h = happenings.Opened number

          start : Lives
          start = begun h lives

          c : Conn
          c = fresh number w

          put_in : World
          put_in = with_fresh number w

          opened_ordered : AreOrdered (open_conn number w).conns
          opened_ordered = (open_stands Any number w is (tt, ordered)).1

          anew : opens (lives number) ≡ opened (lives number).moment
          anew = ap (λ (b : Bool). if b then lives number else opened (lives number).moment) (gone_at number is).gone

          fit : Fit number Fresh true start (put c w.conns)
          fit =
              fit_at number opens Calm Fresh true true lives w.conns (put c w.conns) (λ n differs. put_other c n differs w.conns)
              (subst (λ (l : Life). Of Fresh l (conn_with (put c w.conns) number)) (sym anew)
              (subst (Of Fresh (opened (lives number).moment)) (sym (fresh_is number w is))
              (record {
                open_ = refl;
                bytes = refl;
                frames = tt;
                last = clocks number;
                state = refl;
                holds = record { stands = refl; none = refl; noted = refl; said = refl; free = refl; echoes = refl };
              })))
              (λ yes k dp differs own other.
              let both = (subst (λ (l : Life). Has l dp) anew own).1 in
              let bad : ◌≡◌ {A = Option DpId} None (Some dp) = both in
              absurd (cc))
              (fit_of number lives w.conns full)

          hello : Message
          hello = messages.Hello 4 (Some 16)

          said : Kept h start (open_conn number w)
          said =
              to_full h start number (open_conn number w).conns (open_conn number w).said
              (spoken h start number hello with_said (λ d. refl) Fresh Calm true true put_in
              (λ ls d it_is it fit.
              let l : Life = ls number in (
                tt,
                said_lived Fresh Calm hello (next_id d.session.last_xid) l d refl
                    (λ x. (
                      x.none ∙ sym x.noted,
                      subst (λ (s : Stage). ByStage s l.dp (l.steps ++ hello ∷ []) l.barrier l.state.awaited) (sym x.stands) (x.none, ap (λ (said : List Message). said ++ hello ∷ []) x.said, x.free),
                      x.echoes,
                    ))
                    it,
                fit.alone,
              ))
              (begin h (Fit number Fresh true) (put c w.conns) fit))

          put_at : (n : ℕ) → (P : Option Conn → Type 0) → P (Some c) → P (conn_with w.conns n) → P (conn_with (put c w.conns) n)
          put_at n P own other =
              elim (cases_Bool (n == number)) [
                | inl same ↦ subst P (sym (ap (conn_with (put c w.conns)) (eqb-true n number same) ∙ fresh_is number w is)) own
                | inr off ↦ subst P (sym (put_other c n (unlike n number off) w.conns)) other
              ]

          put_part : (n : ℕ) → front (unread n put_in) ≡ Part
          put_part n = put_at n (λ o. front (option_map_or (λ (d : Conn). d.session.unread) o []) ≡ Part) refl (parts n)

          put_probed : (n : ℕ) → Probed n (Asked w.moment n (start n).probes) put_in
          put_probed n =
              elim (cases_Bool (n == number)) [
                | inl same ↦
                    subst (λ (k : ℕ). Probed k (Asked w.moment k (start k).probes) put_in) (sym (eqb-true n number same))
                    (subst (λ (l : Life). Probed number (Asked w.moment number l.probes) put_in) (sym (about_own number opens lives ∙ anew))
                    (probed_first number (Asked w.moment number 0) (seen_at number put_in)
                    (subst (λ (o : Option Conn). Sees (Asked w.moment number 0) 0 (option_map_or seen_of o None)) (sym (fresh_is number w is)) (refl, now_early w.moment.0))))
                | inr other ↦
                    subst (λ (l : Life). Probed n (Asked w.moment n l.probes) put_in) (sym (about_other number opens lives n (unlike n number other)))
                    (probed_first n (Asked w.moment n (lives n).probes) (seen_at n put_in)
                    (subst (λ (o : Option Conn). Sees (Asked w.moment n (lives n).probes) 0 (option_map_or seen_of o None)) (sym (put_other c n (unlike n number other) w.conns)) (probed n)))
              ]

          put_loud : (n : ℕ) → IsLoud w.moment.0 n put_in
          put_loud n = put_at n (λ o. w.moment.0 < option_map_or (λ (d : Conn). d.session.heard.0) o w.moment.0 + 60000) (now_within w.moment.0) (loud n)

      -- ---- bytes come

      fed_clock : (piece : List ℕ) (l : Life) → (fed_life piece l).moment ≡ l.moment
      fed_clock [] l = refl
      fed_clock (x ∷ piece) l = refl

      comes_clock : (piece : List ℕ) (l : Life) → (comes piece l).moment ≡ l.moment
      comes_clock piece l = elim l.is_open as (λ b. (if b then fed_life piece l else l).moment ≡ l.moment) [ true ↦ fed_clock piece l | false ↦ refl ]

      fed_dp : (piece : List ℕ) (l : Life) (dp : DpId) → Has (fed_life piece l) dp → Has l dp
      fed_dp [] l dp has = has
      fed_dp (x ∷ piece) l dp has = has

      comes_dp : (piece : List ℕ) (l : Life) (dp : DpId) → Has (comes piece l) dp → Has l dp
      comes_dp piece l dp = elim l.is_open as (λ b. Has (if b then fed_life piece l else l) dp → Has l dp) [ true ↦ fed_dp piece l dp | false ↦ λ has. has ]

      fed_lived : (piece : List ℕ) (l : Life) (c : Conn) → l.moment ≡ w.moment.0 → Lived Calm l c → Lived Calm (fed_life piece l) (with_fed piece w.moment c)
      fed_lived [] l c clock it = it
      fed_lived (x ∷ piece) l c clock it = record {
        open_ = it.open_;
        bytes = ap (λ (u : List ℕ). u ++ x ∷ piece) it.bytes ∙ append_assoc (concat l.frames) c.session.unread (x ∷ piece);
        frames = it.frames;
        last = clock;
        state = it.state;
        holds = it.holds;
      }

      comes_shut : (piece : List ℕ) (l : Life) → l.is_open ≡ false → comes piece l ≡ l
      comes_shut piece l shut_ = ap (λ (b : Bool). if b then fed_life piece l else l) shut_

      comes_own : (piece : List ℕ) (l : Life) → l.moment ≡ w.moment.0 → (o : Option Conn) → Of Calm l o → Of Calm (comes piece l) (option_map (with_fed piece w.moment) o)
      comes_own piece l clock None gone = subst Ended (sym (comes_shut piece l gone.gone)) gone
      comes_own piece l clock (Some c) it =
          subst (λ (x : Life). Lived Calm x (with_fed piece w.moment c)) (sym (ap (λ (b : Bool). if b then fed_life piece l else l) it.open_)) (fed_lived piece l c clock it)

      fed_loud : (piece : List ℕ) (number n : ℕ) → IsLoud w.moment.0 n (feed number piece w)
      fed_loud piece number n =
          elim (cases_Bool (n == number)) [
            | inl same ↦
                subst (λ (k : ℕ). IsLoud w.moment.0 k (feed number piece w)) (sym (eqb-true n number same))
                (subst (λ (o : Option Conn). w.moment.0 < option_map_or (λ (d : Conn). d.session.heard.0) o w.moment.0 + 60000)
                (sym (changed_own (with_fed piece w.moment) (λ c. refl) number w.conns)) (by piece (conn_with w.conns number) (loud number)))
            | inr other ↦
                subst (λ (o : Option Conn). w.moment.0 < option_map_or (λ (d : Conn). d.session.heard.0) o w.moment.0 + 60000)
                (sym (changed_other (with_fed piece w.moment) (λ c. refl) number n (unlike n number other) w.conns)) (loud n)
          ]
        where
          by : (p : List ℕ) (o : Option Conn) → w.moment.0 < option_map_or (λ (d : Conn). d.session.heard.0) o w.moment.0 + 60000
              → w.moment.0 < option_map_or (λ (d : Conn). d.session.heard.0) (option_map (with_fed p w.moment) o) w.moment.0 + 60000
          by p None within = within
          by [] (Some c) within = within
          by (x ∷ p) (Some c) within = now_within w.moment.0

      heard_goes : (number : ℕ) (piece : List ℕ) → (b : Bool) → is_open w.conns number ≡ b → Goes (happenings.Heard number piece) lives (if b then hear number piece w else w)
      heard_goes number piece false is =
          goes_still (happenings.Heard number piece) w
          (begin (happenings.Heard number piece) Full w.conns
          (ended_kept number (comes piece) (subst Ended (sym (comes_shut piece (lives number) (gone_at number is).gone)) (gone_at number is)) (shut_none number w.conns is)))
          ordered parts refl (clock_at number (comes piece) (comes_clock piece)) loud (probed_same number (comes piece) (inr (shut_none number w.conns is)))
      heard_goes number piece true is =
          let done = frames_kept h start number refl most fed fed_ordered fed_kept in
          goes_still h (hear number piece w) done.0 done.1 all_parts (frames_show w.moment number most fed refl) (clock_at number (comes piece) (comes_clock piece))
          (λ n. frames_loud w.moment.0 most number n fed (fed_loud piece number n))
          (λ n. plain.frames_show (Probed n (Asked w.moment n (start n).probes)) (keeps n (Asked w.moment n (start n).probes)) most number fed (fed_probed n))
        where
          h : Happening
          h = happenings.Heard number piece

          start : Lives
          start = begun h lives

          fed : World
          fed = feed number piece w

          most : ℕ
          most = length (unread number fed)

          own_probed : (p : List ℕ) (l : Life) (o : Option Conn) → Sees (Asked w.moment number l.probes) 0 (option_map_or seen_of o None)
              → Sees (Asked w.moment number (fed_life p l).probes) 0 (option_map_or seen_of (option_map (with_fed p w.moment) o) None)
          own_probed p l None asked = tt
          own_probed [] l (Some d) asked = asked
          own_probed (x ∷ p) l (Some d) asked = (refl, now_early w.moment.0)

          comes_probed : (l : Life) (o : Option Conn) → Of Calm l o → Sees (Asked w.moment number l.probes) 0 (option_map_or seen_of o None)
              → Sees (Asked w.moment number (comes piece l).probes) 0 (option_map_or seen_of (option_map (with_fed piece w.moment) o) None)
          comes_probed l None own asked = tt
          comes_probed l (Some d) own asked =
              subst (λ (b : Bool). Sees (Asked w.moment number (if b then fed_life piece l else l).probes) 0 (option_map_or seen_of (option_map (with_fed piece w.moment) (Some d)) None)) (sym own.open_)
              (own_probed piece l (Some d) asked)

          fed_probed : (n : ℕ) → Probed n (Asked w.moment n (start n).probes) fed
          fed_probed n =
              elim (cases_Bool (n == number)) [
                | inl same ↦
                    subst (λ (k : ℕ). Probed k (Asked w.moment k (start k).probes) fed) (sym (eqb-true n number same))
                    (subst (λ (l : Life). Probed number (Asked w.moment number l.probes) fed) (sym (about_own number (comes piece) lives))
                    (probed_first number (Asked w.moment number (comes piece (lives number)).probes) (seen_at number fed)
                    (subst (λ (o : Option Conn). Sees (Asked w.moment number (comes piece (lives number)).probes) 0 (option_map_or seen_of o None))
                    (sym (changed_own (with_fed piece w.moment) (λ c. refl) number w.conns)) (comes_probed (lives number) (conn_with w.conns number) (full.each number) (probed number)))))
                | inr other ↦
                    subst (λ (l : Life). Probed n (Asked w.moment n l.probes) fed) (sym (about_other number (comes piece) lives n (unlike n number other)))
                    (probed_first n (Asked w.moment n (lives n).probes) (seen_at n fed)
                    (subst (λ (o : Option Conn). Sees (Asked w.moment n (lives n).probes) 0 (option_map_or seen_of o None))
                    (sym (changed_other (with_fed piece w.moment) (λ c. refl) number n (unlike n number other) w.conns)) (probed n)))
              ]

          fed_ordered : AreOrdered fed.conns
          fed_ordered = (feed_stands Any number piece w (tt, ordered)).1

          fed_kept : Kept h start fed
          fed_kept =
              begin h Full fed.conns
              (full_of number (about number (comes piece) lives) fed.conns
              (fit_at number (comes piece) Calm Calm true true lives w.conns fed.conns (λ n differs. changed_other (with_fed piece w.moment) (λ c. refl) number n differs w.conns)
              (subst (Of Calm (comes piece (lives number))) (sym (changed_own (with_fed piece w.moment) (λ c. refl) number w.conns))
              (comes_own piece (lives number) (clocks number) (conn_with w.conns number) (full.each number)))
              (λ yes k dp differs own other. (fit_of number lives w.conns full).alone refl k dp differs (comes_dp piece (lives number) dp own) other) (fit_of number lives w.conns full)))

          other_part : (n : ℕ) → (n ≡ number → ⊥) → front (unread n fed) ≡ Part
          other_part n differs =
              ap (λ (o : Option Conn). front (option_map_or (λ (d : Conn). d.session.unread) o [])) (changed_other (with_fed piece w.moment) (λ c. refl) number n differs w.conns) ∙ parts n

          all_parts : AreParts (hear number piece w)
          all_parts n =
              elim (cases_Bool (n == number)) [
                | inl same ↦ subst (λ (k : ℕ). front (unread k (hear number piece w)) ≡ Part) (sym (eqb-true n number same)) (frames_part most number fed (omega arith))
                | inr other ↦ frames_other most number n (unlike n number other) fed (other_part n (unlike n number other))
              ]

      -- ---- one ends

      closed_goes : (number : ℕ) (cause : EndCause) → (b : Bool) → is_open w.conns number ≡ b
          → Goes (happenings.Closed number cause) lives (if b then settle (ended (closing_for cause) number w) else w)
      closed_goes number cause false is =
          let gone : Ended (lives number) = gone_at number is in
          goes_still (happenings.Closed number cause) w
          (begin (happenings.Closed number cause) Full w.conns
          (ended_kept number shut (record { gone = refl; rest = gone.rest; bytes = gone.bytes; frames = gone.frames; echoes = gone.echoes }) (shut_none number w.conns is)))
          ordered parts refl (clock_at number shut (λ l. refl)) loud (probed_same number shut (inl refl))
      closed_goes number cause true is =
          goes_still h (settle v)
          (settle_kept h start order v v_ordered
          (tells h start (codes "conn " ++ decimal number ++ codes ": " ++ closing_text (closing_for cause)) (without number w.conns) w.said (begin h Full (without number w.conns) left)))
          (settled_ordered v v_ordered)
          (λ n. settled_has n (λ bytes. front bytes ≡ Part) refl v (ended_has n (λ bytes. front bytes ≡ Part) refl (closing_for cause) number w (parts n)))
          (settled_shows w.moment v refl) (clock_at number shut (λ l. refl))
          (λ n. seen.settled_has heard_at w.moment.0 n (Within w.moment.0) (now_within w.moment.0) v
          (seen.ended_has heard_at w.moment.0 n (Within w.moment.0) (now_within w.moment.0) (closing_for cause) number w (loud n)))
          (λ n. plain.settled_shows (Probed n (Asked w.moment n (start n).probes)) (keeps n (Asked w.moment n (start n).probes)) v
          (probes_ended n (Asked w.moment n (start n).probes) (closing_for cause) number w (probed_same number shut (inl refl) n)))
        where
          h : Happening
          h = happenings.Closed number cause

          start : Lives
          start = begun h lives

          v : World
          v = ended (closing_for cause) number w

          v_ordered : AreOrdered v.conns
          v_ordered = (ended_stands Any (closing_for cause) number w (tt, ordered)).1

          gone_own : (o : Option Conn) → Of Calm (lives number) o → Ended (shut (lives number))
          gone_own None own = record { gone = refl; rest = own.rest; bytes = own.bytes; frames = own.frames; echoes = own.echoes }
          gone_own (Some c) own = record { gone = refl; rest = c.session.unread; bytes = own.bytes; frames = own.frames; echoes = own.holds.2 }

          left : Full (about number shut lives) (without number w.conns)
          left =
              full_of number (about number shut lives) (without number w.conns)
              (fit_at number shut Calm Calm true true lives w.conns (without number w.conns) (λ n differs. without_other number n differs w.conns)
              (subst (Of Calm (shut (lives number))) (sym (without_own number w.conns)) (gone_own (conn_with w.conns number) (full.each number)))
              (λ yes k dp differs own other. absurd (true≢false (sym own.0))) (fit_of number lives w.conns full))

      -- ---- the clock, and a reload

      passed_goes : (moment : ℕ) → Goes (happenings.Moment moment) lives (settle (pass moment w))
      passed_goes moment = record {
        kept = settle_kept h (begun h lives) order v stands (pass_kept (Kept h (begun h lives)) (single h (begun h lives)) moment w (begin h Full w.conns moved));
        ordered = settled_ordered v stands;
        parts = λ n. settled_has n (λ bytes. front bytes ≡ Part) refl v (passed_has n (λ bytes. front bytes ≡ Part) refl moment w (parts n));
        clocks = λ n. ap (λ (m : ℕ). max m moment) (clocks n) ∙ ap (λ (m : Moment). m.0) (sym shows);
        loud = λ n. subst (λ (m : Moment). IsLoud m.0 n (settle v)) (sym shows)
            (seen.settled_has heard_at t.0 n (Within t.0) (now_within t.0) v (all_looked t n (show moment w) refl));
        probed = λ n. subst (λ (m : Moment). Probed n (Asked m n (lives n).probes) (settle v)) (sym shows)
            (plain.settled_shows (Probed n (Asked t n (lives n).probes)) (keeps n (Asked t n (lives n).probes)) v
            (all_asked t n (lives n).probes (show moment w) refl (later w.moment.0 moment n (lives n).probes (probes_in n w.said) (seen_at n w) (probed_first n (Asked w.moment n (lives n).probes) (seen_at n w) (probed n)))));
      }
        where
          h : Happening
          h = happenings.Moment moment

          v : World
          v = pass moment w

          t : Moment
          t = (show moment w).moment

          later : (m : ℕ) (shown n before said : ℕ) (o : Option (Bool × ℕ)) → Sees (Asked (record { 0 = m }) n before) said o → Sees (Early (record { 0 = max m shown }) n before) said o
          later m shown n before said None asked = tt
          later m shown n before said (Some x) asked = (
            asked.0,
            λ yes.
                let past : 20000 ≤ m - x.1 = leb-true 20000 (m - x.1) (sym asked.1 ∙ yes) in
                let now : 20000 ≤ max m shown - x.1 = omega (arith, past) in
                le-leb 20000 (max m shown - x.1) now,
          )

          stands : AreOrdered v.conns
          stands = (pass_stands Any moment w (tt, ordered)).1

          shows : (settle v).moment ≡ t
          shows = settled_shows t v (looks_show t (map (λ (c : Conn). c.number) w.conns) (show moment w) refl)

          at_moment : (l : Life) (m : ℕ) (o : Option Conn) → Of Calm l o → Of Calm (record l { moment = m }) o
          at_moment l m None own = record { gone = own.gone; rest = own.rest; bytes = own.bytes; frames = own.frames; echoes = own.echoes }
          at_moment l m (Some c) own = record { open_ = own.open_; bytes = own.bytes; frames = own.frames; last = own.last; state = own.state; holds = own.holds }

          moved : Full (begun h lives) w.conns
          moved = record { each = λ n. at_moment (lives n) (max (lives n).moment moment) (conn_with w.conns n) (full.each n); apart = full.apart }

      reloaded_goes : (text : List ℕ) → Goes (happenings.Reload text) lives (settle (reload (accepted text) w))
      reloaded_goes text =
          let h : Happening = happenings.Reload text in
          let v : World = reload (accepted text) w in
          let stands : AreOrdered v.conns = (reload_stands Any (accepted text) (λ next is. tt) w (tt, ordered)).1 in
          goes_still h (settle v)
          (settle_kept h (begun h lives) order v stands
          (reload_kept (Kept h (begun h lives)) (single h (begun h lives)) (accepted text) (λ next u is kept. kept) w (begin h Full w.conns full)))
          (settled_ordered v stands)
          (λ n. settled_has n (λ bytes. front bytes ≡ Part) refl v (reloaded_has n (λ bytes. front bytes ≡ Part) refl text w (parts n)))
          (settled_shows w.moment v (reload_shows w.moment (accepted text) w refl)) (λ n. refl)
          (λ n. seen.settled_has heard_at w.moment.0 n (Within w.moment.0) (now_within w.moment.0) v
          (seen.reloaded_has heard_at w.moment.0 n (Within w.moment.0) (now_within w.moment.0) text w (loud n)))
          (λ n. plain.settled_shows (Probed n (Asked w.moment n (lives n).probes)) (keeps n (Asked w.moment n (lives n).probes)) v
          (plain.reload_shows (Probed n (Asked w.moment n (lives n).probes)) (keeps n (Asked w.moment n (lives n).probes)) (accepted text) w
          (probed_first n (Asked w.moment n (lives n).probes) (seen_at n w) (probed n))))

      work_goes : (h : Happening) → Goes h lives (work h w)
      work_goes (happenings.Opened number) = opened_goes number (is_open w.conns number) refl
      work_goes (happenings.Heard number piece) = heard_goes number piece (is_open w.conns number) refl
      work_goes (happenings.Closed number cause) = closed_goes number cause (is_open w.conns number) refl
      work_goes (happenings.Moment moment) = passed_goes moment
      work_goes (happenings.Reload text) = reloaded_goes text

    -- ---- behind a turn

    set_up : (stage : Stage) (dp : Option DpId) (steps : List Message) (b a : Option ℕ) → ByStage stage dp steps b a → IsSetUp stage steps
    set_up Greeting dp steps b a is = is.1
    set_up Features dp steps b a is = is.1
    set_up Ports dp steps b a is = is.0
    set_up Wiping dp steps b a is = is.0
    set_up Running dp steps b a is = is.0
    set_up Shut dp steps b a is = is

    awaits : (stage : Stage) (dp : Option DpId) (steps : List Message) (b a : Option ℕ) → ByStage stage dp steps b a → has_ports stage ≡ true → b ≡ a
    awaits Greeting dp steps b a is ports = absurd (true≢false (sym ports))
    awaits Features dp steps b a is ports = absurd (true≢false (sym ports))
    awaits Ports dp steps b a is ports = absurd (true≢false (sym ports))
    awaits Wiping dp steps b a is ports = is.1
    awaits Running dp steps b a is ports = is.1
    awaits Shut dp steps b a is ports = absurd is

    counted : (b : Bool) → counts b ≡ (if b then 1 else 0)
    counted true = refl
    counted false = refl

    right_life : (l : Life) (moment : ℕ) (o : Option Conn) → front (option_map_or (λ (c : Conn). c.session.unread) o []) ≡ Part → l.moment ≡ moment
        → moment < option_map_or (λ (c : Conn). c.session.heard.0) o moment + 60000 → (n : ℕ) → Sees (Asked (record { 0 = moment }) n l.probes) 0 (option_map_or seen_of o None) → Of Calm l o
        → IsRightLife l
    right_life l moment None part clock loud n probed own =
        let shut_ : l.is_open ≡ true → ⊥ = λ open_. true≢false (sym open_ ∙ own.gone) in
        record {
          rest = own.rest;
          bytes = own.bytes;
          frames = own.frames;
          left = λ open_. absurd (shut_ open_);
          heard = λ open_. absurd (shut_ open_);
          probed = λ open_. absurd (shut_ open_);
          echoes = own.echoes;
          setup = λ open_. absurd (shut_ open_);
          barrier = λ open_. absurd (shut_ open_);
        }
    right_life l moment (Some c) part clock loud n probed own = record {
      rest = c.session.unread;
      bytes = own.bytes;
      frames = own.frames;
      left = λ open_. front_part c.session.unread part;
      heard = λ open_. omega (arith, clock, loud, own.last);
      probed = λ open_.
          let one : l.probes ≡ counts c.session.echoed = omega (arith, probed.0) in
          one ∙ ap counts probed.1 ∙ counted (nat_le 20000 (moment - c.session.heard.0))
          ∙ ap (λ (m : ℕ). if nat_le 20000 (m - c.session.heard.0) then 1 else 0) (sym clock) ∙ ap (λ (x : ℕ). if nat_le 20000 (l.moment - x) then 1 else 0) (sym own.last);
      echoes = own.holds.2;
      setup = λ open_. set_up l.state.stage l.dp l.steps l.barrier l.state.awaited own.holds.1;
      barrier = λ open_ ports. awaits l.state.stage l.dp l.steps l.barrier l.state.awaited own.holds.1 ports;
    }

    -- notes leave the clock
    one_clock : (x : Note) (lives : Lives) (n : ℕ) → (noted x lives n).moment ≡ (lives n).moment
    one_clock (came k frame None) lives n = elim (k == n) as (λ b. (if b then takes frame None (lives n) else lives n).moment ≡ (lives n).moment) [ true ↦ refl | false ↦ refl ]
    one_clock (came k frame (Some said)) lives n = elim (k == n) as (λ b. (if b then takes frame (Some said) (lives n) else lives n).moment ≡ (lives n).moment) [ true ↦ refl | false ↦ refl ]
    one_clock (went (told.Message k m xid)) lives n = elim (k == n) as (λ b. (if b then speaks m xid (lives n) else lives n).moment ≡ (lives n).moment) [ true ↦ refl | false ↦ refl ]
    one_clock (went (told.Closing k cause)) lives n = elim (k == n) as (λ b. (if b then shut (lives n) else lives n).moment ≡ (lives n).moment) [ true ↦ refl | false ↦ refl ]
    one_clock (went (told.Line text)) lives n = refl

    -- and add the ECHO_REQUESTs that are in them
    said_probes : (m : Message) (probes : ℕ) → probes_said m probes ≡ probes + counts (is_probe m)
    said_probes (messages.EchoRequest payload) probes = refl
    said_probes m probes = omega arith

    one_probes : (x : Note) (lives : Lives) (n : ℕ) → (noted x lives n).probes ≡ (lives n).probes + probes_in n (said_of (x ∷ []))
    one_probes (came k frame None) lives n =
        elim (k == n) as (λ b. (if b then takes frame None (lives n) else lives n).probes ≡ (lives n).probes + 0) [ true ↦ omega arith | false ↦ omega arith ]
    one_probes (came k frame (Some said)) lives n =
        elim (k == n) as (λ b. (if b then takes frame (Some said) (lives n) else lives n).probes ≡ (lives n).probes + 0) [ true ↦ omega arith | false ↦ omega arith ]
    one_probes (went (told.Message k m xid)) lives n =
        elim (k == n) as (λ b. (if b then speaks m xid (lives n) else lives n).probes ≡ (lives n).probes + ((if b then counts (is_probe m) else 0) + 0)) [
          | true ↦ let one = said_probes m (lives n).probes in omega (arith, one)
          | false ↦ omega arith
        ]
    one_probes (went (told.Closing k cause)) lives n =
        elim (k == n) as (λ b. (if b then shut (lives n) else lives n).probes ≡ (lives n).probes + 0) [ true ↦ omega arith | false ↦ omega arith ]
    one_probes (went (told.Line text)) lives n = omega arith

    split_probes : (n : ℕ) (x : Note) (xs : List Note) → probes_in n (said_of (x ∷ xs)) ≡ probes_in n (said_of (x ∷ [])) + probes_in n (said_of xs)
    split_probes n (came k frame said) xs = omega arith
    split_probes n (went said) xs = omega arith

    notes_probes : (xs : List Note) (lives : Lives) (n : ℕ) → (noted_all xs lives n).probes ≡ (lives n).probes + probes_in n (said_of xs)
    notes_probes [] lives n = omega arith
    notes_probes (x ∷ xs) lives n =
        let rest = notes_probes xs (noted x lives) n in let one = one_probes x lives n in let both = split_probes n x xs in omega (arith, rest, one, both)

    -- so many were said behind a turn
    probes_behind : (m : Moment) (n before said all : ℕ) (o : Option (Bool × ℕ)) → all ≡ before + said → Sees (Asked m n before) said o → Sees (Asked m n all) 0 o
    probes_behind m n before said all None same asked = tt
    probes_behind m n before said all (Some x) same asked = (let count = asked.0 in omega (arith, count, same), asked.1)

    notes_clock : (xs : List Note) (lives : Lives) (n : ℕ) → (noted_all xs lives n).moment ≡ (lives n).moment
    notes_clock [] lives n = refl
    notes_clock (x ∷ xs) lives n = notes_clock xs (noted x lives) n ∙ one_clock x lives n

    -- ---- a story

    record Log (lives : Lives) (w : World) (story : List Happening) : Type 0 where
      log : List Turn
      happened : map (λ (t : Turn). t.what) log ≡ story
      said : map (λ (t : Turn). said_of t.notes) log ≡ said_by_turn w story
      right : AreRightTurns log lives
      full : Full (behind_turns log lives) (behind w story).conns

    story_log : (lives : Lives) (w : World) (story : List Happening) → AreOrdered w.conns → AreParts w → AreAt lives w → AreLoud w → AreProbed lives w → Full lives w.conns → Log lives w story
    story_log lives w [] ordered parts clocks loud probed full = record { log = []; happened = refl; said = refl; right = tt; full = full }
    story_log lives w (h ∷ hs) ordered parts clocks loud probed full =
        let goes = work_goes lives (record w { said = [] }) refl ordered parts clocks loud probed full h in
        let v : World = turn h w in
        let t : Turn = record { what = h; notes = goes.kept.notes } in
        let here : Full (behind_turn t lives) v.conns = goes.kept.now in
        let clock : AreAt (behind_turn t lives) v = λ n. notes_clock t.notes (begun h lives) n ∙ goes.clocks n in
        let asked : AreProbed (behind_turn t lives) v = λ n.
        probes_behind v.moment n (begun h lives n).probes (probes_in n v.said) (behind_turn t lives n).probes (seen_at n v)
        (notes_probes t.notes (begun h lives) n ∙ ap (λ (s : List Said). (begun h lives n).probes + probes_in n s) goes.kept.told) (goes.probed n)
        in
        let rest = story_log (behind_turn t lives) v hs goes.ordered goes.parts clock goes.loud asked here in
        record {
          log = t ∷ rest.log;
          happened = ap (λ (s : List Happening). h ∷ s) rest.happened;
          said = ap (λ (s : List Said). s ∷ map (λ (x : Turn). said_of x.notes) rest.log) goes.kept.told ∙ ap (λ (s : List (List Said)). v.said ∷ s) rest.said;
          right = (
            record {
              heard = goes.kept.within;
              each = goes.kept.each;
              apart = here.apart;
              each_life = λ n. right_life (behind_turn t lives n) v.moment.0 (conn_with v.conns n) (goes.parts n) (clock n) (goes.loud n) n (asked n) (here.each n);
            },
            rest.right,
          );
          full = rest.full;
        }

    is_of : (l : Life) (o : Option Conn) → Of Calm l o → IsOf l o
    is_of l None own = own.gone
    is_of l (Some c) own = (own.open_, sym own.state, sym own.holds.0)

    first_full : (conf : Configuration) → Full (λ n. closed) (first conf).conns
    first_full conf = record {
      each = λ n. record { gone = refl; rest = []; bytes = refl; frames = tt; echoes = refl };
      apart = λ x y dp hx hy. absurd (true≢false (sym hx.0));
    }

    pub story_lives : (conf : Configuration) (story : List Happening) → (log : List Turn) × Tells conf story log × AreRightTurns log none_lives
        × ((number : ℕ) → IsOf (behind_turns log none_lives number) (conn_with (behind (first conf) story).conns number))
    story_lives conf story =
        let it = story_log none_lives (first conf) story (tt, tt) (λ n. refl) (λ n. refl) (λ n. now_within 0) (λ n. tt) (first_full conf) in (
          it.log,
          record { happened = it.happened; said = it.said },
          it.right,
          λ number. is_of (behind_turns it.log none_lives number) (conn_with (behind (first conf) story).conns number) (it.full.each number),
        )
