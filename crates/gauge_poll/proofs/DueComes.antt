-- A poll that is due at a Moment comes in its turn.
use Rattle.std.proofs.Common.{◌≡◌, ℕ, zero, suc, ◌+◌, ◌*◌, ◌==◌, ◌&&◌, ◌⊎◌, nat_le, Bool, true, false, cond, is_some, Option, Some, None, List, [], ◌∷◌, map, slice_get, inl, inr, refl, sym, ap, subst, ◌∙◌, arith, true≢false, eq-eqb, if◌then◌else◌}
use Rattle.std.specs.List.{list_any}
use Rattle.std.specs.Option.{option_map, option_map_or}
use Rattle.std.proofs.lemmas.Bool.{cases_Bool, eqb-true}
use Rattle.net_base.specs.declared.numbers.DpId.{DpId}
use Rattle.net_base.specs.declared.numbers.Moment.{Moment}
use Rattle.fg_outside.specs.declared.hub.Happening.TheVariants as happenings
use Rattle.of13_codec.specs.declared.message.Message.{Message}
use Rattle.of13_codec.specs.declared.message.Message.TheVariants as messages
use Rattle.switch_session.specs.declared.quiet.Quiet.{Quiet}
use Rattle.switch_session.specs.declared.quiet.Quiet.TheVariants as quiet
use Rattle.switch_session.specs.Connections.{due_at}
use Rattle.ctl_world.specs.declared.conns.Conn.{Conn}
use Rattle.ctl_world.specs.Connections.{change, conn_of, conn_with, has_number, is_of, is_open, with_looked, with_said}
use Rattle.ctl_world.specs.Saying.{say, say_by}
use Rattle.ctl_world.specs.World.{World}
use Rattle.ctl_life.specs.Silence.{look, look_each, look_on, show, stir}
use Rattle.ctl_life.proofs.Openings.{found_open, open_is}
use Rattle.gauge_conf.specs.declared.gauge.WatchKind.{WatchKind}
use Rattle.gauge_conf.specs.declared.gauge.Watcher.{Watcher}
use Rattle.gauge_poll.specs.declared.poll.Poll.{Poll}
use Rattle.gauge_poll.specs.Due.{last_polled, looked_at}
use Rattle.gauge_poll.specs.Monitoring.{Monitor, turn}
use Rattle.gauge_poll.specs.Polls.{Said, is_due, is_for, is_polling, newest, poll_by, poll_conn, poll_dp, poll_dps, poll_due, poll_for, poll_if_due, poll_on, polls_dp, request_for, watches}
use Rattle.gauge_poll.proofs.Keeping.{newest-more}
use Rattle.gauge_poll.proofs.Rounds.{dp_kept, dps_kept, due_kept, for_kept}

-- ---- the moment stays

say_moment : (number : ℕ) (m : Message) (w : World) → (say number m w).moment ≡ w.moment
say_moment number m w = by (conn_with w.conns number)
  where
    by : (o : Option Conn) → (option_map_or (say_by with_said m w) o w).moment ≡ w.moment
    by (Some c) = refl
    by None = refl

conn_moment : (t : Moment) (kind : WatchKind) (place conn : ℕ) (s : Said) → s.world.moment ≡ t → (poll_conn kind place conn s).world.moment ≡ t
conn_moment t kind place conn s is = by (conn_with s.world.conns conn)
  where
    by : (o : Option Conn) → (option_map_or (poll_on kind place conn s) o s).world.moment ≡ t
    by (Some c) = say_moment conn (request_for kind) s.world ∙ is
    by None = is

stir_moment : (due : Quiet) (number : ℕ) (w : World) → (stir due number w).moment ≡ w.moment
stir_moment quiet.Well number w = refl
stir_moment quiet.Echo number w = say_moment number (messages.EchoRequest []) w
stir_moment quiet.Silent number w = refl

look_moment : (number : ℕ) (w : World) → (look number w).moment ≡ w.moment
look_moment number w = by (conn_with w.conns number)
  where
    by : (o : Option Conn) → (option_map_or (look_on w) o w).moment ≡ w.moment
    by (Some c) = stir_moment (due_at c.session w.moment) c.number (record w { conns = change c.number (with_looked w.moment) w.conns })
    by None = refl

looks_moment : (numbers : List ℕ) (w : World) → (look_each numbers w).moment ≡ w.moment
looks_moment [] w = refl
looks_moment (number ∷ numbers) w = looks_moment numbers (look number w) ∙ look_moment number w

-- ---- the datapath stays on its connection

abbrev number_of : Conn → ℕ
number_of c = c.number

change_on : (number : ℕ) (dp : DpId) (conns : List Conn) → option_map number_of (conn_of (change number with_said conns) dp) ≡ option_map number_of (conn_of conns dp)
change_on number dp [] = refl
change_on number dp (c ∷ cs) =
    elim (has_number number c) as (λ b. option_map number_of (conn_of (if b then with_said c ∷ cs else c ∷ change number with_said cs) dp) ≡ option_map number_of (conn_of (c ∷ cs) dp)) [
      | true ↦ elim (is_of dp c) as (λ b. option_map number_of (cond b (Some (with_said c)) (conn_of cs dp)) ≡ option_map number_of (cond b (Some c) (conn_of cs dp))) [ true ↦ refl | false ↦ refl ]
      | false ↦
          elim (is_of dp c) as (λ b. option_map number_of (cond b (Some c) (conn_of (change number with_said cs) dp)) ≡ option_map number_of (cond b (Some c) (conn_of cs dp))) [
            | true ↦ refl
            | false ↦ change_on number dp cs
          ]
    ]

say_on : (number : ℕ) (m : Message) (dp : DpId) (w : World) → option_map number_of (conn_of (say number m w).conns dp) ≡ option_map number_of (conn_of w.conns dp)
say_on number m dp w = by (conn_with w.conns number)
  where
    by : (o : Option Conn) → option_map number_of (conn_of (option_map_or (say_by with_said m w) o w).conns dp) ≡ option_map number_of (conn_of w.conns dp)
    by (Some c) = change_on c.number dp w.conns
    by None = refl

-- ---- one watcher, and one connection

module _ (w : Watcher) (dp : DpId) (place n : ℕ) where
  -- it is polled in this turn
  abbrev Polled : Said → Type 0
  Polled s = last_polled n place s ≡ Some s.world.moment

  -- the datapath is on the connection, and its poll is due or came
  abbrev Ready : Said → Type 0
  Ready s = (option_map number_of (conn_of s.world.conns dp) ≡ Some n) × ((is_due w place n s ≡ true) ⊎ Polled s)

  abbrev moment_of : Poll → Moment
  moment_of p = p.moment

  -- ---- one poll more, of whichever watcher on whichever connection

  module _ (kind : WatchKind) (q conn : ℕ) (s : Said) (c : Conn) where
    abbrev p : Poll
    p = poll_by kind q conn s c

    abbrev after : Said
    after = poll_on kind q conn s c

    same_moment : after.world.moment ≡ s.world.moment
    same_moment = say_moment conn (request_for kind) s.world

    own_polled : is_for n place p ≡ true → Polled after
    own_polled own = ap (option_map moment_of) (newest-more n place s.polls p) ∙ ap (λ b. option_map moment_of (if b then Some p else newest n place s.polls)) own ∙ ap Some (sym same_moment)

    other_newest : is_for n place p ≡ false → newest n place after.polls ≡ newest n place s.polls
    other_newest other = newest-more n place s.polls p ∙ ap (λ b. if b then Some p else newest n place s.polls) other

    still_polled : Polled s → Polled after
    still_polled polled =
        elim (cases_Bool (is_for n place p)) [
          | inl own ↦ own_polled own
          | inr other ↦ ap (option_map moment_of) (other_newest other) ∙ polled ∙ ap Some (sym same_moment)
        ]

    still_due : is_due w place n s ≡ true → (is_due w place n after ≡ true) ⊎ Polled after
    still_due due =
        elim (cases_Bool (is_for n place p)) [
          | inl own ↦ inr (own_polled own)
          | inr other ↦
              inl (
              ap (λ (o : Option Poll). option_map_or (λ (r : Poll). nat_le (r.moment.0 + 1000 * w.interval) after.world.moment.0) o true) (other_newest other)
              ∙ ap (λ (t : Moment). option_map_or (λ (r : Poll). nat_le (r.moment.0 + 1000 * w.interval) t.0) (newest n place s.polls) true) same_moment
              ∙ due
              )
        ]

    still_ready : Ready s → Ready after
    still_ready ready = (say_on conn (request_for kind) dp s.world ∙ ready.0, elim ready.1 [ inl due ↦ still_due due | inr polled ↦ inr (still_polled polled) ])

  conn_polled : (kind : WatchKind) (q conn : ℕ) (s : Said) → Polled s → Polled (poll_conn kind q conn s)
  conn_polled kind q conn s polled = by (conn_with s.world.conns conn)
    where
      by : (o : Option Conn) → Polled (option_map_or (poll_on kind q conn s) o s)
      by (Some c) = still_polled kind q conn s c polled
      by None = polled

  conn_ready : (kind : WatchKind) (q conn : ℕ) (s : Said) → Ready s → Ready (poll_conn kind q conn s)
  conn_ready kind q conn s ready = by (conn_with s.world.conns conn)
    where
      by : (o : Option Conn) → Ready (option_map_or (poll_on kind q conn s) o s)
      by (Some c) = still_ready kind q conn s c ready
      by None = ready

  -- ---- its own poll

  own_conn : (kind : WatchKind) (s : Said) → is_open s.world.conns n ≡ true → Polled (poll_conn kind place n s)
  own_conn kind s there = by (conn_with s.world.conns n) refl
    where
      by : (o : Option Conn) → conn_with s.world.conns n ≡ o → Polled (option_map_or (poll_on kind place n s) o s)
      by (Some c) is = own_polled kind place n s c (ap (λ b. b && (place == place)) (eq-eqb n n refl) ∙ eq-eqb place place refl)
      by None is = absurd (true≢false (sym there ∙ open_is s.world.conns n ∙ ap (λ (o : Option Conn). is_some o) is))

  own_dp : (s : Said) → Ready s → Polled (poll_dp w place dp s)
  own_dp s ready = by (conn_of s.world.conns dp) refl
    where
      if_due : is_open s.world.conns n ≡ true → (b : Bool) → is_due w place n s ≡ b → Polled (if b then poll_conn w.kind place n s else s)
      if_due there true is = own_conn w.kind s there
      if_due there false is = elim ready.1 [ inl due ↦ absurd (true≢false (sym due ∙ is)) | inr polled ↦ polled ]

      by : (o : Option Conn) → conn_of s.world.conns dp ≡ o → Polled (option_map_or (poll_if_due w place s) o s)
      by (Some c) is =
          let on : Some c.number ≡ Some n = ap (option_map number_of) (sym is) ∙ ready.0 in
          let same : c.number ≡ n = cc in
          let there : is_open s.world.conns n ≡ true = subst (λ k. is_open s.world.conns k ≡ true) same (found_open (is_of dp) s.world.conns c is) in
          subst (λ k. Polled (if is_due w place k s then poll_conn w.kind place k s else s)) (sym same) (if_due there (is_due w place n s) refl)
      by None is = let none : None ≡ Some n = ap (option_map number_of) (sym is) ∙ ready.0 in absurd (cc)

  own_dps : (dps : List DpId) (s : Said) → list_any (λ (d : DpId). d.0 == dp.0) dps ≡ true → Ready s → Polled (poll_dps w place dps s)
  own_dps [] s among ready = absurd (true≢false (sym among))
  own_dps (d ∷ ds) s among ready =
      elim (cases_Bool (d.0 == dp.0)) [
        | inl own ↦
            let same : d.0 ≡ dp.0 = eqb-true d.0 dp.0 own in
            let it : dp ≡ d = λ i. record { 0 = sym same i } in
            dps_kept Polled conn_polled w place ds (poll_dp w place d s) (subst (λ (x : DpId). Polled (poll_dp w place x s)) it (own_dp s ready))
        | inr other ↦ own_dps ds (poll_dp w place d s) (rw other at among) (dp_kept Ready conn_ready w place d s ready)
      ]

  own_for : polls_dp w dp ≡ true → (s : Said) → Ready s → Polled (poll_for w place s)
  own_for polls s ready = by (is_polling w.kind) polls
    where
      by : (b : Bool) → (b && watches w dp) ≡ true → Polled (if b then poll_dps w place w.dps s else s)
      by true among = own_dps w.dps s among ready
      by false none = absurd (true≢false (sym none))

  own_due : polls_dp w dp ≡ true → (i from : ℕ) (ws : List Watcher) (s : Said) → slice_get ws i ≡ Some w → from + i ≡ place → Ready s → Polled (poll_due from ws s)
  own_due polls i from [] s at is ready = absurd (cc)
  own_due polls zero from (v ∷ vs) s at is ready =
      let its : v ≡ w = cc in
      let here : place ≡ from = omega (arith, is) in
      due_kept Polled conn_polled (suc from) vs (poll_for v from s) (subst (λ (x : Watcher). Polled (poll_for x from s)) (sym its) (subst (λ k. Polled (poll_for w k s)) here (own_for polls s ready)))
  own_due polls (suc i) from (v ∷ vs) s at is ready =
      let next : suc from + i ≡ place = omega (arith, is) in
      own_due polls i (suc from) vs (poll_for v from s) at next (for_kept Ready conn_ready v from s ready)

pub due_comes : (moment place : ℕ) (m : Monitor) (w : Watcher) (dp : DpId) (c : Conn) → slice_get m.watchers place ≡ Some w → polls_dp w dp ≡ true
    → conn_of (looked_at moment m).world.conns dp ≡ Some c → is_due w place c.number (looked_at moment m) ≡ true
    → last_polled c.number place (turn (happenings.Moment moment) m).said ≡ Some (show moment m.said.world).moment
due_comes moment place m w dp c at polls on due =
    let s = looked_at moment m in
    let all : 0 + place ≡ place = omega arith in
    let t = (show moment m.said.world).moment in
    let looks : s.world.moment ≡ t = looks_moment (map number_of m.said.world.conns) (show moment (record m.said.world { said = [] })) in
    own_due w dp place c.number polls place 0 m.watchers s at all (ap (option_map number_of) on, inl due)
    ∙ ap Some (due_kept (λ (x : Said). x.world.moment ≡ t) (conn_moment t) 0 m.watchers s looks)
