-- Polls of one watcher on one connection lie at least its interval apart, whatever happens.
use Rattle.std.proofs.Common.{◌≡◌, ℕ, zero, suc, ◌+◌, ◌*◌, ◌≤◌, ◌==◌, ◌++◌, not, nat_le, Bool, true, false, cond, Option, Some, None, List, [], ◌∷◌, append_assoc, length, map, slice_get, inl, inr, refl, sym, ap, subst, ◌∙◌, arith, true≢false, eq-eqb, if◌then◌else◌}
use Rattle.std.specs.Option.{option_map_or}
use Rattle.std.proofs.lemmas.Bool.{cases_Bool, eqb-true, leb-true}
use Rattle.net_base.specs.declared.numbers.DpId.{DpId}
use Rattle.fg_outside.specs.declared.hub.Happening.{Happening}
use Rattle.fg_outside.specs.declared.hub.Happening.TheVariants as happenings
use Rattle.of13_codec.specs.declared.message.Message.{Message}
use Rattle.switch_session.specs.declared.closing.Closing.{Closing}
use Rattle.switch_session.specs.declared.state.Step.{Step}
use Rattle.switch_session.specs.declared.state.Step.TheVariants as steps
use Rattle.switch_session.specs.Stages.{leads}
use Rattle.ctl_world.specs.declared.conns.Conn.{Conn}
use Rattle.ctl_world.specs.declared.frames.Front.{Front}
use Rattle.ctl_world.specs.declared.frames.Front.TheVariants.{Part, Frame, Bad}
use Rattle.ctl_world.specs.Connections.{conn_of, conn_with, is_open}
use Rattle.ctl_world.specs.Frames.{front}
use Rattle.ctl_world.specs.Ends.{ended}
use Rattle.ctl_life.specs.Life.{closing_for, feed, has_frame, read, replace, take_dp, unread}
use Rattle.ctl_life.specs.Silence.{look_each, show}
use Rattle.gauge_conf.specs.declared.gauge.Watcher.{Watcher}
use Rattle.gauge_conf.specs.declared.gauge.GaugeConf.{GaugeConf}
use Rattle.gauge_poll.specs.declared.poll.Poll.{Poll}
use Rattle.gauge_poll.specs.Apart.{AreApart}
use Rattle.gauge_poll.specs.Monitoring.{Monitor, begun, behind, dp_on, follow, hear_frame, hear_frames, hear_front, hear_message, hear_next, hear_on, heard, introduce, opened, pass_in, told_on, turn, unfit, with_world, work}
use Rattle.gauge_poll.specs.Polls.{Said, is_due, is_polling, newest, of_others, poll_begun, poll_by, poll_conn, poll_dp, poll_dps, poll_due, poll_first, poll_for, poll_if_due, poll_on, polls_dp}
use Rattle.gauge_poll.specs.Telling.{reads, told_by}
use Rattle.gauge_poll.proofs.Monitors.{newest_others}

-- ---- a list of polls, behind those before it

none_behind : (ps : List Poll) → ps ++ [] ≡ ps
none_behind [] = refl
none_behind (q ∷ qs) = ap (λ rs. q ∷ rs) (none_behind qs)

abbrev FarFrom : List Watcher → Option Poll → Poll → Type 0
FarFrom ws last p = (q : Poll) (w : Watcher) → last ≡ Some q → slice_get ws p.watcher ≡ Some w → q.moment.0 + 1000 * w.interval ≤ p.moment.0

abbrev Follow : List Watcher → (before polls : List Poll) → Type 0
Follow ws before [] = Unit {0}
Follow ws before (p ∷ ps) = FarFrom ws (newest p.conn p.watcher before) p × Follow ws (before ++ p ∷ []) ps

module _ (ws : List Watcher) where
  far_at : (pre before after : List Poll) (p : Poll) → Follow ws pre (before ++ p ∷ after) → FarFrom ws (newest p.conn p.watcher (pre ++ before)) p
  far_at pre [] after p follow = subst (λ ps. FarFrom ws (newest p.conn p.watcher ps) p) (sym (none_behind pre)) follow.0
  far_at pre (b ∷ bs) after p follow = subst (λ ps. FarFrom ws (newest p.conn p.watcher ps) p) (append_assoc pre (b ∷ []) bs) (far_at (pre ++ b ∷ []) bs after p follow.1)

  pub are_apart : (polls : List Poll) → Follow ws [] polls → AreApart ws polls
  are_apart polls follow = record {
    apart = λ before after q p w is newest_is at. far_at [] before after p (subst (Follow ws []) is follow) q w newest_is at;
  }

  follow_more : (pre ps : List Poll) (p : Poll) → FarFrom ws (newest p.conn p.watcher (pre ++ ps)) p → Follow ws pre ps → Follow ws pre (ps ++ p ∷ [])
  follow_more pre [] p far follow = (subst (λ qs. FarFrom ws (newest p.conn p.watcher qs) p) (none_behind pre) far, tt)
  follow_more pre (q ∷ qs) p far follow = (
    follow.0,
    follow_more (pre ++ q ∷ []) qs p (subst (λ ps. FarFrom ws (newest p.conn p.watcher ps) p) (sym (append_assoc pre (q ∷ []) qs)) far) follow.1,
  )

  -- ---- those of one connection go

  others_end : (conn : ℕ) (pre : List Poll) (p : Poll) (b : Bool) → (p.conn == conn) ≡ b → of_others conn (pre ++ p ∷ []) ≡ (if b then of_others conn pre else of_others conn pre ++ p ∷ [])
  others_end conn [] p true is = ap (λ c. cond (not c) (p ∷ []) []) is
  others_end conn [] p false is = ap (λ c. cond (not c) (p ∷ []) []) is
  others_end conn (q ∷ qs) p true is =
      elim (q.conn == conn) as (λ c. cond (not c) (q ∷ of_others conn (qs ++ p ∷ [])) (of_others conn (qs ++ p ∷ [])) ≡ cond (not c) (q ∷ of_others conn qs) (of_others conn qs)) [
        | true ↦ others_end conn qs p true is
        | false ↦ ap (λ rs. q ∷ rs) (others_end conn qs p true is)
      ]
  others_end conn (q ∷ qs) p false is =
      elim (q.conn == conn) as (λ c. cond (not c) (q ∷ of_others conn (qs ++ p ∷ [])) (of_others conn (qs ++ p ∷ [])) ≡ cond (not c) (q ∷ of_others conn qs) (of_others conn qs) ++ p ∷ []) [
        | true ↦ others_end conn qs p false is
        | false ↦ ap (λ rs. q ∷ rs) (others_end conn qs p false is)
      ]

  turned : (a b : ℕ) → (a == b) ≡ false → (b == a) ≡ false
  turned a b off = elim (cases_Bool (b == a)) [ inl same ↦ absurd (true≢false (sym (eq-eqb a b (sym (eqb-true b a same))) ∙ off)) | inr other ↦ other ]

  pub others_follow : (conn : ℕ) (pre ps : List Poll) → Follow ws pre ps → Follow ws (of_others conn pre) (of_others conn ps)
  others_follow conn pre [] follow = tt
  others_follow conn pre (p ∷ ps) follow = by (p.conn == conn) refl (others_follow conn (pre ++ p ∷ []) ps follow.1)
    where
      rest : (b : Bool) → (p.conn == conn) ≡ b → Follow ws (of_others conn (pre ++ p ∷ [])) (of_others conn ps) → Follow ws (if b then of_others conn pre else of_others conn pre ++ p ∷ []) (of_others conn ps)
      rest b is more = subst (λ qs. Follow ws qs (of_others conn ps)) (others_end conn pre p b is) more

      by : (b : Bool) → (p.conn == conn) ≡ b → Follow ws (of_others conn (pre ++ p ∷ [])) (of_others conn ps) → Follow ws (of_others conn pre) (cond (not b) (p ∷ of_others conn ps) (of_others conn ps))
      by true is more = rest true is more
      by false is more = (
        subst (λ last. FarFrom ws last p) (sym (newest_others conn p.conn p.watcher (turned p.conn conn is) pre)) follow.0,
        rest false is more,
      )

-- ---- what is said

module _ (ws : List Watcher) where
  abbrev Right : Said → Type 0
  Right s = Follow ws [] s.polls

  far_by : (w : Watcher) (place conn : ℕ) (s : Said) (c : Conn) → slice_get ws place ≡ Some w → is_due w place conn s ≡ true → FarFrom ws (newest conn place s.polls) (poll_by w.kind place conn s c)
  far_by w place conn s c at due q v last there =
      let same_some : Some w ≡ Some v = sym at ∙ there in
      let same : w ≡ v = cc in
      let passed : nat_le (q.moment.0 + 1000 * w.interval) s.world.moment.0 ≡ true =
      ap (λ (o : Option Poll). option_map_or (λ (p : Poll). nat_le (p.moment.0 + 1000 * w.interval) s.world.moment.0) o true) (sym last) ∙ due in
      subst (λ (x : Watcher). q.moment.0 + 1000 * x.interval ≤ s.world.moment.0) same (leb-true (q.moment.0 + 1000 * w.interval) s.world.moment.0 passed)

  conn_right : (w : Watcher) (place conn : ℕ) (s : Said) → slice_get ws place ≡ Some w → is_due w place conn s ≡ true → Right s → Right (poll_conn w.kind place conn s)
  conn_right w place conn s at due right = by (conn_with s.world.conns conn)
    where
      by : (o : Option Conn) → Right (option_map_or (poll_on w.kind place conn s) o s)
      by (Some c) = follow_more ws [] s.polls (poll_by w.kind place conn s c) (far_by w place conn s c at due) right
      by None = right

  dp_right : (w : Watcher) (place : ℕ) (dp : DpId) (s : Said) → slice_get ws place ≡ Some w → Right s → Right (poll_dp w place dp s)
  dp_right w place dp s at right = by (conn_of s.world.conns dp)
    where
      if_due : (c : Conn) (b : Bool) → is_due w place c.number s ≡ b → Right (if b then poll_conn w.kind place c.number s else s)
      if_due c true due = conn_right w place c.number s at due right
      if_due c false due = right

      by : (o : Option Conn) → Right (option_map_or (poll_if_due w place s) o s)
      by (Some c) = if_due c (is_due w place c.number s) refl
      by None = right

  dps_right : (w : Watcher) (place : ℕ) (dps : List DpId) (s : Said) → slice_get ws place ≡ Some w → Right s → Right (poll_dps w place dps s)
  dps_right w place [] s at right = right
  dps_right w place (dp ∷ dps) s at right = dps_right w place dps (poll_dp w place dp s) at (dp_right w place dp s at right)

  either : (b : Bool) (s t : Said) → Right s → Right t → Right (if b then s else t)
  either true s t here there = here
  either false s t here there = there

  -- the watchers from a place on
  abbrev AreFrom : (place : ℕ) → List Watcher → Type 0
  AreFrom place more = (i : ℕ) → slice_get ws (place + i) ≡ slice_get more i

  here_is : (place : ℕ) (w : Watcher) (more : List Watcher) → AreFrom place (w ∷ more) → slice_get ws place ≡ Some w
  here_is place w more from = let all : place ≡ place + 0 = omega arith in ap (slice_get ws) all ∙ from 0

  rest_is : (place : ℕ) (w : Watcher) (more : List Watcher) → AreFrom place (w ∷ more) → AreFrom (suc place) more
  rest_is place w more from i = let next : suc place + i ≡ place + suc i = omega arith in ap (slice_get ws) next ∙ from (suc i)

  due_right : (place : ℕ) (more : List Watcher) (s : Said) → AreFrom place more → Right s → Right (poll_due place more s)
  due_right place [] s from right = right
  due_right place (w ∷ more) s from right =
      due_right (suc place) more (poll_for w place s) (rest_is place w more from)
      (either (is_polling w.kind) (poll_dps w place w.dps s) s (dps_right w place w.dps s (here_is place w more from) right) right)

  first_right : (place : ℕ) (more : List Watcher) (dp : DpId) (s : Said) → AreFrom place more → Right s → Right (poll_first place more dp s)
  first_right place [] dp s from right = right
  first_right place (w ∷ more) dp s from right =
      first_right (suc place) more dp (poll_begun w place dp s) (rest_is place w more from)
      (either (polls_dp w dp) (poll_dp w place dp s) s (dp_right w place dp s (here_is place w more from) right) right)

  all_from : AreFrom 0 ws
  all_from i = let same : 0 + i ≡ i = omega arith in ap (slice_get ws) same

  -- ---- messages

  introduce_right : (number : ℕ) (dp : DpId) (cause : Option Closing) (s : Said) → Right s → Right (introduce ws number dp cause s)
  introduce_right number dp (Some cause) s right = right
  introduce_right number dp None s right = first_right 0 ws dp (record s { world = take_dp number dp (replace dp s.world) }) all_from right

  follow_right : (step : Step) (m : Message) (xid number : ℕ) (s : Said) → Right s → Right (follow ws step m xid number s)
  follow_right steps.AskFeatures m xid number s right = right
  follow_right (steps.Features id n_tables auxiliary) m xid number s right = introduce_right number id (unfit s.world.conf id auxiliary) s right
  follow_right steps.Echo m xid number s right = right
  follow_right (steps.Close cause) m xid number s right = right
  follow_right step m xid number s right = right

-- ---- turns

module _ (ws : List Watcher) where
  abbrev AllRight : Monitor → Type 0
  AllRight k = (k.watchers ≡ ws) × Right k.watchers k.said

  message_right : (m : Message) (xid number : ℕ) (k : Monitor) → AllRight k → AllRight (hear_message m xid number k)
  message_right m xid number k right = by (conn_with k.said.world.conns number)
    where
      by : (o : Option Conn) → AllRight (option_map_or (hear_on m xid number k) o k)
      by (Some c) = (right.0, follow_right k.watchers (leads c.session.state m xid).1 m xid number (heard m xid number (told_on (told_by m) xid number (dp_on k.said.world c) k).said) right.1)
      by None = right

  frame_right : (told : Option (Message × ℕ)) (number : ℕ) (k : Monitor) → AllRight k → AllRight (hear_frame told number k)
  frame_right (Some told) number k right = message_right told.0 told.1 number k right
  frame_right None number k right = right

  front_right : (f : Front) (number : ℕ) (k : Monitor) → AllRight k → AllRight (hear_front f number k)
  front_right Part number k right = right
  front_right (Frame frame) number k right = frame_right (reads frame) number k right
  front_right Bad number k right = right

  next_right : (number : ℕ) (k : Monitor) → AllRight k → AllRight (hear_next number k)
  next_right number k right = front_right (front (unread number k.said.world)) number (with_world (read number) k) right

  either_right : (b : Bool) (k l : Monitor) → AllRight k → AllRight l → AllRight (if b then k else l)
  either_right true k l here there = here
  either_right false k l here there = there

  frames_right : (most number : ℕ) (k : Monitor) → AllRight k → AllRight (hear_frames most number k)
  frames_right zero number k right = right
  frames_right (suc most) number k right =
      either_right (has_frame number k.said.world) (hear_frames most number (hear_next number k)) (hear_next number k)
      (frames_right most number (hear_next number k) (next_right number k right)) (next_right number k right)

  pass_right : (k : Monitor) → AllRight k → AllRight (pass_in k)
  pass_right k right =
      (right.0, due_right k.watchers 0 k.watchers (record k.said { world = look_each (map (λ (c : Conn). c.number) k.said.world.conns) k.said.world }) (all_from k.watchers) right.1)

  work_right : (h : Happening) (k : Monitor) → AllRight k → AllRight (work h k)
  work_right (happenings.Opened number) k right = either_right (is_open k.said.world.conns number) k (opened number k) right (right.0, others_follow k.watchers number [] k.said.polls right.1)
  work_right (happenings.Heard number piece) k right =
      let fed : Monitor = with_world (feed number piece) k in
      either_right (is_open k.said.world.conns number) (hear_frames (length (unread number fed.said.world)) number fed) k
      (frames_right (length (unread number fed.said.world)) number fed right) right
  work_right (happenings.Closed number cause) k right = either_right (is_open k.said.world.conns number) (with_world (ended (closing_for cause) number) k) k right right
  work_right (happenings.Moment moment) k right = pass_right (with_world (show moment) k) right
  work_right (happenings.Reload text) k right = right

  behind_right : (k : Monitor) (hs : List Happening) → AllRight k → AllRight (behind k hs)
  behind_right k [] right = right
  behind_right k (h ∷ hs) right = behind_right (turn h k) hs (work_right h (record k { said = record k.said { world = record k.said.world { said = [] } }; lines = [] }) right)

  pub apart_behind : (k : Monitor) (hs : List Happening) → k.watchers ≡ ws → k.said.polls ≡ [] → AreApart ws (behind k hs).said.polls
  apart_behind k hs same none =
      let right : AllRight (behind k hs) = behind_right k hs (same, subst (Follow k.watchers []) (sym none) tt) in
      subst (λ vs. AreApart vs (behind k hs).said.polls) right.0 (are_apart (behind k hs).watchers (behind k hs).said.polls right.1)

pub polls_apart : (g : GaugeConf) (hs : List Happening) → AreApart (begun g).watchers (behind (begun g) hs).said.polls
polls_apart g hs = apart_behind (begun g).watchers (begun g) hs refl refl
