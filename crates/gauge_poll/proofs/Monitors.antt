-- What a monitor keeps goes on standing for what happened: messages, frames, turns.
use Rattle.std.proofs.Common.{◌≡◌, ℕ, suc, ◌+◌, ◌-◌, ◌<◌, ◌≤◌, ◌==◌, ◌&&◌, not, Bool, true, false, cond, is_some, Option, Some, None, option_and_then, List, [], ◌∷◌, inl, inr, refl, sym, ap, subst, ◌∙◌, arith, true≢false, eq-eqb, if◌then◌else◌}
use Rattle.std.specs.List.{fold}
use Rattle.std.specs.Option.{option_map_or}
use Rattle.std.proofs.lemmas.Bool.{cases_Bool, eqb-true}
use Rattle.of13_codec.specs.declared.message.Message.{Message}
use Rattle.of13_codec.specs.declared.message.Message.TheVariants as messages
use Rattle.switch_session.specs.declared.state.Step.{Step}
use Rattle.switch_session.specs.declared.state.Step.TheVariants.{Nothing}
use Rattle.switch_session.specs.Stages.{leads}
use Rattle.ctl_world.specs.declared.conns.Conn.{Conn}
use Rattle.ctl_world.specs.declared.frames.Front.{Front}
use Rattle.ctl_world.specs.Connections.{change, conn_with, is_open, with_fed, with_heard}
use Rattle.ctl_world.specs.Frames.{front, with_read}
use Rattle.ctl_world.specs.World.{World}
use Rattle.ctl_life.specs.Life.{feed, has_frame, open_conn, read, unread}
use Rattle.ctl_life.proofs.Openings.{fresh, open_is, put_open, with_fresh}
use Rattle.gauge_poll.specs.declared.known.Kept.{Kept}
use Rattle.gauge_poll.specs.declared.known.Known.{Known}
use Rattle.gauge_poll.specs.declared.newest.Newest.{Newest}
use Rattle.gauge_poll.specs.declared.parts.Parts.{Parts}
use Rattle.gauge_poll.specs.declared.poll.Poll.{Poll}
use Rattle.gauge_poll.specs.Monitoring.{Monitor, dp_on, follow, hear_front, hear_frames, hear_message, hear_next, hear_on, heard, opened, told_on, with_world}
use Rattle.gauge_poll.specs.Newest.{at, waits_of}
use Rattle.gauge_poll.specs.Polls.{Said, later, newest, no_part, of_others, without_conn}
use Rattle.gauge_poll.specs.StandsFor.{Keeps, KeepsAll}
use Rattle.gauge_poll.specs.Telling.{told_by}
use Rattle.gauge_poll.proofs.Keeping.{kept_by}
use Rattle.gauge_poll.proofs.Opens.{Within, changed, say_within}

-- ---- where the world changes, and no connection opens

pub all_by : (f : World → World) → ((w : World) → Within (f w) w) → (k : Kept) (m : Monitor) (after : World) → after ≡ f k.known.world → KeepsAll k m
    → KeepsAll (record k { known = record k.known { world = after } }) (with_world f m)
all_by f within k m after is all = record { watchers = all.watchers; said = kept_by f within k.known m.said after is all.said; lines = all.lines }

pub read_within : (number : ℕ) (w : World) → Within (read number w) w
read_within number w n there = changed with_read (λ c. refl) number w.conns n there

pub fed_number : (piece : List ℕ) (now : World) (c : Conn) → (with_fed piece now.moment c).number ≡ c.number
fed_number piece now c = refl

pub feed_within : (number : ℕ) (piece : List ℕ) (w : World) → Within (feed number piece w) w
feed_within number piece w n there = changed (with_fed piece w.moment) (fed_number piece w) number w.conns n there

-- ---- one message

module _ (msg : Message) (xid number : ℕ) (m : Monitor) (mid : Kept) (there : is_open m.said.world.conns number ≡ true)
    (told : KeepsAll mid (told_on (told_by msg) xid number (option_and_then (dp_on m.said.world) (conn_with m.said.world.conns number)) m))
    (conns : List Conn) (noted : conns ≡ change number (with_heard msg xid) mid.known.world.conns) (step : Step)
    (taken : step ≡ option_map_or (λ (c : Conn). (leads c.session.state msg xid).1) (conn_with mid.known.world.conns number) Nothing) (after : Known)
    (follows : (s : Said) → Keeps (record mid.known { world = record mid.known.world { conns = conns } }) s → Keeps after (follow mid.watchers step msg xid number s)) where
  pub message_kept : KeepsAll (record mid { known = after }) (hear_message msg xid number m)
  message_kept = by (conn_with m.said.world.conns number) refl
    where
      by : (o : Option Conn) → conn_with m.said.world.conns number ≡ o → KeepsAll (record mid { known = after }) (hear_message msg xid number m)
      by None is = absurd (true≢false (sym there ∙ open_is m.said.world.conns number ∙ ap (λ (o : Option Conn). is_some o) is))
      by (Some c) is =
          let t : Monitor = told_on (told_by msg) xid number (dp_on m.said.world c) m in
          let all : KeepsAll mid t = subst (λ (o : Option Conn). KeepsAll mid (told_on (told_by msg) xid number (option_and_then (dp_on m.said.world) o) m)) is told in
          let goes : hear_on msg xid number m c ≡ hear_message msg xid number m = ap (λ (o : Option Conn). option_map_or (hear_on msg xid number m) o m) (sym is) in
          let on : conn_with mid.known.world.conns number ≡ Some c = ap (λ (w : World). conn_with w.conns number) all.said.world ∙ is in
          let steps : step ≡ (leads c.session.state msg xid).1 = taken ∙ ap (λ (o : Option Conn). option_map_or (λ (d : Conn). (leads d.session.state msg xid).1) o Nothing) on in
          let before : Keeps (record mid.known { world = record mid.known.world { conns = conns } }) (heard msg xid number t.said) =
          kept_by (λ w. record w { conns = change number (with_heard msg xid) w.conns }) (λ w n is_it. changed (with_heard msg xid) (λ d. refl) number w.conns n is_it) mid.known t.said
          (record mid.known.world { conns = conns }) (ap (λ cs. record mid.known.world { conns = cs }) noted) all.said in
          subst (KeepsAll (record mid { known = after })) goes (record {
            watchers = all.watchers;
            said = subst (Keeps after) (λ i. follow (all.watchers i) (steps i) msg xid number (heard msg xid number t.said)) (follows (heard msg xid number t.said) before);
            lines = all.lines;
          })

-- ---- frames

pub next_by : (number : ℕ) (k left : Kept) (m : Monitor) → KeepsAll k m → (f : Front) → f ≡ front (unread number k.known.world) → KeepsAll left (hear_front f number (with_world (read number) m)) → KeepsAll left (hear_next number m)
next_by number k left m all f is kept =
    subst (λ g. KeepsAll left (hear_front g number (with_world (read number) m))) (is ∙ ap (λ (w : World). front (unread number w)) all.said.world) kept

module _ (most i number : ℕ) (within : i < most) (k : Kept) (has : Bool) (more : has ≡ has_frame number k.known.world) where
  one_left : most - i ≡ suc (most - (i + 1))
  one_left = omega arith

  has_it : (m : Monitor) → KeepsAll k m → has_frame number m.said.world ≡ has
  has_it m all = ap (has_frame number) (sym all.said.world) ∙ sym more

  first : (b : Bool) → has ≡ b → (m : Monitor) → KeepsAll k m → hear_frames (most - i) number m ≡ (if b then hear_frames (most - (i + 1)) number (hear_next number m) else hear_next number m)
  first b is m all =
      ap (λ n. hear_frames n number m) one_left
      ∙ ap (λ (c : Bool). if c then hear_frames (most - (i + 1)) number (hear_next number m) else hear_next number m) (has_it m all ∙ is)

  pub heard_on : has ≡ true → (m : Monitor) → KeepsAll k m → hear_frames (most - i) number m ≡ hear_frames (most - (i + 1)) number (hear_next number m)
  heard_on is m all = first true is m all

  pub heard_last : has ≡ false → (m : Monitor) → KeepsAll k m → hear_frames (most - i) number m ≡ hear_next number m
  heard_last is m all = first false is m all

pub none_left : (most i number : ℕ) → most ≤ i → (m : Monitor) → hear_frames (most - i) number m ≡ m
none_left most i number past m = let none : most - i ≡ 0 = omega arith in ap (λ n. hear_frames n number m) none

pub all_left : (most number : ℕ) (m : Monitor) → hear_frames (most - 0) number m ≡ hear_frames most number m
all_left most number m = let all : most - 0 ≡ most = omega arith in ap (λ n. hear_frames n number m) all

-- ---- a connection opens

other_of : (conn : ℕ) (p : Poll) (found : Option Poll) (other place : ℕ) → (conn == other) ≡ false → (p.conn == conn) ≡ true → later other place found p ≡ found
other_of conn p found other place apart own =
    let e : p.conn ≡ conn = eqb-true p.conn conn own in
    ap (λ (n : ℕ). cond ((n == other) && (p.watcher == place)) (Some p) found) e ∙ ap (λ b. cond (b && (p.watcher == place)) (Some p) found) apart

newest_from : (conn other place : ℕ) → (conn == other) ≡ false → (polls : List Poll) (found : Option Poll) → fold (later other place) found (of_others conn polls) ≡ fold (later other place) found polls
newest_from conn other place apart [] found = refl
newest_from conn other place apart (p ∷ ps) found =
    elim (cases_Bool (p.conn == conn)) [
      | inl own ↦
          ap (λ b. fold (later other place) found (cond (not b) (p ∷ of_others conn ps) (of_others conn ps))) own
          ∙ newest_from conn other place apart ps found
          ∙ ap (λ o. fold (later other place) o ps) (sym (other_of conn p found other place apart own))
      | inr not_own ↦
          ap (λ b. fold (later other place) found (cond (not b) (p ∷ of_others conn ps) (of_others conn ps))) not_own
          ∙ newest_from conn other place apart ps (later other place found p)
    ]

pub newest_others : (conn other place : ℕ) → (conn == other) ≡ false → (polls : List Poll) → newest other place (of_others conn polls) ≡ newest other place polls
newest_others conn other place apart polls = newest_from conn other place apart polls None

pub newest_own : (conn place : ℕ) (polls : List Poll) → newest conn place (of_others conn polls) ≡ None
newest_own conn place [] = refl
newest_own conn place (p ∷ ps) =
    elim (cases_Bool (p.conn == conn)) [
      | inl own ↦ ap (λ b. fold (later conn place) None (cond (not b) (p ∷ of_others conn ps) (of_others conn ps))) own ∙ newest_own conn place ps
      | inr not_own ↦
          ap (λ b. fold (later conn place) None (cond (not b) (p ∷ of_others conn ps) (of_others conn ps))) not_own
          ∙ ap (λ b. fold (later conn place) (cond (b && (p.watcher == place)) (Some p) None) (of_others conn ps)) not_own
          ∙ newest_own conn place ps
    ]

module _ (conn : ℕ) (k : Kept) (m : Monitor) (all : KeepsAll k m) (after : World) (is : after ≡ open_conn conn k.known.world) (kept : Newest)
    (gone : (other place : ℕ) → at kept other place ≡ (if conn == other then None else at k.known.newest other place)) (left : Parts)
    (emptied : (other place : ℕ) → waits_of left other place ≡ without_conn conn (waits_of k.known.parts) other place) where
  was_open : (other : ℕ) → (conn == other) ≡ false → is_open (open_conn conn m.said.world).conns other ≡ true → is_open m.said.world.conns other ≡ true
  was_open other apart there =
      sym (put_open (fresh conn m.said.world) other (λ same. true≢false (sym (eq-eqb conn other (sym same)) ∙ apart)) m.said.world.conns)
      ∙ say_within conn (messages.Hello 4 (Some 16)) (with_fresh conn m.said.world) other there

  pub opened_kept : KeepsAll (record k { known = record { world = after; newest = kept; parts = left } }) (opened conn m)
  opened_kept = record {
    watchers = all.watchers;
    said = record {
      world = is ∙ ap (open_conn conn) all.said.world;
      polls = λ other place there.
          elim (cases_Bool (conn == other)) [
            | inl own ↦
                let e : other ≡ conn = sym (eqb-true conn other own) in
                gone other place
                ∙ ap (λ b. if b then None else at k.known.newest other place) own
                ∙ sym (newest_own conn place m.said.polls)
                ∙ ap (λ n. newest n place (of_others conn m.said.polls)) (sym e)
            | inr apart ↦
                gone other place
                ∙ ap (λ b. if b then None else at k.known.newest other place) apart
                ∙ all.said.polls other place (was_open other apart there)
                ∙ sym (newest_others conn other place apart m.said.polls)
          ];
      waits = λ other place there.
          elim (cases_Bool (conn == other)) [
            | inl own ↦
                emptied other place
                ∙ ap (λ b. if b then no_part else waits_of k.known.parts other place) own
                ∙ sym (ap (λ b. if b then no_part else m.said.waits other place) own)
            | inr apart ↦
                emptied other place
                ∙ ap (λ b. if b then no_part else waits_of k.known.parts other place) apart
                ∙ all.said.waits other place (was_open other apart there)
                ∙ sym (ap (λ b. if b then no_part else m.said.waits other place) apart)
          ];
    };
    lines = all.lines;
  }

-- ---- polls are forgotten, but of open connections, and what waits of their replies

module _ (k : Known) (s : Said) (kept : Newest) (left : Parts)
    (same : (conn place : ℕ) → is_open k.world.conns conn ≡ true → at kept conn place ≡ at k.newest conn place)
    (same_parts : (conn place : ℕ) → is_open k.world.conns conn ≡ true → waits_of left conn place ≡ waits_of k.parts conn place) (keeps : Keeps k s) where
  is_there : (conn : ℕ) → is_open s.world.conns conn ≡ true → is_open k.world.conns conn ≡ true
  is_there conn there = ap (λ (w : World). is_open w.conns conn) keeps.world ∙ there

  pub forgot_kept : Keeps (record k { newest = kept; parts = left }) s
  forgot_kept = record {
    world = keeps.world;
    polls = λ conn place there. same conn place (is_there conn there) ∙ keeps.polls conn place there;
    waits = λ conn place there. same_parts conn place (is_there conn there) ∙ keeps.waits conn place there;
  }
