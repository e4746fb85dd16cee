-- What is kept goes on standing for what was said.
use Rattle.std.proofs.Common.{◌≡◌, ℕ, ◌+◌, ◌<◌, ◌==◌, ◌&&◌, ◌++◌, suc, Bool, true, false, Option, Some, None, List, [], ◌∷◌, length, get_or, drop, refl, sym, ap, subst, ◌∙◌, arith, if◌then◌else◌}
use Rattle.std.specs.List.{fold}
use Rattle.std.specs.Option.{option_map, option_map_or}
use Rattle.std.proofs.Math.Seq.{drop-cons}
use Rattle.net_base.specs.declared.numbers.DpId.{DpId}
use Rattle.net_base.specs.declared.numbers.Moment.{Moment}
use Rattle.switch_session.specs.Connections.{next_id}
use Rattle.ctl_world.specs.declared.conns.Conn.{Conn}
use Rattle.ctl_world.specs.declared.said.Said.{Said as Told}
use Rattle.ctl_world.specs.declared.said.Said.TheVariants as told
use Rattle.ctl_world.specs.Connections.{change, conn_of, conn_with, is_of, is_open, with_said}
use Rattle.ctl_world.specs.Saying.{say}
use Rattle.ctl_world.specs.World.{World}
use Rattle.ctl_world.proofs.Places.{unchanged}
use Rattle.ctl_world.proofs.Says.{said_on}
use Rattle.ctl_life.proofs.Openings.{found_open}
use Rattle.gauge_conf.specs.declared.gauge.WatchKind.{WatchKind}
use Rattle.gauge_conf.specs.declared.gauge.Watcher.{Watcher}
use Rattle.gauge_poll.specs.declared.known.Known.{Known}
use Rattle.gauge_poll.specs.declared.newest.Newest.{Newest}
use Rattle.gauge_poll.specs.declared.parts.Parts.{Parts}
use Rattle.gauge_poll.specs.declared.parts.Waiting.{Waiting}
use Rattle.gauge_poll.specs.declared.poll.Poll.{Poll}
use Rattle.gauge_poll.specs.Newest.{at, waits_of}
use Rattle.gauge_poll.specs.Polls.{Said, is_due, later, newest, no_part, poll_by, poll_conn, poll_dp, poll_if_due, poll_on, request_for, with_at}
use Rattle.gauge_poll.specs.StandsFor.{Keeps}
use Rattle.gauge_poll.proofs.Opens.{Within, say_within}

-- ---- where the world changes, and no connection opens

pub kept_by : (f : World → World) → ((w : World) → Within (f w) w) → (k : Known) (s : Said) (after : World) → after ≡ f k.world → Keeps k s → Keeps (record k { world = after }) (record s { world = f s.world })
kept_by f within k s after is keeps = record {
  world = is ∙ ap f keeps.world;
  polls = λ conn place there. keeps.polls conn place (within s.world conn there);
  waits = λ conn place there. keeps.waits conn place (within s.world conn there);
}

-- ---- a poll more

fold-more : {A B : Type 0} (f : B → A → B) (b : B) (xs : List A) (x : A) → fold f b (xs ++ x ∷ []) ≡ f (fold f b xs) x
fold-more f b [] x = refl
fold-more f b (y ∷ ys) x = fold-more f (f b y) ys x

pub newest-more : (conn place : ℕ) (polls : List Poll) (p : Poll) → newest conn place (polls ++ p ∷ []) ≡ later conn place (newest conn place polls) p
newest-more conn place polls p = fold-more (later conn place) None polls p

abbrev pub poll_at : WatchKind → (conn place : ℕ) → Moment → (xid : ℕ) → Poll
poll_at kind conn place moment xid = record { conn = conn; watcher = place; kind = kind; moment = moment; xid = xid }

module _ (kind : WatchKind) (place conn : ℕ) (k : Known) (s : Said) (keeps : Keeps k s) (conns : List Conn) (noted : conns ≡ change conn with_said k.world.conns) where
  found : (o : Option Conn) → conn_with k.world.conns conn ≡ o → conn_with s.world.conns conn ≡ o
  found o is = ap (λ (w : World). conn_with w.conns conn) (sym keeps.world) ∙ is

  goes : (o : Option Conn) → conn_with k.world.conns conn ≡ o → option_map_or (poll_on kind place conn s) o s ≡ poll_conn kind place conn s
  goes o is = ap (λ (p : Option Conn). option_map_or (poll_on kind place conn s) p s) (sym (found o is))

  -- the connection isn't open
  pub none_polled : None ≡ option_map (λ (c : Conn). next_id c.session.last_xid) (conn_with k.world.conns conn) → Keeps (record k { world = record k.world { conns = conns } }) (poll_conn kind place conn s)
  none_polled none = by (conn_with k.world.conns conn) refl
    where
      by : (o : Option Conn) → conn_with k.world.conns conn ≡ o → Keeps (record k { world = record k.world { conns = conns } }) (poll_conn kind place conn s)
      by None is =
          subst (Keeps (record k { world = record k.world { conns = conns } })) (goes None is) (record {
            world = ap (λ cs. record k.world { conns = cs }) (noted ∙ unchanged conn with_said k.world.conns is) ∙ keeps.world;
            polls = keeps.polls;
            waits = keeps.waits;
          })
      by (Some c) is = let e = rw is at none in absurd (cc)

  pub polled : (xid : ℕ) (more : List Told) (kept : Newest) (left : Parts) → Some xid ≡ option_map (λ (c : Conn). next_id c.session.last_xid) (conn_with k.world.conns conn)
      → more ≡ k.world.said ++ told.Message conn (request_for kind) xid ∷ []
      → ((other q : ℕ) → at kept other q ≡ later other q (at k.newest other q) (poll_at kind conn place k.world.moment xid))
      → ((other q : ℕ) → waits_of left other q ≡ with_at conn place no_part (waits_of k.parts) other q)
      → Keeps (record { world = record k.world { conns = conns; said = more }; newest = kept; parts = left }) (poll_conn kind place conn s)
  polled xid more kept left next pushed put gone = by (conn_with k.world.conns conn) refl
    where
      by : (o : Option Conn) → conn_with k.world.conns conn ≡ o → Keeps (record { world = record k.world { conns = conns; said = more }; newest = kept; parts = left }) (poll_conn kind place conn s)
      by None is = let e = rw is at next in absurd (cc)
      by (Some c) is =
          let e : Some xid ≡ Some (next_id c.session.last_xid) = rw is at next in
          let same : xid ≡ next_id c.session.last_xid = cc in
          let poll : poll_at kind conn place k.world.moment xid ≡ poll_by kind place conn s c = λ i. poll_at kind conn place (keeps.world i).moment (same i) in
          subst (Keeps (record { world = record k.world { conns = conns; said = more }; newest = kept; parts = left })) (goes (Some c) is) (record {
            world = said_on with_said conn (request_for kind) k.world conns noted xid more next pushed ∙ ap (say conn (request_for kind)) keeps.world;
            polls = λ other q there.
                put other q
                ∙ ap (λ o. later other q o (poll_at kind conn place k.world.moment xid)) (keeps.polls other q (say_within conn (request_for kind) s.world other there))
                ∙ ap (later other q (newest other q s.polls)) poll
                ∙ sym (newest-more other q s.polls (poll_by kind place conn s c));
            waits = λ other q there.
                gone other q
                ∙ ap (λ (w : Waiting). if (conn == other) && (place == q) then no_part else w) (keeps.waits other q (say_within conn (request_for kind) s.world other there));
          })

-- ---- a datapath

module _ (w : Watcher) (place : ℕ) (dp : DpId) (k : Known) (s : Said) (keeps : Keeps k s) where
  its : (o : Option Conn) → conn_of k.world.conns dp ≡ o → conn_of s.world.conns dp ≡ o
  its o is = ap (λ (v : World). conn_of v.conns dp) (sym keeps.world) ∙ is

  leads_on : (o : Option Conn) → conn_of k.world.conns dp ≡ o → option_map_or (poll_if_due w place s) o s ≡ poll_dp w place dp s
  leads_on o is = ap (λ (p : Option Conn). option_map_or (poll_if_due w place s) p s) (sym (its o is))

  pub no_conn : conn_of k.world.conns dp ≡ None → Keeps k (poll_dp w place dp s)
  no_conn none = subst (Keeps k) (leads_on None none) keeps

  module _ (c : Conn) (of : conn_of k.world.conns dp ≡ Some c) where
    pub is_there : is_open s.world.conns c.number ≡ true
    is_there = found_open (is_of dp) s.world.conns c (its (Some c) of)

    goes_on : (b : Bool) → is_due w place c.number s ≡ b → (if b then poll_conn w.kind place c.number s else s) ≡ poll_dp w place dp s
    goes_on b is = ap (λ (d : Bool). if d then poll_conn w.kind place c.number s else s) (sym is) ∙ leads_on (Some c) of

    pub polled_dp : is_due w place c.number s ≡ true → (after : Known) → Keeps after (poll_conn w.kind place c.number s) → Keeps after (poll_dp w place dp s)
    polled_dp due after kept = subst (Keeps after) (goes_on true due) kept

    pub passed_dp : is_due w place c.number s ≡ false → Keeps k (poll_dp w place dp s)
    passed_dp not_due = subst (Keeps k) (goes_on false not_due) keeps

-- ---- where one goes over a list: what is left to be done leads to the whole

module _ {K S : Type 0} (R : K → S → Type 0) where
  pub record OnWay (k : K) (rest : S → S) (whole : S) : Type 0 where
    pub so_far : S
    pub keeps : R k so_far
    pub leads : rest so_far ≡ whole

  pub set_out : (k : K) (s : S) (rest : S → S) → R k s → OnWay k rest (rest s)
  set_out k s rest keeps = record { so_far = s; keeps = keeps; leads = refl }

  pub arrived : (k : K) (rest : S → S) (whole : S) → ((s : S) → R k s → rest s ≡ s) → OnWay k rest whole → R k whole
  arrived k rest whole nothing way = subst (R k) (sym (nothing way.so_far way.keeps) ∙ way.leads) way.keeps

  -- one step of those that are left
  pub onward : (k after : K) (rest more step : S → S) (whole : S) → ((s : S) → R k s → rest s ≡ more (step s)) → ((s : S) → R k s → R after (step s)) → OnWay k rest whole → OnWay after more whole
  onward k after rest more step whole opens does way = record {
    so_far = step way.so_far;
    keeps = does way.so_far way.keeps;
    leads = sym (opens way.so_far way.keeps) ∙ way.leads;
  }

-- what is left of a list begins with the item at hand
pub item_left : {A : Type 0} (xs : List A) (i : ℕ) (x : A) → i < length xs → x ≡ get_or xs i x → drop i xs ≡ x ∷ drop (i + 1) xs
item_left xs i x within is =
    let next : i + 1 ≡ suc i = omega arith in
    drop-cons xs i x within ∙ ap (λ y. y ∷ drop (suc i) xs) (sym is) ∙ ap (λ n. x ∷ drop n xs) (sym next)

pub item_at : {A : Type 0} (xs : List A) (i : ℕ) (d : A) → i < length xs → drop i xs ≡ get_or xs i d ∷ drop (i + 1) xs
item_at xs i d within = let next : i + 1 ≡ suc i = omega arith in drop-cons xs i d within ∙ ap (λ n. get_or xs i d ∷ drop n xs) (sym next)

-- where each item of a list is handled at its place
module _ {K S A : Type 0} (R : K → S → Type 0) (each : ℕ → List A → S → S) (step : A → ℕ → S → S)
    (opens : (i : ℕ) (x : A) (xs : List A) (s : S) → each i (x ∷ xs) s ≡ each (suc i) xs (step x i s)) (ends : (i : ℕ) (s : S) → each i [] s ≡ s) (xs : List A) (i : ℕ) (k : K) (whole : S) where
  pub item_done : (x : A) (after : K) → i < length xs → x ≡ get_or xs i x → ((s : S) → R k s → R after (step x i s)) → OnWay R k (each i (drop i xs)) whole → OnWay R after (each (i + 1) (drop (i + 1) xs)) whole
  item_done x after within is does way =
      let next : i + 1 ≡ suc i = omega arith in
      onward R k after (each i (drop i xs)) (each (i + 1) (drop (i + 1) xs)) (step x i) whole
      (λ t kept. ap (λ more. each i more t) (item_left xs i x within is) ∙ opens i x (drop (i + 1) xs) t ∙ ap (λ n. each n (drop (i + 1) xs) (step x i t)) (sym next)) does way

  pub all_done : drop i xs ≡ [] → OnWay R k (each i (drop i xs)) whole → R k whole
  all_done none way = arrived R k (each i (drop i xs)) whole (λ t kept. ap (λ more. each i more t) none ∙ ends i t) way
