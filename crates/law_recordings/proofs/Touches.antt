-- What is done never looks at when a connection was heard, at the bytes that wait unread, or at what was said before. So
-- it may as well be done behind a change of these.
use Rattle.std.proofs.Common.{◌≡◌, ℕ, Bool, true, false, Option, Some, None, List, [], ◌∷◌, ◌++◌, filter, map, refl, ap, ◌∙◌, append_assoc, if◌then◌else◌}
use Rattle.std.specs.List.{flat_map}
use Rattle.std.specs.Option.{option_map_or}
use Rattle.net_base.specs.declared.numbers.DpId.{DpId}
use Rattle.net_base.specs.declared.numbers.Moment.{Moment}
use Rattle.conf_types.specs.declared.datapath.Dp.{Dp}
use Rattle.conf_types.specs.State.{State}
use Rattle.cold_start.specs.Cold.{cold_at}
use Rattle.of13_codec.specs.declared.message.Message.{Message}
use Rattle.switch_session.specs.declared.closing.Closing.{Closing}
use Rattle.switch_session.specs.Connections.{next_id}
use Rattle.ctl_world.specs.declared.conns.Conn.{Conn}
use Rattle.ctl_world.specs.declared.said.Said.{Said}
use Rattle.ctl_world.specs.declared.said.Said.TheVariants as said
use Rattle.ctl_world.specs.Connections.{change, conn_of, conn_with, with_asked, with_said, without}
use Rattle.ctl_world.specs.Ends.{close, drop_conn, end_line, forget_lost, is_reached, stands}
use Rattle.ctl_world.specs.Saying.{add_said, ask, repeat, say, say_by}
use Rattle.ctl_world.specs.World.{World, is_at_work, now, runs, running, ups, ups_by, ups_on}
use Rattle.ctl_core.specs.Settlings.{wanted}
use Rattle.ctl_world.proofs.Numbered.{with_seen}
use Rattle.law_recordings.proofs.Changes.{change_both, of_seen, without_any}

-- a change of one connection, and what was said before
pub record Touch : Type 0 where
  pub number : ℕ
  pub heard : Moment → Moment
  pub echoed : Bool → Bool
  pub unread : List ℕ → List ℕ
  pub said : List Said

abbrev pub touch : Touch → Conn → Conn
touch t c = record c { session = record c.session { heard = t.heard c.session.heard; echoed = t.echoed c.session.echoed; unread = t.unread c.session.unread } }

abbrev pub touched : Touch → World → World
touched t w = record w { conns = change t.number (touch t) w.conns; said = t.said ++ w.said }

-- v is u with the change, and the moment is the same
pub record Goes (t : Touch) (at : Moment) (v u : World) : Type 0 where
  pub is : v ≡ touched t u
  pub moment : u.moment ≡ at

-- behind the change it does what it did, and it leaves the moment
abbrev pub Keeps : Touch → (World → World) → Type 0
Keeps t f = (w : World) → Goes t w.moment (f (touched t w)) (f w)

module _ (t : Touch) where
  pub itself : (w : World) → Goes t w.moment (touched t w) w
  itself w = record { is = refl; moment = refl }

  pub over : (moment : Moment) (v v' u : World) → v ≡ v' → Goes t moment v' u → Goes t moment v u
  over moment v v' u e goes = record { is = e ∙ goes.is; moment = goes.moment }

  pub both : (f g : World → World) → Keeps t f → Keeps t g → Keeps t (λ w. g (f w))
  both f g a b w = record { is = ap g (a w).is ∙ (b (f w)).is; moment = (b (f w)).moment ∙ (a w).moment }

  pub any : {A : Type 0} (w : World) (o : Option A) (f g : A → World) → ((a : A) → Goes t w.moment (f a) (g a)) → Goes t w.moment (option_map_or f o (touched t w)) (option_map_or g o w)
  any w (Some a) f g each = each a
  any w None f g each = itself w

  pub either : (moment : Moment) (b : Bool) (v v' u u' : World) → Goes t moment v u → Goes t moment v' u' → Goes t moment (if b then v else v') (if b then u else u')
  either moment true v v' u u' here there = here
  either moment false v v' u u' here there = there

  -- ---- what is found and what is known

  pub found_with : {A : Type 0} (g : Conn → A) → ((c : Conn) → g (touch t c) ≡ g c) → (number : ℕ) (w : World) (none : A)
      → option_map_or g (conn_with (touched t w).conns number) none ≡ option_map_or g (conn_with w.conns number) none
  found_with g sees number w none = with_seen (touch t) (λ c. refl) t.number g sees number w.conns none

  pub found_of : {A : Type 0} (g : Conn → A) → ((c : Conn) → g (touch t c) ≡ g c) → (dp : DpId) (w : World) (none : A)
      → option_map_or g (conn_of (touched t w).conns dp) none ≡ option_map_or g (conn_of w.conns dp) none
  found_of g sees dp w none = of_seen (touch t) (λ c. refl) t.number (λ c. refl) g sees dp w.conns none

  work_kept : (w : World) (d : Dp) → is_at_work (touched t w).conns d ≡ is_at_work w.conns d
  work_kept w d = found_of (λ c. runs c.session.state.stage) (λ c. refl) d.id w false

  pub running_kept : (w : World) → running (touched t w) ≡ running w
  running_kept w = λ i. map (λ (d : Dp). d.id) (filter (λ d. work_kept w d i) w.conf.dps)

  up_kept : (w : World) (d : Dp) → ups_on (touched t w).conns d ≡ ups_on w.conns d
  up_kept w d = found_of (ups_by d) (λ c. refl) d.id w []

  pub ups_kept : (w : World) → ups (touched t w) ≡ ups w
  ups_kept w = λ i. flat_map (λ d. up_kept w d i) w.conf.dps

  now_kept : (w : World) → now (touched t w) ≡ now w
  now_kept w = λ i. record { moment = w.moment.0; running = running_kept w i; ups = ups_kept w i; hosts = w.hosts.hosts; neighbours = w.neighbours.neighbours }

  pub wanted_kept : (w : World) (dp : DpId) → wanted (touched t w) dp ≡ wanted w dp
  wanted_kept w dp = ap (λ (s : State). cold_at w.conf s dp) (now_kept w)

  -- ---- changes

  pub changed : (f : Conn → Conn) → ((c : Conn) → (f c).number ≡ c.number) → ((c : Conn) → f (touch t c) ≡ touch t (f c)) → (number : ℕ)
      → Keeps t (λ w. record w { conns = change number f w.conns })
  changed f same swaps number w = record {
    is = ap (λ (conns : List Conn). record (touched t w) { conns = conns }) (change_both f (touch t) same (λ c. refl) swaps t.number number w.conns);
    moment = refl;
  }

  pub added : (more : List Said) → Keeps t (add_said more)
  added more w = record { is = ap (λ (s : List Said). record (touched t w) { said = s }) (append_assoc t.said w.said more); moment = refl }

  -- ---- what is said

  said_by : (f : Conn → Conn) → ((c : Conn) → (f c).number ≡ c.number) → ((c : Conn) → f (touch t c) ≡ touch t (f c)) → (m : Message) (w : World) (c : Conn)
      → Goes t w.moment (say_by f m (touched t w) c) (say_by f m w c)
  said_by f same swaps m w c =
      both (λ v. record v { conns = change c.number f v.conns }) (add_said (said.Message c.number m (next_id c.session.last_xid) ∷ [])) (changed f same swaps c.number)
      (added (said.Message c.number m (next_id c.session.last_xid) ∷ [])) w

  pub say_keeps : (number : ℕ) (m : Message) → Keeps t (say number m)
  say_keeps number m w =
      let f : Conn → World = say_by with_said m (touched t w) in
      over w.moment (say number m (touched t w)) (option_map_or f (conn_with w.conns number) (touched t w)) (say number m w)
      (found_with f (λ c. refl) number w (touched t w))
      (any w (conn_with w.conns number) f (say_by with_said m w) (λ c. said_by with_said (λ x. refl) (λ x. refl) m w c))

  pub ask_keeps : (number : ℕ) (m : Message) → Keeps t (ask number m)
  ask_keeps number m w =
      let f : Conn → World = say_by with_asked m (touched t w) in
      over w.moment (ask number m (touched t w)) (option_map_or f (conn_with w.conns number) (touched t w)) (ask number m w)
      (found_with f (λ c. refl) number w (touched t w))
      (any w (conn_with w.conns number) f (say_by with_asked m w) (λ c. said_by with_asked (λ x. refl) (λ x. refl) m w c))

  pub repeat_keeps : (number : ℕ) (m : Message) (xid : ℕ) → Keeps t (repeat number m xid)
  repeat_keeps number m xid = added (said.Message number m xid ∷ [])

  -- ---- ends

  pub forget_keeps : Keeps t forget_lost
  forget_keeps w = record {
    is = λ i. record (touched t w) {
      hosts = record w.hosts { hosts = filter (stands (running_kept w i) (ups_kept w i)) w.hosts.hosts };
      neighbours = record w.neighbours { neighbours = filter (is_reached w.conf (running_kept w i)) w.neighbours.neighbours };
    };
    moment = refl;
  }

  taken : (number : ℕ) → Keeps t (λ w. record w { conns = without number w.conns })
  taken number w = record {
    is = ap (λ (conns : List Conn). record (touched t w) { conns = conns }) (without_any (touch t) (λ c. refl) t.number number w.conns);
    moment = refl;
  }

  pub close_keeps : (cause : Closing) (number : ℕ) → Keeps t (close cause number)
  close_keeps cause number =
      both (drop_conn number) (add_said (said.Closing number cause ∷ end_line number cause ∷ []))
      (both (λ w. record w { conns = without number w.conns }) forget_lost (taken number) forget_keeps)
      (added (said.Closing number cause ∷ end_line number cause ∷ []))
