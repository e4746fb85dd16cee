-- Known are those of some hosts that stand still: so it stays where something is said, where a connection goes, and where one comes to
-- be a datapath's.
use Rattle.std.proofs.Common.{◌≡◌, ℕ, ◌==◌, ◌&&◌, Bool, true, false, cond, Option, Some, None, List, [], ◌∷◌, filter, map, inl, inr, refl, sym, ap, ◌∙◌, subst, if◌then◌else◌}
use Rattle.std.specs.List.{flat_map}
use Rattle.std.specs.Option.{option_map, option_map_or}
use Rattle.std.proofs.lemmas.Bool.{cases_Bool, eqb-true}
use Rattle.net_base.specs.declared.numbers.DpId.{DpId}
use Rattle.conf_types.specs.declared.datapath.Dp.{Dp}
use Rattle.conf_types.specs.declared.state.HostRec.{HostRec}
use Rattle.conf_types.specs.Configuration.{Configuration}
use Rattle.of13_codec.specs.declared.message.Message.TheVariants as messages
use Rattle.switch_session.specs.declared.closing.Closing.{Closing}
use Rattle.switch_session.specs.declared.closing.Closing.TheVariants.{Replaced}
use Rattle.switch_session.specs.declared.state.Stage.TheVariants.{Ports}
use Rattle.ctl_world.specs.declared.conns.Conn.{Conn}
use Rattle.ctl_world.specs.Connections.{change, conn_of, conn_with, has_number, is_of, with_dp, without}
use Rattle.ctl_world.specs.Ends.{close, ended, forget_lost, stands}
use Rattle.ctl_world.specs.Saying.{ask}
use Rattle.ctl_world.specs.World.{World, has_ports, is_at_work, is_up_by, running_of, runs, ups_by, ups_of, ups_on}
use Rattle.ctl_life.specs.Life.{replace, take_dp}
use Rattle.ctl_world.proofs.Numbered.{unlike, without_other, without_own}
use Rattle.ctl_core.specs.Hearing.{introduce}
use Rattle.law_lives.proofs.Speaking.{IsQuiet, Speaks, asked_stays}
use Rattle.law_lives.specs.Hosts.{stands_in}
use Rattle.law_lives.proofs.Apart.{AreApart, IsOff, change_apart, none_off, take_apart, take_less, without_apart, without_less, without_off}
use Rattle.law_lives.proofs.Less.{Less, stands_less}

-- ---- where a change keeps what is seen of a datapath's connection

module _ (f : Conn → Conn) (is : IsQuiet f) where
  seen : {A : Type 0} (g : Conn → A) → ((c : Conn) → g (f c) ≡ g c) → (number : ℕ) (conns : List Conn) (id : DpId) (none : A)
      → option_map_or g (conn_of (change number f conns) id) none ≡ option_map_or g (conn_of conns id) none
  seen g same number [] id none = refl
  seen g same number (c ∷ cs) id none =
      elim (has_number number c) as (λ b. option_map_or g (conn_of (if b then f c ∷ cs else c ∷ change number f cs) id) none ≡ option_map_or g (conn_of (c ∷ cs) id) none) [
        | true ↦ ap (λ o. option_map_or g (cond (option_map_or (λ (d : DpId). d.0 == id.0) o false) (Some (f c)) (conn_of cs id)) none) (is.dp c)
            ∙ elim (is_of id c) as (λ b. option_map_or g (cond b (Some (f c)) (conn_of cs id)) none ≡ option_map_or g (cond b (Some c) (conn_of cs id)) none) [ true ↦ same c | false ↦ refl ]
        | false ↦ elim (is_of id c) as (λ b. option_map_or g (cond b (Some c) (conn_of (change number f cs) id)) none ≡ option_map_or g (cond b (Some c) (conn_of cs id)) none) [
          | true ↦ refl
          | false ↦ seen g same number cs id none
        ]
      ]

  works : (number : ℕ) (conns : List Conn) (d : Dp) → is_at_work (change number f conns) d ≡ is_at_work conns d
  works number conns d = seen (λ (c : Conn). runs c.session.state.stage) (λ c. ap runs (is.stage c)) number conns d.id false

  ups_seen : (number : ℕ) (conns : List Conn) (d : Dp) → ups_on (change number f conns) d ≡ ups_on conns d
  ups_seen number conns d =
      seen (ups_by d) (λ c i. if has_ports (is.stage c i) then map (λ p. record { dp = d.id; port = p.no }) (filter (is_up_by (is.ports c i)) d.ports) else []) number conns d.id []

  pub ups_same : (conf : Configuration) (number : ℕ) (conns : List Conn) → ups_of conf (change number f conns) ≡ ups_of conf conns
  ups_same conf number conns i = flat_map (λ (d : Dp). ups_seen number conns d i) conf.dps

  pub stands_same : (conf : Configuration) (number : ℕ) (conns : List Conn) → stands (running_of conf (change number f conns)) (ups_of conf (change number f conns)) ≡ stands (running_of conf conns) (ups_of conf conns)
  stands_same conf number conns i =
      stands (map (λ (d : Dp). d.id) (filter (λ (d : Dp). works number conns d i) conf.dps)) (flat_map (λ (d : Dp). ups_seen number conns d i) conf.dps)

-- ---- a filter behind a weaker one

pub filter_less : (p q : HostRec → Bool) → ((h : HostRec) → p h ≡ true → q h ≡ true) → (xs : List HostRec) → filter p (filter q xs) ≡ filter p xs
filter_less p q less [] = refl
filter_less p q less (x ∷ xs) =
    elim (cases_Bool (p x)) [
      | inl is ↦
          ap (λ b. filter p (cond b (x ∷ filter q xs) (filter q xs))) (less x is) ∙ ap (λ b. cond b (x ∷ filter p (filter q xs)) (filter p (filter q xs))) is
          ∙ ap (λ ys. x ∷ ys) (filter_less p q less xs) ∙ sym (ap (λ b. cond b (x ∷ filter p xs) (filter p xs)) is)
      | inr off ↦ dropped off (q x) ∙ filter_less p q less xs ∙ sym (ap (λ b. cond b (x ∷ filter p xs) (filter p xs)) off)
    ]
  where
    dropped : p x ≡ false → (b : Bool) → filter p (cond b (x ∷ filter q xs) (filter q xs)) ≡ filter p (filter q xs)
    dropped off true = ap (λ c. cond c (x ∷ filter p (filter q xs)) (filter p (filter q xs))) off
    dropped off false = refl

module _ (hosts : List HostRec) where
  pub record Keeps (w : World) : Type 0 where
    pub known : w.hosts.hosts ≡ filter (stands_in w) hosts
    pub apart : AreApart w.conns

  forgets : (w : World) (conns : List Conn) → AreApart conns → ((id : DpId) → Less (conn_of conns id) (conn_of w.conns id)) → Keeps w → Keeps (forget_lost (record w { conns = conns }))
  forgets w conns apart less keeps =
      let v : World = record w { conns = conns } in
      record {
        known = ap (filter (stands_in v)) keeps.known ∙ filter_less (stands_in v) (stands_in w) (stands_less conns w.conns less w.conf) hosts;
        apart = apart;
      }

  pub speaks : Speaks Keeps
  speaks = record {
    changes = λ f is number w keeps. record {
      known = keeps.known ∙ ap (λ (test : HostRec → Bool). filter test hosts) (sym (stands_same f is w.conf number w.conns));
      apart = change_apart f is.dp number w.conns keeps.apart;
    };
    says = λ number m xid w at keeps. record { known = keeps.known; apart = keeps.apart };
    meets = λ neighbours w keeps. record { known = keeps.known; apart = keeps.apart };
  }

  pub close_keeps : (cause : Closing) (number : ℕ) (w : World) → Keeps w → Keeps (close cause number w)
  close_keeps cause number w keeps =
      let left = forgets w (without number w.conns) (without_apart number w.conns keeps.apart) (without_less number w.conns keeps.apart) keeps in
      record { known = left.known; apart = left.apart }

  -- ---- one comes to be a datapath's, where its ports aren't told yet

  abbrev HasNoPorts : (number : ℕ) → List Conn → Type 0
  HasNoPorts number conns = (c : Conn) → conn_with conns number ≡ Some c → c.session.state.stage ≡ Ports

  left_with : (k n : ℕ) (conns : List Conn) (c : Conn) → conn_with (without k conns) n ≡ Some c → conn_with conns n ≡ Some c
  left_with k n conns c some =
      elim (cases_Bool (n == k)) [
        | inl is ↦
            let none : conn_with (without k conns) n ≡ None = ap (conn_with (without k conns)) (eqb-true n k is) ∙ without_own k conns in
            let e : None ≡ Some c = sym none ∙ some in
            absurd (cc)
        | inr other ↦ sym (without_other k n (unlike n k other) conns) ∙ some
      ]

  pub introduce_keeps : (number : ℕ) (dp : DpId) (cause : Option Closing) (w : World) → HasNoPorts number w.conns → Keeps w → Keeps (introduce number dp cause w)
  introduce_keeps number dp (Some cause) w ports keeps = close_keeps cause number w keeps
  introduce_keeps number dp None w ports keeps = asked_stays Keeps speaks number messages.PortDescRequest (take_dp number dp (replace dp w)) (by (conn_of w.conns dp) refl)
    where
      taken : (v : World) → IsOff dp v.conns → HasNoPorts number v.conns → Keeps v → Keeps (take_dp number dp v)
      taken v off none kept =
          forgets v (change number (with_dp dp) v.conns) (take_apart dp number v.conns off kept.apart) (take_less dp number v.conns kept.apart none) kept

      by : (o : Option Conn) → conn_of w.conns dp ≡ o → Keeps (take_dp number dp (option_map_or (λ (c : Conn). close Replaced c.number w) o w))
      by None is = taken w (none_off dp w.conns is) ports keeps
      by (Some c) is =
          taken (close Replaced c.number w) (without_off dp w.conns c keeps.apart is) (λ d some. ports d (left_with c.number number w.conns d some)) (close_keeps Replaced c.number w keeps)

  pub ended_keeps : (cause : Closing) (number : ℕ) (w : World) → Keeps w → Keeps (ended cause number w)
  ended_keeps cause number w keeps =
      let left = forgets w (without number w.conns) (without_apart number w.conns keeps.apart) (without_less number w.conns keeps.apart) keeps in
      record { known = left.known; apart = left.apart }
