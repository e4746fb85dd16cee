-- At a moment exactly the connections are closed that are silent then.
use Rattle.std.proofs.Common.{◌≡◌, ℕ, ◌==◌, ◌-◌, ◌&&◌, ◌||◌, nat_le, max, not, Bool, true, false, is_some, Option, Some, None, List, [], ◌∷◌, ◌++◌, map, inl, inr, refl, sym, ap, subst, ◌∙◌, eq-eqb, if◌then◌else◌}
use Rattle.std.specs.List.{list_any}
use Rattle.std.specs.Option.{option_map_or}
use Rattle.std.proofs.lemmas.Bool.{cases_Bool, eqb-true}
use Rattle.std.proofs.lemmas.List.Folds.{list_any-append}
use Rattle.net_base.specs.declared.numbers.Moment.{Moment}
use Rattle.of13_codec.specs.declared.message.Message.{Message}
use Rattle.of13_codec.specs.declared.message.Message.TheVariants as messages
use Rattle.switch_session.specs.declared.closing.Closing.{Closing}
use Rattle.switch_session.specs.declared.closing.Closing.TheVariants as closings
use Rattle.switch_session.specs.declared.quiet.Quiet.{Quiet}
use Rattle.switch_session.specs.declared.quiet.Quiet.TheVariants as quiet
use Rattle.switch_session.specs.Connections.{due_at}
use Rattle.ctl_world.specs.declared.conns.Conn.{Conn}
use Rattle.ctl_world.specs.declared.said.Said.{Said}
use Rattle.ctl_world.specs.declared.said.Said.TheVariants as told
use Rattle.ctl_world.specs.Connections.{change, conn_with, has_number, is_open, with_looked, with_said, without}
use Rattle.ctl_world.specs.Ends.{end_line}
use Rattle.ctl_world.specs.Saying.{say, say_by}
use Rattle.ctl_world.specs.World.{World}
use Rattle.ctl_core.specs.Settlings.{settle}
use Rattle.ctl_life.specs.Silence.{falls_silent, is_silent, look, look_each, look_on, show, stir}
use Rattle.ctl_life.specs.Silence as silences
use Rattle.ctl_life.proofs.FallsSilent.{closes_silent}
use Rattle.ctl_world.proofs.Numbered.{apart, has_it, unlike, with_seen, without_other, without_own}
use Rattle.ctl_life.proofs.Openings.{open_is}
use Rattle.ctl_core.specs.Turns.{pass}
use Rattle.law_lives.specs.Causes.{closes}
use Rattle.law_lives.proofs.Walk.{Steps, look_stays, settle_stays}

pub or_none : (b : Bool) → (b || false) ≡ b
or_none true = refl
or_none false = refl

module _ (n : ℕ) where
  abbrev pub closed : List Said → Bool
  closed said = list_any (closes n) said

  pub closed_more : (said more : List Said) → closed (said ++ more) ≡ (closed said || closed more)
  closed_more said more = list_any-append (closes n) said more

  -- a message more is none
  message_more : (said : List Said) (number : ℕ) (m : Message) (xid : ℕ) → closed (said ++ told.Message number m xid ∷ []) ≡ closed said
  message_more said number m xid = closed_more said (told.Message number m xid ∷ []) ∙ or_none (closed said)

  -- ---- a settling closes none

  module _ (b : Bool) where
    abbrev Has : World → Type 0
    Has w = closed w.said ≡ b

    single : Steps (λ number cause. ⊥) Has
    single = record {
      changes = λ f is number w has. has;
      says = λ number m xid w at has. message_more w.said number m xid ∙ has;
      closes = λ cause number w is at has. absurd is;
      knows = λ hosts neighbours w has. has;
    }

  pub settle_closes : (w : World) → closed (settle w).said ≡ closed w.said
  settle_closes w = settle_stays (λ number cause. ⊥) (Has (closed w.said)) (single (closed w.said)) w refl

  -- ---- a connection that is looked at is closed where it is silent

  say_closes : (number : ℕ) (m : Message) (w : World) → closed (say number m w).said ≡ closed w.said
  say_closes number m w = by (conn_with w.conns number)
    where
      by : (o : Option Conn) → closed (option_map_or (say_by with_said m w) o w).said ≡ closed w.said
      by (Some c) = message_more w.said c.number m _
      by None = refl

  stir_closes : (q : Quiet) (number : ℕ) (w : World) → closed (stir q number w).said ≡ (closed w.said || ((number == n) && silences.closes q))
  stir_closes quiet.Well number w = sym (none number (closed w.said))
    where
      none : (k : ℕ) (b : Bool) → (b || ((k == n) && false)) ≡ b
      none k b = elim (k == n) as (λ (c : Bool). (b || (c && false)) ≡ b) [ true ↦ or_none b | false ↦ or_none b ]
  stir_closes quiet.Echo number w = say_closes number (messages.EchoRequest []) w ∙ sym (none number (closed w.said))
    where
      none : (k : ℕ) (b : Bool) → (b || ((k == n) && false)) ≡ b
      none k b = elim (k == n) as (λ (c : Bool). (b || (c && false)) ≡ b) [ true ↦ or_none b | false ↦ or_none b ]
  stir_closes quiet.Silent number w =
      closed_more w.said (told.Closing number closings.Silent ∷ end_line number closings.Silent ∷ [])
      ∙ ap (λ (b : Bool). closed w.said || b) (elim (number == n) as (λ (c : Bool). (c || (false || false)) ≡ (c && true)) [ true ↦ refl | false ↦ refl ])

  abbrev silent : World → Bool
  silent w = falls_silent w n

  look_closes : (number : ℕ) (w : World) → closed (look number w).said ≡ (closed w.said || ((number == n) && falls_silent w number))
  look_closes number w = by (conn_with w.conns number) refl
    where
      by : (o : Option Conn) → conn_with w.conns number ≡ o → closed (option_map_or (look_on w) o w).said ≡ (closed w.said || ((number == n) && option_map_or (is_silent w.moment) o false))
      by None is = sym (elim (number == n) as (λ (c : Bool). (closed w.said || (c && false)) ≡ closed w.said) [ true ↦ or_none (closed w.said) | false ↦ or_none (closed w.said) ])
      by (Some c) is =
          stir_closes (due_at c.session w.moment) c.number (record w { conns = change c.number (with_looked w.moment) w.conns })
          ∙ (λ i. closed w.said || ((has_it number w.conns c is i == n) && closes_silent w.moment (Some c) i))

  -- ---- and then isn't silent any more, while the others stay so

  module _ (m : Moment) where
    abbrev quiet_in : List Conn → Bool
    quiet_in conns = option_map_or (is_silent m) (conn_with conns n) false

    module _ (b : Bool) where
      abbrev Stays : World → Type 0
      Stays w = quiet_in w.conns ≡ b

      still : Steps (λ number cause. number ≡ n → ⊥) Stays
      still = record {
        changes = λ f is number w stays.
            with_seen f is.number number (is_silent m) (λ c. ap (λ (h : Moment). nat_le 60000 (m.0 - h.0)) (is.heard c)) n w.conns false ∙ stays;
        says = λ number message xid w at stays. stays;
        closes = λ cause number w differs at stays. ap (λ (o : Option Conn). option_map_or (is_silent m) o false) (without_other number n (λ same. differs (sym same)) w.conns) ∙ stays;
        knows = λ hosts neighbours w stays. stays;
      }

    look_others : (number : ℕ) (w : World) → (number ≡ n → ⊥) → quiet_in (look number w).conns ≡ quiet_in w.conns
    look_others number w differs = look_stays (λ k cause. k ≡ n → ⊥) (Stays (quiet_in w.conns)) (still (quiet_in w.conns)) number w differs refl

  look_moment : (number : ℕ) (w : World) → (look number w).moment ≡ w.moment
  look_moment number w = by (conn_with w.conns number)
    where
      said : (k : ℕ) (v : World) → (say k (messages.EchoRequest []) v).moment ≡ v.moment
      said k v = elim (conn_with v.conns k) as (λ o. (option_map_or (say_by with_said (messages.EchoRequest []) v) o v).moment ≡ v.moment) [ Some c ↦ refl | None ↦ refl ]

      stirred : (q : Quiet) (k : ℕ) (v : World) → (stir q k v).moment ≡ v.moment
      stirred quiet.Well k v = refl
      stirred quiet.Echo k v = said k v
      stirred quiet.Silent k v = refl

      by : (o : Option Conn) → (option_map_or (look_on w) o w).moment ≡ w.moment
      by None = refl
      by (Some c) = stirred (due_at c.session w.moment) c.number (record w { conns = change c.number (with_looked w.moment) w.conns })

  -- one that was looked at isn't silent: it was closed, or no byte is missing
  look_own : (w : World) → silent (look n w) ≡ false
  look_own w = by (conn_with w.conns n) refl
    where
      said : (k : ℕ) (v : World) → silent (say k (messages.EchoRequest []) v) ≡ silent v
      said k v = by_conn (conn_with v.conns k)
        where
          by_conn : (o : Option Conn) → silent (option_map_or (say_by with_said (messages.EchoRequest []) v) o v) ≡ silent v
          by_conn (Some c) = with_seen with_said (λ k. refl) c.number (is_silent v.moment) (λ k. refl) n v.conns false
          by_conn None = refl

      stirred : (q : Quiet) (b : Bool) → silences.closes q ≡ b → (k : ℕ) (v : World) → k ≡ n → silent v ≡ b → silent (stir q k v) ≡ false
      stirred quiet.Well b tells k v same is = is ∙ sym tells
      stirred quiet.Echo b tells k v same is = said k v ∙ is ∙ sym tells
      stirred quiet.Silent b tells k v same is =
          ap (λ (o : Option Conn). option_map_or (is_silent v.moment) o false) (ap (λ (j : ℕ). conn_with (without j v.conns) n) same ∙ without_own n v.conns)

      by : (o : Option Conn) → conn_with w.conns n ≡ o → silent (option_map_or (look_on w) o w) ≡ false
      by None is = ap (λ (o : Option Conn). option_map_or (is_silent w.moment) o false) is
      by (Some c) is =
          stirred (due_at c.session w.moment) (is_silent w.moment c) (closes_silent w.moment (Some c)) c.number (record w { conns = change c.number (with_looked w.moment) w.conns })
          (has_it n w.conns c is)
          (with_seen (with_looked w.moment) (λ k. refl) c.number (is_silent w.moment) (λ k. refl) n w.conns false ∙ ap (λ (o : Option Conn). option_map_or (is_silent w.moment) o false) is)

  -- ---- each of them

  abbrev pub is_in : List ℕ → Bool
  is_in numbers = list_any (λ k. k == n) numbers

  own_case : (x among b c : Bool) → c ≡ false → ((x || b) || (among && c)) ≡ (x || b)
  own_case x true b c is = ap (λ (d : Bool). (x || b) || d) is ∙ or_none (x || b)
  own_case x false b c is = or_none (x || b)

  each_closes : (numbers : List ℕ) (w : World) → closed (look_each numbers w).said ≡ (closed w.said || (is_in numbers && silent w))
  each_closes [] w = sym (or_none (closed w.said))
  each_closes (k ∷ numbers) w =
      let v : World = look k w in
      let rest : closed (look_each numbers v).said ≡ (closed v.said || (is_in numbers && silent v)) = each_closes numbers v in
      elim (cases_Bool (k == n)) [
        | inl here ↦
            let same : k ≡ n = eqb-true k n here in
            let after : silent v ≡ false = ap (λ (j : ℕ). silent (look j w)) same ∙ look_own w in
            let by_look : closed v.said ≡ (closed w.said || silent w) =
            look_closes k w ∙ (λ i. closed w.said || (here i && falls_silent w (same i))) in
            rest
            ∙ ap (λ (b : Bool). b || (is_in numbers && silent v)) by_look
            ∙ own_case (closed w.said) (is_in numbers) (silent w) (silent v) after
            ∙ sym (ap (λ (b : Bool). closed w.said || ((b || is_in numbers) && silent w)) here)
        | inr other ↦
            let differs : k ≡ n → ⊥ = unlike k n other in
            let after : silent v ≡ silent w =
            ap (λ (m : Moment). option_map_or (is_silent m) (conn_with v.conns n) false) (look_moment k w) ∙ look_others w.moment k w differs in
            let by_look : closed v.said ≡ closed w.said =
            look_closes k w ∙ ap (λ (b : Bool). closed w.said || (b && falls_silent w k)) other ∙ or_none (closed w.said) in
            rest
            ∙ (λ i. by_look i || (is_in numbers && after i))
            ∙ sym (ap (λ (b : Bool). closed w.said || ((b || is_in numbers) && silent w)) other)
      ]

  numbers_in : (conns : List Conn) → is_in (map (λ (c : Conn). c.number) conns) ≡ is_open conns n
  numbers_in [] = refl
  numbers_in (c ∷ cs) = ap (λ (b : Bool). has_number n c || b) (numbers_in cs)

  -- what is silent is open
  open_silent : (m : Moment) (conns : List Conn) → (is_open conns n && option_map_or (is_silent m) (conn_with conns n) false) ≡ option_map_or (is_silent m) (conn_with conns n) false
  open_silent m conns = ap (λ (b : Bool). b && option_map_or (is_silent m) (conn_with conns n) false) (open_is conns n) ∙ by (conn_with conns n)
    where
      by : (o : Option Conn) → (is_some o && option_map_or (is_silent m) o false) ≡ option_map_or (is_silent m) o false
      by (Some c) = refl
      by None = refl

  pub moment_closes : (moment : ℕ) (w : World) → w.said ≡ [] → closed (settle (pass moment w)).said ≡ falls_silent (show moment w) n
  moment_closes moment w unsaid =
      let shown : World = show moment w in
      settle_closes (pass moment w) ∙ each_closes (map (λ (c : Conn). c.number) w.conns) shown
      ∙ (λ i. closed (unsaid i) || (numbers_in w.conns i && silent shown))
      ∙ open_silent shown.moment w.conns
