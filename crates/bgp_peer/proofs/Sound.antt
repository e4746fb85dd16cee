-- What holds of the peer whatever happened.
use Rattle.std.proofs.Common.{◌≡◌, ℕ, zero, suc, Bool, true, false, cond, ◌||◌, List, [], ◌∷◌, ◌++◌, length, take, drop, Option, Some, None, Result, Ok, Err, refl, sym, ap, ◌∙◌, subst, arith}
use Rattle.std.specs.Prelude.{◌==◌, nat_lt}
use Rattle.std.specs.Option.{option_map_or}
use Rattle.std.proofs.lemmas.Bool.Decides.{nat_tests}
use Rattle.std.proofs.lemmas.List.Folds.{list_any-append}
use Rattle.std.proofs.lemmas.List.Sums.{fold-append}
use Rattle.net_base.specs.declared.numbers.Moment.{Moment}
use Rattle.fg_outside.specs.declared.hub.EndCause.{EndCause}
use Rattle.bgp_messages.specs.declared.fault.Fault.{Fault}
use Rattle.bgp_messages.specs.declared.fault.Fault.TheVariants.{FiniteStateMachineError, Cease}
use Rattle.bgp_messages.specs.declared.head.Front.{Front}
use Rattle.bgp_messages.specs.declared.head.Front.TheVariants.{NotYet, Refused, Whole}
use Rattle.bgp_messages.specs.declared.kind.Kind.{Kind}
use Rattle.bgp_messages.specs.declared.message.Message.{Message}
use Rattle.bgp_messages.specs.declared.message.Message.TheVariants.{Open, Update, Notification, KeepAlive}
use Rattle.bgp_messages.specs.declared.message.Update.{Update as Updating}
use Rattle.bgp_messages.specs.declared.said.Said.TheVariants as words
use Rattle.bgp_messages.specs.Decoding.{decoded}
use Rattle.bgp_messages.specs.Heads.{front_of}
use Rattle.bgp_messages.specs.Messages.{kind_of_message}
use Rattle.bgp_messages.proofs.Decoding.{decoded_message}
use Rattle.bgp_session.specs.declared.session.Session.{Session}
use Rattle.bgp_session.specs.declared.session.State.TheVariants.{Idle, OpenSent, Established}
use Rattle.bgp_session.specs.declared.step.Step.{Step}
use Rattle.bgp_session.specs.declared.step.Step.TheVariants.{Nothing, Say, Refuse, Told}
use Rattle.bgp_session.specs.Sessions.{Event, peer_says, fault_met, moment_comes, is_open, is_awaited, begins, leads}
use Rattle.bgp_routes.specs.declared.routes.BgpRoute.{BgpRoute}
use Rattle.bgp_routes.specs.Stories.{Change, updated, routes_of, leads as changed}
use Rattle.bgp_routes.specs.Updates.{after}
use Rattle.bgp_peer.specs.declared.known.Known.{Known}
use Rattle.bgp_peer.specs.declared.peer.Peer.{Peer}
use Rattle.bgp_peer.specs.declared.peer.Peering.{Peering}
use Rattle.bgp_peer.specs.declared.saying.BgpSaying.{BgpSaying}
use Rattle.bgp_peer.specs.declared.saying.BgpSaying.TheVariants.{Close}
use Rattle.bgp_peer.specs.Sayings.{sends, refusal}
use Rattle.bgp_peer.specs.Peers.{act, stepped, takes, opens, turned_away, lost, ticks, hears_message, hears_decoded, hears_body}
use Rattle.bgp_peer.specs.Turns.{hear_front, hear_next, hear_each}
use Rattle.bgp_peer.specs.Stories.{is_said_on, says_on}
use Rattle.bgp_peer.proofs.Led.{StaysOpen, Goes, IsWithin, led, opening_is, ended_is_idle, updates_awaited, idle_not_established}

-- ---- what is held

-- routes are what UPDATEs and ends of sessions lead to
abbrev pub AreFolded : (our_as : ℕ) → List BgpRoute → Type 0
AreFolded our_as routes = (changes : List Change) × (routes ≡ routes_of our_as changes)

-- an open session said its last message on its connection in this turn, at this moment, or before it
pub record IsOpened (now : ℕ) (last : ℕ → ℕ) (conn : ℕ) (s : Session) (said : List BgpSaying) : Type 0 where
  pub opened : is_open s.state ≡ true
  pub said_last : s.said.0 ≡ cond (says_on conn said) now (last conn)
  pub waits : s.state ≡ OpenSent → s.hold ≡ 0

abbrev pub Connected : (now : ℕ) (last : ℕ → ℕ) → Option ℕ → Session → List BgpSaying → Type 0
Connected now last None s said = s.state ≡ Idle
Connected now last (Some conn) s said = IsOpened now last conn s said

pub record Sound (peering : Peering) (now : ℕ) (last : ℕ → ℕ) (p : Peer) : Type 0 where
  pub same : p.peering ≡ peering
  pub clock : p.moment.0 ≡ now
  pub connected : Connected now last p.conn p.session p.said
  pub routes : (p.session.state ≡ Established → ⊥) → p.routes ≡ []
  pub folded : AreFolded peering.our_as p.routes

no_routes : (our_as : ℕ) → AreFolded our_as []
no_routes our_as = ([], refl)

-- ---- what is said on a connection

or_true : (a : Bool) → (a || true) ≡ true
or_true true = refl
or_true false = refl

or_false : (a : Bool) → (a || false) ≡ a
or_false true = refl
or_false false = refl

own : (conn : ℕ) → (conn == conn) ≡ true
own conn = grind (arith, nat_tests)

says_more : (conn : ℕ) (said : List BgpSaying) (one : BgpSaying) → is_said_on conn one ≡ true → says_on conn (said ++ one ∷ []) ≡ true
says_more conn said one e = list_any-append (is_said_on conn) said (one ∷ []) ∙ ap (λ b. says_on conn said || (b || false)) e ∙ or_true (says_on conn said)

says_as_before : (conn : ℕ) (said : List BgpSaying) (one : BgpSaying) → is_said_on conn one ≡ false → says_on conn (said ++ one ∷ []) ≡ says_on conn said
says_as_before conn said one e = list_any-append (is_said_on conn) said (one ∷ []) ∙ ap (λ b. says_on conn said || (b || false)) e ∙ or_false (says_on conn said)

-- ---- a step of an open session

module _ (peering : Peering) (now : ℕ) (last : ℕ → ℕ) where
  on : (p : Peer) (conn : ℕ) → p.conn ≡ Some conn → Sound peering now last p → IsOpened now last conn p.session p.said
  on p conn e sound = subst (λ o. Connected now last o p.session p.said) e sound.connected

  still : (p : Peer) (t : Session) → StaysOpen p.session t → Sound peering now last p → (t.state ≡ Established → ⊥) → p.routes ≡ []
  still p t stays sound n = sound.routes (λ q. n (stays.established q))

  waiting : (p : Peer) (conn : ℕ) (t : Session) → StaysOpen p.session t → IsOpened now last conn p.session p.said → t.state ≡ OpenSent → t.hold ≡ 0
  waiting p conn t stays o q = let w = stays.waits q in w.1 ∙ o.waits w.0

  acts : (p : Peer) (conn : ℕ) (t : Session) (step : Step) → p.conn ≡ Some conn → Sound peering now last p → Goes p.session p.moment t step
      → Sound peering now last (act conn step (record p { session = t }))
  acts p conn t Nothing e sound g =
      let o = on p conn e sound in
      record {
        same = sound.same;
        clock = sound.clock;
        connected = subst (λ c. Connected now last c t p.said) (sym e) (record { opened = g.0.opened; said_last = ap (λ (m : Moment). m.0) g.1 ∙ o.said_last; waits = waiting p conn t g.0 o });
        routes = still p t g.0 sound;
        folded = sound.folded;
      }
  acts p conn t (Say message) e sound g =
      let o = on p conn e sound in
      let says = says_more conn p.said (sends conn message) (own conn) in
      record {
        same = sound.same;
        clock = sound.clock;
        connected = subst (λ c. Connected now last c t (p.said ++ sends conn message ∷ [])) (sym e)
            (record { opened = g.0.opened; said_last = ap (λ (m : Moment). m.0) g.1 ∙ sound.clock ∙ sym (ap (λ b. cond b now (last conn)) says); waits = waiting p conn t g.0 o });
        routes = still p t g.0 sound;
        folded = sound.folded;
      }
  acts p conn t (Refuse fault) e sound g = record { same = sound.same; clock = sound.clock; connected = g; routes = λ n. refl; folded = no_routes peering.our_as }
  acts p conn t (Told told) e sound g = record { same = sound.same; clock = sound.clock; connected = g; routes = λ n. refl; folded = no_routes peering.our_as }

  pub taken : (p : Peer) (conn : ℕ) (event : Event) → IsWithin event → p.conn ≡ Some conn → Sound peering now last p → Sound peering now last (takes conn event p)
  taken p conn event w e sound =
      let next = leads p.session p.moment event in
      acts p conn next.0 next.1 e sound (led p.session p.moment event (on p conn e sound).opened w)

  -- ---- a message

  changes : (p : Peer) (u : Updating) → p.peering ≡ peering → AreFolded peering.our_as p.routes → nat_lt 1024 (length (after p.peering.our_as p.routes u)) ≡ false
      → AreFolded peering.our_as (after p.peering.our_as p.routes u)
  changes p u same f few =
      let our_as = p.peering.our_as in
      let ours : our_as ≡ peering.our_as = ap (λ (q : Peering). q.our_as) same in
      let told : after our_as p.routes u ≡ changed our_as p.routes (updated u) = sym (ap (λ b. cond b p.routes (after our_as p.routes u)) few) in (
        f.0 ++ updated u ∷ [],
        told ∙ ap (λ n. changed n p.routes (updated u)) ours ∙ ap (λ r. changed peering.our_as r (updated u)) f.1
            ∙ sym (fold-append (changed peering.our_as) [] f.0 (updated u ∷ [])),
      )

  update_heard : (p : Peer) (conn : ℕ) (u : Updating) → p.conn ≡ Some conn → p.session.state ≡ Established → Sound peering now last p → Sound peering now last (hears_message conn (Update u) p)
  update_heard p conn u e st sound = by (nat_lt 1024 (length (after p.peering.our_as p.routes u))) refl
    where
      by : (b : Bool) → nat_lt 1024 (length (after p.peering.our_as p.routes u)) ≡ b
          → Sound peering now last (cond b (takes conn (fault_met Cease) p) (takes conn (peer_says (Update u)) (record p { routes = after p.peering.our_as p.routes u })))
      by true q = taken p conn (fault_met Cease) tt e sound
      by false q = taken (record p { routes = after p.peering.our_as p.routes u }) conn (peer_says (Update u)) tt e (record {
        same = sound.same;
        clock = sound.clock;
        connected = sound.connected;
        routes = λ n. absurd (n st);
        folded = changes p u sound.same sound.folded q;
      })

  message_heard : (p : Peer) (conn : ℕ) (message : Message) → p.conn ≡ Some conn → is_awaited p.session.state (kind_of_message message) ≡ true → Sound peering now last p
      → Sound peering now last (hears_message conn message p)
  message_heard p conn (Open o) e a sound = taken p conn (peer_says (Open o)) tt e sound
  message_heard p conn (Update u) e a sound = update_heard p conn u e (updates_awaited p.session.state a) sound
  message_heard p conn (Notification n) e a sound = taken p conn (peer_says (Notification n)) tt e sound
  message_heard p conn KeepAlive e a sound = taken p conn (peer_says KeepAlive) tt e sound

  body_heard : (p : Peer) (conn : ℕ) (kind : Kind) (body : List ℕ) → p.conn ≡ Some conn → Sound peering now last p → Sound peering now last (hears_body conn kind body p)
  body_heard p conn kind body e sound = by (is_awaited p.session.state kind) refl
    where
      told : is_awaited p.session.state kind ≡ true → (r : Result Message Fault) → decoded p.peering.peer_as kind body ≡ r → Sound peering now last (hears_decoded conn r p)
      told a (Ok message) q =
          let is = ((decoded_message p.peering.peer_as kind body message).0 q).0 in
          message_heard p conn message e (ap (is_awaited p.session.state) is ∙ a) sound
      told a (Err fault) q = taken p conn (fault_met fault) tt e sound

      by : (b : Bool) → is_awaited p.session.state kind ≡ b
          → Sound peering now last (cond b (hears_decoded conn (decoded p.peering.peer_as kind body) p) (takes conn (fault_met FiniteStateMachineError) p))
      by true a = told a (decoded p.peering.peer_as kind body) refl
      by false a = taken p conn (fault_met FiniteStateMachineError) tt e sound

  front_heard : (k : Known) (conn : ℕ) (f : Front) → k.peer.conn ≡ Some conn → Sound peering now last k.peer → Sound peering now last (hear_front conn f k).peer
  front_heard k conn NotYet e sound = sound
  front_heard k conn (Refused fault) e sound = taken k.peer conn (fault_met fault) tt e sound
  front_heard k conn (Whole head) e sound = body_heard k.peer conn head.kind (drop 19 (take head.len k.unread)) e sound

  next_heard : (k : Known) → Sound peering now last k.peer → Sound peering now last (hear_next k).peer
  next_heard k sound = by k.peer.conn refl
    where
      by : (o : Option ℕ) → k.peer.conn ≡ o → Sound peering now last (option_map_or (λ conn. hear_front conn (front_of k.unread) k) o k).peer
      by None e = sound
      by (Some conn) e = front_heard k conn (front_of k.unread) e sound

  pub each_heard : (most : ℕ) (k : Known) → Sound peering now last k.peer → Sound peering now last (hear_each most k).peer
  each_heard zero k sound = sound
  each_heard (suc most) k sound = each_heard most (hear_next k) (next_heard k sound)

  -- ---- connections and moments

  begun : (p : Peer) (conn : ℕ) → p.conn ≡ None → Sound peering now last p → Sound peering now last (stepped conn (begins p.session p.moment) (record p { conn = Some conn }))
  begun p conn e sound =
      let idle : p.session.state ≡ Idle = subst (λ o. Connected now last o p.session p.said) e sound.connected in
      let says = says_more conn p.said (sends conn (words.Open p.session.ours)) (own conn) in
      record {
        same = sound.same;
        clock = sound.clock;
        connected = record { opened = refl; said_last = sound.clock ∙ sym (ap (λ b. cond b now (last conn)) says); waits = λ q. refl };
        routes = λ n. sound.routes (idle_not_established p.session.state idle);
        folded = sound.folded;
      }

  pub opened_first : (p : Peer) (conn : ℕ) → p.conn ≡ None → Sound peering now last p → Sound peering now last (opens conn p)
  opened_first p conn e sound =
      let idle : p.session.state ≡ Idle = subst (λ o. Connected now last o p.session p.said) e sound.connected in
      subst (λ next. Sound peering now last (stepped conn next (record p { conn = Some conn }))) (sym (opening_is p.session p.moment idle)) (begun p conn e sound)

  pub opened_beside : (p : Peer) (conn other : ℕ) → p.conn ≡ Some conn → (conn == other) ≡ false → Sound peering now last p → Sound peering now last (turned_away other p)
  opened_beside p conn other e apart sound =
      let o = on p conn e sound in
      let apart_too : (other == conn) ≡ false = grind (arith, nat_tests, apart) in
      let refusing = sends other (words.Notification Cease) in
      let closing = Close other (refusal Cease) in
      let says = says_as_before conn (p.said ++ refusing ∷ []) closing refl ∙ says_as_before conn p.said refusing apart_too in
      record {
        same = sound.same;
        clock = sound.clock;
        connected = subst (λ c. Connected now last c p.session ((p.said ++ refusing ∷ []) ++ closing ∷ [])) (sym e) (record { opened = o.opened; said_last = o.said_last ∙ sym (ap (λ b. cond b now (last conn)) says); waits = o.waits });
        routes = sound.routes;
        folded = sound.folded;
      }

  pub lost_too : (p : Peer) (conn : ℕ) (cause : EndCause) → Sound peering now last p → Sound peering now last (lost conn cause p)
  lost_too p conn cause sound = record { same = sound.same; clock = sound.clock; connected = ended_is_idle p.session p.moment; routes = λ n. refl; folded = no_routes peering.our_as }

  pub ticked : (p : Peer) → Sound peering now last p → Sound peering now last (ticks p)
  ticked p sound = by p.conn refl
    where
      by : (o : Option ℕ) → p.conn ≡ o → Sound peering now last (option_map_or (λ conn. takes conn moment_comes p) o p)
      by None e = sound
      by (Some conn) e = taken p conn moment_comes tt e sound
