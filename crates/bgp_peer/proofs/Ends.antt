-- A connection goes on, or its end is told.
use Rattle.std.proofs.Common.{◌≡◌, ℕ, Bool, true, false, cond, List, [], ◌∷◌, ◌++◌, length, Option, Some, None, refl, sym, ap, ◌∙◌, subst, inl, inr}
use Rattle.std.specs.Prelude.{◌==◌}
use Rattle.std.specs.Option.{option_map_or}
use Rattle.std.proofs.lemmas.Bool.{eqb-true}
use Rattle.fg_outside.specs.declared.hub.EndCause.{EndCause}
use Rattle.fg_outside.specs.declared.hub.Happening.{Happening}
use Rattle.fg_outside.specs.declared.hub.Happening.TheVariants.{Opened, Heard, Closed, Moment as Shown, Reload}
use Rattle.bgp_messages.specs.declared.said.Said.TheVariants as words
use Rattle.bgp_session.specs.declared.step.Step.{Step}
use Rattle.bgp_session.specs.declared.step.Step.TheVariants.{Nothing, Say, Refuse, Told}
use Rattle.bgp_session.specs.Sessions.{Event, moment_comes, leads}
use Rattle.bgp_peer.specs.declared.known.Known.{Known}
use Rattle.bgp_peer.specs.declared.peer.Peer.{Peer}
use Rattle.bgp_peer.specs.declared.saying.BgpClosing.TheVariants.{Heard as Told_by}
use Rattle.bgp_peer.specs.Sayings.{sends, refusal, closing_for}
use Rattle.bgp_peer.specs.Peers.{is_on, act, takes, turned_away, lost, ticks}
use Rattle.bgp_peer.specs.Turns.{hear_all, opened_beside, heard, closed, at_moment, anew, turn}
use Rattle.bgp_peer.specs.Stories.{IsGone, GoesOn}
use Rattle.bgp_peer.proofs.Keeping.{each_kept}

some_same : (a b : ℕ) → ◌≡◌ {A = Option ℕ} (Some a) (Some b) → a ≡ b
some_same a b e = cc

acted : (conn : ℕ) (step : Step) (p : Peer) → p.conn ≡ Some conn → GoesOn conn (act conn step p)
acted conn Nothing p e = inl e
acted conn (Say message) p e = inl e
acted conn (Refuse fault) p e = inr (record { none = refl; routes = refl; front = p.said ++ sends conn (words.Notification fault) ∷ []; cause = refusal fault; last = refl })
acted conn (Told told) p e = inr (record { none = refl; routes = refl; front = p.said; cause = Told_by told.code told.subcode; last = refl })

taken : (own conn : ℕ) (event : Event) (p : Peer) → p.conn ≡ Some conn → GoesOn own p → GoesOn own (takes conn event p)
taken own conn event p e g = elim g [
  | inl on ↦
      let same : conn ≡ own = some_same conn own (sym e ∙ on) in
      let next = leads p.session p.moment event in
      subst (λ c. GoesOn c (takes conn event p)) same (acted conn next.1 (record p { session = next.0 }) e)
  | inr gone ↦ let both : Some conn ≡ None = sym e ∙ gone.none in absurd (cc)
]

routed : (own : ℕ) (p : Peer) (conn : ℕ) → p.conn ≡ Some conn → GoesOn own p → p.conn ≡ Some own
routed own p conn e g = elim g [
  | inl on ↦ on
  | inr gone ↦ let both : Some conn ≡ None = sym e ∙ gone.none in absurd (cc)
]

module _ (own : ℕ) where
  hearing : (k : Known) (conn : ℕ) (piece : List ℕ) → k.peer.conn ≡ Some own → GoesOn own (heard conn piece k).peer
  hearing k conn piece e = by (is_on conn k.peer)
    where
      by : (b : Bool) → GoesOn own (cond b (hear_all (record k { unread = k.unread ++ piece })) k).peer
      by true = each_kept (GoesOn own) (taken own) (λ p c routes e g. inl (routed own p c e g)) (length (k.unread ++ piece)) (record k { unread = k.unread ++ piece }) (inl e)
      by false = inl e

  on_it : (conn : ℕ) (o : Option ℕ) → o ≡ Some own → option_map_or (λ open_. open_ == conn) o false ≡ true → own ≡ conn
  on_it conn o e on = eqb-true own conn (sym (ap (λ (o : Option ℕ). option_map_or (λ open_. open_ == conn) o false) e) ∙ on)

  closing : (k : Known) (conn : ℕ) (cause : EndCause) → k.peer.conn ≡ Some own → GoesOn own (closed conn cause k).peer
  closing k conn cause e = by (is_on conn k.peer) refl
    where
      gone : IsGone conn (lost conn cause k.peer)
      gone = record { none = refl; routes = refl; front = k.peer.said; cause = closing_for cause; last = refl }

      by : (b : Bool) → is_on conn k.peer ≡ b → GoesOn own (cond b (record k { peer = lost conn cause k.peer }) k).peer
      by true on = inr (subst (λ c. IsGone c (lost conn cause k.peer)) (sym (on_it conn k.peer.conn e on)) gone)
      by false on = inl e

  opening : (k : Known) (conn : ℕ) → k.peer.conn ≡ Some own → GoesOn own (opened_beside k.peer.conn conn k).peer
  opening k conn e = subst (λ o. GoesOn own (opened_beside o conn k).peer) (sym e) (beside (own == conn))
    where
      beside : (b : Bool) → GoesOn own (cond b k (record k { peer = turned_away conn k.peer })).peer
      beside true = inl e
      beside false = inl e

  ticking : (p : Peer) → p.conn ≡ Some own → GoesOn own (ticks p)
  ticking p e = by p.conn refl
    where
      by : (o : Option ℕ) → p.conn ≡ o → GoesOn own (option_map_or (λ conn. takes conn moment_comes p) o p)
      by None q = inl e
      by (Some conn) q = taken own conn moment_comes p q (inl e)

  turned : (k : Known) (h : Happening) → k.peer.conn ≡ Some own → GoesOn own (turn h k).peer
  turned k (Opened conn) e = opening (anew k) conn e
  turned k (Heard conn piece) e = hearing (anew k) conn piece e
  turned k (Closed conn cause) e = closing (anew k) conn cause e
  turned k (Shown moment) e = ticking (at_moment moment (anew k).peer) e
  turned k (Reload text) e = inl e

pub or_told : (k : Known) (h : Happening) (conn : ℕ) → k.peer.conn ≡ Some conn → GoesOn conn (turn h k).peer
or_told k h conn e = turned conn k h e
