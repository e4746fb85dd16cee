-- What is done in a turn beside opening, hearing and batches leaves each life and connection fitting.
use Rattle.std.proofs.Common.{◌≡◌, ℕ, true, Option, Some, List, [], ◌∷◌, ◌++◌, refl, sym, ap, ◌∙◌}
use Rattle.std.specs.List.{concat}
use Rattle.fg_outside.specs.declared.hub.Happening.{Happening}
use Rattle.net_base.specs.declared.numbers.DpId.{DpId}
use Rattle.neighbour_resolve.specs.declared.asks.Outgoing.{Outgoing}
use Rattle.of13_codec.specs.declared.message.Message.{Message}
use Rattle.of13_codec.specs.declared.message.Message.TheVariants as messages
use Rattle.switch_session.specs.declared.closing.Closing.{Closing}
use Rattle.switch_session.specs.Connections.{next_id}
use Rattle.switch_session.specs.Stages.{State}
use Rattle.ctl_world.specs.declared.conns.Conn.{Conn}
use Rattle.ctl_world.specs.declared.said.Said.{Said}
use Rattle.ctl_world.specs.declared.said.Said.TheVariants as told
use Rattle.ctl_world.specs.Connections.{change, with_asked, with_looked, with_said}
use Rattle.ctl_world.specs.Ends.{close}
use Rattle.ctl_world.specs.Saying.{packet_out, say}
use Rattle.ctl_world.specs.World.{World}
use Rattle.ctl_core.proofs.PacketSteps.{packet_kept}
use Rattle.ctl_core.proofs.Walk.{Steps, wants_by}
use Rattle.ctl_core.specs.Hearing.{packet}
use Rattle.law_lives.specs.Lives.{Life, Lives, awaited_said, speaks}
use Rattle.law_lives.proofs.Runs.{Calm, Fit, Full, Lived, Runs, Way, closes, fit_changed, more, of_full, spoken, still, to_full}

-- ---- a message that is said, on one connection

-- what is said changes of the connection at most the id of what was said last and the barrier
pub spoken_lived : {T : Way} (T' : Way) (m : Message) (xid : ℕ) (l : Life) (c d : Conn) → d.session.unread ≡ c.session.unread → d.session.heard.0 ≡ c.session.heard.0 → (speaks m xid l).state ≡ d.session.state
    → T' (speaks m xid l) d → Lived T l c → Lived T' (speaks m xid l) d
spoken_lived T' m xid l c d unread heard state holds it = record {
  open_ = it.open_;
  bytes = it.bytes ∙ ap (λ (u : List ℕ). concat l.frames ++ u) (sym unread);
  frames = it.frames;
  last = it.last ∙ sym heard;
  state = state;
  holds = holds;
}

pub said_lived : (T T' : Way) (m : Message) (xid : ℕ) (l : Life) (c : Conn) → awaited_said m xid l.state.awaited ≡ l.state.awaited → (T l c → T' (speaks m xid l) (with_said c)) → Lived T l c
    → Lived T' (speaks m xid l) (with_said c)
said_lived T T' m xid l c same holds it =
    spoken_lived T' m xid l c (with_said c) refl refl (ap (λ (a : Option ℕ). record l.state { awaited = a }) same ∙ it.state) (holds it.holds) it

pub asked_lived : (T T' : Way) (m : Message) (l : Life) (c : Conn) → awaited_said m (next_id c.session.last_xid) l.state.awaited ≡ Some (next_id c.session.last_xid)
    → (T l c → T' (speaks m (next_id c.session.last_xid) l) (with_asked c)) → Lived T l c → Lived T' (speaks m (next_id c.session.last_xid) l) (with_asked c)
asked_lived T T' m l c same holds it =
    spoken_lived T' m (next_id c.session.last_xid) l c (with_asked c) refl refl
    (ap (λ (a : Option ℕ). record l.state { awaited = a }) same ∙ ap (λ (s : State). record s { awaited = Some (next_id c.session.last_xid) }) it.state) (holds it.holds) it

module _ (what : Happening) (start : Lives) where
  abbrev pub Kept : World → Type 0
  Kept w = Runs what start Full w.conns w.said

  sends : (number : ℕ) (out : Outgoing) (w : World) → Kept w → Kept (say number (packet_out out) w)
  sends number out w kept =
      let m : Message = packet_out out in
      to_full what start number (say number m w).conns (say number m w).said
      (spoken what start number m with_said (λ c. refl) Calm Calm true true w
      (λ lives c is it fit. (tt, said_lived Calm Calm m (next_id c.session.last_xid) (lives number) c refl (λ h. h) it, fit.alone))
      (of_full what start number w.conns w.said kept))

  probes : (number : ℕ) (w : World) → Kept w → Kept (say number (messages.EchoRequest []) w)
  probes number w kept =
      let m : Message = messages.EchoRequest [] in
      to_full what start number (say number m w).conns (say number m w).said
      (spoken what start number m with_said (λ c. refl) Calm Calm true true w
      (λ lives c is it fit. (tt, said_lived Calm Calm m (next_id c.session.last_xid) (lives number) c refl (λ h. h) it, fit.alone))
      (of_full what start number w.conns w.said kept))

  pub close_kept : (cause : Closing) (number : ℕ) (w : World) → Kept w → Kept (close cause number w)
  close_kept cause number w kept = closes what start Calm (λ l c calm. calm.2) true cause number w (of_full what start number w.conns w.said kept)

  -- a change that nothing of a life sees
  pub changed : (number : ℕ) (f : Conn → Conn) → ((c : Conn) → (f c).number ≡ c.number) → ((l : Life) (c : Conn) → Lived Calm l c → Lived Calm l (f c)) → (w : World) → Kept w
      → Kept (record w { conns = change number f w.conns })
  changed number f same seen w kept =
      to_full what start number (change number f w.conns) w.said
      (still what start (Fit number Calm true) (Fit number Calm true) w.conns (change number f w.conns) w.said
      (λ lives fit. fit_changed number f same Calm Calm true lives w.conns (λ c is it. seen (lives number) c it) fit)
      (of_full what start number w.conns w.said kept))

  pub tells : (text : List ℕ) (conns : List Conn) (said : List Said) → Runs what start Full conns said → Runs what start Full conns (said ++ told.Line text ∷ [])
  tells text conns said kept = more what start (told.Line text) Full Full conns conns said (λ lives full. (tt, full)) kept

  pub single : Steps Kept
  single = record {
    sends = sends;
    asks_echo = probes;
    closes = λ cause number w at kept. close_kept cause number w kept;
    looks = λ number w kept.
        changed number (with_looked w.moment) (λ c. refl) (λ l c it. record { open_ = it.open_; bytes = it.bytes; frames = it.frames; last = it.last; state = it.state; holds = it.holds }) w kept;
    shows = λ moment w kept. kept;
    ages = λ w kept. kept;
    wants = λ group w kept. wants_by Kept group w kept kept;
    tells = λ text w kept. tells text w.conns w.said kept;
  }

  pub packets : (m : Message) (number : ℕ) (dp : Option DpId) (w : World) → Kept w → Kept (packet m number dp w)
  packets m number dp w kept = packet_kept (λ conf conns said. Runs what start Full conns said) sends m number dp w kept
