-- What is said of tables on one connection stays what it was, where what is said is no message of tables, or said on another.
use Rattle.std.proofs.Common.{◌≡◌, ℕ, ◌==◌, ◌||◌, Bool, true, false, Option, Some, None, List, [], ◌∷◌, ◌++◌, is_some, refl, sym, ap, ◌∙◌, eq-eqb, if◌then◌else◌}
use Rattle.std.specs.Option.{option_map, option_map_or}
use Rattle.net_base.specs.declared.numbers.DpId.{DpId}
use Rattle.of_match.specs.declared.entry.Command.{Command}
use Rattle.of_match.specs.declared.entry.Entry.{Entry}
use Rattle.of_match.specs.FlowTables.{IsInKeyOrder}
use Rattle.conf_types.specs.declared.datapath.Dp.{Dp}
use Rattle.conf_types.specs.Configuration.{Configuration}
use Rattle.conf_types.specs.State.{State, is_running}
use Rattle.cold_start.specs.Cold.{cold}
use Rattle.neighbour_resolve.specs.Asks.{in_order}
use Rattle.of13_codec.specs.declared.message.Message.{Message}
use Rattle.of13_codec.specs.declared.message.Message.TheVariants as messages
use Rattle.plan_difference.specs.Difference.{difference}
use Rattle.flow_messages.specs.Messages.{command_message}
use Rattle.switch_session.specs.declared.closing.Closing.{Closing}
use Rattle.switch_session.specs.Connections.{next_id}
use Rattle.ctl_world.specs.declared.conns.Conn.{Conn}
use Rattle.ctl_world.specs.declared.said.Said.{Said}
use Rattle.ctl_world.specs.declared.said.Said.TheVariants as told
use Rattle.ctl_world.specs.Connections.{conn_of, conn_with, with_asked, with_said}
use Rattle.ctl_world.specs.Ends.{close, end_line}
use Rattle.ctl_world.specs.Saying.{ask, packet_out, repeat, say, say_by}
use Rattle.ctl_world.specs.TablesSaid.{said_more, tables_said}
use Rattle.ctl_world.specs.World.{World, running}
use Rattle.ctl_core.specs.Settlings.{ask_all, batch, batch_on, batches, say_batch, say_each, settle, wanted}
use Rattle.ctl_world.proofs.Numbered.{has_it}
use Rattle.ctl_core.proofs.Ordered.{AreOrdered}
use Rattle.ctl_core.proofs.Walk.{Steps, asks_kept, wants_by}
use Rattle.law_stories.proofs.Fits.{Told}
use Rattle.law_stories.proofs.Settles.{asks_alike, batch_batched, batched_running, batches_batched, number_of}
use Rattle.law_stories.proofs.Ways.{IsPlain, more_said, other_more, plain_more}

module _ (number : ℕ) (past : List Said) (before : Told) where
  abbrev pub Same : World → Type 0
  Same w = tables_said number (past ++ w.said) ≡ before

  one_more : (w v : World) (x : Said) → v.said ≡ w.said ++ x ∷ [] → ((t : Told) → said_more number t x ≡ t) → Same w → Same v
  one_more w v x said kept is =
      ap (λ (s : List Said). tables_said number (past ++ s)) said ∙ more_said number past w.said (x ∷ []) ∙ kept (tables_said number (past ++ w.said)) ∙ is

  spoken : (f : Conn → Conn) (n : ℕ) (m : Message) (w : World) → ((c : Conn) → c.number ≡ n → (t : Told) (xid : ℕ) → said_more number t (told.Message c.number m xid) ≡ t)
      → Same w → Same (option_map_or (say_by f m w) (conn_with w.conns n) w)
  spoken f n m w kept is = by (conn_with w.conns n) refl
    where
      by : (o : Option Conn) → conn_with w.conns n ≡ o → Same (option_map_or (say_by f m w) o w)
      by None none = is
      by (Some c) some =
          one_more w (say_by f m w c) (told.Message c.number m (next_id c.session.last_xid)) refl (λ t. kept c (has_it n w.conns c some) t (next_id c.session.last_xid)) is

  -- ---- no message of tables

  pub said_same : (n : ℕ) (m : Message) → IsPlain m → (w : World) → Same w → Same (say n m w)
  said_same n m plain w is = spoken with_said n m w (λ c its t xid. plain_more number t c.number m xid plain) is

  pub asked_same : (n : ℕ) (m : Message) → IsPlain m → (w : World) → Same w → Same (ask n m w)
  asked_same n m plain w is = spoken with_asked n m w (λ c its t xid. plain_more number t c.number m xid plain) is

  pub repeated_same : (n : ℕ) (m : Message) → IsPlain m → (xid : ℕ) (w : World) → Same w → Same (repeat n m xid w)
  repeated_same n m plain xid w is = one_more w (repeat n m xid w) (told.Message n m xid) refl (λ t. plain_more number t n m xid plain) is

  pub close_same : (cause : Closing) (n : ℕ) (w : World) → Same w → Same (close cause n w)
  close_same cause n w is = more_said number past w.said (told.Closing n cause ∷ end_line n cause ∷ []) ∙ is

  pub single : Steps Same
  single = record {
    sends = λ n out w is. said_same n (packet_out out) (record { hello = refl; tables = refl }) w is;
    asks_echo = λ n w is. said_same n (messages.EchoRequest []) (record { hello = refl; tables = refl }) w is;
    closes = λ cause n w at is. close_same cause n w is;
    looks = λ n w is. is;
    shows = λ moment w is. is;
    ages = λ w is. is;
    wants = λ group w is. wants_by Same group w is is;
    tells = λ text w is. more_said number past w.said (told.Line text ∷ []) ∙ is;
  }

  -- ---- said on another connection

  module _ (n : ℕ) (differs : n ≡ number → ⊥) where
    other : (m : Message) (c : Conn) → c.number ≡ n → (t : Told) (xid : ℕ) → said_more number t (told.Message c.number m xid) ≡ t
    other m c its t xid = other_more number t c.number m xid (λ is. differs (sym its ∙ sym is))

    pub said_off : (m : Message) (w : World) → Same w → Same (say n m w)
    said_off m w is = spoken with_said n m w (other m) is

    pub asked_off : (m : Message) (w : World) → Same w → Same (ask n m w)
    asked_off m w is = spoken with_asked n m w (other m) is

    each_off : (commands : List Command) (w : World) → Same w → Same (say_each n commands w)
    each_off [] w is = is
    each_off (c ∷ more) w is = each_off more (say n (command_message c) w) (said_off (command_message c) w is)

    pub batch_off : (commands : List Command) (entries : List Entry) (w : World) → Same w → Same (say_batch n commands entries w)
    batch_off [] entries w is = is
    batch_off (c ∷ more) entries w is = asked_off messages.BarrierRequest (say_each n (c ∷ more) w) (each_off (c ∷ more) w is)

  -- ---- a settling in which no running datapath has the connection

  one_batch : (dp : DpId) (w : World) → (number_of w dp ≡ Some number → ⊥) → Same w → Same (batch dp w)
  one_batch dp w off is = by (conn_of w.conns dp) refl
    where
      by : (o : Option Conn) → conn_of w.conns dp ≡ o → Same (option_map_or (batch_on dp w) o w)
      by None none = is
      by (Some c) some =
          let differs : c.number ≡ number → ⊥ = λ its. off (ap (option_map (λ (x : Conn). x.number)) some ∙ ap (λ (k : ℕ). Some k) its) in
          elim (is_some c.session.state.awaited) as (λ b. Same (if b then w else say_batch c.number (difference c.sent (wanted w dp)) (wanted w dp) w)) [
            | true ↦ is
            | false ↦ batch_off c.number differs (difference c.sent (wanted w dp)) (wanted w dp) w is
          ]

  module _ (order : (conf : Configuration) (state : State) (d : Dp) → IsInKeyOrder (cold conf state d)) where
    all_batches : (dps : List DpId) (w : World) → AreOrdered w.conns → ((dp : DpId) → is_running dps dp ≡ true → number_of w dp ≡ Some number → ⊥) → Same w → Same (batches dps w)
    all_batches [] w ordered off is = is
    all_batches (dp ∷ dps) w ordered off is =
        let said = batch_batched order dp w ordered in
        all_batches dps (batch dp w) said.alike.ordered (λ id runs at. off id (behind_one dp id (is_running dps id) runs) (sym (said.alike.numbers id) ∙ at))
        (one_batch dp w (off dp (ap (λ b. b || is_running dps dp) (eq-eqb dp.0 dp.0 refl))) is)
      where
        behind_one : (x id : DpId) (b : Bool) → b ≡ true → ((x.0 == id.0) || b) ≡ true
        behind_one x id b is = ap (λ c. (x.0 == id.0) || c) is ∙ (elim (x.0 == id.0) as (λ c. (c || true) ≡ true) [ true ↦ refl | false ↦ refl ])

    pub settled_same : ((ids : List DpId) (dp : DpId) → is_running (in_order ids) dp ≡ is_running ids dp) → (w : World) → AreOrdered w.conns
        → ((dp : DpId) (c : Conn) → is_running (running (settle w)) dp ≡ true → conn_of w.conns dp ≡ Some c → c.number ≡ number → ⊥) → Same w → Same (settle w)
    settled_same same w ordered off is =
        let v : World = ask_all w in
        let alike = asks_alike w ordered in
        let run : running (settle w) ≡ running v = batched_running v (settle w) (batches_batched order (in_order (running v)) v alike.ordered) in
        all_batches (in_order (running v)) v alike.ordered
        (λ dp runs at.
        none_of dp (ap (λ (ids : List DpId). is_running ids dp) run ∙ sym (same (running v) dp) ∙ runs) (conn_of w.conns dp) refl (sym (alike.numbers dp) ∙ at))
        (asks_kept Same single (λ u kept. kept) w is)
      where
        none_of : (dp : DpId) → is_running (running (settle w)) dp ≡ true → (o : Option Conn) → conn_of w.conns dp ≡ o → option_map (λ (x : Conn). x.number) o ≡ Some number → ⊥
        none_of dp runs None none at = absurd (cc)
        none_of dp runs (Some c) some at = off dp c runs some (let its : c.number ≡ number = cc in its)
