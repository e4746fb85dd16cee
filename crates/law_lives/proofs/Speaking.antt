-- What each message that is said keeps, a settling keeps; and what each closing keeps too, a look at the connections and the closings
-- of a reload.
use Rattle.std.proofs.Common.{◌≡◌, ℕ, zero, suc, true, false, Bool, Option, Some, None, List, [], ◌∷◌, is_some, length, map, refl, ◌∙◌, sym, subst, if◌then◌else◌}
use Rattle.std.specs.Option.{option_map_or}
use Rattle.net_base.specs.declared.numbers.DpId.{DpId}
use Rattle.of_match.specs.declared.entry.Command.{Command}
use Rattle.of_match.specs.declared.entry.Entry.{Entry}
use Rattle.conf_types.specs.Groups.{group_of}
use Rattle.of13_codec.specs.declared.message.Message.{Message}
use Rattle.of13_codec.specs.declared.message.Message.TheVariants as messages
use Rattle.flow_messages.specs.Messages.{command_message}
use Rattle.plan_difference.specs.Difference.{difference}
use Rattle.neighbour_resolve.specs.declared.neighbour.Due.{Due}
use Rattle.neighbour_resolve.specs.declared.neighbour.Due.TheVariants.{Ask, Gone}
use Rattle.neighbour_resolve.specs.Asks.{AskOn, asks, in_order}
use Rattle.neighbour_resolve.specs.Due.{due_said}
use Rattle.neighbour_resolve.specs.Table.{Table as Neighbours}
use Rattle.switch_session.specs.declared.closing.Closing.{Closing}
use Rattle.switch_session.specs.declared.closing.Closing.TheVariants.{Silent, UnknownDp}
use Rattle.switch_session.specs.declared.quiet.Quiet.{Quiet}
use Rattle.switch_session.specs.declared.quiet.Quiet.TheVariants as quiet
use Rattle.switch_session.specs.Connections.{due_at, next_id}
use Rattle.ctl_world.specs.declared.conns.Conn.{Conn}
use Rattle.ctl_world.specs.declared.said.Said.TheVariants as told
use Rattle.ctl_world.specs.Connections.{change, conn_of, conn_with, has_number, is_open, with_asked, with_looked, with_said, with_sent}
use Rattle.ctl_world.specs.Ends.{close}
use Rattle.ctl_world.specs.Saying.{add_said, ask, packet_out, say, say_by}
use Rattle.ctl_world.specs.World.{World, running}
use Rattle.ctl_core.specs.Settlings.{ask_all, ask_due, ask_each, ask_on, batch, batch_on, batches, say_batch, say_due, say_each, settle, take_due, wanted}
use Rattle.ctl_life.specs.Silence.{look, look_each, look_on, stir}
use Rattle.ctl_world.proofs.Numbered.{has_it}
use Rattle.ctl_life.proofs.Openings.{change_open, found_open}
use Rattle.ctl_core.specs.Hearing.{begin, want_gateways, want_in}
use Rattle.ctl_core.specs.Reloading.{close_each, close_stray, want_all, want_each}
use Rattle.ctl_core.proofs.Walk.{either, wants_by, with_any, with_found}

-- what a change leaves that comes with a message, or with a look
pub record IsQuiet (f : Conn → Conn) : Type 0 where
  pub number : (c : Conn) → (f c).number ≡ c.number
  pub dp : (c : Conn) → (f c).dp ≡ c.dp
  pub stage : (c : Conn) → (f c).session.state.stage ≡ c.session.state.stage
  pub ports : (c : Conn) → (f c).session.state.ports ≡ c.session.state.ports
  pub heard : (c : Conn) → (f c).session.heard ≡ c.session.heard

pub record Speaks (K : World → Type 0) : Type 0 where
  pub changes : (f : Conn → Conn) → IsQuiet f → (number : ℕ) (w : World) → K w → K (record w { conns = change number f w.conns })
  pub says : (number : ℕ) (m : Message) (xid : ℕ) (w : World) → is_open w.conns number ≡ true → K w → K (add_said (told.Message number m xid ∷ []) w)
  pub meets : (neighbours : Neighbours) (w : World) → K w → K (record w { neighbours = neighbours })

quiet_said : IsQuiet with_said
quiet_said = record { number = λ c. refl; dp = λ c. refl; stage = λ c. refl; ports = λ c. refl; heard = λ c. refl }

quiet_asked : IsQuiet with_asked
quiet_asked = record { number = λ c. refl; dp = λ c. refl; stage = λ c. refl; ports = λ c. refl; heard = λ c. refl }

module _ (K : World → Type 0) (speaks : Speaks K) where
  spoken : (f : Conn → Conn) → IsQuiet f → (number : ℕ) (m : Message) (w : World) → K w → K (option_map_or (say_by f m w) (conn_with w.conns number) w)
  spoken f is number m w stays =
      with_found K (say_by f m w) (has_number number) w
      (λ c at. speaks.says c.number m (next_id c.session.last_xid) (record w { conns = change c.number f w.conns }) (change_open f is.number c.number c.number w.conns ∙ at)
      (speaks.changes f is c.number w stays)) stays

  pub said_stays : (number : ℕ) (m : Message) (w : World) → K w → K (say number m w)
  said_stays number m w stays = spoken with_said quiet_said number m w stays

  pub asked_stays : (number : ℕ) (m : Message) (w : World) → K w → K (ask number m w)
  asked_stays number m w stays = spoken with_asked quiet_asked number m w stays

  -- ---- a settling

  on_stays : (a : AskOn) (w : World) → K w → K (ask_on a w)
  on_stays a w stays = with_any K (λ (c : Conn). say c.number (packet_out a.out) w) (conn_of w.conns a.dp) w (λ c. said_stays c.number (packet_out a.out) w stays) stays

  each_ask : (frames : List AskOn) (w : World) → K w → K (ask_each frames w)
  each_ask [] w stays = stays
  each_ask (a ∷ more) w stays = each_ask more (ask_on a w) (on_stays a w stays)

  due_said_stays : (due : Due) (w : World) → K w → K (say_due due w)
  due_said_stays (Ask group vid ip) w stays = each_ask (asks w.conf (running w) group vid ip) w stays
  due_said_stays (Gone group vid ip) w stays = stays

  due_stays : (most : ℕ) (w : World) → K w → K (ask_due most w)
  due_stays zero w stays = stays
  due_stays (suc most) w stays =
      with_any K (λ due. ask_due most (say_due due (take_due w))) (due_said w.conf w.moment.0 w.neighbours.neighbours) w
      (λ due. due_stays most (say_due due (take_due w)) (due_said_stays due (take_due w) (speaks.meets (take_due w).neighbours w stays))) stays

  commands_stay : (number : ℕ) (commands : List Command) (w : World) → K w → K (say_each number commands w)
  commands_stay number [] w stays = stays
  commands_stay number (c ∷ more) w stays = commands_stay number more (say number (command_message c) w) (said_stays number (command_message c) w stays)

  one_batch : (number : ℕ) (commands : List Command) (entries : List Entry) (w : World) → K w → K (say_batch number commands entries w)
  one_batch number [] entries w stays = stays
  one_batch number (c ∷ more) entries w stays =
      let all : World = say_each number (c ∷ more) w in
      speaks.changes (with_sent entries) (record { number = λ d. refl; dp = λ d. refl; stage = λ d. refl; ports = λ d. refl; heard = λ d. refl }) number (ask number messages.BarrierRequest all)
      (asked_stays number messages.BarrierRequest all (commands_stay number (c ∷ more) w stays))

  batch_stays : (dp : DpId) (w : World) → K w → K (batch dp w)
  batch_stays dp w stays =
      with_any K (batch_on dp w) (conn_of w.conns dp) w
      (λ c. either K (is_some c.session.state.awaited) w (say_batch c.number (difference c.sent (wanted w dp)) (wanted w dp) w) stays
      (one_batch c.number (difference c.sent (wanted w dp)) (wanted w dp) w stays))
      stays

  batches_stay : (dps : List DpId) (w : World) → K w → K (batches dps w)
  batches_stay [] w stays = stays
  batches_stay (dp ∷ dps) w stays = batches_stay dps (batch dp w) (batch_stays dp w stays)

  pub settle_stays : (w : World) → K w → K (settle w)
  settle_stays w stays = batches_stay (in_order (running (ask_all w))) (ask_all w) (due_stays (length w.neighbours.neighbours) w stays)

  -- ---- gateways

  want_in_stays : (group : DpId) (w : World) → K w → K (want_in group w)
  want_in_stays group w stays = wants_by K group w (speaks.meets (want_gateways group w.conf.vlans w.moment w.neighbours) w stays) stays

  pub begun_stays : (dp : Option DpId) (w : World) → K w → K (begin dp w)
  begun_stays None w stays = stays
  begun_stays (Some dp) w stays = want_in_stays (group_of w.conf dp) w stays

  each_want : (groups : List DpId) (w : World) → K w → K (want_each groups w)
  each_want [] w stays = stays
  each_want (group ∷ groups) w stays = each_want groups (want_in group w) (want_in_stays group w stays)

  pub wanted_stays : (w : World) → K w → K (want_all w)
  wanted_stays w stays = each_want (in_order (map (group_of w.conf) (running w))) w stays

  -- ---- the clock, and the closings of a reload

  module _ (C : ℕ → Closing → Type 0) (closes : (cause : Closing) (number : ℕ) (w : World) → C number cause → is_open w.conns number ≡ true → K w → K (close cause number w)) where
    stir_stays : (due : Quiet) (number : ℕ) (w : World) → C number Silent → is_open w.conns number ≡ true → K w → K (stir due number w)
    stir_stays quiet.Well number w silent at stays = stays
    stir_stays quiet.Echo number w silent at stays = said_stays number (messages.EchoRequest []) w stays
    stir_stays quiet.Silent number w silent at stays = closes Silent number w silent at stays

    pub look_stays : (number : ℕ) (w : World) → C number Silent → K w → K (look number w)
    look_stays number w silent stays = by (conn_with w.conns number) refl
      where
        by : (o : Option Conn) → conn_with w.conns number ≡ o → K (option_map_or (look_on w) o w)
        by None is = stays
        by (Some c) is =
            stir_stays (due_at c.session w.moment) c.number (record w { conns = change c.number (with_looked w.moment) w.conns })
            (subst (λ (n : ℕ). C n Silent) (sym (has_it number w.conns c is)) silent)
            (change_open (with_looked w.moment) (λ d. refl) c.number c.number w.conns ∙ found_open (has_number number) w.conns c is)
            (speaks.changes (with_looked w.moment) (record { number = λ d. refl; dp = λ d. refl; stage = λ d. refl; ports = λ d. refl; heard = λ d. refl }) c.number w stays)

    pub looks_stay : ((number : ℕ) → C number Silent) → (numbers : List ℕ) (w : World) → K w → K (look_each numbers w)
    looks_stay silent [] w stays = stays
    looks_stay silent (number ∷ numbers) w stays = looks_stay silent numbers (look number w) (look_stays number w (silent number) stays)

    stray_stays : (number : ℕ) (w : World) → C number UnknownDp → K w → K (close_stray number w)
    stray_stays number w gone stays = by (is_open w.conns number) refl
      where
        by : (b : Bool) → is_open w.conns number ≡ b → K (if b then close UnknownDp number w else w)
        by true at = closes UnknownDp number w gone at stays
        by false at = stays

    pub strays_stay : ((number : ℕ) → C number UnknownDp) → (numbers : List ℕ) (w : World) → K w → K (close_each numbers w)
    strays_stay gone [] w stays = stays
    strays_stay gone (number ∷ numbers) w stays = strays_stay gone numbers (close_stray number w) (stray_stays number w (gone number) stays)
