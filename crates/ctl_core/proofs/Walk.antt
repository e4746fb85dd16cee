-- What each elementary step of a turn keeps, the turn keeps: the steps of a turn, gone over once.
use Rattle.std.proofs.Common.{◌≡◌, ◌==◌, ℕ, zero, suc, Bool, true, false, codes, Option, Some, None, List, [], ◌∷◌, ◌++◌, Result, Ok, Err, length, map, is_some, refl, ap, ◌∙◌, if◌then◌else◌}
use Rattle.std.specs.List.{find, list_any}
use Rattle.std.specs.Option.{option_map_or}
use Rattle.net_base.specs.declared.numbers.DpId.{DpId}
use Rattle.of_match.specs.declared.entry.Command.{Command}
use Rattle.of_match.specs.declared.entry.Entry.{Entry}
use Rattle.conf_types.specs.Configuration.{Configuration}
use Rattle.conf_types.specs.Groups.{group_of}
use Rattle.of13_codec.specs.declared.message.Message.{Message}
use Rattle.of13_codec.specs.declared.message.Message.TheVariants as messages
use Rattle.plan_difference.specs.Difference.{difference}
use Rattle.flow_messages.specs.Messages.{command_message}
use Rattle.neighbour_resolve.specs.declared.asks.Outgoing.{Outgoing}
use Rattle.neighbour_resolve.specs.declared.neighbour.Due.{Due}
use Rattle.neighbour_resolve.specs.declared.neighbour.Due.TheVariants.{Ask, Gone}
use Rattle.neighbour_resolve.specs.Asks.{AskOn, asks, in_order}
use Rattle.neighbour_resolve.specs.Due.{due_said}
use Rattle.switch_session.specs.declared.closing.Closing.{Closing}
use Rattle.switch_session.specs.declared.closing.Closing.TheVariants.{BadFrame, Replaced, Silent, UnknownDp, WrongVersion}
use Rattle.switch_session.specs.declared.quiet.Quiet.{Quiet}
use Rattle.switch_session.specs.declared.quiet.Quiet.TheVariants as quiet
use Rattle.switch_session.specs.declared.state.Step.{Step}
use Rattle.switch_session.specs.declared.state.Step.TheVariants as steps
use Rattle.switch_session.specs.Connections.{due_at}
use Rattle.switch_session.specs.Stages.{leads}
use Rattle.ctl_world.specs.declared.conns.Conn.{Conn}
use Rattle.ctl_world.specs.declared.said.Said.TheVariants as told
use Rattle.ctl_world.specs.Connections.{change, conn_of, conn_with, has_number, is_of, is_open, with_heard, with_looked}
use Rattle.ctl_world.specs.Ends.{close, forget_lost}
use Rattle.ctl_world.specs.Saying.{add_said, ask, packet_out, repeat, say}
use Rattle.ctl_world.specs.World.{World, running}
use Rattle.ctl_settle.specs.Settling.{ask_all, ask_due, ask_each, ask_on, batch, batch_on, batches, note_sent, say_batch, say_due, say_each, settle, take_due, wanted}
use Rattle.ctl_life.specs.Life.{echo, replace, take_dp, turn_away}
use Rattle.ctl_core.specs.Hearing.{begin, follow, hear_frame, hear_message, hear_on, introduce, packet, unfit, want_gateways, want_in, wipe}
use Rattle.ctl_core.specs.Reloading.{close_each, close_stray, reload, renew, strays, want_all, want_each}
use Rattle.ctl_life.specs.Silence.{look, look_each, look_on, show, stir}
use Rattle.ctl_core.specs.Turns.{age, pass}
use Rattle.ctl_life.proofs.Openings.{change_open, found_open, open_is}

-- ---- a choice

module _ (K : World → Type 0) where
  pub with_any : {A : Type 0} (f : A → World) (o : Option A) (w : World) → ((a : A) → K (f a)) → K w → K (option_map_or f o w)
  with_any f (Some a) w each none = each a
  with_any f None w each none = none

  -- a connection that was found is open
  pub with_found : (f : Conn → World) (p : Conn → Bool) (w : World) → ((c : Conn) → is_open w.conns c.number ≡ true → K (f c)) → K w → K (option_map_or f (find p w.conns) w)
  with_found f p w each none = by (find p w.conns) refl
    where
      by : (o : Option Conn) → find p w.conns ≡ o → K (option_map_or f o w)
      by None is = none
      by (Some c) is = each c (found_open p w.conns c is)

  pub either : (b : Bool) (v w : World) → K v → K w → K (if b then v else w)
  either true v w here there = here
  either false v w here there = there

  pub wants_by : (group : DpId) (w : World) → K (record w { neighbours = want_gateways group w.conf.vlans w.moment w.neighbours }) → K w → K (want_in group w)
  wants_by group w wanted kept = either (list_any (λ dp. (group_of w.conf dp).0 == group.0) (running w)) (record w { neighbours = want_gateways group w.conf.vlans w.moment w.neighbours }) w wanted kept

-- ---- the elementary steps

-- of what says nothing of tables
pub record Steps (K : World → Type 0) : Type 0 where
  pub sends : (number : ℕ) (out : Outgoing) (w : World) → K w → K (say number (packet_out out) w)
  pub asks_echo : (number : ℕ) (w : World) → K w → K (say number (messages.EchoRequest []) w)
  pub closes : (cause : Closing) (number : ℕ) (w : World) → is_open w.conns number ≡ true → K w → K (close cause number w)
  pub looks : (number : ℕ) (w : World) → K w → K (record w { conns = change number (with_looked w.moment) w.conns })
  pub shows : (moment : ℕ) (w : World) → K w → K (show moment w)
  pub ages : (w : World) → K w → K (age w)
  pub wants : (group : DpId) (w : World) → K w → K (want_in group w)
  pub tells : (text : List ℕ) (w : World) → K w → K (add_said (told.Line text ∷ []) w)

-- of the setup of a connection
pub record Setup (K : World → Type 0) : Type 0 where
  pub hears : (m : Message) (xid number : ℕ) (w : World) → K w → K (forget_lost (record w { conns = change number (with_heard m xid) w.conns }))
  pub features : (number : ℕ) (w : World) → K w → K (say number messages.FeaturesRequest w)
  pub takes : (number : ℕ) (dp : DpId) (w : World) → K w → K (take_dp number dp w)
  pub ports : (number : ℕ) (w : World) → K w → K (ask number messages.PortDescRequest w)
  pub wipes : (number : ℕ) (w : World) → K w → K (wipe number w)
  pub answers : (number : ℕ) (payload : List ℕ) (xid : ℕ) (w : World) → is_open w.conns number ≡ true → K w → K (repeat number (messages.EchoReply payload) xid w)
  pub refuses : (number xid : ℕ) (w : World) → is_open w.conns number ≡ true → K w → K (repeat number (messages.Error 0 0 []) xid w)

-- of the batches of a settling
pub record Batches (K : World → Type 0) : Type 0 where
  pub commands : (number : ℕ) (c : Command) (w : World) → K w → K (say number (command_message c) w)
  pub barriers : (number : ℕ) (w : World) → K w → K (ask number messages.BarrierRequest w)
  pub notes : (number : ℕ) (entries : List Entry) (w : World) → K w → K (note_sent number entries w)

module _ (K : World → Type 0) (single : Steps K) where
  pub replace_kept : (dp : DpId) (w : World) → K w → K (replace dp w)
  replace_kept dp w kept = with_found K (λ (c : Conn). close Replaced c.number w) (is_of dp) w (λ c at. single.closes Replaced c.number w at kept) kept

  pub begin_kept : (dp : Option DpId) (w : World) → K w → K (begin dp w)
  begin_kept None w kept = kept
  begin_kept (Some dp) w kept = single.wants (group_of w.conf dp) w kept

  -- ---- the clock

  stir_kept : (due : Quiet) (number : ℕ) (w : World) → is_open w.conns number ≡ true → K w → K (stir due number w)
  stir_kept quiet.Well number w at kept = kept
  stir_kept quiet.Echo number w at kept = single.asks_echo number w kept
  stir_kept quiet.Silent number w at kept = single.closes Silent number w at kept

  look_on_kept : (w : World) (c : Conn) → is_open w.conns c.number ≡ true → K w → K (look_on w c)
  look_on_kept w c at kept =
      stir_kept (due_at c.session w.moment) c.number (record w { conns = change c.number (with_looked w.moment) w.conns })
      (change_open (with_looked w.moment) (λ d. refl) c.number c.number w.conns ∙ at) (single.looks c.number w kept)

  look_kept : (number : ℕ) (w : World) → K w → K (look number w)
  look_kept number w kept = with_found K (look_on w) (has_number number) w (λ c at. look_on_kept w c at kept) kept

  each_kept : (numbers : List ℕ) (w : World) → K w → K (look_each numbers w)
  each_kept [] w kept = kept
  each_kept (number ∷ numbers) w kept = each_kept numbers (look number w) (look_kept number w kept)

  pub pass_kept : (moment : ℕ) (w : World) → K w → K (pass moment w)
  pass_kept moment w kept =
      let numbers : List ℕ = map (λ (c : Conn). c.number) w.conns in
      single.ages (look_each numbers (show moment w)) (each_kept numbers (show moment w) (single.shows moment w kept))

  -- ---- a reload

  stray_kept : (number : ℕ) (w : World) → K w → K (close_stray number w)
  stray_kept number w kept = by (is_open w.conns number) refl
    where
      by : (b : Bool) → is_open w.conns number ≡ b → K (if b then close UnknownDp number w else w)
      by true at = single.closes UnknownDp number w at kept
      by false at = kept

  strays_kept : (numbers : List ℕ) (w : World) → K w → K (close_each numbers w)
  strays_kept [] w kept = kept
  strays_kept (number ∷ numbers) w kept = strays_kept numbers (close_stray number w) (stray_kept number w kept)

  want_each_kept : (groups : List DpId) (w : World) → K w → K (want_each groups w)
  want_each_kept [] w kept = kept
  want_each_kept (group ∷ groups) w kept = want_each_kept groups (want_in group w) (single.wants group w kept)

  want_all_kept : (w : World) → K w → K (want_all w)
  want_all_kept w kept = want_each_kept (in_order (map (group_of w.conf) (running w))) w kept

  pub reload_kept : (read : Result Configuration (List ℕ)) → ((next : Configuration) (w : World) → read ≡ Ok next → K w → K (renew next w)) → (w : World) → K w → K (reload read w)
  reload_kept (Ok next) renews w kept =
      let left : World = close_each (strays next w.conns) w in
      want_all_kept (renew next left) (renews next left refl (strays_kept (strays next w.conns) w kept))
  reload_kept (Err cause) renews w kept = single.tells (codes "reload: " ++ cause) w kept

  -- ---- the asks of a settling

  on_kept : (a : AskOn) (w : World) → K w → K (ask_on a w)
  on_kept a w kept = with_any K (λ (c : Conn). say c.number (packet_out a.out) w) (conn_of w.conns a.dp) w (λ c. single.sends c.number a.out w kept) kept

  frames_kept : (frames : List AskOn) (w : World) → K w → K (ask_each frames w)
  frames_kept [] w kept = kept
  frames_kept (a ∷ more) w kept = frames_kept more (ask_on a w) (on_kept a w kept)

  due_said_kept : (due : Due) (w : World) → K w → K (say_due due w)
  due_said_kept (Ask group vid ip) w kept = frames_kept (asks w.conf (running w) group vid ip) w kept
  due_said_kept (Gone group vid ip) w kept = kept

  module _ (takes : (w : World) → K w → K (take_due w)) where
    due_kept : (most : ℕ) (w : World) → K w → K (ask_due most w)
    due_kept zero w kept = kept
    due_kept (suc most) w kept =
        with_any K (λ due. ask_due most (say_due due (take_due w))) (due_said w.conf w.moment.0 w.neighbours.neighbours) w
        (λ due. due_kept most (say_due due (take_due w)) (due_said_kept due (take_due w) (takes w kept))) kept

    pub asks_kept : (w : World) → K w → K (ask_all w)
    asks_kept w kept = due_kept (length w.neighbours.neighbours) w kept

-- ---- the batches of a settling

module _ (K : World → Type 0) (single : Batches K) where
  commands_kept : (number : ℕ) (commands : List Command) (w : World) → K w → K (say_each number commands w)
  commands_kept number [] w kept = kept
  commands_kept number (c ∷ more) w kept = commands_kept number more (say number (command_message c) w) (single.commands number c w kept)

  one_kept : (number : ℕ) (commands : List Command) (entries : List Entry) (w : World) → K w → K (say_batch number commands entries w)
  one_kept number [] entries w kept = kept
  one_kept number (c ∷ more) entries w kept =
      let all : World = say_each number (c ∷ more) w in
      single.notes number entries (ask number messages.BarrierRequest all) (single.barriers number all (commands_kept number (c ∷ more) w kept))

  batch_kept : (dp : DpId) (w : World) → K w → K (batch dp w)
  batch_kept dp w kept =
      with_any K (batch_on dp w) (conn_of w.conns dp) w
      (λ c. either K (is_some c.session.state.awaited) w (say_batch c.number (difference c.sent (wanted w dp)) (wanted w dp) w) kept
      (one_kept c.number (difference c.sent (wanted w dp)) (wanted w dp) w kept))
      kept

  batches_kept : (dps : List DpId) (w : World) → K w → K (batches dps w)
  batches_kept [] w kept = kept
  batches_kept (dp ∷ dps) w kept = batches_kept dps (batch dp w) (batch_kept dp w kept)

  pub settle_kept : Steps K → ((w : World) → K w → K (take_due w)) → (w : World) → K w → K (settle w)
  settle_kept asking takes w kept = batches_kept (in_order (running (ask_all w))) (ask_all w) (asks_kept K asking takes w kept)

-- ---- one message

module _ (K : World → Type 0) (single : Steps K) (setup : Setup K) where
  introduce_kept : (number : ℕ) (dp : DpId) (cause : Option Closing) (w : World) → is_open w.conns number ≡ true → K w → K (introduce number dp cause w)
  introduce_kept number dp (Some cause) w at kept = single.closes cause number w at kept
  introduce_kept number dp None w at kept = setup.ports number (take_dp number dp (replace dp w)) (setup.takes number dp (replace dp w) (replace_kept K single dp w kept))

  echo_kept : (m : Message) (number xid : ℕ) (w : World) → is_open w.conns number ≡ true → K w → K (echo m number xid w)
  echo_kept (messages.EchoRequest payload) number xid w at kept = setup.answers number payload xid w at kept
  echo_kept m number xid w at kept = kept

  turn_away_kept : (cause : Closing) (number xid : ℕ) (w : World) → is_open w.conns number ≡ true → K w → K (turn_away cause number xid w)
  turn_away_kept WrongVersion number xid w at kept = single.closes WrongVersion number (repeat number (messages.Error 0 0 []) xid w) at (setup.refuses number xid w at kept)
  turn_away_kept cause number xid w at kept = single.closes cause number w at kept

  module _ (m : Message) (packets : (number : ℕ) (dp : Option DpId) (w : World) → K w → K (packet m number dp w)) where
    follow_kept : (step : Step) (xid number : ℕ) (dp : Option DpId) (w : World) → is_open w.conns number ≡ true → K w → K (follow step m xid number dp w)
    follow_kept steps.Nothing xid number dp w at kept = kept
    follow_kept steps.AskFeatures xid number dp w at kept = setup.features number w kept
    follow_kept (steps.Features id n_tables auxiliary) xid number dp w at kept = introduce_kept number id (unfit w.conf id n_tables auxiliary) w at kept
    follow_kept steps.PortsKnown xid number dp w at kept = setup.wipes number w kept
    follow_kept steps.Wiped xid number dp w at kept = begin_kept K single dp w kept
    follow_kept steps.Settled xid number dp w at kept = kept
    follow_kept (steps.PortChanged port) xid number dp w at kept = kept
    follow_kept steps.Packet xid number dp w at kept = packets number dp w kept
    follow_kept steps.Echo xid number dp w at kept = echo_kept m number xid w at kept
    follow_kept (steps.Close cause) xid number dp w at kept = turn_away_kept cause number xid w at kept

    hear_on_kept : (xid number : ℕ) (w : World) (c : Conn) → is_open w.conns number ≡ true → K w → K (hear_on m xid number w c)
    hear_on_kept xid number w c at kept =
        follow_kept (leads c.session.state m xid).1 xid number c.dp (forget_lost (record w { conns = change number (with_heard m xid) w.conns }))
        (change_open (with_heard m xid) (λ d. refl) number number w.conns ∙ at) (setup.hears m xid number w kept)

    message_kept : (xid number : ℕ) (w : World) → K w → K (hear_message m xid number w)
    message_kept xid number w kept = by (conn_with w.conns number) refl
      where
        by : (o : Option Conn) → conn_with w.conns number ≡ o → K (option_map_or (hear_on m xid number w) o w)
        by None is = kept
        by (Some c) is = hear_on_kept xid number w c (open_is w.conns number ∙ ap (λ (p : Option Conn). is_some p) is) kept

  -- what spells no message closes the connection
  pub heard_kept : (heard : Option (Message × ℕ)) → ((s : Message × ℕ) → heard ≡ Some s → (number : ℕ) (dp : Option DpId) (w : World) → K w → K (packet s.0 number dp w))
      → (number : ℕ) (w : World) → K (close BadFrame number w) → K w → K (hear_frame heard number w)
  heard_kept (Some s) packets number w closed kept = message_kept s.0 (packets s refl) s.1 number w kept
  heard_kept None packets number w closed kept = closed
