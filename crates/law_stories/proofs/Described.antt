-- Behind each settling of a story whose pieces are bytes, the cold starts send each packet as the configuration describes.
use Rattle.std.proofs.Common.{◌≡◌, ℕ, zero, suc, ◌^◌, ◌<◌, Bool, true, false, Option, Some, None, List, [], ◌∷◌, is_some, cond, filter, inl, inr, true≢false, ◌==◌, ◌||◌, length, map, nat_lt, refl, sym, ap, subst, ◌∙◌, eqb-true, if◌then◌else◌}
use Rattle.std.specs.List.{AllByRecursion}
use Rattle.std.specs.Option.{option_map_or}
use Rattle.std.proofs.lemmas.Bool.{cases_Bool}
use Rattle.net_base.specs.declared.numbers.DpId.{DpId}
use Rattle.fg_outside.specs.declared.hub.Happening.{Happening}
use Rattle.fg_outside.specs.declared.hub.Happening.TheVariants as happenings
use Rattle.of_match.specs.declared.entry.Command.{Command}
use Rattle.of_match.specs.declared.entry.Entry.{Entry}
use Rattle.of_match.specs.declared.packet.Packet.{Packet}
use Rattle.of_match.specs.Shaped.{IsShaped}
use Rattle.of13_codec.specs.declared.message.Message.TheVariants as messages
use Rattle.conf_types.specs.declared.datapath.Dp.{Dp}
use Rattle.conf_types.specs.declared.state.NeighRec.{NeighRec}
use Rattle.conf_types.specs.Configuration.{Configuration, dp_with}
use Rattle.conf_types.specs.State.{State, is_running}
use Rattle.conf_types.specs.Valid.{IsValid}
use Rattle.packet_way.specs.Description.{sends}
use Rattle.law_runs.specs.Runs.{SendsJust}
use Rattle.plan_difference.specs.Difference.{difference}
use Rattle.plan_units.specs.Facts.{found}
use Rattle.plan_units.specs.Laws.{IsSetting}
use Rattle.cold_start.specs.Cold.{cold}
use Rattle.flow_messages.specs.Messages.{command_message}
use Rattle.neighbour_resolve.specs.declared.neighbour.Due.{Due}
use Rattle.neighbour_resolve.specs.declared.neighbour.Due.TheVariants.{Ask, Gone}
use Rattle.neighbour_resolve.specs.Asks.{AskOn, asks, in_order}
use Rattle.neighbour_resolve.specs.Due.{after_due, asked, asked_on, is_due, is_gateway, most_tries, next, due_said}
use Rattle.ctl_world.specs.declared.conns.Conn.{Conn}
use Rattle.ctl_world.specs.declared.said.Said.{Said}
use Rattle.ctl_world.specs.Connections.{conn_of, conn_with, has_number, with_sent}
use Rattle.ctl_world.specs.Saying.{ask, packet_out, say}
use Rattle.ctl_world.specs.World.{World, first, is_at_work, now, running}
use Rattle.ctl_core.specs.Settlings.{ask_all, ask_due, ask_each, ask_on, batch, batch_on, batches, say_batch, say_due, say_each, settle, take_due, wanted}
use Rattle.ctl_life.specs.Life.{read, says, unread}
use Rattle.ctl_core.specs.Reloading.{accepted}
use Rattle.law_stories.specs.Grounds.{Grounds}
use Rattle.law_stories.specs.Right.{Describes, IsOfBytes}
use Rattle.law_stories.specs.Settlings.{settlings}
use Rattle.law_stories.proofs.Addressed.{IsAddressed, IsNeighbour, IsRead, asked_addressed, changed, ended_addressed, feed_addressed, heard_addressed, open_addressed, pass_addressed, read_addressed, reload_addressed, said_addressed}
use Rattle.law_stories.proofs.PacketBytes.{AreBytes, front_bytes, says_good}
use Rattle.law_stories.proofs.StoryTold.{Any, IsTold, first_told, told_walks}
use Rattle.law_stories.proofs.StoryWalks.{OnPiece, Walks, story_seen}

-- ---- a settling

left_six : (conf : Configuration) (moment : ℕ) (ns : List NeighRec) → AllByRecursion IsNeighbour ns → AllByRecursion IsNeighbour (after_due conf moment ns)
left_six conf moment [] all = tt
left_six conf moment (n ∷ ns) all =
    elim (is_due moment n) as (λ b. AllByRecursion IsNeighbour (if b then option_map_or (λ m. m ∷ ns) (next conf moment n) ns else n ∷ after_due conf moment ns)) [
      | true ↦ by (nat_lt n.tries most_tries) (is_gateway conf n)
      | false ↦ (all.0, left_six conf moment ns all.1)
    ]
  where
    by : (a b : Bool) → AllByRecursion IsNeighbour (option_map_or (λ m. m ∷ ns) (if a then Some (asked moment n) else if b then Some (asked_on moment n) else None) ns)
    by true b = (all.0, all.1)
    by false true = (tt, all.1)
    by false false = all.1

on_six : (a : AskOn) (w : World) → IsAddressed w → IsAddressed (ask_on a w)
on_six a w is =
    elim (conn_of w.conns a.dp) as (λ o. IsAddressed (option_map_or (λ (c : Conn). say c.number (packet_out a.out) w) o w)) [
      | Some c ↦ said_addressed c.number (packet_out a.out) w is
      | None ↦ is
    ]

frames_six : (frames : List AskOn) (w : World) → IsAddressed w → IsAddressed (ask_each frames w)
frames_six [] w is = is
frames_six (a ∷ more) w is = frames_six more (ask_on a w) (on_six a w is)

due_said_six : (due : Due) (w : World) → IsAddressed w → IsAddressed (say_due due w)
due_said_six (Ask group vid ip) w is = frames_six (asks w.conf (running w) group vid ip) w is
due_said_six (Gone group vid ip) w is = is

due_six : (most : ℕ) (w : World) → IsAddressed w → IsAddressed (ask_due most w)
due_six zero w is = is
due_six (suc most) w is =
    elim (due_said w.conf w.moment.0 w.neighbours.neighbours) as (λ o. IsAddressed (option_map_or (λ due. ask_due most (say_due due (take_due w))) o w)) [
      | Some due ↦ due_six most (say_due due (take_due w)) (due_said_six due (take_due w) (is.0, left_six w.conf w.moment.0 w.neighbours.neighbours is.1, is.2))
      | None ↦ is
    ]

commands_six : (number : ℕ) (commands : List Command) (w : World) → IsAddressed w → IsAddressed (say_each number commands w)
commands_six number [] w is = is
commands_six number (c ∷ more) w is = commands_six number more (say number (command_message c) w) (said_addressed number (command_message c) w is)

one_six : (number : ℕ) (commands : List Command) (entries : List Entry) (w : World) → IsAddressed w → IsAddressed (say_batch number commands entries w)
one_six number [] entries w is = is
one_six number (c ∷ more) entries w is =
    changed (with_sent entries) (λ d all. all) number (ask number messages.BarrierRequest (say_each number (c ∷ more) w))
    (asked_addressed number messages.BarrierRequest (say_each number (c ∷ more) w) (commands_six number (c ∷ more) w is))

batch_six : (dp : DpId) (w : World) → IsAddressed w → IsAddressed (batch dp w)
batch_six dp w is =
    elim (conn_of w.conns dp) as (λ o. IsAddressed (option_map_or (batch_on dp w) o w)) [
      | Some c ↦ elim (is_some c.session.state.awaited) as (λ b. IsAddressed (if b then w else say_batch c.number (difference c.sent (wanted w dp)) (wanted w dp) w)) [
        | true ↦ is
        | false ↦ one_six c.number (difference c.sent (wanted w dp)) (wanted w dp) w is
      ]
      | None ↦ is
    ]

batches_six : (dps : List DpId) (w : World) → IsAddressed w → IsAddressed (batches dps w)
batches_six [] w is = is
batches_six (dp ∷ dps) w is = batches_six dps (batch dp w) (batch_six dp w is)

settled_six : (w : World) → IsAddressed w → IsAddressed (settle w)
settled_six w is = batches_six (in_order (running (ask_all w))) (ask_all w) (due_six (length w.neighbours.neighbours) w is)

-- ---- what is to be read

unread_bytes : (number : ℕ) (w : World) → IsAddressed w → AreBytes (unread number w)
unread_bytes number w is = of w.conns is.2
  where
    of : (conns : List Conn) → AllByRecursion IsRead conns → AreBytes (option_map_or (λ (c : Conn). c.session.unread) (conn_with conns number) [])
    of [] all = tt
    of (c ∷ cs) all =
        elim (has_number number c) as (λ b. AreBytes (option_map_or (λ (d : Conn). d.session.unread) (cond b (Some c) (conn_with cs number)) [])) [ true ↦ all.0 | false ↦ of cs all.1 ]

-- a datapath that isn't configured doesn't run
none_runs : (test : Dp → Bool) (dps : List Dp) (dp : DpId) → dp_with dps dp ≡ None → is_running (map (λ d. d.id) (filter test dps)) dp ≡ false
none_runs test [] dp none = refl
none_runs test (d ∷ ds) dp none =
    elim (cases_Bool (d.id.0 == dp.0)) [
      | inl here ↦ let e = rw here at none in absurd (cc)
      | inr other ↦
          let rest = none_runs test ds dp (rw other at none) in
          elim (test d) as (λ b. is_running (map (λ d. d.id) (cond b (d ∷ filter test ds) (filter test ds))) dp ≡ false) [
            | true ↦ ap (λ b. b || is_running (map (λ d. d.id) (filter test ds)) dp) other ∙ rest
            | false ↦ rest
          ]
    ]

-- ---- a story

abbrev IsKnown : List Said → World → Type 0
IsKnown past w = IsTold past w × IsAddressed w

module _ (laws : Grounds) where
  told : Walks Any IsTold
  told = told_walks laws

  known_walks : Walks AreBytes IsKnown
  known_walks = record {
    unsaid = λ past w known. (told.unsaid past w known.0, known.1);
    opens = λ past number w shut known. (told.opens past number w shut known.0, open_addressed number w known.1);
    feeds = λ past number piece w bytes known. (told.feeds past number piece w tt known.0, feed_addressed number piece w bytes known.1);
    reads = λ past number w known. (told.reads past number w known.0, read_addressed number w known.1);
    hears = λ past frame number w is known. (
      told.hears past frame number w is known.0,
      heard_addressed (says frame) (says_good frame (front_bytes (unread number w) frame (unread_bytes number w known.1) is)) number (read number w) (read_addressed number w known.1),
    );
    fails = λ past number w is known. (told.fails past number w is known.0, heard_addressed None tt number (read number w) (read_addressed number w known.1));
    ends = λ past cause number w known. (told.ends past cause number w known.0, ended_addressed cause number w known.1);
    passes = λ past moment w known. (told.passes past moment w known.0, pass_addressed moment w known.1);
    reloads = λ past text w known. (told.reloads past text w known.0, reload_addressed (accepted text) w known.1);
    settles = λ past w known. (told.settles past w known.0, settled_six w known.1);
  }

  module _ (describes : (conf : Configuration) (now : State) (d : Dp) → IsSetting conf now d → (port : ℕ) (p : Packet) → port < 2 ^ 32 → IsShaped p → SendsJust (cold conf now d) port 0 p (sends conf now d.id port p)) where
    described : (past : List Said) (w : World) → IsKnown past w → Describes (record { past = past; before = w })
    described past w known dp runs port p fits shaped = by (dp_with v.conf.dps dp) refl
      where
        v : World
        v = settle w

        by : (o : Option Dp) → dp_with v.conf.dps dp ≡ o → SendsJust (option_map_or (cold v.conf (now v)) o []) port 0 p (sends v.conf (now v) dp port p)
        by None is = absurd (true≢false (sym runs ∙ none_runs (is_at_work v.conns) v.conf.dps dp is))
        by (Some d) is =
            let behind = known_walks.settles past w known in
            let e : d.id ≡ dp = λ i. record { 0 = eqb-true d.id.0 dp.0 ((found (λ x. x.id.0 == dp.0) v.conf.dps d is).passes) i } in
            let setting : IsSetting v.conf (now v) d = record {
              valid = behind.0.0.0.0;
              state = behind.0.0.1.valid;
              addresses = record { hosts = behind.1.0; neighbours = behind.1.1 };
              is_dp = ap (dp_with v.conf.dps) e ∙ is;
            } in
            subst (λ (id : DpId). SendsJust (cold v.conf (now v) d) port 0 p (sends v.conf (now v) id port p)) e (describes v.conf (now v) d setting port p fits shaped)

    of_pieces : (story : List Happening) → AllByRecursion IsOfBytes story → AllByRecursion (OnPiece AreBytes) story
    of_pieces [] all = tt
    of_pieces (happenings.Opened number ∷ hs) all = (tt, of_pieces hs all.1)
    of_pieces (happenings.Heard number piece ∷ hs) all = (all.0, of_pieces hs all.1)
    of_pieces (happenings.Closed number cause ∷ hs) all = (tt, of_pieces hs all.1)
    of_pieces (happenings.Moment moment ∷ hs) all = (tt, of_pieces hs all.1)
    of_pieces (happenings.Reload text ∷ hs) all = (tt, of_pieces hs all.1)

    pub story_described : (conf : Configuration) (story : List Happening) → IsValid conf → AllByRecursion IsOfBytes story → AllByRecursion Describes (settlings (first conf) story)
    story_described conf story valid bytes =
        story_seen AreBytes IsKnown known_walks Describes described [] (first conf) story (of_pieces story bytes) (first_told laws conf valid, (tt, tt, tt))
