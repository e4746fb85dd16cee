-- What a turn adds to the polls is what it asks for.
use Rattle.std.proofs.Common.{◌≡◌, ℕ, zero, suc, ◌++◌, Bool, true, false, Option, Some, None, List, [], ◌∷◌, append_assoc, append-nil, length, map, refl, sym, ap, ◌∙◌, if◌then◌else◌}
use Rattle.std.specs.Option.{option_map_or}
use Rattle.std.proofs.lemmas.Grind.{flat_map-append}
use Rattle.std.proofs.lemmas.List.{map-append}
use Rattle.net_base.specs.declared.numbers.DpId.{DpId}
use Rattle.fg_outside.specs.declared.hub.Happening.{Happening}
use Rattle.fg_outside.specs.declared.hub.Happening.TheVariants as happenings
use Rattle.of13_codec.specs.declared.message.Message.{Message}
use Rattle.of13_codec.specs.declared.message.Message.TheVariants as messages
use Rattle.switch_session.specs.declared.closing.Closing.{Closing}
use Rattle.switch_session.specs.declared.closing.Closing.TheVariants.{BadFrame, Replaced, Silent, WrongVersion}
use Rattle.switch_session.specs.declared.quiet.Quiet.{Quiet}
use Rattle.switch_session.specs.declared.quiet.Quiet.TheVariants as quiet
use Rattle.switch_session.specs.declared.state.Step.{Step}
use Rattle.switch_session.specs.declared.state.Step.TheVariants as steps
use Rattle.switch_session.specs.Connections.{due_at, next_id}
use Rattle.switch_session.specs.Stages.{leads}
use Rattle.ctl_world.specs.declared.conns.Conn.{Conn}
use Rattle.ctl_world.specs.declared.frames.Front.{Front}
use Rattle.ctl_world.specs.declared.frames.Front.TheVariants.{Part, Frame, Bad}
use Rattle.ctl_world.specs.declared.said.Said.{Said as Told}
use Rattle.ctl_world.specs.declared.said.Said.TheVariants as told
use Rattle.ctl_world.specs.Connections.{change, conn_of, conn_with, is_open, with_looked, with_said}
use Rattle.ctl_world.specs.Ends.{close, end_line, ended}
use Rattle.ctl_world.specs.Frames.{front}
use Rattle.ctl_world.specs.Saying.{say, say_by}
use Rattle.ctl_world.specs.World.{World}
use Rattle.ctl_life.specs.Life.{closing_for, echo, feed, has_frame, open_conn, read, replace, take_dp, tell_version, turn_away, unread}
use Rattle.ctl_life.specs.Silence.{look, look_each, look_on, show, stir}
use Rattle.ctl_world.proofs.Numbered.{has_it}
use Rattle.ctl_life.proofs.Openings.{with_fresh}
use Rattle.conf_types.specs.declared.datapath.Dp.{Dp}
use Rattle.gauge_conf.specs.declared.gauge.WatchKind.{WatchKind}
use Rattle.gauge_conf.specs.declared.gauge.WatchKind.TheVariants.{PortState, PortStats, FlowTable}
use Rattle.gauge_poll.specs.declared.poll.Poll.{Poll}
use Rattle.gauge_poll.specs.declared.telling.Telling.{Telling}
use Rattle.gauge_poll.specs.Monitoring.{Monitor, anew, dp_on, follow, hear_all, hear_frame, hear_frames, hear_front, hear_message, hear_next, hear_on, heard, introduce, looked, opened, told_on, turn, unfit, with_world}
use Rattle.gauge_poll.specs.Polls.{Said, of_others, poll_by, poll_conn, poll_on, request_for}
use Rattle.gauge_poll.specs.Telling.{reads, told_by}
use Rattle.gauge_poll.specs.Requests.{AreAsked, Request, asked_by, asked_in, found_polls, request_of, requests}
use Rattle.gauge_poll.proofs.Rounds.{due_kept, first_kept}

-- ---- what else is said asks for no counters

abbrev AskSame : World → World → Type 0
AskSame v w = requests v.said ≡ requests w.said

none_more : (more said : List Told) → requests more ≡ [] → requests (said ++ more) ≡ requests said
none_more more said none = flat_map-append asked_in said more ∙ ap (λ rs. requests said ++ rs) none ∙ append-nil (requests said)

say_same : (number : ℕ) (m : Message) (w : World) → ((conn xid : ℕ) → asked_by m conn xid ≡ []) → AskSame (say number m w) w
say_same number m w none = by (conn_with w.conns number)
  where
    by : (o : Option Conn) → requests (option_map_or (say_by with_said m w) o w).said ≡ requests w.said
    by (Some c) = none_more (told.Message c.number m (next_id c.session.last_xid) ∷ []) w.said (ap (λ rs. rs ++ []) (none c.number (next_id c.session.last_xid)))
    by None = refl

close_same : (cause : Closing) (number : ℕ) (w : World) → AskSame (close cause number w) w
close_same cause number w = none_more (told.Closing number cause ∷ end_line number cause ∷ []) w.said refl

ended_same : (cause : Closing) (number : ℕ) (w : World) → AskSame (ended cause number w) w
ended_same cause number w = none_more (end_line number cause ∷ []) w.said refl

open_same : (number : ℕ) (w : World) → AskSame (open_conn number w) w
open_same number w = say_same number (messages.Hello 4 (Some 16)) (with_fresh number w) (λ conn xid. refl)

echo_same : (m : Message) (number xid : ℕ) (w : World) → AskSame (echo m number xid w) w
echo_same (messages.EchoRequest payload) number xid w = none_more (told.Message number (messages.EchoReply payload) xid ∷ []) w.said refl
echo_same m number xid w = refl

turn_away_same : (cause : Closing) (number xid : ℕ) (w : World) → AskSame (turn_away cause number xid w) w
turn_away_same WrongVersion number xid w =
    close_same WrongVersion number (tell_version WrongVersion number xid w) ∙ none_more (told.Message number (messages.Error 0 0 []) xid ∷ []) w.said refl
turn_away_same cause number xid w = close_same cause number w

replace_same : (dp : DpId) (w : World) → AskSame (replace dp w) w
replace_same dp w = by (conn_of w.conns dp)
  where
    by : (o : Option Conn) → requests (option_map_or (λ (c : Conn). close Replaced c.number w) o w).said ≡ requests w.said
    by (Some c) = close_same Replaced c.number w
    by None = refl

stir_same : (due : Quiet) (number : ℕ) (w : World) → AskSame (stir due number w) w
stir_same quiet.Well number w = refl
stir_same quiet.Echo number w = say_same number (messages.EchoRequest []) w (λ conn xid. refl)
stir_same quiet.Silent number w = close_same Silent number w

look_same : (number : ℕ) (w : World) → AskSame (look number w) w
look_same number w = by (conn_with w.conns number)
  where
    by : (o : Option Conn) → requests (option_map_or (look_on w) o w).said ≡ requests w.said
    by (Some c) = stir_same (due_at c.session w.moment) c.number (record w { conns = change c.number (with_looked w.moment) w.conns })
    by None = refl

look_each_same : (numbers : List ℕ) (w : World) → AskSame (look_each numbers w) w
look_each_same [] w = refl
look_each_same (number ∷ numbers) w = look_each_same numbers (look number w) ∙ look_same number w

-- ---- a poll asks

abbrev asking : WatchKind → (conn xid : ℕ) → Request
asking kind conn xid = record { conn = conn; asks = request_for kind; xid = xid }

asks_one : (kind : WatchKind) (conn xid : ℕ) → asked_by (request_for kind) conn xid ++ [] ≡ asking kind conn xid ∷ []
asks_one PortState conn xid = refl
asks_one PortStats conn xid = refl
asks_one FlowTable conn xid = refl

one_more : (kind : WatchKind) (conn : ℕ) (c : Conn) (w : World) → conn_with w.conns conn ≡ Some c
    → requests (say conn (request_for kind) w).said ≡ requests w.said ++ asking kind conn (next_id c.session.last_xid) ∷ []
one_more kind conn c w is =
    ap (λ (o : Option Conn). requests (option_map_or (say_by with_said (request_for kind) w) o w).said) is
    ∙ flat_map-append asked_in w.said (told.Message c.number (request_for kind) (next_id c.session.last_xid) ∷ [])
    ∙ ap (λ rs. requests w.said ++ rs) (asks_one kind c.number (next_id c.session.last_xid))
    ∙ ap (λ n. requests w.said ++ asking kind n (next_id c.session.last_xid) ∷ []) (has_it conn w.conns c is)

module _ (before : List Poll) where
  conn_asked : (kind : WatchKind) (place conn : ℕ) (s : Said) → AreAsked before s → AreAsked before (poll_conn kind place conn s)
  conn_asked kind place conn s are = by (conn_with s.world.conns conn) refl
    where
      by : (o : Option Conn) → conn_with s.world.conns conn ≡ o → AreAsked before (option_map_or (poll_on kind place conn s) o s)
      by (Some c) is =
          let p = poll_by kind place conn s c in
          record {
            more = are.more ++ p ∷ [];
            behind = ap (λ ps. ps ++ p ∷ []) are.behind ∙ append_assoc before are.more (p ∷ []);
            asked = map-append request_of are.more (p ∷ []) ∙ ap (λ rs. rs ++ request_of p ∷ []) are.asked ∙ sym (one_more kind conn c s.world is);
          }
      by None is = are

  -- ---- what is done with the connections alone

  world_asked : (s : Said) (after : World) → AskSame after s.world → AreAsked before s → AreAsked before (record s { world = after })
  world_asked s after same are = record { more = are.more; behind = are.behind; asked = are.asked ∙ sym same }

  -- ---- messages

  module _ (k : Monitor) where
    introduce_asked : (number : ℕ) (dp : DpId) (cause : Option Closing) (s : Said) → AreAsked before s → AreAsked before (introduce k.watchers number dp cause s)
    introduce_asked number dp (Some cause) s are = world_asked s (close cause number s.world) (close_same cause number s.world) are
    introduce_asked number dp None s are =
        let after = take_dp number dp (replace dp s.world) in
        first_kept (AreAsked before) conn_asked 0 k.watchers dp (record s { world = after }) (world_asked s after (replace_same dp s.world) are)

    follow_asked : (step : Step) (m : Message) (xid number : ℕ) (s : Said) → AreAsked before s → AreAsked before (follow k.watchers step m xid number s)
    follow_asked steps.AskFeatures m xid number s are =
        world_asked s (say number messages.FeaturesRequest s.world) (say_same number messages.FeaturesRequest s.world (λ conn id. refl)) are
    follow_asked (steps.Features id n_tables auxiliary) m xid number s are = introduce_asked number id (unfit s.world.conf id auxiliary) s are
    follow_asked steps.Echo m xid number s are = world_asked s (echo m number xid s.world) (echo_same m number xid s.world) are
    follow_asked (steps.Close cause) m xid number s are = world_asked s (turn_away cause number xid s.world) (turn_away_same cause number xid s.world) are
    follow_asked step m xid number s are = are

  abbrev Are : Monitor → Type 0
  Are k = AreAsked before k.said

  told_asked : (told : Telling) (xid number : ℕ) (dp : Option Dp) (k : Monitor) → Are k → Are (told_on told xid number dp k)
  told_asked told xid number dp k are = record { more = are.more; behind = are.behind; asked = are.asked }

  message_asked : (m : Message) (xid number : ℕ) (k : Monitor) → Are k → Are (hear_message m xid number k)
  message_asked m xid number k are = by (conn_with k.said.world.conns number)
    where
      by : (o : Option Conn) → Are (option_map_or (hear_on m xid number k) o k)
      by (Some c) = follow_asked k (leads c.session.state m xid).1 m xid number (heard m xid number (told_on (told_by m) xid number (dp_on k.said.world c) k).said) (world_asked (told_on (told_by m) xid number (dp_on k.said.world c) k).said (heard m xid number (told_on (told_by m) xid number (dp_on k.said.world c) k).said).world refl (told_asked (told_by m) xid number (dp_on k.said.world c) k are))
      by None = are

  frame_asked : (given : Option (Message × ℕ)) (number : ℕ) (k : Monitor) → Are k → Are (hear_frame given number k)
  frame_asked (Some given) number k are = message_asked given.0 given.1 number k are
  frame_asked None number k are = world_asked k.said (close BadFrame number k.said.world) (close_same BadFrame number k.said.world) are

  front_asked : (f : Front) (number : ℕ) (k : Monitor) → Are k → Are (hear_front f number k)
  front_asked Part number k are = are
  front_asked (Frame frame) number k are = frame_asked (reads frame) number k are
  front_asked Bad number k are = world_asked k.said (close BadFrame number k.said.world) (close_same BadFrame number k.said.world) are

  next_asked : (number : ℕ) (k : Monitor) → Are k → Are (hear_next number k)
  next_asked number k are =
      front_asked (front (unread number k.said.world)) number (with_world (read number) k) (world_asked k.said (read number k.said.world) refl are)

  either : (b : Bool) (k l : Monitor) → Are k → Are l → Are (if b then k else l)
  either true k l here there = here
  either false k l here there = there

  frames_asked : (most number : ℕ) (k : Monitor) → Are k → Are (hear_frames most number k)
  frames_asked zero number k are = are
  frames_asked (suc most) number k are =
      either (has_frame number k.said.world) (hear_frames most number (hear_next number k)) (hear_next number k)
      (frames_asked most number (hear_next number k) (next_asked number k are)) (next_asked number k are)

-- ---- turns

nothing : (before : List Poll) (s : Said) → s.polls ≡ before → requests s.world.said ≡ [] → AreAsked before s
nothing before s same none = record { more = []; behind = same ∙ sym (append-nil before); asked = sym none }

pub turn_asks : (h : Happening) (m : Monitor) → AreAsked (found_polls h m) (turn h m).said
turn_asks (happenings.Opened number) m = by (is_open m.said.world.conns number)
  where
    by : (b : Bool) → AreAsked (if b then m.said.polls else of_others number m.said.polls) (if b then anew m else opened number (anew m)).said
    by true = nothing m.said.polls (anew m).said refl refl
    by false = nothing (of_others number m.said.polls) (opened number (anew m)).said refl (open_same number (anew m).said.world)
turn_asks (happenings.Heard number piece) m =
    let begun = nothing m.said.polls (anew m).said refl refl in
    let fed : Monitor = with_world (feed number piece) (anew m) in
    either m.said.polls (is_open m.said.world.conns number) (hear_all number fed) (anew m)
    (frames_asked m.said.polls (length (unread number fed.said.world)) number fed (nothing m.said.polls fed.said refl refl)) begun
turn_asks (happenings.Closed number cause) m =
    either m.said.polls (is_open m.said.world.conns number) (with_world (ended (closing_for cause) number) (anew m)) (anew m)
    (nothing m.said.polls (with_world (ended (closing_for cause) number) (anew m)).said refl (ended_same (closing_for cause) number (anew m).said.world))
    (nothing m.said.polls (anew m).said refl refl)
turn_asks (happenings.Moment moment) m =
    let shown : Monitor = with_world (show moment) (anew m) in
    let none = look_each_same (map (λ (c : Conn). c.number) shown.said.world.conns) shown.said.world in
    due_kept (AreAsked m.said.polls) (conn_asked m.said.polls) 0 m.watchers (looked shown.said) (nothing m.said.polls (looked shown.said) refl none)
turn_asks (happenings.Reload text) m = nothing m.said.polls (anew m).said refl refl
