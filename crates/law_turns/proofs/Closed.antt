-- What a Gauge closes has its cause, and each cause closes.
use Rattle.std.proofs.Common.{◌≡◌, ℕ, zero, suc, ◌==◌, ◌++◌, Bool, true, false, Option, Some, None, List, [], ◌∷◌, append_assoc, append-nil, length, map, refl, sym, ap, ◌∙◌, if◌then◌else◌}
use Rattle.std.specs.Option.{option_map_or}
use Rattle.std.proofs.lemmas.Grind.{flat_map-append}
use Rattle.net_base.specs.declared.numbers.DpId.{DpId}
use Rattle.fg_outside.specs.declared.hub.Happening.{Happening}
use Rattle.fg_outside.specs.declared.hub.Happening.TheVariants as happenings
use Rattle.of13_codec.specs.declared.message.Message.{Message}
use Rattle.of13_codec.specs.declared.ports.PortDesc.{PortDesc}
use Rattle.of13_codec.specs.declared.message.Message.TheVariants as messages
use Rattle.switch_session.specs.declared.closing.Closing.{Closing}
use Rattle.switch_session.specs.declared.closing.Closing.TheVariants.{BadFrame, Replaced, Silent, SwitchError, WrongVersion}
use Rattle.switch_session.specs.declared.ports.PortTold.{PortTold}
use Rattle.switch_session.specs.declared.quiet.Quiet.{Quiet}
use Rattle.switch_session.specs.declared.quiet.Quiet.TheVariants as quiet
use Rattle.switch_session.specs.declared.state.Stage.{Stage}
use Rattle.switch_session.specs.declared.state.Stage.TheVariants.{Greeting, Features, Ports, Wiping, Running, Shut}
use Rattle.switch_session.specs.declared.state.Step.{Step}
use Rattle.switch_session.specs.declared.state.Step.TheVariants as steps
use Rattle.switch_session.specs.Connections.{due_at, next_id}
use Rattle.switch_session.specs.Stages.{State, answered, awaited, awaits, changed_port, closed, described, heard as hears, heard_in, leads, passed, speaks, with_port_told}
use Rattle.switch_session.specs.Told.{forget, takes, told_of}
use Rattle.ctl_world.specs.declared.conns.Conn.{Conn}
use Rattle.ctl_world.specs.declared.frames.Front.{Front}
use Rattle.ctl_world.specs.declared.frames.Front.TheVariants.{Part, Frame, Bad}
use Rattle.ctl_world.specs.declared.said.Said.{Said as Told}
use Rattle.ctl_world.specs.declared.said.Said.TheVariants as told
use Rattle.ctl_world.specs.Connections.{change, conn_of, conn_with, is_open, with_looked, with_said}
use Rattle.ctl_world.specs.Ends.{close, end_line, ended}
use Rattle.ctl_world.specs.Frames.{front}
use Rattle.ctl_world.specs.Saying.{say, say_by}
use Rattle.ctl_world.specs.World.{World}
use Rattle.ctl_life.specs.Life.{closing_for, echo, feed, has_frame, open_conn, read, replace, take_dp, tell_version, turn_away, unread}
use Rattle.ctl_life.specs.Silence.{closes, falls_silent, is_silent, look, look_each, look_on, show, stir}
use Rattle.ctl_life.proofs.FallsSilent.{closes_silent}
use Rattle.ctl_world.proofs.Numbered.{has_it}
use Rattle.ctl_life.proofs.Openings.{with_fresh}
use Rattle.gauge_conf.specs.declared.gauge.WatchKind.{WatchKind}
use Rattle.gauge_poll.specs.Monitoring.{Monitor, anew, dp_on, follow, hear_all, hear_frame, hear_frames, hear_front, hear_message, hear_next, hear_on, heard, introduce, looked, opened, told_on, turn, unfit, with_world}
use Rattle.gauge_poll.specs.Polls.{Said, poll_conn, poll_on, request_for}
use Rattle.gauge_poll.specs.Telling.{reads, told_by}
use Rattle.gauge_poll.proofs.Rounds.{due_kept, first_kept}
use Rattle.law_turns.specs.Closings.{Closed, causes, closed_in, closings, for_awaited, for_bytes, for_features, for_frame, for_frames, for_front, for_heard, for_message, for_next, for_silence, one}

-- ---- what is said closes nothing, or one connection

abbrev Same : World → World → Type 0
Same v w = closings v.said ≡ closings w.said

abbrev Adds : World → World → List Closed → Type 0
Adds v w more = closings v.said ≡ closings w.said ++ more

adds : (more said : List Told) → closings (said ++ more) ≡ closings said ++ closings more
adds more said = flat_map-append closed_in said more

none_more : (more said : List Told) → closings more ≡ [] → closings (said ++ more) ≡ closings said
none_more more said none = adds more said ∙ ap (λ cs. closings said ++ cs) none ∙ append-nil (closings said)

nothing_added : (v w : World) → Same v w → Adds v w []
nothing_added v w same = same ∙ sym (append-nil (closings w.said))

say_same : (number : ℕ) (m : Message) (w : World) → Same (say number m w) w
say_same number m w = by (conn_with w.conns number)
  where
    by : (o : Option Conn) → closings (option_map_or (say_by with_said m w) o w).said ≡ closings w.said
    by (Some c) = none_more (told.Message c.number m (next_id c.session.last_xid) ∷ []) w.said refl
    by None = refl

close_adds : (cause : Closing) (number : ℕ) (w : World) → Adds (close cause number w) w (one number cause)
close_adds cause number w = adds (told.Closing number cause ∷ end_line number cause ∷ []) w.said

ended_same : (cause : Closing) (number : ℕ) (w : World) → Same (ended cause number w) w
ended_same cause number w = none_more (end_line number cause ∷ []) w.said refl

open_same : (number : ℕ) (w : World) → Same (open_conn number w) w
open_same number w = say_same number (messages.Hello 4 (Some 16)) (with_fresh number w)

echo_same : (m : Message) (number xid : ℕ) (w : World) → Same (echo m number xid w) w
echo_same (messages.EchoRequest payload) number xid w = none_more (told.Message number (messages.EchoReply payload) xid ∷ []) w.said refl
echo_same m number xid w = refl

turn_away_adds : (cause : Closing) (number xid : ℕ) (w : World) → Adds (turn_away cause number xid w) w (one number cause)
turn_away_adds WrongVersion number xid w =
    close_adds WrongVersion number (tell_version WrongVersion number xid w)
    ∙ ap (λ cs. cs ++ one number WrongVersion) (none_more (told.Message number (messages.Error 0 0 []) xid ∷ []) w.said refl)
turn_away_adds cause number xid w = close_adds cause number w

abbrev replaced : Option Conn → List Closed
replaced o = option_map_or (λ (c : Conn). one c.number Replaced) o []

replace_adds : (dp : DpId) (w : World) → Adds (replace dp w) w (replaced (conn_of w.conns dp))
replace_adds dp w = by (conn_of w.conns dp)
  where
    by : (o : Option Conn) → closings (option_map_or (λ (c : Conn). close Replaced c.number w) o w).said ≡ closings w.said ++ replaced o
    by (Some c) = close_adds Replaced c.number w
    by None = nothing_added w w refl

-- ---- a poll closes nothing

abbrev Has : List Closed → Said → Type 0
Has all s = closings s.world.said ≡ all

poll_has : (all : List Closed) (kind : WatchKind) (place conn : ℕ) (s : Said) → Has all s → Has all (poll_conn kind place conn s)
poll_has all kind place conn s has = by (conn_with s.world.conns conn)
  where
    by : (o : Option Conn) → Has all (option_map_or (poll_on kind place conn s) o s)
    by (Some c) = say_same conn (request_for kind) s.world ∙ has
    by None = has

-- ---- a step of a connection

abbrev for_step : World → Step → (number : ℕ) → List Closed
for_step w (steps.Features id n_tables auxiliary) number = for_features number id (unfit w.conf id auxiliary) w.conns
for_step w (steps.Close cause) number = one number cause
for_step w step number = []

introduce_adds : (k : Monitor) (number : ℕ) (dp : DpId) (cause : Option Closing) (s : Said)
    → Adds (introduce k.watchers number dp cause s).world s.world (for_features number dp cause s.world.conns)
introduce_adds k number dp (Some cause) s = close_adds cause number s.world
introduce_adds k number dp None s =
    let all = closings s.world.said ++ replaced (conn_of s.world.conns dp) in
    first_kept (Has all) (poll_has all) 0 k.watchers dp (record s { world = take_dp number dp (replace dp s.world) }) (replace_adds dp s.world)

follow_adds : (k : Monitor) (step : Step) (m : Message) (xid number : ℕ) (s : Said) → Adds (follow k.watchers step m xid number s).world s.world (for_step s.world step number)
follow_adds k steps.AskFeatures m xid number s =
    nothing_added (say number messages.FeaturesRequest s.world) s.world (say_same number messages.FeaturesRequest s.world)
follow_adds k (steps.Features id n_tables auxiliary) m xid number s = introduce_adds k number id (unfit s.world.conf id auxiliary) s
follow_adds k steps.Echo m xid number s = nothing_added (echo m number xid s.world) s.world (echo_same m number xid s.world)
follow_adds k (steps.Close cause) m xid number s = turn_away_adds cause number xid s.world
follow_adds k step m xid number s = nothing_added s.world s.world refl

-- ---- which step a message leads to

module _ (w : World) (number : ℕ) where
  abbrev of : State × Step → List Closed
  of led = for_step w led.1 number

  if_none : (b : Bool) (here there : State × Step) → of here ≡ [] → of there ≡ [] → of (if b then here else there) ≡ []
  if_none true here there a b = a
  if_none false here there a b = b

  greets : (b : Bool) (s : State) → of (if b then (record s { stage = Features }, steps.AskFeatures) else closed s WrongVersion) ≡ (if b then [] else one number WrongVersion)
  greets true s = refl
  greets false s = refl

  awaited_closes : (stage : Stage) (s : State) (m : Message) (xid : ℕ) → of (awaited stage s m xid) ≡ for_awaited w stage m number
  awaited_closes Greeting s (messages.Hello version bitmap) xid = greets (speaks version bitmap) s
  awaited_closes Features s (messages.FeaturesReply reply) xid = refl
  awaited_closes Ports s (messages.PortDescReply more ports) xid =
      if_none (awaits s xid) (described s more ports) (passed s) (by more) refl
    where
      by : (more : Bool) → of (described s more ports) ≡ []
      by true = refl
      by false = refl
  awaited_closes Wiping s messages.BarrierReply xid = if_none (awaits s xid) (answered s steps.Wiped) (passed s) refl refl
  awaited_closes Running s messages.BarrierReply xid = if_none (awaits s xid) (answered s steps.Settled) (passed s) refl refl
  awaited_closes Running s (messages.PacketIn packet) xid = refl
  awaited_closes stage s m xid = refl

  echo_awaits : (stage : Stage) (payload : List ℕ) → for_awaited w stage (messages.EchoRequest payload) number ≡ []
  echo_awaits Greeting payload = refl
  echo_awaits Features payload = refl
  echo_awaits Ports payload = refl
  echo_awaits Wiping payload = refl
  echo_awaits Running payload = refl
  echo_awaits Shut payload = refl

  port_awaits : (stage : Stage) (reason : ℕ) (port : PortDesc) → for_awaited w stage (messages.PortStatus reason port) number ≡ []
  port_awaits Greeting reason port = refl
  port_awaits Features reason port = refl
  port_awaits Ports reason port = refl
  port_awaits Wiping reason port = refl
  port_awaits Running reason port = refl
  port_awaits Shut reason port = refl

  told_closes : (b : Bool) (s : State) (port : PortTold) → for_step w (if b then steps.PortChanged port.no else steps.Nothing) number ≡ []
  told_closes true s port = refl
  told_closes false s port = refl

  port_closes : (s : State) (reason : ℕ) (port : Option PortTold) → of (changed_port s reason port) ≡ []
  port_closes s reason None = refl
  port_closes s reason (Some port) =
      if_none (reason == 1) (record s { ports = forget s.ports port.no }, steps.PortChanged port.no) (with_port_told s port) refl (told_closes (takes s.ports port.no) s port)

  heard_closes : (s : State) (m : Message) (xid : ℕ) → of (hears s m xid) ≡ for_heard w s.stage m number
  heard_closes s (messages.Error kind code payload) xid = refl
  heard_closes s (messages.EchoRequest payload) xid = sym (echo_awaits s.stage payload)
  heard_closes s (messages.PortStatus reason port) xid = port_closes s reason (told_of port) ∙ sym (port_awaits s.stage reason port)
  heard_closes s m xid = awaited_closes s.stage s m xid

  message_closes : (s : State) (m : Message) (xid : ℕ) → of (leads s m xid) ≡ for_message w s.stage m number
  message_closes s m xid = by s.stage refl
    where
      by : (stage : Stage) → s.stage ≡ stage → of (heard_in stage s m xid) ≡ for_message w stage m number
      by Shut is = refl
      by stage is = heard_closes s m xid ∙ ap (λ (at : Stage). for_heard w at m number) is

-- ---- a message, a frame, and all of them

abbrev world_of : Monitor → World
world_of k = k.said.world

message_adds : (m : Message) (xid number : ℕ) (k : Monitor) → Adds (world_of (hear_message m xid number k)) (world_of k) (for_frame (Some (m, xid)) number k)
message_adds m xid number k = by (conn_with k.said.world.conns number)
  where
    by : (o : Option Conn) → closings (world_of (option_map_or (hear_on m xid number k) o k)).said
        ≡ closings k.said.world.said ++ option_map_or (λ (c : Conn). for_message (heard m xid number k.said).world c.session.state.stage m number) o []
    by (Some c) =
        follow_adds k (leads c.session.state m xid).1 m xid number (heard m xid number (told_on (told_by m) xid number (dp_on k.said.world c) k).said)
        ∙ ap (λ cs. closings k.said.world.said ++ cs) (message_closes (heard m xid number k.said).world number c.session.state m xid)
    by None = sym (append-nil (closings k.said.world.said))

frame_adds : (given : Option (Message × ℕ)) (number : ℕ) (k : Monitor) → Adds (world_of (hear_frame given number k)) (world_of k) (for_frame given number k)
frame_adds (Some given) number k = message_adds given.0 given.1 number k
frame_adds None number k = close_adds BadFrame number k.said.world

front_adds : (f : Front) (number : ℕ) (k : Monitor) → Adds (world_of (hear_front f number k)) (world_of k) (for_front f number k)
front_adds Part number k = sym (append-nil (closings k.said.world.said))
front_adds (Frame frame) number k = frame_adds (reads frame) number k
front_adds Bad number k = close_adds BadFrame number k.said.world

next_adds : (number : ℕ) (k : Monitor) → Adds (world_of (hear_next number k)) (world_of k) (for_next number k)
next_adds number k = front_adds (front (unread number k.said.world)) number (with_world (read number) k)

-- one frame, and those behind it
frame_adds_more : (most number : ℕ) (k : Monitor) → Adds (world_of (hear_frames most number (hear_next number k))) (world_of (hear_next number k)) (for_frames most number (hear_next number k)) → (b : Bool)
    → closings (world_of (if b then hear_frames most number (hear_next number k) else hear_next number k)).said
    ≡ closings k.said.world.said ++ (for_next number k ++ (if b then for_frames most number (hear_next number k) else []))
frame_adds_more most number k more true =
    more
    ∙ ap (λ cs. cs ++ for_frames most number (hear_next number k)) (next_adds number k)
    ∙ append_assoc (closings k.said.world.said) (for_next number k) (for_frames most number (hear_next number k))
frame_adds_more most number k more false = next_adds number k ∙ ap (λ cs. closings k.said.world.said ++ cs) (sym (append-nil (for_next number k)))

frames_adds : (most number : ℕ) (k : Monitor) → Adds (world_of (hear_frames most number k)) (world_of k) (for_frames most number k)
frames_adds zero number k = sym (append-nil (closings k.said.world.said))
frames_adds (suc most) number k = frame_adds_more most number k (frames_adds most number (hear_next number k)) (has_frame number k.said.world)

-- what is fed is heard, where the connection is open
bytes_close : (b : Bool) (number : ℕ) (fed begun : Monitor) → closings fed.said.world.said ≡ [] → closings begun.said.world.said ≡ []
    → closings (world_of (if b then hear_all number fed else begun)).said ≡ (if b then for_bytes number fed else [])
bytes_close true number fed begun none nothing = frames_adds (length (unread number fed.said.world)) number fed ∙ ap (λ cs. cs ++ for_bytes number fed) none
bytes_close false number fed begun none nothing = nothing

-- ---- a moment

abbrev silent : Bool → (number : ℕ) → List Closed
silent b number = if b then one number Silent else []

stir_adds : (due : Quiet) (number : ℕ) (w : World) → Adds (stir due number w) w (silent (closes due) number)
stir_adds quiet.Well number w = nothing_added w w refl
stir_adds quiet.Echo number w = nothing_added (say number (messages.EchoRequest []) w) w (say_same number (messages.EchoRequest []) w)
stir_adds quiet.Silent number w = close_adds Silent number w

look_adds : (number : ℕ) (w : World) → Adds (look number w) w (silent (falls_silent w number) number)
look_adds number w = by (conn_with w.conns number) refl
  where
    by : (o : Option Conn) → conn_with w.conns number ≡ o → closings (option_map_or (look_on w) o w).said ≡ closings w.said ++ silent (option_map_or (is_silent w.moment) o false) number
    by (Some c) is =
        stir_adds (due_at c.session w.moment) c.number (record w { conns = change c.number (with_looked w.moment) w.conns })
        ∙ ap (λ b. closings w.said ++ silent b c.number) (closes_silent w.moment (Some c))
        ∙ ap (λ n. closings w.said ++ silent (is_silent w.moment c) n) (has_it number w.conns c is)
    by None is = nothing_added w w refl

each_adds : (numbers : List ℕ) (w : World) → Adds (look_each numbers w) w (for_silence numbers w)
each_adds [] w = nothing_added w w refl
each_adds (number ∷ numbers) w =
    each_adds numbers (look number w) ∙ ap (λ cs. cs ++ for_silence numbers (look number w)) (look_adds number w)
    ∙ append_assoc (closings w.said) (silent (falls_silent w number) number) (for_silence numbers (look number w))

-- ---- a turn

pub turn_closes : (h : Happening) (m : Monitor) → closings (turn h m).said.world.said ≡ causes h m
turn_closes (happenings.Opened number) m = by (is_open m.said.world.conns number)
  where
    by : (b : Bool) → closings (world_of (if b then anew m else opened number (anew m))).said ≡ []
    by true = refl
    by false = open_same number (anew m).said.world
turn_closes (happenings.Heard number piece) m =
    bytes_close (is_open m.said.world.conns number) number (with_world (feed number piece) (anew m)) (anew m) refl refl
turn_closes (happenings.Closed number cause) m = by (is_open m.said.world.conns number)
  where
    by : (b : Bool) → closings (world_of (if b then with_world (ended (closing_for cause) number) (anew m) else anew m)).said ≡ []
    by true = ended_same (closing_for cause) number (anew m).said.world
    by false = refl
turn_closes (happenings.Moment moment) m =
    let shown : Monitor = with_world (show moment) (anew m) in
    let numbers = map (λ (c : Conn). c.number) shown.said.world.conns in
    let all = for_silence numbers shown.said.world in
    due_kept (Has all) (poll_has all) 0 m.watchers (looked shown.said) (each_adds numbers shown.said.world)
turn_closes (happenings.Reload text) m = refl
