-- What leaves a switch calm: no port of it is lost, and nothing is to be told.
use Rattle.std.proofs.Common.{◌≡◌, ℕ, zero, suc, ◌==◌, ◌&&◌, ◌||◌, not, Bool, true, false, if◌then◌else◌, List, [], ◌∷◌, ◌++◌, take, drop, filter, Option, Some, None, refl, ap}
use Rattle.of13_codec.specs.declared.message.Message.{Message}
use Rattle.of13_codec.specs.declared.message.Message.TheVariants as messages
use Rattle.of13_codec.specs.declared.ports.PortDesc.{PortDesc}
use Rattle.switch_session.specs.declared.ports.PortTold.{PortTold}
use Rattle.switch_session.specs.declared.state.Step.{Step}
use Rattle.switch_session.specs.declared.state.Step.TheVariants as steps
use Rattle.switch_session.specs.Stages.{leads}
use Rattle.switch_session.specs.Told.{knows, told_of}
use Rattle.probe_hub.specs.declared.links.LinkEnd.{LinkEnd}
use Rattle.probe_hub.specs.declared.links.Links.{Links}
use Rattle.probe_hub.specs.declared.marks.Mark.{Mark}
use Rattle.probe_hub.specs.declared.peer.Peer.{Peer}
use Rattle.probe_hub.specs.Conn.{heard_frame, heard_frames, heard_said, reads_packets}
use Rattle.probe_hub.specs.Frames.{frame_len, is_read, says}
use Rattle.probe_hub.specs.Links.{is_watched}
use Rattle.probe_hub.specs.Marks.{is_lost, mark_of, replaced, told, without}
use Rattle.probe_hub.specs.Notices.{without_port}
use Rattle.probe_hub.specs.Peer.{awaits_ports, described, fits, freed, heard, heard_open, heard_setup, introduced, is_of, is_shut, lost_all, mark_lost, port_changed, probed, probed_port, released_all, retold, told_by}
use Rattle.probe_hub.specs.Quiet.{AreFound, AreUnwatched, IsCalm}

-- whichever way a test goes
pick : {X : Type 0} (P : X → Type 0) (b : Bool) (x y : X) → P x → P y → P (if b then x else y)
pick P true x y here other = here
pick P false x y here other = other

-- ---- marks

found_some : (keep : Mark → Bool) (ms : List Mark) → AreFound ms → AreFound (filter keep ms)
found_some keep [] all = tt
found_some keep (m ∷ ms) all = pick AreFound (keep m) (m ∷ filter keep ms) (filter keep ms) (all.0, found_some keep ms all.1) (found_some keep ms all.1)

found_more : (ms : List Mark) (m : Mark) → AreFound ms → m.lost ≡ false → AreFound (ms ++ m ∷ [])
found_more [] m all one = (one, tt)
found_more (n ∷ ms) m all one = (all.0, found_more ms m all.1 one)

found_told : (moment port : ℕ) (up : Bool) (ms : List Mark) → AreFound ms → AreFound (told moment port up ms)
found_told moment port true ms all = found_more (without port ms) _ (found_some (λ m. not (m.no == port)) ms all) refl
found_told moment port false ms all = found_some (λ m. not (m.no == port)) ms all

found_replaced : (mark : Mark) (ms : List Mark) → mark.lost ≡ false → AreFound ms → AreFound (replaced mark ms)
found_replaced mark [] one all = tt
found_replaced mark (m ∷ ms) one all = (pick (λ (x : Mark). x.lost ≡ false) (m.no == mark.no) mark m one all.0, found_replaced mark ms one all.1)

unlost_by : (b : Bool) (ms : List Mark) (port : ℕ) → is_lost ms port ≡ false → ((b && false) || is_lost ms port) ≡ false
unlost_by true ms port none = none
unlost_by false ms port none = none

none_lost : (ms : List Mark) (port : ℕ) → AreFound ms → is_lost ms port ≡ false
none_lost [] port all = refl
none_lost (m ∷ ms) port all = rw (all.0) (unlost_by (m.no == port) ms port (none_lost ms port all.1))

-- ---- what is heard

calm_retold : (moment : ℕ) (port : PortTold) (p : Peer) → IsCalm p → IsCalm (retold moment port p)
calm_retold moment port p calm = record {
  found = found_told moment port.no (port.up && knows p.session.state.ports port.no) p.marks calm.found;
  waiting = ap (without_port port.no) calm.waiting;
}

calm_changed : (moment reason : ℕ) (port : Option PortTold) (p : Peer) → IsCalm p → IsCalm (port_changed moment reason port p)
calm_changed moment reason None p calm = calm
calm_changed moment reason (Some port) p calm = calm_retold moment (record { no = port.no; up = port.up && not (reason == 1) }) p calm

calm_described : (moment : ℕ) (ports : List PortDesc) (p : Peer) → IsCalm p → IsCalm (described moment ports p)
calm_described moment [] p calm = calm
calm_described moment (port ∷ ports) p calm = calm_described moment ports (port_changed moment 0 (told_of port) p) (calm_changed moment 0 (told_of port) p calm)

calm_told : (moment : ℕ) (m : Message) (awaited : Bool) (p : Peer) → IsCalm p → IsCalm (told_by moment m awaited p)
calm_told moment (messages.PortStatus reason port) awaited p calm = calm_changed moment reason (told_of port) p calm
calm_told moment (messages.PortDescReply more ports) true p calm = calm_described moment ports p calm
calm_told moment (messages.PortDescReply more ports) false p calm = calm
calm_told moment m awaited p calm = calm

calm_introduced : (links : Links) (step : Step) (p : Peer) → IsCalm p → IsCalm (introduced links step p)
calm_introduced links (steps.Features dp n_tables auxiliary) p calm =
    pick IsCalm (fits links dp n_tables auxiliary) (record p { dp = Some dp }) p (record { found = calm.found; waiting = calm.waiting }) calm
calm_introduced links step p calm = calm

calm_setup : (links : Links) (moment : ℕ) (m : Message) (xid : ℕ) (p : Peer) → IsCalm p → IsCalm (heard_setup links moment m xid p)
calm_setup links moment m xid p calm =
    let q : Peer = record p { session = record p.session { state = (leads p.session.state m xid).0 } } in
    calm_told moment m (awaits_ports xid p) (introduced links (leads p.session.state m xid).1 q)
    (calm_introduced links (leads p.session.state m xid).1 q (record { found = calm.found; waiting = calm.waiting }))

calm_probed : (moment : ℕ) (port : Option ℕ) (p : Peer) → IsCalm p → IsCalm (probed moment port p)
calm_probed moment None p calm = calm
calm_probed moment (Some port) p calm = record {
  found = found_replaced (record { no = port; since = moment; lost = false }) p.marks refl calm.found;
  waiting = rw (calm.waiting, none_lost p.marks port calm.found) refl;
}

calm_open : (links : Links) (moment : ℕ) (m : Message) (xid : ℕ) (p : Peer) → IsCalm p → IsCalm (heard_open links moment m xid p)
calm_open links moment (messages.PacketIn packet) xid p calm = calm_probed moment (probed_port links p.dp packet) p calm
calm_open links moment m xid p calm = calm_setup links moment m xid p calm

calm_heard : (links : Links) (moment : ℕ) (m : Message) (xid : ℕ) (p : Peer) → IsCalm p → IsCalm (heard links moment m xid p)
calm_heard links moment m xid p calm = pick IsCalm (is_shut p.session.state.stage) p (heard_open links moment m xid p) calm (calm_open links moment m xid p calm)

calm_said : (links : Links) (moment : ℕ) (said : Option (Message × ℕ)) (p : Peer) → IsCalm p → IsCalm (heard_said links moment said p)
calm_said links moment None p calm = calm
calm_said links moment (Some said) p calm = calm_heard links moment said.0 said.1 p calm

calm_frame : (links : Links) (moment : ℕ) (frame : List ℕ) (p : Peer) → IsCalm p → IsCalm (heard_frame links moment frame p)
calm_frame links moment frame p calm = pick IsCalm (is_read (reads_packets links p) frame) (heard_said links moment (says frame) p) p (calm_said links moment (says frame) p calm) calm

calm_front : (most : ℕ) (links : Links) (moment : ℕ) (bytes : List ℕ) (p : Peer) → IsCalm p
    → ((len : ℕ) → IsCalm (heard_frames most links moment (drop len bytes) (heard_frame links moment (take len bytes) p)))
    → (o : Option ℕ) → frame_len bytes ≡ o → IsCalm (heard_frames (suc most) links moment bytes p)
calm_front most links moment bytes p calm behind None is = rw is calm
calm_front most links moment bytes p calm behind (Some len) is = rw is (behind len)

pub calm_frames : (most : ℕ) (links : Links) (moment : ℕ) (bytes : List ℕ) (p : Peer) → IsCalm p → IsCalm (heard_frames most links moment bytes p)
calm_frames zero links moment bytes p calm = calm
calm_frames (suc most) links moment bytes p calm =
    calm_front most links moment bytes p calm (λ (len : ℕ). calm_frames most links moment (drop len bytes) (heard_frame links moment (take len bytes) p) (calm_frame links moment (take len bytes) p calm)) (frame_len bytes) refl

-- ---- ports that get lost or are released: none

pub none_lose : (moment : ℕ) (ends : List LinkEnd) (p : Peer) → AreUnwatched ends → lost_all moment ends p ≡ p
none_lose moment [] p none = refl
none_lose moment (end ∷ ends) p none = rw (none.0) (none_lose moment ends p none.1)

first_mark : (m : Mark) (ms : List Mark) (port : ℕ) → m.lost ≡ false → mark_lost (mark_of ms port) ≡ None → (b : Bool) → (m.no == port) ≡ b → mark_lost (mark_of (m ∷ ms) port) ≡ None
first_mark m ms port one none true is = rw (is, one) refl
first_mark m ms port one none false is = rw is none

none_mark : (ms : List Mark) (port : ℕ) → AreFound ms → mark_lost (mark_of ms port) ≡ None
none_mark [] port all = refl
none_mark (m ∷ ms) port all = first_mark m ms port all.0 (none_mark ms port all.1) (m.no == port) refl

none_freed : (next : List LinkEnd) (end : LinkEnd) (p : Peer) → IsCalm p → freed next end p ≡ None
none_freed next end p calm = pick (λ (o : Option Mark). o ≡ None) (not (is_of end.dp p.dp) || is_watched next end.dp end.port) None (mark_lost (mark_of p.marks end.port)) refl (none_mark p.marks end.port calm.found)

pub none_release : (next ends : List LinkEnd) (p : Peer) → IsCalm p → released_all next ends p ≡ p
none_release next [] p calm = refl
none_release next (end ∷ ends) p calm = rw (none_freed next end p calm) (none_release next ends p calm)
