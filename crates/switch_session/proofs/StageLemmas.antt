-- Only what its stage awaits moves a connection on.
use Rattle.std.proofs.Common.{◌≡◌, ℕ, Bool, true, false, not, ◌&&◌, ◌==◌, List, Option, Some, None, refl, inl, inr, if◌then◌else◌}
use Rattle.std.specs.Prelude.{◌⊎◌}
use Rattle.of13_codec.specs.declared.message.Message.{Message}
use Rattle.of13_codec.specs.declared.message.Message.TheVariants.{Hello, Error, EchoRequest, FeaturesReply, PacketIn, PortStatus, PortDescReply, BarrierReply}
use Rattle.of13_codec.specs.declared.ports.PortDesc.{PortDesc}
use Rattle.switch_session.specs.declared.ports.PortTold.{PortTold}
use Rattle.switch_session.specs.declared.state.Stage.{Stage}
use Rattle.switch_session.specs.declared.state.Stage.TheVariants.{Greeting, Features, Ports, Wiping, Running, Shut}
use Rattle.switch_session.specs.declared.state.Step.{Step}
use Rattle.switch_session.specs.declared.state.Step.TheVariants.{Wiped, Settled}
use Rattle.switch_session.specs.Told.{told_of}
use Rattle.switch_session.specs.Stages.{State, answered, awaited, awaits, changed_port, described, heard, heard_in, leads, passed, speaks}
use Rattle.switch_session.specs.Replies.{is_awaited_in, stage_after}
use Rattle.switch_session.proofs.ReplyLemmas.{pick}

abbrev Moves : Stage → Bool → State × Step → Type 0
Moves stage it r = (r.0.stage ≡ stage) ⊎ ((r.0.stage ≡ Shut) ⊎ ((it ≡ true) × (r.0.stage ≡ stage_after stage)))

described_moves : (s : State) (more : Bool) (descs : List PortDesc) → s.stage ≡ Ports → Moves Ports (not more && true) (described s more descs)
described_moves s true descs is = inl is
described_moves s false descs is = inr (inr (refl, refl))

awaited_moves : (stage : Stage) (s : State) (m : Message) (xid : ℕ) → s.stage ≡ stage → Moves stage (is_awaited_in stage s m xid) (awaited stage s m xid)
awaited_moves Greeting s (Hello version bitmap) xid is = pick (Moves Greeting true) (speaks version bitmap) _ _ (inr (inr (refl, refl))) (inr (inl refl))
awaited_moves Ports s (PortDescReply more descs) xid is = by (awaits s xid)
  where
    by : (b : Bool) → Moves Ports (not more && b) (if b then described s more descs else passed s)
    by true = described_moves s more descs is
    by false = inl is
awaited_moves Wiping s BarrierReply xid is = by (awaits s xid)
  where
    by : (b : Bool) → Moves Wiping (true && b) (if b then answered s Wiped else passed s)
    by true = inr (inr (refl, refl))
    by false = inl is
awaited_moves Running s BarrierReply xid is = by (awaits s xid)
  where
    by : (b : Bool) → Moves Running (true && b) (if b then answered s Settled else passed s)
    by true = inl refl
    by false = inl is
awaited_moves Features s (FeaturesReply reply) xid is = inr (inr (refl, refl))
awaited_moves Running s (PacketIn packet) xid is = inl is
awaited_moves stage s m xid is = inl is

changed_stays : (s : State) (reason : ℕ) (port : Option PortTold) → (changed_port s reason port).0.stage ≡ s.stage
changed_stays s reason None = refl
changed_stays s reason (Some port) = pick (λ r. r.0.stage ≡ s.stage) (reason == 1) _ _ refl refl

heard_moves : (s : State) (m : Message) (xid : ℕ) → Moves s.stage (is_awaited_in s.stage s m xid) (heard s m xid)
heard_moves s (Error kind code payload) xid = inr (inl refl)
heard_moves s (EchoRequest payload) xid = inl refl
heard_moves s (PortStatus reason port) xid = inl (changed_stays s reason (told_of port))
heard_moves s m xid = awaited_moves s.stage s m xid refl

heard_in_moves : (stage : Stage) (s : State) (m : Message) (xid : ℕ) → Moves s.stage (is_awaited_in s.stage s m xid) (heard_in stage s m xid)
heard_in_moves Shut s m xid = inl refl
heard_in_moves stage s m xid = heard_moves s m xid

pub leads_moves : (s : State) (m : Message) (xid : ℕ) → Moves s.stage (is_awaited_in s.stage s m xid) (leads s m xid)
leads_moves s m xid = heard_in_moves s.stage s m xid
