-- What is awaited goes with its reply, and with no other message.
use Rattle.std.proofs.Common.{◌≡◌, ℕ, Bool, true, false, ◌==◌, List, Option, Some, None, refl, sym, ap, ◌∙◌, inl, inr, true≢false, if◌then◌else◌}
use Rattle.std.specs.Prelude.{◌⊎◌}
use Rattle.std.proofs.lemmas.Bool.{eqb-true, eq-eqb}
use Rattle.of13_codec.specs.declared.message.Message.{Message}
use Rattle.of13_codec.specs.declared.message.Message.TheVariants.{Hello, Error, EchoRequest, FeaturesReply, PacketIn, PortStatus, PortDescReply, BarrierReply}
use Rattle.of13_codec.specs.declared.ports.PortDesc.{PortDesc}
use Rattle.switch_session.specs.declared.ports.PortTold.{PortTold}
use Rattle.switch_session.specs.declared.state.Stage.{Stage}
use Rattle.switch_session.specs.declared.state.Step.{Step}
use Rattle.switch_session.specs.declared.state.Step.TheVariants.{Wiped, Settled}
use Rattle.switch_session.specs.declared.state.Stage.TheVariants.{Greeting, Features, Ports, Wiping, Running, Shut}
use Rattle.switch_session.specs.Told.{told_of}
use Rattle.switch_session.specs.Stages.{State, answered, awaited, awaits, changed_port, described, heard, heard_in, is_id, leads, passed, speaks}
use Rattle.switch_session.specs.Replies.{is_reply_in}

pub pick : (P : State × Step → Type 0) (b : Bool) (x y : State × Step) → P x → P y → P (if b then x else y)
pick P true x y h k = h
pick P false x y h k = k

-- ---- it stays

abbrev Stays : Stage → Message → (xid id : ℕ) → State × Step → Type 0
Stays stage m xid id r = (r.0.awaited ≡ Some id) ⊎ ((is_reply_in stage m ≡ true) × (xid ≡ id))

its_id : (s : State) (xid id : ℕ) → s.awaited ≡ Some id → awaits s xid ≡ true → xid ≡ id
its_id s xid id is it = sym (eqb-true id xid (sym (ap (λ (o : Option ℕ). is_id o xid) is) ∙ it))

described_stays : (s : State) (more : Bool) (descs : List PortDesc) (xid id : ℕ) → s.awaited ≡ Some id → awaits s xid ≡ true
    → Stays Ports (PortDescReply more descs) xid id (described s more descs)
described_stays s true descs xid id is it = inl is
described_stays s false descs xid id is it = inr (refl, its_id s xid id is it)

awaited_stays : (stage : Stage) (s : State) (m : Message) (xid id : ℕ) → s.awaited ≡ Some id → Stays stage m xid id (awaited stage s m xid)
awaited_stays Greeting s (Hello version bitmap) xid id is = pick (Stays Greeting (Hello version bitmap) xid id) (speaks version bitmap) _ _ (inl is) (inl is)
awaited_stays Ports s (PortDescReply more descs) xid id is = by (awaits s xid) refl
  where
    by : (b : Bool) → awaits s xid ≡ b → Stays Ports (PortDescReply more descs) xid id (if b then described s more descs else passed s)
    by true it = described_stays s more descs xid id is it
    by false it = inl is
awaited_stays Wiping s BarrierReply xid id is = by (awaits s xid) refl
  where
    by : (b : Bool) → awaits s xid ≡ b → Stays Wiping BarrierReply xid id (if b then answered s Wiped else passed s)
    by true it = inr (refl, its_id s xid id is it)
    by false it = inl is
awaited_stays Running s BarrierReply xid id is = by (awaits s xid) refl
  where
    by : (b : Bool) → awaits s xid ≡ b → Stays Running BarrierReply xid id (if b then answered s Settled else passed s)
    by true it = inr (refl, its_id s xid id is it)
    by false it = inl is
awaited_stays Features s (FeaturesReply reply) xid id is = inl is
awaited_stays Running s (PacketIn packet) xid id is = inl is
awaited_stays stage s m xid id is = inl is

changed_stays : (s : State) (reason : ℕ) (port : Option PortTold) (o : Option ℕ) → s.awaited ≡ o → (changed_port s reason port).0.awaited ≡ o
changed_stays s reason None o is = is
changed_stays s reason (Some port) o is = pick (λ r. r.0.awaited ≡ o) (reason == 1) _ _ is is

heard_stays : (s : State) (m : Message) (xid id : ℕ) → s.awaited ≡ Some id → Stays s.stage m xid id (heard s m xid)
heard_stays s (Error kind code payload) xid id is = inl is
heard_stays s (EchoRequest payload) xid id is = inl is
heard_stays s (PortStatus reason port) xid id is = inl (changed_stays s reason (told_of port) (Some id) is)
heard_stays s m xid id is = awaited_stays s.stage s m xid id is

heard_in_stays : (stage : Stage) (s : State) (m : Message) (xid id : ℕ) → s.awaited ≡ Some id → Stays s.stage m xid id (heard_in stage s m xid)
heard_in_stays Shut s m xid id is = inl is
heard_in_stays stage s m xid id is = heard_stays s m xid id is

pub leads_stays : (s : State) (m : Message) (xid id : ℕ) → s.awaited ≡ Some id → Stays s.stage m xid id (leads s m xid)
leads_stays s m xid id is = heard_in_stays s.stage s m xid id is

-- ---- it goes

goes_by : (stage : Stage) (a : Option ℕ) (ps : List PortTold) (m : Message) (xid : ℕ) → is_reply_in stage m ≡ true → is_id a xid ≡ true
    → (leads (record { stage = stage; awaited = a; ports = ps }) m xid).0.awaited ≡ None
goes_by Ports a ps (PortDescReply false descs) xid reply it =
    let s : State = record { stage = Ports; awaited = a; ports = ps } in
    ap (λ (b : Bool). (if b then described s false descs else passed s).0.awaited) it
goes_by Wiping a ps BarrierReply xid reply it =
    let s : State = record { stage = Wiping; awaited = a; ports = ps } in
    ap (λ (b : Bool). (if b then answered s Wiped else passed s).0.awaited) it
goes_by Running a ps BarrierReply xid reply it =
    let s : State = record { stage = Running; awaited = a; ports = ps } in
    ap (λ (b : Bool). (if b then answered s Settled else passed s).0.awaited) it
goes_by stage a ps m xid reply it = absurd (true≢false (sym reply))

pub leads_goes : (s : State) (m : Message) (id : ℕ) → s.awaited ≡ Some id → is_reply_in s.stage m ≡ true → (leads s m id).0.awaited ≡ None
leads_goes s m id is reply = goes_by s.stage s.awaited s.ports m id reply (ap (λ (o : Option ℕ). is_id o id) is ∙ eq-eqb id id refl)

-- ---- nothing comes

described_none : (s : State) (more : Bool) (descs : List PortDesc) → s.awaited ≡ None → (described s more descs).0.awaited ≡ None
described_none s true descs is = is
described_none s false descs is = refl

abbrev HasNone : State × Step → Type 0
HasNone r = r.0.awaited ≡ None

awaited_none : (stage : Stage) (s : State) (m : Message) (xid : ℕ) → s.awaited ≡ None → HasNone (awaited stage s m xid)
awaited_none Greeting s (Hello version bitmap) xid is = pick HasNone (speaks version bitmap) _ _ is is
awaited_none Ports s (PortDescReply more descs) xid is = pick HasNone (awaits s xid) _ _ (described_none s more descs is) is
awaited_none Wiping s BarrierReply xid is = pick HasNone (awaits s xid) _ _ refl is
awaited_none Running s BarrierReply xid is = pick HasNone (awaits s xid) _ _ refl is
awaited_none Features s (FeaturesReply reply) xid is = is
awaited_none Running s (PacketIn packet) xid is = is
awaited_none stage s m xid is = is

heard_none : (s : State) (m : Message) (xid : ℕ) → s.awaited ≡ None → HasNone (heard s m xid)
heard_none s (Error kind code payload) xid is = is
heard_none s (EchoRequest payload) xid is = is
heard_none s (PortStatus reason port) xid is = changed_stays s reason (told_of port) None is
heard_none s m xid is = awaited_none s.stage s m xid is

heard_in_none : (stage : Stage) (s : State) (m : Message) (xid : ℕ) → s.awaited ≡ None → HasNone (heard_in stage s m xid)
heard_in_none Shut s m xid is = is
heard_in_none stage s m xid is = heard_none s m xid is

pub leads_none : (s : State) (m : Message) (xid : ℕ) → s.awaited ≡ None → HasNone (leads s m xid)
leads_none s m xid is = heard_in_none s.stage s m xid is
