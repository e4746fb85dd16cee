-- Messages leave the ports told at most 4,096, no two of one number.
use Rattle.std.proofs.Common.{◌≡◌, ◌≢◌, ℕ, suc, ◌≤◌, Bool, true, false, cond, ◌||◌, ◌==◌, nat_lt, not, List, [], ◌∷◌, ◌++◌, length, filter, Option, Some, None, refl, sym, ◌∙◌, subst, arith, length-append, if◌then◌else◌}
use Rattle.std.specs.List.{AllByRecursion}
use Rattle.std.proofs.lemmas.List.{length-map}
use Rattle.std.proofs.lemmas.Bool.{eqb-true, eq-eqb, ltb-true, false≢true}
use Rattle.of13_codec.specs.declared.message.Message.{Message}
use Rattle.of13_codec.specs.declared.message.Message.TheVariants.{Hello, Error, EchoRequest, FeaturesReply, PacketIn, PortStatus, PortDescReply, BarrierReply}
use Rattle.of13_codec.specs.declared.ports.PortDesc.{PortDesc}
use Rattle.switch_session.specs.declared.ports.PortTold.{PortTold}
use Rattle.switch_session.specs.declared.state.Stage.{Stage}
use Rattle.switch_session.specs.declared.state.Step.{Step}
use Rattle.switch_session.specs.declared.state.Stage.TheVariants.{Greeting, Features, Ports, Wiping, Running, Shut}
use Rattle.switch_session.specs.Told.{told_of, knows, told_anew, tell, forget, tell_if, tell_all, AreApart, AreTold}
use Rattle.switch_session.specs.Stages.{State, awaits, speaks, awaited, changed_port, heard, heard_in, leads}

-- ---- A port is taken out

keep_all : (P : PortTold → Type 0) (b : Bool) (p : PortTold) (rest : List PortTold) → P p → AllByRecursion P rest → AllByRecursion P (cond b (p ∷ rest) rest)
keep_all P true p rest here more = (here, more)
keep_all P false p rest here more = more

filter_all : (P : PortTold → Type 0) (test : PortTold → Bool) (ports : List PortTold) → AllByRecursion P ports → AllByRecursion P (filter test ports)
filter_all P test [] all = tt
filter_all P test (p ∷ ps) all = keep_all P (test p) p (filter test ps) all.0 (filter_all P test ps all.1)

keep_apart : (b : Bool) (p : PortTold) (rest : List PortTold) → AllByRecursion (λ other. other.no ≢ p.no) rest → AreApart rest → AreApart (cond b (p ∷ rest) rest)
keep_apart true p rest all apart = (all, apart)
keep_apart false p rest all apart = apart

filter_apart : (test : PortTold → Bool) (ports : List PortTold) → AreApart ports → AreApart (filter test ports)
filter_apart test [] apart = tt
filter_apart test (p ∷ ps) apart =
    keep_apart (test p) p (filter test ps) (filter_all (λ other. other.no ≢ p.no) test ps apart.0) (filter_apart test ps apart.1)

keep_short : (b : Bool) (p : PortTold) (rest : List PortTold) (n : ℕ) → length rest ≤ n → length (cond b (p ∷ rest) rest) ≤ suc n
keep_short true p rest n short = omega arith
keep_short false p rest n short = omega arith

filter_short : (test : PortTold → Bool) (ports : List PortTold) → length (filter test ports) ≤ length ports
filter_short test [] = omega arith
filter_short test (p ∷ ps) = keep_short (test p) p (filter test ps) (length ps) (filter_short test ps)

forget_keeps : (ports : List PortTold) (n : ℕ) → AreTold ports → AreTold (forget ports n)
forget_keeps ports n are =
    let test = λ (port : PortTold). not (port.no == n) in
    record { most = omega (arith, filter_short test ports, are.most); apart = filter_apart test ports are.apart }

-- ---- A port is told anew

abbrev anew : PortTold → PortTold → PortTold
anew port told = if told.no == port.no then port else told

anew_at : (b : Bool) (port told : PortTold) → (told.no == port.no) ≡ b → (if b then port else told).no ≡ told.no
anew_at true port told is = sym (eqb-true told.no port.no is)
anew_at false port told is = refl

anew_all : (n : ℕ) (port : PortTold) (ports : List PortTold) → AllByRecursion (λ other. other.no ≢ n) ports
    → AllByRecursion (λ other. other.no ≢ n) (told_anew ports port)
anew_all n port [] all = tt
anew_all n port (p ∷ ps) all = (λ e. all.0 (sym (anew_at (p.no == port.no) port p refl) ∙ e), anew_all n port ps all.1)

anew_apart : (port : PortTold) (ports : List PortTold) → AreApart ports → AreApart (told_anew ports port)
anew_apart port [] apart = tt
anew_apart port (p ∷ ps) apart =
    let same = anew_at (p.no == port.no) port p refl in
    (subst (λ n. AllByRecursion (λ other. other.no ≢ n) (told_anew ps port)) (sym same) (anew_all p.no port ps apart.0), anew_apart port ps apart.1)

-- ---- A port is told first

all_push : (P : PortTold → Type 0) (ports : List PortTold) (port : PortTold) → AllByRecursion P ports → P port → AllByRecursion P (ports ++ port ∷ [])
all_push P [] port all here = (here, tt)
all_push P (p ∷ ps) port all here = (all.0, all_push P ps port all.1 here)

push_apart : (ports : List PortTold) (port : PortTold) → AllByRecursion (λ other. other.no ≢ port.no) ports → AreApart ports → AreApart (ports ++ port ∷ [])
push_apart [] port new apart = (tt, tt)
push_apart (p ∷ ps) port new apart =
    (all_push (λ other. other.no ≢ p.no) ps port apart.0 (λ e. new.0 (sym e)), push_apart ps port new.1 apart.1)

neither : (b c : Bool) → (b || c) ≡ false → (b ≡ false) × (c ≡ false)
neither true c is = absurd (false≢true (sym is))
neither false c is = (refl, is)

differs : (a b : ℕ) → (a == b) ≡ false → a ≢ b
differs a b is e = false≢true (sym is ∙ eq-eqb a b e)

unknown : (ports : List PortTold) (n : ℕ) → knows ports n ≡ false → AllByRecursion (λ other. other.no ≢ n) ports
unknown [] n is = tt
unknown (p ∷ ps) n is = let both = neither (p.no == n) (knows ps n) is in (differs p.no n both.0, unknown ps n both.1)

tell_at : (b c : Bool) (ports : List PortTold) (port : PortTold) → knows ports port.no ≡ b → nat_lt (length ports) 4096 ≡ c → AreTold ports
    → AreTold (if b then told_anew ports port else (if c then ports ++ port ∷ [] else ports))
tell_at true c ports port known room are =
    record { most = subst (λ n. n ≤ 4096) (sym (length-map ports (anew port))) are.most; apart = anew_apart port ports are.apart }
tell_at false true ports port known room are =
    record { most = omega (arith, length-append ports (port ∷ []), ltb-true (length ports) 4096 room); apart = push_apart ports port (unknown ports port.no known) are.apart }
tell_at false false ports port known room are = are

tell_keeps : (ports : List PortTold) (port : PortTold) → AreTold ports → AreTold (tell ports port)
unfolding tell
tell_keeps ports port are = tell_at (knows ports port.no) (nat_lt (length ports) 4096) ports port refl refl are

tell_if_keeps : (ports : List PortTold) (port : Option PortTold) → AreTold ports → AreTold (tell_if ports port)
tell_if_keeps ports None are = are
tell_if_keeps ports (Some port) are = tell_keeps ports port are

tell_all_keeps : (ports : List PortTold) (descs : List PortDesc) → AreTold ports → AreTold (tell_all ports descs)
tell_all_keeps ports [] are = are
tell_all_keeps ports (d ∷ ds) are = tell_all_keeps (tell_if ports (told_of d)) ds (tell_if_keeps ports (told_of d) are)

-- ---- A message is heard

either : (b : Bool) (x y : State × Step) → AreTold x.0.ports → AreTold y.0.ports → AreTold (if b then x else y).0.ports
either true x y h k = h
either false x y h k = k

changed_keeps : (s : State) (reason : ℕ) (port : Option PortTold) → AreTold s.ports → AreTold (changed_port s reason port).0.ports
changed_keeps s reason None are = are
changed_keeps s reason (Some port) are = either (reason == 1) _ _ (forget_keeps s.ports port.no are) (tell_keeps s.ports port are)

awaited_keeps : (stage : Stage) (s : State) (m : Message) (xid : ℕ) → AreTold s.ports → AreTold (awaited stage s m xid).0.ports
awaited_keeps Greeting s (Hello version bitmap) xid are = either (speaks version bitmap) _ _ are are
awaited_keeps Ports s (PortDescReply more descs) xid are =
    let all = tell_all_keeps s.ports descs are in either (awaits s xid) _ _ (either more _ _ all all) are
awaited_keeps Wiping s BarrierReply xid are = either (awaits s xid) _ _ are are
awaited_keeps Running s BarrierReply xid are = either (awaits s xid) _ _ are are
awaited_keeps Features s (FeaturesReply reply) xid are = are
awaited_keeps Running s (PacketIn packet) xid are = are
awaited_keeps stage s m xid are = are

heard_keeps : (s : State) (m : Message) (xid : ℕ) → AreTold s.ports → AreTold (heard s m xid).0.ports
heard_keeps s (Error kind code payload) xid are = are
heard_keeps s (EchoRequest payload) xid are = are
heard_keeps s (PortStatus reason port) xid are = changed_keeps s reason (told_of port) are
heard_keeps s m xid are = awaited_keeps s.stage s m xid are

heard_in_keeps : (stage : Stage) (s : State) (m : Message) (xid : ℕ) → AreTold s.ports → AreTold (heard_in stage s m xid).0.ports
heard_in_keeps Shut s m xid are = are
heard_in_keeps stage s m xid are = heard_keeps s m xid are

pub leads_keeps : (s : State) (m : Message) (xid : ℕ) → AreTold s.ports → AreTold (leads s m xid).0.ports
leads_keeps s m xid are = heard_in_keeps s.stage s m xid are
