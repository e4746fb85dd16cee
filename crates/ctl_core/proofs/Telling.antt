-- What may differ behind a frame or a moment is told.
use Rattle.std.proofs.Common.{◌≡◌, ◌<◌, ◌==◌, ℕ, zero, suc, Bool, true, false, cond, ◌||◌, not, max, Option, Some, None, List, [], ◌∷◌, ◌++◌, filter, map, refl, sym, ap, subst, ◌∙◌, arith, true≢false, if◌then◌else◌}
use Rattle.std.specs.Prelude.{Contains}
use Rattle.std.specs.List.{AllByRecursion}
use Rattle.std.specs.Option.{option_map_or}
use Rattle.std.proofs.lemmas.Bool.{and_parts}
use Rattle.net_base.specs.declared.numbers.DpId.{DpId}
use Rattle.conf_types.specs.declared.state.HostRec.{HostRec}
use Rattle.conf_types.specs.Configuration.{Configuration}
use Rattle.conf_types.specs.State.{State, is_fresh, is_to_forget}
use Rattle.of13_codec.specs.declared.message.Message.{Message}
use Rattle.of13_codec.specs.declared.message.Message.TheVariants as messages
use Rattle.of13_codec.specs.declared.ports.PortDesc.{PortDesc}
use Rattle.switch_session.specs.declared.ports.PortTold.{PortTold}
use Rattle.switch_session.specs.declared.state.Stage.{Stage}
use Rattle.switch_session.specs.declared.state.Stage.TheVariants.{Greeting, Features, Ports, Wiping, Running, Shut}
use Rattle.switch_session.specs.declared.state.Step.{Step}
use Rattle.switch_session.specs.declared.state.Step.TheVariants as steps
use Rattle.switch_session.specs.Stages.{State as Session, answered, awaited, awaits, changed_port, described, heard, heard_in, leads, passed, speaks}
use Rattle.switch_session.specs.Staying.{is_passed, leaves}
use Rattle.switch_session.specs.Told.{takes, told_of}
use Rattle.switch_session.proofs.ReplyLemmas.{pick}
use Rattle.ctl_world.specs.declared.conns.Conn.{Conn}
use Rattle.ctl_world.specs.Alike.{IsAlike}
use Rattle.ctl_world.specs.Connections.{change, conn_with, with_heard, with_said}
use Rattle.ctl_world.specs.Saying.{say, say_by}
use Rattle.ctl_world.specs.Ends.{forget_lost}
use Rattle.ctl_world.specs.World.{IsSound, World, now, runs}
use Rattle.ctl_world.proofs.Faces.{alike_sound, alike_through, same_now}
use Rattle.ctl_life.specs.Silence.{show}
use Rattle.ctl_world.proofs.Numbered.{change_same}
use Rattle.ctl_settle.specs.declared.plans.Held.{Held}
use Rattle.ctl_settle.specs.Rest.{AreBounded, rests_until}
use Rattle.ctl_settle.specs.Touched.{AllFollow, AreAmong}
use Rattle.ctl_settle.proofs.Following.{alike_names, any_follow, named_follow}
use Rattle.ctl_settle.proofs.Until.{fresh_before, same_bounded}
use Rattle.law_runs.specs.Members.{tail_of}
use Rattle.conf_types.specs.declared.change.Change.{Change}
use Rattle.conf_types.specs.declared.change.Change.TheVariants as changes
use Rattle.ctl_settle.specs.Names.{Names, host, is_other}
use Rattle.ctl_settle.proofs.Names.{gone_named, join, kept_quiet, more_named, say_quiet, then_quiet, turned_named}
use Rattle.ctl_core.specs.declared.found.Found.{Found}
use Rattle.ctl_core.specs.declared.ends.Ends.{Ends}
use Rattle.ctl_core.specs.declared.ends.Ends.TheVariants as ends
use Rattle.ctl_core.specs.declared.found.Found.TheVariants.{Nothing, Again, Due, Heard, One, Named, Any}
use Rattle.ctl_core.specs.Hearing.{follow}
use Rattle.ctl_core.specs.Found.{IsStill, Leaves, Tells, ends_of, is_barrier_reply, is_reply, is_settled, is_touched, may_differ}
use Rattle.ctl_core.specs.Behind.{behind}
use Rattle.ctl_core.specs.Turning.{aged, turned, turns}
use Rattle.ctl_core.specs.Turns.{age}
use Rattle.ctl_core.proofs.NoneNew.{NoneIsNew, behind_follow}
use Rattle.ctl_core.proofs.Still.{alike_still, still_behind}

-- ---- what was found

module _ (u w v : World) (alike : IsAlike u w) where
  leaves_behind : (e : Ends) → Leaves u v e → Leaves w v e
  leaves_behind e leaves = λ until all. leaves until (same_bounded u w until alike.conf alike.moment alike.hosts all)

  pub tells_behind : (found : Found) → Tells u v found → Tells w v found
  tells_behind Nothing same = alike_through v u w same alike
  tells_behind Again told = λ sound. still_behind u w v alike (told (alike_sound u w alike sound))
  tells_behind Due told = (join w u v [] [] (alike_names u w alike) told.0, leaves_behind ends.Later told.1)
  tells_behind (Heard h) told =
      (subst (λ conf. Names w v (host conf h ∷ [])) alike.conf (join w u v [] (host u.conf h ∷ []) (alike_names u w alike) told.0), leaves_behind (ends.But h) told.1)
  tells_behind (One c) told = (join w u v [] (c ∷ []) (alike_names u w alike) told.0, leaves_behind ends.Later told.1)
  tells_behind (Named may) told =
      (told.0 ∙ alike.conf, subst (λ (s : State). AreAmong w.conf s (now v) may) (same_now u w alike) (subst (λ conf. AreAmong conf (now u) (now v) may) alike.conf told.1))
  tells_behind Any told = tt

pub tells_follow : (w v : World) (found : Found) → IsSound w → Tells w v found → (held : List Held) → AllFollow w (Some []) held → AllFollow v (may_differ v.conf found) held
tells_follow w v Nothing sound alike held all = named_follow w v [] (alike_names v w alike) held all
tells_follow w v Again sound told held all = named_follow w v [] (told sound).names held all
tells_follow w v Due sound told held all = named_follow w v [] told.0 held all
tells_follow w v (Heard h) sound told held all =
    subst (λ conf. AllFollow v (Some (host conf h ∷ [])) held) (sym (told.0).conf) (named_follow w v (host w.conf h ∷ []) told.0 held all)
tells_follow w v (One c) sound told held all = named_follow w v (c ∷ []) told.0 held all
tells_follow w v (Named None) sound told held all = any_follow v held
tells_follow w v (Named (Some changes)) sound told held all = named_follow w v changes (record { conf = told.0; named = told.1 }) held all
tells_follow w v Any sound told held all = any_follow v held

-- when the hosts' times end
pub tells_bounds : (w v : World) (found : Found) → IsSound w → Tells w v found → Leaves w v (ends_of found)
tells_bounds w v Nothing sound alike = λ until all. same_bounded v w until alike.conf alike.moment alike.hosts all
tells_bounds w v Again sound told = (told sound).leaves
tells_bounds w v Due sound told = told.1
tells_bounds w v (Heard h) sound told = told.1
tells_bounds w v (One c) sound told = told.1
tells_bounds w v (Named may) sound told = λ until all. tt
tells_bounds w v Any sound told = λ until all. tt

-- where nothing was found, or a host that is known there
pub tells_still : (w v : World) (found : Found) → is_touched found ≡ false → IsSound w → Tells w v found → IsStill w v
tells_still w v Nothing none sound alike = alike_still v w alike
tells_still w v Again none sound told = told sound
tells_still w v Due none sound told = absurd (true≢false none)
tells_still w v (Heard h) none sound told = absurd (true≢false none)
tells_still w v (One c) none sound told = absurd (true≢false none)
tells_still w v (Named may) none sound told = absurd (true≢false none)
tells_still w v Any none sound told = absurd (true≢false none)

pub nothing_follows : (w : World) (found : Found) → is_touched found ≡ false → (held : List Held) → AllFollow w (may_differ w.conf found) held → AllFollow w (Some []) held
nothing_follows w Nothing none held all = all
nothing_follows w Again none held all = all
nothing_follows w Due none held all = absurd (true≢false none)
nothing_follows w (Heard h) none held all = absurd (true≢false none)
nothing_follows w (One c) none held all = absurd (true≢false none)
nothing_follows w (Named may) none held all = absurd (true≢false none)
nothing_follows w Any none held all = absurd (true≢false none)

-- nothing differs, and no host's time ends earlier
abbrev pub IsQuiet : World → World → Type 0
IsQuiet w v = Tells w v Due

-- what is said is such a step
pub said_quiet : (number : ℕ) (m : Message) (w : World) → IsQuiet w (say number m w)
said_quiet number m w = (
  say_quiet number m w,
  λ until all. elim (conn_with w.conns number) as (λ o. AreBounded until (option_map_or (say_by with_said m w) o w)) [ Some c ↦ all | None ↦ all ],
)

-- ---- the reply to a barrier

abbrev Settles : Session → Session × Step → Type 0
Settles s r = is_settled r.1 ≡ true → r.0 ≡ record s { awaited = None }

never : {P : Type 0} → false ≡ true → P
never is = absurd (true≢false (sym is))

described_settles : (s : Session) (more : Bool) (descs : List PortDesc) → Settles s (described s more descs)
described_settles s true descs = never
described_settles s false descs = never

awaited_settles : (stage : Stage) (s : Session) (m : Message) (xid : ℕ) → s.stage ≡ stage → Settles s (awaited stage s m xid)
awaited_settles Greeting s (messages.Hello version bitmap) xid is = pick (Settles s) (speaks version bitmap) _ _ never never
awaited_settles Features s (messages.FeaturesReply reply) xid is = never
awaited_settles Ports s (messages.PortDescReply more descs) xid is = pick (Settles s) (awaits s xid) _ _ (described_settles s more descs) never
awaited_settles Wiping s messages.BarrierReply xid is = pick (Settles s) (awaits s xid) _ _ never never
awaited_settles Running s messages.BarrierReply xid is = pick (Settles s) (awaits s xid) _ _ (λ _. λ i. record s { stage = sym is i; awaited = None }) never
awaited_settles Running s (messages.PacketIn packet) xid is = never
awaited_settles stage s m xid is = never

told_settles : (s r : Session) (port : PortTold) (b : Bool) → is_settled (if b then steps.PortChanged port.no else steps.Nothing) ≡ true → r ≡ record s { awaited = None }
told_settles s r port true = never
told_settles s r port false = never

changed_settles : (s : Session) (reason : ℕ) (port : Option PortTold) → Settles s (changed_port s reason port)
changed_settles s reason None = never
changed_settles s reason (Some port) = pick (Settles s) (reason == 1) _ _ never (told_settles s _ port (takes s.ports port.no))

heard_settles : (s : Session) (m : Message) (xid : ℕ) → Settles s (heard s m xid)
heard_settles s (messages.Error kind code payload) xid = never
heard_settles s (messages.EchoRequest payload) xid = never
heard_settles s (messages.PortStatus reason port) xid = changed_settles s reason (told_of port)
heard_settles s m xid = awaited_settles s.stage s m xid refl

heard_in_settles : (stage : Stage) (s : Session) (m : Message) (xid : ℕ) → Settles s (heard_in stage s m xid)
heard_in_settles Shut s m xid = never
heard_in_settles stage s m xid = heard_settles s m xid

-- on a connection that runs the reply that is awaited is that to a barrier
reply_awaited : (s : Session) (xid : ℕ) (b : Bool) → not b ≡ false → is_settled (if b then answered s steps.Settled else passed s).1 ≡ true
reply_awaited s xid true out = refl
reply_awaited s xid false out = absurd (true≢false out)

reply_by : (s : Session) (xid : ℕ) (stage : Stage) → s.stage ≡ stage → runs stage ≡ true → is_passed stage s messages.BarrierReply xid ≡ false
    → is_settled (heard_in stage s messages.BarrierReply xid).1 ≡ true
reply_by s xid Greeting is run out = absurd (true≢false (sym run))
reply_by s xid Features is run out = absurd (true≢false (sym run))
reply_by s xid Ports is run out = absurd (true≢false (sym run))
reply_by s xid Wiping is run out = absurd (true≢false (sym run))
reply_by s xid Running is run out =
    subst (λ (stage : Stage). is_settled (awaited stage s messages.BarrierReply xid).1 ≡ true) (sym is) (reply_awaited s xid (awaits s xid) out)
reply_by s xid Shut is run out = absurd (true≢false (sym run))

reply_of : (s : Session) (m : Message) (xid : ℕ) → runs s.stage ≡ true → is_barrier_reply m ≡ true → leaves s m xid ≡ false → is_settled (leads s m xid).1 ≡ true
reply_of s messages.BarrierReply xid run is out = reply_by s xid s.stage refl run out
reply_of s m xid run is out = absurd (true≢false (sym is))

pub reply_settled : (c : Conn) (m : Message) (xid : ℕ) → is_reply c m ≡ true → leaves c.session.state m xid ≡ false → is_settled (leads c.session.state m xid).1 ≡ true
reply_settled c m xid is out =
    let both = and_parts (runs c.session.state.stage) (is_barrier_reply m) is in
    reply_of c.session.state m xid both.0 both.1 out

abbrev unawaited : Conn → Conn
unawaited c = record c { session = record c.session { state = record c.session.state { awaited = None } } }

module _ (m : Message) (xid number : ℕ) (w : World) (c : Conn) (at : conn_with w.conns number ≡ Some c) (settled : is_settled (leads c.session.state m xid).1 ≡ true) where
  abbrev replied : World
  replied = record w { conns = change number (with_heard m xid) w.conns }

  same_change : change number (with_heard m xid) w.conns ≡ change number unawaited w.conns
  same_change = change_same (with_heard m xid) unawaited number w.conns
      (λ d there.
      let same : c ≡ d = let e : Some c ≡ Some d = sym at ∙ there in cc in
      ap (λ (e : Conn). record e { session = record e.session { state = (leads e.session.state m xid).0 } }) (sym same)
      ∙ ap (λ s. record c { session = record c.session { state = s } }) (heard_in_settles c.session.state.stage c.session.state m xid settled)
      ∙ ap unawaited same)

  pub replied_quiet : Names w replied []
  replied_quiet =
      subst (λ (cs : List Conn). Names w (record w { conns = cs }) []) (sym same_change) (kept_quiet number unawaited (λ d. refl) (λ d. refl) w)

  module _ (kept : (number : ℕ) (v : World) (f : Conn → Conn) → ((d : Conn) → (f d).dp ≡ d.dp) → ((d : Conn) → (f d).session.state.stage ≡ d.session.state.stage)
      → ((d : Conn) → (f d).session.state.ports ≡ d.session.state.ports) → IsSound v → IsSound (record v { conns = change number f v.conns })) (lost : (v : World) → IsSound v → forget_lost v ≡ v) where
    pub replied_lost : IsSound w → forget_lost replied ≡ replied
    replied_lost sound =
        let still : IsSound (record w { conns = change number unawaited w.conns }) = kept number w unawaited (λ d. refl) (λ d. refl) (λ d. refl) sound in
        subst (λ (cs : List Conn). forget_lost (record w { conns = cs }) ≡ record w { conns = cs }) (sym same_change) (lost (record w { conns = change number unawaited w.conns }) still)

-- nothing follows from it
pub follow_settled : (step : Step) (m : Message) (xid number : ℕ) (dp : Option DpId) (w : World) → is_settled step ≡ true → follow step m xid number dp w ≡ w
follow_settled steps.Settled m xid number dp w is = refl
follow_settled steps.Nothing m xid number dp w is = never is
follow_settled steps.AskFeatures m xid number dp w is = never is
follow_settled (steps.Features id n_tables auxiliary) m xid number dp w is = never is
follow_settled steps.PortsKnown m xid number dp w is = never is
follow_settled steps.Wiped m xid number dp w is = never is
follow_settled (steps.PortChanged port) m xid number dp w is = never is
follow_settled steps.Packet m xid number dp w is = never is
follow_settled steps.Echo m xid number dp w is = never is
follow_settled (steps.Close cause) m xid number dp w is = never is

-- ---- hosts of which one test tells more than another

more_of : {A : Type 0} (x : A) (xs ys : List A) (y : A) → ((z : A) → Contains xs z → Contains ys z) → Contains (x ∷ xs) y → Contains (x ∷ ys) y
more_of x xs ys y within (zero, lt, is) = (zero, omega arith, is)
more_of x xs ys y within (suc k, lt, is) = tail_of x ys y (within y (k, omega (arith, lt), is))

within : {A : Type 0} (xs ys all : List A) (c : A) → (Contains xs c → Contains all c) → (Contains ys c → Contains all c) → Contains (xs ++ ys) c → Contains all c
within [] ys all c left right here = right here
within (x ∷ xs) ys all c left right (zero, lt, is) = left (zero, omega arith, is)
within (x ∷ xs) ys all c left right (suc k, lt, is) = within xs ys all c (λ there. left (tail_of x xs c there)) right (k, omega (arith, lt), is)

module _ {A B : Type 0} (f : A → B) (p q : A → Bool) (tells : (x : A) → p x ≡ true → q x ≡ true) where
  pub those_of : (xs : List A) (y : B) → Contains (map f (filter p xs)) y → Contains (map f (filter q xs)) y
  those_of [] y c = c
  those_of (x ∷ xs) y c = by (p x) (q x) refl refl (λ z. those_of xs z) c
    where
      by : (a b : Bool) → p x ≡ a → q x ≡ b → ((z : B) → Contains (map f (filter p xs)) z → Contains (map f (filter q xs)) z) → Contains (map f (cond a (x ∷ filter p xs) (filter p xs))) y → Contains (map f (cond b (x ∷ filter q xs) (filter q xs))) y
      by true true is is_q rest here = more_of (f x) (map f (filter p xs)) (map f (filter q xs)) y rest here
      by true false is is_q rest here = absurd (true≢false (sym (tells x is) ∙ is_q))
      by false true is is_q rest here = tail_of (f x) (map f (filter q xs)) y (rest y here)
      by false false is is_q rest here = rest y here

-- ---- the clock

pub show_names : (moment : ℕ) (w : World) → Names w (show moment w) (map (host w.conf) (filter (λ h. is_other (is_fresh w.conf w.moment.0 h) (is_fresh w.conf (max w.moment.0 moment) h)) w.hosts.hosts))
show_names moment w = record {
  conf = refl;
  named = record {
    hosts = λ group vid mac other. turned_named w.conf group vid mac (now w) (now (show moment w)) w.hosts.hosts other;
    ports = λ dp port other. absurd (other refl);
    dps = λ dp other. absurd (other refl);
    neighbours = λ group vid ip other. absurd (other refl);
  };
}

twice : (b : Bool) → not (not b) ≡ b
twice true = refl
twice false = refl

pub age_names : (w : World) → Names w (age w) (map (host w.conf) (filter (is_to_forget w.conf w.moment.0) w.hosts.hosts))
age_names w = record {
  conf = refl;
  named = record {
    hosts = λ group vid mac other.
        subst (λ (hs : List HostRec). Contains (map (host w.conf) hs) (changes.Host group vid mac)) (λ i. filter (λ h. twice (is_to_forget w.conf w.moment.0 h) i) w.hosts.hosts)
        (gone_named w.conf group vid mac (now w) (λ h. not (is_to_forget w.conf w.moment.0 h)) w.hosts.hosts other);
    ports = λ dp port other. absurd (other refl);
    dps = λ dp other. absurd (other refl);
    neighbours = λ group vid ip other. absurd (other refl);
  };
}

either_first : (a b : Bool) → a ≡ true → (a || b) ≡ true
either_first true b is = refl
either_first false b is = absurd (true≢false (sym is))

either_second : (a b : Bool) → b ≡ true → (a || b) ≡ true
either_second true b is = refl
either_second false b is = is

none_other : (a b : Bool) → a ≡ b → is_other b a ≡ false
none_other true true is = refl
none_other false false is = refl
none_other true false is = absurd (true≢false is)
none_other false true is = absurd (true≢false (sym is))

none_turn : (conf : Configuration) (before moment : ℕ) (hosts : List HostRec) → AllByRecursion (λ h. is_fresh conf moment h ≡ is_fresh conf before h) hosts
    → filter (λ h. is_other (is_fresh conf before h) (is_fresh conf moment h)) hosts ≡ []
none_turn conf before moment [] all = refl
none_turn conf before moment (h ∷ hosts) all =
    let rest = filter (λ g. is_other (is_fresh conf before g) (is_fresh conf moment g)) hosts in
    ap (λ b. cond b (h ∷ rest) rest) (none_other (is_fresh conf moment h) (is_fresh conf before h) all.0) ∙ none_turn conf before moment hosts all.1

module _ (moment : ℕ) (w v : World) (alike : IsAlike v (show moment w)) where
  abbrev shown : World
  shown = show moment w

  -- where nothing is due yet, nothing differs
  pub quiet_before : v.moment.0 < rests_until w → Names w v []
  quiet_before less =
      let before : max w.moment.0 moment < rests_until w = subst (λ (n : ℕ). n < rests_until w) (ap (λ m. m.0) alike.moment) less in
      let none = none_turn w.conf w.moment.0 (max w.moment.0 moment) w.hosts.hosts (fresh_before w (max w.moment.0 moment) (omega arith) before) in
      join w shown v [] [] (subst (λ (hs : List HostRec). Names w shown (map (host w.conf) hs)) none (show_names moment w)) (alike_names v shown alike)

  -- the hosts that the moment turns
  pub turned_names : Names w (age v) (turned w.moment.0 v)
  turned_names =
      let m = max w.moment.0 moment in
      let first = map (host w.conf) (filter (λ h. is_other (is_fresh w.conf w.moment.0 h) (is_fresh w.conf m h)) w.hosts.hosts) in
      let second = map (host v.conf) (filter (is_to_forget v.conf v.moment.0) v.hosts.hosts) in
      let all = turned w.moment.0 v in
      let same : turned w.moment.0 shown ≡ all = λ i. map (host (sym alike.conf i)) (filter (turns (sym alike.conf i) w.moment.0 (sym alike.moment i).0) (sym alike.hosts i).hosts) in
      let names : Names w (age v) (first ++ second) = join w v (age v) first second (then_quiet w shown v first (show_names moment w) (alike_names v shown alike)) (age_names v) in
      record {
        conf = names.conf;
        named = more_named w.conf (now w) (now (age v)) (first ++ second) all (λ c here. within first second all c
            (λ there. subst (λ (cs : List Change). Contains cs c) same (those_of (host w.conf) (λ h. is_other (is_fresh w.conf w.moment.0 h) (is_fresh w.conf m h)) (turns w.conf w.moment.0 m)
            (λ h is. either_first (is_other (is_fresh w.conf w.moment.0 h) (is_fresh w.conf m h)) (is_to_forget w.conf m h) is) w.hosts.hosts c there))
            (λ there. those_of (host v.conf) (is_to_forget v.conf v.moment.0) (turns v.conf w.moment.0 v.moment.0)
            (λ h is. either_second (is_other (is_fresh v.conf w.moment.0 h) (is_fresh v.conf v.moment.0 h)) (is_to_forget v.conf v.moment.0 h) is) v.hosts.hosts c there) here) names.named;
      }

-- as the code tells it
pub at_moment_follow : (moment : ℕ) (w v : World) (kept : Option State) → (kept ≡ None → IsAlike v (show moment w)) → ((s : State) → kept ≡ Some s → s ≡ now w) → NoneIsNew w (age v)
    → (held : List Held) → AllFollow w (Some []) held → AllFollow (age v) (Some (aged w.moment.0 kept v)) held
at_moment_follow moment w v None alike was none held all = named_follow w (age v) (turned w.moment.0 v) (turned_names moment w v (alike refl)) held all
at_moment_follow moment w v (Some s) alike was none held all =
    subst (λ (t : State). AllFollow (age v) (Some (behind v.conf t (now (age v)))) held) (sym (was s refl)) (behind_follow w (age v) none held all)
