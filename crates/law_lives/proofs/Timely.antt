-- Between the steps of a story no host is to be forgotten, unless the greatest moment has come.
use Rattle.std.proofs.Common.{◌≡◌, ℕ, ◌+◌, ◌-◌, ◌^◌, ◌<◌, ◌==◌, ◌&&◌, min, not, nat_le, Bool, true, false, Option, Some, None, List, [], ◌∷◌, Result, Ok, Err, filter, map, inl, inr, refl, sym, ap, ◌∙◌, subst, arith, if◌then◌else◌}
use Rattle.std.specs.Prelude.{IfSome}
use Rattle.std.specs.List.{AllByRecursion}
use Rattle.std.specs.Option.{option_and_then, option_map_or}
use Rattle.std.proofs.lemmas.Bool.{and_parts}
use Rattle.std.proofs.lemmas.Bool.Decides.{nat_tests}
use Rattle.net_base.specs.declared.numbers.DpId.{DpId}
use Rattle.net_base.specs.declared.numbers.Moment.{Moment}
use Rattle.conf_types.specs.declared.state.HostRec.{HostRec}
use Rattle.conf_types.specs.declared.state.UpRec.{UpRec}
use Rattle.conf_types.specs.Configuration.{Configuration}
use Rattle.conf_types.specs.Links.{is_up}
use Rattle.conf_types.specs.State.{forgotten_at, fresh_for, is_permanent, is_running, is_to_forget}
use Rattle.host_learn.specs.Kept.{kept_hosts, may_stay}
use Rattle.host_learn.specs.Learning.{is_host, outcome}
use Rattle.host_learn.proofs.KeptParts.{kept_stays}
use Rattle.host_learn.proofs.Lists.{all_map, filter_all}
use Rattle.neighbour_resolve.specs.Counted.{counted_vid}
use Rattle.neighbour_resolve.specs.Due.{never}
use Rattle.of_match.specs.InPort.{in_port}
use Rattle.of_match.proofs.AfterOrder.{all_filter}
use Rattle.pkt_view.specs.Frame.{FrameParts, parts}
use Rattle.of13_codec.specs.declared.message.Message.{Message}
use Rattle.of13_codec.specs.declared.message.Message.TheVariants as messages
use Rattle.of13_codec.specs.declared.packet_in.PacketIn.{PacketIn}
use Rattle.flow_messages.specs.declared.messages.TheConstants.{COOKIE}
use Rattle.switch_session.specs.declared.closing.Closing.{Closing}
use Rattle.switch_session.specs.declared.closing.Closing.TheVariants.{BadFrame}
use Rattle.ctl_world.specs.declared.conns.Conn.{Conn}
use Rattle.ctl_world.specs.Connections.{conn_with, is_open, without}
use Rattle.ctl_world.specs.Ends.{close, ended, stands}
use Rattle.ctl_world.specs.World.{IsSound, World, running, running_of, runs, ups, ups_of}
use Rattle.ctl_packets.specs.Changes.{is_change}
use Rattle.ctl_packets.specs.Packets.{sources}
use Rattle.ctl_core.specs.Settlings.{settle}
use Rattle.ctl_life.specs.Life.{open_conn}
use Rattle.ctl_life.specs.Silence.{look_each, show}
use Rattle.ctl_world.proofs.Numbered.{shut_none}
use Rattle.ctl_life.proofs.Openings.{with_fresh}
use Rattle.ctl_core.specs.Hearing.{hear_frame, hear_on}
use Rattle.ctl_core.specs.Reloading.{accepted, close_each, reload, renew, strays}
use Rattle.ctl_core.specs.Turns.{age, pass}
use Rattle.law_stories.proofs.StorySound.{StandsSound}
use Rattle.law_stories.proofs.StoryTurns.{Keeps}
use Rattle.law_lives.proofs.Fixed.{Any}
use Rattle.law_lives.proofs.Speaking.{Speaks, said_stays, settle_stays, wanted_stays}
use Rattle.law_lives.proofs.Walk as walk
use Rattle.law_lives.specs.Hosts.{IsAmong, KnowsBy, if_fit, stands_in, told, told_at, told_by, told_in, told_on}
use Rattle.law_lives.proofs.Among.{not_true}
use Rattle.law_lives.proofs.Heard.{frame_known}
use Rattle.law_lives.proofs.Walks.{Stands, keeps_stands}

-- ---- one host

abbrev pub IsYoung : Configuration → ℕ → HostRec → Type 0
IsYoung conf moment h = is_to_forget conf moment h ≡ false

and_false : (b : Bool) → (b && false) ≡ false
and_false true = refl
and_false false = refl

not_le : (a b : ℕ) → b < a → nat_le a b ≡ false
not_le a b less = grind (arith, nat_tests)

later : (moment fresh : ℕ) → moment < 2 ^ 64 - 1 → moment < min (moment + (fresh + 30000)) (2 ^ 64 - 1)
later moment fresh early = omega (arith, early)

-- one that was heard now isn't to be forgotten
now_young : (conf : Configuration) (moment : Moment) (h : HostRec) → moment.0 < never → h.learned ≡ moment → IsYoung conf moment.0 h
now_young conf moment h early is =
    ap (λ (b : Bool). not (is_permanent conf h) && b)
    (ap (λ (m : Moment). nat_le (forgotten_at conf h.dp m.0) moment.0) is ∙ not_le (forgotten_at conf h.dp moment.0) moment.0 (later moment.0 (fresh_for conf h.dp) early))
    ∙ and_false (not (is_permanent conf h))

abbrev pub Timely : World → Type 0
Timely w = w.moment.0 < never → AllByRecursion (IsYoung w.conf w.moment.0) w.hosts.hosts

speaks : Speaks Timely
speaks = record { changes = λ f is number w young. young; says = λ number m xid w at young. young; meets = λ neighbours w young. young }

settled : (w : World) → Timely w → Timely (settle w)
settled w young = settle_stays Timely speaks w young

-- ---- a frame: what a host is that it tells of

module _ (w : World) where
  abbrev Now : Option HostRec → Type 0
  Now o = IfSome o (λ h. h.learned ≡ w.moment)

  chain : {A : Type 0} (f : A → Option HostRec) → ((a : A) → Now (f a)) → (o : Option A) → Now (option_and_then f o)
  chain f each None = tt
  chain f each (Some a) = each a

  at_now : (dp : DpId) (port : ℕ) (frame : FrameParts) → Now (told_at dp w port frame)
  at_now dp port frame =
      chain (λ vid. if is_up (ups w) dp port then Some (record { dp = dp; port = port; vid = vid; mac = frame.src; learned = w.moment }) else None)
      (λ vid. elim (is_up (ups w) dp port) as (λ b. Now (if b then Some (record { dp = dp; port = port; vid = vid; mac = frame.src; learned = w.moment }) else None)) [ true ↦ refl | false ↦ tt ])
      (counted_vid w.conf dp port frame)

  in_now : (m : PacketIn) (dp : DpId) → Now (told_in m dp w)
  in_now m dp =
      elim (m.cookie == COOKIE && is_running (running w) dp && m.table == sources) as (λ b. Now (if b then option_and_then (told_by m dp w) (in_port m.fields) else None)) [
        | true ↦ chain (told_by m dp w) (λ port. chain (told_at dp w port) (at_now dp port) (parts m.payload)) (in_port m.fields)
        | false ↦ tt
      ]

  on_now : (m : Message) (c : Conn) → Now (told_on m w c)
  on_now (messages.PacketIn m) c =
      elim (runs c.session.state.stage) as (λ b. Now (if b then option_and_then (λ dp. told_in m dp w) c.dp else None)) [
        | true ↦ chain (λ dp. told_in m dp w) (in_now m) c.dp
        | false ↦ tt
      ]
  on_now m c = tt

  told_now : (heard : Option (Message × ℕ)) (on : ℕ) → Now (told heard on w)
  told_now (Some heard) on = chain (told_on heard.0 w) (on_now heard.0) (conn_with w.conns on)
  told_now None on = tt

  fit_now : (o : Option HostRec) → Now o → Now (option_and_then (if_fit w) o)
  fit_now None is = tt
  fit_now (Some h) is = elim (is_change (outcome w.conf w.hosts h)) as (λ b. Now (if b then Some h else None)) [ true ↦ is | false ↦ tt ]

-- ---- a frame: what is known behind it

abbrev Fixed : World → World → Type 0
Fixed w v = (v.conf ≡ w.conf) × (v.moment ≡ w.moment)

fixing : (w : World) → walk.Steps Any (Fixed w)
fixing w = record {
  changes = λ f is number v same. same;
  says = λ number m xid v at same. same;
  closes = λ cause number v any at same. same;
  knows = λ hosts neighbours v same. same;
}

heard_fixed : (heard : Option (Message × ℕ)) (on : ℕ) (w : World) → Fixed w (settle (hear_frame heard on w))
heard_fixed heard on w = walk.settle_stays Any (Fixed w) (fixing w) (hear_frame heard on w) (by (is_open w.conns on) refl heard)
  where
    by : (b : Bool) → is_open w.conns on ≡ b → (o : Option (Message × ℕ)) → Fixed w (hear_frame o on w)
    by true at o = walk.heard_stays Any (Fixed w) (fixing w) w o on (λ cause is. tt) (λ number gives. tt) at (refl, refl)
    by false shut None = (refl, refl)
    by false shut (Some s) = subst (λ (c : Option Conn). Fixed w (option_map_or (hear_on s.0 s.1 on w) c w)) (sym (shut_none on w.conns shut)) (refl, refl)

all_known : (P : HostRec → Type 0) (hosts : List HostRec) → ((h : HostRec) → IsAmong h hosts → P h) → AllByRecursion P hosts
all_known P [] each = tt
all_known P (h ∷ hosts) each = (each h (inl refl), all_known P hosts (λ k is. each k (inr is)))

of_known : (P : HostRec → Type 0) (h : HostRec) (hosts : List HostRec) → AllByRecursion P hosts → IsAmong h hosts → P h
of_known P h [] all is = absurd is
of_known P h (x ∷ hosts) all is = elim is [ inl here ↦ subst P here all.0 | inr later ↦ of_known P h hosts all.1 later ]

behind_young : (w behind : World) → w.moment.0 < never → AllByRecursion (IsYoung w.conf w.moment.0) w.hosts.hosts → (o : Option HostRec) → Now w o → KnowsBy o w behind
    → AllByRecursion (IsYoung w.conf w.moment.0) behind.hosts.hosts
behind_young w behind early young None now known =
    subst (AllByRecursion (IsYoung w.conf w.moment.0)) (sym known) (all_filter (IsYoung w.conf w.moment.0) (stands_in behind) w.hosts.hosts young)
behind_young w behind early young (Some l) now known =
    all_known (IsYoung w.conf w.moment.0) behind.hosts.hosts
    (λ h is. elim ((known h).0 is) [
      | inl here ↦ subst (IsYoung w.conf w.moment.0) here (now_young w.conf w.moment l early now)
      | inr there ↦ of_known (IsYoung w.conf w.moment.0) h w.hosts.hosts young there.0
    ])

heard_timely : (heard : Option (Message × ℕ)) (on : ℕ) (w : World) → Stands w → Timely w → IsSound (settle (hear_frame heard on w)) → Timely (settle (hear_frame heard on w))
heard_timely heard on w stands young sound_behind early =
    let behind : World = settle (hear_frame heard on w) in
    let fixed = heard_fixed heard on w in
    let before : w.moment.0 < never = subst (λ (m : Moment). m.0 < never) fixed.1 early in
    let known = frame_known w stands.0.1 stands.1 on heard sound_behind in
    let all : AllByRecursion (IsYoung w.conf w.moment.0) behind.hosts.hosts =
    behind_young w behind before (young before) (option_and_then (if_fit w) (told heard on w)) (fit_now w (told heard on w) (told_now w heard on)) known in
    subst (λ (c : Configuration). AllByRecursion (IsYoung c behind.moment.0) behind.hosts.hosts) (sym fixed.0)
    (subst (λ (m : Moment). AllByRecursion (IsYoung w.conf m.0) behind.hosts.hosts) (sym fixed.1) all)

-- ---- the other parts of a turn

opened_timely : (number : ℕ) (w : World) → Timely w → Timely (settle (open_conn number w))
opened_timely number w young = settled (open_conn number w) (said_stays Timely speaks number (messages.Hello 4 (Some 16)) (with_fresh number w) young)

ended_timely : (cause : Closing) (number : ℕ) (w : World) → Timely w → Timely (settle (ended cause number w))
ended_timely cause number w young =
    let conns : List Conn = without number w.conns in
    settled (ended cause number w) (λ early. all_filter (IsYoung w.conf w.moment.0) (stands (running_of w.conf conns) (ups_of w.conf conns)) w.hosts.hosts (young early))

aged_timely : (v : World) → Timely (age v)
aged_timely v early =
    all_map (λ h. not (is_to_forget v.conf v.moment.0 h) ≡ true) (IsYoung v.conf v.moment.0) (λ h is. not_true (is_to_forget v.conf v.moment.0 h) is)
    (filter (λ h. not (is_to_forget v.conf v.moment.0 h)) v.hosts.hosts) (filter_all (λ h. not (is_to_forget v.conf v.moment.0 h)) v.hosts.hosts)

passed_timely : (moment : ℕ) (w : World) → Timely (settle (pass moment w))
passed_timely moment w = settled (pass moment w) (aged_timely (look_each (map (λ (c : Conn). c.number) w.conns) (show moment w)))

renewed_timely : (next : Configuration) (v : World) → Timely (renew next v)
renewed_timely next v early =
    let up : List UpRec = ups_of next v.conns in
    all_map (λ h. may_stay next up v.moment.0 h ≡ true) (IsYoung next v.moment.0)
    (λ h stays. not_true (is_to_forget next v.moment.0 h) (and_parts (is_host next h && is_up up h.dp h.port) (not (is_to_forget next v.moment.0 h)) stays).1)
    (kept_hosts next up v.moment.0 v.hosts) (kept_stays next up v.moment.0 v.hosts)

reloaded_timely : (read : Result Configuration (List ℕ)) (w : World) → Timely w → Timely (settle (reload read w))
reloaded_timely (Ok next) w young =
    let left : World = close_each (strays next w.conns) w in
    settled (reload (Ok next) w) (wanted_stays Timely speaks (renew next left) (renewed_timely next left))
reloaded_timely (Err cause) w young = settled (reload (Err cause) w) young

abbrev pub StandsTimely : World → Type 0
StandsTimely w = Stands w × Timely w

pub keeps_timely : Keeps StandsSound → Keeps StandsTimely
keeps_timely keeps =
    let stand : Keeps Stands = keeps_stands keeps in
    record {
      unsaid = λ w both. (stand.unsaid w both.0, both.1);
      opens = λ number w shut both. (stand.opens number w shut both.0, opened_timely number w both.1);
      feeds = λ number piece w both. (stand.feeds number piece w both.0, both.1);
      reads = λ number w both. (stand.reads number w both.0, both.1);
      hears = λ said number w both. let behind = stand.hears said number w both.0 in (behind, heard_timely said number w both.0 both.1 behind.0.1);
      ends = λ cause number w both. (stand.ends cause number w both.0, ended_timely cause number w both.1);
      passes = λ moment w both. (stand.passes moment w both.0, passed_timely moment w);
      reloads = λ text w both. (stand.reloads text w both.0, reloaded_timely (accepted text) w both.1);
    }
