-- Which hosts are known behind a frame.
use Rattle.std.proofs.Common.{◌≡◌, ℕ, ◌||◌, not, nat_le, length, Bool, true, false, Option, Some, None, List, filter, refl, sym, ap, ◌∙◌, subst, true≢false, if◌then◌else◌}
use Rattle.std.specs.Option.{option_and_then, option_map_or}
use Rattle.std.proofs.lemmas.Bool.{cases_Bool}
use Rattle.net_base.specs.declared.numbers.DpId.{DpId}
use Rattle.conf_types.specs.declared.state.HostRec.{HostRec}
use Rattle.conf_types.specs.Configuration.{Configuration}
use Rattle.conf_types.specs.Valid.{IsValid}
use Rattle.host_learn.specs.declared.learn.Learn.{Learn}
use Rattle.host_learn.specs.declared.learn.Learn.TheVariants.{Learned, Moved, Refreshed, Full, NotLearnable}
use Rattle.host_learn.specs.Learning.{hosts_after, is_full, is_known, is_learnable, outcome, stands_there}
use Rattle.host_learn.specs.Table.{Table as Hosts}
use Rattle.of13_codec.specs.declared.message.Message.{Message}
use Rattle.of13_codec.specs.declared.message.Message.TheVariants as messages
use Rattle.of13_codec.specs.declared.packet_in.PacketIn.{PacketIn}
use Rattle.switch_session.specs.declared.state.Step.{Step}
use Rattle.switch_session.specs.declared.state.Step.TheVariants as steps
use Rattle.switch_session.specs.declared.state.Stage.{Stage}
use Rattle.switch_session.specs.Stages.{leads}
use Rattle.ctl_world.specs.declared.conns.Conn.{Conn}
use Rattle.ctl_world.specs.Connections.{change, conn_with, with_heard}
use Rattle.ctl_world.specs.Ends.{forget_lost}
use Rattle.ctl_world.specs.World.{IsSound, World, runs}
use Rattle.ctl_world.proofs.SoundEnds.{nothing_lost}
use Rattle.ctl_packets.specs.Changes.{is_change}
use Rattle.ctl_core.specs.Settlings.{settle}
use Rattle.ctl_core.specs.Hearing.{follow, hear_frame, hear_on, packet}
use Rattle.ctl_core.proofs.Stays as stays
use Rattle.law_lives.proofs.Speaking.{Speaks, settle_stays}
use Rattle.law_lives.specs.Hosts.{KeepsTheStanding, KnowsAnew, KnowsBy, if_fit, learned, stands_in, told, told_in, told_on}
use Rattle.law_lives.specs.Steps.{Heard}
use Rattle.law_lives.proofs.Among.{IsAnew, learned_anew, moved_anew, refreshed_anew}
use Rattle.law_lives.proofs.Apart.{AreApart}
use Rattle.law_lives.proofs.Frames.{all_stand, bad_keeps, message_keeps}
use Rattle.law_lives.proofs.Behind.{Behind, packet_led, step_led}
use Rattle.ctl_packets.proofs.PacketHosts.{hosts_told, packet_hosts}
use Rattle.law_lives.proofs.Standing.{Keeps, speaks}

-- ---- a settling leaves the hosts, and who stands

module _ (w : World) where
  abbrev Leaves : World → Type 0
  Leaves v = (v.hosts ≡ w.hosts)

  leaving : Speaks Leaves
  leaving = record { changes = λ f is number v same. same; says = λ number m xid v at same. same; meets = λ neighbours v same. same }

  pub settle_hosts : (settle w).hosts ≡ w.hosts
  settle_hosts = settle_stays Leaves leaving w refl

pub settle_keeps : (hosts : List HostRec) (w : World) → Keeps hosts w → Keeps hosts (settle w)
settle_keeps hosts w keeps = settle_stays (Keeps hosts) (speaks hosts) w keeps

-- the same hosts stand still in a sound world
pub same_standing : (before behind : World) → IsSound behind → behind.hosts ≡ before.hosts → KeepsTheStanding before behind
same_standing before behind sound same =
    sym (ap (λ (v : World). v.hosts.hosts) (nothing_lost behind sound)) ∙ ap (λ (hosts : Hosts). filter (stands_in behind) hosts.hosts) same

-- ---- what fits

module _ (conf : Configuration) (w : World) (l : HostRec) where
  abbrev answer_of : (learnable full there known : Bool) → Learn
  answer_of learnable full there known = if not learnable then NotLearnable else if full then Full else if there then Refreshed else if known then Moved else Learned

  by_answer : (learnable full there known : Bool) → (stands_there w.hosts.hosts l ≡ there) → (is_known w.conf w.hosts.hosts l ≡ known) → IsSound w
      → is_change (answer_of learnable full there known) ≡ true → IsAnew w.conf l w.hosts.hosts (hosts_after w.conf l w.hosts.hosts (answer_of learnable full there known))
  by_answer false full there known there_is known_is sound changes = absurd (true≢false (sym changes))
  by_answer true true there known there_is known_is sound changes = absurd (true≢false (sym changes))
  by_answer true false true known there_is known_is sound changes = refreshed_anew w.conf l w.hosts.hosts sound.valid.host_keys there_is
  by_answer true false false true there_is known_is sound changes = moved_anew w.conf l w.hosts.hosts
  by_answer true false false false there_is known_is sound changes = learned_anew w.conf l w.hosts.hosts known_is

  same_answer : (learnable full there known : Bool) → is_change (answer_of learnable full there known) ≡ false → hosts_after w.conf l w.hosts.hosts (answer_of learnable full there known) ≡ w.hosts.hosts
  same_answer false full there known unfit = refl
  same_answer true true there known unfit = refl
  same_answer true false true known unfit = absurd (true≢false unfit)
  same_answer true false false true unfit = absurd (true≢false unfit)
  same_answer true false false false unfit = absurd (true≢false unfit)

pub fitting_anew : (w : World) (l : HostRec) → IsSound w → is_change (outcome w.conf w.hosts l) ≡ true → IsAnew w.conf l w.hosts.hosts (hosts_after w.conf l w.hosts.hosts (outcome w.conf w.hosts l))
fitting_anew w l sound fits =
    by_answer w.conf w l (is_learnable w.conf w.hosts.hosts l) (is_full w.conf w.hosts l) (stands_there w.hosts.hosts l) (is_known w.conf w.hosts.hosts l) refl refl sound fits

unfit_same : (w : World) (l : HostRec) → is_change (outcome w.conf w.hosts l) ≡ false → hosts_after w.conf l w.hosts.hosts (outcome w.conf w.hosts l) ≡ w.hosts.hosts
unfit_same w l unfit = same_answer w.conf w l (is_learnable w.conf w.hosts.hosts l) (is_full w.conf w.hosts l) (stands_there w.hosts.hosts l) (is_known w.conf w.hosts.hosts l) unfit

-- ---- behind a packet

module _ (before behind : World) (sound : IsSound before) (sound_behind : IsSound behind) where
  fits_or_not : (l : HostRec) (b : Bool) → is_change (outcome before.conf before.hosts l) ≡ b → behind.hosts ≡ hosts_told before (Some l) → KnowsBy (if b then Some l else None) before behind
  fits_or_not l true fits same = λ h.
      subst (λ hosts. IsAnew before.conf l before.hosts.hosts hosts) (sym (ap (λ (t : Hosts). t.hosts) same)) (fitting_anew before l sound fits) h
  fits_or_not l false unfit same =
      let hosts : behind.hosts.hosts ≡ before.hosts.hosts = ap (λ (t : Hosts). t.hosts) same ∙ unfit_same before l unfit in
      sym (ap (λ (v : World). v.hosts.hosts) (nothing_lost behind sound_behind)) ∙ ap (filter (stands_in behind)) hosts

  pub known_by : (o : Option HostRec) → behind.hosts ≡ hosts_told before o → KnowsBy (option_and_then (if_fit before) o) before behind
  known_by None same = same_standing before behind sound_behind same
  known_by (Some l) same = fits_or_not l (is_change (outcome before.conf before.hosts l)) refl same

-- ---- a frame

module _ (w : World) (sound : IsSound w) (apart : AreApart w.conns) (on : ℕ) where
  -- no packet counts
  settled : (v : World) → Keeps w.hosts.hosts v → KnowsBy None w (settle v)
  settled v keeps = (settle_keeps w.hosts.hosts v keeps).known

  module _ (m : Message) (xid : ℕ) (c : Conn) (at : conn_with w.conns on ≡ Some c) (sound_behind : IsSound (settle (hear_on m xid on w c))) where
    abbrev behind : World
    behind = settle (hear_on m xid on w c)

    -- one that isn't a packet's step lets learn nothing
    none_told : ((leads c.session.state m xid).1 ≡ steps.Packet → ⊥) → told_on m w c ≡ None
    none_told other = by m refl
      where
        of_packet : (p : PacketIn) → m ≡ messages.PacketIn p → (b : Bool) → runs c.session.state.stage ≡ b → (if b then option_and_then (λ dp. told_in p dp w) c.dp else None) ≡ None
        of_packet p is false stage = refl
        of_packet p is true stage = absurd (other (ap (λ (k : Message). (leads c.session.state k xid).1) is ∙ packet_led c.session.state p xid stage))

        by : (k : Message) → m ≡ k → told_on k w c ≡ None
        by (messages.PacketIn p) is = of_packet p is (runs c.session.state.stage) refl
        by k is = refl

    -- a packet's changes nothing else
    packet_world : (p : PacketIn) → m ≡ messages.PacketIn p → (leads c.session.state m xid).0 ≡ c.session.state → (leads c.session.state m xid).1 ≡ steps.Packet → hear_on m xid on w c ≡ packet m on c.dp w
    packet_world p is same step =
        let left : forget_lost (record w { conns = change on (with_heard m xid) w.conns }) ≡ w =
        stays.nothing_lost m xid on w c at same (nothing_lost w sound) ∙ stays.world_stays m xid on w c at same in
        (λ i. follow (step i) m xid on c.dp (left i))

    packet_known : (p : PacketIn) → m ≡ messages.PacketIn p → runs c.session.state.stage ≡ true → (leads c.session.state m xid).0 ≡ c.session.state → (leads c.session.state m xid).1 ≡ steps.Packet
        → behind.hosts ≡ hosts_told w (told_on m w c)
    packet_known p is stage same step =
        settle_hosts (hear_on m xid on w c) ∙ ap (λ (v : World). v.hosts) (packet_world p is same step ∙ ap (λ (k : Message). packet k on c.dp w) is)
        ∙ by_dp c.dp
        ∙ sym (ap (λ (k : Message). hosts_told w (told_on k w c)) is ∙ ap (λ (b : Bool). hosts_told w (if b then option_and_then (λ dp. told_in p dp w) c.dp else None)) stage)
      where
        by_dp : (o : Option DpId) → (packet (messages.PacketIn p) on o w).hosts ≡ hosts_told w (option_and_then (λ dp. told_in p dp w) o)
        by_dp None = refl
        by_dp (Some dp) = packet_hosts p on dp w

    heard_known : KnowsBy (option_and_then (if_fit w) (told_on m w c)) w behind
    heard_known = by (leads c.session.state m xid).1 refl
      where
        other_known : ((leads c.session.state m xid).1 ≡ steps.Packet → ⊥) → KnowsBy (option_and_then (if_fit w) (told_on m w c)) w behind
        other_known other =
            subst (λ (o : Option HostRec). KnowsBy (option_and_then (if_fit w) o) w behind) (sym (none_told other)) (settled (hear_on m xid on w c) (message_keeps w sound apart on m xid c at other))

        by : (step : Step) → (leads c.session.state m xid).1 ≡ step → KnowsBy (option_and_then (if_fit w) (told_on m w c)) w behind
        by steps.Packet is =
            let led = subst (λ (step : Step). Behind c.session.state m (leads c.session.state m xid).0 step) is (step_led c.session.state m xid) in
            known_by w behind sound sound_behind (told_on m w c) (packet_known led.0 led.1 (ap (λ (stage : Stage). runs stage) led.2) led.3 is)
        by steps.Nothing is = other_known (λ packet. let e : steps.Nothing ≡ steps.Packet = sym is ∙ packet in cc)
        by steps.AskFeatures is = other_known (λ packet. let e : steps.AskFeatures ≡ steps.Packet = sym is ∙ packet in cc)
        by (steps.Features id n_tables auxiliary) is = other_known (λ packet. let e : steps.Features id n_tables auxiliary ≡ steps.Packet = sym is ∙ packet in cc)
        by steps.PortsKnown is = other_known (λ packet. let e : steps.PortsKnown ≡ steps.Packet = sym is ∙ packet in cc)
        by steps.Wiped is = other_known (λ packet. let e : steps.Wiped ≡ steps.Packet = sym is ∙ packet in cc)
        by steps.Settled is = other_known (λ packet. let e : steps.Settled ≡ steps.Packet = sym is ∙ packet in cc)
        by (steps.PortChanged port) is = other_known (λ packet. let e : steps.PortChanged port ≡ steps.Packet = sym is ∙ packet in cc)
        by steps.Echo is = other_known (λ packet. let e : steps.Echo ≡ steps.Packet = sym is ∙ packet in cc)
        by (steps.Close cause) is = other_known (λ packet. let e : steps.Close cause ≡ steps.Packet = sym is ∙ packet in cc)

  pub frame_known : (heard : Option (Message × ℕ)) → IsSound (settle (hear_frame heard on w)) → KnowsBy (option_and_then (if_fit w) (told heard on w)) w (settle (hear_frame heard on w))
  frame_known None sound_behind = settled (hear_frame None on w) (bad_keeps w sound apart on)
  frame_known (Some s) sound_behind = by (conn_with w.conns on) refl sound_behind
    where
      by : (o : Option Conn) → conn_with w.conns on ≡ o → IsSound (settle (option_map_or (hear_on s.0 s.1 on w) o w))
          → KnowsBy (option_and_then (if_fit w) (option_and_then (told_on s.0 w) o)) w (settle (option_map_or (hear_on s.0 s.1 on w) o w))
      by None at sound_of = settled w (all_stand w sound apart)
      by (Some c) at sound_of = heard_known s.0 s.1 c at sound_of
