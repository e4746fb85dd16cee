-- Opening, setting up and hearing leave it that what was said of the tables fits each connection.
use Rattle.std.proofs.Common.{◌≡◌, ℕ, ◌==◌, Bool, false, Option, Some, None, List, [], ◌∷◌, ◌++◌, inl, inr, refl, sym, ap, subst, ◌∙◌, eq-eqb, if◌then◌else◌}
use Rattle.std.specs.Prelude.{IfSome}
use Rattle.std.specs.Option.{option_map_or}
use Rattle.std.proofs.lemmas.Bool.{cases_Bool, eqb-true}
use Rattle.net_base.specs.declared.numbers.DpId.{DpId}
use Rattle.of_match.specs.declared.entry.Entry.{Entry}
use Rattle.of13_codec.specs.declared.message.Message.{Message}
use Rattle.of13_codec.specs.declared.message.Message.TheVariants as messages
use Rattle.flow_messages.specs.Messages.{delete_all}
use Rattle.switch_session.specs.declared.closing.Closing.{Closing}
use Rattle.switch_session.specs.declared.closing.Closing.TheVariants.{BadFrame}
use Rattle.switch_session.specs.declared.state.Stage.{Stage}
use Rattle.switch_session.specs.declared.state.Stage.TheVariants.{Ports, Wiping}
use Rattle.switch_session.specs.declared.state.Step.{Step}
use Rattle.switch_session.specs.declared.state.Step.TheVariants as steps
use Rattle.switch_session.specs.Connections.{next_id, opened}
use Rattle.switch_session.specs.Stages.{leads}
use Rattle.ctl_world.specs.declared.conns.Conn.{Conn}
use Rattle.ctl_world.specs.declared.said.Said.{Said}
use Rattle.ctl_world.specs.declared.said.Said.TheVariants as told
use Rattle.ctl_world.specs.Connections.{change, conn_with, is_open, put, with_asked, with_heard}
use Rattle.ctl_world.specs.Ends.{close, forget_lost}
use Rattle.ctl_world.specs.Saying.{say}
use Rattle.ctl_world.specs.TablesSaid.{said_more, tables_said}
use Rattle.ctl_world.specs.World.{World}
use Rattle.ctl_life.specs.Life.{replace, take_dp, tell_version, turn_away, open_conn}
use Rattle.ctl_core.specs.Hearing.{follow, hear_frame, hear_on, introduce, unfit, wipe}
use Rattle.law_stories.proofs.Fits.{After, Fits, FitsEach, IsAt, IsBare, IsWiping, Told, heard_fits}
use Rattle.ctl_world.proofs.Numbered.{shut_none, unlike}
use Rattle.law_stories.proofs.PlainSteps.{begin_stays, close_stays, close_to, echo_stays, packet_stays, replace_stays, said_stays, take_stays, version_stays}
use Rattle.law_stories.proofs.Ways.{At, Holds, IsPlain, OnConn, Way, ask_to, changed_to, come_to, plain_more, say_to}

-- ---- the connection with a number apart

module _ (past : List Said) where
  abbrev pub AreFit : World → Type 0
  AreFit w = Holds FitsEach past w.conns w.said

  module _ (Q : Stage → Option ℕ → List Entry → Told → Type 0) (number : ℕ) where
    abbrev Apart : World → Type 0
    Apart w = Holds (At Q number FitsEach) past w.conns w.said

    -- nothing else is known of it
    all_fit : ((stage : Stage) (awaited : Option ℕ) (sent : List Entry) (t : Told) → Q stage awaited sent t → Fits stage awaited sent t) → (w : World) → Apart w → AreFit w
    all_fit more w apart n = by (conn_with w.conns n) (apart n)
      where
        by : (o : Option Conn) → IfSome o (λ c. OnConn (At Q number FitsEach) n c (tables_said n (past ++ w.said))) → IfSome o (λ c. OnConn FitsEach n c (tables_said n (past ++ w.said)))
        by None h = h
        by (Some c) h =
            elim (cases_Bool (n == number)) [
              | inl is ↦ more c.session.state.stage c.session.state.awaited c.sent (tables_said n (past ++ w.said)) (h.0 (eqb-true n number is))
              | inr other ↦ h.1 (unlike n number other)
            ]

    closed_fit : (cause : Closing) (w : World) → Apart w → AreFit (close cause number w)
    closed_fit cause w apart = close_to (At Q number FitsEach) FitsEach past cause number w (λ n c differs h. h.1 differs) apart

  -- ---- what follows from a step

  turn_away_fit : (cause : Closing) (number xid : ℕ) (w : World) → Holds (At (λ stage awaited sent t. Unit {0}) number FitsEach) past w.conns w.said → AreFit (turn_away cause number xid w)
  turn_away_fit cause number xid w apart =
      let Q : Stage → Option ℕ → List Entry → Told → Type 0 = λ stage awaited sent t. Unit {0} in
      closed_fit Q number cause (tell_version cause number xid w) (version_stays (At Q number FitsEach) past cause number xid w apart)

  abbrev AtPorts : Stage → Option ℕ → List Entry → Told → Type 0
  AtPorts stage awaited sent t = IsAt stage Ports sent t

  ports_asked : (stage : Stage) (awaited : Option ℕ) (sent : List Entry) (t : Told) → stage ≡ Ports → IsBare sent t → Fits stage awaited sent t
  ports_asked stage awaited sent t is bare = subst (λ (s : Stage). Fits s awaited sent t) (sym is) bare

  introduce_fit : (number : ℕ) (dp : DpId) (cause : Option Closing) (w : World) → Holds (At AtPorts number FitsEach) past w.conns w.said → AreFit (introduce number dp cause w)
  introduce_fit number dp (Some cause) w apart = closed_fit AtPorts number cause w apart
  introduce_fit number dp None w apart =
      let P : Way = At AtPorts number FitsEach in
      let v : World = take_dp number dp (replace dp w) in
      let plain : IsPlain messages.PortDescRequest = record { hello = refl; tables = refl } in
      ask_to P FitsEach past number messages.PortDescRequest v
      (λ c is h. let it = h.0 refl in let t : Told = tables_said number (past ++ v.said) in
      subst (OnConn FitsEach number (with_asked c)) (sym (plain_more number t number messages.PortDescRequest (next_id c.session.last_xid) plain))
      (ports_asked c.session.state.stage (Some (next_id c.session.last_xid)) c.sent t it.stands it.bare))
      (λ n c differs h. h.1 differs)
      (take_stays P past number dp (replace dp w) (replace_stays P past dp w apart))

  -- the wipe is said, and its barrier isn't yet
  record IsBegun (stage : Stage) (sent : List Entry) (t : Told) : Type 0 where
    stands : stage ≡ Wiping
    wipe : ℕ
    is : t ≡ (delete_all, wipe) ∷ []
    empty : sent ≡ []

  wipe_more : (number : ℕ) (t : Told) (xid : ℕ) → said_more number t (told.Message number delete_all xid) ≡ t ++ (delete_all, xid) ∷ []
  wipe_more number t xid = ap (λ b. if b then t ++ (delete_all, xid) ∷ [] else t) (eq-eqb number number refl)

  barrier_more : (number : ℕ) (t : Told) (xid : ℕ) → said_more number t (told.Message number messages.BarrierRequest xid) ≡ t ++ (messages.BarrierRequest, xid) ∷ []
  barrier_more number t xid = ap (λ b. if b then t ++ (messages.BarrierRequest, xid) ∷ [] else t) (eq-eqb number number refl)

  wiping_fits : (stage : Stage) (awaited : Option ℕ) (sent : List Entry) (t : Told) → stage ≡ Wiping → IsWiping awaited sent t → Fits stage awaited sent t
  wiping_fits stage awaited sent t is wiping = subst (λ (s : Stage). Fits s awaited sent t) (sym is) wiping

  wipe_fit : (number : ℕ) (w : World) → Holds (At (λ stage awaited sent t. IsAt stage Wiping sent t) number FitsEach) past w.conns w.said → AreFit (wipe number w)
  wipe_fit number w apart =
      let P : Way = At (λ stage awaited sent t. IsAt stage Wiping sent t) number FitsEach in
      let R : Way = At (λ stage awaited sent t. IsBegun stage sent t) number FitsEach in
      let v : World = say number delete_all w in
      ask_to R FitsEach past number messages.BarrierRequest v
      (λ c is h. let it = h.0 refl in let xid : ℕ = next_id c.session.last_xid in let t : Told = tables_said number (past ++ v.said) in
      wiping_fits c.session.state.stage (Some xid) c.sent (said_more number t (told.Message number messages.BarrierRequest xid)) it.stands
      (record { wipe = it.wipe; xid = xid; is = barrier_more number t xid ∙ ap (λ (s : Told). s ++ (messages.BarrierRequest, xid) ∷ []) it.is; awaits = refl; empty = it.empty }))
      (λ n c differs h. h.1 differs)
      (say_to P R past number delete_all w
      (λ c is h. let it = h.0 refl in let xid : ℕ = next_id c.session.last_xid in let t : Told = tables_said number (past ++ w.said) in
      (λ own. record { stands = it.stands; wipe = xid; is = wipe_more number t xid ∙ ap (λ (s : Told). s ++ (delete_all, xid) ∷ []) it.bare.none; empty = it.bare.empty }, λ differs. absurd (differs refl)))
      (λ n c differs h. (λ own. absurd (differs own), h.1))
      apart)

  follow_fit : (step : Step) (m : Message) (xid number : ℕ) (dp : Option DpId) (w : World) → Holds (At (After step) number FitsEach) past w.conns w.said → AreFit (follow step m xid number dp w)
  follow_fit steps.Nothing m xid number dp w apart = all_fit Fits number (λ stage awaited sent t h. h) w apart
  follow_fit steps.AskFeatures m xid number dp w apart =
      said_stays FitsEach past number messages.FeaturesRequest (record { hello = refl; tables = refl }) w (all_fit Fits number (λ stage awaited sent t h. h) w apart)
  follow_fit (steps.Features id n_tables auxiliary) m xid number dp w apart = introduce_fit number id (unfit w.conf id n_tables auxiliary) w apart
  follow_fit steps.PortsKnown m xid number dp w apart = wipe_fit number w apart
  follow_fit steps.Wiped m xid number dp w apart = begin_stays FitsEach past dp w (all_fit Fits number (λ stage awaited sent t h. h) w apart)
  follow_fit steps.Settled m xid number dp w apart = all_fit Fits number (λ stage awaited sent t h. h) w apart
  follow_fit (steps.PortChanged port) m xid number dp w apart = all_fit Fits number (λ stage awaited sent t h. h) w apart
  follow_fit steps.Packet m xid number dp w apart = packet_stays FitsEach past m number dp w (all_fit Fits number (λ stage awaited sent t h. h) w apart)
  follow_fit steps.Echo m xid number dp w apart = echo_stays FitsEach past m number xid w (all_fit Fits number (λ stage awaited sent t h. h) w apart)
  follow_fit (steps.Close cause) m xid number dp w apart = turn_away_fit cause number xid w apart

  -- ---- one message

  hear_on_fit : (m : Message) (xid number : ℕ) (w : World) (c : Conn) → conn_with w.conns number ≡ Some c → AreFit w → AreFit (hear_on m xid number w c)
  hear_on_fit m xid number w c some fit =
      let step : Step = (leads c.session.state m xid).1 in
      follow_fit step m xid number c.dp (forget_lost (record w { conns = change number (with_heard m xid) w.conns }))
      (changed_to FitsEach (At (After step) number FitsEach) past w.said w.said (with_heard m xid) (λ d. refl) number w.conns
      (λ d is h. (
        λ own. let e : Some c ≡ Some d = sym some ∙ is in let same : c ≡ d = cc in
            subst (λ (k : Conn). After (leads k.session.state m xid).1 (leads d.session.state m xid).0.stage (leads d.session.state m xid).0.awaited d.sent (tables_said number (past ++ w.said))) (sym same)
            (heard_fits d.sent (tables_said number (past ++ w.said)) d.session.state m xid h),
        λ differs. absurd (differs refl),
      ))
      (λ n d differs h. (λ own. absurd (differs own), λ off. h))
      fit)

  pub heard_fit : (said : Option (Message × ℕ)) (number : ℕ) (w : World) → AreFit w → AreFit (hear_frame said number w)
  heard_fit None number w fit = close_stays FitsEach past BadFrame number w fit
  heard_fit (Some said) number w fit = by (conn_with w.conns number) refl
    where
      by : (o : Option Conn) → conn_with w.conns number ≡ o → AreFit (option_map_or (hear_on said.0 said.1 number w) o w)
      by None is = fit
      by (Some c) is = hear_on_fit said.0 said.1 number w c is fit

  -- ---- one opens

  hello_more : (number : ℕ) (t : Told) (xid : ℕ) → said_more number t (told.Message number (messages.Hello 4 (Some 16)) xid) ≡ []
  hello_more number t xid = ap (λ (b : Bool). if b then [] else t) (eq-eqb number number refl)

  pub open_fit : (number : ℕ) (w : World) → is_open w.conns number ≡ false → AreFit w → AreFit (open_conn number w)
  open_fit number w shut fit =
      let c : Conn = record { number = number; session = opened w.moment; dp = None; sent = [] } in
      let Q : Stage → Option ℕ → List Entry → Told → Type 0 = λ stage awaited sent t. (stage ≡ c.session.state.stage) × (sent ≡ []) in
      let v : World = record w { conns = put c w.conns } in
      say_to (At Q number FitsEach) FitsEach past number (messages.Hello 4 (Some 16)) v
      (λ d is h. let it = h.0 refl in let xid : ℕ = next_id d.session.last_xid in
      subst (λ (s : Stage). Fits s d.session.state.awaited d.sent (said_more number (tables_said number (past ++ v.said)) (told.Message number (messages.Hello 4 (Some 16)) xid))) (sym it.0)
      (record { none = hello_more number (tables_said number (past ++ v.said)) xid; empty = it.1 }))
      (λ n d differs h. h.1 differs)
      (come_to FitsEach (At Q number FitsEach) past w.said c w.conns (shut_none number w.conns shut)
      (λ own. (refl, refl), λ differs. absurd (differs refl))
      (λ n d differs h. (λ own. absurd (differs own), λ off. h))
      fit)
