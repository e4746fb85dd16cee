-- Outside of settlings nothing is said of tables but the wipe.
use Rattle.std.proofs.Common.{◌≡◌, ℕ, zero, suc, ◌==◌, Bool, true, false, Option, Some, None, List, [], ◌∷◌, ◌++◌, length, inl, inr, refl, sym, ap, subst, ◌∙◌, append_assoc, append-nil, eq-eqb, if◌then◌else◌}
use Rattle.std.specs.Prelude.{IfSome}
use Rattle.std.specs.Option.{option_map, option_map_or}
use Rattle.std.proofs.lemmas.Bool.{cases_Bool, eqb-true}
use Rattle.net_base.specs.declared.numbers.DpId.{DpId}
use Rattle.fg_outside.specs.declared.hub.Happening.{Happening}
use Rattle.fg_outside.specs.declared.hub.Happening.TheVariants as happenings
use Rattle.conf_types.specs.Configuration.{Configuration}
use Rattle.conf_types.specs.Valid.{IsValid}
use Rattle.of13_codec.specs.declared.message.Message.{Message}
use Rattle.of13_codec.specs.declared.message.Message.TheVariants as messages
use Rattle.flow_messages.specs.Messages.{delete_all}
use Rattle.switch_session.specs.declared.closing.Closing.{Closing}
use Rattle.switch_session.specs.declared.closing.Closing.TheVariants.{BadFrame, WrongVersion}
use Rattle.switch_session.specs.declared.state.Step.{Step}
use Rattle.switch_session.specs.declared.state.Step.TheVariants as steps
use Rattle.switch_session.specs.Connections.{next_id}
use Rattle.switch_session.specs.Stages.{leads}
use Rattle.ctl_world.specs.declared.conns.Conn.{Conn}
use Rattle.ctl_world.specs.declared.frames.Front.{Front}
use Rattle.ctl_world.specs.declared.frames.Front.TheVariants.{Part, Frame, Bad}
use Rattle.ctl_world.specs.declared.said.Said.{Said}
use Rattle.ctl_world.specs.declared.said.Said.TheVariants as told
use Rattle.ctl_world.specs.Connections.{change, conn_with, is_open, with_asked, with_heard, with_said}
use Rattle.ctl_world.specs.Ends.{end_line, ended, forget_lost}
use Rattle.ctl_world.specs.Frames.{front}
use Rattle.ctl_world.specs.Saying.{ask, say, say_by}
use Rattle.ctl_world.specs.TablesSaid.{said_more, tables_said}
use Rattle.ctl_world.specs.World.{World, first}
use Rattle.ctl_core.specs.Settlings.{settle}
use Rattle.ctl_life.specs.Life.{closing_for, echo, feed, has_frame, open_conn, read, replace, says, take_dp, tell_version, turn_away, unread}
use Rattle.ctl_world.proofs.Numbered.{changed_own, has_it, unlike}
use Rattle.ctl_life.proofs.Openings.{fresh, opens_by, with_fresh}
use Rattle.ctl_core.specs.Hearing.{follow, hear_frame, hear_frames, hear_front, hear_next, hear_on, introduce, unfit, wipe}
use Rattle.ctl_core.specs.Reloading.{accepted, reload}
use Rattle.ctl_core.specs.Turns.{hear, pass, turn, work}
use Rattle.ctl_core.proofs.PacketSteps.{packet_kept}
use Rattle.ctl_core.proofs.Walk.{begin_kept, pass_kept, reload_kept, replace_kept}
use Rattle.law_stories.specs.Grounds.{Grounds}
use Rattle.law_stories.specs.Settlings.{Settling, at_frames, at_front, at_next, at_piece, at_work, said_in, settlings, settlings_behind}
use Rattle.law_stories.proofs.Fits.{After, FitsEach, Told, heard_fits}
use Rattle.law_stories.proofs.Setup.{AreFit}
use Rattle.law_stories.proofs.StoryTold.{Any, IsTold, first_told, settles, told_walks}
use Rattle.law_stories.proofs.StoryWalks.{any_pieces, story_kept}
use Rattle.law_stories.proofs.Ways.{OnConn, more_said}
use Rattle.law_lives.specs.Batches.{OnlyWipesBetween, StaysOrWipes}
use Rattle.law_lives.proofs.Others.{Same, asked_same, close_same, repeated_same, said_off, asked_off, said_same, single}

-- ---- on one connection

module _ (n : ℕ) (past : List Said) (t0 : Told) where
  abbrev Grown : World → Type 0
  Grown w = StaysOrWipes t0 (tables_said n (past ++ w.said))

  grown : (w : World) → Same n past t0 w → Grown w
  grown w is = inl is

  ended_same : (cause : Closing) (number : ℕ) (w : World) → Same n past t0 w → Same n past t0 (ended cause number w)
  ended_same cause number w is = more_said n past w.said (end_line number cause ∷ []) ∙ is

  turned_away : (cause : Closing) (number xid : ℕ) (w : World) → Same n past t0 w → Same n past t0 (turn_away cause number xid w)
  turned_away cause number xid w is = close_same n past t0 cause number (tell_version cause number xid w) (told_same cause)
    where
      told_same : (c : Closing) → Same n past t0 (tell_version c number xid w)
      told_same WrongVersion = repeated_same n past t0 number (messages.Error 0 0 []) (record { hello = refl; tables = refl }) xid w is
      told_same other = is

  echoed : (m : Message) (number xid : ℕ) (w : World) → Same n past t0 w → Same n past t0 (echo m number xid w)
  echoed (messages.EchoRequest payload) number xid w is = repeated_same n past t0 number (messages.EchoReply payload) (record { hello = refl; tables = refl }) xid w is
  echoed m number xid w is = is

  introduced : (number : ℕ) (dp : DpId) (cause : Option Closing) (w : World) → Same n past t0 w → Same n past t0 (introduce number dp cause w)
  introduced number dp (Some cause) w is = close_same n past t0 cause number w is
  introduced number dp None w is =
      asked_same n past t0 number messages.PortDescRequest (record { hello = refl; tables = refl }) (take_dp number dp (replace dp w)) (replace_kept (Same n past t0) (single n past t0) dp w is)

  -- ---- the wipe

  wiped_off : (number : ℕ) → (number ≡ n → ⊥) → (w : World) → Same n past t0 w → Same n past t0 (wipe number w)
  wiped_off number differs w is =
      asked_off n past t0 number differs messages.BarrierRequest (say number delete_all w) (said_off n past t0 number differs delete_all w is)

  table_more : (m : Message) (t : Told) (c : Conn) → c.number ≡ n → (xid : ℕ) → said_more n t (told.Message n m xid) ≡ t ++ (m, xid) ∷ [] → said_more n t (told.Message c.number m xid) ≡ t ++ (m, xid) ∷ []
  table_more m t c its xid more = ap (λ (k : ℕ). said_more n t (told.Message k m xid)) its ∙ more

  wiped : (w : World) → t0 ≡ [] → Same n past t0 w → Grown (wipe n w)
  wiped w none is = by (conn_with w.conns n) refl
    where
      by_barrier : (v : World) (x : ℕ) → tables_said n (past ++ v.said) ≡ (delete_all, x) ∷ [] → (o : Option Conn) → conn_with v.conns n ≡ o → (conn_with v.conns n ≡ None → ⊥)
          → StaysOrWipes t0 (tables_said n (past ++ (option_map_or (say_by with_asked messages.BarrierRequest v) o v).said))
      by_barrier v x said None gone some = absurd (some gone)
      by_barrier v x said (Some c) at some =
          let xid : ℕ = next_id c.session.last_xid in
          let t : Told = (delete_all, x) ∷ [] in
          let more : said_more n t (told.Message n messages.BarrierRequest xid) ≡ t ++ (messages.BarrierRequest, xid) ∷ [] =
          ap (λ (b : Bool). if b then t ++ (messages.BarrierRequest, xid) ∷ [] else t) (eq-eqb n n refl) in
          inr (inr (
            none,
            (
              x,
              xid,
              more_said n past v.said (told.Message c.number messages.BarrierRequest xid ∷ []) ∙ ap (λ (s : Told). said_more n s (told.Message c.number messages.BarrierRequest xid)) said
                  ∙ table_more messages.BarrierRequest t c (has_it n v.conns c at) xid more,
            ),
          ))

      by : (o : Option Conn) → conn_with w.conns n ≡ o → Grown (ask n messages.BarrierRequest (option_map_or (say_by with_said delete_all w) o w))
      by None gone = inl (ap (λ (o : Option Conn). tables_said n (past ++ (option_map_or (say_by with_asked messages.BarrierRequest w) o w).said)) gone ∙ is)
      by (Some c) at =
          let xid : ℕ = next_id c.session.last_xid in
          let v : World = say_by with_said delete_all w c in
          let more : said_more n [] (told.Message n delete_all xid) ≡ (delete_all, xid) ∷ [] = ap (λ (b : Bool). if b then (delete_all, xid) ∷ [] else []) (eq-eqb n n refl) in
          let said : tables_said n (past ++ v.said) ≡ (delete_all, xid) ∷ [] =
          more_said n past w.said (told.Message c.number delete_all xid ∷ []) ∙ ap (λ (s : Told). said_more n s (told.Message c.number delete_all xid)) (is ∙ none)
          ∙ table_more delete_all [] c (has_it n w.conns c at) xid more in
          by_barrier v xid said (conn_with v.conns n) refl (still c at)
        where
          still : (c : Conn) → conn_with w.conns n ≡ Some c → conn_with (change c.number with_said w.conns) n ≡ None → ⊥
          still c at gone =
              let its : c.number ≡ n = has_it n w.conns c at in
              let there : conn_with (change c.number with_said w.conns) n ≡ Some (with_said c) =
              ap (λ (k : ℕ). conn_with (change k with_said w.conns) n) its ∙ changed_own with_said (λ d. refl) n w.conns ∙ ap (option_map with_said) at in
              let bad : ◌≡◌ {A = Option Conn} None (Some (with_said c)) = sym gone ∙ there in
              absurd (cc)

  -- ---- one message

  followed : (step : Step) (m : Message) (xid number : ℕ) (dp : Option DpId) (w : World) → (step ≡ steps.PortsKnown → number ≡ n → t0 ≡ []) → Same n past t0 w → Grown (follow step m xid number dp w)
  followed steps.Nothing m xid number dp w bare is = inl is
  followed steps.AskFeatures m xid number dp w bare is = inl (said_same n past t0 number messages.FeaturesRequest (record { hello = refl; tables = refl }) w is)
  followed (steps.Features id n_tables auxiliary) m xid number dp w bare is = inl (introduced number id (unfit w.conf id n_tables auxiliary) w is)
  followed steps.PortsKnown m xid number dp w bare is =
      elim (cases_Bool (number == n)) [
        | inl own ↦
            let its : number ≡ n = eqb-true number n own in
            subst (λ (k : ℕ). Grown (wipe k w)) (sym its) (wiped w (bare refl its) is)
        | inr other ↦ inl (wiped_off number (unlike number n other) w is)
      ]
  followed steps.Wiped m xid number dp w bare is = inl (begin_kept (Same n past t0) (single n past t0) dp w is)
  followed steps.Settled m xid number dp w bare is = inl is
  followed (steps.PortChanged port) m xid number dp w bare is = inl is
  followed steps.Packet m xid number dp w bare is =
      inl (packet_kept (λ conf conns said. tables_said n (past ++ said) ≡ t0) (single n past t0).sends m number dp w is)
  followed steps.Echo m xid number dp w bare is = inl (echoed m number xid w is)
  followed (steps.Close cause) m xid number dp w bare is = inl (turned_away cause number xid w is)

  heard_on : (m : Message) (xid number : ℕ) (w : World) (c : Conn) → conn_with w.conns number ≡ Some c → AreFit past w → Same n past t0 w → Grown (hear_on m xid number w c)
  heard_on m xid number w c some fit is =
      let t : Told = tables_said number (past ++ w.said) in
      let it : OnConn FitsEach number c t = subst (λ o. IfSome o (λ d. OnConn FitsEach number d t)) some (fit number) in
      followed (leads c.session.state m xid).1 m xid number c.dp (forget_lost (record w { conns = change number (with_heard m xid) w.conns }))
      (λ ports own. sym is ∙ ap (λ (k : ℕ). tables_said k (past ++ w.said)) (sym own)
      ∙ bare (leads c.session.state m xid).1 ports t (heard_fits c.sent t c.session.state m xid it))
      is
    where
      bare : (step : Step) → step ≡ steps.PortsKnown → (t : Told) → After step (leads c.session.state m xid).0.stage (leads c.session.state m xid).0.awaited c.sent t → t ≡ []
      bare step ports t after =
          (subst (λ (s : Step). After s (leads c.session.state m xid).0.stage (leads c.session.state m xid).0.awaited c.sent t) ports after).bare.none

  heard : (said : Option (Message × ℕ)) (number : ℕ) (w : World) → AreFit past w → Same n past t0 w → Grown (hear_frame said number w)
  heard None number w fit is = inl (close_same n past t0 BadFrame number w is)
  heard (Some said) number w fit is = by (conn_with w.conns number) refl
    where
      by : (o : Option Conn) → conn_with w.conns number ≡ o → Grown (option_map_or (hear_on said.0 said.1 number w) o w)
      by None gone = inl is
      by (Some c) some = heard_on said.0 said.1 number w c some fit is

  -- ---- the rest of a turn's work

  opened : (number : ℕ) (w : World) → is_open w.conns number ≡ false → Same n past t0 w → Grown (open_conn number w)
  opened number w shut is = subst Grown (sym (opens_by number w shut)) (by (number == n) refl)
    where
      hello : Message
      hello = messages.Hello 4 (Some 16)

      by : (b : Bool) → (number == n) ≡ b → Grown (say_by with_said hello (with_fresh number w) (fresh number w))
      by true own = inr (inl (more_said n past w.said (told.Message number hello (next_id 0) ∷ []) ∙ ap (λ (b : Bool). if b then [] else tables_said n (past ++ w.said)) own))
      by false other =
          inl (more_said n past w.said (told.Message number hello (next_id 0) ∷ [])
          ∙ ap (λ (b : Bool). if b then [] else tables_said n (past ++ w.said)) other ∙ is)

  passed : (moment : ℕ) (w : World) → Same n past t0 w → Grown (pass moment w)
  passed moment w is = inl (pass_kept (Same n past t0) (single n past t0) moment w is)

  reloaded : (text : List ℕ) (w : World) → Same n past t0 w → Grown (reload (accepted text) w)
  reloaded text w is = inl (reload_kept (Same n past t0) (single n past t0) (accepted text) (λ next v it kept. kept) w is)

-- ---- settling by settling

module _ (laws : Grounds) (all : List Said) where
  front_told : (past : List Said) (number : ℕ) (w : World) → IsTold past w → (f : Front) → front (unread number w) ≡ f → IsTold past (hear_front f number (read number w))
  front_told past number w it Part is = (told_walks laws).reads past number w it
  front_told past number w it (Frame frame) is = settles laws past (hear_frame (says frame) number (read number w)) ((told_walks laws).hears past frame number w is it)
  front_told past number w it Bad is = settles laws past (hear_frame None number (read number w)) ((told_walks laws).fails past number w is it)

  abbrev Goes : List Said → List Settling → Type 0
  Goes said settlings = OnlyWipesBetween said settlings all

  module _ (past : List Said) where
    front_goes : (number : ℕ) (w : World) → AreFit past (read number w) → (f : Front) (rest : List Settling) → Goes (past ++ (hear_front f number (read number w)).said) rest
        → Goes (past ++ w.said) (at_front past f number (read number w) ++ rest)
    front_goes number w fit Part rest goes = goes
    front_goes number w fit (Frame frame) rest goes = (λ n. heard n past (tables_said n (past ++ w.said)) (says frame) number (read number w) fit refl, goes)
    front_goes number w fit Bad rest goes = (λ n. heard n past (tables_said n (past ++ w.said)) None number (read number w) fit refl, goes)

    next_goes : (number : ℕ) (w : World) → IsTold past w → (rest : List Settling) → Goes (past ++ (hear_next number w).said) rest → Goes (past ++ w.said) (at_next past number w ++ rest)
    next_goes number w it rest goes = front_goes number w ((told_walks laws).reads past number w it).1 (front (unread number w)) rest goes

    frames_go : (most number : ℕ) (w : World) → IsTold past w → (rest : List Settling) → Goes (past ++ (hear_frames most number w).said) rest
        → Goes (past ++ w.said) (at_frames past most number w ++ rest)
    frames_go zero number w it rest goes = goes
    frames_go (suc most) number w it rest goes =
        let next : List Settling = if has_frame number w then at_frames past most number (hear_next number w) else [] in
        subst (Goes (past ++ w.said)) (sym (append_assoc (at_next past number w) next rest))
        (next_goes number w it (next ++ rest)
        (by (has_frame number w) goes (frames_go most number (hear_next number w) (front_told past number w it (front (unread number w)) refl) rest)))
      where
        by : (b : Bool) → Goes (past ++ (if b then hear_frames most number (hear_next number w) else hear_next number w).said) rest
            → (Goes (past ++ (hear_frames most number (hear_next number w)).said) rest → Goes (past ++ (hear_next number w).said) (at_frames past most number (hear_next number w) ++ rest))
            → Goes (past ++ (hear_next number w).said) ((if b then at_frames past most number (hear_next number w) else []) ++ rest)
        by true goes more = more goes
        by false goes more = goes

    work_goes : (h : Happening) (w : World) → IsTold past w → (rest : List Settling) → Goes (past ++ (work h w).said) rest → Goes (past ++ w.said) (at_work past h w ++ rest)
    work_goes (happenings.Opened number) w it rest goes = by (is_open w.conns number) refl goes
      where
        by : (b : Bool) → is_open w.conns number ≡ b → Goes (past ++ (if b then w else settle (open_conn number w)).said) rest
            → Goes (past ++ w.said) ((if b then [] else record { past = past; before = open_conn number w } ∷ []) ++ rest)
        by true is goes = goes
        by false is goes = (λ n. opened n past (tables_said n (past ++ w.said)) number w is refl, goes)
    work_goes (happenings.Heard number piece) w it rest goes = by (is_open w.conns number) goes
      where
        by : (b : Bool) → Goes (past ++ (if b then hear number piece w else w).said) rest
            → Goes (past ++ w.said) ((if b then at_piece past number (feed number piece w) else []) ++ rest)
        by true goes = frames_go (length (unread number (feed number piece w))) number (feed number piece w) ((told_walks laws).feeds past number piece w tt it) rest goes
        by false goes = goes
    work_goes (happenings.Closed number cause) w it rest goes = by (is_open w.conns number) goes
      where
        by : (b : Bool) → Goes (past ++ (if b then settle (ended (closing_for cause) number w) else w).said) rest
            → Goes (past ++ w.said) ((if b then record { past = past; before = ended (closing_for cause) number w } ∷ [] else []) ++ rest)
        by true goes = (λ n. inl (ended_same n past (tables_said n (past ++ w.said)) (closing_for cause) number w refl), goes)
        by false goes = goes
    work_goes (happenings.Moment moment) w it rest goes = (λ n. passed n past (tables_said n (past ++ w.said)) moment w refl, goes)
    work_goes (happenings.Reload text) w it rest goes = (λ n. reloaded n past (tables_said n (past ++ w.said)) text w refl, goes)

  story_goes : (past : List Said) (w : World) (story : List Happening) → IsTold past (record w { said = [] }) → all ≡ past ++ said_in w story → Goes past (settlings_behind past w story)
  story_goes past w [] it whole = λ n. ap (tables_said n) (whole ∙ append-nil past)
  story_goes past w (h ∷ hs) it whole =
      let v : World = turn h w in
      let start : World = record w { said = [] } in
      let next : IsTold (past ++ v.said) (record v { said = [] }) =
      subst (λ (s : List Said). IsTold (past ++ s) (record v { said = [] })) (append-nil v.said) (story_kept Any IsTold (told_walks laws) past w (h ∷ []) (any_pieces (h ∷ [])) it) in
      subst (λ (s : List Said). Goes s (at_work past h start ++ settlings_behind (past ++ v.said) v hs)) (append-nil past)
      (work_goes past h start it (settlings_behind (past ++ v.said) v hs)
      (story_goes (past ++ v.said) v hs next (whole ∙ sym (append_assoc past v.said (said_in v hs)))))

pub story_outside : (laws : Grounds) (conf : Configuration) (story : List Happening) → IsValid conf → OnlyWipesBetween [] (settlings (first conf) story) (said_in (first conf) story)
story_outside laws conf story valid = story_goes laws (said_in (first conf) story) [] (first conf) story (first_told laws conf valid) refl
