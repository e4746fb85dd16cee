-- The parts of what is right of a story that speak of flow tables.
use Rattle.std.proofs.Common.{◌≡◌, ℕ, ◌++◌, true, Option, Some, None, List, [], ◌∷◌, map, is_some, inl, inr, refl, sym, ap, subst, ◌∙◌, true≢false}
use Rattle.std.specs.Prelude.{◌⊎◌, IfSome}
use Rattle.std.specs.List.{AllByRecursion}
use Rattle.std.specs.Option.{option_map}
use Rattle.std.proofs.lemmas.List.{append-nil}
use Rattle.net_base.specs.declared.numbers.DpId.{DpId}
use Rattle.fg_outside.specs.declared.hub.Happening.{Happening}
use Rattle.of_match.specs.declared.entry.Entry.{Entry}
use Rattle.of13_codec.specs.declared.message.Message.{Message}
use Rattle.of13_codec.specs.declared.message.Message.TheVariants as messages
use Rattle.conf_types.specs.Configuration.{Configuration}
use Rattle.conf_types.specs.State.{is_running}
use Rattle.conf_types.specs.Valid.{IsValid}
use Rattle.plan_difference.specs.Difference.{difference}
use Rattle.flow_messages.specs.Messages.{command_message, delete_all}
use Rattle.switch_session.specs.declared.state.Stage.{Stage}
use Rattle.switch_session.specs.declared.state.Stage.TheVariants.{Greeting, Features, Ports, Wiping, Running, Shut}
use Rattle.ctl_world.specs.declared.conns.Conn.{Conn}
use Rattle.ctl_world.specs.declared.said.Said.{Said}
use Rattle.ctl_world.specs.Connections.{conn_of}
use Rattle.ctl_world.specs.TablesSaid.{tables_said}
use Rattle.ctl_world.specs.World.{World, first, has_ports, running}
use Rattle.ctl_core.specs.Settlings.{settle, wanted}
use Rattle.ctl_core.specs.Story.{behind}
use Rattle.law_stories.specs.Grounds.{Grounds}
use Rattle.law_stories.specs.Right.{HasColdTables, HasOneBatch, HoldsColdStart, IsNoted, LeadsTo, NothingWaits, SaysTheLeast}
use Rattle.law_stories.specs.Settlings.{said_in, settlings}
use Rattle.law_stories.proofs.Fits.{EndsIn, Fits, FitsEach, IsNoting, Told}
use Rattle.ctl_core.proofs.Numbered.{of_with}
use Rattle.law_stories.proofs.Settles.{running_stage, settled_alike}
use Rattle.law_stories.proofs.SettleFits.{seen_of}
use Rattle.law_stories.proofs.Setup.{AreFit}
use Rattle.ctl_core.proofs.Ordered.{AreOrdered}
use Rattle.law_stories.proofs.StoryTold.{Any, IsTold, first_told, settles, told_walks}
use Rattle.law_stories.proofs.StoryWalks.{any_pieces, story_kept, story_seen}
use Rattle.law_stories.proofs.Ways.{OnConn}

-- of the connection of a datapath that runs, what was said leads to what was noted
pub noting_of : (past : List Said) (w : World) → AreOrdered w.conns → AreFit past w → (dp : DpId) (c : Conn) → is_running (running w) dp ≡ true → conn_of w.conns dp ≡ Some c
    → IsNoting c.session.state.awaited c.sent (tables_said c.number (past ++ w.said))
noting_of past w ordered fit dp c runs is =
    let t : Told = tables_said c.number (past ++ w.said) in
    let it : OnConn FitsEach c.number c t = subst (λ o. IfSome o (λ d. OnConn FitsEach c.number d t)) (of_with w.conns dp c ordered.0 is) (fit c.number) in
    subst (λ (s : Stage). Fits s c.session.state.awaited c.sent t) (running_stage w dp c runs is) it

noted_of : (w : World) (all : List Said) → IsTold all (record w { said = [] }) → IsNoted w all
noted_of w all told dp c runs is =
    subst (λ (s : List Said). LeadsTo (tables_said c.number s) c.sent) (append-nil all) (noting_of all (record w { said = [] }) told.0.0.1 told.1 dp c runs is).leads

pub ends_of : (stage : Stage) (awaited : Option ℕ) (sent : List Entry) (t : Told) (xid : ℕ) → Fits stage awaited sent t → has_ports stage ≡ true → awaited ≡ Some xid → EndsIn t xid
ends_of Greeting awaited sent t xid fits ports waits = absurd (true≢false (sym ports))
ends_of Features awaited sent t xid fits ports waits = absurd (true≢false (sym ports))
ends_of Ports awaited sent t xid fits ports waits = absurd (true≢false (sym ports))
ends_of Wiping awaited sent t xid fits ports waits =
    let both : Some fits.xid ≡ Some xid = sym fits.awaits ∙ waits in
    let same : fits.xid ≡ xid = cc in
    ((delete_all, fits.wipe) ∷ [], fits.is ∙ ap (λ (x : ℕ). (delete_all, fits.wipe) ∷ (messages.BarrierRequest, x) ∷ []) same)
ends_of Running awaited sent t xid fits ports waits = fits.last xid waits
ends_of Shut awaited sent t xid fits ports waits = absurd (true≢false (sym ports))

one_batch_of : (w : World) (all : List Said) → AreFit all (record w { said = [] }) → HasOneBatch w all
one_batch_of w all fit number xid c is ports waits =
    let t : Told = tables_said number (all ++ []) in
    let it : OnConn FitsEach number c t = subst (λ o. IfSome o (λ d. OnConn FitsEach number d t)) is (fit number) in
    subst (λ (s : List Said). EndsIn (tables_said number s) xid) (append-nil all) (ends_of c.session.state.stage c.session.state.awaited c.sent t xid it ports waits)

pub held_of : (w : World) (all : List Said) → NothingWaits w → IsNoted w all → HoldsColdStart w all
held_of w all waits noted dp c runs is free =
    elim (waits dp c runs is) [
      | inl some ↦ absurd (true≢false (sym some ∙ ap (λ (o : Option ℕ). is_some o) free))
      | inr same ↦ subst (LeadsTo (tables_said c.number all)) same (noted dp c runs is)
    ]

module _ (laws : Grounds) where
  -- ---- before each settling

  module _ (past : List Said) (w : World) (told : IsTold past w) where
    ordered : AreOrdered w.conns
    ordered = told.0.0.1

    cold_of : HasColdTables (record { past = past; before = w })
    cold_of dp c runs is = by (conn_of w.conns dp) refl
      where
        behind_told : IsTold past (settle w)
        behind_told = settles laws past w told

        by : (o : Option Conn) → conn_of w.conns dp ≡ o
            → (tables_said c.number (past ++ (settle w).said) ≡ tables_said c.number (past ++ w.said)) ⊎ LeadsTo (tables_said c.number (past ++ (settle w).said)) (wanted (settle w) dp)
        by None none =
            let numbers : Some c.number ≡ None = sym (ap (option_map (λ (x : Conn). x.number)) is) ∙ (settled_alike laws.order w ordered).numbers dp ∙ ap (option_map (λ (x : Conn). x.number)) none in
            absurd (cc)
        by (Some d) some =
            let seen = seen_of laws.order laws.leads laws.same past w ordered dp d some c is in
            elim (seen.1) [
              | inl still ↦ inl (subst (λ (k : ℕ). tables_said k (past ++ (settle w).said) ≡ tables_said k (past ++ w.said)) (sym seen.0) still.0)
              | inr said ↦
                  inr (subst (LeadsTo (tables_said c.number (past ++ (settle w).said))) said.reached (noting_of past (settle w) behind_told.0.0.1 behind_told.1 dp c runs is).leads)
            ]

    least_of : SaysTheLeast (record { past = past; before = w })
    least_of dp c runs is = by (conn_of (settle w).conns dp) refl
      where
        by : (o : Option Conn) → conn_of (settle w).conns dp ≡ o
            → (more : Told) × (tables_said c.number (past ++ (settle w).said) ≡ tables_said c.number (past ++ w.said) ++ more)
            × ((more ≡ [])
            ⊎ ((c.session.state.awaited ≡ None) × (map (λ (m : Message × ℕ). m.0) more ≡ map command_message (difference c.sent (wanted (settle w) dp)) ++ messages.BarrierRequest ∷ [])))
        by None none =
            let numbers : Some c.number ≡ None = sym (ap (option_map (λ (x : Conn). x.number)) is) ∙ sym ((settled_alike laws.order w ordered).numbers dp) ∙ ap (option_map (λ (x : Conn). x.number)) none in
            absurd (cc)
        by (Some d) some =
            let seen = seen_of laws.order laws.leads laws.same past w ordered dp c is d some in
            elim (seen.1) [
              | inl still ↦ ([], still.0 ∙ sym (append-nil (tables_said c.number (past ++ w.said))), inl refl)
              | inr said ↦ (said.more, said.is, inr (said.free, said.said))
            ]

  -- ---- of a story

  module _ (conf : Configuration) (story : List Happening) (valid : IsValid conf) where
    story_told : IsTold (said_in (first conf) story) (record (behind (first conf) story) { said = [] })
    story_told = story_kept Any IsTold (told_walks laws) [] (first conf) story (any_pieces story) (first_told laws conf valid)

    pub story_noted : IsNoted (behind (first conf) story) (said_in (first conf) story)
    story_noted = noted_of (behind (first conf) story) (said_in (first conf) story) story_told

    pub story_one_batch : HasOneBatch (behind (first conf) story) (said_in (first conf) story)
    story_one_batch = one_batch_of (behind (first conf) story) (said_in (first conf) story) story_told.1

    pub story_cold : AllByRecursion HasColdTables (settlings (first conf) story)
    story_cold = story_seen Any IsTold (told_walks laws) HasColdTables cold_of [] (first conf) story (any_pieces story) (first_told laws conf valid)

    pub story_least : AllByRecursion SaysTheLeast (settlings (first conf) story)
    story_least = story_seen Any IsTold (told_walks laws) SaysTheLeast least_of [] (first conf) story (any_pieces story) (first_told laws conf valid)
