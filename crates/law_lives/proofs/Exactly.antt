-- What is said of tables in a settling, exactly.
use Rattle.std.proofs.Common.{◌≡◌, ℕ, ◌++◌, true, Option, Some, None, List, [], ◌∷◌, map, is_some, inl, inr, refl, sym, ap, ◌∙◌, true≢false}
use Rattle.std.specs.Prelude.{◌↔◌}
use Rattle.std.specs.List.{AllByRecursion}
use Rattle.std.specs.Option.{option_map}
use Rattle.std.proofs.lemmas.List.{append-nil}
use Rattle.net_base.specs.declared.numbers.DpId.{DpId}
use Rattle.fg_outside.specs.declared.hub.Happening.{Happening}
use Rattle.of_match.specs.declared.entry.Command.{Command}
use Rattle.of_match.specs.declared.entry.Entry.{Entry}
use Rattle.of_match.specs.FlowTables.{IsInKeyOrder}
use Rattle.conf_types.specs.Configuration.{Configuration}
use Rattle.conf_types.specs.State.{is_running}
use Rattle.conf_types.specs.Valid.{IsValid}
use Rattle.plan_difference.specs.Difference.{difference}
use Rattle.of13_codec.specs.declared.message.Message.TheVariants as messages
use Rattle.flow_messages.specs.Messages.{command_message}
use Rattle.ctl_world.specs.declared.conns.Conn.{Conn}
use Rattle.ctl_world.specs.declared.said.Said.{Said}
use Rattle.ctl_world.specs.Connections.{conn_of}
use Rattle.ctl_world.specs.TablesSaid.{tables_said}
use Rattle.ctl_world.specs.World.{World, first, running}
use Rattle.ctl_core.specs.Settlings.{IsAtRest, settle, wanted}
use Rattle.ctl_core.proofs.Settlings.{found_all, wanted_order}
use Rattle.ctl_core.proofs.Ordered.{AreOrdered}
use Rattle.law_stories.specs.Grounds.{Grounds}
use Rattle.law_stories.specs.Settlings.{settlings}
use Rattle.law_stories.proofs.SettleFits.{seen_of}
use Rattle.law_stories.proofs.Settles.{settled_alike}
use Rattle.law_stories.proofs.StoryTold.{Any, IsTold, first_told, told_walks}
use Rattle.law_stories.proofs.StoryWalks.{any_pieces, story_seen}
use Rattle.law_lives.specs.Batches.{SaysExactly, SaysOn, batch_due}
use Rattle.law_lives.proofs.BatchesBehind.{in_order_of}
use Rattle.law_lives.proofs.Others.{settled_same}
use Rattle.law_lives.proofs.Quiet.{settled_quiet}

none_batch : (o : Option ℕ) → batch_due o [] ≡ []
none_batch None = refl
none_batch (Some xid) = refl

some_due : (commands : List Command) → (commands ≡ [] → ⊥) → batch_due None commands ≡ map command_message commands ++ messages.BarrierRequest ∷ []
some_due [] any = absurd (any refl)
some_due (c ∷ more) any = refl

module _ (laws : Grounds) (equal : (from to : List Entry) → IsInKeyOrder from → IsInKeyOrder to → (difference from to ≡ []) ↔ (from ≡ to))
    (past : List Said) (w : World) (told : IsTold past w) where
  ordered : AreOrdered w.conns
  ordered = told.0.0.1

  at_rest : IsAtRest (settle w)
  at_rest = laws.rests w (in_order_of past w told)

  module _ (dp : DpId) (c : Conn) (runs : is_running (running (settle w)) dp ≡ true) (is : conn_of w.conns dp ≡ Some c) where
    abbrev commands : List Command
    commands = difference c.sent (wanted (settle w) dp)

    no_command : c.sent ≡ wanted (settle w) dp → commands ≡ []
    no_command same =
        (equal c.sent (wanted (settle w) dp) (found_all (λ (x : Conn). IsInKeyOrder x.sent) w.conns dp c ordered.1 is) (wanted_order laws.order (settle w) dp)).1 same

    -- where nothing was said, nothing was due
    none_due : (d : Conn) → conn_of (settle w).conns dp ≡ Some d → d.sent ≡ c.sent → d.session.state.awaited ≡ c.session.state.awaited
        → (o : Option ℕ) → c.session.state.awaited ≡ o → batch_due o commands ≡ []
    none_due d some sent awaited (Some xid) waits = refl
    none_due d some sent awaited None free =
        elim (at_rest.batches dp runs d some) [
          | inl waits ↦ absurd (true≢false (sym waits ∙ ap (λ (o : Option ℕ). is_some o) (awaited ∙ free)))
          | inr same ↦ ap (batch_due None) (no_command (sym sent ∙ same))
        ]

    due_some : (commands ≡ [] → ⊥) → SaysOn c.number (record { past = past; before = w }) (batch_due c.session.state.awaited commands)
    due_some any = by (conn_of (settle w).conns dp) refl
      where
        by : (o : Option Conn) → conn_of (settle w).conns dp ≡ o → SaysOn c.number (record { past = past; before = w }) (batch_due c.session.state.awaited commands)
        by None none =
            let numbers : Some c.number ≡ None =
            sym (ap (option_map (λ (x : Conn). x.number)) is) ∙ sym ((settled_alike laws.order w ordered).numbers dp) ∙ ap (option_map (λ (x : Conn). x.number)) none in
            absurd (cc)
        by (Some d) some =
            let seen = seen_of laws.order laws.leads laws.same past w ordered dp c is d some in
            elim (seen.1) [
              | inl still ↦ (
                [],
                still.0 ∙ sym (append-nil (tables_said c.number (past ++ w.said))),
                sym (none_due d some still.1 still.2 c.session.state.awaited refl),
              )
              | inr said ↦ (
                said.more,
                said.is,
                said.said ∙ sym (some_due commands any) ∙ ap (λ (o : Option ℕ). batch_due o commands) (sym said.free),
              )
            ]

    due : SaysOn c.number (record { past = past; before = w }) (batch_due c.session.state.awaited commands)
    due = by commands refl
      where
        by : (cs : List Command) → commands ≡ cs → SaysOn c.number (record { past = past; before = w }) (batch_due c.session.state.awaited commands)
        by [] none = (
          [],
          settled_quiet laws past w ordered dp c is none ∙ sym (append-nil (tables_said c.number (past ++ w.said))),
          sym (ap (batch_due c.session.state.awaited) none ∙ none_batch c.session.state.awaited),
        )
        by (x ∷ xs) some = due_some (λ none. let bad : x ∷ xs ≡ [] = sym some ∙ none in absurd (cc))

  exactly : SaysExactly (record { past = past; before = w })
  exactly = record {
    due = λ dp c runs is. due dp c runs is;
    nothing_else = λ number off. settled_same number past (tables_said number (past ++ w.said)) laws.order laws.same w ordered off refl;
  }

module _ (laws : Grounds) (equal : (from to : List Entry) → IsInKeyOrder from → IsInKeyOrder to → (difference from to ≡ []) ↔ (from ≡ to)) where
  pub story_exactly : (conf : Configuration) (story : List Happening) → IsValid conf → AllByRecursion SaysExactly (settlings (first conf) story)
  story_exactly conf story valid =
      story_seen Any IsTold (told_walks laws) SaysExactly (exactly laws equal) [] (first conf) story (any_pieces story) (first_told laws conf valid)
