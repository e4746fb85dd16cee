-- Where the difference of what was noted of a datapath and its cold start is empty, nothing is said of its tables in a settling.
use Rattle.std.proofs.Common.{◌≡◌, ℕ, ◌==◌, ◌++◌, true, false, Option, Some, None, List, [], ◌∷◌, is_some, inl, inr, refl, sym, ap, subst, ◌∙◌, if◌then◌else◌}
use Rattle.std.specs.Prelude.{IfSome}
use Rattle.std.specs.Option.{option_map, option_map_or}
use Rattle.std.proofs.lemmas.Bool.{cases_Bool, eqb-true}
use Rattle.net_base.specs.declared.numbers.DpId.{DpId}
use Rattle.of_match.specs.declared.entry.Command.{Command}
use Rattle.of_match.specs.declared.entry.Entry.{Entry}
use Rattle.plan_difference.specs.Difference.{difference}
use Rattle.neighbour_resolve.specs.Asks.{in_order}
use Rattle.ctl_world.specs.declared.conns.Conn.{Conn}
use Rattle.ctl_world.specs.declared.said.Said.{Said}
use Rattle.ctl_world.specs.Connections.{conn_of, conn_with, is_of}
use Rattle.ctl_world.specs.TablesSaid.{tables_said}
use Rattle.ctl_world.specs.World.{World, running}
use Rattle.ctl_core.specs.Settlings.{ask_all, batch, batch_on, batches, say_batch, settle, wanted}
use Rattle.ctl_core.proofs.Settlings.{said_case, step_other, wanted_order}
use Rattle.ctl_world.proofs.Numbered.{is_its, one_of, unlike}
use Rattle.ctl_core.proofs.Numbered.{of_with}
use Rattle.ctl_core.proofs.Ordered.{AreOrdered}
use Rattle.ctl_core.proofs.Walk.{asks_kept}
use Rattle.law_stories.specs.Grounds.{Grounds}
use Rattle.law_stories.proofs.Fits.{Told}
use Rattle.law_stories.proofs.PlainSteps.{asks_stays}
use Rattle.law_stories.proofs.Settles.{asks_alike, batch_batched, batched_wanted, batches_batched, number_of}
use Rattle.law_stories.proofs.Ways.{Holds, OnConn, Way}
use Rattle.law_lives.proofs.Others.{Same, batch_off, single}

module _ (laws : Grounds) (past : List Said) (w : World) (ordered : AreOrdered w.conns) (dp : DpId) (c : Conn) (some : conn_of w.conns dp ≡ Some c)
    (none : difference c.sent (wanted (settle w) dp) ≡ []) where
  abbrev number : ℕ
  number = c.number

  abbrev before : Told
  before = tables_said number (past ++ w.said)

  abbrev goal : List Entry
  goal = wanted (settle w) dp

  record Quiet (v : World) : Type 0 where
    same : Same number past before v
    conn : Conn
    found : conn_of v.conns dp ≡ Some conn
    its : conn.number ≡ number
    sent : conn.sent ≡ c.sent

  -- ---- asks

  abbrev Kept : Way
  Kept n stage awaited sent t = n ≡ number → sent ≡ c.sent

  kept_first : Holds Kept past w.conns w.said
  kept_first n = by (conn_with w.conns n) refl
    where
      by : (o : Option Conn) → conn_with w.conns n ≡ o → IfSome o (λ d. OnConn Kept n d (tables_said n (past ++ w.said)))
      by None is = tt
      by (Some d) is = λ own.
          let it : Some c ≡ Some d = sym (of_with w.conns dp c ordered.0 some) ∙ (ap (conn_with w.conns) (sym own) ∙ is) in
          let same : c ≡ d = cc in
          ap (λ (k : Conn). k.sent) (sym same)

  asked_quiet : Quiet (ask_all w)
  asked_quiet = by (conn_of v.conns dp) refl
    where
      v : World
      v = ask_all w

      numbers : number_of v dp ≡ Some number
      numbers = (asks_alike w ordered).numbers dp ∙ ap (option_map (λ (x : Conn). x.number)) some

      sent_of : (d : Conn) → conn_of v.conns dp ≡ Some d → d.number ≡ number → d.sent ≡ c.sent
      sent_of d is own =
          let found : conn_with v.conns number ≡ Some d = ap (conn_with v.conns) (sym own) ∙ of_with v.conns dp d (asks_alike w ordered).ordered.0 is in
          (subst (λ o. IfSome o (λ x. OnConn Kept number x (tables_said number (past ++ v.said)))) found (asks_stays Kept past w kept_first number)) refl

      by : (o : Option Conn) → conn_of v.conns dp ≡ o → Quiet v
      by None gone = let bad : ◌≡◌ {A = Option ℕ} None (Some number) = sym (ap (option_map (λ (x : Conn). x.number)) gone) ∙ numbers in absurd (cc)
      by (Some d) is =
          let both : Some d.number ≡ Some number = sym (ap (option_map (λ (x : Conn). x.number)) is) ∙ numbers in
          let own : d.number ≡ number = cc in
          record {
            same = asks_kept (Same number past before) (single number past before) (λ u kept. kept) w refl;
            conn = d;
            found = is;
            its = own;
            sent = sent_of d is own;
          }

  -- ---- one batch

  batch_quiet : (id : DpId) (v : World) → AreOrdered v.conns → wanted v dp ≡ goal → Quiet v → Quiet (batch id v)
  batch_quiet id v stands to quiet = by (conn_of v.conns id) refl
    where
      -- its own: there is no command
      own_none : (e : Conn) → conn_of v.conns id ≡ Some e → e.number ≡ number → difference e.sent (wanted v id) ≡ []
      own_none e is own =
          let first : conn_with v.conns number ≡ Some quiet.conn = ap (conn_with v.conns) (sym quiet.its) ∙ of_with v.conns dp quiet.conn stands.0 quiet.found in
          let second : conn_with v.conns number ≡ Some e = ap (conn_with v.conns) (sym own) ∙ of_with v.conns id e stands.0 is in
          let both : Some quiet.conn ≡ Some e = sym first ∙ second in
          let same : quiet.conn ≡ e = cc in
          let id_is : id ≡ dp = one_of e dp id (ap (is_of dp) (sym same) ∙ is_its v.conns dp quiet.conn quiet.found) (is_its v.conns id e is) in
          ap (λ (es : List Entry). difference es (wanted v id)) (ap (λ (k : Conn). k.sent) (sym same) ∙ quiet.sent)
          ∙ ap (difference c.sent) (ap (wanted v) id_is ∙ to) ∙ none

      said_quiet : (e : Conn) → conn_of v.conns id ≡ Some e → Quiet (say_batch e.number (difference e.sent (wanted v id)) (wanted v id) v)
      said_quiet e is =
          elim (cases_Bool (e.number == number)) [
            | inl own ↦ subst (λ (cs : List Command). Quiet (say_batch e.number cs (wanted v id) v)) (sym (own_none e is (eqb-true e.number number own))) quiet
            | inr other ↦
                let differs : e.number ≡ number → ⊥ = unlike e.number number other in
                record {
                  same = batch_off number past before e.number differs (difference e.sent (wanted v id)) (wanted v id) v quiet.same;
                  conn = quiet.conn;
                  found = still e differs;
                  its = quiet.its;
                  sent = quiet.sent;
                }
          ]
        where
          still : (e : Conn) → (e.number ≡ number → ⊥) → conn_of (say_batch e.number (difference e.sent (wanted v id)) (wanted v id) v).conns dp ≡ Some quiet.conn
          still e differs =
              elim (said_case e.number (difference e.sent (wanted v id)) (wanted v id) v (wanted_order laws.order v id)) [
                | inl nothing ↦ ap (λ (u : World). conn_of u.conns dp) nothing.1 ∙ quiet.found
                | inr said ↦
                    step_other e.number said.f said.quiet v (say_batch e.number (difference e.sent (wanted v id)) (wanted v id) v) said.step dp quiet.conn quiet.found
                    (λ same. differs (sym same ∙ quiet.its))
              ]

      by : (o : Option Conn) → conn_of v.conns id ≡ o → Quiet (option_map_or (batch_on id v) o v)
      by None is = quiet
      by (Some e) is =
          elim (is_some e.session.state.awaited) as (λ b. Quiet (if b then v else say_batch e.number (difference e.sent (wanted v id)) (wanted v id) v)) [ true ↦ quiet | false ↦ said_quiet e is ]

  batches_quiet : (dps : List DpId) (v : World) → AreOrdered v.conns → wanted v dp ≡ goal → Quiet v → Quiet (batches dps v)
  batches_quiet [] v stands to quiet = quiet
  batches_quiet (id ∷ dps) v stands to quiet =
      let is = batch_batched laws.order id v stands in
      batches_quiet dps (batch id v) is.alike.ordered (batched_wanted v (batch id v) is dp ∙ to) (batch_quiet id v stands to quiet)

  pub settled_quiet : tables_said c.number (past ++ (settle w).said) ≡ tables_said c.number (past ++ w.said)
  settled_quiet =
      let v : World = ask_all w in
      let alike = asks_alike w ordered in
      let is = batches_batched laws.order (in_order (running v)) v alike.ordered in
      (batches_quiet (in_order (running v)) v alike.ordered (sym (batched_wanted v (settle w) is dp)) asked_quiet).same
