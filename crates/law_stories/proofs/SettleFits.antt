-- A settling leaves it that what was said of the tables fits each connection; and what it says of the tables of a datapath
-- is nothing, or the difference.
use Rattle.std.proofs.Common.{◌≡◌, ℕ, ◌==◌, ◌||◌, Bool, true, false, Option, Some, None, List, [], ◌∷◌, ◌++◌, is_some, inl, inr, refl, sym, ap, subst, ◌∙◌, eq-eqb, true≢false}
use Rattle.std.specs.Prelude.{◌⊎◌, IfSome}
use Rattle.std.specs.List.{AllByRecursion}
use Rattle.std.specs.Option.{option_map}
use Rattle.net_base.specs.declared.numbers.DpId.{DpId}
use Rattle.of_match.specs.declared.entry.Entry.{Entry}
use Rattle.of_match.specs.FlowTables.{IsInKeyOrder}
use Rattle.of_match.specs.Settled.{Settles}
use Rattle.conf_types.specs.declared.datapath.Dp.{Dp}
use Rattle.conf_types.specs.Configuration.{Configuration}
use Rattle.conf_types.specs.State.{State, is_running}
use Rattle.cold_start.specs.Cold.{cold}
use Rattle.plan_difference.specs.Difference.{difference}
use Rattle.neighbour_resolve.specs.Asks.{in_order}
use Rattle.switch_session.specs.declared.state.Stage.{Stage}
use Rattle.switch_session.specs.declared.state.Stage.TheVariants.{Running}
use Rattle.ctl_world.specs.declared.conns.Conn.{Conn}
use Rattle.ctl_world.specs.declared.said.Said.{Said}
use Rattle.ctl_world.specs.Connections.{conn_of, conn_with, is_of}
use Rattle.ctl_world.specs.TablesSaid.{tables_said}
use Rattle.ctl_world.specs.World.{World, running}
use Rattle.ctl_core.specs.Settlings.{ask_all, batch, batches, settle, wanted}
use Rattle.ctl_core.proofs.Settlings.{found_all}
use Rattle.law_stories.proofs.Batching.{AreOf, batch_to}
use Rattle.law_stories.proofs.Fits.{EndsIn, Fits, FitsEach, IsLow, IsNoting, Told}
use Rattle.law_stories.proofs.Leading.{leads_on, low_difference}
use Rattle.ctl_world.proofs.Numbered.{is_its, one_of}
use Rattle.ctl_core.proofs.Numbered.{of_with}
use Rattle.law_stories.proofs.PlainSteps.{asks_stays}
use Rattle.law_stories.proofs.Settles.{asks_alike, batch_batched, batched_running, batched_wanted, batches_batched, number_of, running_stage, settled_alike}
use Rattle.law_stories.proofs.Setup.{AreFit}
use Rattle.ctl_core.proofs.Ordered.{AreOrdered}
use Rattle.ctl_core.proofs.Stands.{asks_conf}
use Rattle.law_stories.proofs.Ways.{Holds, OnConn, Way}

has_none : (o : Option ℕ) → is_some o ≡ false → o ≡ None
has_none None is = refl
has_none (Some x) is = absurd (true≢false is)

-- ---- a settling leaves it fitting

module _ (cold_order : (conf : Configuration) (state : State) (d : Dp) → IsInKeyOrder (cold conf state d))
    (law : (w : World) (dp : DpId) (c : Conn) (settled : List Entry) → IsInKeyOrder c.sent → Settles c.sent (difference c.sent (wanted w dp)) settled → settled ≡ wanted w dp)
    (same_ids : (ids : List DpId) (dp : DpId) → is_running (in_order ids) dp ≡ is_running ids dp) (past : List Said) where
  noting : (w : World) (dp : DpId) (c : Conn) → IsInKeyOrder c.sent → AllByRecursion IsLow (wanted w dp) → (awaited : Option ℕ) (t : Told) → IsNoting awaited c.sent t
      → (xid : ℕ) (more : Told) → AreOf (difference c.sent (wanted w dp)) more → EndsIn (t ++ more) xid → IsNoting (Some xid) (wanted w dp) (t ++ more)
  noting w dp c keys low awaited t before xid more said ends = record {
    leads = leads_on t more c.sent (wanted w dp) (difference c.sent (wanted w dp)) (low_difference c.sent (wanted w dp) before.low low) before.leads said (λ settled s. law w dp c settled keys s);
    low = low;
    last = λ x is. let same : xid ≡ x = cc in subst (EndsIn (t ++ more)) same ends;
  }

  batch_fits : (dp : DpId) (w : World) → AreOrdered w.conns → AllByRecursion IsLow (wanted w dp) → is_running (running w) dp ≡ true → AreFit past w → AreFit past (batch dp w)
  batch_fits dp w ordered low runs fit =
      batch_to FitsEach past dp w ordered.0
      (λ c is waits h xid more some said ends.
      let stage : c.session.state.stage ≡ Running = running_stage w dp c runs is in
      let t : Told = tables_said c.number (past ++ w.said) in
      let before : IsNoting c.session.state.awaited c.sent t = subst (λ (s : Stage). Fits s c.session.state.awaited c.sent t) stage h in
      subst (λ (s : Stage). Fits s (Some xid) (wanted w dp) (t ++ more)) (sym stage)
      (noting w dp c (found_all (λ x. IsInKeyOrder x.sent) w.conns dp c ordered.1 is) low c.session.state.awaited t before xid more said ends))
      fit

  batches_fit : (dps : List DpId) (w : World) → AreOrdered w.conns → ((dp : DpId) → AllByRecursion IsLow (wanted w dp))
      → ((dp : DpId) → is_running dps dp ≡ true → is_running (running w) dp ≡ true) → AreFit past w → AreFit past (batches dps w)
  batches_fit [] w ordered low run fit = fit
  batches_fit (dp ∷ dps) w ordered low run fit =
      let v : World = batch dp w in
      let is = batch_batched cold_order dp w ordered in
      let here : is_running (dp ∷ dps) dp ≡ true = ap (λ b. b || is_running dps dp) (eq-eqb dp.0 dp.0 refl) in
      batches_fit dps v is.alike.ordered (λ id. subst (AllByRecursion IsLow) (sym (batched_wanted w v is id)) (low id))
      (λ id in_it. ap (λ (ids : List DpId). is_running ids id) (batched_running w v is) ∙ run id (behind_one dp id (is_running dps id) in_it))
      (batch_fits dp w ordered (low dp) (run dp here) fit)
    where
      behind_one : (x id : DpId) (b : Bool) → b ≡ true → ((x.0 == id.0) || b) ≡ true
      behind_one x id b is = ap (λ c. (x.0 == id.0) || c) is ∙ (elim (x.0 == id.0) as (λ c. (c || true) ≡ true) [ true ↦ refl | false ↦ refl ])

  pub settled_fit : (w : World) → AreOrdered w.conns → ((v : World) (dp : DpId) → v.conf ≡ w.conf → AllByRecursion IsLow (wanted v dp)) → AreFit past w → AreFit past (settle w)
  settled_fit w ordered low fit =
      let v : World = ask_all w in
      batches_fit (in_order (running v)) v (asks_alike w ordered).ordered (λ dp. low v dp (asks_conf w)) (λ dp is. sym (same_ids (running v) dp) ∙ is) (asks_stays FitsEach past w fit)

  -- ---- what is said of the tables of one datapath

  module _ (w : World) (ordered : AreOrdered w.conns) (dp : DpId) (c : Conn) (some : conn_of w.conns dp ≡ Some c) where
    abbrev before : Told
    before = tables_said c.number (past ++ w.said)

    abbrev goal : List Entry
    goal = wanted (settle w) dp

    -- the difference was said
    pub record IsTold (awaited : Option ℕ) (sent : List Entry) (t : Told) : Type 0 where
      pub more : Told
      pub is : t ≡ before ++ more
      pub said : AreOf (difference c.sent goal) more
      pub any : difference c.sent goal ≡ [] → ⊥
      pub awaits : is_some awaited ≡ true
      pub free : c.session.state.awaited ≡ None
      pub reached : sent ≡ goal

    abbrev Seen : Option ℕ → List Entry → Told → Type 0
    Seen awaited sent t = ((t ≡ before) × (sent ≡ c.sent) × (awaited ≡ c.session.state.awaited)) ⊎ IsTold awaited sent t

    abbrev SeenEach : Way
    SeenEach n stage awaited sent t = n ≡ c.number → Seen awaited sent t

    seen_first : Holds SeenEach past w.conns w.said
    seen_first n = by (conn_with w.conns n) refl
      where
        by : (o : Option Conn) → conn_with w.conns n ≡ o → IfSome o (λ d. OnConn SeenEach n d (tables_said n (past ++ w.said)))
        by None is = tt
        by (Some d) is = λ own.
            let it : Some c ≡ Some d = sym (of_with w.conns dp c ordered.0 some) ∙ (ap (conn_with w.conns) (sym own) ∙ is) in
            let same : c ≡ d = cc in
            inl (ap (λ (k : ℕ). tables_said k (past ++ w.said)) own, ap (λ (k : Conn). k.sent) (sym same), ap (λ (k : Conn). k.session.state.awaited) (sym same))

    -- its connection is found by its identifier alone
    only_it : (v : World) → AreOrdered v.conns → number_of v dp ≡ Some c.number → (id : DpId) (d : Conn) → conn_of v.conns id ≡ Some d → d.number ≡ c.number → id ≡ dp
    only_it v stands number id d is own = by (conn_of v.conns dp) refl number
      where
        by : (o : Option Conn) → conn_of v.conns dp ≡ o → option_map (λ (x : Conn). x.number) o ≡ Some c.number → id ≡ dp
        by None none at = absurd (cc)
        by (Some x) at has =
            let its : x.number ≡ c.number = cc in
            let first : conn_with v.conns c.number ≡ Some x = ap (conn_with v.conns) (sym its) ∙ of_with v.conns dp x stands.0 at in
            let second : conn_with v.conns c.number ≡ Some d = ap (conn_with v.conns) (sym own) ∙ of_with v.conns id d stands.0 is in
            let both : Some x ≡ Some d = sym first ∙ second in
            let same : x ≡ d = cc in
            one_of d dp id (ap (λ (k : Conn). is_of dp k) (sym same) ∙ is_its v.conns dp x at) (is_its v.conns id d is)

    batches_seen : (dps : List DpId) (v : World) → AreOrdered v.conns → number_of v dp ≡ Some c.number → wanted v dp ≡ goal → Holds SeenEach past v.conns v.said
        → Holds SeenEach past (batches dps v).conns (batches dps v).said
    batches_seen [] v stands number to holds = holds
    batches_seen (id ∷ dps) v stands number to holds =
        let is = batch_batched cold_order id v stands in
        batches_seen dps (batch id v) is.alike.ordered (is.alike.numbers dp ∙ number) (batched_wanted v (batch id v) is dp ∙ to)
        (batch_to SeenEach past id v stands.0
        (λ d at waits h xid more some said ends own. one d at waits own (h own) xid more some said)
        holds)
      where
        one : (d : Conn) → conn_of v.conns id ≡ Some d → is_some d.session.state.awaited ≡ false → d.number ≡ c.number → Seen d.session.state.awaited d.sent (tables_said d.number (past ++ v.said))
            → (xid : ℕ) (more : Told) → (difference d.sent (wanted v id) ≡ [] → ⊥) → AreOf (difference d.sent (wanted v id)) more
            → Seen (Some xid) (wanted v id) (tables_said d.number (past ++ v.said) ++ more)
        one d at waits own (inr told) xid more any said = absurd (true≢false (sym told.awaits ∙ waits))
        one d at waits own (inl still) xid more any said =
            let same : id ≡ dp = only_it v stands number id d at own in
            let wants : wanted v id ≡ goal = ap (wanted v) same ∙ to in
            inr (record {
              more = more;
              is = ap (λ (t : Told). t ++ more) still.0;
              said = subst (λ (es : List Entry). AreOf (difference es goal) more) still.1 (subst (λ (es : List Entry). AreOf (difference d.sent es) more) wants said);
              any = subst (λ (es : List Entry). difference es goal ≡ [] → ⊥) still.1 (subst (λ (es : List Entry). difference d.sent es ≡ [] → ⊥) wants any);
              awaits = refl;
              free = sym still.2 ∙ has_none d.session.state.awaited waits;
              reached = wants;
            })

    pub settled_seen : Holds SeenEach past (settle w).conns (settle w).said
    settled_seen =
        let v : World = ask_all w in
        let alike = asks_alike w ordered in
        let is = batches_batched cold_order (in_order (running v)) v alike.ordered in
        batches_seen (in_order (running v)) v alike.ordered (alike.numbers dp ∙ ap (option_map (λ (x : Conn). x.number)) some) (sym (batched_wanted v (settle w) is dp)) (asks_stays SeenEach past w seen_first)

    -- its connection, behind the settling
    pub seen_of : (d : Conn) → conn_of (settle w).conns dp ≡ Some d → (d.number ≡ c.number) × Seen d.session.state.awaited d.sent (tables_said c.number (past ++ (settle w).said))
    seen_of d at =
        let after = settled_alike cold_order w ordered in
        let numbers : Some d.number ≡ Some c.number =
        sym (ap (option_map (λ (x : Conn). x.number)) at) ∙ after.numbers dp ∙ ap (option_map (λ (x : Conn). x.number)) some in
        let number : d.number ≡ c.number = cc in
        let found : conn_with (settle w).conns c.number ≡ Some d = ap (conn_with (settle w).conns) (sym number) ∙ of_with (settle w).conns dp d after.ordered.0 at in
        (number, (subst (λ o. IfSome o (λ x. OnConn SeenEach c.number x (tables_said c.number (past ++ (settle w).said)))) found (settled_seen c.number)) refl)
