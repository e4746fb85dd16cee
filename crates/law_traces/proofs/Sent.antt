-- What was sent to a datapath that is ready.
use Rattle.std.proofs.Common.{◌≡◌, ◌==◌, ◌&&◌, ◌||◌, ◌⊎◌, inl, inr, ℕ, Bool, true, false, not, List, [], ◌∷◌, Option, Some, None, is_some, refl, sym, ap, subst, ◌∙◌, true≢false}
use Rattle.std.specs.Prelude.{map, filter}
use Rattle.std.specs.List.{list_any}
use Rattle.std.specs.Option.{option_map, option_map_or}
use Rattle.std.proofs.lemmas.Bool.{and_parts, eqb-true}
use Rattle.std.proofs.lemmas.Option.{none-some}
use Rattle.net_base.specs.declared.numbers.DpId.{DpId}
use Rattle.of_match.specs.declared.entry.Entry.{Entry}
use Rattle.conf_types.specs.declared.datapath.Dp.{Dp}
use Rattle.conf_types.specs.State.{is_running}
use Rattle.switch_session.specs.declared.state.Stage.{Stage}
use Rattle.switch_session.specs.declared.state.Stage.TheVariants.{Greeting, Features, Ports, Wiping, Running, Shut}
use Rattle.ctl_world.specs.declared.conns.Conn.{Conn}
use Rattle.ctl_world.specs.Connections.{conn_of}
use Rattle.ctl_world.specs.World.{World, has_ports, is_at_work, now, running, runs}
use Rattle.ctl_core.specs.Settlings.{wanted}
use Rattle.ctl_core.specs.Story.{tables_of}
use Rattle.ctl_core.specs.Waits.{waits, waits_on}
use Rattle.ctl_core.proofs.SaidTables.{list_any-running}
use Rattle.trace_story.specs.Ready.{is_ready}

-- what runs has its ports told
ports_told : (s : Stage) → runs s ≡ true → has_ports s ≡ true
ports_told Greeting is = absurd cc
ports_told Features is = absurd cc
ports_told Ports is = absurd cc
ports_told Wiping is = refl
ports_told Running is = refl
ports_told Shut is = absurd cc

-- a datapath that is at work has a connection that runs
at_work : (conns : List Conn) (id : DpId) (dps : List Dp) → list_any (λ d. is_at_work conns d && d.id.0 == id.0) dps ≡ true → (c : Conn) × (conn_of conns id ≡ Some c) × (runs c.session.state.stage ≡ true)
at_work conns id [] is = absurd cc
at_work conns id (d ∷ dps) is = by (is_at_work conns d && d.id.0 == id.0) refl is (λ is. at_work conns id dps is)
  where
    same : (d.id.0 == id.0) ≡ true → d.id ≡ id
    same e = ap (λ (n : ℕ). let x : DpId = record { 0 = n } in x) (eqb-true d.id.0 id.0 e)

    found : (o : Option Conn) → conn_of conns d.id ≡ o → option_map_or (λ c. runs c.session.state.stage) o false ≡ true → d.id ≡ id → (c : Conn) × (conn_of conns id ≡ Some c) × (runs c.session.state.stage ≡ true)
    found (Some c) at works is_id = (c, subst (λ x. conn_of conns x ≡ Some c) is_id at, works)
    found None at works is_id = absurd cc

    by : (here : Bool) → (is_at_work conns d && d.id.0 == id.0) ≡ here → (here || list_any (λ e. is_at_work conns e && e.id.0 == id.0) dps) ≡ true
        → (list_any (λ e. is_at_work conns e && e.id.0 == id.0) dps ≡ true → (c : Conn) × (conn_of conns id ≡ Some c) × (runs c.session.state.stage ≡ true)) → (c : Conn) × (conn_of conns id ≡ Some c) × (runs c.session.state.stage ≡ true)
    by true here is later = let parts = and_parts (is_at_work conns d) (d.id.0 == id.0) here in found (conn_of conns d.id) refl parts.0 (same parts.1)
    by false here is later = later is

pub runs_on : (w : World) (id : DpId) → is_running (running w) id ≡ true → (c : Conn) × (conn_of w.conns id ≡ Some c) × (runs c.session.state.stage ≡ true)
runs_on w id is = at_work w.conns id w.conf.dps (sym (list_any-running (is_at_work w.conns) id w.conf.dps) ∙ is)

-- no barrier is outstanding
none_awaited : (c : Conn) → runs c.session.state.stage ≡ true → not (waits_on c) ≡ true → is_some c.session.state.awaited ≡ true → ⊥
none_awaited c works rests some =
    true≢false (sym rests ∙ ap (λ (b : Bool). not b) (ap (λ (b : Bool). b && is_some c.session.state.awaited) (ports_told c.session.state.stage works) ∙ some))

-- what its connection was sent
tables_on : (w : World) (id : DpId) (c : Conn) → is_running (running w) id ≡ true → conn_of w.conns id ≡ Some c → tables_of w id ≡ Some c.sent
tables_on w id c works at = rw (works, at) refl

module _ (w : World) (id : DpId) (rests : (c : Conn) → is_running (running w) id ≡ true → conn_of w.conns id ≡ Some c → (is_some c.session.state.awaited ≡ true) ⊎ (c.sent ≡ wanted w id)) where
  pub sent_cold : is_ready w id ≡ true → tables_of w id ≡ Some (wanted w id)
  sent_cold ready =
      let parts = and_parts (is_running (running w) id) (not (waits w id)) ready in
      let at = runs_on w id parts.0 in
      let idle : not (waits_on at.0) ≡ true = sym (ap (λ (o : Option Conn). not (option_map_or waits_on o false)) at.1) ∙ parts.1 in
      let held = tables_on w id at.0 parts.0 at.1 in
      elim (rests at.0 parts.0 at.1) [
        | inl awaited ↦ absurd (none_awaited at.0 at.2 idle awaited)
        | inr same ↦ held ∙ ap (λ (tables : List Entry). Some tables) same
      ]
