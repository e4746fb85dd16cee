-- Which datapaths' tables a controller tells.
use Rattle.std.proofs.Common.{◌≡◌, ◌==◌, ◌&&◌, ◌||◌, List, [], ◌∷◌, Bool, true, false, Option, Some, None, is_some, filter, map, if◌then◌else◌, ap, refl, sym, subst, ◌∙◌, true≢false}
use Rattle.std.specs.List.{list_any}
use Rattle.std.specs.Option.{option_map}
use Rattle.net_base.specs.declared.numbers.DpId.{DpId}
use Rattle.conf_types.specs.declared.datapath.Dp.{Dp}
use Rattle.conf_types.specs.State.{is_running}
use Rattle.ctl_settle.specs.Plans.{Kept}
use Rattle.ctl_world.specs.declared.conns.Conn.{Conn}
use Rattle.ctl_world.specs.Connections.{conn_of}
use Rattle.ctl_world.specs.World.{World, is_at_work, running_of}
use Rattle.ctl_settle.specs.Plans.{Fits, IsPlanOf, plan_for}
use Rattle.ctl_settle.proofs.Fitting.{number_found}
use Rattle.ctl_core.specs.declared.known.Known.{Known}
use Rattle.ctl_core.specs.Known.{HasSettled}
use Rattle.ctl_core.specs.Story.{tables_of}

one_more : (runs : Bool) (d : Dp) (rest : List Dp) (id : DpId) (others : Bool) → is_running (map (λ d. d.id) rest) id ≡ others
    → is_running (map (λ d. d.id) (if runs then d ∷ rest else rest)) id ≡ ((runs && d.id.0 == id.0) || others)
one_more true d rest id others e = ap (λ (b : Bool). (d.id.0 == id.0) || b) e
one_more false d rest id others e = e

-- the datapaths that run are those of the configuration whose connection is at work
pub list_any-running : (test : Dp → Bool) (id : DpId) (dps : List Dp) → is_running (map (λ d. d.id) (filter test dps)) id ≡ list_any (λ d. test d && d.id.0 == id.0) dps
list_any-running test id [] = refl
list_any-running test id (d ∷ dps) = one_more (test d) d (filter test dps) id (list_any (λ d. test d && d.id.0 == id.0) dps) (list_any-running test id dps)

pub tables_none : (w : World) (id : DpId) → list_any (λ d. is_at_work w.conns d && d.id.0 == id.0) w.conf.dps ≡ false → None ≡ tables_of w id
tables_none w id e = rw (list_any-running (is_at_work w.conns) id w.conf.dps, e) refl

pub tables_some : (w : World) (id : DpId) → list_any (λ d. is_at_work w.conns d && d.id.0 == id.0) w.conf.dps ≡ true → option_map (λ c. c.sent) (conn_of w.conns id) ≡ tables_of w id
tables_some w id e = rw (list_any-running (is_at_work w.conns) id w.conf.dps, e) refl

-- what its plan was sent is what is noted of its connection
pub plan_sent : (k : Known) → HasSettled k → (id : DpId) (c : Conn) → list_any (λ d. is_at_work k.world.conns d && d.id.0 == id.0) k.world.conf.dps ≡ true → conn_of k.world.conns id ≡ Some c
    → option_map (λ (p : Kept). p.sent) (plan_for k.plans c.number) ≡ option_map (λ (d : Conn). d.sent) (conn_of k.world.conns id)
plan_sent k settled id c runs at =
    by (plan_for k.plans c.number) refl ∙ ap (option_map (λ (d : Conn). d.sent)) (sym at)
  where
    running : is_running (running_of k.world.conf k.world.conns) id ≡ true
    running = list_any-running (is_at_work k.world.conns) id k.world.conf.dps ∙ runs

    by : (o : Option Kept) → plan_for k.plans c.number ≡ o → option_map (λ (p : Kept). p.sent) o ≡ Some c.sent
    by None none = absurd (true≢false (sym (settled.held.there id running c at) ∙ ap (λ (o : Option Kept). is_some o) none))
    by (Some p) some =
        let there = number_found k.world.conns id c settled.in_order.numbers at in
        let is : IsPlanOf c p = subst (λ q. Fits (Some c) q) some (subst (λ o. Fits o (plan_for k.plans c.number)) there (settled.held.fit c.number)) in
        ap Some is.sent
