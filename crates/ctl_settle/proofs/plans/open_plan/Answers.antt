use Rattle.std.proofs.Common.{◌≡◌, ◌+◌, ◌≤◌, ◌++◌, ◌∷◌, [], None, Some, Option, List, Bool, true, false, is_some, sym, ap, subst, ◌∙◌, arith, true≢false}
use Rattle.net_base.specs.declared.numbers.DpId.{DpId}
use Rattle.conf_types.specs.State.{State, is_running}
use Rattle.packet_way.specs.Present.{state_of}
use Rattle.warm_plan.specs.Kept.{Kept}
use Rattle.ctl_world.specs.declared.conns.Conn.{Conn}
use Rattle.ctl_world.specs.Connections.{conn_of}
use Rattle.ctl_world.specs.World.{World, running}
use Rattle.ctl_settle.specs.declared.plans.Held.{Held}
use Rattle.ctl_settle.specs.Counted.{all_anew, whole}
use Rattle.ctl_settle.specs.Plans.{AreApart, opened, plan_for}
use Rattle.ctl_settle.proofs.Apart.{apart_more}
use Rattle.ctl_settle.proofs.Counting.{fewer_left}
use Rattle.ctl_settle.proofs.Fitting.{running_runs}
use Rattle.ctl_settle.proofs.plans.open_plan.Goals as goal

none_of : (o : Option Kept) → is_some o ≡ false → o ≡ None
none_of o is = elim o as (λ p. is_some p ≡ false → p ≡ None) [ None ↦ λ e. cc | Some p ↦ λ e. absurd (true≢false e) ] is

-- the connection's plan isn't kept, as was asked
module _ (one : Conn) (items held : List Held) (has : Bool) (same : items ≡ held) (asked : has ≡ is_some (plan_for items one.number)) (off : has ≡ false) where
  none_kept : plan_for held one.number ≡ None
  none_kept = none_of (plan_for held one.number) (sym (ap (λ (hs : List Held). is_some (plan_for hs one.number)) same) ∙ sym asked ∙ off)

  -- so with it fewer are left to be made
  fewer : (w : World) (state : State) (dp : DpId) → is_running (running w) dp ≡ true → conn_of w.conns dp ≡ Some one
      → all_anew w.conf state w.conns (held ++ record { conn = one.number; plan = opened w.conf state dp } ∷ []) + whole w.conf state dp ≤ all_anew w.conf state w.conns held
  fewer w state dp runs at = fewer_left w.conf state w.conns dp one at held (running_runs w.conf w.conns dp runs one at) none_kept

pub returns-in_err-plan-clause-most : goal.returns-in_err-plan-clause-most
returns-in_err-plan-clause-most g c =
    let left = fewer c.in-Some.conn.now c.as_slice.result.now c.args.held.now.items c.has_plan.result c.as_slice.ensures.value c.has_plan.ensures c.if-has_plan.false
    c.args.world.now (state_of c.args.now.now) c.args.dp c.requires.runs (cc (c.in-Some.ensures)) in
    omega (arith, left, c.open.ensures.most)

pub returns-in_err-push-clause-most : goal.returns-in_err-push-clause-most
returns-in_err-push-clause-most g c =
    let left = fewer c.in-Some.conn.now c.as_slice.result.now c.args.held.now.items c.has_plan.result c.as_slice.ensures.value c.has_plan.ensures c.if-has_plan.false
    c.args.world.now (state_of c.args.now.now) c.args.dp c.requires.runs (cc (c.in-Some.ensures)) in
    omega (arith, left, c.open.ensures.most)

pub returns-clause-most : goal.returns-clause-most
returns-clause-most g c =
    let left = fewer c.in-Some.conn.now c.as_slice.result.now c.args.held.now.items c.has_plan.result c.as_slice.ensures.value c.has_plan.ensures c.if-has_plan.false
    c.args.world.now (state_of c.args.now.now) c.args.dp c.requires.runs (cc (c.in-Some.ensures)) in
    omega (arith, left, c.open.ensures.most)

pub returns-clause-apart : goal.returns-clause-apart
returns-clause-apart g c =
    let one : Conn = c.in-Some.conn.now in
    let held : List Held = c.args.held.now.items in
    let none = none_kept one c.as_slice.result.now held c.has_plan.result c.as_slice.ensures.value c.has_plan.ensures c.if-has_plan.false in
    subst AreApart (sym c.in_ok-push.ensures.items) (apart_more (record { conn = one.number; plan = c.in_ok-plan.plan }) held none c.requires.apart)

pub returns-clause-left : goal.returns-clause-left
returns-clause-left g c =
    let w : World = c.args.world.now in
    let state = state_of c.args.now.now in
    let one : Conn = c.in-Some.conn.now in
    let held : List Held = c.args.held.now.items in
    let left = fewer one c.as_slice.result.now held c.has_plan.result c.as_slice.ensures.value c.has_plan.ensures c.if-has_plan.false w state c.args.dp c.requires.runs (cc (c.in-Some.ensures)) in
    let items : c.push.new.self.items ≡ held ++ record { conn = one.number; plan = opened w.conf state c.args.dp } ∷ [] =
    c.in_ok-push.ensures.items ∙ ap (λ (p : Kept). held ++ record { conn = one.number; plan = p } ∷ []) c.in_ok-plan.ensures.warm in
    let same = ap (all_anew w.conf state w.conns) items in
    omega (arith, left, same, c.open.ensures.most)
