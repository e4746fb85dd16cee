use Rattle.std.proofs.Common.{◌≡◌, ℕ, true, List, ◌++◌, filter, map, take, drop, length, sym, ap, subst, ◌∙◌, arith}
use Rattle.std.specs.List.{AllByRecursion}
use Rattle.std.proofs.Math.Seq.{take-append_seam}
use Rattle.std.proofs.lemmas.Result.{on_ok_weaker}
use Rattle.net_base.specs.declared.numbers.DpId.{DpId}
use Rattle.conf_types.specs.State.{State, is_running}
use Rattle.packet_way.specs.Present.{state_of}
use Rattle.ctl_world.specs.declared.conns.Conn.{Conn}
use Rattle.ctl_world.specs.World.{World, now, running}
use Rattle.ctl_settle.specs.declared.plans.Held.{Held}
use Rattle.ctl_settle.specs.Counted.{all_again, all_anew}
use Rattle.ctl_settle.specs.Plans.{AreApart, numbers, renewed, runs_on, with_plans}
use Rattle.ctl_settle.specs.Touched.{Follows}
use Rattle.ctl_settle.proofs.Apart.{apart_by, apart_left}
use Rattle.ctl_settle.proofs.Counting.{all_within}
use Rattle.ctl_settle.proofs.Following.{some_follow}
use Rattle.ctl_settle.proofs.Settled.{all_run}
use Rattle.ctl_settle.proofs.plans.bring.Goals as goal

-- those that run, as they were renewed
written : (n : ℕ) (xs ys : List Held) → n ≡ length xs → take n (xs ++ ys) ≡ xs
written n xs ys is = ap (λ (k : ℕ). take k (xs ++ ys)) is ∙ take-append_seam xs ys

-- and they are for connections apart, as those were that stay
written_apart : (conns : List Conn) (plans held stay new rest : List Held) (n : ℕ) → held ≡ plans → AreApart held → stay ≡ filter (λ h. runs_on conns h.conn) plans → numbers new ≡ numbers stay
    → n ≡ length new → AreApart (take n (new ++ rest))
written_apart conns plans held stay new rest n was apart left same len =
    subst AreApart (sym (written n new rest len)) (apart_by new stay same (subst AreApart (sym left) (apart_left (λ h. runs_on conns h.conn) plans (subst AreApart was apart))))

pub renew_each-requires-clause-follow : goal.renew_each-requires-clause-follow
renew_each-requires-clause-follow g c =
    let w : World = c.args.world.now in
    let may = c.args.touched.now in
    let state = c.now-now.ensures c.in_ok-running.ensures c.in_ok-ups.ensures in
    let kept = some_follow w may (λ h. runs_on w.conns h.conn) c.args.plans.now c.requires.follow in
    let left : c.as_mut_slice.result.now ≡ filter (λ h. runs_on w.conns h.conn) c.args.plans.now = cc (c.as_mut_slice.ensures.value, c.drop_idle.ensures, c.plans.view_is) in
    subst (λ (s : State). AllByRecursion (λ h. Follows w.conf s may h.plan) c.as_mut_slice.result.now) (sym state)
    (subst (λ (hs : List Held). AllByRecursion (λ h. Follows w.conf (now w) may h.plan) hs) (sym left) kept)

pub invariant_of-plans : goal.invariant_of-plans
invariant_of-plans g c =
    let left : c.as_mut_slice.result.now ≡ filter (λ h. runs_on c.args.world.now.conns h.conn) c.args.plans.now = cc (c.as_mut_slice.ensures.value, c.drop_idle.ensures, c.plans.view_is) in
    written_apart c.args.world.now.conns c.args.plans.now c.plans.inside.held.items c.as_mut_slice.result.now c.renew_each.new.held _ c.drop_idle.new.held.len
    (cc (c.plans.view_is)) c.plans.invariant left c.renew_each.ensures.numbers (omega (arith, c.renew_each.auto.held, c.as_mut_slice.ensures.len))

pub returns-in_err-renew_each-clause-most : goal.returns-in_err-renew_each-clause-most
returns-in_err-renew_each-clause-most g c =
    let w : World = c.args.world.now in
    let may = c.args.touched.now in
    let state = c.now-now.ensures c.in_ok-running.ensures c.in_ok-ups.ensures in
    let was : c.plans.inside.held.items ≡ c.args.plans.now = cc (c.plans.view_is) in
    let left : c.as_mut_slice.result.now ≡ filter (λ h. runs_on w.conns h.conn) c.args.plans.now = cc (c.as_mut_slice.ensures.value, c.drop_idle.ensures, c.plans.view_is) in
    let again : all_again w.conf (state_of c.now-now.result) may c.as_mut_slice.result.now ≡ all_again w.conf (now w) may (filter (λ (h : Held). runs_on w.conns h.conn) c.args.plans.now) = λ i. all_again w.conf (state i) may (left i) in
    let within = all_within w.conf (now w) may w.conns c.args.plans.now c.requires.in_order.numbers (subst AreApart was c.plans.invariant) in
    omega (arith, within, again, c.renew_each.ensures.most)

pub open_plans-requires-clause-apart : goal.open_plans-requires-clause-apart
open_plans-requires-clause-apart g c =
    let left : c.as_mut_slice.result.now ≡ filter (λ h. runs_on c.args.world.now.conns h.conn) c.args.plans.now = cc (c.as_mut_slice.ensures.value, c.drop_idle.ensures, c.plans.view_is) in
    written_apart c.args.world.now.conns c.args.plans.now c.plans.inside.held.items c.as_mut_slice.result.now c.renew_each.new.held _ c.drop_idle.new.held.len
    (cc (c.plans.view_is)) c.plans.invariant left c.renew_each.ensures.numbers (omega (arith, c.renew_each.auto.held, c.as_mut_slice.ensures.len))

pub open_plans-requires-clause-run : goal.open_plans-requires-clause-run
open_plans-requires-clause-run g c =
    let w : World = c.args.world.now in
    let dps : c.as_slice.result.now ≡ running w = cc (c.in_ok-running.ensures) in
    subst (λ ids. AllByRecursion (λ (dp : DpId). is_running (running w) dp ≡ true) ids) (sym dps) (all_run (running w) (running w) (λ dp runs. runs))

pub returns-clause-brought : goal.returns-clause-brought
returns-clause-brought g c =
    let w : World = c.args.world.now in
    let state = c.now-now.ensures c.in_ok-running.ensures c.in_ok-ups.ensures in
    let dps : c.as_slice.result.now ≡ running w = cc (c.in_ok-running.ensures) in
    let left : c.as_mut_slice.result.now ≡ filter (λ h. runs_on w.conns h.conn) c.args.plans.now = cc (c.as_mut_slice.ensures.value, c.drop_idle.ensures, c.plans.view_is) in
    let len : c.drop_idle.new.held.len ≡ length c.renew_each.new.held = omega (arith, c.renew_each.auto.held, c.as_mut_slice.ensures.len) in
    let items : take c.drop_idle.new.held.len (c.renew_each.new.held ++ drop (length c.renew_each.new.held) c.drop_idle.new.held.items) ≡ map (renewed w.conf (now w)) (filter (λ (h : Held). runs_on w.conns h.conn) c.args.plans.now) = written c.drop_idle.new.held.len c.renew_each.new.held (drop (length c.renew_each.new.held) c.drop_idle.new.held.items) len ∙ c.in_ok-renew_each.ensures.renewed ∙ (λ i. map (renewed w.conf (state i)) (left i)) in
    on_ok_weaker c.open_plans.result (λ e. e ∙ (λ i. with_plans w.conf (state i) w.conns (dps i) (items i))) c.open_plans.ensures.opened

pub returns-clause-most : goal.returns-clause-most
returns-clause-most g c =
    let w : World = c.args.world.now in
    let may = c.args.touched.now in
    let state = c.now-now.ensures c.in_ok-running.ensures c.in_ok-ups.ensures in
    let was : c.plans.inside.held.items ≡ c.args.plans.now = cc (c.plans.view_is) in
    let left : c.as_mut_slice.result.now ≡ filter (λ h. runs_on w.conns h.conn) c.args.plans.now = cc (c.as_mut_slice.ensures.value, c.drop_idle.ensures, c.plans.view_is) in
    let len : c.drop_idle.new.held.len ≡ length c.renew_each.new.held = omega (arith, c.renew_each.auto.held, c.as_mut_slice.ensures.len) in
    let items : take c.drop_idle.new.held.len (c.renew_each.new.held ++ drop (length c.renew_each.new.held) c.drop_idle.new.held.items) ≡ map (renewed w.conf (now w)) (filter (λ (h : Held). runs_on w.conns h.conn) c.args.plans.now) = written c.drop_idle.new.held.len c.renew_each.new.held (drop (length c.renew_each.new.held) c.drop_idle.new.held.items) len ∙ c.in_ok-renew_each.ensures.renewed ∙ (λ i. map (renewed w.conf (state i)) (left i)) in
    let again : all_again w.conf (state_of c.now-now.result) may c.as_mut_slice.result.now ≡ all_again w.conf (now w) may (filter (λ (h : Held). runs_on w.conns h.conn) c.args.plans.now) = λ i. all_again w.conf (state i) may (left i) in
    let anew : all_anew w.conf (state_of c.now-now.result) w.conns (take c.drop_idle.new.held.len (c.renew_each.new.held ++ drop (length c.renew_each.new.held) c.drop_idle.new.held.items)) ≡ all_anew w.conf (now w) w.conns (map (renewed w.conf (now w)) (filter (λ (h : Held). runs_on w.conns h.conn) c.args.plans.now)) = λ i. all_anew w.conf (state i) w.conns (items i) in
    let within = all_within w.conf (now w) may w.conns c.args.plans.now c.requires.in_order.numbers (subst AreApart was c.plans.invariant) in
    omega (arith, within, again, anew, c.renew_each.ensures.most, c.open_plans.ensures.most)
