use Rattle.std.proofs.Common.{◌≡◌, ℕ, List, [], ◌∷◌, if◌then◌else◌, ap, sym, subst, ◌∙◌, ◌+◌, ◌-◌, arith}
use Rattle.conf_types.specs.declared.change.Change.{Change}
use Rattle.neighbour_resolve.specs.Table.{Table}
use Rattle.ctl_world.specs.World.{World}
use Rattle.ctl_settle.specs.Asked.{asked, lost}
use Rattle.ctl_settle.specs.Settling.{ask_due, say_due, take_due}
use Rattle.ctl_settle.specs.Touched.{Goes, MayDiffer}
use Rattle.law_names.specs.Dues.{due}
use Rattle.law_names.specs.Names.{Names}
use Rattle.ctl_settle.proofs.DueOnce.{due_none, due_some, more_and_more, no_more, none_taken, touched_none, touched_some, with_more}
use Rattle.ctl_settle.proofs.Following.{goes_by, goes_nowhere, goes_on}
use Rattle.ctl_settle.proofs.Lost.{lost_named}
use Rattle.ctl_settle.proofs.asking.ask_due.Goals as goal

pub loop-init : goal.loop-init
loop-init c =
    let e : c.args.most - 0 ≡ c.args.most = omega arith in
    record {
      whole = ap (λ (k : ℕ). ask_due k c.args.world.now) e;
      touched = ap (λ (k : ℕ). with_more (asked k c.args.world.now) c.args.touched.now) e;
      goes = goes_nowhere c.args.world.now c.args.touched.now;
    }

pub returns-in-None-clause-asked : goal.returns-in-None-clause-asked
returns-in-None-clause-asked c =
    ap (λ (table : Table). record c.loop.world { neighbours = table }) c.due.ensures.list
    ∙ sym (due_none c.args.most c.loop.counter c.loop.world c.loop-test.true (sym c.in-None.ensures.said)) ∙ c.loop.invariant.whole

pub returns-in-None-clause-touched : goal.returns-in-None-clause-touched
returns-in-None-clause-touched c =
    sym (no_more c.loop.touched)
    ∙ ap (λ (changes : List Change). with_more changes c.loop.touched) (sym (touched_none c.args.most c.loop.counter c.loop.world c.loop-test.true (sym c.in-None.ensures.said)))
    ∙ c.loop.invariant.touched

pub returns-in-None-clause-goes : goal.returns-in-None-clause-goes
returns-in-None-clause-goes c =
    let w = c.loop.world in
    let same : record w { neighbours = c.due.new.self } ≡ w = ap (λ (table : Table). record w { neighbours = table }) c.due.ensures.list ∙ none_taken w (sym c.in-None.ensures.said) in
    subst (λ (v : World). Goes c.args.world.now v c.args.touched.now c.loop.touched) (sym same) c.loop.invariant.goes

pub returns-clause-touched : goal.returns-clause-touched
returns-clause-touched c =
    let e : c.args.most - c.loop.counter ≡ 0 = omega arith in
    sym (no_more c.loop.touched)
    ∙ sym (ap (λ (k : ℕ). with_more (asked k c.loop.world) c.loop.touched) e)
    ∙ c.loop.invariant.touched

pub loop-preserved : goal.loop-preserved
loop-preserved c =
    let most = c.args.most in
    let i = c.loop.counter in
    let left = most - (i + 1) in
    let w = c.loop.world in
    let d = c.in-Some.due in
    let said = sym c.in-Some.ensures.said in
    let asked_now = c.in_ok-say_due-in-Some.ensures
    ∙ ap (λ (table : Table). say_due d (record w { neighbours = table })) c.due.ensures.list in
    let names : Names w c.say_due.new.world (lost w d) =
    subst (λ (v : World). Names w v (lost w d)) (sym asked_now) (lost_named d w said c.loses-lost.ensures.keys) in
    let pushed : c.touch.new.touched ≡ with_more (lost w d) c.loop.touched =
    c.in_ok-touch-in-Some.ensures ∙ ap (λ b. with_more (if b then due d ∷ [] else []) c.loop.touched) c.loses-lost.ensures.lost in
    let more : MayDiffer = with_more (lost w d) c.loop.touched in
    record {
      whole = ap (ask_due left) asked_now ∙ sym (due_some most i w c.loop-test.true d said) ∙ c.loop.invariant.whole;
      touched = ap (λ (v : World). with_more (asked left v) c.touch.new.touched) asked_now
          ∙ ap (with_more (asked left (say_due d (take_due w)))) pushed
          ∙ more_and_more (lost w d) (asked left (say_due d (take_due w))) c.loop.touched
          ∙ ap (λ (changes : List Change). with_more changes c.loop.touched) (sym (touched_some most i w c.loop-test.true d said))
          ∙ c.loop.invariant.touched;
      goes = subst (Goes c.args.world.now c.say_due.new.world c.args.touched.now) (sym pushed)
          (goes_on c.args.world.now w c.say_due.new.world c.args.touched.now c.loop.touched more c.loop.invariant.goes
          (goes_by w c.say_due.new.world (lost w d) names c.loop.touched));
    }
