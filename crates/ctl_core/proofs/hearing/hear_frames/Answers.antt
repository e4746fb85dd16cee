use Rattle.std.proofs.Common.{◌≡◌, true, refl, sym, ap, ◌∙◌, ◌+◌, ◌-◌, arith}
use Rattle.ctl_world.specs.World.{World}
use Rattle.ctl_life.specs.Life.{has_frame}
use Rattle.ctl_core.specs.Allowed.{frames_allow}
use Rattle.ctl_core.proofs.AllowedOn.{allow_begun, allow_next, allow_on}
use Rattle.ctl_core.specs.Changes.{any_changes}
use Rattle.ctl_core.specs.Hearing.{hear_frames}
use Rattle.ctl_core.proofs.HeardOn.{all_none, begun, ended, heard_last, heard_on, next_none, rest_none}
use Rattle.ctl_core.proofs.hearing.hear_frames.Goals as goal

pub loop-init : goal.loop-init
loop-init g c =
    let e = allow_begun c.args.most c.args.conn c.args.known.now.world in
    (begun c.args.most 0 c.args.conn c.args.known.now.world, c.requires, λ none early. (all_none c.args.most 0 c.args.conn c.args.known.now.world none, early, refl), omega (arith, e))

pub hear_front-requires : goal.hear_front-requires
hear_front-requires g c = c.loop.invariant.1

pub returns-then-not-branch-clause-heard : goal.returns-then-not-branch-clause-heard
returns-then-not-branch-clause-heard g c =
    c.in_ok-hear_front.ensures.heard
    ∙ sym (heard_last c.args.most c.loop.counter c.args.conn c.loop.known.world c.loop-test.true (sym c.in_ok-hear_front.ensures.more ∙ c.if-not-branch.true))
    ∙ c.loop.invariant.0

pub loop-preserved : goal.loop-preserved
loop-preserved g c = (
  ap (hear_frames (c.args.most - (c.loop.counter + 1)) c.args.conn) c.in_ok-hear_front.ensures.heard
      ∙ sym (heard_on c.args.most c.loop.counter c.args.conn c.loop.known.world c.loop-test.true (sym c.in_ok-hear_front.ensures.more ∙ c.if-not-branch.false))
      ∙ c.loop.invariant.0,
  c.in_ok-hear_front.ensures.settled,
  λ none early.
      let before = c.loop.invariant.2 none early in
      let next = next_none c.args.most c.loop.counter c.args.conn c.loop.known.world c.loop-test.true before.0 in (
        ap (any_changes (c.args.most - (c.loop.counter + 1)) c.args.conn) c.in_ok-hear_front.ensures.heard
            ∙ rest_none c.args.most c.loop.counter c.args.conn c.loop.known.world c.loop-test.true before.0 (sym c.in_ok-hear_front.ensures.more ∙ c.if-not-branch.false),
        c.in_ok-hear_front.ensures.early next before.1,
        c.in_ok-hear_front.ensures.left_out next before.1 ∙ before.2,
      ),
  (let w : World = c.loop.known.world in
      let more : has_frame c.args.conn w ≡ true = sym c.in_ok-hear_front.ensures.more ∙ c.if-not-branch.false in
      let e = allow_on c.args.most c.loop.counter c.args.conn w c.loop-test.true more in
      let same = ap (frames_allow (c.args.most - (c.loop.counter + 1)) c.args.conn) c.in_ok-hear_front.ensures.heard in
      omega (arith, e, same, c.hear_front.ensures.most, c.loop.invariant.3)),
)

pub returns-clause-heard : goal.returns-clause-heard
returns-clause-heard g c = sym (ended c.args.most c.loop.counter c.args.conn c.loop.known.world c.loop-test.false) ∙ c.loop.invariant.0

pub returns-clause-settled : goal.returns-clause-settled
returns-clause-settled g c = c.loop.invariant.1

pub returns-clause-left_out : goal.returns-clause-left_out
returns-clause-left_out g c = λ none early. (c.loop.invariant.2 none early).2

pub returns-then-not-branch-clause-left_out : goal.returns-then-not-branch-clause-left_out
returns-then-not-branch-clause-left_out g c = λ none early.
    let before = c.loop.invariant.2 none early in
    let next = next_none c.args.most c.loop.counter c.args.conn c.loop.known.world c.loop-test.true before.0 in
    c.in_ok-hear_front.ensures.left_out next before.1 ∙ before.2

pub returns-in_err-hear_front-clause-left_out : goal.returns-in_err-hear_front-clause-left_out
returns-in_err-hear_front-clause-left_out g c = λ none early.
    let before = c.loop.invariant.2 none early in
    let next = next_none c.args.most c.loop.counter c.args.conn c.loop.known.world c.loop-test.true before.0 in
    c.in_err-hear_front.ensures.left_out next before.1 ∙ before.2

pub returns-then-not-branch-clause-most : goal.returns-then-not-branch-clause-most
returns-then-not-branch-clause-most g c =
    let e = allow_next c.args.most c.loop.counter c.args.conn c.loop.known.world c.loop-test.true in
    omega (arith, e, c.hear_front.ensures.most, c.loop.invariant.3)

pub returns-in_err-hear_front-clause-most : goal.returns-in_err-hear_front-clause-most
returns-in_err-hear_front-clause-most g c =
    let e = allow_next c.args.most c.loop.counter c.args.conn c.loop.known.world c.loop-test.true in
    omega (arith, e, c.hear_front.ensures.most, c.loop.invariant.3)

pub returns-clause-most : goal.returns-clause-most
returns-clause-most g c = let so_far = c.loop.invariant.3 in omega (arith, so_far)
