use Rattle.ctl_world.proofs.Ordered.{placed, unplaced, unplaced_past}
use Rattle.ctl_world.proofs.conns.place.Goals as goal
use Rattle.ctl_world.proofs.conns.place.Goals.{else-at-conns-via-then-at-conns+else-conns-at, else-at-conns-via-else-at-conns}

pub returns-then-conns-at-clause-place : goal.returns-then-conns-at-clause-place
returns-then-conns-at-clause-place c = placed c.args.number c.args.conns.now c.lower_bound-at.result _ c.lower_bound-at.ensures.bound c.if-at-conns.true c.if-conns-at.true

pub returns-else-at-conns-clause-place : goal.returns-else-at-conns-clause-place
returns-else-at-conns-clause-place c =
    elim c.else-at-conns.branch [
      | else-at-conns-via-then-at-conns+else-conns-at w ↦ unplaced c.args.number c.args.conns.now c.requires c.lower_bound-at.result _ c.lower_bound-at.ensures.bound (λ within own. w.if-conns-at.false own)
      | else-at-conns-via-else-at-conns w ↦ unplaced_past c.args.number c.args.conns.now c.requires c.lower_bound-at.result c.lower_bound-at.ensures.bound w.if-at-conns.false
    ]
