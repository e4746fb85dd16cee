use Rattle.std.proofs.Common.{refl, sym, ap, ◌∙◌, arith}
use Rattle.ctl_settle.specs.Asked.{with_asked}
use Rattle.ctl_settle.specs.Counted.{counted}
use Rattle.ctl_settle.specs.Settling.{ask_all}
use Rattle.ctl_core.proofs.Rests.{left_out}
use Rattle.ctl_core.proofs.Telling.{nothing_follows}
use Rattle.ctl_core.proofs.known.settle_where_due.Goals as goal

pub returns : goal.returns
returns g c =
    let k = c.args.known.now in
    let none = sym c.is_touched.ensures ∙ c.if-is_touched.false in
    let rests = c.requires.rests none c.if-known.false in
    record {
      settled = left_out c.what_rests_settles_as_it_is.ensures k.until k.world rests c.if-known.false;
      rests = record { sound = c.requires.sound; in_order = c.requires.in_order; held = c.requires.held none; follow = nothing_follows k.world c.args.found none k.plans c.requires.follow; states = c.requires.states none; rests = rests; until = c.requires.until none c.if-known.false };
      left_out = λ _ _. refl;
      kept = λ _ _. refl;
      most = omega arith;
    }

pub returns-then-is_touched-clause-most : goal.returns-then-is_touched-clause-most
returns-then-is_touched-clause-most g c =
    let k = c.args.known.now in
    let e = ap (λ may. counted (ask_all k.world) (with_asked k.world may) k.plans) c.in_ok-touched.ensures in
    omega (arith, e, c.settle_anew.ensures.most)
