use Rattle.std.proofs.Common.{sym, ap, ◌∙◌}
use Rattle.ctl_world.specs.declared.frames.Front.TheVariants.{Frame}
use Rattle.ctl_world.proofs.Fronts.{is_behind, is_front}
use Rattle.ctl_world.proofs.frames.take_front.Goals as goal

pub returns-in_ok-from_slice-in-Frame-clause-front : goal.returns-in_ok-from_slice-in-Frame-clause-front
returns-in_ok-from_slice-in-Frame-clause-front c =
    let cut = rw c.in-Frame.is at c.next.follows.holds-at-none in
    ap Frame c.in_ok-from_slice-in-Frame.ensures ∙ sym (is_front _ _ _ cut.1.0 cut.1.1)

pub returns-in_ok-from_slice-in-Frame-clause-rest : goal.returns-in_ok-from_slice-in-Frame-clause-rest
returns-in_ok-from_slice-in-Frame-clause-rest c =
    let cut = rw c.in-Frame.is at c.next.follows.holds-at-none in
    cut.0 ∙ ap (λ unread. record c.args.session.now { unread = unread }) (sym (is_behind _ _ _ cut.1.0 cut.1.1))
