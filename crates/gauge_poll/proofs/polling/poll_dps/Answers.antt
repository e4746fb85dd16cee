use Rattle.std.proofs.Common.{◌≡◌, ◌+◌, ◌∷◌, ap, subst, sym, drop, get_or, List, ◌∙◌}
use Rattle.std.proofs.lemmas.List.{drop_all}
use Rattle.net_base.specs.declared.numbers.DpId.{DpId}
use Rattle.gauge_poll.specs.Polls.{poll_dp, poll_dps}
use Rattle.gauge_poll.specs.StandsFor.{Keeps}
use Rattle.gauge_poll.proofs.Keeping.{arrived, item_at, onward, set_out}
use Rattle.gauge_poll.proofs.polling.poll_dps.Goals as goal

pub loop-dp-init : goal.loop-dp-init
loop-dp-init c = λ s keeps. set_out Keeps c.args.known.now s (poll_dps c.args.watcher.now c.args.place c.args.watcher.now.dps) keeps

pub loop-dp-preserved : goal.loop-dp-preserved
loop-dp-preserved c = λ s keeps.
    let w = c.args.watcher.now in
    let i = c.loop-dp.dp-index in
    let xs = c.as_slice-dp-items.result.now in
    let none : DpId = record { 0 = 0 } in
    let dp = get_or xs i none in
    let left : drop i w.dps ≡ dp ∷ drop (i + 1) w.dps = subst (λ (ds : List DpId). drop i ds ≡ dp ∷ drop (i + 1) ds) c.as_slice-dp-items.ensures (item_at xs i none c.loop-dp-test.true) in
    onward Keeps c.loop-dp.known c.poll_dp.new.known (poll_dps w c.args.place (drop i w.dps)) (poll_dps w c.args.place (drop (i + 1) w.dps)) (poll_dp w c.args.place dp) (poll_dps w c.args.place w.dps s)
    (λ t kept. ap (λ ds. poll_dps w c.args.place ds t) left) c.in_ok-poll_dp.ensures (c.loop-dp.invariant s keeps)

pub returns : goal.returns
returns c = λ s keeps.
    let w = c.args.watcher.now in
    let i = c.loop-dp.dp-index in
    let none : drop i w.dps ≡ drop i c.as_slice-dp-items.result.now = ap (λ (ds : List DpId). drop i ds) (sym c.as_slice-dp-items.ensures) in
    arrived Keeps c.loop-dp.known (poll_dps w c.args.place (drop i w.dps)) (poll_dps w c.args.place w.dps s)
    (λ t kept. ap (λ ds. poll_dps w c.args.place ds t) (none ∙ drop_all i c.as_slice-dp-items.result.now c.loop-dp-test.false)) (c.loop-dp.invariant s keeps)
