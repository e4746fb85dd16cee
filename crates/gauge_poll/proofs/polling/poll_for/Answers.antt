use Rattle.std.proofs.Common.{Bool, sym, subst, ◌∙◌, if◌then◌else◌}
use Rattle.std.proofs.lemmas.Result.{on_ok_weaker}
use Rattle.gauge_poll.specs.Polls.{poll_dps}
use Rattle.gauge_poll.specs.StandsFor.{Keeps}
use Rattle.gauge_poll.proofs.polling.poll_for.Goals as goal

pub returns-then-is_polling : goal.returns-then-is_polling
returns-then-is_polling c =
    let w = c.args.watcher.now in
    on_ok_weaker c.poll_dps.result
    (λ does s keeps. subst (λ (b : Bool). Keeps c.poll_dps.new.known (if b then poll_dps w c.args.place w.dps s else s)) (sym c.if-is_polling.true ∙ c.is_polling.ensures) (does s keeps))
    c.poll_dps.ensures

pub returns : goal.returns
returns c = λ s keeps.
    let w = c.args.watcher.now in
    subst (λ (b : Bool). Keeps c.args.known.now (if b then poll_dps w c.args.place w.dps s else s)) (sym c.if-is_polling.false ∙ c.is_polling.ensures) keeps
