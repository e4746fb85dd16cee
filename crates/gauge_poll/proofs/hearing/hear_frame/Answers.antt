use Rattle.std.proofs.Common.{◌≡◌, ℕ, Some, None, Option, option_and_then, sym, subst, ◌∙◌}
use Rattle.std.proofs.lemmas.Result.{on_ok_weaker}
use Rattle.of13_codec.specs.declared.message.Message.{Message}
use Rattle.switch_session.specs.declared.closing.Closing.TheVariants.{BadFrame}
use Rattle.ctl_world.specs.Ends.{close}
use Rattle.ctl_life.specs.Life.{says}
use Rattle.gauge_poll.specs.declared.known.Kept.{Kept}
use Rattle.gauge_poll.specs.Monitoring.{hear_frame}
use Rattle.gauge_poll.specs.StandsFor.{KeepsAll}
use Rattle.gauge_poll.specs.Telling.{understood}
use Rattle.gauge_poll.proofs.Monitors.{all_by}
use Rattle.gauge_poll.proofs.Opens.{close_within}
use Rattle.gauge_poll.proofs.hearing.hear_frame.Goals as goal

pub returns-in-Some : goal.returns-in-Some
returns-in-Some c =
    let is : Some (c.in-Some.message, c.in-Some.xid) ≡ says c.args.frame.now = sym c.in-Some.is ∙ c.in_ok-message.ensures in
    on_ok_weaker c.hear_whole.result
    (λ hears m all. subst (λ (o : Option (Message × ℕ)). KeepsAll c.hear_whole.new.kept (hear_frame (option_and_then understood o) c.args.conn m)) is (hears m all))
    c.hear_whole.ensures

pub returns-in-None : goal.returns-in-None
returns-in-None c =
    let number = c.args.conn in
    let k : Kept = c.args.kept.now in
    let left : Kept = record k { known = record k.known { world = c.close.new.self } } in
    let none : None ≡ says c.args.frame.now = sym c.in-None.is ∙ c.in_ok-message.ensures in
    on_ok_weaker c.close.result
    (λ is m all. subst (λ (o : Option (Message × ℕ)). KeepsAll left (hear_frame (option_and_then understood o) number m)) none (all_by (close BadFrame number) (close_within BadFrame number) k m c.close.new.self is all))
    c.close.ensures
