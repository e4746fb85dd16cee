use Rattle.std.proofs.Common.{◌≡◌, ℕ, is_some, Option, Some, None, sym, subst, ◌∙◌, if◌then◌else◌}
use Rattle.std.proofs.lemmas.Result.{on_ok_weaker}
use Rattle.of13_codec.specs.declared.message.Message.{Message}
use Rattle.switch_session.specs.declared.closing.Closing.TheVariants.{BadFrame}
use Rattle.ctl_world.specs.Ends.{close}
use Rattle.gauge_poll.specs.declared.known.Kept.{Kept}
use Rattle.gauge_poll.specs.declared.telling.Telling.{Telling}
use Rattle.gauge_poll.specs.Monitoring.{hear_frame}
use Rattle.gauge_poll.specs.StandsFor.{KeepsAll}
use Rattle.gauge_poll.specs.Telling.{telling}
use Rattle.gauge_poll.proofs.Monitors.{all_by}
use Rattle.gauge_poll.proofs.Opens.{close_within}
use Rattle.gauge_poll.proofs.hearing.hear_whole.Goals as goal

abbrev given : Message → (xid : ℕ) → Option Telling → Option (Message × ℕ)
given message xid told = if is_some told then Some (message, xid) else None

pub returns-in-Some : goal.returns-in-Some
returns-in-Some c =
    let is : Some c.in-Some.told ≡ telling c.args.message.now = sym c.in-Some.is ∙ c.in_ok-told.ensures in
    on_ok_weaker c.hear_message.result
    (λ hears m all. subst (λ (o : Option Telling). KeepsAll c.hear_message.new.kept (hear_frame (given c.args.message.now c.args.xid o) c.args.conn m)) is (hears m all))
    c.hear_message.ensures

pub returns-in-None : goal.returns-in-None
returns-in-None c =
    let number = c.args.conn in
    let k : Kept = c.args.kept.now in
    let left : Kept = record k { known = record k.known { world = c.close.new.self } } in
    let is : None ≡ telling c.args.message.now = sym c.in-None.is ∙ c.in_ok-told.ensures in
    on_ok_weaker c.close.result
    (λ closes m all. subst (λ (o : Option Telling). KeepsAll left (hear_frame (given c.args.message.now c.args.xid o) number m)) is (all_by (close BadFrame number) (close_within BadFrame number) k m c.close.new.self closes all))
    c.close.ensures
