use Rattle.std.proofs.Common.{ap, ◌∙◌}
use Rattle.std.proofs.lemmas.Result.{on_ok_weaker}
use Rattle.of13_codec.specs.declared.message.Message.TheVariants.{PortDescRequest}
use Rattle.ctl_world.specs.Saying.{ask}
use Rattle.ctl_life.specs.Life.{take_dp}
use Rattle.ctl_core.proofs.setup.introduce.Goals as goal

pub returns-in_ok-take_dp-in-None : goal.returns-in_ok-take_dp-in-None
returns-in_ok-take_dp-in-None c = rw c.in-None.is (on_ok_weaker c.ask.result (λ is. is ∙ ap (ask c.args.conn PortDescRequest) (c.in_ok-take_dp-in-None.ensures ∙ ap (take_dp c.args.conn c.args.dp) c.in_ok-replace-in-None.ensures)) c.ask.ensures)
