use Rattle.std.proofs.Common.{sym, subst}
use Rattle.of13_codec.specs.declared.message.Message.TheVariants as messages
use Rattle.ctl_core.proofs.Telling.{IsQuiet, said_quiet}
use Rattle.ctl_core.proofs.hearing.follow.Goals as goal

pub returns-in-AskFeatures-clause-tells : goal.returns-in-AskFeatures-clause-tells
returns-in-AskFeatures-clause-tells c =
    subst (IsQuiet c.args.world.now) (sym c.in_ok-say-in-AskFeatures.ensures) (said_quiet c.args.conn messages.FeaturesRequest c.args.world.now)
