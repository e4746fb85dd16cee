use Rattle.conf_types.proofs.Alone.{group_alone}
use Rattle.conf_types.proofs.conf.Conf.group_number.Goals as goal

pub returns-in-None : goal.returns-in-None
returns-in-None c = group_alone c.args.self.now c.args.dp c.in-None.ensures.none
