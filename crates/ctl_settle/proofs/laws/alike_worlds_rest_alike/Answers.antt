use Rattle.ctl_settle.proofs.Settled.{over_alike, rest_alike, until_alike}
use Rattle.ctl_settle.proofs.laws.alike_worlds_rest_alike.Goals as goal

pub returns : goal.returns
returns c = record { rest = rest_alike; until = until_alike; none_over = over_alike }
