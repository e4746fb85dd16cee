use Rattle.std.proofs.Common.{sym, ap, ◌∙◌}
use Rattle.ctl_core.specs.Told.{exactly_by}
use Rattle.ctl_core.proofs.compared.exactly.Goals as goal

pub returns-in-One : goal.returns-in-One
returns-in-One c = c.by_address.ensures c.args.place ∙ ap (exactly_by c.args.place c.args.address c.args.world.now) (sym c.in-One.is)
