use Rattle.std.proofs.Common.{◌∙◌}
use Rattle.std.specs.Cmp.Lexicographic.{texts_ties}
use Rattle.ctl_core.proofs.before.is_same.Goals as goal

pub returns : goal.returns
returns c = c.eq.ensures ∙ texts_ties c.args.a.0 c.args.b.0
