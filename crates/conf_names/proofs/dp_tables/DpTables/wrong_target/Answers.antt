use Rattle.std.proofs.Common.{ap, ◌∙◌}
use Rattle.conf_names.specs.Ends.{end_cause}
use Rattle.conf_names.proofs.FirstEnds.{end-cause}
use Rattle.conf_names.proofs.dp_tables.DpTables.wrong_target.Goals as goal

pub returns : goal.returns
returns c = c.cause_of.ensures ∙ ap end_cause c.is_end.ensures ∙ end-cause c.args.name.now c.args.self.now.dp.now
