use Rattle.std.proofs.Common.{arith}
use Rattle.std.proofs.lemmas.Str.Pattern.{strip_prefix_char}
use Rattle.command_line.proofs.Words.{lent_behind}
use Rattle.command_line.proofs.parts.behind_dash.Goals as goal

pub returns : goal.returns
returns c = lent_behind c.args.text.now _ (strip_prefix_char 45 c.args.text.now _ c.strip_prefix.ensures.cases (omega arith))
