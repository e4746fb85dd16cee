use Rattle.std.proofs.Common.{◌∙◌, arith}
use Rattle.std.proofs.lemmas.Option.{MatchOption-at_none}
use Rattle.std.proofs.lemmas.Str.Pattern.{split_once_first}
use Rattle.command_line.proofs.Words.{name_alone, behind_two}
use Rattle.command_line.proofs.parts.option_in.Goals as goal

pub returns-in-None-2 : goal.returns-in-None-2
returns-in-None-2 c =
    let lacks = MatchOption-at_none _ _ c.in-None.is (split_once_first 61 c.in_ok-text.text.now _ c.split_once.ensures.cases (omega arith)) in
    behind_two c.args.word.now _ _ c.in_ok-behind_dash.ensures c.in_ok-text.ensures ∙ name_alone c.in_ok-text.text.now lacks c.if-is_empty.ensures
