use Rattle.std.proofs.Common.{refl, arith}
use Rattle.std.proofs.lemmas.Option.{MatchOption-at_none}
use Rattle.std.proofs.lemmas.Str.Pattern.{split_once_first}
use Rattle.command_line.specs.Values.{is_colon}
use Rattle.command_line.proofs.Numerals.{no_mark}
use Rattle.command_line.proofs.values.listen_of.Goals as goal

pub returns-in-None : goal.returns-in-None
returns-in-None c =
    let lacks = MatchOption-at_none _ _ c.in-None.is (split_once_first 58 c.args.text.now _ c.split_once.ensures.cases (omega arith)) in
    rw (no_mark is_colon c.args.text.now lacks) refl
