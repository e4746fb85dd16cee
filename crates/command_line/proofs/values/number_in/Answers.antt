use Rattle.std.proofs.Common.{◌≡◌, true, arith}
use Rattle.std.proofs.lemmas.Grind.{common_steps}
use Rattle.command_line.specs.Values.{is_numeral}
use Rattle.command_line.proofs.Numerals.{too_great}
use Rattle.command_line.proofs.values.number_in.Goals as goal

pub returns-in-Err : goal.returns-in-Err
returns-in-Err c =
    let is : is_numeral c.args.text.now ≡ true = grind (arith, common_steps) in
    too_great c.args.text.now c.args.least c.args.most c.in-Err.ensures.value.0 is (omega arith)
