use Rattle.command_line.proofs.Numerals.{numeral_by}
use Rattle.command_line.proofs.values.is_numeral.Goals as goal

pub returns-then-first-ne48 : goal.returns-then-first-ne48
returns-then-first-ne48 c =
    numeral_by c.args.text.now c.as_bytes-digits.result.now c.are_digits.result c.as_bytes-digits.ensures.value c.in-len1-up.len_at_least c.if-first-ne48.true c.are_digits.ensures
