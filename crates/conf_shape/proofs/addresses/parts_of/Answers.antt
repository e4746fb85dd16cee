use Rattle.std.proofs.Common.{arith}
use Rattle.std.proofs.lemmas.Str.Pattern.{split_parts}
use Rattle.conf_shape.proofs.Parsed.{cuts}
use Rattle.conf_shape.proofs.addresses.parts_of.Goals as goal

pub returns : goal.returns
returns c = cuts 47 c.args.text.now _ (split_parts 47 c.args.text.now _ c.split_once.ensures.cases (omega arith))
