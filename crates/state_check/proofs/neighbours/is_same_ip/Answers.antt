use Rattle.std.proofs.Common.{◌∙◌, sym}
use Rattle.conf_types.proofs.Families.{same_ip, is_that_ip}
use Rattle.state_check.proofs.neighbours.is_same_ip.Goals as goal

pub returns : goal.returns
returns c = (λ is. same_ip c.args.a c.args.b (sym c.is_same.ensures ∙ is), λ same. c.is_same.ensures ∙ is_that_ip c.args.a c.args.b same)
