use Rattle.std.proofs.Common.{◌∙◌, ap}
use Rattle.conf_shape.specs.Addresses.{net_in}
use Rattle.conf_shape.specs.Values.{net_or_zero}
use Rattle.conf_shape.proofs.Made.{made4}
use Rattle.conf_shape.proofs.values.net_of.Goals as goal

pub returns-in-None : goal.returns-in-None
returns-in-None c = made4 _ ∙ ap net_or_zero (c.in-None.ensures ∙ ap (λ width. net_in width c.args.text.now) c.width_written.ensures)
