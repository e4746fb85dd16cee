use Rattle.std.proofs.Common.{◌-◌, length, take, drop, sym, ap, ◌∙◌}
use Rattle.std.specs.List.{list_any}
use Rattle.ctl_life.specs.Silence.{falls_silent}
use Rattle.ctl_life.proofs.FallsSilent.{look_all}
use Rattle.ctl_life.proofs.silence.+look_each.Goals as goal

pub returns-else-closed-clause-told : goal.returns-else-closed-clause-told
returns-else-closed-clause-told t c =
    look_all c.args.world.now c.args.conns.now c.in-len1-up.len_at_least c.in_ok-others-in-len1-up.others
    (sym c.in_ok-closed-in-len1-up.ensures.told ∙ c.if-closed.false)
    (c.in_ok-others-in-len1-up.ensures.told ∙ ap (λ w. list_any (falls_silent w) (take (length c.args.conns.now - 1) (drop 1 c.args.conns.now))) c.in_ok-closed-in-len1-up.ensures.looked)
