use Rattle.std.proofs.Common.{ap, ltb, ◌∙◌}
use Rattle.conf_types.specs.declared.datapath.Port.{Port}
use Rattle.conf_types.specs.Membership.{is_mirror_of}
use Rattle.conf_limits.proofs.Mirrors.{some-counted}
use Rattle.conf_limits.proofs.mirrored.Mirrored.is_mirrored.Goals as goal

pub returns : goal.returns
returns c = ap (ltb 0) c.mirrors.ensures ∙ some-counted (λ (m : Port). is_mirror_of m c.args.no) c.args.self.now.dp.now.ports
