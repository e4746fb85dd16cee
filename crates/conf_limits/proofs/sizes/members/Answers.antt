use Rattle.std.proofs.Common.{ap, ◌∙◌}
use Rattle.conf_types.specs.Valid.{members_at}
use Rattle.conf_limits.specs.Sizes.{capped, members_among}
use Rattle.conf_limits.proofs.Capped.{capped-sum}
use Rattle.conf_limits.proofs.sizes.members.Goals as goal

pub returns : goal.returns
returns c =
    c.add_members.ensures
    ∙ ap (λ vlans. capped c.args.cap (members_among vlans) c.args.dp.now.ports) (c.of-counted.ensures ∙ c.as_slice.ensures ∙ c.vlans.ensures)
    ∙ capped-sum c.args.cap (members_at c.args.conf.now) c.args.dp.now.ports
