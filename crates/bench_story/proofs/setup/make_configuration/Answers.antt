use Rattle.std.proofs.Common.{◌∙◌}
use Rattle.bench_story.proofs.Lists.{one_item}
use Rattle.bench_story.proofs.Valid.{lists_are, lists_valid}
use Rattle.bench_story.proofs.setup.make_configuration.Goals as goal

pub new-requires-3 : goal.new-requires-3
new-requires-3 c =
    lists_valid _ _ _ _ (one_item _ _ _ _ c.new-dps.ensures c.in_ok-make_datapath.ensures c.in_ok-push.ensures.ok) (one_item _ _ _ _ c.new-vlans.ensures c.in_ok-make_vlan.ensures c.in_ok-push-2.ensures.ok)
    c.new.ensures c.new-2.ensures

pub returns : goal.returns
returns c =
    c.new-3.ensures ∙ lists_are _ _ _ _ (one_item _ _ _ _ c.new-dps.ensures c.in_ok-make_datapath.ensures c.in_ok-push.ensures.ok) (one_item _ _ _ _ c.new-vlans.ensures c.in_ok-make_vlan.ensures c.in_ok-push-2.ensures.ok)
    c.new.ensures c.new-2.ensures
