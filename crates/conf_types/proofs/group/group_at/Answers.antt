use Rattle.std.proofs.Common.{◌∙◌, true, false, replicate, ap}
use Rattle.conf_types.specs.declared.datapath.Dp.{Dp}
use Rattle.conf_types.specs.Groups.{of_dps}
use Rattle.conf_types.proofs.Marks.{any_default, all_replicate, front_is, least_is_group}
use Rattle.conf_types.proofs.group.group_at.Goals as goal

pub mark_joined-requires-clause-none_seen : goal.mark_joined-requires-clause-none_seen
mark_joined-requires-clause-none_seen c = λ k lt. front_is false (replicate 64 false) (all_replicate false 64) _ k false lt

pub mark_joined-requires-clause-none_done : goal.mark_joined-requires-clause-none_done
mark_joined-requires-clause-none_done c = λ k lt. front_is false (replicate 64 false) (all_replicate false 64) _ k true lt

-- the least of the marked ones has the number of the group
pub returns : goal.returns
returns c = λ d.
    let dps = c.args.dps.now in
    let best = c.least_place.result in
    let within = c.least_place.ensures.range in
    ap (λ (x : Dp). x.id) (any_default dps best c.index-dps-least_place.result d within)
    ∙ least_is_group (of_dps dps) c.requires.distinct c.args.at c.mark_joined.new.seen d c.requires.place c.mark_joined.ensures best within c.least_place.ensures.marked c.least_place.ensures.least
