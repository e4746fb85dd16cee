use Rattle.std.proofs.Common.{◌≡◌, ◌++◌, []}
use Rattle.std.specs.Prelude.{fold}
use Rattle.std.specs.List.{filter_map}
use Rattle.acl_compile.specs.Targets.{target, with_one, once}
use Rattle.acl_compile.proofs.Once.{once_of_two}
use Rattle.acl_compile.proofs.targets.make_targets.Goals as goal

-- those of the mirrors, and then those of the outputs
pub returns : goal.returns
returns c =
    let mirrors = c.in_ok-push_targets.ensures in
    let outputs = c.in_ok-push_targets-2.ensures in
    let all = once_of_two (target c.args.place.now c.args.dp.now) c.args.rule.now.mirror c.args.rule.now.output in
    cc (mirrors, outputs, all)
