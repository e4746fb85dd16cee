use Rattle.std.proofs.Common.{◌∙◌, ap}
use Rattle.std.specs.Option.{option_map_or}
use Rattle.acl_compile.specs.Targets.{target, with_one}
use Rattle.acl_compile.proofs.Once.{added_more}
use Rattle.acl_compile.proofs.targets.push_targets.Goals as goal

-- the port that the name gives, if it gives one
pub loop-name-preserved : goal.loop-name-preserved
loop-name-preserved c =
    c.in_ok-push_found.ensures
    ∙ ap (λ o. option_map_or (with_one c.loop-name.targets) o c.loop-name.targets) c.find_target.ensures
    ∙ added_more (target c.args.place.now c.args.dp.now) c.args.names.now c.loop-name.name-index c.name-item.result c.loop-name-test.true c.name-item.is c.args.targets.now c.loop-name.targets c.loop-name.invariant
