use Rattle.std.proofs.Common.{◌≡◌, take, fold}
use Rattle.std.specs.List.{filter_map}
use Rattle.acl_compile.specs.Targets.{target, with_one}
use Rattle.acl_compile.proofs.targets.push_targets.Given as goal

-- those of the names so far
abbrev pub invariant-loop-name : goal.invariant-loop-name
invariant-loop-name l = l.targets ≡ fold with_one l.fn.targets (filter_map (target l.place l.dp) (take l.name-index l.names))
