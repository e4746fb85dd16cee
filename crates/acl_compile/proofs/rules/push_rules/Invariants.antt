use Rattle.std.proofs.Common.{◌≡◌, ◌-◌, ◌++◌, take}
use Rattle.acl_compile.specs.Slices.{entries_from}
use Rattle.acl_compile.proofs.rules.push_rules.Given as goal

-- those of the rules so far, each with a priority below that of the one before
abbrev pub invariant-loop-rule : goal.invariant-loop-rule
invariant-loop-rule l = record {
  entries : l.out ≡ l.fn.out ++ entries_from l.place l.dp l.first (take l.rule-index l.rules);
  priority : l.priority ≡ l.first - l.rule-index;
}
