use Rattle.std.proofs.Common.{◌≡◌, ◌-◌, length, take}
use Rattle.conf_types.specs.Attached.{rules_of}
use Rattle.acl_compile.specs.Slices.{entries_from}
use Rattle.acl_compile.proofs.slices.make_acl_entries.Given as goal

-- those of the ACLs so far
abbrev pub invariant-loop-name : goal.invariant-loop-name
invariant-loop-name l = record {
  entries : l.made ≡ entries_from l.place l.dp 10000 (rules_of l.conf (take l.name-index l.name-items));
  priority : l.priority ≡ 10000 - length (rules_of l.conf (take l.name-index l.name-items));
}
