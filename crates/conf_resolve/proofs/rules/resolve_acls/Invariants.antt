use Rattle.std.proofs.Common.{◌≡◌, ◌++◌, map, drop}
use Rattle.conf_resolve.specs.Resolved.{acl_of}
use Rattle.conf_resolve.proofs.rules.resolve_acls.Given as goal

-- what is left completes the list
abbrev pub invariant-loop-acl : goal.invariant-loop-acl
invariant-loop-acl l = l.made ++ map acl_of (drop l.acl-index l.acls) ≡ map acl_of l.acls
