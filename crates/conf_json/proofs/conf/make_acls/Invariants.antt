use Rattle.std.proofs.Common.{◌≡◌, [], take, fold, map}
use Rattle.conf_json.specs.Json.{with_member}
use Rattle.conf_json.specs.Text.{acl_member}
use Rattle.conf_json.proofs.conf.make_acls.Given as goal

-- the members so far are those of the items so far
abbrev pub invariant-loop-acl : goal.invariant-loop-acl
invariant-loop-acl l = l.made ≡ fold with_member [] (map acl_member (take l.acl-index l.acls))
