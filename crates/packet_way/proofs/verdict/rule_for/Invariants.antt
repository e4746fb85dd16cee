use Rattle.std.proofs.Common.{◌≡◌, None, [], take, find}
use Rattle.std.specs.List.{flat_map}
use Rattle.std.specs.Option.{option_map_or}
use Rattle.of_match.specs.Hit.{hits}
use Rattle.conf_types.specs.Attached.{acl_named}
use Rattle.packet_way.proofs.verdict.rule_for.Given as goal

-- none of the ACLs so far has a rule that hits
abbrev pub invariant-loop-name : goal.invariant-loop-name
invariant-loop-name l = find (λ rule. hits rule.fields l.port l.packet) (flat_map (λ name. option_map_or (λ acl. acl.rules) (acl_named l.conf.acls name) []) (take l.name-index l.name-items)) ≡ None
