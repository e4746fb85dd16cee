use Rattle.std.proofs.Common.{◌≡◌, ℕ, List, drop}
use Rattle.conf_types.specs.Attached.{acl_named}
use Rattle.conf_rules.specs.AclPlaces.{acl_at}
use Rattle.conf_rules.proofs.acl_names.places_of.Given as goal

-- those from here on are there
abbrev pub invariant-loop-i : goal.invariant-loop-i
invariant-loop-i l = (t : List ℕ) → acl_at l.acls l.places t ≡ acl_named (drop l.i l.acls) t
