-- ACLs by their places in a list, and places by names.
use Rattle.std.specs.Prelude.{◌≡◌, ℕ, List, Option, option_and_then}
use Rattle.std.specs.BTreeMap.{BTreeMap, get_by_text}
use Rattle.std.specs.List.{slice_get}
use Rattle.std.specs.declared.string.String.{String}
use Rattle.std.specs.declared.alloc.Global.{Global}
use Rattle.conf_types.specs.declared.acl.Acl.{Acl}
use Rattle.conf_types.specs.Attached.{acl_named}

-- the ACL at the place that a name leads to
abbrev pub acl_at : List Acl → BTreeMap (String Global) ℕ → List ℕ → Option Acl
acl_at acls places name = option_and_then (slice_get acls) (get_by_text places name)

-- each name leads to the first ACL that has it
abbrev pub LeadToFirst : List Acl → BTreeMap (String Global) ℕ → Type 0
LeadToFirst acls places = (name : List ℕ) → acl_at acls places name ≡ acl_named acls name
