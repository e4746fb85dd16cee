use Rattle.std.proofs.Common.{◌≡◌, take, map}
use Rattle.conf_json.specs.Json.{quoted}
use Rattle.conf_json.proofs.lists.make_names.Given as goal

-- the texts so far are those of the items so far
abbrev pub invariant-loop-name : goal.invariant-loop-name
invariant-loop-name l = l.made ≡ map quoted (take l.name-index l.names)
