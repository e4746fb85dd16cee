use Rattle.std.proofs.Common.{◌≡◌, [], take, fold, map}
use Rattle.conf_json.specs.Json.{with_member}
use Rattle.conf_json.specs.Text.{dp_member}
use Rattle.conf_json.proofs.datapath.make_dps.Given as goal

-- the members so far are those of the items so far
abbrev pub invariant-loop-dp : goal.invariant-loop-dp
invariant-loop-dp l = l.made ≡ fold with_member [] (map (dp_member l.conf) (take l.dp-index l.dps))
