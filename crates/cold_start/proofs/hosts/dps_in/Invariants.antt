use Rattle.std.proofs.Common.{◌≡◌, ◌==◌, take, map, filter}
use Rattle.conf_types.specs.Groups.{group_of}
use Rattle.cold_start.proofs.hosts.dps_in.Given as goal

-- those so far that are in the group
abbrev pub invariant-loop-dp : goal.invariant-loop-dp
invariant-loop-dp l = l.ids ≡ map (λ d. d.id) (filter (λ d. (group_of l.conf d.id).0 == l.group.0) (take l.dp-index l.dp-items))
