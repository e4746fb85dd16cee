use Rattle.std.proofs.Common.{◌≡◌, ◌==◌, ◌++◌, filter}
use Rattle.std.specs.List.{list_any}
use Rattle.cold_start.proofs.hosts.hosts_on.Given as goal

-- those so far that stand on one of the datapaths, and then those that are left
abbrev pub invariant-loop-host : goal.invariant-loop-host
invariant-loop-host l =
    l.made ++ filter (λ h. list_any (λ id. id.0 == h.dp.0) l.ids) l.host-iterator ≡ filter (λ h. list_any (λ id. id.0 == h.dp.0) l.ids) l.hosts
