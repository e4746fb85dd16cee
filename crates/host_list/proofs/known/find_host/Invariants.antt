use Rattle.std.proofs.Common.{◌≡◌, drop, find}
use Rattle.host_list.specs.Order.{hosts_of}
use Rattle.host_list.specs.Hosts.{has_key}
use Rattle.host_list.proofs.known.find_host.Given as goal

abbrev pub invariant-loop-entry : goal.invariant-loop-entry
invariant-loop-entry l = find (has_key l.conf l.group l.vid l.mac.0) (hosts_of (drop l.entry-index l.entries)) ≡ find (has_key l.conf l.group l.vid l.mac.0) (hosts_of l.entries)
