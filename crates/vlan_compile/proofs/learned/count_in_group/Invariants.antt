use Rattle.std.proofs.Common.{◌≡◌, take, vec_len}
use Rattle.vlan_compile.specs.Counts.{AreAnswered, AreCounts}
use Rattle.vlan_compile.proofs.learned.count_in_group.Given as goal

-- the counts are those of the hosts so far
abbrev pub invariant-loop-host : goal.invariant-loop-host
invariant-loop-host l = record {
  len : vec_len l.counts ≡ 4096;
  answered : AreAnswered l.conf l.group l.asked;
  counts : AreCounts l.conf l.group (take l.host-index l.hosts) l.counts.items;
}
