use Rattle.std.proofs.Common.{◌≤◌, count_by, sym, true≢false, ◌∙◌}
use Rattle.std.specs.List.{AllByRecursion}
use Rattle.conf_types.specs.Groups.{group_of}
use Rattle.conf_types.specs.State.{is_host_in}
use Rattle.state_check.proofs.Before.{all_by, all_first}
use Rattle.state_check.proofs.hosts.+fit_all_vlans.Goals as goal

pub returns-then-fit_vlans : goal.returns-then-fit_vlans
returns-then-fit_vlans t c = (
  λ more. all_by (λ d. AllByRecursion (λ v. count_by (is_host_in c.args.conf.now (group_of c.args.conf.now d.id) v.vid) c.args.hosts.now ≤ v.max_hosts) c.args.conf.now.vlans) c.args.dps.now c.dp-item.result c.in-len1-up.len_at_least c.dp-item.is ((rw (c.as_slice.ensures, c.vlans.ensures.lists, c.group_number-group.ensures) at c.fit_vlans.ensures).0 c.if-fit_vlans.true) (c.fit_all_vlans.ensures.0 more),
  λ all. c.fit_all_vlans.ensures.1 (all_first (λ d. AllByRecursion (λ v. count_by (is_host_in c.args.conf.now (group_of c.args.conf.now d.id) v.vid) c.args.hosts.now ≤ v.max_hosts) c.args.conf.now.vlans) c.args.dps.now c.dp-item.result c.in-len1-up.len_at_least c.dp-item.is all).1,
)

pub returns-else-fit_vlans : goal.returns-else-fit_vlans
returns-else-fit_vlans t c = (
  λ yes. absurd (true≢false (sym yes ∙ c.if-fit_vlans.false)),
  λ all. (rw (c.as_slice.ensures, c.vlans.ensures.lists, c.group_number-group.ensures) at c.fit_vlans.ensures).1 (all_first (λ d. AllByRecursion (λ v. count_by (is_host_in c.args.conf.now (group_of c.args.conf.now d.id) v.vid) c.args.hosts.now ≤ v.max_hosts) c.args.conf.now.vlans) c.args.dps.now c.dp-item.result c.in-len1-up.len_at_least c.dp-item.is all).0,
)
