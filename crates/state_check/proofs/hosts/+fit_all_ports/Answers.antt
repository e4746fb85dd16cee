use Rattle.std.proofs.Common.{◌≤◌, count_by, sym, true≢false, ◌∙◌}
use Rattle.std.specs.List.{AllByRecursion}
use Rattle.conf_types.specs.State.{is_host_at}
use Rattle.state_check.proofs.Before.{all_by, all_first}
use Rattle.state_check.proofs.hosts.+fit_all_ports.Goals as goal

pub returns-then-fit_ports : goal.returns-then-fit_ports
returns-then-fit_ports t c = (
  λ more. all_by (λ d. AllByRecursion (λ p. count_by (is_host_at d.id p.no) c.args.hosts.now ≤ p.max_hosts) d.ports) c.args.dps.now c.dp-item.result c.in-len1-up.len_at_least c.dp-item.is ((rw c.as_slice.ensures at c.fit_ports.ensures).0 c.if-fit_ports.true) (c.fit_all_ports.ensures.0 more),
  λ all. c.fit_all_ports.ensures.1 (all_first (λ d. AllByRecursion (λ p. count_by (is_host_at d.id p.no) c.args.hosts.now ≤ p.max_hosts) d.ports) c.args.dps.now c.dp-item.result c.in-len1-up.len_at_least c.dp-item.is all).1,
)

pub returns-else-fit_ports : goal.returns-else-fit_ports
returns-else-fit_ports t c = (
  λ yes. absurd (true≢false (sym yes ∙ c.if-fit_ports.false)),
  λ all. (rw c.as_slice.ensures at c.fit_ports.ensures).1 (all_first (λ d. AllByRecursion (λ p. count_by (is_host_at d.id p.no) c.args.hosts.now ≤ p.max_hosts) d.ports) c.args.dps.now c.dp-item.result c.in-len1-up.len_at_least c.dp-item.is all).0,
)
