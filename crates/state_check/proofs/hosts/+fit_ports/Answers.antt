use Rattle.std.proofs.Common.{◌≤◌, count_by, sym, true≢false, ◌∙◌}
use Rattle.conf_types.specs.State.{is_host_at}
use Rattle.state_check.proofs.Before.{all_by, all_first}
use Rattle.state_check.proofs.hosts.+fit_ports.Goals as goal

pub returns-then-fits_port : goal.returns-then-fits_port
returns-then-fits_port t c = (
  λ more. all_by (λ p. count_by (is_host_at c.args.dp p.no) c.args.hosts.now ≤ p.max_hosts) c.args.ports.now c.port-item.result c.in-len1-up.len_at_least c.port-item.is (c.fits_port.ensures.0 c.if-fits_port.true) (c.fit_ports.ensures.0 more),
  λ all. c.fit_ports.ensures.1 (all_first (λ p. count_by (is_host_at c.args.dp p.no) c.args.hosts.now ≤ p.max_hosts) c.args.ports.now c.port-item.result c.in-len1-up.len_at_least c.port-item.is all).1,
)

pub returns-else-fits_port : goal.returns-else-fits_port
returns-else-fits_port t c = (
  λ yes. absurd (true≢false (sym yes ∙ c.if-fits_port.false)),
  λ all. c.fits_port.ensures.1 (all_first (λ p. count_by (is_host_at c.args.dp p.no) c.args.hosts.now ≤ p.max_hosts) c.args.ports.now c.port-item.result c.in-len1-up.len_at_least c.port-item.is all).0,
)
