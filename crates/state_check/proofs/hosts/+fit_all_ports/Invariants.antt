use Rattle.std.proofs.Common.{length}
use Rattle.state_check.proofs.hosts.+fit_all_ports.Given as goal

abbrev pub decreases-fit_all_ports : goal.decreases-fit_all_ports
decreases-fit_all_ports l = length l.dps.now
