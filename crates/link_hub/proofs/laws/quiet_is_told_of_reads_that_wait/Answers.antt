use Rattle.link_hub.proofs.QuietLemmas.{run_quiets}
use Rattle.link_hub.proofs.laws.quiet_is_told_of_reads_that_wait.Goals as goal

pub returns : goal.returns
returns g c = λ poller from old new before steps fresh came way. run_quiets g.P.L.Link g.P.Poller poller from old new before steps fresh came way
