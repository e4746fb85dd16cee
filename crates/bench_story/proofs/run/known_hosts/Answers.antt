use Rattle.std.proofs.Common.{◌∙◌, length, ap}
use Rattle.conf_types.specs.State.{State}
use Rattle.bench_story.proofs.run.known_hosts.Goals as goal

pub returns : goal.returns
returns c = λ w is. c.len.ensures ∙ ap (λ (s : State). length s.hosts) (c.now.ensures w is (c.in_ok-dps.ensures w is) (c.in_ok-ups.ensures w is))
