use Rattle.std.proofs.Common.{refl}
use Rattle.fg_outside.specs.declared.hub.EndCause.TheVariants.{LinkFault}
use Rattle.fg_outside.specs.declared.hub.Happening.TheVariants.{Closed}
use Rattle.fg_outside.specs.declared.hub.Turn.TheVariants.{Happened}
use Rattle.link_hub.proofs.FaultLemmas.{told_fault}
use Rattle.link_hub.proofs.laws.a_link_fault_is_one_of_that_link.Goals as goal

pub returns : goal.returns
returns g c = λ poller from old new steps conn fresh way call. told_fault g.P.L.Link g.P.Poller poller from fresh steps old (Happened (Closed conn LinkFault)) new conn way call refl
