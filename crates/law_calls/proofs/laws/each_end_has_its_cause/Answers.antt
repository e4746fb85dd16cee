use Rattle.std.proofs.Common.{refl}
use Rattle.fg_outside.specs.declared.hub.Happening.TheVariants.{Closed}
use Rattle.fg_outside.specs.declared.hub.Turn.TheVariants.{Happened}
use Rattle.law_calls.proofs.HubCauses.{told_end}
use Rattle.law_calls.proofs.laws.each_end_has_its_cause.Goals as goal

pub returns : goal.returns
returns g c = λ poller from old new steps conn cause fresh way call. told_end g.P.L.Link g.P.Poller poller from fresh steps old (Happened (Closed conn cause)) new conn cause way call refl
