use Rattle.std.proofs.Common.{sym, subst}
use Rattle.law_calls.specs.declared.hosts.HostCall.{HostCall}
use Rattle.law_calls.specs.declared.hosts.HostAnswer.TheVariants.{Heard}
use Rattle.law_calls.specs.Hosts.{Makes}
use Rattle.law_calls.proofs.hosts.make.Goals as goal

pub returns-in-Ok : goal.returns-in-Ok
returns-in-Ok c =
    subst (λ (call : HostCall). Makes c.args.table.now call (Heard c.in-Ok.told) c.learn.new.self) (sym c.in-Hear.is) (c.in-Ok.ensures.outcome, c.in-Ok.ensures.list)
