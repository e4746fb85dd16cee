use Rattle.std.proofs.Common.{List, refl, ap, ◌∙◌, subst}
use Rattle.fg_outside.specs.declared.hub.Happening.{Happening}
use Rattle.fg_outside.proofs.LineLemmas.{on_err}
use Rattle.probe_hub.specs.declared.known.Known.{Known}
use Rattle.probe_hub.specs.declared.probing.ProbeSaid.{ProbeSaid}
use Rattle.probe_hub.specs.Known.{probes}
use Rattle.probe_hub.specs.Says.{SaysAll, SaysPart}
use Rattle.probe_hub.proofs.Saying.{says_nothing}
use Rattle.probe_hub.proofs.probe_hub.ProbeHub.pass_on.Goals as goal

pub returns-in_err-given-clause-err : goal.returns-in_err-given-clause-err
returns-in_err-given-clause-err g c = on_err _ (says_nothing g.H.Hub.may c.args.self.now.hub _)

pub returns-in_err-say_all-clause-err : goal.returns-in_err-say_all-clause-err
returns-in_err-say_all-clause-err g c =
    on_err _
    (subst (λ (ps : List ProbeSaid). SaysPart g.H.Hub.may c.args.self.now.hub ps c.say_all.new.hub) (c.as_slice.ensures ∙ ap (λ (r : Known × Happening). probes r.0) c.in_ok-given.ensures)
    c.in_err-say_all.ensures.err)

pub returns-clause-ok : goal.returns-clause-ok
returns-clause-ok g c = record {
  known = c.in_ok-given.ensures;
  says = subst (λ (ps : List ProbeSaid). SaysAll g.H.Hub.may c.args.self.now.hub ps c.say_all.new.hub) c.as_slice.ensures c.in_ok-say_all.ensures.ok;
  reader = refl;
}
