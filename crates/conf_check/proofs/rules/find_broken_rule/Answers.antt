use Rattle.std.proofs.Common.{◌++◌, ap, sym, ◌∙◌}
use Rattle.std.proofs.lemmas.Result.{IfOk-weaker}
use Rattle.conf_rules.specs.Limits.{passed_limits}
use Rattle.conf_rules.specs.Places.{first}
use Rattle.conf_rules.specs.Rules.{name_faults, port_faults, routing_faults}
use Rattle.conf_check.proofs.Distinct.{distinct_of, behind_all}
use Rattle.conf_rules.proofs.First.{first_none, first_some}
use Rattle.conf_check.proofs.rules.find_broken_rule.Goals as goal

pub returns-in-Some : goal.returns-in-Some
returns-in-Some c =
    let o = c.args.ordered.now in
    let conf = c.args.conf.now in
    let before = name_faults o conf ++ (port_faults o conf ++ routing_faults o conf) in
    sym (ap first (behind_all (name_faults o conf) (port_faults o conf) (routing_faults o conf) (passed_limits o conf))
    ∙ first_some before (passed_limits o conf) c.in-Some.found (sym c.in_ok-found.ensures ∙ c.in-Some.is))

pub find_passed_limit-requires : goal.find_passed_limit-requires
find_passed_limit-requires c =
    let o = c.args.ordered.now in
    distinct_of o c.args.conf.now _ _ c.requires (sym c.in_ok-found.ensures ∙ c.in_default.is)

pub returns : goal.returns
returns c =
    let o = c.args.ordered.now in
    let conf = c.args.conf.now in
    let before = name_faults o conf ++ (port_faults o conf ++ routing_faults o conf) in
    let rest = ap first (behind_all (name_faults o conf) (port_faults o conf) (routing_faults o conf) (passed_limits o conf))
    ∙ first_none before (passed_limits o conf) (sym c.in_ok-found.ensures ∙ c.in_default.is) in
    IfOk-weaker c.find_passed_limit.result _ _ (λ found e. e ∙ sym rest) c.find_passed_limit.ensures
