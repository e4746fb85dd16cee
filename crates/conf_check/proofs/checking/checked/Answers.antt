use Rattle.std.proofs.Common.{◌≡◌, Option, Some, None, Result, Ok, Err, ap, sym, ◌∙◌, subst}
use Rattle.conf_types.specs.Configuration.{Configuration}
use Rattle.conf_types.specs.Valid.{IsValid}
use Rattle.conf_shape.specs.declared.refused.ConfFault.{ConfFault}
use Rattle.conf_check.specs.Accepted.{unless, meant_by, broken_rule}
use Rattle.conf_check.proofs.Steps.{rule_found, conf_found, same_lists, meant_is_valid}
use Rattle.conf_check.proofs.checking.checked.Goals as goal

pub find_broken_rule-requires : goal.find_broken_rule-requires
find_broken_rule-requires c = c.in_ok-conf.ensures

pub returns-in-Some : goal.returns-in-Some
returns-in-Some c =
    let raw = c.args.raw.now in
    let found : c.in_ok-fault.field-0 ≡ broken_rule raw = rule_found raw c.in_ok-ordered.ordered c.in_ok-conf.conf c.in_ok-fault.field-0 c.in_ok-ordered.ensures c.in_ok-conf.ensures c.in_ok-fault.ensures in
    sym (ap (λ (o : Option ConfFault). unless o (Ok (meant_by raw))) (sym found ∙ c.in-Some.is))

-- no rule is broken
pub new-requires : goal.new-requires
new-requires c =
    let raw = c.args.raw.now in
    let found : c.in_ok-fault.field-0 ≡ broken_rule raw = rule_found raw c.in_ok-ordered.ordered c.in_ok-conf.conf c.in_ok-fault.field-0 c.in_ok-ordered.ensures c.in_ok-conf.ensures c.in_ok-fault.ensures in
    let lists = same_lists c.in_ok-conf.conf c.into_lists-dps.result c.into_lists-dps.ensures in
    subst IsValid (sym (lists ∙ conf_found raw c.in_ok-ordered.ordered c.in_ok-conf.conf c.in_ok-ordered.ensures c.in_ok-conf.ensures)) (meant_is_valid c.what_breaks_no_rule_is_valid.ensures raw c.requires (sym found ∙ c.in-None.is))

pub returns : goal.returns
returns c =
    let raw = c.args.raw.now in
    let found : c.in_ok-fault.field-0 ≡ broken_rule raw = rule_found raw c.in_ok-ordered.ordered c.in_ok-conf.conf c.in_ok-fault.field-0 c.in_ok-ordered.ensures c.in_ok-conf.ensures c.in_ok-fault.ensures in
    let lists = same_lists c.in_ok-conf.conf c.into_lists-dps.result c.into_lists-dps.ensures in
    let made : c.new.result ≡ meant_by raw = c.new.ensures ∙ lists ∙ conf_found raw c.in_ok-ordered.ordered c.in_ok-conf.conf c.in_ok-ordered.ensures c.in_ok-conf.ensures in
    ap (λ (conf : Configuration). Ok conf) made ∙ sym (ap (λ (o : Option ConfFault). unless o (Ok (meant_by raw))) (sym found ∙ c.in-None.is))
