use Rattle.std.proofs.Common.{rules, Bool, ◌++◌, codes, sym, ◌∙◌}
use Rattle.conf_resolve.specs.InOrder.{dp_site}
use Rattle.conf_shape.specs.declared.raw.RawDp.{RawDp}
use Rattle.conf_shape.specs.declared.refused.ConfCause.TheVariants.{Duplicate}
use Rattle.conf_rules.specs.Places.{fault_if, name_site, under}
use Rattle.conf_rules.proofs.Earlier.{walked_seen}
use Rattle.conf_names.proofs.names.repeated_dps.Goals as goal

pub returns-in-Some : goal.returns-in-Some
returns-in-Some c =
    (walked_seen (λ (d : RawDp) (a b : Bool). fault_if a Duplicate (under (dp_site d) (codes "dp_id")) ++ fault_if b Duplicate (name_site (dp_site d) d.names)) (λ d. d.id.0) (λ d. d.names.name) c.args.ordered.now.dps _ c.loop-dp.dp-index c.dp-item.result _ _ _ _ _ _ _ _
    c.as_slice-dp-items.ensures c.loop-dp-test.true c.dp-item.is (search rules) c.loop-dp.invariant c.in_ok-number.ensures.was c.in_ok-number.ensures.is c.in_ok-name.ensures.was c.in_ok-name.ensures.is).0.1
    c.in-Some.found (sym c.in_ok-found.ensures ∙ c.in-Some.is)

pub loop-dp-preserved : goal.loop-dp-preserved
loop-dp-preserved c =
    let step = walked_seen (λ (d : RawDp) (a b : Bool). fault_if a Duplicate (under (dp_site d) (codes "dp_id")) ++ fault_if b Duplicate (name_site (dp_site d) d.names)) (λ d. d.id.0) (λ d. d.names.name) c.args.ordered.now.dps _ c.loop-dp.dp-index c.dp-item.result _ _ _ _ _ _ _ _
    c.as_slice-dp-items.ensures c.loop-dp-test.true c.dp-item.is (search rules) c.loop-dp.invariant c.in_ok-number.ensures.was c.in_ok-number.ensures.is c.in_ok-name.ensures.was c.in_ok-name.ensures.is in
    (step.0.0 (sym c.in_ok-found.ensures ∙ c.in_default.is), step.1, step.2)
