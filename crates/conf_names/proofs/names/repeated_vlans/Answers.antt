use Rattle.std.proofs.Common.{rules, Bool, ◌++◌, sym, ◌∙◌}
use Rattle.conf_resolve.specs.declared.ordered.PlacedVlan.{PlacedVlan}
use Rattle.conf_shape.specs.declared.refused.ConfCause.TheVariants.{Duplicate}
use Rattle.conf_rules.specs.Names.{vid_site}
use Rattle.conf_rules.specs.Places.{fault_if, name_site}
use Rattle.conf_rules.proofs.Earlier.{walked_seen}
use Rattle.conf_names.proofs.names.repeated_vlans.Goals as goal

pub returns-in-Some : goal.returns-in-Some
returns-in-Some c =
    (walked_seen (λ (v : PlacedVlan) (a b : Bool). fault_if a Duplicate (vid_site v) ++ fault_if b Duplicate (name_site v.site v.vlan.names)) (λ v. v.vlan.vid) (λ v. v.vlan.names.name) c.args.ordered.now.vlans _ c.loop-placed.placed-index c.placed-item.result _ _ _ _ _ _ _ _
    c.as_slice-placed-items.ensures c.loop-placed-test.true c.placed-item.is (search rules) c.loop-placed.invariant c.in_ok-number.ensures.was c.in_ok-number.ensures.is c.in_ok-name.ensures.was c.in_ok-name.ensures.is).0.1
    c.in-Some.found (sym c.in_ok-found.ensures ∙ c.in-Some.is)

pub loop-placed-preserved : goal.loop-placed-preserved
loop-placed-preserved c =
    let step = walked_seen (λ (v : PlacedVlan) (a b : Bool). fault_if a Duplicate (vid_site v) ++ fault_if b Duplicate (name_site v.site v.vlan.names)) (λ v. v.vlan.vid) (λ v. v.vlan.names.name) c.args.ordered.now.vlans _ c.loop-placed.placed-index c.placed-item.result _ _ _ _ _ _ _ _
    c.as_slice-placed-items.ensures c.loop-placed-test.true c.placed-item.is (search rules) c.loop-placed.invariant c.in_ok-number.ensures.was c.in_ok-number.ensures.is c.in_ok-name.ensures.was c.in_ok-name.ensures.is in
    (step.0.0 (sym c.in_ok-found.ensures ∙ c.in_default.is), step.1, step.2)
