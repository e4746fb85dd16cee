use Rattle.std.proofs.Common.{◌≡◌, ℕ, List, ◌++◌, ◌∷◌, [], ◌∙◌, ap}
use Rattle.std.specs.Fmt.{decimal}
use Rattle.conf_shape.specs.declared.raw.VlanRef.{VlanRef}
use Rattle.conf_resolve.specs.declared.ordered.PlacedVlan.{PlacedVlan}
use Rattle.conf_resolve.specs.InOrder.{by_number, by_numbers}
use Rattle.conf_resolve.specs.Added.{with_each}
use Rattle.conf_resolve.proofs.Adding.{next_numbered}
use Rattle.conf_resolve.proofs.made.add_numbers.Goals as goal

pub loop-i-preserved : goal.loop-i-preserved
loop-i-preserved c =
    let site = c.args.site.now in
    let f : ℕ × VlanRef → List PlacedVlan = λ item. by_number (site ++ decimal item.0 ∷ []) item.1 in
    let added : c.add_named.new.vlans ≡ with_each c.loop-i.vlans (f (c.loop-i.i-counter, c.index-names-i.result)) =
    c.in_ok-add_named.ensures ∙ ap (λ (step : List ℕ). with_each c.loop-i.vlans (by_number (site ++ step ∷ []) c.index-names-i.result)) (c.as_str.ensures.value ∙ c.in_ok-step.ensures.ok) in
    next_numbered f (with_each c.args.vlans.now (by_numbers site c.args.names.now)) c.loop-i.vlans c.add_named.new.vlans c.args.names.now c.loop-i.i-counter c.index-names-i.result c.loop-i-test.true c.index-names-i.is c.loop-i.invariant added
