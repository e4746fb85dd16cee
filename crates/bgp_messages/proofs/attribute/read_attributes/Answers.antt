use Rattle.std.proofs.Common.{◌≡◌, drop, ap, ◌∙◌, ◌++◌, ◌∷◌, []}
use Rattle.bgp_messages.specs.declared.attribute.Attribute.{Attribute}
use Rattle.bgp_messages.specs.Attributes.{SpellsAttribute, attribute_in}
use Rattle.bgp_messages.proofs.Joining.{some_left, none_left, none_of, goes, done, stuck}
use Rattle.bgp_messages.proofs.Attributes.{attribute_alone}
use Rattle.bgp_messages.proofs.attribute.read_attributes.Goals as goal

pub returns-in_default : goal.returns-in_default
returns-in_default c =
    stuck SpellsAttribute c.args.bytes.now c.loop-rest.attributes c.loop-rest.rest.now (some_left c.loop-rest.rest.now c.loop-rest-test.ensures)
    (none_of c.first_sizes.result _ c.in_default.not-Some c.first_sizes.ensures.none) c.loop-rest.invariant

pub loop-rest-preserved : goal.loop-rest-preserved
loop-rest-preserved c =
    let rest = c.loop-rest.rest.now in
    let head = c.in-Some.head in
    let len = c.in-Some.len in
    let value = c.in_ok-from_slice.ensures ∙ c.split_at-in-loop-rest.ensures.back ∙ ap (drop head) c.split_at.ensures.front in
    let pushed : ◌≡◌ {A = Attribute} (record { flags = c.u8_at.result; kind = c.u8_at-in-loop-rest.result; value = c.in_ok-from_slice.field-0 }) (attribute_in head len rest) =
    λ i. record { flags = c.u8_at.ensures i; kind = c.u8_at-in-loop-rest.ensures i; value = value i } in
    let made = c.in_ok-push.ensures.ok ∙ ap (λ (a : Attribute). c.loop-rest.attributes ++ a ∷ []) pushed in
    let sizes = c.in-Some.ensures.found in
    rw (made, c.split_at.ensures.back) (goes SpellsAttribute attribute_alone c.args.bytes.now c.loop-rest.attributes rest (attribute_in head len rest) len sizes.begins c.loop-rest.invariant)

pub returns : goal.returns
returns c = done SpellsAttribute c.args.bytes.now c.loop-rest.attributes c.loop-rest.rest.now (none_left c.loop-rest.rest.now c.loop-rest-test.ensures) c.loop-rest.invariant
