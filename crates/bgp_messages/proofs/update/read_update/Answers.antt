use Rattle.std.proofs.Common.{Ok, Err, ap, ◌∙◌, subst, List}
use Rattle.bgp_messages.specs.declared.attribute.Attribute.{Attribute}
use Rattle.bgp_messages.specs.Grammar.{Joined, Parsed}
use Rattle.bgp_messages.specs.Attributes.{SpellsAttribute, value_of}
use Rattle.bgp_messages.specs.Paths.{SpellsPath}
use Rattle.bgp_messages.specs.Updates.{Judges}
use Rattle.bgp_messages.proofs.Updates.{right, wrong}
use Rattle.bgp_messages.proofs.update.read_update.Goals as goal

pub returns-in-Ok : goal.returns-in-Ok
returns-in-Ok c =
    let all = c.in-Some-2.attributes in
    let joined : Joined SpellsAttribute all c.in-Some.fields.attributes.now = rw c.in-Some-2.is at c.in_ok-attributes.ensures in
    let path = subst (λ l. Parsed SpellsPath l c.in_ok-path.path) (c.value_of.ensures ∙ ap (value_of 2) c.as_slice.ensures) c.in_ok-path.ensures in
    let judged = subst (λ (l : List Attribute). Judges l c.in_ok-withdrawn.withdrawn c.in_ok-announced.announced c.in_ok-path.path (Ok c.in-Ok.update)) c.as_slice-2.ensures c.in-Ok.ensures in
    right c.args.body.now c.in-Some.fields.withdrawn.now c.in-Some.fields.attributes.now c.in-Some.fields.announced.now c.in-Some.ensures.found all joined
    c.in_ok-withdrawn.withdrawn c.in_ok-announced.announced c.in_ok-withdrawn.ensures c.in_ok-announced.ensures c.in_ok-path.path path c.in-Ok.update judged

pub returns : goal.returns
returns c =
    let all = c.in-Some-2.attributes in
    let joined : Joined SpellsAttribute all c.in-Some.fields.attributes.now = rw c.in-Some-2.is at c.in_ok-attributes.ensures in
    let path = subst (λ l. Parsed SpellsPath l c.in_ok-path.path) (c.value_of.ensures ∙ ap (value_of 2) c.as_slice.ensures) c.in_ok-path.ensures in
    let judged = subst (λ (l : List Attribute). Judges l c.in_ok-withdrawn.withdrawn c.in_ok-announced.announced c.in_ok-path.path (Err c.in-Err.fault)) c.as_slice-2.ensures c.in-Err.ensures in
    wrong c.args.body.now c.in-Some.fields.withdrawn.now c.in-Some.fields.attributes.now c.in-Some.fields.announced.now c.in-Some.ensures.found all joined
    c.in_ok-withdrawn.withdrawn c.in_ok-announced.announced c.in_ok-withdrawn.ensures c.in_ok-announced.ensures c.in_ok-path.path path c.in-Err.fault judged
