use Rattle.bgp_messages.specs.Prefixes.{SpellsPrefix}
use Rattle.bgp_messages.proofs.Joining.{some_left, none_left, none_of, goes, done, stuck}
use Rattle.bgp_messages.proofs.PrefixLaws.{prefix_alone}
use Rattle.bgp_messages.proofs.prefixes.read_prefixes.Goals as goal

pub returns-in_default : goal.returns-in_default
returns-in_default c =
    stuck SpellsPrefix c.args.bytes.now c.loop-rest.nets c.loop-rest.rest.now (some_left c.loop-rest.rest.now c.loop-rest-test.ensures)
    (none_of c.first_prefix.result _ c.in_default.not-Some c.first_prefix.ensures.none) c.loop-rest.invariant

pub loop-rest-preserved : goal.loop-rest-preserved
loop-rest-preserved c =
    rw (c.in_ok-push.ensures.ok, c.split_at.ensures.back)
    (goes SpellsPrefix prefix_alone c.args.bytes.now c.loop-rest.nets c.loop-rest.rest.now c.in-Some.net c.in-Some.len c.in-Some.ensures.found c.loop-rest.invariant)

pub returns : goal.returns
returns c = done SpellsPrefix c.args.bytes.now c.loop-rest.nets c.loop-rest.rest.now (none_left c.loop-rest.rest.now c.loop-rest-test.ensures) c.loop-rest.invariant
