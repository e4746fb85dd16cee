use Rattle.std.proofs.Common.{◌≡◌, ◌+◌, ◌-◌, None, drop, length, length-drop, sym, ap, ◌∙◌, arith}
use Rattle.of_wire.proofs.Many.{is_some, is_none}
use Rattle.flow_stats.specs.Parts.{flow_fault, flow_len, told_place}
use Rattle.flow_stats.proofs.Entries.{is_sound, key_inside, none_left}
use Rattle.flow_stats.proofs.Reading.{begins, goes, fails, done}
use Rattle.flow_stats.proofs.part.read_flows.Goals as goal

pub loop-rest-init : goal.loop-rest-init
loop-rest-init c = (8, rw (c.new-flows.ensures, c.split_at.ensures.back) (begins (drop 8 c.args.body.now)))

pub returns-in-Some : goal.returns-in-Some
returns-in-Some c =
    let rest = c.loop-rest.rest.now in
    let here = c.loop-rest.invariant.0 in
    let way = c.loop-rest.invariant.1 in
    let place : length c.args.body.now - length rest ≡ here = omega (arith, way.place, c.requires, length-drop 8 c.args.body.now) in
    rw c.refused.ensures
    (fails (drop 8 c.args.body.now) c.loop-rest.flows here rest c.in-Some.cause c.told_place.result (is_some rest c.loop-rest-test.ensures) (sym c.in-Some.ensures) (c.told_place.ensures ∙ ap told_place place) way)

pub read_flow-requires-clause-fits : goal.read_flow-requires-clause-fits
read_flow-requires-clause-fits c =
    let rest = c.loop-rest.rest.now in
    let none : flow_fault rest ≡ None = sym c.flow_fault.ensures ∙ none_left c.flow_fault.result c.in_default.not-Some in
    let n : c.from.result ≡ flow_len rest = omega (arith, c.from.ensures, c.u16_at.ensures) in
    rw (c.split_at-in-loop-rest.ensures.front, n) (key_inside rest (is_sound rest none))

pub loop-rest-preserved : goal.loop-rest-preserved
loop-rest-preserved c =
    let rest = c.loop-rest.rest.now in
    let none : flow_fault rest ≡ None = sym c.flow_fault.ensures ∙ none_left c.flow_fault.result c.in_default.not-Some in
    let n : c.from.result ≡ flow_len rest = omega (arith, c.from.ensures, c.u16_at.ensures) in (
      c.loop-rest.invariant.0 + flow_len rest,
      rw (c.in_ok-push.ensures.ok, c.in_ok-read_flow.ensures, c.split_at-in-loop-rest.ensures.front, c.split_at-in-loop-rest.ensures.back, n)
          (goes (drop 8 c.args.body.now) c.loop-rest.flows c.loop-rest.invariant.0 rest (is_some rest c.loop-rest-test.ensures) none c.loop-rest.invariant.1),
    )

pub returns : goal.returns
returns c =
    let rest = c.loop-rest.rest.now in
    done (drop 8 c.args.body.now) c.loop-rest.flows c.loop-rest.invariant.0 rest (is_none rest c.loop-rest-test.ensures) c.loop-rest.invariant.1
