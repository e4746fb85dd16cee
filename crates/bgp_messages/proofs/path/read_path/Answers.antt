use Rattle.std.proofs.Common.{◌≡◌, ◌+◌, ◌*◌, ◌++◌, drop, ap, ◌∙◌}
use Rattle.std.proofs.lemmas.List.{drop-drop}
use Rattle.bgp_messages.specs.Paths.{numbers_in}
use Rattle.bgp_messages.proofs.Joining.{some_left, none_left, none_of}
use Rattle.bgp_messages.proofs.Paths.{reads_more, reads_all, reads_none}
use Rattle.bgp_messages.proofs.path.read_path.Goals as goal

pub returns-in_default : goal.returns-in_default
returns-in_default c =
    reads_none c.args.value.now c.loop-rest.numbers c.loop-rest.rest.now (some_left c.loop-rest.rest.now c.loop-rest-test.ensures)
    (none_of c.first_count.result _ c.in_default.not-Some c.first_count.ensures.none) c.loop-rest.invariant

pub loop-rest-preserved : goal.loop-rest-preserved
loop-rest-preserved c =
    let rest = c.loop-rest.rest.now in
    let n = c.in-Some.count in
    let content = c.split_at.ensures.back in
    let left : c.split_at-in-loop-rest.result.1.now ≡ drop (2 + 2 * n) rest = c.split_at-in-loop-rest.ensures.back ∙ ap (drop (2 * n)) content ∙ drop-drop (2 * n) 2 rest in
    let more = c.in_ok-add_numbers.ensures ∙ ap (λ l. c.loop-rest.numbers ++ numbers_in n l) content in
    rw left (reads_more c.args.value.now c.loop-rest.numbers c.add_numbers.new.numbers rest n c.in-Some.ensures.found more c.loop-rest.invariant)

pub returns : goal.returns
returns c = reads_all c.args.value.now c.loop-rest.numbers c.loop-rest.rest.now (none_left c.loop-rest.rest.now c.loop-rest-test.ensures) c.loop-rest.invariant
