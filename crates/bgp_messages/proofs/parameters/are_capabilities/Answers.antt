use Rattle.std.proofs.Common.{◌≡◌, ◌==◌, ◌&&◌, Bool, sym, ap, ◌∙◌}
use Rattle.bgp_messages.specs.Numbers.{number_in}
use Rattle.bgp_messages.proofs.Joining.{some_left, none_left}
use Rattle.bgp_messages.proofs.Opens.{reads_more, reads_all, reads_none}
use Rattle.bgp_messages.proofs.parameters.are_capabilities.Goals as goal
use Rattle.bgp_messages.proofs.parameters.are_capabilities.Goals.{then-are, else-are}

pub returns-in_err-len : goal.returns-in_err-len
returns-in_err-len c =
    rw c.from_residual.ensures (reads_none c.args.bytes.now c.loop-rest.are c.loop-rest.rest.now (some_left c.loop-rest.rest.now c.loop-rest-test.ensures) c.in_err-len.ensures.none c.loop-rest.invariant)

pub loop-rest-preserved : goal.loop-rest-preserved
loop-rest-preserved c =
    let rest = c.loop-rest.rest.now in
    let kind = number_in 0 1 rest == 2 in
    let are : c.if-are.are ≡ (c.loop-rest.are && kind) = elim c.if-are.branch [
      | then-are w ↦ w.are-is ∙ ap (λ n. n == 2) w.u8_at.ensures ∙ sym (ap (λ (b : Bool). b && kind) w.if-are.true)
      | else-are w ↦ w.are-is ∙ w.if-are.false ∙ sym (ap (λ (b : Bool). b && kind) w.if-are.false)
    ] in
    rw c.split_at.ensures.back (reads_more c.args.bytes.now c.loop-rest.are c.if-are.are rest c.in_ok-len.len c.in_ok-len.ensures.found are c.loop-rest.invariant)

pub returns : goal.returns
returns c = reads_all c.args.bytes.now c.loop-rest.are c.loop-rest.rest.now (none_left c.loop-rest.rest.now c.loop-rest-test.ensures) c.loop-rest.invariant
