use Rattle.std.proofs.Common.{◌≡◌, ◌∙◌, arith, sym, ap, subst, IfOk}
use Rattle.pkt_view.specs.Frame.{shown, shown_upper}
use Rattle.neighbour_resolve.specs.declared.answers.Reply.{Reply}
use Rattle.neighbour_resolve.specs.Answers.{answer_in, v6_answer}
use Rattle.neighbour_resolve.proofs.Silent.{by_message, no_answer, no_answer_6}
use Rattle.neighbour_resolve.proofs.answers.answer_in.Goals as goal

pub returns-then-header-lt20 : goal.returns-then-header-lt20
returns-then-header-lt20 c =
    sym (no_answer c.args.conf.now c.args.vlan.now (shown c.args.frame.now) c.in-V4.header.now c.in-V4.body.now (ap shown_upper c.in-V4.is) c.if-header-lt20.true)

pub returns-then-header-ne40 : goal.returns-then-header-ne40
returns-then-header-ne40 c =
    sym (no_answer_6 c.args.conf.now c.args.vlan.now (shown c.args.frame.now) c.in-V6.header.now c.in-V6.body.now (ap shown_upper c.in-V6.is) (λ e. omega (arith, e, c.if-header-ne40.true)))

pub returns-else-header-ne40 : goal.returns-else-header-ne40
returns-else-header-ne40 c =
    let conf = c.args.conf.now in
    let frame = shown c.args.frame.now in
    let by : v6_answer conf c.args.vlan.now frame c.in-V6.header.now c.in-V6.body.now ≡ answer_in conf frame c.args.vlan.now =
    by_message conf c.args.vlan.now frame c.in-V6.header.now c.in-V6.body.now (sym c.is_group.ensures ∙ c.if-is_group.false) (ap shown_upper c.in-V6.is) in
    subst (λ (r : Reply). IfOk c.v6_answer.result (λ reply. reply ≡ r)) by c.v6_answer.ensures
