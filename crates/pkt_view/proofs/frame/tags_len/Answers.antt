use Rattle.std.proofs.Common.{◌≡◌, true, false, arith, ap, sym, ◌∙◌}
use Rattle.pkt_view.specs.Frame.{is_tag_type}
use Rattle.pkt_view.specs.Numbers.{number_at}
use Rattle.pkt_view.proofs.Tags.{tags_more, tags_end, tags_short}
use Rattle.pkt_view.proofs.frame.tags_len.Goals as goal

pub loop-at-preserved : goal.loop-at-preserved
loop-at-preserved c =
    let shown : is_tag_type (number_at 2 c.loop-at.at c.args.bytes.now) ≡ true = ap is_tag_type (sym c.u16_at.ensures) ∙ sym c.is_tag_type.ensures ∙ c.if-is_tag_type.true in
    let more = tags_more c.args.bytes.now c.loop-at.at c.loop-at-test.true shown in
    record { within = omega arith; count = omega (arith, more) }

pub returns-else-is_tag_type : goal.returns-else-is_tag_type
returns-else-is_tag_type c =
    let shown : is_tag_type (number_at 2 c.loop-at.at c.args.bytes.now) ≡ false = ap is_tag_type (sym c.u16_at.ensures) ∙ sym c.is_tag_type.ensures ∙ c.if-is_tag_type.false in
    record { count = omega (arith, tags_end c.args.bytes.now c.loop-at.at shown); within = omega arith }

pub returns-after-loop-at : goal.returns-after-loop-at
returns-after-loop-at c =
    record { count = omega (arith, tags_short c.args.bytes.now c.loop-at.at c.loop-at-test.false); within = omega arith }
