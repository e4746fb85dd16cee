use Rattle.std.proofs.Common.{◌++◌, ◌+◌, ◌∷◌, [], List, ap, sym, ◌∙◌, drop, arith, append-nil}
use Rattle.std.proofs.lemmas.List.{take_rest}
use Rattle.of_match.specs.declared.packet.Tag.{Tag}
use Rattle.pkt_view.specs.Packets.{tag_of, tags_of}
use Rattle.pkt_view.proofs.Tags.{tags_of-more, tags_of-short, joined}
use Rattle.pkt_view.proofs.packet.tags_of.Goals as goal

pub loop-at-preserved : goal.loop-at-preserved
loop-at-preserved c =
    let more = tags_of-more c.args.bytes.now c.loop-at.at c.loop-at-test.true in
    record {
      within = omega arith;
      read = joined c.loop-at.tags (tags_of c.args.bytes.now) (tags_of (drop (c.loop-at.at + 4) c.args.bytes.now)) (tag_of (drop c.loop-at.at c.args.bytes.now)) c.push.new.self (c.in_ok-push.ensures.ok ∙ ap (λ (tag : Tag). c.loop-at.tags ++ tag ∷ []) (c.tag_of.ensures ∙ ap tag_of (take_rest c.args.bytes.now c.loop-at.at))) (ap (λ (tags : List Tag). c.loop-at.tags ++ tags) (sym more) ∙ c.loop-at.invariant.read);
    }

pub returns : goal.returns
returns c =
    let none = tags_of-short c.args.bytes.now c.loop-at.at c.loop-at-test.false in
    sym (append-nil c.loop-at.tags) ∙ ap (λ (tags : List Tag). c.loop-at.tags ++ tags) (sym none) ∙ c.loop-at.invariant.read
