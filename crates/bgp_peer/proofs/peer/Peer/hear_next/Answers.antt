use Rattle.std.proofs.Common.{◌≡◌, ◌+◌, length, drop, take, sym, ap, ◌∙◌, arith}
use Rattle.bgp_messages.specs.Kinds.{is_length}
use Rattle.bgp_peer.proofs.Fronts.{whole_is, body_length}
use Rattle.bgp_peer.proofs.peer.Peer.hear_next.Goals as goal

pub split_at-requires : goal.split_at-requires
split_at-requires c =
    let w = whole_is c.args.unread.now c.in-Whole.head (sym c.in-Whole.ensures) in
    omega (arith, w.within, c.from-len.ensures)

pub split_at-requires-in-Whole : goal.split_at-requires-in-Whole
split_at-requires-in-Whole c =
    let w = whole_is c.args.unread.now c.in-Whole.head (sym c.in-Whole.ensures) in
    omega (arith, w.header, c.from-len.ensures, c.split_at.ensures.front_len)

pub hear_body-requires : goal.hear_body-requires
hear_body-requires c =
    let bytes = c.args.unread.now in
    let head = c.in-Whole.head in
    let w = whole_is bytes head (sym c.in-Whole.ensures) in
    let body : c.split_at-in-Whole.result.1.now ≡ drop 19 (take head.len bytes) = c.split_at-in-Whole.ensures.back ∙ ap (drop 19) (c.split_at.ensures.front ∙ ap (λ n. take n bytes) c.from-len.ensures) in
    ap (λ l. is_length head.kind (19 + length l)) body ∙ ap (is_length head.kind) (body_length bytes head w) ∙ w.right
