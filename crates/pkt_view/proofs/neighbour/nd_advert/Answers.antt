use Rattle.std.proofs.Common.{◌≡◌, [], ◌∷◌, ◌++◌, length, ap, ◌∙◌, arith}
use Rattle.pkt_view.specs.Replies.{ip6_bytes}
use Rattle.pkt_view.proofs.Lengths.{said_len}
use Rattle.pkt_view.proofs.neighbour.nd_advert.Goals as goal

pub frame6-requires : goal.frame6-requires
frame6-requires c =
    let whole : c.as_slice-3.result.now ≡ (0xe0 ∷ 0 ∷ 0 ∷ 0 ∷ []) ++ ip6_bytes c.args.spa ++ (2 ∷ 1 ∷ []) ++ c.args.src.0 = c.as_slice-3.ensures ∙ c.in_ok-rest.ensures in
    let six : length c.args.src.0 ≡ 6 = omega arith in
    let len = ap length whole ∙ said_len 0xe0 0 0 0 c.args.spa 2 c.args.src six in
    omega (arith, len)
