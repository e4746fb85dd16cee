use Rattle.std.proofs.Common.{◌≡◌, ◌+◌, ◌%◌, ◌==◌, ℕ, length, ap, ◌∙◌}
use Rattle.neighbour_resolve.proofs.Summed.{is_right_in}
use Rattle.neighbour_resolve.proofs.discovery.is_summed.Goals as goal

pub returns : goal.returns
returns c =
    let message = c.args.message.now in
    let protocol : c.from.result ≡ 58 = c.from.ensures in
    ap (λ (n : ℕ). (c.word_sum-addresses.result + length message + n + c.word_sum.result) % 65535 == 0) protocol
    ∙ is_right_in c.args.header.now message c.word_sum-addresses.result c.word_sum.result c.requires.header c.requires.most c.word_sum-addresses.ensures.sum c.word_sum.ensures.sum
