use Rattle.std.proofs.Common.{◌≡◌, length, ap, ◌∙◌, arith}
use Rattle.pkt_view.specs.Replies.{unsummed}
use Rattle.pkt_view.proofs.Lengths.{unsummed_len}
use Rattle.pkt_view.proofs.icmp6.put_message.Goals as goal

pub checksum6-requires : goal.checksum6-requires
checksum6-requires c =
    let whole : c.as_slice.result.now ≡ unsummed c.args.kind c.args.rest.now = c.as_slice.ensures ∙ c.in_ok-unsummed.ensures in
    let len = ap length whole ∙ unsummed_len c.args.kind c.args.rest.now in
    omega (arith, len)
