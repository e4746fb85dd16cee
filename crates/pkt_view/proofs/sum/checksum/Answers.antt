use Rattle.std.proofs.Common.{◌≡◌, ◌+◌, ◌-◌, ◌*◌, ap, sym, ◌∙◌, arith, drop, ℕ}
use Rattle.std.specs.Prelude.{sum}
use Rattle.pkt_view.specs.Checksum.{words, ones_complement, internet_checksum}
use Rattle.pkt_view.proofs.Sums.{carried_later, done_odd, done_even, words_more, words_last, words_end}
use Rattle.pkt_view.proofs.sum.checksum.Goals as goal
use Rattle.pkt_view.proofs.sum.checksum.Goals.{then-at-bytes, else-at-bytes}

pub loop-at-preserved : goal.loop-at-preserved
loop-at-preserved c =
    let rest = sum (words (drop (c.loop-at.at + 2) c.args.bytes.now)) in
    let more = words_more c.args.bytes.now c.loop-at.at c.loop-at-test.true in
    let same : c.loop-at.sum + c.u16_at.result + rest ≡ c.loop-at.sum + sum (words (drop c.loop-at.at c.args.bytes.now)) = omega (arith, more, c.u16_at.ensures) in
    record {
      within = omega arith;
      total = ap (λ (n : ℕ). ones_complement (n + rest)) c.carried-sum.ensures ∙ carried_later c.loop-at.sum c.u16_at.result rest ∙ ap ones_complement same ∙ c.loop-at.invariant.total;
    }

pub returns : goal.returns
unfolding internet_checksum
returns c =
    let total = sum (words c.args.bytes.now) in
    let rest = sum (words (drop c.loop-at.at c.args.bytes.now)) in
    let summed : c.if-at-bytes.sum ≡ ones_complement total =
    elim c.if-at-bytes.branch [
      | then-at-bytes w ↦
          w.sum-is ∙ done_odd w.carried-sum-then-at-bytes.result c.loop-at.sum _ rest total w.carried-sum-then-at-bytes.ensures (omega arith) (words_last c.args.bytes.now c.loop-at.at (omega arith) ∙ ap (λ (n : ℕ). 256 * n) (sym w.from.ensures)) c.loop-at.invariant.total
      | else-at-bytes w ↦
          w.sum-is ∙ done_even c.loop-at.sum rest total (omega arith) (words_end c.args.bytes.now c.loop-at.at (omega arith)) c.loop-at.invariant.total
    ] in
    ap (λ (n : ℕ). 65535 - n) summed
