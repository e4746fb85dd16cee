use Rattle.std.proofs.Common.{◌+◌, get_or, take, Some, ap, sym, ◌∙◌, arith}
use Rattle.net_base.specs.Address6Reading.{is_gap}
use Rattle.net_base.proofs.Gap.{behind, found, goes_on}
use Rattle.net_base.proofs.address6.gap_at.Goals as goal

pub loop-n-preserved : goal.loop-n-preserved
loop-n-preserved c =
    let bytes = c.args.bytes.now in
    let n = c.loop-n.n in
    record {
      within = omega arith;
      rest = goes_on bytes n _ c.loop-n.invariant.rest c.loop-n-test.true (ap (is_gap (get_or bytes n 0)) (sym (behind (n + 1) bytes)) ∙ sym c.is_gap.ensures ∙ c.if-is_gap.false);
    }

pub returns-then-is_gap : goal.returns-then-is_gap
returns-then-is_gap c =
    let bytes = c.args.bytes.now in
    let n = c.loop-n.n in
    let gap = found bytes n _ c.loop-n.invariant.rest c.loop-n-test.true (ap (is_gap (get_or bytes n 0)) (sym (behind (n + 1) bytes)) ∙ sym c.is_gap.ensures ∙ c.if-is_gap.true) in
    let rest = behind (n + 2) bytes in
    gap ∙ (λ i. Some (take n bytes, sym rest i))
