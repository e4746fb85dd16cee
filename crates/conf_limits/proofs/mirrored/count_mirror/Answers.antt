use Rattle.std.proofs.Common.{rules, ℕ}
use Rattle.conf_rules.proofs.Earlier.{numbers_more}
use Rattle.conf_limits.proofs.Mirrors.{mirror_more, fits_unseen}
use Rattle.conf_limits.proofs.mirrored.count_mirror.Goals as goal

pub count_unseen-requires : goal.count_unseen-requires
count_unseen-requires c = fits_unseen _ _ _ _ _ (c.loop-no.invariant.0 c.from-number.result) (c.loop-no.invariant.1 c.from-number.result) (c.requires c.from-number.result)

pub loop-no-preserved : goal.loop-no-preserved
loop-no-preserved c = (
  numbers_more (λ (n : ℕ). n) c.args.port.now.mirror _ c.loop-no.no-index c.no-item.result c.from-number.result _ _ c.as_slice-no-items.ensures c.loop-no-test.true c.no-item.is (search rules) c.loop-no.invariant.0 c.in_ok-count_unseen.ensures.seen,
  λ n. mirror_more c.args.port.now.mirror _ c.loop-no.no-index c.no-item.result c.from-number.result n _ _ _ _ c.as_slice-no-items.ensures c.loop-no-test.true c.no-item.is (search rules) (c.loop-no.invariant.0 c.from-number.result) (c.loop-no.invariant.1 n) (c.in_ok-count_unseen.ensures.counts n),
)
