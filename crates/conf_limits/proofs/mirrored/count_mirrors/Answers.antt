use Rattle.std.proofs.Common.{arith}
use Rattle.conf_types.specs.declared.datapath.Port.{Port}
use Rattle.conf_types.specs.Membership.{is_mirror_of}
use Rattle.conf_limits.proofs.Mirrors.{counted_more, few-counted}
use Rattle.conf_limits.proofs.mirrored.count_mirrors.Goals as goal

pub count_mirror-requires : goal.count_mirror-requires
count_mirror-requires c = λ n. few-counted (λ (m : Port). is_mirror_of m n) c.args.ports.now c.loop-port.port-index _ _ (c.loop-port.invariant n) c.loop-port-test.true (omega arith)

pub loop-port-preserved : goal.loop-port-preserved
loop-port-preserved c = λ n.
    counted_more (λ (m : Port). is_mirror_of m n) c.args.ports.now c.loop-port.port-index c.port-item.result _ _ c.loop-port-test.true c.port-item.is (c.loop-port.invariant n) (c.in_ok-count_mirror.ensures n)
