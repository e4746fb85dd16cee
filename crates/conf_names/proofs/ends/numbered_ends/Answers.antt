use Rattle.std.proofs.Common.{◌==◌, length, ap, ◌∙◌, arith}
use Rattle.std.specs.BTreeMap.{is_at}
use Rattle.std.specs.Map.{lookup}
use Rattle.std.specs.Ordering.{nat_cmp}
use Rattle.conf_types.specs.declared.datapath.Port.{Port}
use Rattle.conf_names.proofs.FirstEnds.{no_ends, ends_more}
use Rattle.conf_names.proofs.ends.numbered_ends.Goals as goal

pub loop-i-init : goal.loop-i-init
loop-i-init c = λ n. ap (lookup (is_at (nat_cmp n))) c.new-ends.ensures.empty ∙ no_ends (λ (p : Port). p.no == n) c.args.ports.now (length c.args.ports.now) (omega arith)

pub loop-i-preserved : goal.loop-i-preserved
loop-i-preserved c = λ n.
    ends_more (λ (p : Port). p.no == n) c.args.ports.now c.loop-i.i _ c.index-ports-i.result _ _ (omega arith) (omega arith) c.index-ports-i.is (c.loop-i.invariant n) (c.in_ok-add_numbered.ensures n)
