use Rattle.std.proofs.Common.{length, ap, ◌∙◌, arith, string_bytes}
use Rattle.std.specs.BTreeMap.{is_at}
use Rattle.std.specs.Cmp.Lexicographic.{slice_cmp}
use Rattle.std.specs.Map.{lookup}
use Rattle.std.specs.Ordering.{nat_cmp}
use Rattle.conf_types.specs.declared.datapath.Port.{Port}
use Rattle.conf_types.specs.Lists.{is_same}
use Rattle.conf_names.proofs.FirstEnds.{no_ends, ends_more}
use Rattle.conf_names.proofs.ends.named_ends.Goals as goal

pub loop-i-init : goal.loop-i-init
loop-i-init c = λ t.
    ap (lookup (is_at (λ k. slice_cmp nat_cmp t (string_bytes k)))) c.new-ends.ensures.empty ∙ no_ends (λ (p : Port). is_same p.name t) c.args.ports.now (length c.args.ports.now) (omega arith)

pub loop-i-preserved : goal.loop-i-preserved
loop-i-preserved c = λ t.
    ends_more (λ (p : Port). is_same p.name t) c.args.ports.now c.loop-i.i _ c.index-ports-i.result _ _ (omega arith) (omega arith) c.index-ports-i.is (c.loop-i.invariant t) (c.in_ok-add_named.ensures t)
