use Rattle.std.proofs.Common.{Some, None, cond, ◌∙◌, ap}
use Rattle.std.specs.BTreeMap.{get_by_text}
use Rattle.std.specs.Option.{option_or}
use Rattle.conf_types.specs.Lists.{is_same}
use Rattle.conf_shape.specs.declared.raw.RawDp.{RawDp}
use Rattle.conf_resolve.proofs.Naming.{next_named}
use Rattle.conf_resolve.proofs.named_dps.first_dps.Goals as goal

pub loop-dp-preserved : goal.loop-dp-preserved
loop-dp-preserved c =
    next_named (λ (d : RawDp). d.names.name) (λ (d : RawDp). d) c.args.dps.now c.loop-dp.dp-index c.dp-item.result c.loop-dp.names c.add_first.new.values c.loop-dp-test.true c.dp-item.is c.loop-dp.invariant
    (λ text. c.in_ok-add_first.ensures text ∙ ap (λ (d : RawDp). option_or (get_by_text c.loop-dp.names text) (cond (is_same c.dp-item.result.names.name text) (Some d) None)) c.in_ok-ports.ensures)
