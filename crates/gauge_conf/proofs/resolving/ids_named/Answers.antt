use Rattle.std.proofs.Common.{Option, ◌++◌, ◌∙◌, ap}
use Rattle.std.specs.List.{filter_map}
use Rattle.net_base.specs.declared.numbers.DpId.{DpId}
use Rattle.conf_resolve.specs.Resolved.{to_list}
use Rattle.conf_resolve.proofs.Once.{next_piece, filter_map_opens}
use Rattle.gauge_conf.specs.Resolved.{id_of}
use Rattle.gauge_conf.proofs.resolving.ids_named.Goals as goal

pub loop-name-preserved : goal.loop-name-preserved
loop-name-preserved c =
    let f = id_of c.args.dps.now in
    next_piece (filter_map f) (λ x. to_list (f x)) (filter_map_opens f) (filter_map f c.args.names.now) c.loop-name.ids c.push_id.new.ids c.args.names.now c.loop-name.name-index c.name-item.result c.loop-name-test.true c.name-item.is c.loop-name.invariant
    (c.in_ok-push_id.ensures ∙ ap (λ (o : Option DpId). c.loop-name.ids ++ to_list o) c.id_named.ensures)
