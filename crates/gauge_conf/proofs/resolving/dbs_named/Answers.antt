use Rattle.std.proofs.Common.{Option, ◌++◌, ◌∙◌, ap}
use Rattle.std.specs.List.{filter_map}
use Rattle.conf_resolve.specs.Resolved.{to_list}
use Rattle.conf_resolve.proofs.Once.{next_piece, filter_map_opens}
use Rattle.gauge_conf.specs.declared.gauge.Db.{Db}
use Rattle.gauge_conf.specs.Resolved.{found_db}
use Rattle.gauge_conf.proofs.resolving.dbs_named.Goals as goal

pub loop-name-preserved : goal.loop-name-preserved
loop-name-preserved c =
    let f = found_db c.args.dbs.now in
    next_piece (filter_map f) (λ x. to_list (f x)) (filter_map_opens f) (filter_map f c.args.names.now) c.loop-name.found c.push_db.new.dbs c.args.names.now c.loop-name.name-index c.name-item.result c.loop-name-test.true c.name-item.is c.loop-name.invariant
    (c.in_ok-push_db.ensures ∙ ap (λ (o : Option Db). c.loop-name.found ++ to_list o) c.found_db.ensures)
