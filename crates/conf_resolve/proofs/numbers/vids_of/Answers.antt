use Rattle.std.proofs.Common.{◌++◌, ◌∙◌, ap}
use Rattle.std.specs.List.{filter_map}
use Rattle.conf_resolve.specs.Resolved.{to_list, vid_of}
use Rattle.conf_resolve.proofs.Once.{next_piece, filter_map_opens}
use Rattle.conf_resolve.proofs.numbers.vids_of.Goals as goal

pub loop-name-preserved : goal.loop-name-preserved
loop-name-preserved c =
    let f = vid_of c.args.conf.now.vlans in
    next_piece (filter_map f) (λ x. to_list (f x)) (filter_map_opens f) (filter_map f c.args.names.now) c.loop-name.vids c.push_some.new.vids c.args.names.now c.loop-name.name-index c.name-item.result c.loop-name-test.true c.name-item.is c.loop-name.invariant
    (c.in_ok-push_some.ensures ∙ ap (λ o. c.loop-name.vids ++ to_list o) c.vid_of.ensures)
