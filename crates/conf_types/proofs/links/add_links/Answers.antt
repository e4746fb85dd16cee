use Rattle.std.proofs.Common.{◌∙◌, sym}
use Rattle.conf_types.specs.Links.{link_from}
use Rattle.conf_types.proofs.Taken.{one_kept, none_kept}
use Rattle.conf_types.proofs.links.add_links.Goals as goal
use Rattle.conf_types.proofs.links.add_links.Goals.{in-Some+in_ok-push, in_default}

-- a link, or none, is what begins at the interface
pub loop-port-preserved : goal.loop-port-preserved
loop-port-preserved c =
    let h = link_from c.args.conf.now c.args.ups.now c.args.dp.now in
    let xs = c.as_slice-port-items.result.now in
    elim c.match-link_from.branch [
      | in-Some+in_ok-push w ↦ w.made-is ∙ w.in_ok-push.ensures.ok
          ∙ one_kept h xs c.loop-port.port-index c.port-item.result c.loop-port-test.true c.port-item.is c.args.made.now c.loop-port.made c.loop-port.invariant w.in-Some.link (sym c.link_from.ensures ∙ w.in-Some.is)
      | in_default w ↦ w.made-is
          ∙ none_kept h xs c.loop-port.port-index c.port-item.result c.loop-port-test.true c.port-item.is c.args.made.now c.loop-port.made c.loop-port.invariant (sym c.link_from.ensures ∙ w.in_default.is)
    ]
