use Rattle.std.proofs.Common.{set, sym, ap, ◌∙◌, arith}
use Rattle.std.proofs.lemmas.List.Edits.{map_over_more}
use Rattle.probe_hub.specs.Conn.{taken_in}
use Rattle.probe_hub.proofs.conns.take_in_each.Goals as goal

pub loop-conn-preserved : goal.loop-conn-preserved
loop-conn-preserved c =
    let f = taken_in c.args.links.now c.args.moment in
    let i = c.loop-conn.conn-index in
    let conn = c.conn-item.result in
    let step = map_over_more f c.args.conns.now c.loop-conn.conns i conn (omega arith) c.loop-conn.invariant c.conn-item.is in
    ap (set c.loop-conn.conns i) (c.in_ok-take_in.ensures ∙ ap f (sym c.conn-item.is)) ∙ step
