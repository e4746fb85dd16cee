use Rattle.std.proofs.Common.{refl, ap, ◌++◌, ◌∷◌, [], ◌∙◌, arith}
use Rattle.std.specs.Fmt.{decimal}
use Rattle.prom_text.specs.Blocks.{counter_names, port_name}
use Rattle.gauge_poll.specs.Lines.{columns}
use Rattle.gauge_poll.proofs.Columns.{counted_end, counted_more, in_dbs}
use Rattle.gauge_poll.proofs.lines.put_counted_lines.Goals as goal

pub loop-at-preserved : goal.loop-at-preserved
loop-at-preserved c =
    let w = c.args.watcher.now in
    let d = c.args.dp.now in
    let port = c.args.port.now in
    let source = port_name d port.no in
    let front = c.in_ok-front.ensures ∙ ap (λ s. columns (decimal c.args.moment.0 ∷ d.name ∷ s ∷ [])) c.in_ok-source.ensures in
    counted_more w c.args.moment d source _ c.loop-at.lines c.put_lines.new.lines counter_names port.counters c.loop-at.at c.counter_name.result.now _ c.counter_name.ensures (omega arith) refl c.loop-at.invariant
    (c.in_ok-put_lines.ensures ∙ ap (λ ls. c.loop-at.lines ++ ls) (in_dbs w c.args.moment d source c.in_ok-front.front c.counter_name.result.now _ front))

pub returns : goal.returns
returns c =
    let d = c.args.dp.now in
    let port = c.args.port.now in
    counted_end c.args.watcher.now c.args.moment d (port_name d port.no) _ c.loop-at.lines counter_names port.counters c.loop-at.at c.loop-at-test.false c.loop-at.invariant
