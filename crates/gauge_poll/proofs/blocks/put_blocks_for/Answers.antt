use Rattle.std.proofs.Common.{◌++◌, not, sym, ap, ◌∙◌}
use Rattle.std.proofs.lemmas.Result.{on_ok_weaker}
use Rattle.prom_text.specs.Blocks.{flow_block, port_block}
use Rattle.prom_text.specs.Samples.{block_text}
use Rattle.gauge_poll.specs.declared.telling.Telling.{Telling}
use Rattle.gauge_poll.specs.Lines.{blocks_for, blocks_in}
use Rattle.gauge_poll.specs.Newest.{waits_of}
use Rattle.gauge_poll.proofs.Columns.{all_taken, none_behind, none_taken}
use Rattle.gauge_poll.proofs.blocks.put_blocks_for.Goals as goal

pub returns-then-not-is_taken-clause-lines : goal.returns-then-not-is_taken-clause-lines
returns-then-not-is_taken-clause-lines c =
    let w = c.args.watcher.now in
    let r = c.args.report.now in
    let lines = c.args.lines.now in
    let waiting = waits_of c.args.parts.now r.conn c.args.place in
    let none = sym c.takes-is_taken.ensures ∙ c.if-not-is_taken.true in
    sym (none_behind lines)
    ∙ ap (λ ls. lines ++ ls) (sym (none_taken w (block_text (port_block r.dp.now (waiting.ports ++ c.in-Ports.stats))) c.args.counted (not c.in-Ports.more) none))
    ∙ ap (λ (t : Telling). lines ++ blocks_for w c.args.counted t waiting r.dp.now) (sym c.in-Ports.is)

pub returns-then-not-is_taken-2-clause-lines : goal.returns-then-not-is_taken-2-clause-lines
returns-then-not-is_taken-2-clause-lines c =
    let w = c.args.watcher.now in
    let r = c.args.report.now in
    let lines = c.args.lines.now in
    let waiting = waits_of c.args.parts.now r.conn c.args.place in
    let part = c.in-Flows.part in
    let none = sym c.takes-is_taken.ensures ∙ c.if-not-is_taken-2.true in
    sym (none_behind lines)
    ∙ ap (λ ls. lines ++ ls) (sym (none_taken w (block_text (flow_block r.dp.now (waiting.flows ++ part.flows))) c.args.counted (not part.more) none))
    ∙ ap (λ (t : Telling). lines ++ blocks_for w c.args.counted t waiting r.dp.now) (sym c.in-Flows.is)

pub returns-else-more-clause-lines : goal.returns-else-more-clause-lines
returns-else-more-clause-lines c =
    let w = c.args.watcher.now in
    let r = c.args.report.now in
    let lines = c.args.lines.now in
    let waiting = waits_of c.args.parts.now r.conn c.args.place in
    let takes = sym c.takes-is_taken.ensures ∙ c.if-not-is_taken.false in
    let block = block_text (port_block r.dp.now (waiting.ports ++ c.in-Ports.stats)) in
    on_ok_weaker c.end_ports.result
    (λ put. put
    ∙ ap (λ ps. lines ++ blocks_in w (block_text (port_block r.dp.now (waiting.ports ++ ps)))) c.as_slice-in-Ports.ensures
    ∙ ap (λ ls. lines ++ ls) (sym (all_taken w block c.args.counted c.in-Ports.more takes c.if-more.false))
    ∙ ap (λ (t : Telling). lines ++ blocks_for w c.args.counted t waiting r.dp.now) (sym c.in-Ports.is))
    c.end_ports.ensures.lines

pub returns-else-part-clause-lines : goal.returns-else-part-clause-lines
returns-else-part-clause-lines c =
    let w = c.args.watcher.now in
    let r = c.args.report.now in
    let lines = c.args.lines.now in
    let waiting = waits_of c.args.parts.now r.conn c.args.place in
    let part = c.in-Flows.part in
    let takes = sym c.takes-is_taken.ensures ∙ c.if-not-is_taken-2.false in
    let block = block_text (flow_block r.dp.now (waiting.flows ++ part.flows)) in
    on_ok_weaker c.end_flows.result
    (λ put. put
    ∙ ap (λ fs. lines ++ blocks_in w (block_text (flow_block r.dp.now (waiting.flows ++ fs)))) c.as_slice-flows.ensures
    ∙ ap (λ ls. lines ++ ls) (sym (all_taken w block c.args.counted part.more takes c.if-part.false))
    ∙ ap (λ (t : Telling). lines ++ blocks_for w c.args.counted t waiting r.dp.now) (sym c.in-Flows.is))
    c.end_flows.ensures.lines

pub returns-in-State-clause-lines : goal.returns-in-State-clause-lines
returns-in-State-clause-lines c =
    let r = c.args.report.now in
    let waiting = waits_of c.args.parts.now r.conn c.args.place in
    on_ok_weaker c.put_state_blocks.result
    (λ put. put ∙ ap (λ (t : Telling). c.args.lines.now ++ blocks_for c.args.watcher.now c.args.counted t waiting r.dp.now) (sym c.in-State.is))
    c.put_state_blocks.ensures
