use Rattle.std.proofs.Common.{List, ℕ, ◌++◌, ap, ◌∙◌}
use Rattle.std.proofs.lemmas.Result.{on_ok_weaker}
use Rattle.of13_codec.specs.declared.ports.PortStats.{PortStats}
use Rattle.prom_text.specs.Blocks.{port_block}
use Rattle.prom_text.specs.Samples.{block_text}
use Rattle.gauge_poll.specs.declared.parts.Waiting.{Waiting}
use Rattle.gauge_poll.specs.Lines.{blocks_in}
use Rattle.gauge_poll.proofs.blocks.end_ports.Goals as goal

pub returns-clause-lines : goal.returns-clause-lines
returns-clause-lines c =
    let d = c.args.report.now.dp.now in
    let stats = c.args.stats.now in
    let items = c.as_slice.ensures ∙ c.in_ok-add_ports.ensures ∙ ap (λ (v : Waiting). v.ports ++ stats) c.in_ok-waiting.ensures.taken in
    let text = c.in_ok-port_block.ensures.ok ∙ ap (λ (t : List ℕ). t ++ block_text (port_block d c.as_slice.result.now)) c.new-block.ensures ∙ ap (λ (ps : List PortStats). block_text (port_block d ps)) items in
    on_ok_weaker c.put_blocks.result (λ put. put ∙ ap (λ (t : List ℕ). c.args.lines.now ++ blocks_in c.args.watcher.now t) text) c.put_blocks.ensures
