use Rattle.std.proofs.Common.{◌++◌, ◌∷◌, [], codes, append_assoc, ap, ◌∙◌}
use Rattle.std.specs.Fmt.{decimal}
use Rattle.std.proofs.lemmas.Result.{on_ok_weaker}
use Rattle.prom_text.specs.Blocks.{flow_name}
use Rattle.gauge_poll.specs.Lines.{columns, lines_in}
use Rattle.gauge_poll.proofs.Columns.{in_dbs}
use Rattle.gauge_poll.proofs.lines.put_flow_lines.Goals as goal

pub returns : goal.returns
returns c =
    let w = c.args.watcher.now in
    let d = c.args.dp.now in
    let f = c.args.flow.now in
    let lines = c.args.lines.now in
    let moment = c.args.moment in
    let source = flow_name f in
    let first = lines_in w moment d source (codes "packets") f.packets in
    let second = lines_in w moment d source (codes "bytes") f.bytes in
    let front = c.in_ok-front.ensures ∙ ap (λ s. columns (decimal moment.0 ∷ d.name ∷ s ∷ [])) c.in_ok-source.ensures in
    on_ok_weaker c.put_lines-2.result
    (λ put. put
    ∙ ap (λ ls. c.put_lines.new.lines ++ ls) (in_dbs w moment d source c.in_ok-front.front (codes "bytes") f.bytes front)
    ∙ ap (λ ls. ls ++ second) (c.in_ok-put_lines.ensures ∙ ap (λ ls. lines ++ ls) (in_dbs w moment d source c.in_ok-front.front (codes "packets") f.packets front))
    ∙ append_assoc lines first second)
    c.put_lines-2.ensures
