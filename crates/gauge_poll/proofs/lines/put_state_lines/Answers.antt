use Rattle.std.proofs.Common.{◌++◌, ◌∷◌, ℕ, List, [], codes, Bool, sym, ap, ◌∙◌, if◌then◌else◌}
use Rattle.std.specs.Fmt.{decimal}
use Rattle.std.proofs.lemmas.Result.{on_ok_weaker}
use Rattle.prom_text.specs.Blocks.{port_name}
use Rattle.gauge_poll.specs.Lines.{columns, lines_in, state_of}
use Rattle.gauge_poll.proofs.Columns.{in_dbs, none_behind}
use Rattle.gauge_poll.proofs.lines.put_state_lines.Goals as goal

pub returns-then-not-tells_states : goal.returns-then-not-tells_states
returns-then-not-tells_states c =
    let w = c.args.watcher.now in
    let d = c.args.dp.now in
    let port = c.args.port.now in
    let lines : List (List ℕ) = c.args.lines.now in
    sym (none_behind lines)
    ∙ ap (λ (b : Bool). lines ++ (if b then lines_in w c.args.moment d (port_name d port.no) (codes "state") (state_of c.args.reason port) else [])) c.if-not-tells_states.ensures

pub returns : goal.returns
returns c =
    let w = c.args.watcher.now in
    let d = c.args.dp.now in
    let port = c.args.port.now in
    let lines : List (List ℕ) = c.args.lines.now in
    let source = port_name d port.no in
    let front = c.in_ok-front.ensures ∙ ap (λ s. columns (decimal c.args.moment.0 ∷ d.name ∷ s ∷ [])) c.in_ok-source.ensures in
    on_ok_weaker c.put_lines.result
    (λ put. put
    ∙ ap (λ ls. lines ++ ls) (in_dbs w c.args.moment d source c.in_ok-front.front (codes "state") c.state_of-state.result front)
    ∙ ap (λ v. lines ++ lines_in w c.args.moment d source (codes "state") v) c.state_of-state.ensures
    ∙ ap (λ (b : Bool). lines ++ (if b then lines_in w c.args.moment d source (codes "state") (state_of c.args.reason port) else [])) c.if-not-tells_states.ensures)
    c.put_lines.ensures
