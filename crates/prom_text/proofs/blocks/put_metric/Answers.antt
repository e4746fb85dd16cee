use Rattle.std.proofs.Common.{◌≡◌, ◌++◌, List, ap, ◌∙◌}
use Rattle.std.specs.List.{flat_map}
use Rattle.std.proofs.lemmas.List.{take_all}
use Rattle.prom_text.specs.declared.rows.Row.{Row as Spelled}
use Rattle.prom_text.specs.Samples.{type_line}
use Rattle.prom_text.proofs.RowLaws.{line_of, metric_done}
use Rattle.prom_text.proofs.blocks.put_metric.Goals as goal

pub returns : goal.returns
returns c =
    let name = c.args.name.now in
    let kind = c.args.kind.now in
    let place = c.args.place in
    let whole : c.loop-row.out ≡ c.args.out.now ++ (type_line name kind ++ flat_map (line_of name place) c.args.rows.now) =
    c.loop-row.invariant ∙ ap (λ (rows : List Spelled). c.args.out.now ++ (type_line name kind ++ flat_map (line_of name place) rows)) (take_all c.loop-row.row-index c.args.rows.now c.loop-row-test.false) in
    λ told are. metric_done c.args.out.now c.loop-row.out name kind place c.args.rows.now told whole are
