use Rattle.std.proofs.Common.{◌++◌, List, ℕ, [], ◌∷◌, codes, sym, ap, ◌∙◌}
use Rattle.std.proofs.lemmas.List.{append-nil}
use Rattle.prom_text.specs.Blocks.{Row, metric, state_block, state_row}
use Rattle.prom_text.specs.Samples.{block_text, metric_text}
use Rattle.prom_text.proofs.blocks.make_state_block.Goals as goal

pub returns : goal.returns
unfolding block_text state_block
returns c =
    let told : List Row = state_row c.args.dp.now c.args.port c.args.up ∷ [] in
    let state : List ℕ = metric_text (metric (codes "of_port_state") (codes "gauge") 0 told) in
    let one = c.in_ok-put_metric.ensures told (c.as_slice.ensures ∙ c.in_ok-rows.ensures) ∙ ap (λ (l : List ℕ). l ++ state) c.new-text.ensures ∙ sym (append-nil state) in
    c.in_ok-append.ensures.ok ∙ ap (λ (l : List ℕ). l ++ codes "\n") one
