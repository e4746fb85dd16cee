use Rattle.std.proofs.Common.{◌++◌, List, ℕ, codes, sym, ap, ◌∙◌}
use Rattle.std.proofs.lemmas.List.{append-nil}
use Rattle.prom_text.specs.Blocks.{flow_block, flow_rows, metric}
use Rattle.prom_text.specs.Samples.{block_text, metric_text}
use Rattle.prom_text.proofs.blocks.make_flow_block.Goals as goal

pub returns : goal.returns
unfolding block_text flow_block
returns c =
    let told = flow_rows c.args.dp.now c.args.flows.now in
    let packets : List ℕ = metric_text (metric (codes "of_flow_packets") (codes "counter") 0 told) in
    let octets : List ℕ = metric_text (metric (codes "of_flow_bytes") (codes "counter") 1 told) in
    let one = c.in_ok-put_metric.ensures told (c.as_slice.ensures ∙ c.in_ok-rows.ensures) ∙ ap (λ (l : List ℕ). l ++ packets) c.new-text.ensures in
    let two = c.in_ok-put_metric-2.ensures told (c.as_slice-2.ensures ∙ c.in_ok-rows.ensures) ∙ ap (λ (l : List ℕ). l ++ octets) one ∙ ap (λ (l : List ℕ). packets ++ l) (sym (append-nil octets)) in
    c.in_ok-append.ensures.ok ∙ ap (λ (l : List ℕ). l ++ codes "\n") two
