use Rattle.std.proofs.Common.{◌∙◌, ap}
use Rattle.bench_story.specs.declared.counted.Counts.{Counts}
use Rattle.bench_story.specs.Counted.{barrier_request, flow_mod}
use Rattle.bench_story.proofs.Measures.{all_measured, no_fewer}
use Rattle.bench_story.proofs.measuring.measure_hosts.Goals as goal

pub overflow_sub-batches : goal.overflow_sub-batches
overflow_sub-batches g c =
    let first = c.requires in
    let last = c.in_ok-bring_hosts.ensures first in
    no_fewer barrier_request c.args.hosts _ _ (ap (λ (t : Counts). t.batches) c.counts-all.ensures ∙ last.knows.batches) (ap (λ (t : Counts). t.batches) c.counts-opening.ensures ∙ first.knows.batches)

pub overflow_sub-commands : goal.overflow_sub-commands
overflow_sub-commands g c =
    let first = c.requires in
    let last = c.in_ok-bring_hosts.ensures first in
    no_fewer flow_mod c.args.hosts _ _ (ap (λ (t : Counts). t.commands) c.counts-all.ensures ∙ last.knows.commands) (ap (λ (t : Counts). t.commands) c.counts-opening.ensures ∙ first.knows.commands)

pub returns : goal.returns
returns g c =
    let first = c.requires in
    let last = c.in_ok-bring_hosts.ensures first in
    all_measured c.args.hosts _ _ _ _ _ _ (c.in_ok-known.ensures _ last) (ap (λ (t : Counts). t.batches) c.counts-all.ensures ∙ last.knows.batches) (ap (λ (t : Counts). t.commands) c.counts-all.ensures ∙ last.knows.commands)
    (ap (λ (t : Counts). t.sum) c.counts-all.ensures ∙ last.knows.sum) (ap (λ (t : Counts). t.batches) c.counts-opening.ensures ∙ first.knows.batches) (ap (λ (t : Counts). t.commands) c.counts-opening.ensures ∙ first.knows.commands)
