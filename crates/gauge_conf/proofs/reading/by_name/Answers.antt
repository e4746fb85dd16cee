use Rattle.std.proofs.Common.{rules, ◌≡◌, ap, ◌∙◌}
use Rattle.std.specs.Cmp.Lexicographic.{nat_list_cmp_total}
use Rattle.std.proofs.lemmas.List.Sorted.{ranks_by}
use Rattle.conf_resolve.specs.InOrder.{in_order}
use Rattle.conf_resolve.proofs.Sorting.{sorted_in_order}
use Rattle.gauge_conf.specs.declared.raw.RawWatcher.{RawWatcher}
use Rattle.gauge_conf.specs.Raw.{is_before}
use Rattle.gauge_conf.proofs.reading.by_name.Goals as goal

pub returns : goal.returns
returns c =
    let is = sorted_in_order is_before (ranks_by nat_list_cmp_total (λ (w : RawWatcher). w.name)) _ _ c.in_ok-sort_by.ensures.sorted c.in_ok-sort_by.ensures.stable (λ a r q k. search rules) in
    c.from.ensures ∙ is ∙ ap (in_order is_before) c.into_vec-sorted.ensures
