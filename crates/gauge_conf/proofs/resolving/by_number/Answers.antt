use Rattle.std.proofs.Common.{rules, ◌≡◌, Bool, nat_lt, ap, ◌∙◌}
use Rattle.std.proofs.lemmas.List.Sorted.{IsStrictWeakOrder-by_number}
use Rattle.net_base.specs.declared.numbers.DpId.{DpId}
use Rattle.conf_resolve.specs.InOrder.{in_order}
use Rattle.conf_resolve.proofs.Sorting.{sorted_in_order}
use Rattle.gauge_conf.proofs.resolving.by_number.Goals as goal

abbrev before : DpId → DpId → Bool
before a b = nat_lt a.0 b.0

pub returns : goal.returns
returns c =
    let is = sorted_in_order before (IsStrictWeakOrder-by_number (λ (d : DpId). d.0)) _ _ c.in_ok-sort_by.ensures.sorted c.in_ok-sort_by.ensures.stable (λ a r q k. search rules) in
    c.from.ensures ∙ is ∙ ap (in_order before) c.into_vec-sorted.ensures
