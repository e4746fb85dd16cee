use Rattle.std.proofs.Common.{◌==◌, sym, subst, ap, ◌∙◌}
use Rattle.std.specs.List.{list_any}
use Rattle.std.specs.List.Sorted.{IsNonDecreasing}
use Rattle.std.proofs.lemmas.List.Sorted.{searched}
use Rattle.ctl_world.proofs.Told.{is_among}
use Rattle.ctl_world.proofs.up_ports.UpPorts.has.Goals as goal

pub returns : goal.returns
returns c =
    let numbers = c.as_slice.result.now in
    let rising = subst IsNonDecreasing (sym c.as_slice.ensures.value) c.self.invariant in
    c.is_ok.ensures.value ∙ is_among numbers c.get.result c.binary_search.result (searched numbers c.get.result c.binary_search.result c.binary_search.ensures.position (λ i j le within. rising i j 0 le within))
    ∙ ap (λ m. list_any (λ n. n == m) numbers) c.get.ensures.value ∙ ap (list_any (λ n. n == c.args.no)) (c.as_slice.ensures.value ∙ c.self.view_is)
