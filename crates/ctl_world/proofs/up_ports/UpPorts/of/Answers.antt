use Rattle.std.proofs.Common.{◌==◌, sym, ap, ◌∙◌}
use Rattle.std.specs.List.{list_any}
use Rattle.std.proofs.lemmas.List.Sorted.{IsNonDecreasingBy-from_sort, list_any-IsPermutation}
use Rattle.ctl_world.proofs.Told.{numbers_told}
use Rattle.ctl_world.proofs.up_ports.UpPorts.of.Goals as goal

pub invariant_of-result : goal.invariant_of-result
invariant_of-result c = IsNonDecreasingBy-from_sort (λ n. n) _ c.sort_unstable.ensures.sorted

pub returns : goal.returns
returns c = λ no.
    sym (list_any-IsPermutation (λ n. n == no) _ _ c.sort_unstable.ensures.permutation) ∙ ap (list_any (λ n. n == no)) c.in_ok-numbers.ensures ∙ numbers_told no c.args.told.now
