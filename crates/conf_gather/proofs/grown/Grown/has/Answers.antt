use Rattle.std.proofs.Common.{List, sym, ap, ◌∙◌}
use Rattle.yaml_tree.specs.declared.tree.Pair.{Pair}
use Rattle.yaml_subset.specs.Entries.{has_key}
use Rattle.conf_gather.proofs.SoundLemmas.{found_has}
use Rattle.conf_gather.proofs.grown.Grown.has.Goals as goal

pub returns : goal.returns
returns c =
    c.has.ensures ∙ c.self.invariant.0 c.args.key.now
    ∙ ap (λ (pairs : List Pair). has_key pairs c.args.key.now) c.self.view_is
    ∙ sym (found_has c.args.key.now c.args.self.now)
