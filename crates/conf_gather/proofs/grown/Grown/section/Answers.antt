use Rattle.std.proofs.Common.{List, slice_get, option_and_then, ap, ◌∙◌}
use Rattle.std.specs.Option.{option_map}
use Rattle.yaml_tree.specs.declared.tree.Pair.{Pair}
use Rattle.conf_gather.specs.Known.{section_key}
use Rattle.conf_gather.proofs.JoinLemmas.{value_told}
use Rattle.conf_gather.proofs.SectionLemmas.{known_here}
use Rattle.conf_gather.proofs.grown.Grown.section.Goals as goal

pub returns : goal.returns
returns c =
    c.value_at.ensures
    ∙ ap (λ (l : List Pair). option_map (λ p. p.value) (option_and_then (slice_get l) c.of.result.now.at)) (c.as_slice.ensures ∙ c.self.view_is)
    ∙ value_told (section_key c.args.section) c.args.self.now c.of.result.now.at
    (known_here c.self.inside.pairs c.args.self.now c.args.section c.self.inside.sections c.of.result.now c.self.invariant.1 c.of.ensures c.self.view_is).place
