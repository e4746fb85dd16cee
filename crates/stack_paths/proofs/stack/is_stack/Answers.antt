use Rattle.std.proofs.Common.{refl}
use Rattle.stack_paths.proofs.stack.is_stack.Goals as goal

pub returns-then-are_nodes : goal.returns-then-are_nodes
returns-then-are_nodes c =
    let nodes = c.if-are_nodes.ensures.0 refl in (
      λ t. let links = c.are_links.ensures.0 t in record { at_most_64 = nodes.0; distinct = nodes.1; between_two = links.0; ports_apart = links.1 },
      λ is. c.are_links.ensures.1 (is.between_two, is.ports_apart),
    )
