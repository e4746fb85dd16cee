use Rattle.std.proofs.Common.{refl}
use Rattle.stack_paths.proofs.stack.are_links.Goals as goal

pub returns-then-are_between_two : goal.returns-then-are_between_two
returns-then-are_between_two c = (λ t. (c.if-are_between_two.ensures.0 refl, c.are_apart.ensures.0 t), λ both. c.are_apart.ensures.1 both.1)
