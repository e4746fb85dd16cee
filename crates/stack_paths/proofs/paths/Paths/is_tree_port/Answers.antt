use Rattle.std.proofs.Common.{◌∙◌, subst}
use Rattle.stack_paths.specs.Stack.{Stack}
use Rattle.stack_paths.specs.Tables.{AreTables}
use Rattle.stack_paths.proofs.ChosenHops.{tree_exact}
use Rattle.stack_paths.proofs.paths.Paths.is_tree_port.Goals as goal

-- the list of the tree ports has the port exactly where it is one
pub returns : goal.returns
returns c =
    let s = c.args.self.now in
    let are : AreTables s c.self.inside.ways.items c.self.inside.roots.items c.self.inside.trees.items = subst (λ (x : Stack). AreTables x c.self.inside.ways.items c.self.inside.roots.items c.self.inside.trees.items) c.self.view_is c.self.invariant in
    c.has_port.ensures ∙ tree_exact s are.stack c.args.dp c.args.port c.tree_ports.result.now c.tree_ports.ensures.ports
