use Rattle.std.proofs.Common.{◌≡◌, ℕ, List, Some, Vec, Global, sym, ap, ◌∙◌, subst}
use Rattle.std.specs.Prelude.{slice_get}
use Rattle.net_base.specs.declared.stack.Node.{Node}
use Rattle.stack_paths.specs.Stack.{Stack, ids, IsAt}
use Rattle.stack_paths.specs.Trees.{IsTreeOf}
use Rattle.stack_paths.specs.Tables.{AreTables}
use Rattle.stack_paths.proofs.Places.{ids-within}
use Rattle.stack_paths.proofs.Lookups.{tree_answer}
use Rattle.stack_paths.proofs.paths.Paths.tree_ports.Goals as goal
use Rattle.stack_paths.proofs.paths.Paths.tree_ports.Goals.{After-as_slice-in-Some}

tables : (c : After-as_slice-in-Some) → AreTables c.args.self.now c.self.inside.ways.items c.self.inside.roots.items c.self.inside.trees.items
tables c = subst (λ (s : Stack). AreTables s c.self.inside.ways.items c.self.inside.roots.items c.self.inside.trees.items) c.self.view_is c.self.invariant

at_dp : (c : After-as_slice-in-Some) → IsAt c.args.self.now c.in-Some.place c.args.dp
at_dp c = subst (λ (ns : List Node). slice_get (ids ns) c.in-Some.place ≡ Some c.args.dp) (c.as_slice.ensures ∙ ap (λ (s : Stack). s.nodes) c.self.view_is) c.in-Some.ensures

tree : (c : After-as_slice-in-Some) → IsTreeOf (tables c).uplinks c.in-Some.place c.as_slice-in-Some.result.now
tree c =
    let t = (tables c).are_trees c.in-Some.place c.index.result.now (ids-within c.args.self.now.nodes c.in-Some.place c.args.dp (at_dp c)) in
    let u = subst (λ (v : Vec ℕ Global). IsTreeOf (tables c).uplinks c.in-Some.place v.items) (sym c.index.ensures) t in
    subst (λ (xs : List ℕ). IsTreeOf (tables c).uplinks c.in-Some.place xs) (sym {A = List ℕ} c.as_slice-in-Some.ensures.value) u

pub returns-in-Some-clause-ports : goal.returns-in-Some-clause-ports
returns-in-Some-clause-ports c = tree_answer _ _ _ _ (tables c) c.in-Some.place c.args.dp (at_dp c) c.as_slice-in-Some.result.now (tree c)

pub returns-in-Some-clause-ascending : goal.returns-in-Some-clause-ascending
returns-in-Some-clause-ascending c = (tree c).ascending
