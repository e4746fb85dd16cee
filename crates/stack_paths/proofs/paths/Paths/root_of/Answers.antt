use Rattle.std.proofs.Common.{◌≡◌, ℕ, List, Some, ap, ◌∙◌, subst}
use Rattle.std.specs.Prelude.{slice_get, slice_index_or}
use Rattle.net_base.specs.declared.stack.Node.{Node}
use Rattle.stack_paths.specs.Stack.{Stack, ids, IsAt}
use Rattle.stack_paths.specs.Tables.{AreTables}
use Rattle.stack_paths.proofs.Lookups.{root_answer}
use Rattle.stack_paths.proofs.paths.Paths.root_of.Goals as goal

pub returns-in-Some-clause-root : goal.returns-in-Some-clause-root
returns-in-Some-clause-root c =
    let s = c.args.self.now in
    let are : AreTables s c.self.inside.ways.items c.self.inside.roots.items c.self.inside.trees.items = subst (λ (x : Stack). AreTables x c.self.inside.ways.items c.self.inside.roots.items c.self.inside.trees.items) c.self.view_is c.self.invariant in
    let nodes : c.as_slice-nodes.result.now ≡ s.nodes = c.as_slice-nodes.ensures ∙ ap (λ (x : Stack). x.nodes) c.self.view_is in
    let at : IsAt s c.in-Some.place c.args.dp = subst (λ (ns : List Node). slice_get (ids ns) c.in-Some.place ≡ Some c.args.dp) nodes c.in-Some.ensures in
    root_answer _ _ _ _ are c.in-Some.place c.args.dp c.root_at.result at
    (λ x. subst (λ (ns : List Node). slice_get (ids ns) (slice_index_or c.self.inside.roots.items c.in-Some.place x) ≡ Some c.root_at.result) nodes
    (subst (λ (rs : List ℕ). slice_get (ids c.as_slice-nodes.result.now) (slice_index_or rs c.in-Some.place x) ≡ Some c.root_at.result) c.as_slice.ensures.value (c.root_at.ensures x)))
