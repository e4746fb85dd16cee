use Rattle.std.proofs.Common.{◌≡◌, List, Some, sym, ap, ◌∙◌, subst}
use Rattle.std.specs.Prelude.{slice_get, slice_index_or}
use Rattle.net_base.specs.declared.stack.Node.{Node}
use Rattle.stack_paths.specs.declared.ways.Ways.{Ways}
use Rattle.stack_paths.specs.Stack.{Stack, ids, IsAt}
use Rattle.stack_paths.specs.Hops.{answer_at}
use Rattle.stack_paths.specs.Tables.{AreTables}
use Rattle.stack_paths.proofs.Lookups.{distance_walk, distance_least, distance_none, no_walk_to}
use Rattle.stack_paths.proofs.paths.Paths.distance.Goals as goal
use Rattle.stack_paths.proofs.paths.Paths.distance.Goals.{After-distance_at}

tables : (c : After-distance_at) → AreTables c.args.self.now c.self.inside.ways.items c.self.inside.roots.items c.self.inside.trees.items
tables c = subst (λ (s : Stack). AreTables s c.self.inside.ways.items c.self.inside.roots.items c.self.inside.trees.items) c.self.view_is c.self.invariant

nodes_are : (c : After-distance_at) → c.as_slice-nodes.result.now ≡ c.args.self.now.nodes
nodes_are c = c.as_slice-nodes.ensures ∙ ap (λ (s : Stack). s.nodes) c.self.view_is

at_from : (c : After-distance_at) → IsAt c.args.self.now c.in-Some-Some.from c.args.from
at_from c = subst (λ (ns : List Node). slice_get (ids ns) c.in-Some-Some.from ≡ Some c.args.from) (nodes_are c) c.in-Some-Some.ensures

at_to : (c : After-distance_at) → IsAt c.args.self.now c.in-Some-Some.to c.args.to
at_to c = subst (λ (ns : List Node). slice_get (ids ns) c.in-Some-Some.to ≡ Some c.args.to) (nodes_are c) c.in-Some-Some.ensures'

read : (c : After-distance_at) → (d : Ways) → c.distance_at.result ≡ answer_at (slice_index_or c.self.inside.ways.items c.in-Some-Some.to d).distances.items c.in-Some-Some.from
read c d = subst (λ (ws : List Ways). c.distance_at.result ≡ answer_at (slice_index_or ws c.in-Some-Some.to d).distances.items c.in-Some-Some.from) c.as_slice.ensures.value (c.distance_at.ensures d)

pub returns-in-Some-Some-clause-walk : goal.returns-in-Some-Some-clause-walk
returns-in-Some-Some-clause-walk c = distance_walk _ _ _ _ (tables c) _ _ _ _ (at_from c) (at_to c) c.distance_at.result (read c)

pub returns-in-Some-Some-clause-least : goal.returns-in-Some-Some-clause-least
returns-in-Some-Some-clause-least c = distance_least _ _ _ _ (tables c) _ _ _ _ (at_from c) (at_to c) c.distance_at.result (read c)

pub returns-in-Some-Some-clause-none : goal.returns-in-Some-Some-clause-none
returns-in-Some-Some-clause-none c = distance_none _ _ _ _ (tables c) _ _ _ _ (at_from c) (at_to c) c.distance_at.result (read c)

pub returns-in_default-clause-none : goal.returns-in_default-clause-none
returns-in_default-clause-none c =
    let s = c.args.self.now in
    let are : AreTables s c.self.inside.ways.items c.self.inside.roots.items c.self.inside.trees.items = subst (λ (x : Stack). AreTables x c.self.inside.ways.items c.self.inside.roots.items c.self.inside.trees.items) c.self.view_is c.self.invariant in
    let nodes : c.as_slice-nodes.result.now ≡ s.nodes = c.as_slice-nodes.ensures ∙ ap (λ (x : Stack). x.nodes) c.self.view_is in
    no_walk_to _ _ _ _ are c.args.from c.args.to (λ i e. c.in_default.ensures' i (subst (λ (ns : List Node). slice_get (ids ns) i ≡ Some c.args.to) (sym nodes) e))
