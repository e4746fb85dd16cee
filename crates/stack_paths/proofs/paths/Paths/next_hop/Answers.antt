use Rattle.std.proofs.Common.{◌≡◌, ℕ, List, Option, Some, None, sym, ap, ◌∙◌, subst, inr}
use Rattle.std.specs.Prelude.{MatchOption, slice_get, slice_index_or}
use Rattle.std.proofs.lemmas.Option.{MatchOption-at_none}
use Rattle.net_base.specs.declared.stack.Node.{Node}
use Rattle.stack_paths.specs.declared.hops.Hop.{Hop}
use Rattle.stack_paths.specs.declared.ways.Ways.{Ways}
use Rattle.stack_paths.specs.Stack.{Stack, ids, IsAt}
use Rattle.stack_paths.specs.Hops.{answer_at}
use Rattle.stack_paths.specs.Tables.{AreTables}
use Rattle.stack_paths.proofs.Lookups.{hop_answer, hop_answer_none, no_walk_to, no_walk_from}
use Rattle.stack_paths.proofs.ChosenHops.{hop_exact}
use Rattle.stack_paths.proofs.paths.Paths.next_hop.Goals as goal
use Rattle.stack_paths.proofs.paths.Paths.next_hop.Goals.{After-hop_at, in_default-via-in-Some+in_default, in_default-via-in_default}

tables : (c : After-hop_at) → AreTables c.args.self.now c.self.inside.ways.items c.self.inside.roots.items c.self.inside.trees.items
tables c = subst (λ (s : Stack). AreTables s c.self.inside.ways.items c.self.inside.roots.items c.self.inside.trees.items) c.self.view_is c.self.invariant

nodes_are : (c : After-hop_at) → c.as_slice-nodes.result.now ≡ c.args.self.now.nodes
nodes_are c = c.as_slice-nodes.ensures ∙ ap (λ (s : Stack). s.nodes) c.self.view_is

at_from : (c : After-hop_at) → IsAt c.args.self.now c.in-Some-Some.from c.args.from
at_from c = subst (λ (ns : List Node). slice_get (ids ns) c.in-Some-Some.from ≡ Some c.args.from) (nodes_are c) c.in-Some-Some.ensures

at_to : (c : After-hop_at) → IsAt c.args.self.now c.in-Some-Some.to c.args.to
at_to c = subst (λ (ns : List Node). slice_get (ids ns) c.in-Some-Some.to ≡ Some c.args.to) (nodes_are c) c.in-Some-Some.ensures'

abbrev Reads : Option ℕ → ℕ → ℕ → List Ways → Ways → Type 0
Reads o i t ws d = MatchOption o (answer_at (slice_index_or ws t d).hops.items i ≡ None) (λ port. (h : Hop) × (answer_at (slice_index_or ws t d).hops.items i ≡ Some h) × (h.port ≡ port))

read : (c : After-hop_at) → (d : Ways) → Reads c.hop_at.result c.in-Some-Some.from c.in-Some-Some.to c.self.inside.ways.items d
read c d = subst (λ (ws : List Ways). Reads c.hop_at.result c.in-Some-Some.from c.in-Some-Some.to ws d) c.as_slice.ensures.value (c.hop_at.ensures d)

pub returns-in-Some-Some-clause-hop : goal.returns-in-Some-Some-clause-hop
returns-in-Some-Some-clause-hop c = hop_answer _ _ _ _ (tables c) _ _ _ _ (at_from c) (at_to c) c.hop_at.result (read c)

pub returns-in-Some-Some-clause-none : goal.returns-in-Some-Some-clause-none
returns-in-Some-Some-clause-none c = hop_answer_none _ _ _ _ (tables c) _ _ _ _ (at_from c) (at_to c) c.hop_at.result (read c)

pub returns-in_default-clause-none : goal.returns-in_default-clause-none
returns-in_default-clause-none c =
    let s = c.args.self.now in
    let are : AreTables s c.self.inside.ways.items c.self.inside.roots.items c.self.inside.trees.items = subst (λ (x : Stack). AreTables x c.self.inside.ways.items c.self.inside.roots.items c.self.inside.trees.items) c.self.view_is c.self.invariant in
    let nodes : c.as_slice-nodes.result.now ≡ s.nodes = c.as_slice-nodes.ensures ∙ ap (λ (x : Stack). x.nodes) c.self.view_is in
    elim c.in_default.branch [
      | in_default-via-in-Some+in_default w ↦ inr (no_walk_to _ _ _ _ are c.args.from c.args.to (λ i e. w.in_default.ensures' i (subst (λ (ns : List Node). slice_get (ids ns) i ≡ Some c.args.to) (sym nodes) e)))
      | in_default-via-in_default w ↦
          let nowhere = MatchOption-at_none ((i : ℕ) → slice_get (ids c.as_slice-nodes.result.now) i ≡ Some c.args.from → ⊥) (λ i. slice_get (ids c.as_slice-nodes.result.now) i ≡ Some c.args.from) w.in_default.is-0 c.place_of.ensures in
          inr (no_walk_from _ _ _ _ are c.args.from c.args.to (λ i e. nowhere i (subst (λ (ns : List Node). slice_get (ids ns) i ≡ Some c.args.from) (sym nodes) e)))
    ]

pub returns-in-Some-Some-clause-exact : goal.returns-in-Some-Some-clause-exact
returns-in-Some-Some-clause-exact c = hop_exact c.args.self.now (tables c).stack c.args.from c.args.to c.hop_at.result (returns-in-Some-Some-clause-hop c) (returns-in-Some-Some-clause-none c)

pub returns-in_default-clause-exact : goal.returns-in_default-clause-exact
returns-in_default-clause-exact c = hop_exact c.args.self.now (subst (λ (x : Stack). AreTables x c.self.inside.ways.items c.self.inside.roots.items c.self.inside.trees.items) c.self.view_is c.self.invariant).stack c.args.from c.args.to None tt (returns-in_default-clause-none c)
