use Rattle.std.proofs.Common.{ℕ, List, length, sym, subst, arith}
use Rattle.stack_paths.specs.declared.hops.Hop.{Hop}
use Rattle.stack_paths.specs.declared.ways.Ways.{Ways}
use Rattle.stack_paths.specs.Stack.{Stack}
use Rattle.stack_paths.specs.Hops.{IsHops}
use Rattle.stack_paths.specs.Trees.{ReachThemselves, AreRoots, AreUplinks}
use Rattle.stack_paths.specs.Tables.{AreTables}
use Rattle.stack_paths.proofs.WaysLemmas.{reach_themselves}
use Rattle.stack_paths.proofs.paths.Paths.new.Goals as goal

pub roots_of-requires-clause-each : goal.roots_of-requires-clause-each
roots_of-requires-clause-each c =
    let count = length c.args.nodes.now in
    subst (λ (xs : List Ways). ReachThemselves count xs) (sym {A = List Ways} c.as_slice-2.ensures.value)
    (reach_themselves c.as_slice.result.now count c.in_ok-ways.ways.items c.in_ok-ways.ensures.each)

pub invariant_of-result : goal.invariant_of-result
invariant_of-result c =
    let nodes = c.args.nodes.now in
    let s : Stack = record { nodes = nodes; links = c.args.links.now } in
    let ways = c.in_ok-ways.ways.items in
    let roots = c.in_ok-roots.roots.items in
    let uplinks = c.as_slice-5.result.now in
    let made : AreTables s ways roots c.in_ok-trees.trees.items = record {
      hops = c.as_slice.result.now;
      uplinks = uplinks;
      stack = c.requires;
      are_hops = subst (λ (xs : List Hop). IsHops s xs) (sym {A = List Hop} c.as_slice.ensures.value) c.in_ok-hops.ensures.hops;
      ways_len = omega (arith, c.in_ok-ways.ensures.len, c.in_ok-ways.ways.ok.0);
      are_ways = c.in_ok-ways.ensures.each;
      roots_len = omega (arith, c.in_ok-roots.ensures.len, c.in_ok-roots.roots.ok.0);
      are_roots = subst (λ (xs : List Ways). AreRoots nodes xs roots) c.as_slice-2.ensures.value c.in_ok-roots.ensures.roots;
      are_uplinks =
          subst (λ (xs : List Ways). AreUplinks xs roots uplinks) c.as_slice-3.ensures.value
          (subst (λ (xs : List ℕ). AreUplinks c.as_slice-3.result.now xs uplinks) c.as_slice-4.ensures.value
          (subst (λ (xs : List Hop). AreUplinks c.as_slice-3.result.now c.as_slice-4.result.now xs) (sym {A = List Hop} c.as_slice-5.ensures.value) c.in_ok-uplinks.ensures));
      trees_len = omega (arith, c.in_ok-trees.ensures.len, c.in_ok-trees.trees.ok.0);
      are_trees = c.in_ok-trees.ensures.each;
    } in
    rw (c.in_ok-from_slice.ensures, c.in_ok-from_slice-2.ensures) made
