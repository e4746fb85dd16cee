use Rattle.std.proofs.Common.{◌≡◌, ◌<◌, ◌∙◌, true, false, Ok, Err, Option, Some, None, arith, ap}
use Rattle.std.proofs.lemmas.Grind.{common_steps}
use Rattle.yaml_tree.specs.declared.tree.Tree.{Tree}
use Rattle.conf_shape.specs.Reads.{entries_of}
use Rattle.conf_gather.specs.Gathered.{held_by, tree_of, gather, each}
use Rattle.conf_gather.specs.declared.refused.LoadRefused.TheVariants.{Read}
use Rattle.conf_gather.specs.Includes.{includes_of}
use Rattle.conf_gather.proofs.FilesLemmas.{read_on}
use Rattle.conf_gather.proofs.GatherLemmas.{Reached, gather_twice, gather_deep, gather_untold, gather_none, gather_wrong, gather_more, each_fails, each_next, each_end, other_err, gather_unread, gather_below, left_next, left_unread}
use Rattle.conf_gather.proofs.gathering.+walk.Goals as goal

pub gather_file-returns-then-was_reached-clause-told : goal.gather_file-returns-then-was_reached-clause-told
gather_file-returns-then-was_reached-clause-told g t c = λ held told.
    let is : Reached c.args.include.now c.args.so_far true = grind (arith, common_steps) in
    gather_twice (held_by (held 0)) c.args.include.now c.args.so_far c.args.levels c.in_ok-copy.field-0 is c.in_ok-copy.ensures

pub gather_file-returns-then-levels-eq0-clause-told : goal.gather_file-returns-then-levels-eq0-clause-told
gather_file-returns-then-levels-eq0-clause-told g t c = λ held told.
    let is : Reached c.args.include.now c.args.so_far false = grind (arith, common_steps) in
    gather_deep (held_by (held 0)) c.args.include.now c.args.so_far c.args.levels c.in_ok-copy-2.field-0 is c.if-levels-eq0.true c.in_ok-copy-2.ensures

pub gather_file-returns-in_err-tree-clause-told : goal.gather_file-returns-in_err-tree-clause-told
gather_file-returns-in_err-tree-clause-told g t c = λ held told.
    let is : Reached c.args.include.now c.args.so_far false = grind (arith, common_steps) in
    let some : 0 < c.args.levels = omega (arith, c.if-levels-eq0.false) in
    let result : c.from_residual-in_err-tree.result ≡ Err c.in_err-tree.field-0.0 = grind (arith, common_steps) in
    rw result (gather_untold (held_by (held 0)) c.args.include.now c.args.so_far c.args.levels c.in_err-tree.field-0.0 is some (c.in_err-tree.ensures.told held told))

pub gather_file-returns-in_err-so_far-in-Some-clause-told : goal.gather_file-returns-in_err-so_far-in-Some-clause-told
gather_file-returns-in_err-so_far-in-Some-clause-told g t c = λ held told.
    let is : Reached c.args.include.now c.args.so_far false = grind (arith, common_steps) in
    let some : 0 < c.args.levels = omega (arith, c.if-levels-eq0.false) in
    let read : tree_of c.args.include.now (held 0 c.args.include.now.name) ≡ Ok (Some c.in-Some.tree) = c.in_ok-tree.ensures.told held told ∙ ap (λ (x : Option Tree). Ok x) c.in-Some.is in
    let result : c.from_residual-in_err-so_far-in-Some.result ≡ Err c.in_err-so_far-in-Some.field-0.0 = grind (arith, common_steps) in
    rw result (gather_wrong (held_by (held 0)) c.args.include.now c.args.so_far c.args.levels c.in-Some.tree is some read c.in_err-so_far-in-Some.field-0.0 c.in_err-so_far-in-Some.ensures.told)

pub gather_file-returns-in-None-clause-told : goal.gather_file-returns-in-None-clause-told
gather_file-returns-in-None-clause-told g t c = λ held told.
    let is : Reached c.args.include.now c.args.so_far false = grind (arith, common_steps) in
    let some : 0 < c.args.levels = omega (arith, c.if-levels-eq0.false) in
    let read : tree_of c.args.include.now (held 0 c.args.include.now.name) ≡ Ok None = c.in_ok-tree.ensures.told held told ∙ ap (λ (x : Option Tree). Ok x) c.in-None.is in
    gather_none (held_by (held 0)) c.args.include.now c.args.so_far c.args.levels is some read

pub gather_file-returns-in_ok-includes-in-Some-clause-told : goal.gather_file-returns-in_ok-includes-in-Some-clause-told
gather_file-returns-in_ok-includes-in-Some-clause-told g t c = λ held told.
    let is : Reached c.args.include.now c.args.so_far false = grind (arith, common_steps) in
    let some : 0 < c.args.levels = omega (arith, c.if-levels-eq0.false) in
    let read : tree_of c.args.include.now (held 0 c.args.include.now.name) ≡ Ok (Some c.in-Some.tree) = c.in_ok-tree.ensures.told held told ∙ ap (λ (x : Option Tree). Ok x) c.in-Some.is in
    let listed : c.as_slice.result.now ≡ includes_of c.args.include.now.name (entries_of c.in-Some.tree) = grind (arith, common_steps) in
    gather_more (held_by (held 0)) c.args.include.now c.args.so_far c.args.levels c.in-Some.tree is some read c.in_ok-so_far-in-Some.so_far c.gather_all.result c.in_ok-so_far-in-Some.ensures.told
    (rw listed at (c.gather_all.ensures.told held (c.read_tree.ensures.files.same_contents ∙ told)))

pub gather_all-returns-in_err-all-clause-told : goal.gather_all-returns-in_err-all-clause-told
gather_all-returns-in_err-all-clause-told g t c = λ held told.
    let result : c.from_residual.result ≡ Err c.in_err-all.field-0.0 = grind (arith, common_steps) in
    rw result (each_fails (gather (held_by (held 0)) c.args.levels) c.args.includes.now c.loop-include.include-index c.loop-include.all c.include-item.result c.loop-include-test.true c.include-item.is
    (each (gather (held_by (held 0)) c.args.levels) c.args.includes.now c.args.so_far) c.in_err-all.field-0.0 (c.loop-include.invariant.told held told) (c.in_err-all.ensures.told held (c.loop-include.invariant.files.same_contents ∙ told)))

pub gather_all-loop-include-preserved : goal.gather_all-loop-include-preserved
gather_all-loop-include-preserved g t c = record {
  told = λ held told.
      each_next (gather (held_by (held 0)) c.args.levels) c.args.includes.now c.loop-include.include-index c.loop-include.all c.include-item.result c.loop-include-test.true c.include-item.is
      (each (gather (held_by (held 0)) c.args.levels) c.args.includes.now c.args.so_far) c.in_ok-all.all (c.loop-include.invariant.told held told) (c.in_ok-all.ensures.told held (c.loop-include.invariant.files.same_contents ∙ told));
  unread = λ held file told.
      left_next file (held 0) c.args.levels c.loop-include.include-index c.args.includes.now c.args.so_far c.loop-include.all c.in_ok-all.all c.include-item.result c.loop-include-test.true c.include-item.is
      (c.loop-include.invariant.unread held file told) (c.in_ok-all.ensures.told held (c.loop-include.invariant.files.same_contents ∙ told));
  files = read_on c.loop-include.invariant.files c.in_ok-all.ensures.files;
}

pub gather_all-returns-clause-told : goal.gather_all-returns-clause-told
gather_all-returns-clause-told g t c = λ held told.
    each_end (gather (held_by (held 0)) c.args.levels) c.args.includes.now c.loop-include.include-index c.loop-include.all
    (each (gather (held_by (held 0)) c.args.levels) c.args.includes.now c.args.so_far) c.loop-include-test.false (c.loop-include.invariant.told held told)

pub gather_file-returns-in_err-tree-clause-unread : goal.gather_file-returns-in_err-tree-clause-unread
gather_file-returns-in_err-tree-clause-unread g t c = λ held file told err.
    let is : Reached c.args.include.now c.args.so_far false = grind (arith, common_steps) in
    let some : 0 < c.args.levels = omega (arith, c.if-levels-eq0.false) in
    let result : c.from_residual-in_err-tree.result ≡ Err c.in_err-tree.field-0.0 = grind (arith, common_steps) in
    gather_unread file (held 0) c.args.levels c.args.include.now c.args.so_far is some (c.in_err-tree.ensures.named file (other_err c.in_err-tree.field-0.0 (Read file) (rw result at err)))

pub gather_file-returns-in_ok-includes-in-Some-clause-unread : goal.gather_file-returns-in_ok-includes-in-Some-clause-unread
gather_file-returns-in_ok-includes-in-Some-clause-unread g t c = λ held file told err.
    let is : Reached c.args.include.now c.args.so_far false = grind (arith, common_steps) in
    let some : 0 < c.args.levels = omega (arith, c.if-levels-eq0.false) in
    let read : held_by (held 0) c.args.include.now ≡ Ok (Some c.in-Some.tree) = c.in_ok-tree.ensures.told held told ∙ ap (λ (x : Option Tree). Ok x) c.in-Some.is in
    let listed : c.as_slice.result.now ≡ includes_of c.args.include.now.name (entries_of c.in-Some.tree) = grind (arith, common_steps) in
    gather_below file (held 0) c.args.levels c.args.include.now c.args.so_far c.in-Some.tree c.in_ok-so_far-in-Some.so_far is some read c.in_ok-so_far-in-Some.ensures.told
    (rw listed at (c.gather_all.ensures.unread held file (c.read_tree.ensures.files.same_contents ∙ told) err))

pub gather_all-returns-in_err-all-clause-unread : goal.gather_all-returns-in_err-all-clause-unread
gather_all-returns-in_err-all-clause-unread g t c = λ held file told err.
    let result : c.from_residual.result ≡ Err c.in_err-all.field-0.0 = grind (arith, common_steps) in
    left_unread file (held 0) c.args.levels c.loop-include.include-index c.args.includes.now c.args.so_far c.loop-include.all c.include-item.result c.loop-include-test.true c.include-item.is
    (c.loop-include.invariant.unread held file told) (c.in_err-all.ensures.unread held file (c.loop-include.invariant.files.same_contents ∙ told) (rw result at err))

pub gather_all-returns-in_err-all-clause-files : goal.gather_all-returns-in_err-all-clause-files
gather_all-returns-in_err-all-clause-files g t c =
    let result : c.from_residual.result ≡ Err c.in_err-all.field-0.0 = grind (arith, common_steps) in
    rw result (read_on c.loop-include.invariant.files c.in_err-all.ensures.files)

pub gather_file-returns-in_ok-includes-in-Some-clause-files : goal.gather_file-returns-in_ok-includes-in-Some-clause-files
gather_file-returns-in_ok-includes-in-Some-clause-files g t c = read_on c.in_ok-tree.ensures.files c.gather_all.ensures.files
