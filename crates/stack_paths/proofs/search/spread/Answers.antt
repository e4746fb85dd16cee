use Rattle.std.proofs.Common.{◌≡◌, ◌+◌, ◌<◌, ℕ, length, Some, get_or, sym, refl, ◌∙◌, subst, arith, ⊎_elim}
use Rattle.std.proofs.lemmas.Bool.{false≢true}
use Rattle.stack_paths.specs.declared.hops.Hop.{Hop}
use Rattle.stack_paths.specs.Hops.{answer_at}
use Rattle.stack_paths.proofs.Levels.{Spreads-skip, Spreads-mark, level_stays, unmarked-mark, some_or_none}
use Rattle.stack_paths.proofs.search.spread.Goals as goal
use Rattle.stack_paths.proofs.search.spread.Goals.{then-is_new_step, else-is_new_step}

pub loop-hop-preserved : goal.loop-hop-preserved
loop-hop-preserved c =
    let level = c.args.level in
    let hops = c.args.hops.now in
    let old = c.args.marks.now in
    let new = c.loop-hop.marks in
    let i = c.loop-hop.hop-index in
    let hop = c.hop-item.result in
    let so_far = c.loop-hop.invariant.spreads in
    let within : i < length hops = omega arith in
    let is : hop ≡ get_or hops i hop = c.hop-item.is in
    let places = subst (λ (h : Hop). (h.from < length old) × (h.to < length old)) (sym is) (c.requires.places i hop within) in
    let room : hop.from < length new = omega (arith, places) in
    elim c.if-is_new_step.branch [
      | then-is_new_step w ↦
          let test = w.if-is_new_step.ensures.0 refl in
          let fewer = unmarked-mark new hop.from (level + 1) room test.0 in
          record {
            spreads = rw w.marks-is (Spreads-mark hops level old new i hop within is so_far (level + 1) (omega arith) room test.0 (level_stays hops level old new i hop within is so_far hop.to test.1));
            falls = rw (w.marks-is, w.is_new-is) (omega (arith, fewer, c.loop-hop.invariant.falls));
            unchanged = λ e. absurd (false≢true (sym e ∙ w.is_new-is));
          }
      | else-is_new_step w ↦
          let skips : answer_at old hop.to ≡ Some level → (n : ℕ) × (answer_at new hop.from ≡ Some n) =
          λ leads. ⊎_elim (λ h. h) (λ empty. absurd (false≢true (w.if-is_new_step.ensures.1 (empty, so_far.keeps hop.to level leads)))) (some_or_none (answer_at new hop.from)) in
          record {
            spreads = rw w.marks-is (Spreads-skip hops level old new i hop within is so_far skips);
            falls = rw (w.marks-is, w.is_new-is) c.loop-hop.invariant.falls;
            unchanged = λ e. w.marks-is ∙ c.loop-hop.invariant.unchanged (sym w.is_new-is ∙ e);
          }
    ]
