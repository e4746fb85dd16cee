use Rattle.std.proofs.Common.{◌≡◌, ◌-◌, List, Option, drop, take, length, ℕ, ◌∙◌, ap, arith, length-drop}
use Rattle.std.proofs.lemmas.Grind.{common_steps}
use Rattle.std.proofs.lemmas.List.{take_all}
use Rattle.fg_outside.specs.Wrote.{appended}
use Rattle.fg_outside.proofs.SinkLemmas.{appended-take}
use Rattle.fg_outside.proofs.sink.write_all.Goals as goal

pub loop-done-preserved : goal.loop-done-preserved
loop-done-preserved g c =
    let n = c.in_ok-done.field-0 in
    let done = c.loop-done.done in
    let piece = c.args.piece.now in
    let so_far = c.loop-done.invariant in
    let rest : take (length piece - done) (drop done piece) ≡ drop done piece = take_all _ _ (omega (arith, length-drop done piece)) in (
      grind (arith, common_steps),
      c.in_ok-done.ensures.took
          ∙ ap (λ (l : List ℕ). appended (g.S.Sink.wrote c.loop-done.sink) (take n l)) rest
          ∙ ap (λ (taken : Option (List ℕ)). appended taken (take n (drop done piece))) so_far.1
          ∙ appended-take (g.S.Sink.wrote c.args.sink.now) piece done n,
      c.in_ok-done.ensures.no_fault ∙ so_far.2,
    )
