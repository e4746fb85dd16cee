use Rattle.std.proofs.Common.{◌≡◌, ◌==◌, Bool, true, false, cond, set, sym, ap, ◌∙◌, arith, if◌then◌else◌}
use Rattle.std.proofs.lemmas.List.Edits.{map_over_more}
use Rattle.probe_hub.specs.declared.marks.Mark.{Mark}
use Rattle.probe_hub.proofs.marks.replace.Goals as goal
use Rattle.probe_hub.proofs.marks.replace.Goals.{then-eq, else-eq}

pub loop-mark-preserved : goal.loop-mark-preserved
loop-mark-preserved c =
    let to = c.args.to in
    let marks = c.loop-mark.marks in
    let i = c.loop-mark.mark-index in
    let mark = c.mark-item.result in
    let step = map_over_more (λ (x : Mark). if x.no == to.no then to else x) c.args.marks.now marks i mark (omega arith) c.loop-mark.invariant c.mark-item.is in
    let same = ap (λ (x : Mark). x.no == to.no) c.mark-item.is in
    let written = λ (b : Bool). set marks i (cond b to mark) in
    elim c.if-eq.branch [
      | then-eq w ↦ let test : mark.no == to.no ≡ true = same ∙ sym w.if-eq.ensures in w.marks-is ∙ ap written (sym test) ∙ step
      | else-eq w ↦ let test : mark.no == to.no ≡ false = same ∙ sym w.if-eq.ensures in w.marks-is ∙ ap (set marks i) (sym c.mark-item.is) ∙ ap written (sym test) ∙ step
    ]
