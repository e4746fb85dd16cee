use Rattle.std.proofs.Common.{◌≡◌, ◌==◌, Bool, true, false, cond, set, sym, ap, ◌∙◌, arith, if◌then◌else◌}
use Rattle.std.proofs.lemmas.List.Edits.{map_over_more}
use Rattle.switch_session.specs.declared.ports.PortTold.{PortTold}
use Rattle.switch_session.proofs.ports.replace.Goals as goal
use Rattle.switch_session.proofs.ports.replace.Goals.{then-eq, else-eq}

pub loop-told-preserved : goal.loop-told-preserved
loop-told-preserved c =
    let port = c.args.port in
    let ports = c.loop-told.ports in
    let i = c.loop-told.told-index in
    let told = c.told-item.result in
    let step = map_over_more (λ (x : PortTold). if x.no == port.no then port else x) c.args.ports.now ports i told (omega arith) c.loop-told.invariant c.told-item.is in
    let same = ap (λ (x : PortTold). x.no == port.no) c.told-item.is in
    let written = λ (b : Bool). set ports i (cond b port told) in
    elim c.if-eq.branch [
      | then-eq w ↦ let test : told.no == port.no ≡ true = same ∙ sym w.if-eq.ensures in w.ports-is ∙ ap written (sym test) ∙ step
      | else-eq w ↦ let test : told.no == port.no ≡ false = same ∙ sym w.if-eq.ensures in w.ports-is ∙ ap (set ports i) (sym c.told-item.is) ∙ ap written (sym test) ∙ step
    ]
