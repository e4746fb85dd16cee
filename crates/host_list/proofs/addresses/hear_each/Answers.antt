use Rattle.std.proofs.Common.{◌≡◌, ◌==◌, Bool, true, false, cond, set, sym, ap, ◌∙◌, arith, eq-eqb, if◌then◌else◌}
use Rattle.std.proofs.lemmas.List.Edits.{map_over_more}
use Rattle.host_list.specs.Addresses.{Entry}
use Rattle.host_list.proofs.Entries.{eqb-false}
use Rattle.host_list.proofs.addresses.hear_each.Goals as goal
use Rattle.host_list.proofs.addresses.hear_each.Goals.{then-entry-place, else-entry-place}

pub loop-entry-preserved : goal.loop-entry-preserved
loop-entry-preserved c =
    let list = c.loop-entry.list in
    let i = c.loop-entry.entry-index in
    let entry = c.entry-item.result in
    let n = c.args.place in
    let step = map_over_more (λ (e : Entry). if e.0 == n then (e.0, record e.1 { learned = c.args.moment }) else e) c.args.list.now list i entry (omega arith) c.loop-entry.invariant c.entry-item.is in
    let written = λ (b : Bool). set list i (cond b (entry.0, record entry.1 { learned = c.args.moment }) entry) in
    elim c.if-entry-place.branch [
      | then-entry-place w ↦ let test : (entry.0 == n) ≡ true = eq-eqb entry.0 n (ap (λ (e : Entry). e.0) c.entry-item.is ∙ w.if-entry-place.true) in w.list-is ∙ ap (λ (e : Entry). set list i (e.0, record e.1 { learned = c.args.moment })) (sym c.entry-item.is) ∙ ap written (sym test) ∙ step
      | else-entry-place w ↦ let test : (entry.0 == n) ≡ false = eqb-false entry.0 n (λ same. w.if-entry-place.false (sym (ap (λ (e : Entry). e.0) c.entry-item.is) ∙ same)) in w.list-is ∙ ap (set list i) (sym c.entry-item.is) ∙ ap written (sym test) ∙ step
    ]
