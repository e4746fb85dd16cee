use Rattle.std.proofs.Common.{◌≡◌, Bool, true, false, cond, set, sym, ap, ◌∙◌, arith, if◌then◌else◌}
use Rattle.std.proofs.lemmas.List.Edits.{map_over_more}
use Rattle.conf_types.specs.declared.state.HostRec.{HostRec}
use Rattle.host_learn.specs.Learning.{is_in_place}
use Rattle.test_hosts.proofs.plain.refresh.Goals as goal
use Rattle.test_hosts.proofs.plain.refresh.Goals.{then-is_in_place, else-is_in_place}

pub loop-host-preserved : goal.loop-host-preserved
loop-host-preserved c =
    let heard = c.args.heard.now in
    let hosts = c.loop-host.hosts in
    let i = c.loop-host.host-index in
    let host = c.host-item.result in
    let step = map_over_more (λ (x : HostRec). if is_in_place heard x then record x { learned = heard.learned } else x) c.args.hosts.now hosts i host (omega arith) c.loop-host.invariant c.host-item.is in
    let same = ap (is_in_place heard) c.host-item.is ∙ sym c.is_in_place.ensures in
    let written = λ (b : Bool). set hosts i (cond b (record host { learned = heard.learned }) host) in
    elim c.if-is_in_place.branch [
      | then-is_in_place w ↦ let test : is_in_place heard host ≡ true = same ∙ w.if-is_in_place.true in w.hosts-is ∙ ap (λ (x : HostRec). set hosts i (record x { learned = heard.learned })) (sym c.host-item.is) ∙ ap written (sym test) ∙ step
      | else-is_in_place w ↦ let test : is_in_place heard host ≡ false = same ∙ w.if-is_in_place.false in w.hosts-is ∙ ap (set hosts i) (sym c.host-item.is) ∙ ap written (sym test) ∙ step
    ]
