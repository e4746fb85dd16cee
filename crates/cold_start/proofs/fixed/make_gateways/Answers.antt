use Rattle.std.proofs.Common.{◌≡◌, ◌∙◌, false, true, List, ap, sym, arith}
use Rattle.std.proofs.lemmas.Bool.Decides.{nat_tests}
use Rattle.net_base.specs.declared.address.Mac.{Mac}
use Rattle.cold_start.proofs.Lists.{has, with_one, with_new, with_old, gateways_more}
use Rattle.cold_start.proofs.fixed.make_gateways.Goals as goal
use Rattle.cold_start.proofs.fixed.make_gateways.Goals.{then-not-has_mac+in_ok-push, else-not-has_mac}

pub loop-vlan-preserved : goal.loop-vlan-preserved
loop-vlan-preserved c =
    let made = c.loop-vlan.made in
    let mac = c.vlan-item.result.mac in
    let known : c.has_mac.result ≡ has made mac = c.has_mac.ensures ∙ ap (λ (l : List Mac). has l mac) c.as_slice.ensures in
    let step = gateways_more c.args.vlans.now c.loop-vlan.vlan-index c.vlan-item.result c.loop-vlan-test.true c.vlan-item.is in
    let before = ap (λ (l : List Mac). with_one l mac) c.loop-vlan.invariant in
    elim c.if-not-has_mac.branch [
      | then-not-has_mac+in_ok-push w ↦
          let fresh : c.has_mac.result ≡ false = grind (arith, nat_tests, w.if-not-has_mac.true) in
          w.made-is ∙ w.in_ok-push.ensures.ok ∙ with_new made mac (sym known ∙ fresh) ∙ before ∙ sym step
      | else-not-has_mac w ↦
          let there : c.has_mac.result ≡ true = grind (arith, nat_tests, w.if-not-has_mac.false) in
          w.made-is ∙ with_old made mac (sym known ∙ there) ∙ before ∙ sym step
    ]
