use Rattle.std.proofs.Common.{rules, ℕ, ◌<◌, arith}
use Rattle.std.proofs.lemmas.List.{length-replicate, get_or-replicate}
use Rattle.conf_rules.proofs.SeenVids.{counts_more}
use Rattle.conf_rules.proofs.vids.count_vids.Goals as goal

pub loop-vlan-init : goal.loop-vlan-init
loop-vlan-init c = (length-replicate {A = ℕ} 4096 0, λ n lt. get_or-replicate 4096 n 0 0 lt)

pub loop-vlan-preserved : goal.loop-vlan-preserved
loop-vlan-preserved c =
    let below : c.from.result < 4096 = search rules in (
      search rules,
      λ n lt.
          counts_more c.loop-vlan.counts c.args.vlans.now c.loop-vlan.vlan-index c.from.result n c.vlan-item.result (omega (arith, below, c.loop-vlan.invariant.0)) c.loop-vlan-test.true c.vlan-item.is (search rules) (c.loop-vlan.invariant.1 n lt),
    )
