use Rattle.std.proofs.Common.{rules, ℕ, ◌<◌, length, arith}
use Rattle.std.proofs.lemmas.List.{length-replicate}
use Rattle.conf_limits.proofs.FirstVlans.{no_firsts, firsts_more}
use Rattle.conf_limits.proofs.numbered.firsts_of.Goals as goal

pub loop-i-init : goal.loop-i-init
loop-i-init c = (length-replicate {A = ℕ} 4096 (length c.args.vlans.now), no_firsts c.args.vlans.now)

pub loop-i-preserved : goal.loop-i-preserved
loop-i-preserved c =
    let below : c.from.result < 4096 = search rules in (
      search rules,
      λ n lt.
          firsts_more c.loop-i.firsts c.args.vlans.now c.loop-i.i _ c.from.result n c.index-vlans-i.result (omega arith) (omega (arith, below, c.loop-i.invariant.0)) (omega arith) c.index-vlans-i.is (search rules) (c.loop-i.invariant.1 n lt),
    )
