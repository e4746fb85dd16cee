use Rattle.std.proofs.Common.{◌≡◌, ◌++◌, take, map}
use Rattle.plan_base.specs.Fields.{eth_src}
use Rattle.plan_units.specs.Fixed.{drop}
use Rattle.cold_start.proofs.fixed.push_spoofed.Given as goal

-- the drops of the addresses so far
abbrev pub invariant-loop-mac : goal.invariant-loop-mac
invariant-loop-mac l = l.out ≡ l.fn.out ++ map (λ mac. drop 30 (eth_src mac)) (take l.mac-index l.macs)
