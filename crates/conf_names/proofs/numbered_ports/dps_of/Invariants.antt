use Rattle.std.proofs.Common.{◌≡◌, ℕ, drop}
use Rattle.std.specs.BTreeMap.{get}
use Rattle.std.specs.Option.{option_map}
use Rattle.std.specs.Ordering.{nat_cmp}
use Rattle.conf_names.specs.NumberedPorts.{dp_numbered}
use Rattle.conf_names.proofs.numbered_ports.dps_of.Given as goal

-- those from here on are there
abbrev pub invariant-loop-i : goal.invariant-loop-i
invariant-loop-i l = (n : ℕ) → option_map (λ t. t.dp.now) (get nat_cmp l.made n) ≡ dp_numbered (drop l.i l.dps) n
