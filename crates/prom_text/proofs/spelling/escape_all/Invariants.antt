use Rattle.std.proofs.Common.{◌≡◌, take}
use Rattle.prom_text.specs.Samples.{escaped}
use Rattle.prom_text.proofs.spelling.escape_all.Given as goal

abbrev pub invariant-loop-byte : goal.invariant-loop-byte
invariant-loop-byte l = l.made ≡ escaped (take l.byte-index l.bytes)
