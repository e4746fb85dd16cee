use Rattle.std.proofs.Common.{◌≡◌, ◌+◌, ◌*◌, ◌++◌, take, get_or}
use Rattle.std.specs.Str.{IsUtf8}
use Rattle.net_base.specs.Address.{pair_text, behind_text}
use Rattle.net_base.proofs.ascii.put_mac.Given as goal

-- the first pair, and those behind it so far
abbrev pub invariant-loop-byte : goal.invariant-loop-byte
invariant-loop-byte l = record {
  place : l.at ≡ 2 + 3 * l.byte-index;
  written : take l.at l.buffer ≡ pair_text (get_or l.fn.mac 0 0) ++ behind_text (take l.byte-index l.byte-items);
  utf8 : IsUtf8 (take l.at l.buffer);
}
