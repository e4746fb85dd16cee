use Rattle.std.proofs.Common.{◌≡◌, take, map, decimal}
use Rattle.conf_json.proofs.lists.decimals.Given as goal

-- the texts so far are those of the items so far
abbrev pub invariant-loop-number : goal.invariant-loop-number
invariant-loop-number l = l.made ≡ map decimal (take l.number-index l.numbers)
