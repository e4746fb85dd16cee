use Rattle.std.proofs.Common.{◌≡◌, ◌+◌, drop, nat_lt}
use Rattle.std.specs.List.{prefix_len}
use Rattle.conf_json.proofs.lists.place_of.Given as goal

-- each so far is less
abbrev pub invariant-loop-i : goal.invariant-loop-i
invariant-loop-i l = l.i + prefix_len (λ m. nat_lt m l.number) (drop l.i l.numbers) ≡ prefix_len (λ m. nat_lt m l.number) l.numbers
