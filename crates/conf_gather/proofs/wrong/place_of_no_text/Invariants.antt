use Rattle.std.proofs.Common.{◌≡◌, drop}
use Rattle.conf_gather.specs.WrongTypes.{place_of_no_text}
use Rattle.conf_gather.proofs.wrong.place_of_no_text.Given as goal

-- the items so far are texts
abbrev pub invariant-loop-i : goal.invariant-loop-i
invariant-loop-i l = place_of_no_text l.i (drop l.i l.items) ≡ place_of_no_text 0 l.items
