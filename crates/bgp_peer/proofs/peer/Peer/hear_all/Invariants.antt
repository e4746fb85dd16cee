use Rattle.std.proofs.Common.{◌≡◌, ◌-◌, length}
use Rattle.bgp_peer.specs.Turns.{known, hear_each}
use Rattle.bgp_peer.proofs.peer.Peer.hear_all.Given as goal

-- what is left to hear leads to the whole
abbrev pub invariant-loop : goal.invariant-loop
invariant-loop l = hear_each (length l.unread - l.counter) (known l.self l.rest) ≡ hear_each (length l.unread) (known l.fn.self l.unread)
