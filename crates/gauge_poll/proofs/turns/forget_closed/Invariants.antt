use Rattle.std.proofs.Common.{◌≡◌, ℕ, true}
use Rattle.ctl_world.specs.Connections.{is_open}
use Rattle.gauge_poll.specs.Newest.{at, waits_of}
use Rattle.gauge_poll.proofs.turns.forget_closed.Given as goal

abbrev pub invariant-loop-one : goal.invariant-loop-one
invariant-loop-one l =
    ((conn place : ℕ) → is_open l.conns conn ≡ true → at l.newest conn place ≡ at l.fn.newest conn place)
    × ((conn place : ℕ) → is_open l.conns conn ≡ true → waits_of l.parts conn place ≡ waits_of l.fn.parts conn place)
