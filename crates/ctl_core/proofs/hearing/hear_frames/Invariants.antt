use Rattle.std.proofs.Common.{◌≡◌, ◌+◌, ◌-◌, ◌≤◌, false}
use Rattle.ctl_core.specs.Allowed.{frames_allow}
use Rattle.ctl_core.specs.Changes.{any_changes}
use Rattle.ctl_core.specs.Hearing.{hear_frames}
use Rattle.ctl_core.specs.Known.{HasSettled, IsEarly}
use Rattle.ctl_core.proofs.hearing.hear_frames.Given as goal

-- what is left to hear completes the whole, and what it allows what the whole does; where none of it changes anything,
-- nothing was counted so far
abbrev pub invariant-loop : goal.invariant-loop
invariant-loop g l =
    (hear_frames (l.most - l.counter) l.conn l.known.world ≡ hear_frames l.most l.conn l.fn.known.world) × HasSettled l.known
    × (any_changes l.most l.conn l.fn.known.world ≡ false → IsEarly l.fn.known
    → (any_changes (l.most - l.counter) l.conn l.known.world ≡ false) × IsEarly l.known × (g.T.Tally.count l.units ≡ g.T.Tally.count l.fn.units))
    × (g.T.Tally.count l.units + frames_allow (l.most - l.counter) l.conn l.known.world ≤ g.T.Tally.count l.fn.units + frames_allow l.most l.conn l.fn.known.world)
