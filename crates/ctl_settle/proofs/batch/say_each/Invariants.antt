use Rattle.std.proofs.Common.{◌≡◌, drop}
use Rattle.ctl_settle.specs.Settling.{say_each}
use Rattle.ctl_settle.proofs.batch.say_each.Given as goal

-- what is left to say completes the whole
abbrev pub invariant-loop-command : goal.invariant-loop-command
invariant-loop-command l = say_each l.conn (drop l.command-index l.commands) l.world ≡ say_each l.conn l.commands l.fn.world
