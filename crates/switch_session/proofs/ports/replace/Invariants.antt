use Rattle.std.proofs.Common.{◌≡◌, ◌++◌, take, drop}
use Rattle.switch_session.specs.Told.{told_anew}
use Rattle.switch_session.proofs.ports.replace.Given as goal

abbrev pub invariant-loop-told : goal.invariant-loop-told
invariant-loop-told l = l.ports ≡ told_anew (take l.told-index l.initial.ports) l.port ++ drop l.told-index l.initial.ports
