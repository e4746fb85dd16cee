use Rattle.std.proofs.Common.{◌≡◌, ◌++◌, drop}
use Rattle.std.specs.Option.{option_map}
use Rattle.ctl_core.proofs.before.push_all.Given as goal

-- those that are left complete the whole
abbrev pub invariant-loop-change : goal.invariant-loop-change
invariant-loop-change l = option_map (λ named. named ++ drop l.change-index l.changes) l.touched ≡ option_map (λ named. named ++ l.changes) l.fn.touched
