use Rattle.std.proofs.Common.{◌≡◌, ◌-◌, ◌++◌}
use Rattle.std.specs.Option.{option_map}
use Rattle.ctl_settle.specs.Asked.{asked}
use Rattle.ctl_settle.specs.Settling.{ask_due}
use Rattle.ctl_settle.specs.Touched.{Goes}
use Rattle.ctl_settle.proofs.asking.ask_due.Given as goal

-- what is left to ask completes the whole, and those that were lost are touched
abbrev pub invariant-loop : goal.invariant-loop
invariant-loop l = record {
  whole : ask_due (l.most - l.counter) l.world ≡ ask_due l.most l.fn.world;
  touched : option_map (λ changes. changes ++ asked (l.most - l.counter) l.world) l.touched ≡ option_map (λ changes. changes ++ asked l.most l.fn.world) l.fn.touched;
  goes : Goes l.fn.world l.world l.fn.touched l.touched;
}
