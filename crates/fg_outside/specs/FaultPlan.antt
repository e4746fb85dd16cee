-- Calls of an object in memory that are to fail.
use Rattle.std.specs.Prelude.{ℕ, Bool, List, if◌then◌else◌, nat_eq}
use Rattle.std.specs.List.{list_any}
use Rattle.fg_outside.specs.declared.fault_plan.FailListed.{FailListed}
use Rattle.fg_outside.specs.Counts.{counted}

-- the next call, counted from 1, is one of those listed
abbrev pub is_listed : FailListed → Bool
is_listed plan = list_any (λ no. nat_eq no (counted plan.calls)) plan.fail

-- the plan once that call was counted
abbrev pub after_call : FailListed → FailListed
after_call plan = record plan {
  calls = counted plan.calls;
  faults = if is_listed plan then counted plan.faults else plan.faults;
}

-- no call was made yet
abbrev pub fresh : List ℕ → FailListed
fresh fail = record { fail = fail; calls = 0; faults = 0 }
