use Rattle.std.proofs.Common.{◌≡◌, ◌++◌, drop}
use Rattle.yaml_subset.specs.Printed.{all_escaped}
use Rattle.yaml_subset.proofs.print.append_all_escaped.Given as goal

-- what is left completes the text
abbrev pub invariant-loop-b : goal.invariant-loop-b
invariant-loop-b l = l.out ++ all_escaped (drop l.b-index l.text) ≡ l.fn.out ++ all_escaped l.text
