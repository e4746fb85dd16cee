use Rattle.std.proofs.Common.{◌≡◌, ◌++◌}
use Rattle.opening_batch.specs.Messages.{adds, xid_after}
use Rattle.opening_batch.proofs.messages.put_adds.Given as goal

-- what is written so far and what is left to write are all of it
abbrev pub invariant-loop-entry : goal.invariant-loop-entry
invariant-loop-entry l = record {
  bytes : l.out ++ adds l.xid l.entry-iterator ≡ l.fn.out ++ adds l.first l.tables;
  xid : xid_after l.xid l.entry-iterator ≡ xid_after l.first l.tables;
}
