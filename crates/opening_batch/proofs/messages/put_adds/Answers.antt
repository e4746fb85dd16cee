use Rattle.std.proofs.Common.{◌++◌, ◌∙◌, List, ap, sym, append_assoc}
use Rattle.of_match.specs.declared.entry.Entry.{Entry}
use Rattle.opening_batch.specs.Messages.{adds, xid_after}
use Rattle.opening_batch.proofs.messages.put_adds.Goals as goal

pub loop-entry-preserved : goal.loop-entry-preserved
loop-entry-preserved c =
    let xid = c.loop-entry.xid in
    let next = sym c.in-Some.ensures.steps in
    record {
      bytes = rw (c.in_ok-encode.ensures.ok, c.in_ok-message.ensures, c.xid_behind-xid.ensures, append_assoc) (ap (λ (es : List Entry). c.loop-entry.out ++ adds xid es) next ∙ c.loop-entry.invariant.bytes);
      xid = rw c.xid_behind-xid.ensures (ap (xid_after xid) next ∙ c.loop-entry.invariant.xid);
    }
