use Rattle.yaml_subset.proofs.EntryLaws.{with_int_keys}
use Rattle.yaml_subset.proofs.entries.Entries.with_int.Goals as goal

pub invariant_of-result : goal.invariant_of-result
invariant_of-result c = rw c.in_ok-push.ensures.ok (with_int_keys _ _ _ _ _ _ c.self.invariant c.in_ok-insert.ensures.updates)
