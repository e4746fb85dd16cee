use Rattle.conf_shape.proofs.acls.RawRuleRead.read.Goals as goal

pub returns : goal.returns
returns c = simp (c.entries_at.ensures, c.entries_at-pairs.ensures, c.as_entries.ensures) at c.read_rule.ensures
