use Rattle.std.proofs.Common.{◌∙◌, ap}
use Rattle.std.specs.Map.{values_of}
use Rattle.std.specs.BTreeMap.Range.{entries_between}
use Rattle.std.specs.declared.ops.Bound.TheVariants.{Unbounded}
use Rattle.of_match.specs.KeyOrder.{key_cmp}
use Rattle.of_match.proofs.Keyed.{all_between, values_keyed}
use Rattle.of_match.proofs.tables.Tables.iter.Goals as goal

pub returns-clause-items : goal.returns-clause-items
returns-clause-items c =
    let es = values_of c.self.inside.entries.entries in
    ap values_of (c.range.ensures.between tt ∙ ap (entries_between key_cmp Unbounded Unbounded) c.self.invariant.0 ∙ all_between es) ∙ values_keyed es ∙ c.self.view_is
