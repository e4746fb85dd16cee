use Rattle.std.proofs.Common.{◌∙◌, ap}
use Rattle.std.specs.Map.{values_of}
use Rattle.std.specs.BTreeMap.Range.{entries_between}
use Rattle.std.specs.declared.ops.Bound.TheVariants.{Excluded, Unbounded}
use Rattle.of_match.specs.FlowTables.{above}
use Rattle.of_match.specs.KeyOrder.{key_cmp}
use Rattle.of_match.proofs.Keyed.{above_between}
use Rattle.of_match.proofs.tables.Tables.iter_above.Goals as goal

pub returns : goal.returns
returns c =
    let k = c.args.key.now in
    let es = values_of c.self.inside.entries.entries in
    ap values_of (c.range.ensures.between tt ∙ ap (entries_between key_cmp (Excluded k) Unbounded) c.self.invariant.0) ∙ above_between k es ∙ ap (above k) c.self.view_is
