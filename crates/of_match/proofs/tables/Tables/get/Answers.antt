use Rattle.std.proofs.Common.{◌∙◌, ap}
use Rattle.std.specs.Map.{lookup, values_of}
use Rattle.std.specs.BTreeMap.{is_at}
use Rattle.of_match.specs.FlowTables.{entry_at}
use Rattle.of_match.specs.KeyOrder.{key_cmp}
use Rattle.of_match.proofs.Keyed.{lookup_keyed}
use Rattle.of_match.proofs.tables.Tables.get.Goals as goal

pub returns : goal.returns
returns c =
    let k = c.args.key.now in
    c.get.ensures.value ∙ ap (lookup (is_at (key_cmp k))) c.self.invariant.0 ∙ lookup_keyed k (values_of c.self.inside.entries.entries) ∙ ap (λ es. entry_at es k) c.self.view_is
