use Rattle.std.proofs.Common.{◌≡◌, ◌∙◌, ap}
use Rattle.std.specs.Map.{remove_entry, values_of}
use Rattle.std.specs.BTreeMap.{is_at}
use Rattle.of_match.specs.declared.entry.Command.TheVariants.{DeleteStrict}
use Rattle.of_match.specs.FlowTables.{after, keyed}
use Rattle.of_match.specs.KeyOrder.{key_cmp}
use Rattle.of_match.proofs.AfterOrder.{order_after}
use Rattle.of_match.proofs.Keyed.{remove_keyed, still_keyed, values_keyed}
use Rattle.of_match.proofs.tables.Tables.remove.Goals as goal

pub invariant_of-self : goal.invariant_of-self
invariant_of-self c =
    let k = c.args.key.now in
    let es = values_of c.self.inside.entries.entries in
    let left : c.remove.new.self.entries ≡ keyed (after es (DeleteStrict k)) = c.remove.ensures.entries ∙ ap (remove_entry (is_at (key_cmp k))) c.self.invariant.0 ∙ remove_keyed k es c.self.invariant.1 in
    still_keyed c.remove.new.self.entries (after es (DeleteStrict k)) left (order_after es (DeleteStrict k) c.self.invariant.1)

pub returns : goal.returns
returns c =
    let k = c.args.key.now in
    let es = values_of c.self.inside.entries.entries in
    let left : c.remove.new.self.entries ≡ keyed (after es (DeleteStrict k)) = c.remove.ensures.entries ∙ ap (remove_entry (is_at (key_cmp k))) c.self.invariant.0 ∙ remove_keyed k es c.self.invariant.1 in
    ap values_of left ∙ values_keyed (after es (DeleteStrict k)) ∙ ap (λ t. after t (DeleteStrict k)) c.self.view_is
