use Rattle.std.proofs.Common.{◌≡◌, ◌∙◌, ap}
use Rattle.std.specs.Map.{values_of}
use Rattle.std.specs.BTreeMap.{insert_entry}
use Rattle.of_match.specs.declared.entry.Command.TheVariants.{Add}
use Rattle.of_match.specs.FlowTables.{after, keyed}
use Rattle.of_match.specs.KeyOrder.{key_cmp}
use Rattle.of_match.proofs.AfterOrder.{order_after}
use Rattle.of_match.proofs.Keyed.{insert_keyed, still_keyed, values_keyed}
use Rattle.of_match.proofs.tables.Tables.add.Goals as goal

pub invariant_of-self-2 : goal.invariant_of-self-2
invariant_of-self-2 c =
    let e = c.args.entry in
    let es = values_of c.self.inside.entries.entries in
    let made : c.insert.new.self.entries ≡ keyed (after es (Add e)) = c.in_ok-insert.ensures.entries ∙ (λ i. insert_entry key_cmp (c.self.invariant.0 i) (c.in_ok-key.ensures i) e) ∙ insert_keyed e es c.self.invariant.1 in
    still_keyed c.insert.new.self.entries (after es (Add e)) made (order_after es (Add e) c.self.invariant.1)

pub returns-clause-ok : goal.returns-clause-ok
returns-clause-ok c =
    let e = c.args.entry in
    let es = values_of c.self.inside.entries.entries in
    let made : c.insert.new.self.entries ≡ keyed (after es (Add e)) = c.in_ok-insert.ensures.entries ∙ (λ i. insert_entry key_cmp (c.self.invariant.0 i) (c.in_ok-key.ensures i) e) ∙ insert_keyed e es c.self.invariant.1 in
    ap values_of made ∙ values_keyed (after es (Add e)) ∙ ap (λ t. after t (Add e)) c.self.view_is
