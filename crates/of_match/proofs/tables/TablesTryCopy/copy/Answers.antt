use Rattle.std.proofs.Common.{◌≡◌, ◌∙◌, ◌++◌, ◌∷◌, List, sym, ap, subst}
use Rattle.of_match.specs.declared.entry.Command.TheVariants.{Add}
use Rattle.of_match.specs.declared.entry.Entry.{Entry}
use Rattle.of_match.specs.FlowTables.{IsInKeyOrder, after}
use Rattle.of_match.proofs.Keyed.{added_last}
use Rattle.of_match.proofs.tables.TablesTryCopy.copy.Goals as goal

pub loop-entry-preserved : goal.loop-entry-preserved
loop-entry-preserved c =
    let es = c.loop-entry.made in
    let e = c.in-Some.entry.now in
    let rest = c.next.new.self in
    let whole : es ++ e ∷ rest ≡ c.args.self.now = ap (λ (l : List Entry). es ++ l) (sym c.in-Some.ensures.steps) ∙ c.loop-entry.invariant in
    ap (λ (l : List Entry). l ++ rest) (c.in_ok-add.ensures.ok ∙ ap (λ (f : Entry). after es (Add f)) c.in_ok-copy.ensures) ∙ added_last es e rest (subst IsInKeyOrder (sym whole) c.iter-entry-items.ensures.ordered) ∙ whole
