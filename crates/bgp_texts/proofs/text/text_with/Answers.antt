use Rattle.std.proofs.Common.{◌≡◌, ℕ, List, Some, sym, ap, ◌∙◌}
use Rattle.bgp_texts.specs.Taking.{text_of}
use Rattle.bgp_texts.proofs.Refusals.{given_some, given_none, text_same}
use Rattle.bgp_texts.proofs.text.text_with.Goals as goal

pub returns-then-branch-clause-given : goal.returns-then-branch-clause-given
returns-then-branch-clause-given c =
    let made = text_same c.args.vlan.now c.args.tree.now c.args.routes.now c.in_ok-taken.taken c.as_slice.result.now c.in_ok-document.document c.in_ok-text.text
    c.in_ok-taken.ensures c.as_slice.ensures c.in_ok-document.ensures c.in_ok-text.ensures.canonical in
    let same : c.as_slice-2.result.now ≡ text_of c.args.vlan.now c.args.tree.now c.args.routes.now = c.as_slice-2.ensures ∙ made in
    ap (λ (it : List ℕ). Some it) (sym c.as_slice-2.ensures)
    ∙ given_some (text_of c.args.vlan.now c.args.tree.now c.args.routes.now) c.as_slice-2.result.now same (c.in_ok-is_accepted.ensures.yes c.if-branch.true)

pub returns-clause-given : goal.returns-clause-given
returns-clause-given c =
    let made = text_same c.args.vlan.now c.args.tree.now c.args.routes.now c.in_ok-taken.taken c.as_slice.result.now c.in_ok-document.document c.in_ok-text.text
    c.in_ok-taken.ensures c.as_slice.ensures c.in_ok-document.ensures c.in_ok-text.ensures.canonical in
    given_none (text_of c.args.vlan.now c.args.tree.now c.args.routes.now) c.as_slice-2.result.now (c.as_slice-2.ensures ∙ made) (c.in_ok-is_accepted.ensures.no c.if-branch.false)
