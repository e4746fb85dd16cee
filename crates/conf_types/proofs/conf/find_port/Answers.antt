use Rattle.std.proofs.Common.{rules, ◌∙◌, ◌==◌, ℕ, Ok, Err, Some, sym, ap, find}
use Rattle.std.proofs.lemmas.Fn.{always_returns_same}
use Rattle.conf_types.specs.declared.datapath.Port.{Port}
use Rattle.conf_types.proofs.Found.{searched}
use Rattle.conf_types.proofs.conf.find_port.Goals as goal

-- the search is for the number, by the number of each
pub returns-in-Ok : goal.returns-in-Ok
returns-in-Ok c =
    let facts = c.in-Ok.ensures in
    let key : Port → ℕ = λ x. x.no in
    let found = searched key c.get.result c.args.ports.now c.requires (Ok c.in-Ok.at) facts.bound (facts.position key (always_returns_same _ _ _ (λ a r g called. (search rules, search rules)))) c.index-ports-at.result in
    ap Some c.index-ports-at.is ∙ sym found ∙ ap (λ n. find (λ x. key x == n) c.args.ports.now) c.get.ensures.value

pub returns-in-Err : goal.returns-in-Err
returns-in-Err c =
    let facts = c.in-Err.ensures in
    let key : Port → ℕ = λ x. x.no in
    let found = searched key c.get.result c.args.ports.now c.requires (Err c.in-Err.field-0) facts.bound (facts.position key (always_returns_same _ _ _ (λ a r g called. (search rules, search rules)))) in
    sym found ∙ ap (λ n. find (λ x. key x == n) c.args.ports.now) c.get.ensures.value
