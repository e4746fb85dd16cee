use Rattle.std.proofs.Common.{rules, tests, ◌≡◌, ◌&&◌, nat_le, Some, sym, ap, ◌∙◌}
use Rattle.std.specs.Map.Iter.{deref_pair}
use Rattle.std.specs.Option.{option_map}
use Rattle.std.proofs.lemmas.Iterator.Consumers.{YieldsList-from_rest}
use Rattle.std.proofs.lemmas.Iterator.Search.{find_from_yields_List}
use Rattle.real_links.proofs.Turns.{first_is_ready}
use Rattle.real_links.proofs.sources.Sources.first_from.Goals as goal

pub returns-in_err-number-clause-first : goal.returns-in_err-number-clause-first
returns-in_err-number-clause-first c =
    let e = find_from_yields_List (λ it. it.1 && nat_le c.args.from it.0) _ _ c.find.result c.find.ensures.ran (YieldsList-from_rest c.args.self.now.ready.entries c.iter.ensures.rest) (λ x b q k. search (rules, tests)) in
    let m : c.from_residual.result ≡ option_map (λ it. it.0) (option_map deref_pair c.find.result) = search rules in
    m ∙ ap (option_map (λ it. it.0)) e

pub returns-clause-first : goal.returns-clause-first
returns-clause-first c =
    let e = find_from_yields_List (λ it. it.1 && nat_le c.args.from it.0) _ _ c.find.result c.find.ensures.ran (YieldsList-from_rest c.args.self.now.ready.entries c.iter.ensures.rest) (λ x b q k. search (rules, tests)) in
    let m : Some c.in_ok-number.number.now ≡ option_map (λ it. it.0) (option_map deref_pair c.find.result) = search rules in
    m ∙ ap (option_map (λ it. it.0)) e

pub returns-clause-ready : goal.returns-clause-ready
returns-clause-ready c =
    first_is_ready c.args.from c.args.self.now.ready c.in_ok-number.number.now c.iter.ensures.found (sym (returns-clause-first c))
