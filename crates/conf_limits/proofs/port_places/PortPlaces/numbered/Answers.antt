use Rattle.std.proofs.Common.{rules, ◌≡◌, ℕ, List, ap, ◌∙◌}
use Rattle.conf_types.specs.Lists.{is_among}
use Rattle.conf_limits.specs.PortPlaces.{at_number}
use Rattle.conf_limits.proofs.port_places.PortPlaces.numbered.Goals as goal

pub returns : goal.returns
returns c = λ at.
    let number : c.from.result ≡ c.args.no = search rules in
    ap (λ (xs : List ℕ). is_among xs at) (c.at_number.ensures ∙ ap (at_number c.args.self.now.numbers) number) ∙ c.args.self.now.right_numbers c.args.no at
