use Rattle.std.proofs.Common.{ℕ, List, ap, ◌∙◌}
use Rattle.conf_types.specs.Lists.{is_among}
use Rattle.conf_limits.specs.PortPlaces.{at_name}
use Rattle.conf_limits.proofs.port_places.PortPlaces.named.Goals as goal

pub returns : goal.returns
returns c = λ at.
    ap (λ (xs : List ℕ). is_among xs at) (c.at_name.ensures ∙ ap (at_name c.args.self.now.names) c.as_str.ensures) ∙ c.args.self.now.right_names c.args.name.now at
