use Rattle.std.proofs.Common.{ℕ, List, [], ◌∷◌, ◌++◌, string_bytes, ap, ◌∙◌}
use Rattle.conf_limits.specs.PortPlaces.{at_name}
use Rattle.conf_limits.proofs.PortPlaces.{name_more}
use Rattle.conf_rules.proofs.SetNames.{text_set}
use Rattle.conf_limits.proofs.port_places.add_name.Goals as goal

pub returns : goal.returns
returns c =
    name_more c.args.port.now.name c.args.names.now c.insert.new.self c.in_ok-places.places c.args.at
    (text_set (string_bytes c.in_ok-key.key) c.args.port.now.name c.args.names.now c.insert.new.self _ (c.in_ok-key.ensures.ok ∙ c.as_str-name.ensures) c.in_ok-insert.ensures.updates)
    (c.in_ok-places.ensures ∙ ap (λ (xs : List ℕ). xs ++ c.args.at ∷ []) (c.at_name.ensures ∙ ap (at_name c.args.names.now) c.as_str-name.ensures))
