use Rattle.std.proofs.Common.{◌≡◌, List, ℕ, codes, ap, ◌∙◌}
use Rattle.conf_shape.specs.Reads.{text_at}
use Rattle.conf_shape.specs.Sections.{key_text}
use Rattle.conf_shape.proofs.datapaths.read_names.Goals as goal

pub returns : goal.returns
returns c =
    let m = c.args.map in
    let pairs = c.args.pairs.now in
    let key : c.in_ok-key.key ≡ key_text c.args.key.now = c.in_ok-key.ensures in
    let name : c.in_ok-name.name ≡ text_at m (codes "name") (key_text c.args.key.now) pairs =
    c.in_ok-name.ensures ∙ ap (λ (own : List ℕ). text_at m (codes "name") own pairs) (c.as_str.ensures ∙ key) in
    let description : c.in_ok-description.description ≡ text_at m (codes "description") (text_at m (codes "name") (key_text c.args.key.now) pairs) pairs =
    c.in_ok-description.ensures ∙ ap (λ (own : List ℕ). text_at m (codes "description") own pairs) (c.as_str-2.ensures ∙ name) in
    λ i. record { key = key i; has_name = c.is_given.ensures i; name = name i; description = description i }
