use Rattle.std.proofs.Common.{◌≡◌, drop, map}
use Rattle.std.specs.List.{list_any}
use Rattle.std.specs.Str.{bytes_eq}
use Rattle.conf_shape.proofs.keys.is_listed.Given as goal

-- none of those so far is the text
abbrev pub invariant-loop-name : goal.invariant-loop-name
invariant-loop-name l = list_any (λ name. bytes_eq name l.text) (map (λ name. name.now) l.names) ≡ list_any (λ name. bytes_eq name l.text) (map (λ name. name.now) (drop l.name-index l.names))
