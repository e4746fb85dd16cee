use Rattle.std.proofs.Common.{◌≡◌, drop, map}
use Rattle.conf_shape.specs.Keys.{seen_pair}
use Rattle.conf_shape.specs.Sections.{canonical}
use Rattle.conf_shape.proofs.keys.canonical.Given as goal

-- none of those so far is the text
abbrev pub invariant-loop-spelling : goal.invariant-loop-spelling
invariant-loop-spelling l = canonical (map seen_pair l.spellings) l.text ≡ canonical (map seen_pair (drop l.spelling-index l.spellings)) l.text
