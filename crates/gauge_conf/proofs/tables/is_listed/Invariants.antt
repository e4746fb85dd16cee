use Rattle.std.proofs.Common.{◌≡◌, drop, map}
use Rattle.std.specs.List.{list_any}
use Rattle.std.specs.Str.{bytes_eq}
use Rattle.gauge_conf.proofs.tables.is_listed.Given as goal

-- none of those so far is the text
abbrev pub invariant-loop-word : goal.invariant-loop-word
invariant-loop-word l = list_any (λ word. bytes_eq word l.text) (map (λ word. word.now) l.words) ≡ list_any (λ word. bytes_eq word l.text) (map (λ word. word.now) (drop l.word-index l.words))
