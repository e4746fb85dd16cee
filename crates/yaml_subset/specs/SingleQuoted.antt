-- How a text is spelled in single quotes.
use Rattle.std.specs.Prelude.{◌≡◌, ℕ, true, false, ◌==◌, if◌then◌else◌, List, [], ◌∷◌, ◌++◌}
use Rattle.std.specs.List.{list_all}
use Rattle.yaml_subset.specs.Characters.{begins, is_kept}

-- two quotes for each quote
abbrev pub doubled : List ℕ → List ℕ
doubled [] = []
doubled (c ∷ cs) = if c == 39 then 39 ∷ 39 ∷ doubled cs else c ∷ doubled cs

-- behind an opening quote: the text with its quotes doubled, the closing quote, and what follows
pub record IsSingleQuoted (rest text after : List ℕ) : Type 0 where
  pub spelled : rest ≡ doubled text ++ 39 ∷ after
  pub kept : list_all is_kept text ≡ true
  pub ended : begins 39 after ≡ false
