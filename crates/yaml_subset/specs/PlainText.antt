-- Where a plain scalar stands in a line.
use Rattle.std.specs.Prelude.{◌≡◌, ℕ, Bool, true, false, not, ◌&&◌, ◌==◌, List, [], ◌∷◌, ◌++◌}
use Rattle.std.specs.List.{list_all}
use Rattle.yaml_subset.specs.Characters.{is_control}
use Rattle.yaml_subset.specs.Plain.{plain_ends}

-- no scalar ends before any of these characters, behind which `after` stands, and none is a control character
abbrev pub runs_on : Bool → List ℕ → List ℕ → Bool
runs_on flow [] after = true
runs_on flow (c ∷ cs) after = not (plain_ends flow c (cs ++ after)) && not (is_control c) && runs_on flow cs after

-- a scalar ends here
abbrev pub stops : Bool → List ℕ → Bool
stops flow [] = true
stops flow (c ∷ cs) = plain_ends flow c cs

abbrev pub ends_in_space : List ℕ → Bool
ends_in_space [] = false
ends_in_space (c ∷ []) = c == 32
ends_in_space (c ∷ d ∷ ds) = ends_in_space (d ∷ ds)

-- the text, spaces that don't count, and the first place where a scalar ends
pub record IsPlain (flow : Bool) (rest text after : List ℕ) : Type 0 where
  pub spaces : List ℕ
  pub spelled : rest ≡ (text ++ spaces) ++ after
  pub blank : list_all (λ c. c == 32) spaces ≡ true
  pub trimmed : ends_in_space text ≡ false
  pub runs : runs_on flow (text ++ spaces) after ≡ true
  pub ends : stops flow after ≡ true
