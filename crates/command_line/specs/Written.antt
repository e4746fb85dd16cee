-- How the words behind a command are written, with no reader in mind.
use Rattle.std.specs.Prelude.{◌≡◌, ◌≢◌, ◌++◌, ℕ, List, [], ◌∷◌, codes}
use Rattle.std.specs.List.{AllByRecursion}
use Rattle.command_line.specs.declared.parts.CommandOption.{CommandOption}

-- a word that isn't empty and doesn't begin with a dash
abbrev pub IsPlainWord : List ℕ → Type 0
IsPlainWord [] = ⊥
IsPlainWord (b ∷ bs) = b ≢ 45

-- a name isn't empty and has no equals sign
abbrev pub IsName : List ℕ → Type 0
IsName [] = ⊥
IsName (b ∷ bs) = AllByRecursion (λ c. c ≢ 61) (b ∷ bs)

-- words, and the plain words and the options that are written by them
pub data Written : List (List ℕ) → List (List ℕ) → List CommandOption → Type 0 where
  End : Written [] [] []
  -- a plain word
  PlainWord : (word : List ℕ) (words plain : List (List ℕ)) (options : List CommandOption) → IsPlainWord word
      → Written words plain options → Written (word ∷ words) (word ∷ plain) options
  -- `--name value`
  Apart : (word name value : List ℕ) (words plain : List (List ℕ)) (options : List CommandOption) → IsName name → word ≡ codes "--" ++ name
      → Written words plain options → Written (word ∷ value ∷ words) plain (record { name = name; value = value } ∷ options)
  -- `--name=value`
  Joined : (word name value : List ℕ) (words plain : List (List ℕ)) (options : List CommandOption) → IsName name → word ≡ codes "--" ++ name ++ codes "=" ++ value
      → Written words plain options → Written (word ∷ words) plain (record { name = name; value = value } ∷ options)
