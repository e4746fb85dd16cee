-- The words behind a command, parted into plain words and options. A dash is 45, an equals sign 61.
use Rattle.std.specs.Prelude.{◌==◌, ◌&&◌, ℕ, Bool, true, false, not, if◌then◌else◌, List, [], ◌∷◌, length, Option, Some, None}
use Rattle.std.specs.List.{list_any, before_first, after_first}
use Rattle.std.specs.Str.{bytes_eq}
use Rattle.net_base.specs.AddressReading.{◌>>=◌}
use Rattle.command_line.specs.declared.parts.CommandOption.{CommandOption}
use Rattle.command_line.specs.declared.parts.Parts.{Parts}

-- a word that isn't empty and doesn't begin with a dash
abbrev pub is_plain : List ℕ → Bool
is_plain [] = false
is_plain (b ∷ bs) = not (b == 45)

-- what stands behind a dash at the front
abbrev pub behind_dash : List ℕ → Option (List ℕ)
behind_dash [] = None
behind_dash (b ∷ bs) = if b == 45 then Some bs else None

abbrev pub is_equals : ℕ → Bool
is_equals b = b == 61

-- the name of an option, which isn't empty, and its value where the same word has it: what stands
-- before the first equals sign, and behind it
abbrev pub name_and_value : List ℕ → Option (List ℕ × Option (List ℕ))
name_and_value text =
    if length (before_first is_equals text) == 0 then None
    else Some (before_first is_equals text, if list_any is_equals text then Some (after_first is_equals text) else None)

-- `--name` or `--name=value`
abbrev pub option_in : List ℕ → Option (List ℕ × Option (List ℕ))
option_in word = do
  behind ← behind_dash word
  text ← behind_dash behind
  name_and_value text

abbrev pub with_plain : List ℕ → Option Parts → Option Parts
with_plain word parts = parts >>= λ p. Some (record p { plain = word ∷ p.plain })

abbrev pub with_option : List ℕ → List ℕ → Option Parts → Option Parts
with_option name value parts = parts >>= λ p. Some (record p { options = record { name = name; value = value } ∷ p.options })

-- The parts of words; where the name of an option waits for its value, that is the first word,
-- whatever it is.
unfoldable pub parted : Option (List ℕ) → List (List ℕ) → Option Parts
parted None [] = Some (record { plain = []; options = [] })
parted (Some name) [] = None
parted (Some name) (value ∷ words) = with_option name value (parted None words)
parted None (word ∷ words) =
    if is_plain word then with_plain word (parted None words)
    else (option_in word >>= λ (o : List ℕ × Option (List ℕ)). elim o.1 [ Some value ↦ with_option o.0 value (parted None words) | None ↦ parted (Some o.0) words ])

abbrev pub is_named : List ℕ → List CommandOption → Bool
is_named name options = list_any (λ o. bytes_eq o.name name) options

-- no name stands twice
abbrev pub have_distinct_names : List CommandOption → Bool
have_distinct_names [] = true
have_distinct_names (o ∷ others) = not (is_named o.name others) && have_distinct_names others

-- the parts of the words behind a command
unfoldable pub parts_of : List (List ℕ) → Option Parts
parts_of words = parted None words >>= λ parts. if have_distinct_names parts.options then Some parts else None
