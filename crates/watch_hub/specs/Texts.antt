-- The texts of looks in turn, and the files that these look at.
use Rattle.std.specs.Prelude.{◌≡◌, ◌&&◌, ℕ, zero, suc, ◌+◌, if◌then◌else◌, is_none, is_some, List, [], ◌∷◌, Option, Some, None}
use Rattle.fg_outside.specs.Contents.{Contents, refreshed}
use Rattle.watch_hub.specs.Look.{text_of}

-- what files hold that are refreshed so often
abbrev pub refreshed_by : ℕ → Option Contents → Option Contents
refreshed_by zero contents = contents
refreshed_by (suc n) contents = refreshed (refreshed_by n contents)

-- a look has the text of what the files hold after so many refreshes, or none
abbrev pub IsTold : Contents → (name : List ℕ) → (refreshes : ℕ) → Option (List ℕ) → Type 0
IsTold held name refreshes None = Unit {0}
IsTold held name refreshes (Some text) = text_of (held refreshes) name ≡ Some text

-- each look has the text of what the files hold then, or none, where the first of them comes with so many refreshes
abbrev pub AreTold : Contents → (name : List ℕ) → (refreshes : ℕ) → List (Option (List ℕ)) → Type 0
AreTold held name refreshes [] = Unit {0}
AreTold held name refreshes (text ∷ texts) = IsTold held name refreshes text × AreTold held name (refreshes + 1) texts

-- 1 where a look has no text although the files have one then, else 0
abbrev pub missed_at : Contents → (name : List ℕ) → (refreshes : ℕ) → Option (List ℕ) → ℕ
missed_at held name refreshes text = if is_none text && is_some (text_of (held refreshes) name) then 1 else 0

-- how many of the looks are such
abbrev pub missed : Contents → (name : List ℕ) → (refreshes : ℕ) → List (Option (List ℕ)) → ℕ
missed held name refreshes [] = 0
missed held name refreshes (text ∷ texts) = missed_at held name refreshes text + missed held name (refreshes + 1) texts
