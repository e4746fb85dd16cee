use Rattle.std.proofs.Common.{◌≡◌, ℕ, zero, suc, ◌-◌, ◌<◌, List, [], ◌∷◌, refl, arith, true, false, Err}
use Rattle.yaml_subset.specs.declared.fault.YamlCause.TheVariants.{TooDeep}
use Rattle.yaml_subset.specs.declared.stack.Frame.{Frame}
use Rattle.yaml_subset.specs.declared.blocks.Place.{Place}
use Rattle.yaml_subset.specs.declared.blocks.Place.TheVariants.{Item}
use Rattle.yaml_subset.specs.Characters.{marks}
use Rattle.yaml_subset.specs.Blocks.{list_frame, key_or_value, behind_dash, content}

-- what is no item takes none of the levels that are left
pub content_value : (n : ℕ) (place : Place) (frames : List Frame) (column : ℕ) (rest : List ℕ) → marks 45 rest ≡ false
    → content n place frames column rest ≡ key_or_value place frames column rest
unfolding content
content_value zero place frames column rest h = rw h refl
content_value (suc n) place frames column rest h = rw h refl

pub content_none : (n : ℕ) (place : Place) (frames : List Frame) (column : ℕ) (rest : List ℕ) → n ≡ 0 → marks 45 rest ≡ true
    → content n place frames column rest ≡ Err TooDeep
unfolding content
content_none zero place frames column rest e h = rw h refl
content_none (suc n) place frames column rest e h = absurd (omega arith)

-- an item takes one of them
pub content_item : (n : ℕ) (place : Place) (frames : List Frame) (column : ℕ) (rest : List ℕ) → 0 < n → marks 45 rest ≡ true
    → content n place frames column rest ≡ behind_dash (content (n - 1) Item) (list_frame column [] ∷ frames) column rest
unfolding content
content_item zero place frames column rest l h = absurd (omega arith)
content_item (suc n) place frames column rest l h = let e : suc n - 1 ≡ n = omega arith in rw (e, h) refl

pub ruleset levels = (content_value, content_none, content_item)
