-- Groups joined by colons, the first of several.
use Rattle.std.proofs.Common.{◌≡◌, ℕ, ◌≤◌, List, [], ◌∷◌, ◌++◌, length, refl, arith}
use Rattle.net_base.specs.Address6.{group_text, groups_text}

pub joined_more : (group : ℕ) (more : List ℕ) → 1 ≤ length more → groups_text (group ∷ more) ≡ group_text group ++ 58 ∷ groups_text more
joined_more group [] h = absurd (omega (arith, h))
joined_more group (next ∷ more) h = refl
