-- One frame more of those that are heard.
use Rattle.std.proofs.Common.{◌≡◌, ℕ, suc, ◌+◌, ◌-◌, ◌<◌, ◌≤◌, ◌&&◌, true, false, refl, sym, ap, ◌∙◌, arith}
use Rattle.std.proofs.lemmas.Bool.{or_parts}
use Rattle.ctl_world.specs.World.{World}
use Rattle.ctl_core.specs.Changes.{any_changes, next_changes}
use Rattle.ctl_life.specs.Life.{has_frame}
use Rattle.ctl_core.specs.Hearing.{hear_frames, hear_next}

module _ (most i number : ℕ) (w : World) where
  pub all_none : any_changes most number w ≡ false → any_changes (most - 0) number w ≡ false
  all_none none = let all : most - 0 ≡ most = omega arith in ap (λ n. any_changes n number w) all ∙ none

  pub begun : hear_frames (most - 0) number w ≡ hear_frames most number w
  begun = let all : most - 0 ≡ most = omega arith in ap (λ n. hear_frames n number w) all

  pub ended : most ≤ i → hear_frames (most - i) number w ≡ w
  ended past = let none : most - i ≡ 0 = omega arith in ap (λ n. hear_frames n number w) none

  module _ (within : i < most) where
    left : most - i ≡ suc (most - (i + 1))
    left = omega arith

    pub heard_on : has_frame number w ≡ true → hear_frames (most - i) number w ≡ hear_frames (most - (i + 1)) number (hear_next number w)
    heard_on has = ap (λ n. hear_frames n number w) left ∙ (rw has refl)

    pub heard_last : has_frame number w ≡ false → hear_frames (most - i) number w ≡ hear_next number w
    heard_last has = ap (λ n. hear_frames n number w) left ∙ (rw has refl)

    -- where no frame changes anything, neither does the next one, nor one of those behind it
    module _ (none : any_changes (most - i) number w ≡ false) where
      parts : (next_changes number w ≡ false) × ((has_frame number w && any_changes (most - (i + 1)) number (hear_next number w)) ≡ false)
      parts = or_parts (next_changes number w) (has_frame number w && any_changes (most - (i + 1)) number (hear_next number w)) (ap (λ n. any_changes n number w) (sym left) ∙ none)

      pub next_none : next_changes number w ≡ false
      next_none = parts.0

      pub rest_none : has_frame number w ≡ true → any_changes (most - (i + 1)) number (hear_next number w) ≡ false
      rest_none has = ap (λ b. b && any_changes (most - (i + 1)) number (hear_next number w)) (sym has) ∙ parts.1
