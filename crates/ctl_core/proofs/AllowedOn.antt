-- What the frames that are left to hear allow.
use Rattle.std.proofs.Common.{◌≡◌, ℕ, suc, ◌+◌, ◌-◌, ◌<◌, ◌≤◌, Bool, true, ap, ◌∙◌, arith, if◌then◌else◌}
use Rattle.ctl_world.specs.World.{World}
use Rattle.ctl_life.specs.Life.{has_frame}
use Rattle.ctl_core.specs.Allowed.{frames_allow, next_allows}
use Rattle.ctl_core.specs.Hearing.{hear_next}

pub allow_begun : (most number : ℕ) (w : World) → frames_allow (most - 0) number w ≡ frames_allow most number w
allow_begun most number w = let e : most - 0 ≡ most = omega arith in ap (λ (k : ℕ). frames_allow k number w) e

module _ (most i number : ℕ) (w : World) (within : i < most) where
  abbrev left : ℕ
  left = most - (i + 1)

  abbrev more : Bool → ℕ
  more b = if b then frames_allow left number (hear_next number w) else 0

  step : frames_allow (most - i) number w ≡ next_allows number w + more (has_frame number w)
  step = let e : most - i ≡ suc left = omega (arith, within) in ap (λ (k : ℕ). frames_allow k number w) e

  pub allow_on : has_frame number w ≡ true → frames_allow (most - i) number w ≡ next_allows number w + frames_allow left number (hear_next number w)
  allow_on has = step ∙ ap (λ (b : Bool). next_allows number w + more b) has

  pub allow_next : next_allows number w ≤ frames_allow (most - i) number w
  allow_next = omega (arith, step)
