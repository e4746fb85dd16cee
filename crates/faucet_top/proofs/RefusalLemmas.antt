-- The status of a refusal.
use Rattle.std.proofs.Common.{◌≡◌, ℕ, ◌⊎◌, inl, inr, List, Option, Result, Err, refl, sym, arith}
use Rattle.fg_outside.specs.Contents.{Contents}
use Rattle.conf_gather.specs.declared.refused.LoadRefused.{LoadRefused}
use Rattle.conf_gather.specs.Gathered.{Held}
use Rattle.conf_gather.specs.declared.refused.LoadRefused.TheVariants.{Read, Yaml, Conf, IncludeTwice, IncludeDepth, Absent, Memory}
use Rattle.faucet_top.specs.Answer.{refusal}
use Rattle.faucet_top.specs.Given.{LoadsBy}

-- it is none but 2, 3 and 8
pub refusal_not : (n : ℕ) → (n ≡ 2 → ⊥) → (n ≡ 3 → ⊥) → (n ≡ 8 → ⊥) → (config : List ℕ) (why : LoadRefused) → (refusal config why).status ≡ n → ⊥
refusal_not n two three eight config (Read file) s = three (sym s)
refusal_not n two three eight config (Absent file) s = three (sym s)
refusal_not n two three eight config (Yaml file fault) s = two (sym s)
refusal_not n two three eight config (Conf fault) s = two (sym s)
refusal_not n two three eight config (IncludeTwice file) s = two (sym s)
refusal_not n two three eight config (IncludeDepth file) s = two (sym s)
refusal_not n two three eight config Memory s = eight (sym s)

-- neither that of words without a meaning, nor that of a failed write, nor that of a hub that failed
abbrev pub IsInner : ℕ → Type 0
IsInner n = (n ≡ 1 → ⊥) × (n ≡ 4 → ⊥) × (n ≡ 6 → ⊥)

pub refusal_inner : (config : List ℕ) (why : LoadRefused) → IsInner (refusal config why).status
refusal_inner config why = (
  refusal_not 1 (λ e. omega arith) (λ e. omega arith) (λ e. omega arith) config why,
  refusal_not 4 (λ e. omega arith) (λ e. omega arith) (λ e. omega arith) config why,
  refusal_not 6 (λ e. omega arith) (λ e. omega arith) (λ e. omega arith) config why,
)

pub refusal_undone : (config : List ℕ) (why : LoadRefused) → (refusal config why).status ≡ 0 → ⊥
refusal_undone config why = refusal_not 0 (λ e. omega arith) (λ e. omega arith) (λ e. omega arith) config why

pub refusal_unread_record : (config : List ℕ) (why : LoadRefused) → (refusal config why).status ≡ 5 → ⊥
refusal_unread_record config why = refusal_not 5 (λ e. omega arith) (λ e. omega arith) (λ e. omega arith) config why

module _ {A : Type 0} (given : Held → List ℕ → Result A LoadRefused) (contents : Option Contents) (absence fault : Type 0) (refused : List ℕ) where
  -- a file is missing, or a read failed, where the status says so
  pub refusal_unread : (config : List ℕ) (name : List ℕ) (why : LoadRefused) → LoadsBy given contents absence fault refused name (Err why) → (refusal config why).status ≡ 3 → absence ⊎ fault
  refusal_unread config name (Read file) loads s = inr (loads.unread file refl)
  refusal_unread config name (Absent file) loads s = inl (loads.absent file refl)
  refusal_unread config name (Yaml file at) loads s = absurd (omega (arith, s))
  refusal_unread config name (Conf at) loads s = absurd (omega (arith, s))
  refusal_unread config name (IncludeTwice file) loads s = absurd (omega (arith, s))
  refusal_unread config name (IncludeDepth file) loads s = absurd (omega (arith, s))
  refusal_unread config name Memory loads s = absurd (omega (arith, s))
