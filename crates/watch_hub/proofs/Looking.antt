-- Looks in turn: the files that are refreshed, and what their texts tell.
use Rattle.std.proofs.Common.{◌≡◌, ◌≢◌, inl, inr, ℕ, zero, suc, ◌+◌, ◌-◌, ◌^◌, ◌≤◌, min, List, [], ◌∷◌, ◌++◌, length, Option, Some, None, refl, sym, ap, ◌∙◌, subst, arith}
use Rattle.fg_outside.specs.Contents.{Contents, refreshed}
use Rattle.fg_outside.specs.Counts.{Rose}
use Rattle.watch_hub.specs.Look.{Finds, text_of}
use Rattle.watch_hub.specs.Texts.{AreTold, IsTold, missed, missed_at, refreshed_by}

abbrev Text : Type 0
Text = List ℕ

abbrev Texts : Type 0
Texts = List (Option Text)

-- ---- refreshing

-- what is held so many refreshes later
abbrev pub later : ℕ → Contents → Contents
later zero held = held
later (suc n) held = λ more. later n held (more + 1)

later_at : (n : ℕ) (held : Contents) (more : ℕ) → later n held more ≡ held (n + more)
later_at zero held more = ap held (omega arith)
later_at (suc n) held more = later_at n held (more + 1) ∙ ap held (omega arith)

refreshed_told : (n : ℕ) (held : Contents) → refreshed_by n (Some held) ≡ Some (later n held)
refreshed_told zero held = refl
refreshed_told (suc n) held = ap refreshed (refreshed_told n held)

-- what files hold that were refreshed so often, and then once more
pub told_later : (n : ℕ) (from mid to : Option Contents) (held : Contents) → from ≡ Some held → mid ≡ refreshed_by n from → to ≡ refreshed mid → to ≡ Some (later (suc n) held)
told_later n from mid to held is before once =
    once ∙ ap refreshed before ∙ ap (λ (c : Option Contents). refreshed (refreshed_by n c)) is ∙ refreshed_told (suc n) held

pub refreshed_more : (n : ℕ) (from mid to : Option Contents) → mid ≡ refreshed_by n from → to ≡ refreshed mid → to ≡ refreshed_by (n + 1) from
refreshed_more n from mid to before once =
    let is : n + 1 ≡ suc n = omega arith in
    rw is (once ∙ ap refreshed before)

-- ---- one more text

pub AreTold-snoc : (held : Contents) (name : Text) (k : ℕ) (texts : Texts) (text : Option Text) → AreTold held name k texts → IsTold held name (k + length texts) text → AreTold held name k (texts ++ text ∷ [])
AreTold-snoc held name k [] text told last = (subst (λ n. IsTold held name n text) (omega arith) last, tt)
AreTold-snoc held name k (t ∷ texts) text told last =
    (told.0, AreTold-snoc held name (k + 1) texts text told.1 (subst (λ n. IsTold held name n text) (omega arith) last))

pub missed-snoc : (held : Contents) (name : Text) (k : ℕ) (texts : Texts) (text : Option Text) → missed held name k (texts ++ text ∷ []) ≡ missed held name k texts + missed_at held name (k + length texts) text
missed-snoc held name k [] text =
    let is : k + 0 ≡ k = omega arith in
    rw is (omega arith)
missed-snoc held name k (t ∷ texts) text =
    let is : (k + 1) + length texts ≡ k + suc (length texts) = omega arith in
    let more : missed held name (k + 1) (texts ++ text ∷ []) ≡ missed held name (k + 1) texts + missed_at held name (k + suc (length texts)) text =
    subst (λ n. missed held name (k + 1) (texts ++ text ∷ []) ≡ missed held name (k + 1) texts + missed_at held name n text) is (missed-snoc held name (k + 1) texts text) in
    omega (arith, more)

-- ---- what a look found

module _ (held : Contents) (name : Text) (n : ℕ) (contents : Option Contents) (is : contents ≡ Some (later (suc n) held)) where
  now_held : later (suc n) held 0 ≡ held (1 + n)
  now_held = later_at (suc n) held 0 ∙ ap held (omega arith)

  -- a text that is found is the one that the files have
  pub IsTold-found : (text : Option Text) (fault absence : Type 0) → Finds contents name text fault absence → IsTold held name (1 + n) text
  IsTold-found None fault absence finds = tt
  IsTold-found (Some found) fault absence finds =
      ap (λ (h : List ℕ → Option Text). text_of h name) (sym now_held) ∙ finds.told (later (suc n) held) found is refl

  -- where none is found although the files have one, the count of faults rose
  pub missed-found : (text : Option Text) (start before after m : ℕ) (absence : Type 0) → Finds contents name text (Rose before after) absence → before ≤ after
      → min (start + m) (2 ^ 64 - 1) ≤ before → min (start + (m + missed_at held name (1 + n) text)) (2 ^ 64 - 1) ≤ after
  missed-found (Some found) start before after m absence finds le below = omega (arith, le, below)
  missed-found None start before after m absence finds le below = by_text (text_of (held (1 + n)) name) refl
    where
      by_fault : (found : Option Text) → text_of (held (1 + n)) name ≡ found → found ≢ None → Rose before after
      by_fault found e some =
          elim (finds.missing (later (suc n) held) is refl) [
            | inl rose ↦ rose
            | inr lacks ↦ absurd (some (sym e ∙ ap (λ (h : List ℕ → Option Text). text_of h name) (sym now_held) ∙ lacks))
          ]

      by_text : (found : Option Text) → text_of (held (1 + n)) name ≡ found → min (start + (m + missed_at held name (1 + n) None)) (2 ^ 64 - 1) ≤ after
      by_text None e = rw e (omega (arith, le, below))
      by_text (Some found) e =
          let rose : Rose before after = by_fault (Some found) e (λ h. cc) in
          rw e (omega (arith, rose, below))
