-- One more is named, or isn't.
use Rattle.std.proofs.Common.{◌≡◌, ◌<◌, ℕ, Bool, true, false, cond, List, [], ◌∷◌, ◌++◌, Some, None, drop, get_or, length, map, filter, ◌+◌, refl, sym, ap, ◌∙◌, append_assoc}
use Rattle.std.specs.Option.{option_map}
use Rattle.std.proofs.lemmas.List.{at_drop_more}
use Rattle.conf_types.specs.declared.change.Change.{Change}
use Rattle.ctl_settle.specs.Touched.{MayDiffer}

pub joined : (touched : MayDiffer) (c : Change) (more : List Change) → option_map (λ named. named ++ more) (option_map (λ named. named ++ c ∷ []) touched) ≡ option_map (λ named. named ++ c ∷ more) touched
joined None c more = refl
joined (Some named) c more = ap Some (append_assoc named (c ∷ []) more)

module _ {A : Type 0} (name : A → Change) (test : A → Bool) (xs : List A) (i : ℕ) (x : A) (within : i < length xs) (is : x ≡ get_or xs i x) where
  abbrev Named : List A → List Change
  Named ys = map name (filter test ys)

  next : Named (drop i xs) ≡ cond (test x) (name x ∷ Named (drop (i + 1) xs)) (Named (drop (i + 1) xs))
  next = at_drop_more Named xs i x within ∙ ap (λ y. Named (y ∷ drop (i + 1) xs)) (sym is) ∙ first (test x)
    where
      first : (b : Bool) → map name (cond b (x ∷ filter test (drop (i + 1) xs)) (filter test (drop (i + 1) xs))) ≡ cond b (name x ∷ Named (drop (i + 1) xs)) (Named (drop (i + 1) xs))
      first true = refl
      first false = refl

  pub pushed : (touched : MayDiffer) → test x ≡ true → option_map (λ named. named ++ Named (drop (i + 1) xs)) (option_map (λ named. named ++ name x ∷ []) touched) ≡ option_map (λ named. named ++ Named (drop i xs)) touched
  pushed touched passes =
      joined touched (name x) (Named (drop (i + 1) xs))
      ∙ ap (λ more. option_map (λ named. named ++ more) touched) (sym (next ∙ ap (λ b. cond b (name x ∷ Named (drop (i + 1) xs)) (Named (drop (i + 1) xs))) passes))

  pub passed : (touched : MayDiffer) → test x ≡ false → option_map (λ named. named ++ Named (drop (i + 1) xs)) touched ≡ option_map (λ named. named ++ Named (drop i xs)) touched
  passed touched fails =
      ap (λ more. option_map (λ named. named ++ more) touched) (sym (next ∙ ap (λ b. cond b (name x ∷ Named (drop (i + 1) xs)) (Named (drop (i + 1) xs))) fails))
