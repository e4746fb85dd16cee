-- What is found of a key in a list, and in what is left or made of it.
use Rattle.std.proofs.Common.{◌≡◌, Bool, true, false, cond, not, List, [], ◌∷◌, ◌++◌, map, filter, Option, Some, None, refl, sym, ap, ◌∙◌, subst}
use Rattle.std.specs.Prelude.{Contains}
use Rattle.std.specs.List.{find}
use Rattle.std.specs.Option.{option_map}
use Rattle.law_runs.specs.Members.{head_of, tail_of}
use Rattle.conf_types.specs.declared.change.Change.{Change}

-- ---- those that go are named

module _ {A B : Type 0} (seen : Option A → B) (key keep : A → Bool) (name : A → Change) (c : Change) (is_c : (x : A) → key x ≡ true → name x ≡ c) where
  abbrev gone : List A → List Change
  gone xs = map name (filter (λ x. not (keep x)) xs)

  pub left_named : (xs : List A) → (seen (find key xs) ≡ seen (find key (filter keep xs)) → ⊥) → Contains (gone xs) c
  left_named [] other = absurd (other refl)
  left_named (x ∷ xs) other = by (key x) (keep x) refl refl (λ more. left_named xs more) other
    where
      skipped : key x ≡ false → find key (x ∷ filter keep xs) ≡ find key (filter keep xs)
      skipped is = ap (λ b. cond b (Some x) (find key (filter keep xs))) is

      by : (k t : Bool) → key x ≡ k → keep x ≡ t → ((seen (find key xs) ≡ seen (find key (filter keep xs)) → ⊥) → Contains (gone xs) c)
          → (seen (cond k (Some x) (find key xs)) ≡ seen (find key (cond t (x ∷ filter keep xs) (filter keep xs))) → ⊥) → Contains (map name (cond (not t) (x ∷ filter (λ y. not (keep y)) xs) (filter (λ y. not (keep y)) xs))) c
      by true true is kept more differ = absurd (differ (sym (ap (λ b. seen (cond b (Some x) (find key (filter keep xs)))) is)))
      by true false is kept more differ = subst (λ d. Contains (name x ∷ gone xs) d) (is_c x is) (head_of (name x) (gone xs))
      by false true is kept more differ = more (λ same. differ (same ∙ sym (ap seen (skipped is))))
      by false false is kept more differ = tail_of (name x) (gone xs) c (more differ)

-- ---- those that are seen otherwise are named

module _ {A B : Type 0} (old new : A → B) (key other : A → Bool) (name : A → Change) (c : Change) (is_c : (x : A) → key x ≡ true → name x ≡ c) (same : (x : A) → other x ≡ false → old x ≡ new x) where
  pub seen_named : (xs : List A) → (option_map old (find key xs) ≡ option_map new (find key xs) → ⊥) → Contains (map name (filter other xs)) c
  seen_named [] differ = absurd (differ refl)
  seen_named (x ∷ xs) differ = by (key x) (other x) refl refl (λ more. seen_named xs more) differ
    where
      by : (k t : Bool) → key x ≡ k → other x ≡ t → ((option_map old (find key xs) ≡ option_map new (find key xs) → ⊥) → Contains (map name (filter other xs)) c)
          → (option_map old (cond k (Some x) (find key xs)) ≡ option_map new (cond k (Some x) (find key xs)) → ⊥) → Contains (map name (cond t (x ∷ filter other xs) (filter other xs))) c
      by true true is turned more differ = subst (λ d. Contains (name x ∷ map name (filter other xs)) d) (is_c x is) (head_of (name x) (map name (filter other xs)))
      by true false is turned more differ = absurd (differ (ap Some (same x turned)))
      by false true is turned more differ = tail_of (name x) (map name (filter other xs)) c (more differ)
      by false false is turned more differ = more differ

-- ---- another key

module _ {A : Type 0} (key : A → Bool) where
  pub appended : (y : A) → key y ≡ false → (xs : List A) → find key (xs ++ y ∷ []) ≡ find key xs
  appended y out [] = ap (λ b. cond b (Some y) None) out
  appended y out (x ∷ xs) = ap (cond (key x) (Some x)) (appended y out xs)

  pub filtered : (keep : A → Bool) → ((x : A) → keep x ≡ false → key x ≡ false) → (xs : List A) → find key (filter keep xs) ≡ find key xs
  filtered keep out [] = refl
  filtered keep out (x ∷ xs) = by (keep x) refl (filtered keep out xs)
    where
      by : (t : Bool) → keep x ≡ t → find key (filter keep xs) ≡ find key xs → find key (cond t (x ∷ filter keep xs) (filter keep xs)) ≡ cond (key x) (Some x) (find key xs)
      by true kept more = ap (cond (key x) (Some x)) more
      by false gone more = more ∙ sym (ap (λ b. cond b (Some x) (find key xs)) (out x gone))

  -- each is as it was, or isn't the one that is looked for, before and after
  pub record IsSpared (f : A → A) (x : A) : Type 0 where
    pub before : key x ≡ false
    pub after : key (f x) ≡ false

  pub mapped : (test : A → Bool) (f : A → A) → ((x : A) → test x ≡ true → IsSpared f x) → (xs : List A) → find key (map (λ x. cond (test x) (f x) x) xs) ≡ find key xs
  mapped test f spared [] = refl
  mapped test f spared (x ∷ xs) = by (test x) refl (mapped test f spared xs)
    where
      rest : Option A
      rest = find key (map (λ y. cond (test y) (f y) y) xs)

      by : (t : Bool) → test x ≡ t → rest ≡ find key xs → cond (key (cond t (f x) x)) (Some (cond t (f x) x)) rest ≡ cond (key x) (Some x) (find key xs)
      by true is more = let s = spared x is in ap (λ b. cond b (Some (f x)) rest) s.after ∙ more ∙ sym (ap (λ b. cond b (Some x) (find key xs)) s.before)
      by false is more = ap (cond (key x) (Some x)) more
