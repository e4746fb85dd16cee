-- Why a host isn't kept: it may not stay, one behind it has its key, or those kept before it leave it no room.
use Rattle.std.proofs.Common.{◌≡◌, ℕ, ◌&&◌, ◌||◌, ◌++◌, Bool, true, false, cond, List, [], ◌∷◌, filter, inl, inr, refl, sym, ap, ◌∙◌, subst, append_assoc, append-nil, true≢false, if◌then◌else◌}
use Rattle.std.specs.Prelude.{◌⊎◌}
use Rattle.std.specs.List.{list_any}
use Rattle.std.proofs.lemmas.Bool.{cases_Bool}
use Rattle.conf_types.specs.declared.state.HostRec.{HostRec}
use Rattle.conf_types.specs.Configuration.{Configuration}
use Rattle.host_learn.specs.Kept.{finds_room, last_of_each, with_room}
use Rattle.host_learn.specs.Learning.{is_heard}
use Rattle.law_lives.specs.Hosts.{IsAmong}
use Rattle.law_lives.proofs.Among.{among_first, among_second}

-- ---- a part of a list, around one of its items

pub filter_around : (p : HostRec → Bool) (first : List HostRec) (h : HostRec) (more : List HostRec) → p h ≡ true → filter p (first ++ h ∷ more) ≡ filter p first ++ h ∷ filter p more
filter_around p [] h more is = ap (λ b. cond b (h ∷ filter p more) (filter p more)) is
filter_around p (x ∷ xs) h more is =
    elim (p x) as (λ b. cond b (x ∷ filter p (xs ++ h ∷ more)) (filter p (xs ++ h ∷ more)) ≡ cond b (x ∷ filter p xs) (filter p xs) ++ h ∷ filter p more) [
      | true ↦ ap (λ ys. x ∷ ys) (filter_around p xs h more is)
      | false ↦ filter_around p xs h more is
    ]

-- one of a part passes its test too
passed_on : (a b c : Bool) → c ≡ true → ((a && b) || c) ≡ true
passed_on true true c is = refl
passed_on true false c is = is
passed_on false b c is = is

first_or : (a c e : Bool) → (a || c) ≡ true → (c ≡ true → e ≡ true) → ((a && true) || e) ≡ true
first_or true c e is more = refl
first_or false c e is more = more is

module _ (p q : HostRec → Bool) where
  abbrev passes : List HostRec → Bool
  passes xs = list_any (λ k. p k && q k) xs

  tested : (x : HostRec) (ys xs : List HostRec) → (list_any p ys ≡ true → passes xs ≡ true) → (c : Bool) → list_any p (cond c (x ∷ ys) ys) ≡ true → ((p x && c) || passes xs) ≡ true
  tested x ys xs more true some = first_or (p x) (list_any p ys) (passes xs) some more
  tested x ys xs more false some = passed_on (p x) false (passes xs) (more some)

  left_one : (r : HostRec → Bool) (x : HostRec) (xs : List HostRec) → (list_any p (filter q (filter r xs)) ≡ true → passes xs ≡ true) → (b : Bool) → list_any p (filter q (cond b (x ∷ filter r xs) (filter r xs))) ≡ true
      → ((p x && q x) || passes xs) ≡ true
  left_one r x xs more true some = tested x (filter q (filter r xs)) xs more (q x) some
  left_one r x xs more false some = passed_on (p x) (q x) (passes xs) (more some)

  pub any_part : (r : HostRec → Bool) (xs : List HostRec) → list_any p (filter q (filter r xs)) ≡ true → list_any (λ k. p k && q k) xs ≡ true
  any_part r [] some = some
  any_part r (x ∷ xs) some = left_one r x xs (any_part r xs) (r x) some

-- ---- the last of each key

pub last_keeps : (conf : Configuration) (first : List HostRec) (h : HostRec) (more : List HostRec) → list_any (is_heard conf h) more ≡ false → IsAmong h (last_of_each conf (first ++ h ∷ more))
last_keeps conf [] h more none =
    subst (λ b. IsAmong h (if b then last_of_each conf more else h ∷ last_of_each conf more)) (sym none) (inl refl)
last_keeps conf (x ∷ xs) h more none =
    let rest : IsAmong h (last_of_each conf (xs ++ h ∷ more)) = last_keeps conf xs h more none in
    elim (list_any (is_heard conf x) (xs ++ h ∷ more)) as (λ b. IsAmong h (if b then last_of_each conf (xs ++ h ∷ more) else x ∷ last_of_each conf (xs ++ h ∷ more))) [ true ↦ rest | false ↦ inr rest ]

-- ---- room

module _ (conf : Configuration) (limit : ℕ) where
  -- what was kept stands before what is kept more
  front : (kept hosts : List HostRec) → (more : List HostRec) × (with_room conf limit kept hosts ≡ kept ++ more)
  front kept [] = ([], sym (append-nil kept))
  front kept (x ∷ xs) =
      elim (finds_room conf limit kept x) as (λ b. (more : List HostRec) × (with_room conf limit (if b then kept ++ x ∷ [] else kept) xs ≡ kept ++ more)) [
        | true ↦ let rest = front (kept ++ x ∷ []) xs in (x ∷ rest.0, rest.1 ∙ append_assoc kept (x ∷ []) rest.0)
        | false ↦ front kept xs
      ]

  abbrev pub LeavesNoRoom : List HostRec → HostRec → Type 0
  LeavesNoRoom all h = (first more : List HostRec) × (all ≡ first ++ more) × (finds_room conf limit first h ≡ false)

  pub kept_or : (kept hosts : List HostRec) (h : HostRec) → IsAmong h hosts → IsAmong h (with_room conf limit kept hosts) ⊎ LeavesNoRoom (with_room conf limit kept hosts) h
  kept_or kept [] h is = absurd is
  kept_or kept (x ∷ xs) h is =
      elim is [
        | inl here ↦ by_room here (finds_room conf limit kept x) refl
        | inr later ↦ kept_or (if finds_room conf limit kept x then kept ++ x ∷ [] else kept) xs h later
      ]
    where
      by_room : x ≡ h → (b : Bool) → finds_room conf limit kept x ≡ b
          → IsAmong h (with_room conf limit (if finds_room conf limit kept x then kept ++ x ∷ [] else kept) xs) ⊎ LeavesNoRoom (with_room conf limit (if finds_room conf limit kept x then kept ++ x ∷ [] else kept) xs) h
      by_room here true room =
          let rest = front (kept ++ x ∷ []) xs in
          inl (subst (λ (b : Bool). IsAmong h (with_room conf limit (if b then kept ++ x ∷ [] else kept) xs)) (sym room)
          (subst (IsAmong h) (sym rest.1) (among_first h (kept ++ x ∷ []) rest.0 (among_second h kept (x ∷ []) (inl here)))))
      by_room here false none =
          let rest = front kept xs in
          inr (kept, rest.0, subst (λ (b : Bool). with_room conf limit (if b then kept ++ x ∷ [] else kept) xs ≡ kept ++ rest.0) (sym none) rest.1, subst (λ k. finds_room conf limit kept k ≡ false) here none)
