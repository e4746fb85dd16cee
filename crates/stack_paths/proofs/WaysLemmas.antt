use Rattle.std.proofs.Common.{◌≡◌, ℕ, ◌<◌, ◌≤◌, ◌++◌, ◌∷◌, [], List, length, get_or, sym, refl, subst, ⊎_elim, arith}
use Rattle.std.proofs.lemmas.Bool.{cases_lt}
use Rattle.std.proofs.lemmas.List.{get_or_append_left, get_or_push, length_push}
use Rattle.stack_paths.specs.declared.hops.Hop.{Hop}
use Rattle.stack_paths.specs.declared.ways.Ways.{Ways}
use Rattle.stack_paths.specs.Hops.{AllWays}
use Rattle.stack_paths.specs.Trees.{ReachThemselves}

-- what holds at each place still does after a push of what holds at the next
pub each_push : {X : Type 0} (P : ℕ → X → Type 0) (xs : List X) (y : X) → ((i : ℕ) (d : X) → i < length xs → P i (get_or xs i d)) → P (length xs) y → (i : ℕ) (d : X) → i < length (xs ++ y ∷ []) → P i (get_or (xs ++ y ∷ []) i d)
each_push P xs y before here i d within =
    ⊎_elim
    (λ (low : i < length xs). subst (P i) (sym (get_or_append_left xs (y ∷ []) d i low)) (before i d low))
    (λ (high : length xs ≤ i).
    let it : length xs ≡ i = omega (arith, high, within, length_push xs y) in
    subst (P i) (sym (get_or_push xs y d i it)) (subst (λ k. P k y) it here))
    (cases_lt i (length xs))

-- the ways to a place have its own distance
pub reach_themselves : (hops : List Hop) (count : ℕ) (ways : List Ways) → AllWays hops count ways → ReachThemselves count ways
reach_themselves hops count ways all i d within =
    let w = all i d within in
    let own = w.distances.least i 0 refl in
    (w.distances_len, (own.0, own.2))
