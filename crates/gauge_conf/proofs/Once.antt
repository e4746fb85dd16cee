-- Names that are added one at a time, each at its first place.
use Rattle.std.proofs.Common.{◌≡◌, ℕ, suc, ◌+◌, ◌<◌, length, get_or, drop, true, false, cond, List, [], ◌∷◌, ◌++◌, append_assoc, refl, ap, sym, ◌∙◌, arith}
use Rattle.std.proofs.Math.Seq.{drop-cons}
use Rattle.gauge_conf.specs.Resolved.{is_among, with_new, new_ones}

-- a name is added, or passed over
one_more : (made rest : List (List ℕ)) (x : List ℕ) → with_new made x ++ new_ones (with_new made x) rest ≡ made ++ new_ones made (x ∷ rest)
one_more made rest x =
    elim (is_among made x) as (λ b. cond b made (made ++ x ∷ []) ++ new_ones (cond b made (made ++ x ∷ [])) rest ≡ made ++ cond b (new_ones made rest) (x ∷ new_ones (made ++ x ∷ []) rest)) [
      | true ↦ refl
      | false ↦ append_assoc made (x ∷ []) (new_ones (made ++ x ∷ []) rest)
    ]

-- a loop's step
pub next_new : (all made new xs : List (List ℕ)) (i : ℕ) (x : List ℕ) → i < length xs → x ≡ get_or xs i x → made ++ new_ones made (drop i xs) ≡ all → new ≡ with_new made x → new ++ new_ones new (drop (i + 1) xs) ≡ all
next_new all made new xs i x lt is so_far added =
    let after : i + 1 ≡ suc i = omega arith in
    ap (λ (n : ℕ). new ++ new_ones new (drop n xs)) after
    ∙ ap (λ (m : List (List ℕ)). m ++ new_ones m (drop (suc i) xs)) added
    ∙ one_more made (drop (suc i) xs) x
    ∙ ap (λ (y : List ℕ). made ++ new_ones made (y ∷ drop (suc i) xs)) is
    ∙ ap (λ ys. made ++ new_ones made ys) (sym (drop-cons xs i x lt))
    ∙ so_far
