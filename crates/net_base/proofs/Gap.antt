-- Cutting at the first two colons in a row, as a loop does.
use Rattle.std.proofs.Common.{◌≡◌, ℕ, suc, ◌+◌, ◌-◌, ◌<◌, ◌≤◌, true, false, List, [], ◌∷◌, ◌++◌, length, get_or, take, drop, Option, Some, None, refl, sym, ap, ◌∙◌, append_assoc, add-one, arith, length-drop, drop-cons}
use Rattle.std.proofs.Math.Seq.{take-suc}
use Rattle.std.proofs.lemmas.List.{append-nil, take_all, drop_all, drop-drop}
use Rattle.net_base.specs.AddressReading.{◌>>=◌}
use Rattle.net_base.specs.Address6Reading.{is_gap, gap_at}
use Rattle.net_base.proofs.Cut.{put_before}

-- what stands behind a place
pub behind : (n : ℕ) (bs : List ℕ) → take (length bs - n) (drop n bs) ≡ drop n bs
behind n bs = take_all (length bs - n) (drop n bs) (omega (arith, length-drop n bs))

regroup : (front : List ℕ) (b : ℕ) (read : Option (List ℕ × List ℕ)) → put_before front (read >>= λ cut. Some (b ∷ cut.0, cut.1)) ≡ put_before (front ++ b ∷ []) read
regroup front b None = refl
regroup front b (Some cut) = ap (λ (w : List ℕ). Some (w, cut.1)) (sym (append_assoc front (b ∷ []) cut.0))

pub gap_here : (b : ℕ) (bs : List ℕ) → is_gap b bs ≡ true → gap_at (b ∷ bs) ≡ Some ([], drop 1 bs)
gap_here b bs h = rw h refl

pub gap_past : (b : ℕ) (bs : List ℕ) → is_gap b bs ≡ false → gap_at (b ∷ bs) ≡ (gap_at bs >>= λ cut. Some (b ∷ cut.0, cut.1))
gap_past b bs h = rw h refl

module _ (bs : List ℕ) (n : ℕ) (total : Option (List ℕ × List ℕ)) (so_far : put_before (take n bs) (gap_at (drop n bs)) ≡ total) where
  pub found : n < length bs → is_gap (get_or bs n 0) (drop (n + 1) bs) ≡ true → total ≡ Some (take n bs, drop (n + 2) bs)
  found h e =
      let next : is_gap (get_or bs n 0) (drop (suc n) bs) ≡ true = ap (λ m. is_gap (get_or bs n 0) (drop m bs)) (sym (add-one n)) ∙ e in
      let here : gap_at (drop n bs) ≡ Some ([], drop 1 (drop (suc n) bs)) = rw (drop-cons bs n 0) (gap_here (get_or bs n 0) (drop (suc n) bs) next) in
      let place : suc n + 1 ≡ n + 2 = omega arith in
      let rest : drop 1 (drop (suc n) bs) ≡ drop (n + 2) bs = drop-drop 1 (suc n) bs ∙ ap (λ m. drop m bs) place in
      sym so_far ∙ ap (put_before (take n bs)) here ∙ (λ i. Some (append-nil (take n bs) i, rest i))

  pub goes_on : n < length bs → is_gap (get_or bs n 0) (drop (n + 1) bs) ≡ false → put_before (take (n + 1) bs) (gap_at (drop (n + 1) bs)) ≡ total
  goes_on h e =
      let next : is_gap (get_or bs n 0) (drop (suc n) bs) ≡ false = ap (λ m. is_gap (get_or bs n 0) (drop m bs)) (sym (add-one n)) ∙ e in
      let here : gap_at (drop n bs) ≡ (gap_at (drop (suc n) bs) >>= λ cut. Some (get_or bs n 0 ∷ cut.0, cut.1)) = rw (drop-cons bs n 0) (gap_past (get_or bs n 0) (drop (suc n) bs) next) in
      let front : take (suc n) bs ≡ take n bs ++ get_or bs n 0 ∷ [] = take-suc bs n 0 h in
      rw (add-one, front) (sym (regroup (take n bs) (get_or bs n 0) (gap_at (drop (suc n) bs))) ∙ sym (ap (put_before (take n bs)) here) ∙ so_far)

  pub ends : length bs ≤ n → total ≡ None
  ends h = let none : drop n bs ≡ [] = drop_all n bs h in sym so_far ∙ ap (λ w. put_before (take n bs) (gap_at w)) none
