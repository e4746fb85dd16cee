-- Cutting at a mark, as a loop does.
use Rattle.std.proofs.Common.{◌≡◌, ℕ, suc, ◌+◌, ◌<◌, ◌≤◌, true, false, List, [], ◌∷◌, ◌++◌, length, get_or, take, drop, Option, Some, None, refl, sym, ap, ◌∙◌, append_assoc, add-one, arith, drop-cons}
use Rattle.std.specs.Prelude.{◌==◌}
use Rattle.std.proofs.Math.Seq.{take-suc}
use Rattle.std.proofs.lemmas.List.{append-nil, drop_all}
use Rattle.std.proofs.lemmas.Bool.{eq-eqb}
use Rattle.std.proofs.lemmas.Bool.Decides.{nat_tests}
use Rattle.net_base.specs.AddressReading.{◌>>=◌, cut_at}

abbrev pub put_before : List ℕ → Option (List ℕ × List ℕ) → Option (List ℕ × List ℕ)
put_before front read = read >>= λ cut. Some (front ++ cut.0, cut.1)

pub equal_at : (b k : ℕ) → (b == k) ≡ true → b ≡ k
equal_at b k h = grind (arith, nat_tests)

pub apart : (b k : ℕ) → ¬ (b ≡ k) → (b == k) ≡ false
apart b k h = grind (arith, nat_tests)

regroup : (front : List ℕ) (b : ℕ) (read : Option (List ℕ × List ℕ)) → put_before front (read >>= λ cut. Some (b ∷ cut.0, cut.1)) ≡ put_before (front ++ b ∷ []) read
regroup front b None = refl
regroup front b (Some cut) = ap (λ (w : List ℕ). Some (w, cut.1)) (sym (append_assoc front (b ∷ []) cut.0))

pub cut_at_mark : (mark b : ℕ) (bs : List ℕ) → b ≡ mark → cut_at mark (b ∷ bs) ≡ Some ([], bs)
cut_at_mark mark b bs e = rw (eq-eqb b mark e) refl

pub cut_past : (mark b : ℕ) (bs : List ℕ) → ¬ (b ≡ mark) → cut_at mark (b ∷ bs) ≡ (cut_at mark bs >>= λ cut. Some (b ∷ cut.0, cut.1))
cut_past mark b bs h = rw (apart b mark h) refl

module _ (mark : ℕ) (bs : List ℕ) (n : ℕ) (total : Option (List ℕ × List ℕ)) (so_far : put_before (take n bs) (cut_at mark (drop n bs)) ≡ total) where
  pub found : n < length bs → get_or bs n 0 ≡ mark → total ≡ Some (take n bs, drop (n + 1) bs)
  found h e =
      let here : cut_at mark (drop n bs) ≡ Some ([], drop (suc n) bs) = rw (drop-cons bs n 0) (cut_at_mark mark (get_or bs n 0) (drop (suc n) bs) e) in
      sym so_far ∙ ap (put_before (take n bs)) here ∙ ap (λ (w : List ℕ). Some (w, drop (suc n) bs)) (append-nil (take n bs)) ∙ ap (λ m. Some (take n bs, drop m bs)) (sym (add-one n))

  pub goes_on : n < length bs → ¬ (get_or bs n 0 ≡ mark) → put_before (take (n + 1) bs) (cut_at mark (drop (n + 1) bs)) ≡ total
  goes_on h e =
      let here : cut_at mark (drop n bs) ≡ (cut_at mark (drop (suc n) bs) >>= λ cut. Some (get_or bs n 0 ∷ cut.0, cut.1)) = rw (drop-cons bs n 0) (cut_past mark (get_or bs n 0) (drop (suc n) bs) e) in
      let front : take (suc n) bs ≡ take n bs ++ get_or bs n 0 ∷ [] = take-suc bs n 0 h in
      rw (add-one, front) (sym (regroup (take n bs) (get_or bs n 0) (cut_at mark (drop (suc n) bs))) ∙ sym (ap (put_before (take n bs)) here) ∙ so_far)

  pub ends : length bs ≤ n → total ≡ None
  ends h = let none : drop n bs ≡ [] = drop_all n bs h in sym so_far ∙ ap (λ w. put_before (take n bs) (cut_at mark w)) none
