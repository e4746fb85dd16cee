-- Files that are read in pieces.
use Rattle.std.proofs.Common.{◌≡◌, ℕ, ◌+◌, ◌-◌, ◌≤◌, List, ◌++◌, length, take, drop, sym, ◌∙◌, ap, arith, length-append, length-drop}
use Rattle.std.proofs.lemmas.List.{length-take-le}
use Rattle.std.proofs.Math.Seq.{take-add}

-- a front of a file with the next piece behind it is a front of the file
pub front-append : (file old piece : List ℕ) (n : ℕ) → old ≡ take (length old) file → piece ≡ take n (drop (length old) file) → n ≤ length file - length old → old ++ piece ≡ take (length (old ++ piece)) file
front-append file old piece n front next within =
    let long : length piece ≡ n = ap length next ∙ length-take-le n (drop (length old) file) (omega (arith, within, length-drop (length old) file)) in
    let both : length (old ++ piece) ≡ length old + n = omega (arith, length-append old piece, long) in
    sym (ap (λ k. take k file) both ∙ take-add (length old) n file ∙ ap (λ (l : List ℕ). l ++ take n (drop (length old) file)) (sym front) ∙ ap (λ (l : List ℕ). old ++ l) (sym next))
