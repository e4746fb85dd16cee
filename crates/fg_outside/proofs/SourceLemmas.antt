-- What sources have left.
use Rattle.std.proofs.Common.{◌≡◌, ℕ, ◌+◌, ◌-◌, ◌≤◌, List, [], ◌++◌, take, drop, Option, Some, None, refl, sym, ◌∙◌, ap, arith, append_assoc}
use Rattle.std.proofs.lemmas.List.{take-append-drop, drop-take, drop-drop}
use Rattle.fg_outside.specs.Contents.{ReadsAt}
use Rattle.fg_outside.specs.Left.{prepended}
use Rattle.fg_outside.specs.FileSource.{left_of}

-- the next n bytes stand in front of what lies behind them
pub next_bytes : (xs : List ℕ) (at n : ℕ) → take n (drop at xs) ++ drop (at + n) xs ≡ drop at xs
next_bytes xs at n = ap (λ (l : List ℕ). take n (drop at xs) ++ l) (sym (drop-drop n at xs)) ∙ take-append-drop n (drop at xs)

-- bytes that are taken from what was read ahead
pub left_of-take : (ahead : List ℕ) (place : ℕ) (told : Option (Option (List ℕ))) (n : ℕ) → left_of ahead place told ≡ prepended (take n ahead) (left_of (drop n ahead) place told)
left_of-take ahead place None n = refl
left_of-take ahead place (Some None) n = refl
left_of-take ahead place (Some (Some file)) n =
    ap (λ (l : List ℕ). Some (l ++ drop place file)) (sym (take-append-drop n ahead))
    ∙ ap (λ (l : List ℕ). Some l) (append_assoc (take n ahead) (drop n ahead) (drop place file))

-- bytes that are read ahead
pub left_of-read : (told : Option (Option (List ℕ))) (buf : List ℕ) (place n : ℕ) → ((file : List ℕ) → told ≡ Some (Some file) → ReadsAt file place buf n) → left_of (take n buf) (place + n) told ≡ left_of [] place told
left_of-read None buf place n reads = refl
left_of-read (Some None) buf place n reads = refl
left_of-read (Some (Some file)) buf place n reads = ap (λ (l : List ℕ). Some (l ++ drop (place + n) file)) (reads file refl).bytes ∙ ap (λ (l : List ℕ). Some l) (next_bytes file place n)

-- the part of what was read ahead that lies behind the next n bytes
pub part_behind : (xs : List ℕ) (start end n : ℕ) → n ≤ end - start → drop n (take (end - start) (drop start xs)) ≡ take (end - (start + n)) (drop (start + n) xs)
part_behind xs start end n within =
    let rest = end - (start + n) in
    let parts : end - start ≡ n + rest = omega (arith, within) in
    ap (λ k. drop n (take k (drop start xs))) parts
    ∙ drop-take n rest (drop start xs)
    ∙ ap (λ (l : List ℕ). take rest l) (drop-drop n start xs)
