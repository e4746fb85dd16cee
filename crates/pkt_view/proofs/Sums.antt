-- One's complement sums.
use Rattle.std.proofs.Common.{◌≡◌, ℕ, zero, suc, ◌+◌, ◌-◌, ◌*◌, ◌%◌, ◌^◌, ◌<◌, ◌≤◌, ◌==◌, List, [], ◌∷◌, ◌++◌, length, drop, get_or, refl, sym, ap, ◌∙◌, arith, length-drop, get_or-drop, nat_lt, append_assoc, ◌/◌}
use Rattle.std.specs.Prelude.{sum, All}
use Rattle.std.specs.List.{fold}
use Rattle.std.proofs.Math.Nat.{add-mod_right}
use Rattle.std.proofs.lemmas.Bool.{eqb-true, ltb-true, ltb-false}
use Rattle.std.proofs.lemmas.List.{drop-drop}
use Rattle.std.proofs.lemmas.List.Sums.{sum_by-cons}
use Rattle.pkt_view.proofs.Choice.{by_if}
use Rattle.pkt_view.specs.Numbers.{number_at, number}
use Rattle.pkt_view.specs.Checksum.{words, ones_complement, carried, internet_checksum}
use Rattle.pkt_view.specs.Replies.{with_checksum}

ones_positive : (n : ℕ) → 1 ≤ n → ones_complement n ≡ (n - 1) % 65535 + 1
unfolding ones_complement
ones_positive n h =
    by_if (λ (v : ℕ). v ≡ (n - 1) % 65535 + 1) (n == 0) 0 ((n - 1) % 65535 + 1) (λ e. absurd (omega (arith, h, eqb-true n 0 e))) (λ e. refl)

ones_zero : ones_complement 0 ≡ 0
unfolding ones_complement
ones_zero = refl

-- a whole turn changes nothing, except at zero
pub turn : (n : ℕ) → 1 ≤ n → ones_complement (n + 65535) ≡ ones_complement n
turn n h =
    let same : n + 65535 - 1 ≡ n - 1 + 65535 = omega (arith, h) in
    ones_positive (n + 65535) (omega arith) ∙ ap (λ (m : ℕ). m % 65535 + 1) same ∙ ap (λ (m : ℕ). m + 1) (add-mod_right (n - 1) 65535) ∙ sym (ones_positive n h)

pub ones_small : (n : ℕ) → n ≤ 65535 → ones_complement n ≡ n
ones_small zero h = ones_zero
ones_small (suc n) h = ones_positive (suc n) (omega arith) ∙ omega (arith, h)

-- a carry brought back at once or in the end
pub carried_later : (a b rest : ℕ) → ones_complement (carried a b + rest) ≡ ones_complement (a + b + rest)
carried_later a b rest =
    by_if (λ (v : ℕ). ones_complement (v + rest) ≡ ones_complement (a + b + rest)) (nat_lt 65535 (a + b)) (a + b - 65535) (a + b) (λ e. let above : 65535 < a + b = ltb-true 65535 (a + b) e in let same : a + b - 65535 + rest + 65535 ≡ a + b + rest = omega (arith, above) in sym (turn (a + b - 65535 + rest) (omega (arith, above))) ∙ ap ones_complement same) (λ e. refl)

pub sum-cons : (x : ℕ) (xs : List ℕ) → sum (x ∷ xs) ≡ x + sum xs
sum-cons x xs = sum_by-cons (λ (n : ℕ). n) x xs

front_more : (bytes : List ℕ) → 2 ≤ length bytes → sum (words bytes) ≡ number_at 2 0 bytes + sum (words (drop 2 bytes))
unfolding words number_at
front_more [] h = absurd (omega (arith, h))
front_more (a ∷ []) h = absurd (omega (arith, h))
front_more (a ∷ b ∷ more) h =
    let step : sum (words (a ∷ b ∷ more)) ≡ 256 * a + b + sum (words more) = sum-cons (256 * a + b) (words more) in
    let word : number_at 2 0 (a ∷ b ∷ more) ≡ a * 256 + (b * 1 + 0) = refl in
    let rest : sum (words (drop 2 (a ∷ b ∷ more))) ≡ sum (words more) = refl in
    omega (arith, step, word, rest)

front_last : (bytes : List ℕ) → length bytes ≡ 1 → sum (words bytes) ≡ 256 * get_or bytes 0 0
unfolding words
front_last [] h = absurd (omega (arith, h))
front_last (a ∷ []) h = omega (arith, sum-cons (256 * a) [])
front_last (a ∷ b ∷ more) h = absurd (omega (arith, h))

front_end : (bytes : List ℕ) → length bytes ≡ 0 → sum (words bytes) ≡ 0
unfolding words
front_end [] h = refl
front_end (a ∷ more) h = absurd (omega (arith, h))

number-drop : (at : ℕ) (bytes : List ℕ) → number_at 2 0 (drop at bytes) ≡ number_at 2 at bytes
unfolding number_at
number-drop at bytes = refl

-- the words of bytes from a place on
pub words_more : (bytes : List ℕ) (at : ℕ) → at + 2 ≤ length bytes → sum (words (drop at bytes)) ≡ number_at 2 at bytes + sum (words (drop (at + 2) bytes))
words_more bytes at h =
    let one = front_more (drop at bytes) (omega (arith, h, length-drop at bytes)) in
    let word = number-drop at bytes in
    let rest : sum (words (drop 2 (drop at bytes))) ≡ sum (words (drop (at + 2) bytes)) = ap (λ (l : List ℕ). sum (words l)) (drop-drop 2 at bytes) in
    omega (arith, one, word, rest)

pub words_last : (bytes : List ℕ) (at : ℕ) → at + 1 ≡ length bytes → sum (words (drop at bytes)) ≡ 256 * get_or bytes at 0
words_last bytes at h =
    let one = front_last (drop at bytes) (omega (arith, h, length-drop at bytes)) in
    let same : get_or (drop at bytes) 0 0 ≡ get_or bytes (at + 0) 0 = get_or-drop at bytes 0 0 in
    let place : get_or bytes (at + 0) 0 ≡ get_or bytes at 0 = ap (λ (i : ℕ). get_or bytes i 0) (omega arith) in
    omega (arith, one, same, place)

pub words_end : (bytes : List ℕ) (at : ℕ) → length bytes ≤ at → sum (words (drop at bytes)) ≡ 0
words_end bytes at h = front_end (drop at bytes) (omega (arith, h, length-drop at bytes))

-- the sum is done once the last word is in it
pub done_odd : (s sofar x rest total : ℕ) → s ≡ carried sofar x → s ≤ 65535 → rest ≡ x → ones_complement (sofar + rest) ≡ ones_complement total → s ≡ ones_complement total
done_odd s sofar x rest total e h r t =
    let left : s ≡ carried sofar x + 0 = omega (arith, e) in
    let right : sofar + x + 0 ≡ sofar + rest = omega (arith, r) in
    sym (ones_small s h) ∙ ap ones_complement left ∙ carried_later sofar x 0 ∙ ap ones_complement right ∙ t

pub done_even : (s rest total : ℕ) → s ≤ 65535 → rest ≡ 0 → ones_complement (s + rest) ≡ ones_complement total → s ≡ ones_complement total
done_even s rest total h r t =
    let left : s ≡ s + rest = omega (arith, r) in
    sym (ones_small s h) ∙ ap ones_complement left ∙ t

-- ---- what the one's complement sum is

pub ones_most : (n : ℕ) → ones_complement n ≤ 65535
ones_most zero = omega (arith, ones_zero)
ones_most (suc n) = omega (arith, ones_positive (suc n) (omega arith))

pub ones_congruent : (n : ℕ) → ones_complement n % 65535 ≡ n % 65535
ones_congruent zero = ap (λ (m : ℕ). m % 65535) ones_zero
ones_congruent (suc n) = omega (arith, ones_positive (suc n) (omega arith))

pub ones_none : (n : ℕ) → ones_complement n ≡ 0 → n ≡ 0
ones_none zero e = refl
ones_none (suc n) e = omega (arith, e, ones_positive (suc n) (omega arith))

-- ---- the sum by words with the carry brought back at once

carried_most : (a b : ℕ) → a ≤ 65535 → b ≤ 65535 → carried a b ≤ 65535
carried_most a b ha hb =
    by_if (λ (v : ℕ). v ≤ 65535) (nat_lt 65535 (a + b)) (a + b - 65535) (a + b) (λ e. omega (arith, ha, hb)) (λ e. ltb-false 65535 (a + b) e)

fold_carried : (s : ℕ) (ws : List ℕ) → s ≤ 65535 → All (λ w. w < 2 ^ 16) ws → fold carried s ws ≡ ones_complement (s + sum ws)
fold_carried s [] h all = sym (ones_small s h) ∙ ap ones_complement (omega arith)
fold_carried s (w ∷ ws) h all =
    let here : w < 2 ^ 16 = all 0 w (omega arith) in
    let rest : All (λ v. v < 2 ^ 16) ws = λ k d lt. all (suc k) d (omega (arith, lt)) in
    fold_carried (carried s w) ws (carried_most s w h (omega (arith, here))) rest ∙ carried_later s w (sum ws) ∙ ap ones_complement (omega (arith, sum-cons w ws))

pub sum_by_carrying : (ws : List ℕ) → All (λ w. w < 2 ^ 16) ws → fold carried 0 ws ≡ ones_complement (sum ws)
sum_by_carrying ws all = fold_carried 0 ws (omega arith) all ∙ ap ones_complement (omega arith)

-- ---- bytes with their checksum in them

pub words-append : (xs ys : List ℕ) → length xs % 2 ≡ 0 → sum (words (xs ++ ys)) ≡ sum (words xs) + sum (words ys)
unfolding words
words-append [] ys h = omega arith
words-append (a ∷ []) ys h = absurd (omega (arith, h))
words-append (a ∷ b ∷ more) ys h =
    let step = sum-cons (256 * a + b) (words (more ++ ys)) in
    let front = sum-cons (256 * a + b) (words more) in
    let rest = words-append more ys (omega (arith, h)) in
    omega (arith, step, front, rest)

words-number : (c : ℕ) (ys : List ℕ) → c < 65536 → sum (words (number 2 c ++ ys)) ≡ c + sum (words ys)
unfolding words number
words-number c ys h =
    let step = sum-cons (256 * (c / 256 % 256) + c % 256) (words ys) in
    let value : 256 * (c / 256 % 256) + c % 256 ≡ c = omega (arith, h) in
    step ∙ ap (λ (n : ℕ). n + sum (words ys)) value

completed : (total : ℕ) → ones_complement (total + (65535 - ones_complement total)) ≡ 65535
completed zero = ap (λ (n : ℕ). ones_complement (0 + (65535 - n))) ones_zero ∙ ones_small 65535 (omega arith)
completed (suc n) =
    let one = ones_positive (suc n) (omega arith) in
    let two = ones_positive (suc n + (65535 - ones_complement (suc n))) (omega arith) in
    omega (arith, one, two)

pub right_checksum : (before after : List ℕ) → length before % 2 ≡ 0 → internet_checksum (with_checksum before after) ≡ 0
unfolding internet_checksum with_checksum
right_checksum before after h =
    let total = sum (words before) + sum (words after) in
    let around : (c : ℕ) → c < 65536 → sum (words (before ++ number 2 c ++ after)) ≡ total + c = λ c hc. ap (λ (l : List ℕ). sum (words l)) (append_assoc before (number 2 c) after) ∙ words-append before (number 2 c ++ after) h ∙ omega (arith, words-number c after hc) in
    let empty : sum (words (before ++ number 2 0 ++ after)) ≡ total = around 0 (omega arith) ∙ omega arith in
    let sum_of : 65535 - ones_complement (sum (words (before ++ number 2 0 ++ after))) ≡ 65535 - ones_complement total = ap (λ (n : ℕ). 65535 - ones_complement n) empty in
    let whole = around (65535 - ones_complement (sum (words (before ++ number 2 0 ++ after)))) (omega arith) in
    let same = whole ∙ ap (λ (c : ℕ). total + c) sum_of in
    let ones = ap ones_complement same ∙ completed total in
    omega (arith, ones)
