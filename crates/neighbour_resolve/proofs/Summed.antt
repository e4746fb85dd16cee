-- The checksum of a message by the sums of its parts.
use Rattle.std.proofs.Common.{◌≡◌, ℕ, zero, suc, ◌+◌, ◌-◌, ◌*◌, ◌/◌, ◌%◌, ◌<◌, ◌≤◌, ◌==◌, Bool, true, false, List, [], ◌∷◌, ◌++◌, length, take, drop, refl, sym, ap, ◌∙◌, arith, length-append, length-drop}
use Rattle.std.specs.Prelude.{sum}
use Rattle.std.proofs.Math.Seq.{take-add}
use Rattle.std.proofs.lemmas.Bool.{eq-eqb, eqb-true, false≢true}
use Rattle.std.proofs.lemmas.List.{drop-drop, length-take-le}
use Rattle.pkt_view.specs.Checksum.{internet_checksum, ones_complement, words}
use Rattle.pkt_view.specs.Numbers.{number}
use Rattle.pkt_view.specs.Replies.{checksum6, destination6, pseudo, source6}
use Rattle.pkt_view.proofs.Sums.{ones_congruent, ones_most, ones_none, sum-cons, words-append}

same_tests : (a b : ℕ) → (a ≡ 0 → b ≡ 0) → (b ≡ 0 → a ≡ 0) → (a == 0) ≡ (b == 0)
same_tests a b to back = by (a == 0) refl (b == 0) refl
  where
    by : (s : Bool) → (a == 0) ≡ s → (t : Bool) → (b == 0) ≡ t → (a == 0) ≡ (b == 0)
    by true is true other = is ∙ sym other
    by false is false other = is ∙ sym other
    by true is false other = absurd (false≢true (sym other ∙ eq-eqb b 0 (to (eqb-true a 0 is))))
    by false is true other = absurd (false≢true (sym is ∙ eq-eqb a 0 (back (eqb-true b 0 other))))

-- the checksum is 0 for whole turns alone
whole_turns : (n m : ℕ) → 1 ≤ n → m % 65535 ≡ n % 65535 → (m % 65535 == 0) ≡ (65535 - ones_complement n == 0)
whole_turns n m some same =
    let o = ones_complement n in
    let least : 1 ≤ o = positive o refl in
    same_tests (m % 65535) (65535 - o)
    (λ e. omega (arith, e, same, least, ones_most n, ones_congruent n))
    (λ e. omega (arith, e, same, least, ones_most n, ones_congruent n))
  where
    positive : (o : ℕ) → ones_complement n ≡ o → 1 ≤ o
    positive zero e = absurd (omega (arith, some, ones_none n e))
    positive (suc o) e = omega arith

-- a sum over 16 bits keeps its rest where a part is summed alone
summed_apart : (a b c : ℕ) → (ones_complement a + c + ones_complement b) % 65535 ≡ (a + c + b) % 65535
summed_apart a b c = omega (arith, ones_congruent a, ones_congruent b)

-- the length as four bytes
length_words : (n : ℕ) → n ≤ 65535 → sum (words (number 4 n)) ≡ n
unfolding words number
length_words n short =
    let outer = sum-cons (256 * (n / 16777216 % 256) + n / 65536 % 256) ((256 * (n / 256 % 256) + n % 256) ∷ []) in
    let inner = sum-cons (256 * (n / 256 % 256) + n % 256) [] in
    omega (arith, short, outer, inner)

protocol_words : sum (words (0 ∷ 0 ∷ 0 ∷ 58 ∷ [])) ≡ 58
unfolding words
protocol_words = refl

four_bytes : (n : ℕ) → length (number 4 n) ≡ 4
unfolding number
four_bytes n = refl

pseudo_words : (source destination : List ℕ) (len : ℕ) → length source ≡ 16 → length destination ≡ 16 → len ≤ 65535
    → (sum (words (pseudo source destination len)) ≡ sum (words (source ++ destination)) + len + 58) × (length (pseudo source destination len) ≡ 40)
pseudo_words source destination len source_len destination_len short =
    let both : length (source ++ destination) ≡ 32 = omega (arith, length-append source destination, source_len, destination_len) in
    let three : length ((source ++ destination) ++ number 4 len) ≡ 36 = omega (arith, both, length-append (source ++ destination) (number 4 len), four_bytes len) in
    let front = words-append (source ++ destination) (number 4 len) (ap (λ (n : ℕ). n % 2) both) in
    let last = words-append ((source ++ destination) ++ number 4 len) (0 ∷ 0 ∷ 0 ∷ 58 ∷ []) (ap (λ (n : ℕ). n % 2) three) in (
      omega (arith, front, last, length_words len short, protocol_words),
      omega (arith, three, length-append ((source ++ destination) ++ number 4 len) (0 ∷ 0 ∷ 0 ∷ 58 ∷ [])),
    )

pub is_right : (source destination message : List ℕ) (addresses body : ℕ) → length source ≡ 16 → length destination ≡ 16 → length message ≤ 65535
    → addresses ≡ ones_complement (sum (words (source ++ destination))) → body ≡ ones_complement (sum (words message))
    → ((addresses + length message + 58 + body) % 65535 == 0) ≡ (checksum6 source destination message == 0)
unfolding checksum6 internet_checksum
is_right source destination message addresses body source_len destination_len short addresses_is body_is =
    let len = length message in
    let before = pseudo_words source destination len source_len destination_len short in
    let all = words-append (pseudo source destination len) message (ap (λ (n : ℕ). n % 2) before.1) in
    let total = sum (words (pseudo source destination len ++ message)) in
    let apart = summed_apart (sum (words (source ++ destination))) (sum (words message)) (len + 58) in
    let some : 1 ≤ total = omega (arith, all, before.0) in
    let same : (addresses + len + 58 + body) % 65535 ≡ total % 65535 = omega (arith, all, before.0, apart, addresses_is, body_is) in
    whole_turns total (addresses + len + 58 + body) some same

-- ---- as the code has it

pub sum_of : (bytes : List ℕ) (sum_is : ℕ) → sum_is ≡ internet_checksum bytes → 65535 - sum_is ≡ ones_complement (sum (words bytes))
unfolding internet_checksum
sum_of bytes sum_is is = omega (arith, is, ones_most (sum (words bytes)))

-- both addresses stand in a row in the header
addresses_there : (header : List ℕ) → take 32 (drop 8 header) ≡ source6 header ++ destination6 header
addresses_there header = take-add 16 16 (drop 8 header) ∙ ap (λ (l : List ℕ). take 16 (drop 8 header) ++ take 16 l) (drop-drop 16 8 header)

pub is_right_in : (header message : List ℕ) (addresses body : ℕ) → length header ≡ 40 → length message ≤ 65535
    → addresses ≡ ones_complement (sum (words (take 32 (drop 8 header)))) → body ≡ ones_complement (sum (words message))
    → ((addresses + length message + 58 + body) % 65535 == 0) ≡ (checksum6 (source6 header) (destination6 header) message == 0)
is_right_in header message addresses body long short addresses_is body_is =
    is_right (source6 header) (destination6 header) message addresses body
    (length-take-le 16 (drop 8 header) (omega (arith, long, length-drop 8 header))) (length-take-le 16 (drop 24 header) (omega (arith, long, length-drop 24 header))) short
    (addresses_is ∙ ap (λ (l : List ℕ). ones_complement (sum (words l))) (addresses_there header)) body_is
