-- What is read spells what was read, and what is spelled is read again, part by part.
use Rattle.std.proofs.Common.{◌≡◌, ℕ, zero, suc, ◌+◌, ◌*◌, ◌/◌, ◌%◌, ◌^◌, ◌≤◌, ◌<◌, List, [], ◌∷◌, ◌++◌, length, take, drop, get_or, refl, sym, ap, ◌∙◌, subst, arith, inl, inr}
use Rattle.std.specs.Int.{bytes_high_first, byte_at}
use Rattle.std.proofs.Math.Nat.{mod-lt}
use Rattle.std.proofs.lemmas.Bool.{cases_lt}
use Rattle.std.proofs.lemmas.Nat.{div-mul-add, mod-mul-add}
use Rattle.std.proofs.lemmas.List.{length-append, length-drop, length-take-le, drop_at, take_at, take-append-drop, drop-drop, get_or-drop, get_or_append_left, get_or-append-add, get_or_past, append-nil, drop-append-le, nil_from_length}
use Rattle.byteorder.specs.Endian.{big_from}
use Rattle.byteorder.specs.Numbers.{big_from-cons, big_from-lt, big_from-append, big_number-reads_back, length-bytes_high_first}
use Rattle.of_wire.specs.Numbers.{number_in}
use Rattle.of_wire.specs.Parts.{number}
use Rattle.of_wire.specs.Grammar.{Then, Number, Ignored}

-- ---- bytes

pub record AreBytes (xs : List ℕ) : Type 0 where
  pub small : (i : ℕ) → get_or xs i 0 < 256

pub bytes_drop : (n : ℕ) (xs : List ℕ) → AreBytes xs → AreBytes (drop n xs)
bytes_drop n xs h = record { small = λ i. rw (get_or-drop n xs i 0) (h.small (n + i)) }

pub bytes_front : (xs ys : List ℕ) → AreBytes (xs ++ ys) → AreBytes xs
bytes_front xs ys h = record {
  small = λ i. elim (cases_lt i (length xs)) [
    | inl l ↦ subst (λ x. x < 256) (get_or_append_left xs ys 0 i l) (h.small i)
    | inr g ↦ rw (get_or_past xs i 0 g) (omega arith)
  ];
}

pub bytes_back : (xs ys : List ℕ) → AreBytes (xs ++ ys) → AreBytes ys
bytes_back xs ys h = record { small = λ i. subst (λ x. x < 256) (get_or-append-add xs ys i 0) (h.small (length xs + i)) }

pub bytes_take : (n : ℕ) (xs : List ℕ) → AreBytes xs → AreBytes (take n xs)
bytes_take n xs h = bytes_front (take n xs) (drop n xs) (subst (λ l. AreBytes l) (sym (take-append-drop n xs)) h)

-- ---- numbers

same_numbers : (n : ℕ) (xs ys : List ℕ) → length xs ≡ n → length ys ≡ n → AreBytes xs → AreBytes ys → big_from 0 n xs ≡ big_from 0 n ys → xs ≡ ys
same_numbers zero xs ys p q h k e = nil_from_length xs p ∙ sym (nil_from_length ys q)
same_numbers (suc n) [] ys p q h k e = absurd (omega arith)
same_numbers (suc n) (a ∷ xs) [] p q h k e = absurd (omega arith)
same_numbers (suc n) (a ∷ xs) (b ∷ ys) p q h k e =
    let hs : AreBytes xs = record { small = λ i. h.small (suc i) } in
    let ks : AreBytes ys = record { small = λ i. k.small (suc i) } in
    let u = big_from 0 n xs in let w = big_from 0 n ys in
    let P = 256 ^ n in
    let ul : u < P = big_from-lt 0 n xs hs.small in
    let wl : w < P = big_from-lt 0 n ys ks.small in
    let eu : big_from 0 (suc n) (a ∷ xs) ≡ a * P + u = ap (λ (r : ℕ). a * 256 ^ n + r) (big_from-cons 0 n a xs) in
    let ew : big_from 0 (suc n) (b ∷ ys) ≡ b * P + w = ap (λ (r : ℕ). b * 256 ^ n + r) (big_from-cons 0 n b ys) in
    let both : a * P + u ≡ b * P + w = sym eu ∙ e ∙ ew in
    let heads : a ≡ b = sym (div-mul-add a P u ul) ∙ ap (λ (x : ℕ). x / P) both ∙ div-mul-add b P w wl in
    let tails : u ≡ w = sym (mod-mul-add a P u ul) ∙ ap (λ (x : ℕ). x % P) both ∙ mod-mul-add b P w wl in
    let rest = same_numbers n xs ys (omega arith) (omega arith) hs ks tails in
    λ i. heads i ∷ rest i

byte_small : (k x : ℕ) → byte_at k x < 256
byte_small zero x = mod-lt x (omega arith)
byte_small (suc k) x = mod-lt (x / 256 ^ suc k) (omega arith)

number_small : (n x i : ℕ) → get_or (bytes_high_first n x) i 0 < 256
number_small zero x i = omega arith
number_small (suc n) x zero = byte_small n x
number_small (suc n) x (suc i) = number_small n x i

-- so many bytes are those of the number in them
pub number_back : (n : ℕ) (xs : List ℕ) → AreBytes xs → length xs ≡ n → xs ≡ number n (number_in 0 n xs)
unfolding number_in number
number_back n xs h l =
    let v = big_from 0 n xs in
    let again : big_from 0 n (bytes_high_first n v) ≡ v = ap (big_from 0 n) (sym (append-nil (bytes_high_first n v))) ∙ big_number-reads_back n v [] (big_from-lt 0 n xs h.small) in
    same_numbers n xs (bytes_high_first n v) l (length-bytes_high_first n v) h (record { small = number_small n v }) (sym again)

-- a number stands in the bytes from its place on
pub number_at_drop : (at n : ℕ) (xs : List ℕ) → number_in at n xs ≡ number_in 0 n (drop at xs)
unfolding number_in
number_at_drop at n xs = refl

-- a number reads no byte behind it
pub number_of_front : (at n : ℕ) (xs ys : List ℕ) → at + n ≤ length xs → number_in at n (xs ++ ys) ≡ number_in at n xs
unfolding number_in
number_of_front at n xs ys h =
    ap (big_from 0 n) (drop-append-le at xs ys (omega arith)) ∙ big_from-append n (drop at xs) ys (omega (arith, length-drop at xs))

pub number_of_take : (at n m : ℕ) (xs : List ℕ) → at + n ≤ m → m ≤ length xs → number_in at n (take m xs) ≡ number_in at n xs
number_of_take at n m xs h k =
    sym (number_of_front at n (take m xs) (drop m xs) (omega (arith, length-take-le m xs k))) ∙ ap (number_in at n) (take-append-drop m xs)

pub number_is_small : (at n : ℕ) (xs : List ℕ) → AreBytes xs → number_in at n xs < 256 ^ n
unfolding number_in
number_is_small at n xs h = let d = bytes_drop at xs h in big_from-lt 0 n (drop at xs) d.small

-- ---- what is read is spelled

pub has_number : (at n v : ℕ) (xs : List ℕ) → AreBytes xs → at + n ≡ length xs → number_in at n xs ≡ v → Number n v (drop at xs)
has_number at n v xs h l e = record {
  fits = subst (λ x. x < 256 ^ n) e (number_is_small at n xs h);
  spelled = number_back n (drop at xs) (bytes_drop at xs h) (omega (arith, length-drop at xs)) ∙ ap (number n) (sym (number_at_drop at n xs) ∙ e);
}

pub front_then : (front back : List ℕ → Type 0) (at n : ℕ) (xs : List ℕ) → front (take n (drop at xs)) → back (drop (at + n) xs) → Then front back (drop at xs)
front_then front back at n xs p q = record {
  first = take n (drop at xs);
  rest = drop (at + n) xs;
  whole = sym (take-append-drop n (drop at xs)) ∙ ap (λ r. take n (drop at xs) ++ r) (drop-drop n at xs);
  in_front = p;
  behind = q;
}

pub number_then : (at n v : ℕ) (back : List ℕ → Type 0) (xs : List ℕ) → AreBytes xs → at + n ≤ length xs → number_in at n xs ≡ v → back (drop (at + n) xs) → Then (Number n v) back (drop at xs)
number_then at n v back xs h l e q =
    let d = bytes_drop at xs h in
    let fits : n ≤ length (drop at xs) = omega (arith, length-drop at xs) in
    let there : length (take n (drop at xs)) ≡ n = length-take-le n (drop at xs) fits in
    let same : number_in 0 n (take n (drop at xs)) ≡ v = number_of_take 0 n n (drop at xs) (omega arith) fits ∙ sym (number_at_drop at n xs) ∙ e in
    front_then (Number n v) back at n xs (has_number 0 n v (take n (drop at xs)) (bytes_take n (drop at xs) d) (omega arith) same) q

pub ignored_then : (at n : ℕ) (back : List ℕ → Type 0) (xs : List ℕ) → at + n ≤ length xs → back (drop (at + n) xs) → Then (Ignored n) back (drop at xs)
ignored_then at n back xs l q =
    front_then (Ignored n) back at n xs (length-take-le n (drop at xs) (omega (arith, length-drop at xs))) q

-- ---- what is spelled is read again

pub record Again (at n v : ℕ) (back : List ℕ → Type 0) (xs : List ℕ) : Type 0 where
  pub value : number_in at n xs ≡ v
  pub size : length (drop at xs) ≡ n + length (drop (at + n) xs)
  pub behind : back (drop (at + n) xs)

pub number_again : (at n v : ℕ) (back : List ℕ → Type 0) (xs : List ℕ) → Then (Number n v) back (drop at xs) → Again at n v back xs
unfolding number_in number
number_again at n v back xs t =
    let p = t.in_front in
    let len : length t.first ≡ n = ap length p.spelled ∙ length-bytes_high_first n v in
    let left : drop (at + n) xs ≡ t.rest = sym (drop-drop n at xs) ∙ ap (drop n) t.whole ∙ drop_at t.first t.rest n len in
    record {
      value = ap (big_from 0 n) (t.whole ∙ ap (λ f. f ++ t.rest) p.spelled) ∙ big_number-reads_back n v t.rest p.fits;
      size = ap length t.whole ∙ rw left (omega (arith, length-append t.first t.rest, len));
      behind = subst back (sym left) t.behind;
    }

pub number_ends : (at n v : ℕ) (xs : List ℕ) → Number n v (drop at xs) → (number_in at n xs ≡ v) × (length (drop at xs) ≡ n)
unfolding number_in number
number_ends at n v xs p =
    (ap (big_from 0 n) (p.spelled ∙ sym (append-nil (bytes_high_first n v))) ∙ big_number-reads_back n v [] p.fits, ap length p.spelled ∙ length-bytes_high_first n v)

pub front_again : (front back : List ℕ → Type 0) (at n : ℕ) (xs : List ℕ) (t : Then front back (drop at xs)) → length t.first ≡ n
    → front (take n (drop at xs)) × (length (drop at xs) ≡ n + length (drop (at + n) xs)) × back (drop (at + n) xs)
front_again front back at n xs t len =
    let left : drop (at + n) xs ≡ t.rest = sym (drop-drop n at xs) ∙ ap (drop n) t.whole ∙ drop_at t.first t.rest n len in
    let one : take n (drop at xs) ≡ t.first = ap (take n) t.whole ∙ take_at t.first t.rest n len in
    (subst front (sym one) t.in_front, ap length t.whole ∙ rw left (omega (arith, length-append t.first t.rest, len)), subst back (sym left) t.behind)

pub ignored_again : (at n : ℕ) (back : List ℕ → Type 0) (xs : List ℕ) → Then (Ignored n) back (drop at xs) → (length (drop at xs) ≡ n + length (drop (at + n) xs)) × back (drop (at + n) xs)
ignored_again at n back xs t = let a = front_again (Ignored n) back at n xs t t.in_front in (a.1, a.2)
