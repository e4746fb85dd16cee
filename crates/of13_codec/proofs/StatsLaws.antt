-- Ports' counters are read exactly where they are spelled.
use Rattle.std.proofs.Common.{◌≡◌, ℕ, zero, suc, ◌+◌, ◌*◌, List, [], ◌∷◌, ◌++◌, length, drop, refl, sym, ap, ◌∙◌, subst, arith}
use Rattle.of_wire.specs.Numbers.{number_in}
use Rattle.of_wire.specs.Grammar.{◌▷◌, Number}
use Rattle.of_wire.proofs.Grammars.{AreBytes, has_number, number_then, ignored_then, number_again, number_ends, ignored_again, number_of_front}
use Rattle.of13_codec.specs.declared.ports.PortStats.{PortStats}
use Rattle.of13_codec.specs.Decoding.{stats_of}
use Rattle.of13_codec.specs.Spelling.{SpellsStats, Numbers}
use Rattle.of13_codec.proofs.ItemLaws.{IsItem}

pub stats_sound : (xs : List ℕ) → AreBytes xs → length xs ≡ 112 → SpellsStats (stats_of xs) xs
unfolding stats_of
stats_sound xs h len = record {
  parts =
      number_then 0 4 (number_in 0 4 xs) _ xs h (omega arith) refl (
      ignored_then 4 4 _ xs (omega arith) (
      number_then 8 8 (number_in 8 8 xs) _ xs h (omega arith) refl (
      number_then 16 8 (number_in 16 8 xs) _ xs h (omega arith) refl (
      number_then 24 8 (number_in 24 8 xs) _ xs h (omega arith) refl (
      number_then 32 8 (number_in 32 8 xs) _ xs h (omega arith) refl (
      number_then 40 8 (number_in 40 8 xs) _ xs h (omega arith) refl (
      number_then 48 8 (number_in 48 8 xs) _ xs h (omega arith) refl (
      number_then 56 8 (number_in 56 8 xs) _ xs h (omega arith) refl (
      number_then 64 8 (number_in 64 8 xs) _ xs h (omega arith) refl (
      number_then 72 8 (number_in 72 8 xs) _ xs h (omega arith) refl (
      number_then 80 8 (number_in 80 8 xs) _ xs h (omega arith) refl (
      number_then 88 8 (number_in 88 8 xs) _ xs h (omega arith) refl (
      number_then 96 8 (number_in 96 8 xs) _ xs h (omega arith) refl (
      number_then 104 4 (number_in 104 4 xs) _ xs h (omega arith) refl (
      has_number 108 4 (number_in 108 4 xs) xs h (omega arith) refl)))))))))))))));
  twelve = refl;
}

-- the numbers from a place on
numbers_from : (count at : ℕ) → List ℕ → List ℕ
numbers_from zero at xs = []
numbers_from (suc count) at xs = number_in at 8 xs ∷ numbers_from count (at + 8) xs

record NumbersAgain (at : ℕ) (vs : List ℕ) (back : List ℕ → Type 0) (xs : List ℕ) : Type 0 where
  pub values : numbers_from (length vs) at xs ≡ vs
  pub size : length (drop at xs) ≡ 8 * length vs + length (drop (at + 8 * length vs) xs)
  pub behind : back (drop (at + 8 * length vs) xs)

numbers_again : (at : ℕ) (vs : List ℕ) (back : List ℕ → Type 0) (xs : List ℕ) → Numbers 8 vs back (drop at xs) → NumbersAgain at vs back xs
unfolding numbers_from
numbers_again at [] back xs p =
    let e : at + 8 * 0 ≡ at = omega arith in
    record { values = refl; size = rw e (omega arith); behind = subst (λ k. back (drop k xs)) (sym e) p }
numbers_again at (v ∷ vs) back xs p =
    let a = number_again at 8 v (Numbers 8 vs back) xs p in
    let more = numbers_again (at + 8) vs back xs a.behind in
    let e : (at + 8) + 8 * length vs ≡ at + 8 * length (v ∷ vs) = omega arith in
    let one = a.value in let rest = more.values in
    let size = more.size in
    let first = a.size in
    record {
      values = λ i. one i ∷ rest i;
      size = subst (λ k. length (drop at xs) ≡ 8 * length (v ∷ vs) + length (drop k xs)) e (omega (arith, first, size));
      behind = subst (λ k. back (drop k xs)) e more.behind;
    }

twelve_from : (xs : List ℕ) (n : ℕ) → n ≡ 12 → numbers_from n 8 xs ≡
    number_in 8 8 xs ∷ number_in 16 8 xs ∷ number_in 24 8 xs ∷ number_in 32 8 xs ∷ number_in 40 8 xs ∷ number_in 48 8 xs ∷
    number_in 56 8 xs ∷ number_in 64 8 xs ∷ number_in 72 8 xs ∷ number_in 80 8 xs ∷ number_in 88 8 xs ∷ number_in 96 8 xs ∷ []
unfolding numbers_from
twelve_from xs n e = ap (λ k. numbers_from k 8 xs) e

pub stats_complete : (s : PortStats) (xs : List ℕ) → SpellsStats s xs → (stats_of xs ≡ s) × (length xs ≡ 112)
unfolding stats_of
stats_complete s xs p =
    let a = number_again 0 4 s.no _ xs p.parts in
    let b = ignored_again 4 4 _ xs a.behind in
    let c = numbers_again 8 s.counters (Number 4 s.sec ▷ Number 4 s.nsec) xs b.1 in
    let t = p.twelve in
    let place : 8 + 8 * length s.counters ≡ 104 = omega arith in
    let behind : (Number 4 s.sec ▷ Number 4 s.nsec) (drop 104 xs) = subst (λ k. (Number 4 s.sec ▷ Number 4 s.nsec) (drop k xs)) place c.behind in
    let size : length (drop 8 xs) ≡ 96 + length (drop 104 xs) = subst (λ k. length (drop 8 xs) ≡ 96 + length (drop k xs)) place (omega (arith, c.size)) in
    let d = number_again 104 4 s.sec _ xs behind in
    let e = number_ends 108 4 s.nsec xs d.behind in
    let counters = sym (twelve_from xs (length s.counters) t) ∙ c.values in
    let same : stats_of xs ≡ s = λ i. record { no = a.value i; counters = counters i; sec = d.value i; nsec = e.0 i } in
    (same, omega (arith, a.size, b.0, size, d.size, e.1))

pub stats_front : (xs ys : List ℕ) → length xs ≡ 112 → stats_of (xs ++ ys) ≡ stats_of xs
unfolding stats_of
stats_front xs ys len =
    let a = number_of_front 0 4 xs ys (omega arith) in let b = number_of_front 104 4 xs ys (omega arith) in let c = number_of_front 108 4 xs ys (omega arith) in
    let n8 = number_of_front 8 8 xs ys (omega arith) in let n16 = number_of_front 16 8 xs ys (omega arith) in let n24 = number_of_front 24 8 xs ys (omega arith) in
    let n32 = number_of_front 32 8 xs ys (omega arith) in let n40 = number_of_front 40 8 xs ys (omega arith) in let n48 = number_of_front 48 8 xs ys (omega arith) in
    let n56 = number_of_front 56 8 xs ys (omega arith) in let n64 = number_of_front 64 8 xs ys (omega arith) in let n72 = number_of_front 72 8 xs ys (omega arith) in
    let n80 = number_of_front 80 8 xs ys (omega arith) in let n88 = number_of_front 88 8 xs ys (omega arith) in let n96 = number_of_front 96 8 xs ys (omega arith) in
    let same : stats_of (xs ++ ys) ≡ stats_of xs = λ i. record {
      no = a i;
      counters = n8 i ∷ n16 i ∷ n24 i ∷ n32 i ∷ n40 i ∷ n48 i ∷ n56 i ∷ n64 i ∷ n72 i ∷ n80 i ∷ n88 i ∷ n96 i ∷ [];
      sec = b i;
      nsec = c i;
    } in
    same

pub stats_is_item : IsItem SpellsStats 112 stats_of
stats_is_item = record { some = omega arith; sound = stats_sound; complete = stats_complete; front = stats_front }
