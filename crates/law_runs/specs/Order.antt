-- Packets that are sent, up to their order.
use Rattle.std.specs.Prelude.{◌≡◌, ℕ, ◌+◌, Bool, List, [], ◌∷◌, ◌++◌, count_by, length, filter}
use Rattle.std.proofs.Common.{refl, sym, ap, ◌∙◌, arith, length-append}
use Rattle.std.proofs.lemmas.List.Elements.{filter-append}
use Rattle.std.proofs.lemmas.List.Sums.{length-filter}
use Rattle.of_match.specs.declared.packet.Sent.{Sent}

-- each test is passed by as many of the one list as of the other
abbrev pub AreSame : List Sent → List Sent → Type 0
AreSame xs ys = (test : Sent → Bool) → count_by test xs ≡ count_by test ys

counts : (test : Sent → Bool) (xs ys : List Sent) → count_by test (xs ++ ys) ≡ count_by test xs + count_by test ys
counts test xs ys =
    sym (length-filter test (xs ++ ys)) ∙ ap length (filter-append test xs ys) ∙ length-append (filter test xs) (filter test ys)
    ∙ ap (λ (n : ℕ). n + length (filter test ys)) (length-filter test xs) ∙ ap (λ (n : ℕ). count_by test xs + n) (length-filter test ys)

pub same_self : (xs : List Sent) → AreSame xs xs
same_self xs = λ test. refl

pub same_equal : (xs ys : List Sent) → xs ≡ ys → AreSame xs ys
same_equal xs ys is = λ test. ap (count_by test) is

pub same_turned : (xs ys : List Sent) → AreSame xs ys → AreSame ys xs
same_turned xs ys s = λ test. sym (s test)

pub same_then : (xs ys zs : List Sent) → AreSame xs ys → AreSame ys zs → AreSame xs zs
same_then xs ys zs s u = λ test. s test ∙ u test

pub same_joined : (xs ys us vs : List Sent) → AreSame xs ys → AreSame us vs → AreSame (xs ++ us) (ys ++ vs)
same_joined xs ys us vs s u = λ test.
    counts test xs us ∙ ap (λ (n : ℕ). n + count_by test us) (s test) ∙ ap (λ (n : ℕ). count_by test ys + n) (u test) ∙ sym (counts test ys vs)

pub same_exchanged : (xs ys : List Sent) → AreSame (xs ++ ys) (ys ++ xs)
same_exchanged xs ys = λ test.
    let there = counts test xs ys in
    let back = counts test ys xs in
    omega (arith, there, back)
