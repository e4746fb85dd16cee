-- Pieces that are written one behind the other.
use Rattle.std.proofs.Common.{◌≡◌, ℕ, ◌+◌, List, [], ◌++◌, length, take, drop, Option, Some, None, refl, sym, ◌∙◌, ap, arith, append_assoc, length-append}
use Rattle.std.proofs.lemmas.List.{append-nil, take-append-le}
use Rattle.std.proofs.Math.Seq.{take-add, take-append-add, take-append_seam}
use Rattle.fg_outside.specs.Wrote.{appended, AppendsFront}

pub appended-append : (taken : Option (List ℕ)) (xs ys : List ℕ) → appended (appended taken xs) ys ≡ appended taken (xs ++ ys)
appended-append None xs ys = refl
appended-append (Some taken) xs ys = ap (λ (l : List ℕ). Some l) (append_assoc taken xs ys)

pub appended-nil : (taken : Option (List ℕ)) → appended taken [] ≡ taken
appended-nil None = refl
appended-nil (Some taken) = ap (λ (l : List ℕ). Some l) (append-nil taken)

-- a piece's next n bytes behind its first k
pub appended-take : (taken : Option (List ℕ)) (piece : List ℕ) (k n : ℕ) → appended (appended taken (take k piece)) (take n (drop k piece)) ≡ appended taken (take (k + n) piece)
appended-take taken piece k n = appended-append taken (take k piece) (take n (drop k piece)) ∙ ap (λ (l : List ℕ). appended taken l) (sym (take-add k n piece))

-- nothing is a front of each piece
pub AppendsFront-none : (old : Option (List ℕ)) (piece : List ℕ) → AppendsFront old old piece
AppendsFront-none old piece = record { count = 0; within = omega arith; front = sym (appended-nil old) }

-- the whole is a front
pub AppendsFront-whole : (old : Option (List ℕ)) (piece more : List ℕ) → AppendsFront old (appended old piece) (piece ++ more)
AppendsFront-whole old piece more = record {
  count = length piece;
  within = omega (arith, length-append piece more);
  front = ap (λ (l : List ℕ). appended old l) (sym (take-append_seam piece more));
}

-- a front of the first of two pieces is a front of both
pub AppendsFront-first : (old new : Option (List ℕ)) (piece more : List ℕ) → AppendsFront old new piece → AppendsFront old new (piece ++ more)
AppendsFront-first old new piece more first = record {
  count = first.count;
  within = omega (arith, first.within, length-append piece more);
  front = first.front ∙ ap (λ (l : List ℕ). appended old l) (sym (take-append-le first.count piece more first.within));
}

-- the first piece and a front of the second are a front of both
pub AppendsFront-second : (old mid new : Option (List ℕ)) (piece more : List ℕ) → mid ≡ appended old piece → AppendsFront mid new more → AppendsFront old new (piece ++ more)
AppendsFront-second old mid new piece more is second = record {
  count = length piece + second.count;
  within = omega (arith, second.within, length-append piece more);
  front =
      second.front
      ∙ ap (λ (taken : Option (List ℕ)). appended taken (take second.count more)) is
      ∙ appended-append old piece (take second.count more)
      ∙ ap (λ (l : List ℕ). appended old l) (sym (take-append-add piece more second.count));
}

-- pieces written in turn, as `using(fg_outside::proofs::SinkLemmas::writes)` takes them
pub ruleset writes = (appended-append, appended-nil, AppendsFront-none, AppendsFront-first, AppendsFront-second)
