-- What is read of a line is no longer than what was there.
use Rattle.std.proofs.Common.{◌≡◌, ℕ, ◌-◌, ◌≤◌, ◌==◌, Bool, true, false, cond, ◌||◌, ◌&&◌, List, [], ◌∷◌, ◌++◌, length, take, drop, Option, Some, None, Result, Ok, Err, ap, subst, arith}
use Rattle.yaml_subset.specs.declared.fault.YamlCause.{YamlCause}
use Rattle.yaml_subset.specs.declared.fault.YamlCause.TheVariants.{Syntax}
use Rattle.yaml_subset.specs.declared.quoted.Escape.{Escape}
use Rattle.yaml_subset.specs.declared.quoted.Escape.TheVariants.{Outside}
use Rattle.yaml_subset.specs.declared.scalars.Scanned.{Scanned}
use Rattle.std.specs.List.{list_all}
use Rattle.yaml_subset.specs.Characters.{begins, skip, next_part, is_control, is_kept}
use Rattle.yaml_subset.specs.Quoted.{single_from, double_step, is_outside, double_from}
use Rattle.yaml_subset.specs.Plain.{plain_fault, plain_ends, plain_from}
use Rattle.yaml_subset.specs.Scalars.{plain_scalar, unless_fault, scan}
use Rattle.yaml_subset.specs.Gives.{◌>>=◌}

-- what is left of rest, where something is read
abbrev pub Shrinks : {A : Type 0} → List ℕ → Result (A × List ℕ) YamlCause → Type 0
Shrinks rest (Ok x) = length x.1 ≤ length rest
Shrinks rest (Err c) = Unit {0}

cond_shrinks : {A : Type 0} (rest : List ℕ) (b : Bool) (x y : Result (A × List ℕ) YamlCause) → Shrinks rest x → Shrinks rest y → Shrinks rest (cond b x y)
cond_shrinks rest true x y h g = h
cond_shrinks rest false x y h g = g

one_more : {A : Type 0} (c : ℕ) (rest : List ℕ) (r : Result (A × List ℕ) YamlCause) → Shrinks rest r → Shrinks (c ∷ rest) r
one_more c rest (Ok x) h = omega arith
one_more c rest (Err e) h = tt

bind_shrinks : {A B : Type 0} (rest : List ℕ) (r : Result B YamlCause) (f : B → Result (A × List ℕ) YamlCause) → ((x : B) → Shrinks rest (f x)) → Shrinks rest (r >>= f)
bind_shrinks rest (Ok x) f h = h x
bind_shrinks rest (Err c) f h = tt

single_shrinks : (seen : Bool) (out rest : List ℕ) → Shrinks rest (single_from seen out rest)
unfolding single_from
single_shrinks true out [] = omega arith
single_shrinks false out [] = tt
single_shrinks true out (c ∷ cs) = cond_shrinks (c ∷ cs) (c == 39) _ _ (one_more c cs _ (single_shrinks false (out ++ 39 ∷ []) cs)) (omega arith)
single_shrinks false out (c ∷ cs) =
    cond_shrinks (c ∷ cs) (c == 39) _ _ (one_more c cs _ (single_shrinks true out cs))
    (cond_shrinks (c ∷ cs) (is_kept c) _ _ (one_more c cs _ (single_shrinks false (out ++ c ∷ []) cs)) tt)

double_shrinks : (escape : Escape) (out rest : List ℕ) → Shrinks rest (double_from escape out rest)
unfolding double_from
double_shrinks escape out [] = tt
double_shrinks escape out (c ∷ cs) =
    cond_shrinks (c ∷ cs) (c == 34 && is_outside escape) _ _ (omega arith)
    (bind_shrinks (c ∷ cs) (double_step escape c) _ (λ (s : Escape × List ℕ). one_more c cs _ (double_shrinks s.0 (out ++ s.1) cs)))

plain_shrinks : (flow : Bool) (end rest : List ℕ) → Shrinks rest (plain_from flow end rest)
unfolding plain_from
plain_shrinks flow end [] = omega arith
plain_shrinks flow end (c ∷ cs) =
    cond_shrinks (c ∷ cs) (plain_ends flow c cs) _ _ (omega arith)
    (cond_shrinks (c ∷ cs) (c == 9) _ _ tt
    (cond_shrinks (c ∷ cs) (is_control c) _ _ tt (one_more c cs _ (plain_shrinks flow (cond (c == 32) end cs) cs))))

pub drop_one : (xs : List ℕ) → length (drop 1 xs) ≤ length xs
drop_one [] = omega arith
drop_one (x ∷ xs) = omega arith

shrinks_in : {A : Type 0} (rest rest' : List ℕ) (r : Result (A × List ℕ) YamlCause) → length rest ≤ length rest' → Shrinks rest r → Shrinks rest' r
shrinks_in rest rest' (Ok x) l h = omega arith
shrinks_in rest rest' (Err c) l h = tt

map_shrinks : {A B : Type 0} (rest : List ℕ) (r : Result (A × List ℕ) YamlCause) (f : A × List ℕ → B) → Shrinks rest r → Shrinks rest (r >>= λ x. Ok (f x, x.1))
map_shrinks rest (Ok x) f h = h
map_shrinks rest (Err c) f h = tt

unless_shrinks : {A : Type 0} (rest : List ℕ) (fault : Option YamlCause) (r : Result (A × List ℕ) YamlCause) → Shrinks rest r → Shrinks rest (unless_fault fault r)
unless_shrinks rest None r h = h
unless_shrinks rest (Some c) r h = tt

scanned_shrinks : (flow : Bool) (rest : List ℕ) → Shrinks rest (scan flow rest)
unfolding scan plain_scalar
scanned_shrinks flow rest =
    cond_shrinks rest (begins 34 rest) _ _ (shrinks_in (drop 1 rest) rest _ (drop_one rest) (map_shrinks (drop 1 rest) (double_from Outside [] (drop 1 rest)) (λ q. record { plain = false; text = q.0 }) (double_shrinks Outside [] (drop 1 rest))))
    (cond_shrinks rest (begins 39 rest) _ _ (shrinks_in (drop 1 rest) rest _ (drop_one rest) (map_shrinks (drop 1 rest) (single_from false [] (drop 1 rest)) (λ q. record { plain = false; text = q.0 }) (single_shrinks false [] (drop 1 rest))))
    (unless_shrinks rest (plain_fault flow rest) _ (map_shrinks rest (plain_from flow rest rest) (λ q. record { plain = true; text = take (length rest - length q.0) rest }) (plain_shrinks flow rest rest))))

-- a scalar is no longer than what was there
pub scan_shrinks : (flow : Bool) (rest : List ℕ) (s : Scanned) (after : List ℕ) → scan flow rest ≡ Ok (s, after) → length after ≤ length rest
scan_shrinks flow rest s after e = subst (Shrinks rest) e (scanned_shrinks flow rest)

skip_at_most : (xs : List ℕ) → length (skip xs) ≤ length xs
skip_at_most [] = omega arith
skip_at_most (x ∷ xs) = by_test (x == 32) (skip_at_most xs)
  where
    by_test : (b : Bool) → length (skip xs) ≤ length xs → length (cond b (skip xs) (x ∷ xs)) ≤ length (x ∷ xs)
    by_test true h = omega arith
    by_test false h = omega arith

pub part_at_most : (fresh : Bool) (xs part : List ℕ) → next_part fresh xs ≡ Ok part → length part ≤ length xs
unfolding next_part
part_at_most fresh xs part e = by_tests (begins 35 (skip xs) && (fresh || begins 32 xs)) (list_all is_kept (skip xs)) e
  where
    by_tests : (b k : Bool) → cond b (cond k (Ok []) (Err Syntax)) (Ok (skip xs)) ≡ Ok part → length part ≤ length xs
    by_tests true true h = let e : [] ≡ part = cc in let z : 0 ≡ length part = ap length e in omega arith
    by_tests true false h = absurd cc
    by_tests false k h = let e : skip xs ≡ part = cc in let z : length (skip xs) ≡ length part = ap length e in omega (arith, skip_at_most xs)
