-- What reading a scalar tells is the first fault that stands in it, and so between the parts of a line.
use Rattle.std.proofs.Common.{◌≡◌, ◌⊎◌, inl, inr, ℕ, suc, ◌+◌, ◌==◌, Bool, false, cond, ◌||◌, List, [], ◌∷◌, Result, Ok, Err, refl, sym, ap, subst, arith}
use Rattle.yaml_subset.specs.declared.fault.YamlCause.{YamlCause}
use Rattle.yaml_subset.specs.declared.quoted.Escape.TheVariants.{Outside}
use Rattle.yaml_subset.specs.declared.scalars.Scanned.{Scanned}
use Rattle.yaml_tree.specs.declared.tree.Tree.{Tree}
use Rattle.yaml_subset.specs.Gives.{◌>>=◌}
use Rattle.yaml_subset.specs.FirstFault.{Tells}
use Rattle.yaml_subset.specs.Characters.{begins, next_part, line_end}
use Rattle.yaml_subset.specs.Quoted.{single_from, double_from}
use Rattle.yaml_subset.specs.Plain.{plain_fault}
use Rattle.yaml_subset.specs.Scalars.{plain_scalar, unless_fault, as_quoted, scan, value_at, scalar_from}
use Rattle.yaml_subset.specs.ScalarFaults.{NextFault, LineEndFault, PlainFault, SingleFault, DoubleFault, ScanFault, in_plain, in_single, in_double, ScalarFault, unread, no_value}
use Rattle.yaml_subset.proofs.LineValues.{same}
use Rattle.yaml_subset.proofs.FirstFaults.{tells_if, tells_same, tells_later, tells_map, Later, never}
use Rattle.yaml_subset.proofs.FaultsBehind as Behind_
use Rattle.yaml_subset.proofs.FaultsBehind.{tells_as, tells_then, tells_result}
use Rattle.yaml_subset.proofs.CommentFaults.{next_is_told, line_end_is_told}
use Rattle.yaml_subset.proofs.PlainFaults.{plain_tells}
use Rattle.yaml_subset.proofs.SingleFaults.{single_tells}
use Rattle.yaml_subset.proofs.DoubleFaults.{double_tells}

pub next_tells : (fresh : Bool) (rest : List ℕ) → Tells (NextFault fresh rest) (next_part fresh rest)
next_tells fresh rest = next_is_told fresh rest

pub line_end_tells : (rest : List ℕ) → Tells (LineEndFault rest) (line_end rest)
line_end_tells rest = line_end_is_told rest

-- ---- a scalar as it is written

begins_plain : (flow : Bool) (rest : List ℕ) → begins 34 rest || begins 39 rest ≡ false → (at : ℕ) (cause : YamlCause) → ScanFault flow rest at cause → PlainFault flow rest at cause
begins_plain flow rest b at cause (in_plain h k d f) = f
begins_plain flow rest b at cause (in_single inside e k d f) = never (begins 34 rest || begins 39 rest) (ap (λ xs. begins 34 xs || begins 39 xs) e) b
begins_plain flow rest b at cause (in_double inside e k d f) = never (begins 34 rest || begins 39 rest) (ap (λ xs. begins 34 xs || begins 39 xs) e) b

plain_told : (flow : Bool) (rest : List ℕ) → begins 34 rest || begins 39 rest ≡ false → Tells {X = Scanned × List ℕ} (ScanFault flow rest) (unless_fault (plain_fault flow rest) (plain_scalar flow rest))
plain_told flow rest b =
    tells_same (ScanFault flow rest) (PlainFault flow rest) (unless_fault (plain_fault flow rest) (plain_scalar flow rest))
    (begins_plain flow rest b) (λ at cause f. in_plain b at cause f) (plain_tells flow rest)

one_more : (at : ℕ) → suc at ≡ 1 + at
one_more at = omega arith

-- behind an opening double quote
in_the_double : (flow : Bool) (cs : List ℕ) (at : ℕ) (cause : YamlCause) → ScanFault flow (34 ∷ cs) at cause → Later 1 (DoubleFault cs) at cause
in_the_double flow cs at cause (in_plain h k d f) = absurd cc
in_the_double flow cs at cause (in_single inside e k d f) = absurd (let h : ◌≡◌ {A = ℕ} 34 39 = cc in omega arith)
in_the_double flow cs at cause (in_double inside e k d f) = let h : inside ≡ cs = cc in (k, one_more k, subst (λ xs. DoubleFault xs k d) h f)

double_told : (flow : Bool) (cs : List ℕ) → Tells {X = Scanned × List ℕ} (ScanFault flow (34 ∷ cs)) (double_from Outside [] cs >>= (λ quote. Ok (as_quoted quote)))
double_told flow cs =
    tells_later 1 (ScanFault flow (34 ∷ cs)) (DoubleFault cs) (double_from Outside [] cs >>= (λ quote. Ok (as_quoted quote)))
    (in_the_double flow cs)
    (λ at cause f. subst (λ p. ScanFault flow (34 ∷ cs) p cause) (one_more at) (in_double cs refl at cause f))
    (tells_map (DoubleFault cs) (double_from Outside [] cs) as_quoted (double_tells cs))

-- behind an opening single quote
in_the_single : (flow : Bool) (cs : List ℕ) (at : ℕ) (cause : YamlCause) → ScanFault flow (39 ∷ cs) at cause → Later 1 (SingleFault cs) at cause
in_the_single flow cs at cause (in_plain h k d f) = absurd cc
in_the_single flow cs at cause (in_single inside e k d f) = let h : inside ≡ cs = cc in (k, one_more k, subst (λ xs. SingleFault xs k d) h f)
in_the_single flow cs at cause (in_double inside e k d f) = absurd (let h : ◌≡◌ {A = ℕ} 39 34 = cc in omega arith)

single_told : (flow : Bool) (cs : List ℕ) → Tells {X = Scanned × List ℕ} (ScanFault flow (39 ∷ cs)) (single_from false [] cs >>= (λ quote. Ok (as_quoted quote)))
single_told flow cs =
    tells_later 1 (ScanFault flow (39 ∷ cs)) (SingleFault cs) (single_from false [] cs >>= (λ quote. Ok (as_quoted quote)))
    (in_the_single flow cs)
    (λ at cause f. subst (λ p. ScanFault flow (39 ∷ cs) p cause) (one_more at) (in_single cs refl at cause f))
    (tells_map (SingleFault cs) (single_from false [] cs) as_quoted (single_tells cs))

pub scan_tells : (flow : Bool) (rest : List ℕ) → Tells (ScanFault flow rest) (scan flow rest)
unfolding scan
scan_tells flow [] = plain_told flow [] refl
scan_tells flow (c ∷ cs) =
    let double : Result (Scanned × List ℕ) YamlCause = double_from Outside [] cs >>= (λ quote. Ok (as_quoted quote)) in
    let single : Result (Scanned × List ℕ) YamlCause = single_from false [] cs >>= (λ quote. Ok (as_quoted quote)) in
    let plain : Result (Scanned × List ℕ) YamlCause = unless_fault (plain_fault flow (c ∷ cs)) (plain_scalar flow (c ∷ cs)) in
    tells_if (ScanFault flow (c ∷ cs)) (c == 34) double (cond (c == 39) single plain)
    (λ q. subst (λ (x : ℕ). Tells {X = Scanned × List ℕ} (ScanFault flow (x ∷ cs)) double) (sym (same c 34 q)) (double_told flow cs))
    (λ q. tells_if (ScanFault flow (c ∷ cs)) (c == 39) single plain
    (λ s. subst (λ (x : ℕ). Tells {X = Scanned × List ℕ} (ScanFault flow (x ∷ cs)) single) (sym (same c 39 s)) (single_told flow cs))
    (λ s. plain_told flow (c ∷ cs) (rw (q, s) refl)))

-- ---- its value

pub scalar_tells : (flow : Bool) (rest : List ℕ) → Tells (ScalarFault flow rest) (scalar_from flow rest)
unfolding scalar_from
scalar_tells flow rest =
    tells_as (λ at c. ScanFault flow rest at c ⊎ Behind_.Later (scan flow rest) none Then at c) (ScalarFault flow rest) (scan flow rest >>= valued)
    (λ at c w. elim w [ inl f ↦ unread f | inr l ↦ no_value l.0.0 l.0.1 l.1 (omega (arith, l.3, l.4.0)) l.4.1 ])
    (λ at c w. elim w [ unread f ↦ inl f | no_value s after e p q ↦ inr ((s, after), e, at, omega arith, (p, q)) ])
    (tells_then (ScanFault flow rest) (scan flow rest) none Then valued (scan_tells flow rest)
    (λ s e. tells_map (Then s) (value_at s.0 s.1) (λ v. (v, s.1)) (tells_result (value_at s.0 s.1))))
  where
    none : Scanned × List ℕ → ℕ
    none s = 0

    Then : Scanned × List ℕ → ℕ → YamlCause → Type 0
    Then s at c = (at ≡ 0) × (value_at s.0 s.1 ≡ Err c)

    valued : Scanned × List ℕ → Result (Tree × List ℕ) YamlCause
    valued s = value_at s.0 s.1 >>= λ v. Ok (v, s.1)
