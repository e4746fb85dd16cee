-- How reading tells the first fault: part by part, and one part behind another.
use Rattle.std.proofs.Common.{◌≡◌, ◌⊎◌, inl, inr, ℕ, ◌+◌, Result, Ok, Err, refl, sym, ◌∙◌, ap, subst, arith}
use Rattle.std.specs.Prelude.{◌==◌, if◌then◌else◌}
use Rattle.yaml_subset.specs.declared.fault.YamlForm.{YamlForm}
use Rattle.yaml_subset.specs.declared.fault.YamlForm.TheVariants.{Anchor, Alias, Tag, BlockScalar, Directive, ComplexKey, MergeKey, Documents, LongFlow, LongQuote, Wide}
use Rattle.yaml_subset.specs.declared.fault.YamlCause.{YamlCause}
use Rattle.yaml_subset.specs.declared.fault.YamlCause.TheVariants.{NotUtf8, TooLong, TooDeep, Tab, LeftOut, Indent, DuplicateKey, Syntax}
use Rattle.yaml_subset.specs.Gives.{◌>>=◌}
use Rattle.yaml_subset.specs.FirstFault.{cause_number, ComesFirst, IsFirst, Tells}
use Rattle.yaml_subset.proofs.FirstFaults.{comes_later, tells_same}

abbrev given : {A : Type 0} → A → Result A YamlCause
given x = Ok x

pub same_ok : {A : Type 0} (x y : A) → given x ≡ given y → x ≡ y
same_ok x y e = cc

no_err : {A : Type 0} (c : YamlCause) (x : A) → Err c ≡ given x → ⊥
no_err c x e = cc

-- the same faults by another name
pub tells_as : {X : Type 0} (S T : ℕ → YamlCause → Type 0) (r : Result X YamlCause)
    → ((at : ℕ) (c : YamlCause) → S at c → T at c) → ((at : ℕ) (c : YamlCause) → T at c → S at c) → Tells S r → Tells T r
tells_as S T r to back t = tells_same T S r back to t

pub first_same : (a b : ℕ) (e c : YamlCause) → b ≡ a → c ≡ e → ComesFirst a e b c
first_same a b e c p q = inr (sym p, let n : cause_number c ≡ cause_number e = ap cause_number q in omega (arith, n))

-- a fault in what follows something that is read
abbrev pub Later : {X : Type 0} → Result X YamlCause → (X → ℕ) → (X → ℕ → YamlCause → Type 0) → ℕ → YamlCause → Type 0
Later {X = X} r shift Next at c = (x : X) × (r ≡ Ok x) × (inside : ℕ) × (at ≡ shift x + inside) × Next x inside c

-- one part behind another
pub tells_then : {X Y : Type 0} (Here : ℕ → YamlCause → Type 0) (r : Result X YamlCause) (shift : X → ℕ) (Next : X → ℕ → YamlCause → Type 0) (f : X → Result Y YamlCause)
    → Tells Here r → ((x : X) → r ≡ Ok x → Tells (Next x) (f x)) → Tells (λ at c. Here at c ⊎ Later r shift Next at c) (r >>= f)
tells_then Here (Err e) shift Next f here next = (
  here.0,
  record {
    there = inl here.1.there;
    least = λ at c w. elim w [ inl h ↦ here.1.least at c h | inr l ↦ absurd (no_err e l.0 l.1) ];
  },
)
tells_then {X = X} {Y = Y} Here (Ok x) shift Next f here next = by_next (f x) (next x refl)
  where
    by_next : (q : Result Y YamlCause) → Tells (Next x) q → Tells (λ at c. Here at c ⊎ Later (Ok x) shift Next at c) q
    by_next (Ok y) t = λ at c w. elim w [
      | inl h ↦ here at c h
      | inr l ↦ t l.2 c (subst (λ z. Next z l.2 c) (sym (same_ok x l.0 l.1)) l.4)
    ]
    by_next (Err e) t = (
      shift x + t.0,
      record {
        there = inr (x, refl, t.0, refl, t.1.there);
        least = λ at c w. elim w [
          | inl h ↦ absurd (here at c h)
          | inr l ↦
              let same : x ≡ l.0 = same_ok x l.0 l.1 in
              comes_later (shift x) t.0 l.2 at e c (l.3 ∙ ap (λ z. shift z + l.2) (sym same)) (t.1.least l.2 c (subst (λ z. Next z l.2 c) (sym same) l.4))
        ];
      },
    )

-- faults that stand so many columns further on
pub tells_shift : {X : Type 0} (k : ℕ) (S : ℕ → YamlCause → Type 0) (r : Result X YamlCause) → Tells S r → Tells (λ at c. (i : ℕ) × (at ≡ k + i) × S i c) r
tells_shift k S (Ok x) t = λ at c w. t w.0 c w.2
tells_shift k S (Err e) t = (k + t.0, record { there = (t.0, refl, t.1.there); least = λ at c w. comes_later k t.0 w.0 at e c w.1 (t.1.least w.0 c w.2) })

abbrev failed : (A : Type 0) → YamlCause → Result A YamlCause
failed A c = Err c

same_err : (A : Type 0) (e c : YamlCause) → failed A e ≡ failed A c → c ≡ e
same_err A e c q = cc

-- where something that is read fails at its first character
pub tells_result : {X : Type 0} (r : Result X YamlCause) → Tells (λ at c. (at ≡ 0) × (r ≡ Err c)) r
tells_result (Ok x) = λ at c w. no_err c x (sym w.1)
tells_result {X = X} (Err e) = (0, record { there = (refl, refl); least = λ at c w. first_same 0 at e c w.0 (same_err X e c w.1) })

-- one fault alone
pub tells_one : (X : Type 0) (a : ℕ) (e : YamlCause) → Tells {X = X} (λ at c. (at ≡ a) × (c ≡ e)) (Err e)
tells_one X a e = (a, record { there = (refl, refl); least = λ at c w. first_same a at e c w.0 w.1 })

-- reading in three steps
pub bind_assoc : {A B C : Type 0} (r : Result A YamlCause) (f : A → Result B YamlCause) (g : B → Result C YamlCause) → ((r >>= f) >>= g) ≡ (r >>= λ x. f x >>= g)
bind_assoc (Ok x) f g = refl
bind_assoc (Err e) f g = refl

-- ---- one fault is the first of several

form_of : ℕ → YamlForm
form_of n =
    if n == 5 then Anchor else (if n == 6 then Alias else (if n == 7 then Tag else (if n == 8 then BlockScalar else (if n == 9 then Directive else (
    if n == 10 then ComplexKey else (if n == 11 then MergeKey else (if n == 12 then Documents else (if n == 13 then LongFlow else (if n == 14 then LongQuote else Wide)))))))))

cause_of : ℕ → YamlCause
cause_of n =
    if n == 1 then NotUtf8 else (if n == 2 then TooLong else (if n == 3 then TooDeep else (if n == 4 then Tab else (
    if n == 16 then Indent else (if n == 17 then DuplicateKey else (if n == 18 then Syntax else LeftOut (form_of n)))))))

numbered_cause : (c : YamlCause) → cause_of (cause_number c) ≡ c
unfolding cause_of form_of
numbered_cause NotUtf8 = refl
numbered_cause TooLong = refl
numbered_cause TooDeep = refl
numbered_cause Tab = refl
numbered_cause Indent = refl
numbered_cause DuplicateKey = refl
numbered_cause Syntax = refl
numbered_cause (LeftOut Anchor) = refl
numbered_cause (LeftOut Alias) = refl
numbered_cause (LeftOut Tag) = refl
numbered_cause (LeftOut BlockScalar) = refl
numbered_cause (LeftOut Directive) = refl
numbered_cause (LeftOut ComplexKey) = refl
numbered_cause (LeftOut MergeKey) = refl
numbered_cause (LeftOut Documents) = refl
numbered_cause (LeftOut LongFlow) = refl
numbered_cause (LeftOut LongQuote) = refl
numbered_cause (LeftOut Wide) = refl

cause_one : (c d : YamlCause) → cause_number c ≡ cause_number d → c ≡ d
cause_one c d e = sym (numbered_cause c) ∙ ap cause_of e ∙ numbered_cause d

pub one_first : (S : ℕ → YamlCause → Type 0) (a b : ℕ) (c d : YamlCause) → IsFirst S a c → IsFirst S b d → c ≡ d
one_first S a b c d f g = cause_one c d (numbers (f.least b d g.there) (g.least a c f.there))
  where
    numbers : ComesFirst a c b d → ComesFirst b d a c → cause_number c ≡ cause_number d
    numbers (inl x) (inl y) = absurd (omega (arith, x, y))
    numbers (inl x) (inr y) = absurd (omega (arith, x, y.0))
    numbers (inr x) (inl y) = absurd (omega (arith, x.0, y))
    numbers (inr x) (inr y) = omega (arith, x.1, y.1)
