-- How reading goes at a test, at padding, and how its verdict is told of what stands around.
use Rattle.std.specs.Prelude.{◌==◌, if◌then◌else◌}
use Rattle.std.proofs.Common.{◌≡◌, ◌≢◌, ℕ, ◌+◌, ◌-◌, ◌≤◌, ◌<◌, min, Bool, true, false, not, cond, eqb, ltb, List, length, get_or, Some, None, Result, Ok, Err, refl, sym, ap, ◌∙◌, subst, arith, inl, inr, ◌⊎◌}
use Rattle.std.specs.List.{position_or_len, slice_range}
use Rattle.std.proofs.lemmas.Bool.{cases_eq, cases_lt, cases_Bool, eq-eqb, ne_eqb, lt-ltb, le-ltb, eqb-true, eqb-false, not-true, not-false}
use Rattle.std.proofs.lemmas.List.Sums.{fails_before_first, passes_at_first}
use Rattle.std.proofs.lemmas.List.Edits.{get_or-between, length-between}
use Rattle.of_wire.specs.declared.fault.PartFault.{PartFault}
use Rattle.of_wire.specs.declared.fault.PartCause.{PartCause}
use Rattle.of_wire.specs.declared.fault.PartCause.TheVariants.{Short, BadClass, BadLength, BadPad, Repeated, Prerequisite, UnknownAction, UnknownInstr}
use Rattle.of_wire.specs.declared.fault.PartRefused.{PartRefused}
use Rattle.of_wire.specs.declared.fault.PartRefused.TheVariants.{At, Memory}
use Rattle.of_wire.specs.Causes.{cause_number}
use Rattle.of_wire.specs.Answers.{Gives, fault_at}
use Rattle.of_wire.specs.Reading.{◌>>=◌, padded_to, padding_at, first_nonzero}
use Rattle.of_wire.specs.Faults.{ComesFirst, IsFirst, TellsFirst, SpelledOrFaulty, OrShort, From, OrCut}
use Rattle.of_wire.proofs.Chosen.{one_answer}
use Rattle.of_wire.proofs.Verdicts.{Verdict, comes_first_after}

-- ---- tests

pub by_equal : {R : Type 0} (P : R → Type 0) (n k : ℕ) (x r : R) → (n ≡ k → P x) → ((n ≡ k → ⊥) → P r) → P (cond (eqb n k) x r)
by_equal P n k x r holds fails = elim (cases_eq n k) [
  | inl e ↦ let t : eqb n k ≡ true = eq-eqb n k e in let is : cond (eqb n k) x r ≡ x = rw t refl in subst P (sym is) (holds e)
  | inr ne ↦ let t : eqb n k ≡ false = ne_eqb n k ne in let is : cond (eqb n k) x r ≡ r = rw t refl in subst P (sym is) (fails ne)
]

pub by_other : {R : Type 0} (P : R → Type 0) (n k : ℕ) (x r : R) → ((n ≡ k → ⊥) → P x) → (n ≡ k → P r) → P (cond (not (eqb n k)) x r)
by_other P n k x r fails holds = elim (cases_eq n k) [
  | inl e ↦ let t : eqb n k ≡ true = eq-eqb n k e in let is : cond (not (eqb n k)) x r ≡ r = rw t refl in subst P (sym is) (holds e)
  | inr ne ↦ let t : eqb n k ≡ false = ne_eqb n k ne in let is : cond (not (eqb n k)) x r ≡ x = rw t refl in subst P (sym is) (fails ne)
]

pub by_less : {R : Type 0} (P : R → Type 0) (n k : ℕ) (x r : R) → (n < k → P x) → (k ≤ n → P r) → P (cond (ltb n k) x r)
by_less P n k x r holds fails = elim (cases_lt n k) [
  | inl lt ↦ let t : ltb n k ≡ true = lt-ltb n k lt in let is : cond (ltb n k) x r ≡ x = rw t refl in subst P (sym is) (holds lt)
  | inr ge ↦ let t : ltb n k ≡ false = le-ltb n k ge in let is : cond (ltb n k) x r ≡ r = rw t refl in subst P (sym is) (fails ge)
]

pub by_test : {R : Type 0} (P : R → Type 0) (b : Bool) (x r : R) → (b ≡ true → P x) → (b ≡ false → P r) → P (cond b x r)
by_test P b x r holds fails = elim (cases_Bool b) [
  | inl t ↦ let is : cond b x r ≡ x = rw t refl in subst P (sym is) (holds t)
  | inr t ↦ let is : cond b x r ≡ r = rw t refl in subst P (sym is) (fails t)
]

pub by_not_less : {R : Type 0} (P : R → Type 0) (n k : ℕ) (x r : R) → (k ≤ n → P x) → (n < k → P r) → P (cond (not (ltb n k)) x r)
by_not_less P n k x r fails holds = elim (cases_lt n k) [
  | inl lt ↦ let t : ltb n k ≡ true = lt-ltb n k lt in let is : cond (not (ltb n k)) x r ≡ r = rw t refl in subst P (sym is) (holds lt)
  | inr ge ↦ let t : ltb n k ≡ false = le-ltb n k ge in let is : cond (not (ltb n k)) x r ≡ x = rw t refl in subst P (sym is) (fails ge)
]

-- ---- a verdict of one part

abbrev pub Told : {X : Type 0} → (Spelled : X → Type 0) → PartFault → ℕ → (own : ℕ → PartCause → Type 0) → (early : Type 0) → List ℕ → Result X PartFault → Type 0
Told Spelled past at own early bytes r = Verdict Spelled past at (length bytes) own ((0 < length bytes) × early × ((p : ℕ) (c : PartCause) → own p c → ⊥)) early r

pub told_ok : {X : Type 0} {Spelled : X → Type 0} (past : PartFault) (at : ℕ) (own : ℕ → PartCause → Type 0) (early : Type 0) (bytes : List ℕ) (r : Result X PartFault) (x : X)
    → r ≡ Ok x → Spelled x → ((p : ℕ) (c : PartCause) → own p c → ⊥) → (early → ⊥) → Told Spelled past at own early bytes r
told_ok past at own early bytes r x is spelled none whole = inl (record { value = x; is = is; spelled = spelled; none = none; whole = whole })

pub told_fault : {X : Type 0} {Spelled : X → Type 0} (past : PartFault) (at : ℕ) (own : ℕ → PartCause → Type 0) (early : Type 0) (bytes : List ℕ) (r : Result X PartFault) (place : ℕ) (cause : PartCause)
    → r ≡ Err (fault_at (at + place) cause) → place < length bytes → own place cause → ((q : ℕ) (d : PartCause) → own q d → ComesFirst place cause q d) → Told Spelled past at own early bytes r
told_fault past at own early bytes r place cause is inside there least =
    inr (inl (record { place = place; cause = cause; is = is; there = there; least = least; inside = inside; uncut = λ c. c.2 place cause there }))

pub told_end : {X : Type 0} {Spelled : X → Type 0} (past : PartFault) (at : ℕ) (own : ℕ → PartCause → Type 0) (early : Type 0) (bytes : List ℕ) (r : Result X PartFault)
    → r ≡ Err past → 0 < length bytes → early → ((p : ℕ) (c : PartCause) → own p c → ⊥) → Told Spelled past at own early bytes r
told_end past at own early bytes r is some ends none = inr (inr (record { is = is; none = none; early = (some, ends, none) }))

pub first_of_cause : (p q : ℕ) (c : PartCause) → p ≤ q → ComesFirst p c q c
first_of_cause p q c le = elim (cases_lt p q) [ inl lt ↦ inl lt | inr ge ↦ inr (omega (arith, le, ge), omega arith) ]

-- what is made of a value changes no verdict
pub told_map : {X Y : Type 0} {P : X → Type 0} {Q : Y → Type 0} (past : PartFault) (at size : ℕ) (own : ℕ → PartCause → Type 0) (cut ends : Type 0) (r : Result X PartFault) (f : X → Y)
    → ((x : X) → P x → Q (f x)) → Verdict P past at size own cut ends r → Verdict Q past at size own cut ends (r >>= (λ x. Ok (f x)))
told_map {X = X} {Y = Y} past at size own cut ends r f spelled v = elim v [
  | inl p ↦ inl (record { value = f p.value; is = ap (λ (q : Result X PartFault). q >>= (λ x. Ok (f x))) p.is; spelled = spelled p.value p.spelled; none = p.none; whole = p.whole })
  | inr (inl e) ↦ inr (inl (record {
    place = e.place;
    cause = e.cause;
    is = ap (λ (q : Result X PartFault). q >>= (λ x. Ok (f x))) e.is;
    there = e.there;
    least = e.least;
    inside = e.inside;
    uncut = e.uncut;
  }))
  | inr (inr e) ↦ inr (inr (record { is = ap (λ (q : Result X PartFault). q >>= (λ x. Ok (f x))) e.is; none = e.none; early = e.early }))
]

-- the same faults under another name
pub told_as : {X : Type 0} {Spelled : X → Type 0} (past : PartFault) (at : ℕ) (own named : ℕ → PartCause → Type 0) (early : Type 0) (bytes : List ℕ) (r : Result X PartFault)
    → ((p : ℕ) (c : PartCause) → own p c → named p c) → ((p : ℕ) (c : PartCause) → named p c → own p c) → Told Spelled past at own early bytes r → Told Spelled past at named early bytes r
told_as past at own named early bytes r to back v = elim v [
  | inl p ↦ inl (record { value = p.value; is = p.is; spelled = p.spelled; none = λ q d n. p.none q d (back q d n); whole = p.whole })
  | inr (inl e) ↦ told_fault past at named early bytes r e.place e.cause e.is e.inside (to e.place e.cause e.there) (λ q d n. e.least q d (back q d n))
  | inr (inr e) ↦ told_end past at named early bytes r e.is e.early.0 e.early.1 (λ q d n. e.none q d (back q d n))
]

-- what is spelled, in other words
pub told_spelled : {X : Type 0} (P Q : X → Type 0) (past : PartFault) (at size : ℕ) (own : ℕ → PartCause → Type 0) (cut ends : Type 0) (r : Result X PartFault)
    → ((x : X) → P x → Q x) → Verdict P past at size own cut ends r → Verdict Q past at size own cut ends r
told_spelled P Q past at size own cut ends r to v = elim v [
  | inl p ↦ inl (record { value = p.value; is = p.is; spelled = to p.value p.spelled; none = p.none; whole = p.whole })
  | inr e ↦ inr e
]

-- ---- the verdict on all of the bytes

not_both : {X : Type 0} (r : Result X PartFault) (x : X) (e : PartFault) → r ≡ Ok x → r ≡ Err e → ⊥
not_both r x e p q = cc

pub told_value : {X : Type 0} {P : X → Type 0} (past : PartFault) (at size : ℕ) (own : ℕ → PartCause → Type 0) (cut ends : Type 0) (r : Result X PartFault) (x : X) → Verdict P past at size own cut ends r → r ≡ Ok x → P x
told_value {P = P} past at size own cut ends r x v e = elim v [
  | inl p ↦ subst P (one_answer r p.value x p.is e) p.spelled
  | inr (inl f) ↦ absurd (not_both r x _ e f.is)
  | inr (inr f) ↦ absurd (not_both r x _ e f.is)
]

one_fault : {X : Type 0} (r : Result X PartFault) (e f : PartFault) → r ≡ Err e → r ≡ Err f → e ≡ f
one_fault r e f p q = cc

-- the faults at their places from the first byte of what the part stands in
from : (Stands : ℕ → PartCause → Type 0) (at place : ℕ) (cause : PartCause) → Stands place cause → From at Stands (at + place) cause
from Stands at place cause s = record { inside = place; is_at = refl; fault = s }

from_start : (Stands : ℕ → PartCause → Type 0) (place : ℕ) (cause : PartCause) → From 0 Stands place cause → Stands place cause
from_start Stands place cause f = let e : f.inside ≡ place = omega (arith, f.is_at) in subst (λ n. Stands n cause) e f.fault

pub first_from_start : (Stands : ℕ → PartCause → Type 0) (fault : PartFault) → IsFirst (From 0 Stands) fault → IsFirst Stands fault
first_from_start Stands fault f = record {
  there = from_start Stands fault.at fault.cause f.there;
  least = λ q d s. f.least q d (record { inside = q; is_at = omega arith; fault = s });
}

pub told_from_start : {X : Type 0} (Stands : ℕ → PartCause → Type 0) (r : Result X PartRefused) → TellsFirst (From 0 Stands) r → TellsFirst Stands r
told_from_start Stands (Ok x) t = λ q d s. t q d (record { inside = q; is_at = omega arith; fault = s })
told_from_start Stands (Err Memory) t = tt
told_from_start Stands (Err (At f)) t = first_from_start Stands f t

first_told : {X : Type 0} {P : X → Type 0} (own : ℕ → PartCause → Type 0) (cut ends : Type 0) (at : ℕ) (bytes : List ℕ) (r : Result X PartFault) (f : PartFault) → (cut → ends)
    → r ≡ Err f → Verdict P (fault_at (at + length bytes) Short) at (length bytes) own cut ends r → IsFirst (From at (OrShort own ends bytes)) f
first_told own cut ends at bytes r f weaker is v =
    let S = OrShort own ends bytes in
    elim v [
      | inl p ↦ absurd (not_both r p.value f p.is is)
      | inr (inl e) ↦
          let first : IsFirst (From at S) (fault_at (at + e.place) e.cause) = record {
            there = from S at e.place e.cause (inl e.there);
            least = λ q d s. comes_first_after at e.place q s.inside e.cause d s.is_at (elim s.fault [ inl o ↦ e.least s.inside d o | inr t ↦ inl (omega (arith, e.inside, t.0)) ]);
          } in
          subst (λ g. IsFirst (From at S) g) (one_fault r _ f e.is is) first
      | inr (inr e) ↦
          let first : IsFirst (From at S) (fault_at (at + length bytes) Short) = record {
            there = from S at (length bytes) Short (inr (refl, refl, weaker e.early));
            least = λ q d s. elim s.fault [ inl o ↦ absurd (e.none s.inside d o) | inr t ↦ inr (omega (arith, s.is_at, t.0), omega (arith, ap cause_number t.1)) ];
          } in
          subst (λ g. IsFirst (From at S) g) (one_fault r _ f e.is is) first
    ]

none_told : {X : Type 0} {P : X → Type 0} (past : PartFault) (at size : ℕ) (own : ℕ → PartCause → Type 0) (cut ends : Type 0) (bytes : List ℕ) (r : Result X PartFault) (x : X)
    → r ≡ Ok x → Verdict P past at size own cut ends r → (place : ℕ) (cause : PartCause) → OrShort own ends bytes place cause → ⊥
none_told past at size own cut ends bytes r x is v place cause s = elim v [
  | inl p ↦ elim s [ inl o ↦ p.none place cause o | inr t ↦ p.whole t.2 ]
  | inr (inl e) ↦ absurd (not_both r x _ is e.is)
  | inr (inr e) ↦ absurd (not_both r x _ is e.is)
]

pub tells_first : {X : Type 0} {P : X → Type 0} (own : ℕ → PartCause → Type 0) (cut ends : Type 0) (at : ℕ) (bytes : List ℕ) (r : Result X PartRefused) (read : Result X PartFault) → (cut → ends)
    → Gives (λ x. x) r read → Verdict P (fault_at (at + length bytes) Short) at (length bytes) own cut ends read → TellsFirst (From at (OrShort own ends bytes)) r
tells_first own cut ends at bytes (Ok x) read weaker e v = λ q d s. none_told (fault_at (at + length bytes) Short) at (length bytes) own cut ends bytes read x e v s.inside d s.fault
tells_first own cut ends at bytes (Err Memory) read weaker e v = tt
tells_first own cut ends at bytes (Err (At f)) read weaker e v = first_told own cut ends at bytes read f weaker e v

pub spelled_or_faulty : {X : Type 0} {P : X → Type 0} (Spelled : Type 0) (own : ℕ → PartCause → Type 0) (cut ends : Type 0) (bytes : List ℕ) (r : Result X PartFault) → (cut → ends)
    → ((x : X) → P x → Spelled) → Verdict P (fault_at (0 + length bytes) Short) 0 (length bytes) own cut ends r → SpelledOrFaulty Spelled (OrShort own ends bytes)
spelled_or_faulty Spelled own cut ends bytes r weaker spelled v =
    let first : (f : PartFault) → r ≡ Err f → IsFirst (OrShort own ends bytes) f = λ f is. first_from_start (OrShort own ends bytes) f (first_told own cut ends 0 bytes r f weaker is v) in
    elim v [
      | inl p ↦ inl (spelled p.value p.spelled, none_told (fault_at (0 + length bytes) Short) 0 (length bytes) own cut ends bytes r p.value p.is (inl p))
      | inr (inl f) ↦ inr (fault_at (0 + f.place) f.cause, first (fault_at (0 + f.place) f.cause) f.is)
      | inr (inr f) ↦ inr (fault_at (0 + length bytes) Short, first (fault_at (0 + length bytes) Short) f.is)
    ]

-- ---- the verdict on bytes that are cut off

pub tells_cut : {X : Type 0} {P : X → Type 0} (past : PartFault) (own : ℕ → PartCause → Type 0) (cut ends : Type 0) (at size : ℕ) (r : Result X PartRefused) (read : Result X PartFault) → (cut → ends)
    → Gives (λ x. x) r read → Verdict P past at size own cut ends read → TellsFirst (OrCut (From at own) cut past) r
tells_cut past own cut ends at size (Ok x) read weaker e v = λ q d s. elim v [
  | inl p ↦ elim s [ inl o ↦ p.none o.inside d o.fault | inr t ↦ p.whole (weaker t.2) ]
  | inr (inl f) ↦ absurd (not_both read x _ e f.is)
  | inr (inr f) ↦ absurd (not_both read x _ e f.is)
]
tells_cut past own cut ends at size (Err Memory) read weaker e v = tt
tells_cut past own cut ends at size (Err (At fault)) read weaker e v =
    let S = OrCut (From at own) cut past in
    elim v [
      | inl p ↦ absurd (not_both read p.value fault p.is e)
      | inr (inl f) ↦
          let first : IsFirst S (fault_at (at + f.place) f.cause) = record {
            there = inl (from own at f.place f.cause f.there);
            least = λ q d s. elim s [ inl o ↦ comes_first_after at f.place q o.inside f.cause d o.is_at (f.least o.inside d o.fault) | inr t ↦ absurd (f.uncut t.2) ];
          } in
          subst (λ g. IsFirst S g) (one_fault read _ fault f.is e) first
      | inr (inr f) ↦
          let first : IsFirst S past = record {
            there = inr (refl, refl, f.early);
            least = λ q d s. elim s [ inl o ↦ absurd (f.none o.inside d o.fault) | inr t ↦ inr (sym t.0, omega (arith, ap cause_number t.1)) ];
          } in
          subst (λ g. IsFirst S g) (one_fault read _ fault f.is e) first
    ]

-- ---- one fault is the first

abbrev cause_of : ℕ → PartCause
cause_of n =
    if n == 1 then Short else (if n == 2 then BadClass else (if n == 3 then BadLength else (if n == 4 then BadPad else (
    if n == 5 then Repeated else (if n == 6 then Prerequisite else (if n == 7 then UnknownAction else UnknownInstr))))))

numbered_cause : (c : PartCause) → cause_of (cause_number c) ≡ c
numbered_cause Short = refl
numbered_cause BadClass = refl
numbered_cause BadLength = refl
numbered_cause BadPad = refl
numbered_cause Repeated = refl
numbered_cause Prerequisite = refl
numbered_cause UnknownAction = refl
numbered_cause UnknownInstr = refl

same_place : (p q : ℕ) (c d : PartCause) → ComesFirst p c q d → ComesFirst q d p c → (p ≡ q) × (cause_number c ≡ cause_number d)
same_place p q c d a b = elim a [
  | inl lt ↦ elim b [ inl gt ↦ absurd (omega (arith, lt, gt)) | inr e ↦ absurd (omega (arith, lt, e.0)) ]
  | inr e ↦ elim b [ inl gt ↦ absurd (omega (arith, e.0, gt)) | inr f ↦ (e.0, omega (arith, e.1, f.1)) ]
]

pub one_first : (Stands : ℕ → PartCause → Type 0) (a b : PartFault) → IsFirst Stands a → IsFirst Stands b → a ≡ b
one_first Stands a b f g =
    let s = same_place a.at b.at a.cause b.cause (f.least b.at b.cause g.there) (g.least a.at a.cause f.there) in
    let cause : a.cause ≡ b.cause = sym (numbered_cause a.cause) ∙ ap (λ n. cause_of n) s.1 ∙ numbered_cause b.cause in
    λ i. record { at = s.0 i; cause = cause i }

-- ---- padding

pub record NotZero (past : PartFault) (at from to : ℕ) (bytes : List ℕ) : Type 0 where
  pub place : ℕ
  pub is : padding_at past at from to bytes ≡ Err (fault_at (at + place) BadPad)
  pub least : from ≤ place
  pub most : place < to
  pub inside : place < length bytes
  pub bit : get_or bytes place 0 ≢ 0
  pub first : (j : ℕ) → from ≤ j → j < to → j < length bytes → get_or bytes j 0 ≢ 0 → place ≤ j

abbrev pub AreZero : (from to : ℕ) → List ℕ → Type 0
AreZero from to bytes = (j : ℕ) → from ≤ j → j < to → j < length bytes → get_or bytes j 0 ≢ 0 → ⊥

pub record TooFew (past : PartFault) (at from to : ℕ) (bytes : List ℕ) : Type 0 where
  pub is : padding_at past at from to bytes ≡ Err past
  pub few : length bytes < to
  pub zeros : AreZero from to bytes

pub record AllZero (past : PartFault) (at from to : ℕ) (bytes : List ℕ) : Type 0 where
  pub is : padding_at past at from to bytes ≡ Ok to
  pub room : to ≤ length bytes
  pub zeros : AreZero from to bytes

abbrev is_some_bit : ℕ → Bool
is_some_bit b = not (eqb b 0)

pub padding_told : (past : PartFault) (at from to : ℕ) (bytes : List ℕ) → from ≤ to → NotZero past at from to bytes ⊎ (TooFew past at from to bytes ⊎ AllZero past at from to bytes)
unfolding padding_at
padding_told past at from to bytes order =
    let l = length bytes in
    let a = min from l in
    let b = min to l in
    let s = slice_range bytes a b in
    let k = position_or_len is_some_bit s in
    let size : length s ≡ b - a = length-between bytes a b (omega arith) in
    elim (cases_lt k (length s)) [
      | inl lt ↦
          let t : ltb k (length s) ≡ true = lt-ltb _ _ lt in
          let some : first_nonzero s ≡ Some k = rw t refl in
          let start : a ≡ from = omega (arith, size, lt) in
          let bit = passes_at_first is_some_bit s 0 lt in
          let same : get_or s k 0 ≡ get_or bytes (a + k) 0 = get_or-between bytes a b k 0 (omega (arith, size, lt)) in
          let there : get_or s k 0 ≡ get_or bytes (from + k) 0 = same ∙ ap (λ n. get_or bytes (n + k) 0) start in
          inl (record {
            place = from + k;
            is = ap (λ o. padded_to o past at from to l) some ∙ ap (λ n. Err (fault_at n BadPad)) (omega arith);
            least = omega arith;
            most = omega (arith, size, lt, start);
            inside = omega (arith, size, lt, start);
            bit = λ z. eqb-false _ _ (not-true _ bit) (there ∙ z);
            first = λ j low high in_ ne. elim (cases_lt j (from + k)) [
              | inr ge ↦ ge
              | inl less ↦
                  let i = j - from in
                  let z = eqb-true _ _ (not-false _ (fails_before_first is_some_bit s i 0 (omega arith))) in
                  let e : get_or s i 0 ≡ get_or bytes (a + i) 0 = get_or-between bytes a b i 0 (omega (arith, size, lt, start)) in
                  let back : a + i ≡ j = omega (arith, start) in
                  absurd (ne (ap (λ n. get_or bytes n 0) (sym back) ∙ sym e ∙ z))
            ];
          })
      | inr ge ↦
          let t : ltb k (length s) ≡ false = le-ltb _ _ ge in
          let none : first_nonzero s ≡ None = rw t refl in
          let zeros : AreZero from to bytes = λ j low high in_ ne.
          (let i = j - from in
          let start : a ≡ from = omega arith in
          let z = eqb-true _ _ (not-false _ (fails_before_first is_some_bit s i 0 (omega (arith, size, ge, start)))) in
          let e : get_or s i 0 ≡ get_or bytes (a + i) 0 = get_or-between bytes a b i 0 (omega (arith, start)) in
          let back : a + i ≡ j = omega (arith, start) in
          ne (ap (λ n. get_or bytes n 0) (sym back) ∙ sym e ∙ z)) in
          let open_ : padding_at past at from to bytes ≡ cond (ltb l to) (Err past) (Ok to) = ap (λ o. padded_to o past at from to l) none in
          elim (cases_lt l to) [
            | inl lt ↦ let u : ltb l to ≡ true = lt-ltb _ _ lt in inr (inl (record { is = open_ ∙ rw u refl; few = lt; zeros = zeros }))
            | inr le ↦ let u : ltb l to ≡ false = le-ltb _ _ le in inr (inr (record { is = open_ ∙ rw u refl; room = le; zeros = zeros }))
          ]
    ]
