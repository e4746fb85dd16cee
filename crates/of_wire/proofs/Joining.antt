-- Parts that are read one behind the other are those that are spelled so.
use Rattle.std.proofs.Common.{◌≡◌, ℕ, zero, suc, ◌+◌, ◌≤◌, eq-eqb, List, [], ◌∷◌, ◌++◌, length, drop, Result, Ok, refl, sym, ap, ◌∙◌, arith, append_assoc}
use Rattle.std.proofs.lemmas.Bool.{ne_eqb}
use Rattle.std.proofs.lemmas.List.{length-append, append-nil, drop_at}
use Rattle.of_wire.specs.declared.fault.PartFault.{PartFault}
use Rattle.of_wire.specs.Reading.{◌>>=◌, many}
use Rattle.of_wire.specs.Grammar.{Then, Joined}
use Rattle.of_wire.proofs.Chosen.{bind_from}

-- one part that was read: it is spelled at the front
pub record Part {A S : Type 0} (spells : List A → A → List ℕ → Type 0) (view : List A → S) (before : List A) (bytes : List ℕ) (y : S × ℕ) : Type 0 where
  pub part : A
  pub parts : Then (spells before part) (λ rest. 1 ≤ y.1) bytes
  pub size : length parts.first ≡ y.1
  pub seen : y.0 ≡ view (before ++ part ∷ [])

pub record Parts {A S : Type 0} (spells : List A → A → List ℕ → Type 0) (view : List A → S) (before : List A) (bytes : List ℕ) (y : S) : Type 0 where
  pub all : List A
  pub joined : Joined spells before all bytes
  pub seen : y ≡ view (before ++ all)

pub one_more : {S : Type 0} (step : S → ℕ → List ℕ → Result (S × ℕ) PartFault) (steps : ℕ) (s : S) (at : ℕ) (bytes : List ℕ) → (length bytes ≡ 0 → ⊥) →
    many step (suc steps) s at bytes ≡ (step s at bytes >>= λ x. many step steps x.0 (at + x.1) (drop x.1 bytes))
unfolding many
one_more step steps s at bytes ne = rw (ne_eqb (length bytes) 0 ne) refl

pub no_more : {S : Type 0} (step : S → ℕ → List ℕ → Result (S × ℕ) PartFault) (steps : ℕ) (s : S) (at : ℕ) (bytes : List ℕ) → length bytes ≡ 0 → many step steps s at bytes ≡ Ok s
unfolding many
no_more step zero s at bytes e = refl
no_more step (suc steps) s at bytes e = rw (eq-eqb (length bytes) 0 e) refl

-- a part that is spelled is read, whatever follows
pub record IsRead {A S : Type 0} (view : List A → S) (step : S → ℕ → List ℕ → Result (S × ℕ) PartFault) (before : List A) (part : A) (at : ℕ) (first rest : List ℕ) : Type 0 where
  pub read : step (view before) at (first ++ rest) ≡ Ok (view (before ++ part ∷ []), length first)
  pub some : 1 ≤ length first

pub joined_read : {A S : Type 0} (spells : List A → A → List ℕ → Type 0) (view : List A → S) (step : S → ℕ → List ℕ → Result (S × ℕ) PartFault)
    (complete : (before : List A) (part : A) (at : ℕ) (first rest : List ℕ) → spells before part first → IsRead view step before part at first rest)
    (all : List A) (steps : ℕ) (before : List A) (at : ℕ) (bytes : List ℕ) → length bytes ≤ steps → Joined spells before all bytes
    → many step steps (view before) at bytes ≡ Ok (view (before ++ all))
joined_read spells view step complete [] steps before at bytes l j =
    no_more step steps (view before) at bytes (ap length j) ∙ ap (λ b. Ok (view b)) (sym (append-nil before))
joined_read spells view step complete (x ∷ xs) zero before at bytes l j =
    let r = complete before x at j.first j.rest j.in_front in
    absurd (omega (arith, ap length j.whole, length-append j.first j.rest, r.some))
joined_read {A = A} {S = S} spells view step complete (x ∷ xs) (suc steps) before at bytes l j =
    let r = complete before x at j.first j.rest j.in_front in
    let len : length bytes ≡ length j.first + length j.rest = ap length j.whole ∙ length-append j.first j.rest in
    let left : drop (length j.first) bytes ≡ j.rest = ap (drop (length j.first)) j.whole ∙ drop_at j.first j.rest (length j.first) refl in
    let next = joined_read spells view step complete xs steps (before ++ x ∷ []) (at + length j.first) j.rest (omega (arith, len, r.some)) j.behind in
    one_more step steps (view before) at bytes (λ e. omega (arith, len, r.some))
    ∙ bind_from (step (view before) at bytes) (λ (y : S × ℕ). many step steps y.0 (at + y.1) (drop y.1 bytes)) (view (before ++ x ∷ []), length j.first) (view (before ++ x ∷ xs))
    (ap (step (view before) at) j.whole ∙ r.read)
    (ap (many step steps (view (before ++ x ∷ [])) (at + length j.first)) left ∙ next ∙ ap (λ b. Ok (view b)) (append_assoc before (x ∷ []) xs))
