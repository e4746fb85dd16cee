-- What reading single quotes tells is the first fault that stands there.
use Rattle.std.proofs.Common.{◌≡◌, ◌⊎◌, inl, inr, ℕ, ◌+◌, ◌≤◌, ◌==◌, Bool, true, false, cond, List, [], ◌∷◌, ◌++◌, length, append-nil, Result, Ok, Err, refl, sym, ◌∙◌, ap, subst, arith}
use Rattle.yaml_subset.specs.declared.fault.YamlForm.TheVariants.{LongQuote}
use Rattle.yaml_subset.specs.declared.fault.YamlCause.{YamlCause}
use Rattle.yaml_subset.specs.declared.fault.YamlCause.TheVariants.{LeftOut, Syntax}
use Rattle.yaml_subset.specs.FirstFault.{cause_number, ComesFirst, Tells}
use Rattle.yaml_subset.specs.Characters.{begins, is_kept}
use Rattle.yaml_subset.specs.Quoted.{single_from}
use Rattle.yaml_subset.specs.SingleQuoted.{doubled}
use Rattle.yaml_subset.specs.ScalarFaults.{SingleFault, single_control, single_open}
use Rattle.yaml_subset.proofs.LineValues.{same}
use Rattle.yaml_subset.proofs.FirstFaults.{tells_err, tells_if, tells_same, tells_later, Later, first_of_two, never}

-- where the text of a quote stops: at a control character, or at the line's end
abbrev Stops : List ℕ → YamlCause → Type 0
Stops rest cause = ((c : ℕ) × (behind : List ℕ) × (rest ≡ c ∷ behind) × (is_kept c ≡ false) × (cause ≡ Syntax)) ⊎ ((rest ≡ []) × (cause ≡ LeftOut LongQuote))

record Single (inside : List ℕ) (at : ℕ) (cause : YamlCause) : Type 0 where
  text : List ℕ
  rest : List ℕ
  whole : inside ≡ doubled text ++ rest
  place : at ≡ length (doubled text)
  stops : Stops rest cause

to_single : (inside : List ℕ) (at : ℕ) (cause : YamlCause) → SingleFault inside at cause → Single inside at cause
to_single inside at cause (single_control text c behind e k) = record { text = text; rest = c ∷ behind; whole = e; place = refl; stops = inl (c, behind, refl, k, refl) }
to_single inside at cause (single_open text e) = record { text = text; rest = []; whole = e ∙ sym (append-nil (doubled text)); place = ap length e; stops = inr (refl, refl) }

of_single : (inside : List ℕ) (at : ℕ) (cause : YamlCause) → Single inside at cause → SingleFault inside at cause
of_single inside at cause s = by_stop s.stops
  where
    by_stop : Stops s.rest cause → SingleFault inside at cause
    by_stop (inl (c, behind, r, k, is)) =
        subst (λ d. SingleFault inside at d) (sym is) (subst (λ p. SingleFault inside p Syntax) (sym s.place) (single_control s.text c behind (s.whole ∙ ap (λ xs. doubled s.text ++ xs) r) k))
    by_stop (inr (r, is)) =
        let e : inside ≡ doubled s.text = s.whole ∙ ap (λ xs. doubled s.text ++ xs) r ∙ append-nil (doubled s.text) in
        subst (λ d. SingleFault inside at d) (sym is) (subst (λ p. SingleFault inside p (LeftOut LongQuote)) (ap length e ∙ sym s.place) (single_open s.text e))

late_enough : (rest : List ℕ) (cause : YamlCause) → Stops rest cause → 14 ≤ cause_number cause
late_enough rest cause (inl (c, behind, r, k, is)) = subst (λ d. 14 ≤ cause_number d) (sym is) (omega arith)
late_enough rest cause (inr (r, is)) = subst (λ d. 14 ≤ cause_number d) (sym is) (omega arith)

-- at the first character: a fault there, a character, or two quotes
abbrev Firstly : ℕ → List ℕ → ℕ → YamlCause → Type 0
Firstly c cs at cause = ((at ≡ 0) × Stops (c ∷ cs) cause) ⊎ (((c == 39 ≡ false) × Later 1 (Single cs) at cause) ⊎ ((c ≡ 39) × (more : List ℕ) × (cs ≡ 39 ∷ more) × Later 2 (Single more) at cause))

first_cases : (c : ℕ) (cs : List ℕ) (at : ℕ) (cause : YamlCause) (text rest : List ℕ) → c ∷ cs ≡ doubled text ++ rest → at ≡ length (doubled text) → Stops rest cause → Firstly c cs at cause
first_cases c cs at cause [] rest e p s = inl (p, subst (λ xs. Stops xs cause) (sym e) s)
first_cases c cs at cause (t ∷ ts) rest e p s = by_quote (t == 39) refl e p
  where
    by_quote : (b : Bool) → t == 39 ≡ b → c ∷ cs ≡ cond b (39 ∷ 39 ∷ doubled ts) (t ∷ doubled ts) ++ rest → at ≡ length (cond b (39 ∷ 39 ∷ doubled ts) (t ∷ doubled ts)) → Firstly c cs at cause
    by_quote true q h l =
        let head : c ≡ 39 = cc in
        let tail : cs ≡ 39 ∷ doubled ts ++ rest = cc in
        inr (inr (head, doubled ts ++ rest, tail, (length (doubled ts), l ∙ omega arith, record { text = ts; rest = rest; whole = refl; place = refl; stops = s })))
    by_quote false q h l =
        let head : c ≡ t = cc in
        let tail : cs ≡ doubled ts ++ rest = cc in
        inr (inl (ap (λ x. x == 39) head ∙ q, (length (doubled ts), l ∙ omega arith, record { text = ts; rest = rest; whole = tail; place = refl; stops = s })))

firstly : (c : ℕ) (cs : List ℕ) (at : ℕ) (cause : YamlCause) → Single (c ∷ cs) at cause → Firstly c cs at cause
firstly c cs at cause s = first_cases c cs at cause s.text s.rest s.whole s.place s.stops

no_stop : (c : ℕ) (cs : List ℕ) (cause : YamlCause) → is_kept c ≡ true → Stops (c ∷ cs) cause → ⊥
no_stop c cs cause k (inl (d, behind, r, u, is)) = let e : c ≡ d = cc in never (is_kept c) k (ap is_kept e ∙ u)
no_stop c cs cause k (inr (r, is)) = cc

-- behind a character
past_one : (c : ℕ) (cs : List ℕ) → c == 39 ≡ false → is_kept c ≡ true → (at : ℕ) (cause : YamlCause) → Single (c ∷ cs) at cause → Later 1 (Single cs) at cause
past_one c cs q k at cause s = by_case (firstly c cs at cause s)
  where
    by_case : Firstly c cs at cause → Later 1 (Single cs) at cause
    by_case (inl w) = absurd (no_stop c cs cause k w.1)
    by_case (inr (inl w)) = w.1
    by_case (inr (inr w)) = never (c == 39) (ap (λ x. x == 39) w.0) q

before_one : (c : ℕ) (cs : List ℕ) → c == 39 ≡ false → (at : ℕ) (cause : YamlCause) → Single cs at cause → Single (c ∷ cs) (1 + at) cause
before_one c cs q at cause s = record {
  text = c ∷ s.text;
  rest = s.rest;
  whole = ap (λ xs. c ∷ xs) s.whole ∙ ap (λ b. cond b (39 ∷ 39 ∷ doubled s.text) (c ∷ doubled s.text) ++ s.rest) (sym q);
  place = let p = s.place in let l : 1 + at ≡ length (c ∷ doubled s.text) = omega arith in l ∙ ap (λ b. length (cond b (39 ∷ 39 ∷ doubled s.text) (c ∷ doubled s.text))) (sym q);
  stops = s.stops;
}

-- behind two quotes
past_two : (cs : List ℕ) (at : ℕ) (cause : YamlCause) → Single (39 ∷ 39 ∷ cs) at cause → Later 2 (Single cs) at cause
past_two cs at cause s = by_case (firstly 39 (39 ∷ cs) at cause s)
  where
    by_case : Firstly 39 (39 ∷ cs) at cause → Later 2 (Single cs) at cause
    by_case (inl w) = absurd (no_stop 39 (39 ∷ cs) cause refl w.1)
    by_case (inr (inl w)) = never true refl w.0
    by_case (inr (inr (e, more, m, later))) = let h : more ≡ cs = cc in subst (λ xs. Later 2 (Single xs) at cause) h later

before_two : (cs : List ℕ) (at : ℕ) (cause : YamlCause) → Single cs at cause → Single (39 ∷ 39 ∷ cs) (2 + at) cause
before_two cs at cause s = record { text = 39 ∷ s.text; rest = s.rest; whole = ap (λ xs. 39 ∷ 39 ∷ xs) s.whole; place = let p = s.place in omega arith; stops = s.stops }

-- a closing quote
closed : (after : List ℕ) → begins 39 after ≡ false → (at : ℕ) (cause : YamlCause) → Single (39 ∷ after) at cause → ⊥
closed after b at cause s = by_case (firstly 39 after at cause s)
  where
    by_case : Firstly 39 after at cause → ⊥
    by_case (inl w) = no_stop 39 after cause refl w.1
    by_case (inr (inl w)) = never true refl w.0
    by_case (inr (inr (e, more, m, later))) = never (begins 39 after) (ap (begins 39) m) b

open_told : (at : ℕ) (cause : YamlCause) → Single [] at cause → ComesFirst 0 (LeftOut LongQuote) at cause
open_told at cause s = first_of_two 0 at (LeftOut LongQuote) cause (omega arith) (late_enough s.rest cause s.stops)

control_told : (c : ℕ) (cs : List ℕ) (at : ℕ) (cause : YamlCause) → Single (c ∷ cs) at cause → ComesFirst 0 Syntax at cause
control_told c cs at cause s = by_case (firstly c cs at cause s)
  where
    here : Stops (c ∷ cs) cause → 18 ≤ cause_number cause
    here (inl (d, behind, r, u, is)) = subst (λ e. 18 ≤ cause_number e) (sym is) (omega arith)
    here (inr (r, is)) = absurd cc

    by_case : Firstly c cs at cause → ComesFirst 0 Syntax at cause
    by_case (inl w) = first_of_two 0 at Syntax cause (omega arith) (here w.1)
    by_case (inr (inl (q, (inside, p, s)))) = inl (omega arith)
    by_case (inr (inr (e, more, m, (inside, p, s)))) = inl (omega arith)

-- what is left to be read, behind a quote or not
abbrev left : Bool → List ℕ → List ℕ
left false rest = rest
left true rest = 39 ∷ rest

single_reads : (rest : List ℕ) (seen : Bool) (out : List ℕ) → Tells {X = List ℕ × List ℕ} (Single (left seen rest)) (single_from seen out rest)
unfolding single_from
single_reads [] true out = closed [] refl
single_reads [] false out = tells_err {X = List ℕ × List ℕ} (Single []) (Err (LeftOut LongQuote)) 0 (LeftOut LongQuote) refl (record { text = []; rest = []; whole = refl; place = refl; stops = inr (refl, refl) }) open_told
single_reads (c ∷ cs) true out =
    let ended : Result (List ℕ × List ℕ) YamlCause = Ok (out, c ∷ cs) in
    tells_if (Single (39 ∷ c ∷ cs)) (c == 39) (single_from false (out ++ 39 ∷ []) cs) ended
    (λ q. subst (λ (x : ℕ). Tells {X = List ℕ × List ℕ} (Single (39 ∷ x ∷ cs)) (single_from false (out ++ 39 ∷ []) cs)) (sym (same c 39 q))
    (tells_later 2 (Single (39 ∷ 39 ∷ cs)) (Single cs) (single_from false (out ++ 39 ∷ []) cs) (past_two cs) (before_two cs) (single_reads cs false (out ++ 39 ∷ []))))
    (λ q. closed (c ∷ cs) q)
single_reads (c ∷ cs) false out =
    tells_if (Single (c ∷ cs)) (c == 39) (single_from true out cs) (cond (is_kept c) (single_from false (out ++ c ∷ []) cs) (Err Syntax))
    (λ q. subst (λ (x : ℕ). Tells {X = List ℕ × List ℕ} (Single (x ∷ cs)) (single_from true out cs)) (sym (same c 39 q)) (single_reads cs true out))
    (λ q. tells_if (Single (c ∷ cs)) (is_kept c) (single_from false (out ++ c ∷ []) cs) (Err Syntax)
    (λ k. tells_later 1 (Single (c ∷ cs)) (Single cs) (single_from false (out ++ c ∷ []) cs) (past_one c cs q k) (before_one c cs q) (single_reads cs false (out ++ c ∷ [])))
    (λ k. tells_err {X = List ℕ × List ℕ} (Single (c ∷ cs)) (Err Syntax) 0 Syntax refl (record { text = []; rest = c ∷ cs; whole = refl; place = refl; stops = inl (c, cs, refl, k, refl) }) (control_told c cs)))

pub single_tells : (inside : List ℕ) → Tells {X = List ℕ × List ℕ} (SingleFault inside) (single_from false [] inside)
single_tells inside = tells_same (SingleFault inside) (Single inside) (single_from false [] inside) (to_single inside) (of_single inside) (single_reads inside false [])
