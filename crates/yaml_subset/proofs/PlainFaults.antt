-- What reading a plain scalar tells is the first fault that stands in it.
use Rattle.std.proofs.Common.{◌≡◌, ◌⊎◌, inl, inr, ℕ, ◌+◌, ◌-◌, ◌≤◌, ◌<◌, ◌==◌, Bool, true, false, cond, not, ◌||◌, ◌&&◌, List, [], ◌∷◌, ◌++◌, length, take, Option, Some, None, Result, Ok, Err, refl, sym, ◌∙◌, ap, subst, arith}
use Rattle.std.proofs.lemmas.Bool.Decides.{nat_tests}
use Rattle.yaml_subset.specs.declared.fault.YamlForm.{YamlForm}
use Rattle.yaml_subset.specs.declared.fault.YamlForm.TheVariants.{Anchor, Alias, Tag, BlockScalar, ComplexKey, LongFlow}
use Rattle.yaml_subset.specs.declared.fault.YamlCause.{YamlCause}
use Rattle.yaml_subset.specs.declared.fault.YamlCause.TheVariants.{Tab, LeftOut, Syntax}
use Rattle.yaml_subset.specs.declared.scalars.Scanned.{Scanned}
use Rattle.yaml_subset.specs.FirstFault.{form_number, cause_number, ComesFirst, Tells}
use Rattle.yaml_subset.specs.Characters.{is_empty, is_control, at_gap, left_out}
use Rattle.yaml_subset.specs.Plain.{is_flow, is_reserved, start_fault, plain_fault, plain_ends, plain_from}
use Rattle.yaml_subset.specs.Scalars.{plain_scalar, unless_fault}
use Rattle.yaml_subset.specs.ScalarFaults.{is_indicator, is_lone_mark, IsCutMark, is_unended, PlainFault, no_scalar, left_out_form, no_start, lone_mark, cut_mark, plain_tab, plain_control}
use Rattle.yaml_subset.proofs.LineValues.{same}
use Rattle.yaml_subset.proofs.FirstFaults.{tells_err, tells_if, tells_same, tells_later, tells_map, Later, first_of_two, and_parts, or_cases, or_neither, never}

-- ---- behind the first character

-- a control character stands before the scalar ends
record Within (flow : Bool) (rest : List ℕ) (at : ℕ) (cause : YamlCause) : Type 0 where
  front : List ℕ
  c : ℕ
  behind : List ℕ
  whole : rest ≡ front ++ c ∷ behind
  place : at ≡ length front
  control : is_control c ≡ true
  goes_on : is_unended flow front (c ∷ behind) ≡ true
  is : (cause ≡ Syntax) ⊎ ((c ≡ 9) × (cause ≡ Tab))

of_within : (flow : Bool) (rest : List ℕ) (at : ℕ) (cause : YamlCause) → Within flow rest at cause → PlainFault flow rest at cause
of_within flow rest at cause w = by_cause w.is
  where
    by_cause : (cause ≡ Syntax) ⊎ ((w.c ≡ 9) × (cause ≡ Tab)) → PlainFault flow rest at cause
    by_cause (inl e) = subst (λ d. PlainFault flow rest at d) (sym e) (subst (λ p. PlainFault flow rest p Syntax) (sym w.place) (plain_control w.front w.c w.behind w.whole w.control w.goes_on))
    by_cause (inr (t, e)) =
        subst (λ d. PlainFault flow rest at d) (sym e) (subst (λ p. PlainFault flow rest p Tab) (sym w.place)
        (plain_tab w.front w.behind (w.whole ∙ ap (λ (x : ℕ). w.front ++ x ∷ w.behind) t) (ap (λ (x : ℕ). is_unended flow w.front (x ∷ w.behind)) (sym t) ∙ w.goes_on)))

-- at the first character: a control character, or one before which no scalar ends
abbrev Firstly : Bool → ℕ → List ℕ → ℕ → YamlCause → Type 0
Firstly flow c cs at cause = ((at ≡ 0) × (is_control c ≡ true) × ((cause ≡ Syntax) ⊎ ((c ≡ 9) × (cause ≡ Tab)))) ⊎ ((plain_ends flow c cs ≡ false) × Later 1 (Within flow cs) at cause)

first_cases : (flow : Bool) (c : ℕ) (cs : List ℕ) (at : ℕ) (cause : YamlCause) (front : List ℕ) (d : ℕ) (behind : List ℕ) → c ∷ cs ≡ front ++ d ∷ behind → at ≡ length front → is_control d ≡ true
    → is_unended flow front (d ∷ behind) ≡ true → (cause ≡ Syntax) ⊎ ((d ≡ 9) × (cause ≡ Tab)) → Firstly flow c cs at cause
first_cases flow c cs at cause [] d behind e p k g is =
    let head : d ≡ c = cc in
    inl (p, ap is_control (sym head) ∙ k, subst (λ (x : ℕ). (cause ≡ Syntax) ⊎ ((x ≡ 9) × (cause ≡ Tab))) head is)
first_cases flow c cs at cause (f ∷ fs) d behind e p k g is =
    let head : c ≡ f = cc in
    let tail : cs ≡ fs ++ d ∷ behind = cc in
    let goes = and_parts (not (plain_ends flow f (fs ++ d ∷ behind))) (is_unended flow fs (d ∷ behind)) g in
    let open_ : plain_ends flow f (fs ++ d ∷ behind) ≡ false = unnegated (plain_ends flow f (fs ++ d ∷ behind)) goes.0 in
    let same_ends : plain_ends flow c cs ≡ plain_ends flow f (fs ++ d ∷ behind) = cc in
    inr (same_ends ∙ open_, (length fs, p ∙ omega arith, record { front = fs; c = d; behind = behind; whole = tail; place = refl; control = k; goes_on = goes.1; is = is }))
  where
    unnegated : (b : Bool) → not b ≡ true → b ≡ false
    unnegated true h = sym h
    unnegated false h = refl

firstly : (flow : Bool) (c : ℕ) (cs : List ℕ) (at : ℕ) (cause : YamlCause) → Within flow (c ∷ cs) at cause → Firstly flow c cs at cause
firstly flow c cs at cause w = first_cases flow c cs at cause w.front w.c w.behind w.whole w.place w.control w.goes_on w.is

none_within : (flow : Bool) (at : ℕ) (cause : YamlCause) → Within flow [] at cause → ⊥
none_within flow at cause w = nothing w.front w.whole
  where
    nothing : (front : List ℕ) → [] ≡ front ++ w.c ∷ w.behind → ⊥
    nothing [] e = cc
    nothing (f ∷ fs) e = cc

no_end : (flow : Bool) (c : ℕ) (cs : List ℕ) → is_control c ≡ true → plain_ends flow c cs ≡ false
no_end flow c cs k =
    let space : c == 32 ≡ false = grind (arith, nat_tests) in
    let colon : c == 58 ≡ false = grind (arith, nat_tests) in
    let bracket : is_flow c ≡ false = grind (arith, nat_tests) in
    rw (space, colon, bracket) (no_both flow)
  where
    no_both : (b : Bool) → b && false ≡ false
    no_both true = refl
    no_both false = refl

ended : (flow : Bool) (c : ℕ) (cs : List ℕ) → plain_ends flow c cs ≡ true → (at : ℕ) (cause : YamlCause) → Within flow (c ∷ cs) at cause → ⊥
ended flow c cs e at cause w = elim (firstly flow c cs at cause w) [
  | inl v ↦ never (plain_ends flow c cs) e (no_end flow c cs v.1)
  | inr v ↦ never (plain_ends flow c cs) e v.0
]

numbered : (c : ℕ) (cause : YamlCause) → (cause ≡ Syntax) ⊎ ((c ≡ 9) × (cause ≡ Tab)) → 4 ≤ cause_number cause
numbered c cause (inl e) = subst (λ d. 4 ≤ cause_number d) (sym e) (omega arith)
numbered c cause (inr (t, e)) = subst (λ d. 4 ≤ cause_number d) (sym e) (omega arith)

numbered_other : (c : ℕ) (cause : YamlCause) → c == 9 ≡ false → (cause ≡ Syntax) ⊎ ((c ≡ 9) × (cause ≡ Tab)) → 18 ≤ cause_number cause
numbered_other c cause n (inl e) = subst (λ d. 18 ≤ cause_number d) (sym e) (omega arith)
numbered_other c cause n (inr (t, e)) = never (c == 9) (ap (λ x. x == 9) t) n

tab_first : (flow : Bool) (c : ℕ) (cs : List ℕ) (at : ℕ) (cause : YamlCause) → Within flow (c ∷ cs) at cause → ComesFirst 0 Tab at cause
tab_first flow c cs at cause w = elim (firstly flow c cs at cause w) [
  | inl v ↦ first_of_two 0 at Tab cause (omega arith) (numbered c cause v.2)
  | inr v ↦ (let p = v.1.1 in inl (omega arith))
]

control_first : (flow : Bool) (c : ℕ) (cs : List ℕ) → c == 9 ≡ false → (at : ℕ) (cause : YamlCause) → Within flow (c ∷ cs) at cause → ComesFirst 0 Syntax at cause
control_first flow c cs n at cause w = elim (firstly flow c cs at cause w) [
  | inl v ↦ first_of_two 0 at Syntax cause (omega arith) (numbered_other c cause n v.2)
  | inr v ↦ (let p = v.1.1 in inl (omega arith))
]

past_one : (flow : Bool) (c : ℕ) (cs : List ℕ) → is_control c ≡ false → (at : ℕ) (cause : YamlCause) → Within flow (c ∷ cs) at cause → Later 1 (Within flow cs) at cause
past_one flow c cs k at cause w = elim (firstly flow c cs at cause w) [
  | inl v ↦ never (is_control c) v.1 k
  | inr v ↦ v.1
]

before_one : (flow : Bool) (c : ℕ) (cs : List ℕ) → plain_ends flow c cs ≡ false → (at : ℕ) (cause : YamlCause) → Within flow cs at cause → Within flow (c ∷ cs) (1 + at) cause
before_one flow c cs e at cause w = record {
  front = c ∷ w.front;
  c = w.c;
  behind = w.behind;
  whole = ap (λ xs. c ∷ xs) w.whole;
  place = let p = w.place in omega arith;
  control = w.control;
  goes_on = ap (λ xs. not (plain_ends flow c xs) && is_unended flow w.front (w.c ∷ w.behind)) (sym w.whole) ∙ ap (λ b. not b && is_unended flow w.front (w.c ∷ w.behind)) e ∙ w.goes_on;
  is = w.is;
}

at_first : (flow : Bool) (c : ℕ) (cs : List ℕ) → is_control c ≡ true → Within flow (c ∷ cs) 0 Syntax
at_first flow c cs k = record { front = []; c = c; behind = cs; whole = refl; place = refl; control = k; goes_on = refl; is = inl refl }

tab_at_first : (flow : Bool) (c : ℕ) (cs : List ℕ) → c == 9 ≡ true → Within flow (c ∷ cs) 0 Tab
tab_at_first flow c cs t = record { front = []; c = c; behind = cs; whole = refl; place = refl; control = subst (λ x. is_control x ≡ true) (sym (same c 9 t)) refl; goes_on = refl; is = inr (same c 9 t, refl) }

within_told : (flow : Bool) (rest end : List ℕ) → Tells {X = List ℕ × List ℕ} (Within flow rest) (plain_from flow end rest)
unfolding plain_from
within_told flow [] end = none_within flow
within_told flow (c ∷ cs) end =
    let ok : Result (List ℕ × List ℕ) YamlCause = Ok (end, c ∷ cs) in
    let more : Result (List ℕ × List ℕ) YamlCause = plain_from flow (cond (c == 32) end cs) cs in
    tells_if (Within flow (c ∷ cs)) (plain_ends flow c cs) ok (cond (c == 9) (Err Tab) (cond (is_control c) (Err Syntax) more))
    (λ e. ended flow c cs e)
    (λ e. tells_if (Within flow (c ∷ cs)) (c == 9) (Err Tab) (cond (is_control c) (Err Syntax) more)
    (λ t. tells_err {X = List ℕ × List ℕ} (Within flow (c ∷ cs)) (Err Tab) 0 Tab refl (tab_at_first flow c cs t) (tab_first flow c cs))
    (λ t. tells_if (Within flow (c ∷ cs)) (is_control c) (Err Syntax) more
    (λ k. tells_err {X = List ℕ × List ℕ} (Within flow (c ∷ cs)) (Err Syntax) 0 Syntax refl (at_first flow c cs k) (control_first flow c cs t))
    (λ k. tells_later 1 (Within flow (c ∷ cs)) (Within flow cs) more (past_one flow c cs k) (before_one flow c cs e) (within_told flow cs (cond (c == 32) end cs)))))

-- ---- the first character

-- A fault of a plain scalar stands within it, or at its first character c, or it is a mark at the line's end in flow.
abbrev Starts : Bool → ℕ → List ℕ → ℕ → YamlCause → Type 0
Starts flow c cs at cause = Within flow (c ∷ cs) at cause
    ⊎ (((form : YamlForm) × (left_out (c ∷ cs) ≡ Some form) × (at ≡ 0) × (cause ≡ LeftOut form))
    ⊎ (((is_flow c || is_reserved c || is_indicator c ≡ true) × (at ≡ 0) × (cause ≡ Syntax))
    ⊎ (((is_lone_mark c cs ≡ true) × (IsCutMark flow c cs → ⊥) × (at ≡ 0) × (cause ≡ Syntax))
    ⊎ (IsCutMark flow c cs × (at ≡ length (c ∷ cs)) × (cause ≡ LeftOut LongFlow)))))

to_starts : (flow : Bool) (c : ℕ) (cs : List ℕ) (at : ℕ) (cause : YamlCause) → PlainFault flow (c ∷ cs) at cause → Starts flow c cs at cause
to_starts flow c cs at cause (no_scalar e) = absurd cc
to_starts flow c cs at cause (left_out_form form e) = inr (inl (form, e, refl, refl))
to_starts flow c cs at cause (no_start d ds e b) =
    let head : d ≡ c = cc in
    inr (inr (inl (subst (λ x. is_flow x || is_reserved x || is_indicator x ≡ true) head b, refl, refl)))
to_starts flow c cs at cause (lone_mark d ds e m n) =
    let head : d ≡ c = cc in
    let tail : ds ≡ cs = cc in
    inr (inr (inr (inl (
      subst (λ x. is_lone_mark x cs ≡ true) head (subst (λ xs. is_lone_mark d xs ≡ true) tail m),
      λ cut. n (subst (λ x. IsCutMark flow x ds) (sym head) (subst (λ xs. IsCutMark flow c xs) (sym tail) cut)),
      refl,
      refl,
    ))))
to_starts flow c cs at cause (cut_mark d ds e m) =
    let head : d ≡ c = cc in
    let tail : ds ≡ cs = cc in
    inr (inr (inr (inr (subst (λ x. IsCutMark flow x cs) head (subst (λ xs. IsCutMark flow d xs) tail m), refl, refl))))
to_starts flow c cs at cause (plain_tab front behind e g) =
    inl (record { front = front; c = 9; behind = behind; whole = e; place = refl; control = refl; goes_on = g; is = inr (refl, refl) })
to_starts flow c cs at cause (plain_control front d behind e k g) =
    inl (record { front = front; c = d; behind = behind; whole = e; place = refl; control = k; goes_on = g; is = inl refl })

-- the form that is left out is one of these
form_small : (c : ℕ) (cs : List ℕ) (form : YamlForm) → left_out (c ∷ cs) ≡ Some form → form_number form ≤ 6
form_small c cs form h = by_tests (c == 38) (c == 42) (c == 33) (c == 124 || c == 62) (c == 63 && at_gap cs) h
  where
    named : (known : YamlForm) → form_number known ≤ 6 → Some known ≡ Some form → form_number form ≤ 6
    named known le e = let s : known ≡ form = cc in subst (λ f. form_number f ≤ 6) s le

    none : (None ≡ Some form) → form_number form ≤ 6
    none e = absurd cc

    by_tests : (a b t s k : Bool) → cond a (Some Anchor) (cond b (Some Alias) (cond t (Some Tag) (cond s (Some BlockScalar) (cond k (Some ComplexKey) None)))) ≡ Some form → form_number form ≤ 6
    by_tests true b t s k e = named Anchor (omega arith) e
    by_tests false true t s k e = named Alias (omega arith) e
    by_tests false false true s k e = named Tag (omega arith) e
    by_tests false false false true k e = named BlockScalar (omega arith) e
    by_tests false false false false true e = named ComplexKey (omega arith) e
    by_tests false false false false false e = none e

-- the scalar may not begin with its first character
module _ (flow : Bool) (c : ℕ) (cs : List ℕ) where
  started : ((at : ℕ) (cause : YamlCause) → Starts flow c cs at cause → ⊥) → (at : ℕ) (cause : YamlCause) → PlainFault flow (c ∷ cs) at cause → ⊥
  started none at cause f = none at cause (to_starts flow c cs at cause f)

  within_number : (at : ℕ) (cause : YamlCause) → Within flow (c ∷ cs) at cause → (4 ≤ cause_number cause) × ((c == 9 ≡ false) → (0 < at) ⊎ (18 ≤ cause_number cause))
  within_number at cause w = elim (firstly flow c cs at cause w) [
    | inl v ↦ (numbered c cause v.2, λ n. inr (numbered_other c cause n v.2))
    | inr v ↦ (in_later w.is, λ n. inl (let p = v.1.1 in omega arith))
  ]
    where
      in_later : (cause ≡ Syntax) ⊎ ((w.c ≡ 9) × (cause ≡ Tab)) → 4 ≤ cause_number cause
      in_later s = numbered w.c cause s

  -- the least number that a cause may have at the first character
  least_number : (n : ℕ) → n ≤ 18 → (c == 9 ≡ false) ⊎ (n ≤ 4) → ((form : YamlForm) → left_out (c ∷ cs) ≡ Some form → n ≤ 4 + form_number form)
      → (at : ℕ) (cause : YamlCause) → PlainFault flow (c ∷ cs) at cause → (0 < at) ⊎ (n ≤ cause_number cause)
  least_number n le other forms at cause f = by_case (to_starts flow c cs at cause f)
    where
      by_tab : (c == 9 ≡ false) ⊎ (n ≤ 4) → (4 ≤ cause_number cause) × ((c == 9 ≡ false) → (0 < at) ⊎ (18 ≤ cause_number cause)) → (0 < at) ⊎ (n ≤ cause_number cause)
      by_tab (inl e) w = elim (w.1 e) [ inl lt ↦ inl lt | inr ge ↦ inr (omega (arith, le, ge)) ]
      by_tab (inr small) w = inr (omega (arith, small, w.0))

      of_form : (form : YamlForm) → left_out (c ∷ cs) ≡ Some form → cause ≡ LeftOut form → n ≤ cause_number cause
      of_form form e is = subst (λ d. n ≤ cause_number d) (sym is) (forms form e)

      of_syntax : cause ≡ Syntax → n ≤ cause_number cause
      of_syntax is = subst (λ d. n ≤ cause_number d) (sym is) le

      by_case : Starts flow c cs at cause → (0 < at) ⊎ (n ≤ cause_number cause)
      by_case (inl w) = by_tab other (within_number at cause w)
      by_case (inr (inl w)) = inr (of_form w.0 w.1 w.3)
      by_case (inr (inr (inl w))) = inr (of_syntax w.2)
      by_case (inr (inr (inr (inl w)))) = inr (of_syntax w.3)
      by_case (inr (inr (inr (inr w)))) = inl (let p = w.1 in omega arith)

  first_there : (cause : YamlCause) → cause_number cause ≤ 18 → (c == 9 ≡ false) ⊎ (cause_number cause ≤ 4) → ((form : YamlForm) → left_out (c ∷ cs) ≡ Some form → cause_number cause ≤ 4 + form_number form)
      → (at : ℕ) (other : YamlCause) → PlainFault flow (c ∷ cs) at other → ComesFirst 0 cause at other
  first_there cause le other forms at found f = elim (least_number (cause_number cause) le other forms at found f) [
    | inl lt ↦ inl lt
    | inr ge ↦ first_of_two 0 at cause found (omega arith) ge
  ]

  left_out_told : (form : YamlForm) → left_out (c ∷ cs) ≡ Some form → c == 9 ≡ false → Tells {X = Scanned × List ℕ} (PlainFault flow (c ∷ cs)) (Err (LeftOut form))
  left_out_told form e n =
      tells_err {X = Scanned × List ℕ} (PlainFault flow (c ∷ cs)) (Err (LeftOut form)) 0 (LeftOut form) refl (left_out_form form e)
      (first_there (LeftOut form) (let s = form_small c cs form e in omega arith) (inl n)
      (λ other h. let same_form : form ≡ other = cc in subst (λ f. 4 + form_number form ≤ 4 + form_number f) same_form (omega arith)))

  tab_told : c == 9 ≡ true → Tells {X = Scanned × List ℕ} (PlainFault flow (c ∷ cs)) (Err Tab)
  tab_told t =
      tells_err {X = Scanned × List ℕ} (PlainFault flow (c ∷ cs)) (Err Tab) 0 Tab refl (of_within flow (c ∷ cs) 0 Tab (tab_at_first flow c cs t))
      (first_there Tab (omega arith) (inr (omega arith)) (λ other h. omega arith))

  syntax_told : PlainFault flow (c ∷ cs) 0 Syntax → left_out (c ∷ cs) ≡ None → c == 9 ≡ false → Tells {X = Scanned × List ℕ} (PlainFault flow (c ∷ cs)) (Err Syntax)
  syntax_told there none n =
      tells_err {X = Scanned × List ℕ} (PlainFault flow (c ∷ cs)) (Err Syntax) 0 Syntax refl there
      (first_there Syntax (omega arith) (inl n) (λ other h. absurd cc))

  start_told : left_out (c ∷ cs) ≡ None → c == 9 ≡ false → is_control c || is_flow c || is_reserved c ≡ true → Tells {X = Scanned × List ℕ} (PlainFault flow (c ∷ cs)) (Err Syntax)
  start_told none n b = syntax_told (by_case (or_cases (is_control c || is_flow c) (is_reserved c) b)) none n
    where
      barred : is_flow c || is_reserved c ≡ true → PlainFault flow (c ∷ cs) 0 Syntax
      barred h = no_start c cs refl (rw h refl)

      by_start : (is_control c ≡ true) ⊎ (is_flow c ≡ true) → PlainFault flow (c ∷ cs) 0 Syntax
      by_start (inl k) = of_within flow (c ∷ cs) 0 Syntax (at_first flow c cs k)
      by_start (inr k) = barred (rw k refl)

      either : (a : Bool) → a || true ≡ true
      either true = refl
      either false = refl

      by_case : (is_control c || is_flow c ≡ true) ⊎ (is_reserved c ≡ true) → PlainFault flow (c ∷ cs) 0 Syntax
      by_case (inl k) = by_start (or_cases (is_control c) (is_flow c) k)
      by_case (inr k) = barred (ap (λ r. is_flow c || r) k ∙ either (is_flow c))

-- ---- marks

mark_is : (c : ℕ) → c == 45 || c == 58 ≡ true → (c ≡ 45) ⊎ (c ≡ 58)
mark_is c h = elim (or_cases (c == 45) (c == 58) h) [ inl e ↦ inl (same c 45 e) | inr e ↦ inr (same c 58 e) ]

lone : (c : ℕ) (cs : List ℕ) → (c == 45 || c == 58) && at_gap cs ≡ true → is_lone_mark c cs ≡ true
lone c cs h = let w = and_parts (c == 45 || c == 58) (at_gap cs) h in by_mark (mark_is c w.0) w.1
  where
    by_mark : (c ≡ 45) ⊎ (c ≡ 58) → at_gap cs ≡ true → is_lone_mark c cs ≡ true
    by_mark (inl e) g = subst (λ x. is_lone_mark x cs ≡ true) (sym e) g
    by_mark (inr e) g = subst (λ x. is_lone_mark x cs ≡ true) (sym e) g

mark_facts : (c : ℕ) (cs : List ℕ) → (c ≡ 45) ⊎ (c ≡ 58) → (is_control c ≡ false) × (left_out (c ∷ cs) ≡ None) × (is_flow c || is_reserved c || is_indicator c ≡ false)
mark_facts c cs (inl e) = (ap is_control e, ap (λ (x : ℕ). left_out (x ∷ cs)) e, ap (λ x. is_flow x || is_reserved x || is_indicator x) e)
mark_facts c cs (inr e) = (ap is_control e, ap (λ (x : ℕ). left_out (x ∷ cs)) e, ap (λ x. is_flow x || is_reserved x || is_indicator x) e)

nothing_in : (flow : Bool) (cs : List ℕ) → is_empty cs ≡ true → (at : ℕ) (cause : YamlCause) → Within flow cs at cause → ⊥
nothing_in flow [] e = none_within flow
nothing_in flow (c ∷ cs) e = λ at cause w. absurd (cc)

gap_at_end : (cs : List ℕ) → is_empty cs ≡ true → at_gap cs ≡ true
gap_at_end [] e = refl
gap_at_end (c ∷ cs) e = absurd cc

no_form : (rest : List ℕ) (form : YamlForm) → left_out rest ≡ None → left_out rest ≡ Some form → ⊥
no_form rest form n s = let e : None ≡ Some form = sym n ∙ s in cc

cut_first : (flow : Bool) (c : ℕ) (cs : List ℕ) → IsCutMark flow c cs → (at : ℕ) (cause : YamlCause) → PlainFault flow (c ∷ cs) at cause → ComesFirst (length (c ∷ cs)) (LeftOut LongFlow) at cause
cut_first flow c cs cut at cause f = by_case (mark_facts c cs (mark_is c cut.1)) (to_starts flow c cs at cause f)
  where
    by_case : (is_control c ≡ false) × (left_out (c ∷ cs) ≡ None) × (is_flow c || is_reserved c || is_indicator c ≡ false) → Starts flow c cs at cause → ComesFirst (length (c ∷ cs)) (LeftOut LongFlow) at cause
    by_case facts (inl w) = elim (firstly flow c cs at cause w) [
      | inl v ↦ never (is_control c) v.1 facts.0
      | inr v ↦ absurd (nothing_in flow cs cut.2 v.1.0 cause v.1.2)
    ]
    by_case facts (inr (inl w)) = absurd (no_form (c ∷ cs) w.0 facts.1 w.1)
    by_case facts (inr (inr (inl w))) = never (is_flow c || is_reserved c || is_indicator c) w.0 facts.2
    by_case facts (inr (inr (inr (inl w)))) = absurd (w.1 cut)
    by_case facts (inr (inr (inr (inr w)))) =
        first_of_two (length (c ∷ cs)) at (LeftOut LongFlow) cause (let p = w.1 in omega arith) (subst (λ d. 13 ≤ cause_number d) (sym w.2) (omega arith))

mark_told : (flow : Bool) (c : ℕ) (cs : List ℕ) → (c == 45 || c == 58) && at_gap cs ≡ true → left_out (c ∷ cs) ≡ None → c == 9 ≡ false → (b : Bool) → flow && is_empty cs ≡ b
    → Tells {X = Scanned × List ℕ} (PlainFault flow (c ∷ cs)) (Err (cond b (LeftOut LongFlow) Syntax))
mark_told flow c cs m none n true b =
    let w = and_parts flow (is_empty cs) b in
    let v = and_parts (c == 45 || c == 58) (at_gap cs) m in
    tells_err {X = Scanned × List ℕ} (PlainFault flow (c ∷ cs)) (Err (LeftOut LongFlow)) (length (c ∷ cs)) (LeftOut LongFlow) refl (cut_mark c cs refl (w.0, v.0, w.1)) (cut_first flow c cs (w.0, v.0, w.1))
mark_told flow c cs m none n false b =
    syntax_told flow c cs (lone_mark c cs refl (lone c cs m) (λ cut. never (flow && is_empty cs) (rw (cut.0, cut.2) refl) b)) none n

-- ---- a scalar that may begin so

indicated : (c : ℕ) (cs : List ℕ) → is_indicator c ≡ true → left_out (c ∷ cs) ≡ None → ⊥
indicated c cs = by_tests (c == 38) (c == 42) (c == 33) (c == 124) (c == 62) (c == 63 && at_gap cs)
  where
    by_tests : (a b t s r k : Bool) → a || b || t || s || r ≡ true → cond a (Some Anchor) (cond b (Some Alias) (cond t (Some Tag) (cond (s || r) (Some BlockScalar) (cond k (Some ComplexKey) None)))) ≡ None → ⊥
    by_tests true b t s r k h e = cc
    by_tests false true t s r k h e = cc
    by_tests false false true s r k h e = cc
    by_tests false false false true r k h e = cc
    by_tests false false false false true k h e = cc
    by_tests false false false false false k h e = cc

marked : (c : ℕ) (cs : List ℕ) → is_lone_mark c cs ≡ true → left_out (c ∷ cs) ≡ None → (c == 45 || c == 58) && at_gap cs ≡ false → ⊥
marked c cs m none g = by_gap (and_parts (c == 45 || c == 63 || c == 58) (at_gap cs) m)
  where
    no_question : at_gap cs ≡ true → c ≡ 63 → ⊥
    no_question gap e =
        let s : left_out (63 ∷ cs) ≡ Some ComplexKey = rw gap refl in
        no_form (c ∷ cs) ComplexKey none (ap (λ (x : ℕ). left_out (x ∷ cs)) e ∙ s)

    no_dash : at_gap cs ≡ true → c == 45 || c == 58 ≡ true → ⊥
    no_dash gap e = never ((c == 45 || c == 58) && at_gap cs) (rw (e, gap) refl) g

    by_both : at_gap cs ≡ true → (c == 45 ≡ true) ⊎ (c == 63 ≡ true) → ⊥
    by_both gap (inl e) = no_dash gap (rw e refl)
    by_both gap (inr e) = no_question gap (same c 63 e)

    by_gap : (c == 45 || c == 63 || c == 58 ≡ true) × (at_gap cs ≡ true) → ⊥
    by_gap w = elim (or_cases (c == 45 || c == 63) (c == 58) w.0) [
      | inl e ↦ by_both w.1 (or_cases (c == 45) (c == 63) e)
      | inr e ↦ no_dash w.1 (subst (λ (x : ℕ). x == 45 || x == 58 ≡ true) (sym (same c 58 e)) refl)
    ]

only_within : (flow : Bool) (c : ℕ) (cs : List ℕ) → left_out (c ∷ cs) ≡ None → is_control c || is_flow c || is_reserved c ≡ false → (c == 45 || c == 58) && at_gap cs ≡ false
    → (at : ℕ) (cause : YamlCause) → PlainFault flow (c ∷ cs) at cause → Within flow (c ∷ cs) at cause
only_within flow c cs none b g at cause f = by_case (to_starts flow c cs at cause f)
  where
    barred : is_flow c || is_reserved c || is_indicator c ≡ true → ⊥
    barred h =
        let w = or_neither (is_control c || is_flow c) (is_reserved c) b in
        let v = or_neither (is_control c) (is_flow c) w.0 in
        elim (or_cases (is_flow c || is_reserved c) (is_indicator c) h) [
          | inl e ↦ elim (or_cases (is_flow c) (is_reserved c) e) [ inl k ↦ never (is_flow c) k v.1 | inr k ↦ never (is_reserved c) k w.1 ]
          | inr e ↦ indicated c cs e none
        ]

    by_case : Starts flow c cs at cause → Within flow (c ∷ cs) at cause
    by_case (inl w) = w
    by_case (inr (inl w)) = absurd (no_form (c ∷ cs) w.0 none w.1)
    by_case (inr (inr (inl w))) = absurd (barred w.0)
    by_case (inr (inr (inr (inl w)))) = absurd (marked c cs w.0 none g)
    by_case (inr (inr (inr (inr w)))) = never ((c == 45 || c == 58) && at_gap cs) (let e = w.0.1 in let k = gap_at_end cs w.0.2 in rw (e, k) refl) g

scalar_within : (flow : Bool) (rest : List ℕ) → Tells {X = Scanned × List ℕ} (Within flow rest) (plain_scalar flow rest)
unfolding plain_scalar
scalar_within flow rest =
    tells_map (Within flow rest) (plain_from flow rest rest) (λ (span : List ℕ × List ℕ). (record { plain = true; text = take (length rest - length span.0) rest }, span.1)) (within_told flow rest rest)

begun_told : (flow : Bool) (c : ℕ) (cs : List ℕ) → left_out (c ∷ cs) ≡ None → Tells {X = Scanned × List ℕ} (PlainFault flow (c ∷ cs)) (unless_fault (start_fault flow c cs None) (plain_scalar flow (c ∷ cs)))
begun_told flow c cs none = by_tests (c == 9) (is_control c || is_flow c || is_reserved c) ((c == 45 || c == 58) && at_gap cs) refl refl refl
  where
    by_tests : (t b g : Bool) → c == 9 ≡ t → is_control c || is_flow c || is_reserved c ≡ b → (c == 45 || c == 58) && at_gap cs ≡ g
        → Tells {X = Scanned × List ℕ} (PlainFault flow (c ∷ cs))
        (unless_fault (cond t (Some Tab) (cond b (Some Syntax) (cond g (Some (cond (flow && is_empty cs) (LeftOut LongFlow) Syntax)) None))) (plain_scalar flow (c ∷ cs)))
    by_tests true b g e f h = tab_told flow c cs e
    by_tests false true g e f h = start_told flow c cs none e f
    by_tests false false true e f h = mark_told flow c cs h none e (flow && is_empty cs) refl
    by_tests false false false e f h =
        tells_same (PlainFault flow (c ∷ cs)) (Within flow (c ∷ cs)) (plain_scalar flow (c ∷ cs)) (only_within flow c cs none f h) (of_within flow (c ∷ cs)) (scalar_within flow (c ∷ cs))

no_tab_form : (c : ℕ) (cs : List ℕ) (form : YamlForm) → left_out (c ∷ cs) ≡ Some form → c == 9 ≡ false
no_tab_form c cs form e = by_test (c == 9) refl
  where
    by_test : (b : Bool) → c == 9 ≡ b → c == 9 ≡ false
    by_test true t = absurd (no_form (c ∷ cs) form (ap (λ (x : ℕ). left_out (x ∷ cs)) (same c 9 t)) e)
    by_test false t = t

nothing_told : (flow : Bool) (at : ℕ) (cause : YamlCause) → PlainFault flow [] at cause → ComesFirst 0 Syntax at cause
nothing_told flow at cause (no_scalar e) = inr (refl, omega arith)
nothing_told flow at cause (left_out_form form e) = absurd cc
nothing_told flow at cause (no_start c cs e b) = absurd cc
nothing_told flow at cause (lone_mark c cs e m n) = absurd cc
nothing_told flow at cause (cut_mark c cs e m) = absurd cc
nothing_told flow at cause (plain_tab front behind e g) = absurd (none_in front 9 behind e)
  where
    none_in : (xs : List ℕ) (y : ℕ) (ys : List ℕ) → [] ≡ xs ++ y ∷ ys → ⊥
    none_in [] y ys h = cc
    none_in (x ∷ xs) y ys h = cc
nothing_told flow at cause (plain_control front c behind e k g) = absurd (none_in front c behind e)
  where
    none_in : (xs : List ℕ) (y : ℕ) (ys : List ℕ) → [] ≡ xs ++ y ∷ ys → ⊥
    none_in [] y ys h = cc
    none_in (x ∷ xs) y ys h = cc

pub plain_tells : (flow : Bool) (rest : List ℕ) → Tells {X = Scanned × List ℕ} (PlainFault flow rest) (unless_fault (plain_fault flow rest) (plain_scalar flow rest))
plain_tells flow [] = tells_err {X = Scanned × List ℕ} (PlainFault flow []) (Err Syntax) 0 Syntax refl (no_scalar refl) (nothing_told flow)
plain_tells flow (c ∷ cs) = by_form (left_out (c ∷ cs)) refl
  where
    by_form : (form : Option YamlForm) → left_out (c ∷ cs) ≡ form → Tells {X = Scanned × List ℕ} (PlainFault flow (c ∷ cs)) (unless_fault (start_fault flow c cs form) (plain_scalar flow (c ∷ cs)))
    by_form (Some form) e = left_out_told flow c cs form e (no_tab_form c cs form e)
    by_form None e = begun_told flow c cs e
