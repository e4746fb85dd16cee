-- What stands between the parts of a line is told as the first fault there.
use Rattle.std.proofs.Common.{◌≡◌, ◌⊎◌, inl, inr, ℕ, ◌+◌, ◌≤◌, ◌==◌, Bool, true, false, cond, ◌||◌, ◌&&◌, List, [], ◌∷◌, ◌++◌, length, Result, Ok, Err, refl, sym, ◌∙◌, ap, subst, arith}
use Rattle.std.specs.List.{list_all}
use Rattle.yaml_subset.specs.declared.fault.YamlCause.{YamlCause}
use Rattle.yaml_subset.specs.declared.fault.YamlCause.TheVariants.{Tab, Syntax}
use Rattle.yaml_subset.specs.Gives.{◌>>=◌}
use Rattle.yaml_subset.specs.FirstFault.{cause_number, ComesFirst, Tells}
use Rattle.yaml_subset.specs.Characters.{is_empty, begins, skip, is_kept, next_part, stray, line_end}
use Rattle.yaml_subset.specs.ScalarFaults.{ControlAt, HasComment, behind_spaces, NextFault, in_comment, LineEndFault, end_comment, end_tab, end_stray}
use Rattle.yaml_subset.proofs.LineValues.{same}
use Rattle.yaml_subset.proofs.FirstFaults.{tells_err, tells_if, tells_same, tells_later, Later, first_of_two, and_parts, never}

-- ---- control characters

abbrev Unkept : List ℕ → ℕ → YamlCause → Type 0
Unkept bytes at cause = ControlAt bytes at × (cause ≡ Syntax)

control_parts : (c : ℕ) (cs : List ℕ) (at : ℕ) (front : List ℕ) (control : ℕ) (behind : List ℕ) → c ∷ cs ≡ front ++ control ∷ behind → at ≡ length front → is_kept control ≡ false
    → ((at ≡ 0) × (is_kept c ≡ false)) ⊎ ((inside : ℕ) × (at ≡ 1 + inside) × ControlAt cs inside)
control_parts c cs at [] control behind e p k = let h : c ≡ control = cc in inl (p, ap is_kept h ∙ k)
control_parts c cs at (f ∷ fs) control behind e p k =
    let h : cs ≡ fs ++ control ∷ behind = cc in
    inr (length fs, p ∙ omega arith, record { front = fs; control = control; behind = behind; whole = h; place = refl; unkept = k })

parts_of : (c : ℕ) (cs : List ℕ) (at : ℕ) → ControlAt (c ∷ cs) at → ((at ≡ 0) × (is_kept c ≡ false)) ⊎ ((inside : ℕ) × (at ≡ 1 + inside) × ControlAt cs inside)
parts_of c cs at w = control_parts c cs at w.front w.control w.behind w.whole w.place w.unkept

no_control : (at : ℕ) (front : List ℕ) (control : ℕ) (behind : List ℕ) → [] ≡ front ++ control ∷ behind → ⊥
no_control at [] control behind e = cc
no_control at (f ∷ fs) control behind e = cc

kept_tells : {X : Type 0} (bytes : List ℕ) (x : X) → Tells {X = X} (Unkept bytes) (cond (list_all is_kept bytes) (Ok x) (Err Syntax))
kept_tells [] x = λ at cause w. no_control at w.0.front w.0.control w.0.behind w.0.whole
kept_tells {X = X} (c ∷ cs) x = by_first (is_kept c) refl (kept_tells cs x)
  where
    later : (at : ℕ) (cause : YamlCause) → is_kept c ≡ true → Unkept (c ∷ cs) at cause → Later 1 (Unkept cs) at cause
    later at cause k w = of_parts (parts_of c cs at w.0)
      where
        of_parts : ((at ≡ 0) × (is_kept c ≡ false)) ⊎ ((inside : ℕ) × (at ≡ 1 + inside) × ControlAt cs inside) → Later 1 (Unkept cs) at cause
        of_parts (inl v) = never (is_kept c) k v.1
        of_parts (inr v) = (v.0, v.1, (v.2, w.1))

    earlier : (at : ℕ) (cause : YamlCause) → Unkept cs at cause → Unkept (c ∷ cs) (1 + at) cause
    earlier at cause (w, e) = (
      record {
        front = c ∷ w.front;
        control = w.control;
        behind = w.behind;
        whole = ap (λ xs. c ∷ xs) w.whole;
        place = let p = w.place in omega arith;
        unkept = w.unkept;
      },
      e,
    )

    by_first : (b : Bool) → is_kept c ≡ b → Tells {X = X} (Unkept cs) (cond (list_all is_kept cs) (Ok x) (Err Syntax)) → Tells {X = X} (Unkept (c ∷ cs)) (cond (b && list_all is_kept cs) (Ok x) (Err Syntax))
    by_first true k rec = tells_later 1 (Unkept (c ∷ cs)) (Unkept cs) (cond (list_all is_kept cs) (Ok x) (Err Syntax)) (λ at cause w. later at cause k w) earlier rec
    by_first false k rec = tells_err {X = X} (Unkept (c ∷ cs)) (Err Syntax) 0 Syntax refl (record { front = []; control = c; behind = cs; whole = refl; place = refl; unkept = k }, refl)
        (λ at cause w. first_of_two 0 at Syntax cause (omega arith) (subst (λ d. 18 ≤ cause_number d) (sym w.1) (omega arith)))

spaces_kept : (rest : List ℕ) → list_all is_kept (skip rest) ≡ list_all is_kept rest
spaces_kept [] = refl
spaces_kept (c ∷ cs) = by_space (c == 32) refl (spaces_kept cs)
  where
    by_space : (b : Bool) → c == 32 ≡ b → list_all is_kept (skip cs) ≡ list_all is_kept cs → list_all is_kept (cond b (skip cs) (c ∷ cs)) ≡ list_all is_kept (c ∷ cs)
    by_space true e rec = rec ∙ ap (λ (x : ℕ). is_kept x && list_all is_kept cs) (sym (same c 32 e))
    by_space false e rec = refl

-- ---- the next part

pub no_comment : (fresh : Bool) (rest : List ℕ) → begins 35 (skip rest) && (fresh || begins 32 rest) ≡ false → HasComment fresh rest → ⊥
no_comment fresh rest e w = never (begins 35 (skip rest) && (fresh || begins 32 rest)) (rw (w.0, w.1) refl) e

comment_tells : {X : Type 0} (fresh : Bool) (rest : List ℕ) (x : X) → HasComment fresh rest → Tells {X = X} (NextFault fresh rest) (cond (list_all is_kept (skip rest)) (Ok x) (Err Syntax))
comment_tells {X = X} fresh rest x has =
    tells_same (NextFault fresh rest) (Unkept rest) (cond (list_all is_kept (skip rest)) (Ok x) (Err Syntax)) down (λ at cause w. up at cause w)
    (subst (λ b. Tells {X = X} (Unkept rest) (cond b (Ok x) (Err Syntax))) (sym (spaces_kept rest)) (kept_tells rest x))
  where
    down : (at : ℕ) (cause : YamlCause) → NextFault fresh rest at cause → Unkept rest at cause
    down at cause (in_comment h p w) = (w, refl)

    up : (at : ℕ) (cause : YamlCause) → Unkept rest at cause → NextFault fresh rest at cause
    up at cause (w, e) = subst (λ d. NextFault fresh rest at d) (sym e) (in_comment has at w)

none_between : (fresh : Bool) (rest : List ℕ) → (HasComment fresh rest → ⊥) → (at : ℕ) (cause : YamlCause) → NextFault fresh rest at cause → ⊥
none_between fresh rest none at cause (in_comment h p w) = none h

pub next_is_told : (fresh : Bool) (rest : List ℕ) → Tells (NextFault fresh rest) (next_part fresh rest)
unfolding next_part
next_is_told fresh rest =
    tells_if (NextFault fresh rest) (begins 35 (skip rest) && (fresh || begins 32 rest)) (cond (list_all is_kept (skip rest)) (Ok []) (Err Syntax)) (Ok (skip rest))
    (λ h. comment_tells fresh rest [] (and_parts (begins 35 (skip rest)) (fresh || begins 32 rest) h))
    (λ h. none_between fresh rest (no_comment fresh rest h))

-- ---- the line's end

begins_one : (a b : ℕ) (rest : List ℕ) → begins a rest ≡ true → begins b rest ≡ true → a ≡ b
begins_one a b [] h k = absurd cc
begins_one a b (x ∷ xs) h k = sym (same x a h) ∙ same x b k

commented : (rest : List ℕ) → HasComment false rest → Tells {X = Unit {0}} (LineEndFault rest) (cond (list_all is_kept (skip rest)) (Ok tt) (Err Syntax))
commented rest has =
    tells_same (LineEndFault rest) (NextFault false rest) (cond (list_all is_kept (skip rest)) (Ok tt) (Err Syntax)) down (λ at cause w. end_comment at cause w)
    (comment_tells false rest tt has)
  where
    down : (at : ℕ) (cause : YamlCause) → LineEndFault rest at cause → NextFault false rest at cause
    down at cause (end_comment p c w) = w
    down at cause (end_tab t) = absurd (let e : 9 ≡ 35 = begins_one 9 35 (skip rest) t has.0 in omega arith)
    down at cause (end_stray s none) = absurd (none has)

module _ (rest : List ℕ) (none : HasComment false rest → ⊥) where
  nothing_behind : is_empty (skip rest) ≡ true → (at : ℕ) (cause : YamlCause) → LineEndFault rest at cause → ⊥
  nothing_behind e at cause (end_comment p c w) = none_between false rest none p c w
  nothing_behind e at cause (end_tab t) = some (skip rest) e t
    where
      some : (xs : List ℕ) → is_empty xs ≡ true → begins 9 xs ≡ true → ⊥
      some [] h k = cc
      some (x ∷ xs) h k = cc
  nothing_behind e at cause (end_stray s n) = never (is_empty (skip rest)) e s

  stray_tab : (at : ℕ) (cause : YamlCause) → LineEndFault rest at cause → ComesFirst (behind_spaces rest) Tab at cause
  stray_tab at cause (end_comment p c w) = absurd (none_between false rest none p c w)
  stray_tab at cause (end_tab t) = inr (refl, omega arith)
  stray_tab at cause (end_stray s n) = inr (refl, omega arith)

  stray_other : begins 9 (skip rest) ≡ false → (at : ℕ) (cause : YamlCause) → LineEndFault rest at cause → ComesFirst (behind_spaces rest) Syntax at cause
  stray_other f at cause (end_comment p c w) = absurd (none_between false rest none p c w)
  stray_other f at cause (end_tab t) = never (begins 9 (skip rest)) t f
  stray_other f at cause (end_stray s n) = inr (refl, omega arith)

  stray_tells : is_empty (skip rest) ≡ false → (b : Bool) → begins 9 (skip rest) ≡ b → Tells {X = Unit {0}} (LineEndFault rest) (Err (cond b Tab Syntax))
  stray_tells s true t = tells_err {X = Unit {0}} (LineEndFault rest) (Err Tab) (behind_spaces rest) Tab refl (end_tab t) stray_tab
  stray_tells s false f = tells_err {X = Unit {0}} (LineEndFault rest) (Err Syntax) (behind_spaces rest) Syntax refl (end_stray s none) (stray_other f)

  uncommented : Tells {X = Unit {0}} (LineEndFault rest) (cond (is_empty (skip rest)) (Ok tt) (Err (stray (skip rest))))
  uncommented =
      tells_if (LineEndFault rest) (is_empty (skip rest)) (Ok tt) (Err (stray (skip rest)))
      (λ e. nothing_behind e)
      (λ s. stray_tells s (begins 9 (skip rest)) refl)

abbrev ended : List ℕ → Result (Unit {0}) YamlCause
ended next = cond (is_empty next) (Ok tt) (Err (stray next))

abbrev whole_or_not : Bool → Result (Unit {0}) YamlCause
whole_or_not b = cond b (Ok tt) (Err Syntax)

abbrev comment_or_not : Bool → Result (List ℕ) YamlCause
comment_or_not b = cond b (Ok []) (Err Syntax)

ends_is : (b : Bool) → (comment_or_not b >>= ended) ≡ whole_or_not b
ends_is true = refl
ends_is false = refl

pub line_end_is_told : (rest : List ℕ) → Tells (LineEndFault rest) (line_end rest)
unfolding line_end next_part
line_end_is_told rest = by_comment (begins 35 (skip rest) && (false || begins 32 rest)) refl
  where
    by_comment : (b : Bool) → begins 35 (skip rest) && (false || begins 32 rest) ≡ b
        → Tells {X = Unit {0}} (LineEndFault rest) (cond b (comment_or_not (list_all is_kept (skip rest))) (Ok (skip rest)) >>= ended)
    by_comment true h = subst (λ (q : Result (Unit {0}) YamlCause). Tells (LineEndFault rest) q) (sym (ends_is (list_all is_kept (skip rest)))) (commented rest (and_parts (begins 35 (skip rest)) (false || begins 32 rest) h))
    by_comment false h = uncommented rest (no_comment false rest h)
