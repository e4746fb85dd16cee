-- The next part of a line is the one behind its spaces.
use Rattle.std.proofs.Common.{◌≡◌, ℕ, ◌==◌, Bool, true, false, cond, not, ◌||◌, ◌&&◌, List, [], ◌∷◌, ◌++◌, Result, Ok, Err, refl, sym, ◌∙◌, ap, subst}
use Rattle.std.specs.List.{list_all}
use Rattle.yaml_subset.specs.declared.fault.YamlCause.{YamlCause}
use Rattle.yaml_subset.specs.declared.fault.YamlCause.TheVariants.{Syntax}
use Rattle.yaml_subset.specs.Characters.{is_empty, begins, skip, is_kept, next_part, stray, line_end}
use Rattle.yaml_subset.proofs.LineValues.{bind_ok, same}
use Rattle.law_texts.specs.Parts.{are_spaces, may_comment, IsPart, behind_spaces, before_comment}

-- ---- spaces

record Skipped (rest : List ℕ) : Type 0 where
  pub spaces : List ℕ
  pub whole : rest ≡ spaces ++ skip rest
  pub blank : are_spaces spaces ≡ true
  pub ended : begins 32 (skip rest) ≡ false
  pub some : begins 32 rest ≡ not (is_empty spaces)

skipped : (rest : List ℕ) → Skipped rest
skipped [] = record { spaces = []; whole = refl; blank = refl; ended = refl; some = refl }
skipped (c ∷ cs) = by_space (c == 32) refl (skipped cs)
  where
    by_space : (b : Bool) → c == 32 ≡ b → Skipped cs → Skipped (c ∷ cs)
    by_space true e w = record {
      spaces = c ∷ w.spaces;
      whole = rw e (ap (λ xs. c ∷ xs) w.whole);
      blank = rw e w.blank;
      ended = rw e w.ended;
      some = e;
    }
    by_space false e w = record { spaces = []; whole = rw e refl; blank = refl; ended = rw e e; some = e }

and_parts : (a b : Bool) → a && b ≡ true → (a ≡ true) × (b ≡ true)
and_parts true b h = (refl, h)
and_parts false b h = absurd cc

skip_none : (part : List ℕ) → begins 32 part ≡ false → skip part ≡ part
skip_none [] h = refl
skip_none (c ∷ cs) h = rw h refl

skip_spaces : (spaces part : List ℕ) → are_spaces spaces ≡ true → begins 32 part ≡ false → skip (spaces ++ part) ≡ part
skip_spaces [] part b h = skip_none part h
skip_spaces (c ∷ cs) part b h = let a = and_parts (c == 32) (are_spaces cs) b in rw a.0 (skip_spaces cs part a.1 h)

some_spaces : (spaces part : List ℕ) → are_spaces spaces ≡ true → begins 32 part ≡ false → begins 32 (spaces ++ part) ≡ not (is_empty spaces)
some_spaces [] part b h = h
some_spaces (c ∷ cs) part b h = (and_parts (c == 32) (are_spaces cs) b).0

-- ---- the next part

abbrev given : List ℕ → Result (List ℕ) YamlCause
given part = Ok part

same_part : (a b : List ℕ) → given a ≡ given b → a ≡ b
same_part a b e = cc

at_comment : (xs : List ℕ) → begins 35 xs ≡ true → (comment : List ℕ) × (xs ≡ 35 ∷ comment)
at_comment [] h = absurd cc
at_comment (x ∷ xs) h = (xs, ap (λ (c : ℕ). c ∷ xs) (same x 35 h))

pub part_found : (fresh : Bool) (rest part : List ℕ) → next_part fresh rest ≡ Ok part → IsPart fresh rest part
unfolding next_part
part_found fresh rest part h = by_comment (begins 35 (skip rest) && (fresh || begins 32 rest)) refl h
  where
    w : Skipped rest
    w = skipped rest

    begun : (fresh || begins 32 rest) ≡ may_comment fresh w.spaces
    begun = ap (λ b. fresh || b) w.some

    in_comment : (xs : List ℕ) (comment : List ℕ) → xs ≡ 35 ∷ comment → list_all is_kept xs ≡ true → list_all is_kept comment ≡ true
    in_comment xs comment e k = ap (list_all is_kept) (sym e) ∙ k

    by_kept : begins 35 (skip rest) && (fresh || begins 32 rest) ≡ true → (k : Bool) → list_all is_kept (skip rest) ≡ k → cond k (given []) (Err Syntax) ≡ given part → IsPart fresh rest part
    by_kept c true k h =
        let a = and_parts (begins 35 (skip rest)) (fresh || begins 32 rest) c in
        let d = at_comment (skip rest) a.0 in
        before_comment w.spaces d.0 (w.whole ∙ ap (λ xs. w.spaces ++ xs) d.1) w.blank (sym begun ∙ a.1) (in_comment (skip rest) d.0 d.1 k) (sym (same_part [] part h))
    by_kept c false k h = absurd cc

    by_comment : (b : Bool) → begins 35 (skip rest) && (fresh || begins 32 rest) ≡ b → cond b (cond (list_all is_kept (skip rest)) (given []) (Err Syntax)) (given (skip rest)) ≡ given part → IsPart fresh rest part
    by_comment true c h = by_kept c (list_all is_kept (skip rest)) refl h
    by_comment false c h =
        subst (IsPart fresh rest) (same_part (skip rest) part h)
        (behind_spaces w.spaces w.whole w.blank w.ended (ap (λ b. begins 35 (skip rest) && b) (sym begun) ∙ c))

pub part_read : (fresh : Bool) (rest part : List ℕ) → IsPart fresh rest part → next_part fresh rest ≡ Ok part
unfolding next_part
part_read fresh rest part (behind_spaces spaces whole blank ended none) =
    let s : skip rest ≡ part = ap skip whole ∙ skip_spaces spaces part blank ended in
    let f : begins 32 rest ≡ not (is_empty spaces) = ap (begins 32) whole ∙ some_spaces spaces part blank ended in
    rw (s, f, none) refl
part_read fresh rest part (before_comment spaces comment whole blank may kept nothing) =
    let s : skip rest ≡ 35 ∷ comment = ap skip whole ∙ skip_spaces spaces (35 ∷ comment) blank refl in
    let f : begins 32 rest ≡ not (is_empty spaces) = ap (begins 32) whole ∙ some_spaces spaces (35 ∷ comment) blank refl in
    rw (s, f, may, kept, nothing) refl

-- ---- the line's end

abbrev ended : Result (Unit {0}) YamlCause
ended = Ok tt

pub end_found : (rest : List ℕ) → line_end rest ≡ Ok tt → IsPart false rest []
unfolding line_end
end_found rest h =
    let b = bind_ok (next_part false rest) (λ next. cond (is_empty next) ended (Err (stray next))) tt h in
    by_part b.0 b.1 b.2
  where
    by_part : (next : List ℕ) → next_part false rest ≡ Ok next → cond (is_empty next) ended (Err (stray next)) ≡ Ok tt → IsPart false rest []
    by_part [] e h = part_found false rest [] e
    by_part (c ∷ cs) e h = absurd cc

pub end_read : (rest : List ℕ) → IsPart false rest [] → line_end rest ≡ Ok tt
unfolding line_end
end_read rest w = rw (part_read false rest [] w) refl
