-- A text in single quotes is read exactly where it is spelled with its quotes doubled.
use Rattle.std.proofs.Common.{◌≡◌, ◌⊎◌, inl, inr, ℕ, ◌==◌, Bool, true, false, cond, ◌&&◌, List, [], ◌∷◌, ◌++◌, Result, Ok, Err, refl, sym, ◌∙◌, ap, append_assoc}
use Rattle.std.proofs.lemmas.List.{append-nil}
use Rattle.std.specs.List.{list_all}
use Rattle.yaml_subset.specs.declared.fault.YamlCause.{YamlCause}
use Rattle.yaml_subset.specs.declared.fault.YamlCause.TheVariants.{Syntax}
use Rattle.yaml_subset.specs.Characters.{begins, is_kept}
use Rattle.yaml_subset.specs.Quoted.{single_from}
use Rattle.yaml_subset.specs.SingleQuoted.{doubled, IsSingleQuoted}
use Rattle.yaml_subset.proofs.LineValues.{same}

abbrev pub read_ok : List ℕ → List ℕ → Result (List ℕ × List ℕ) YamlCause
read_ok text after = Ok (text, after)

abbrev both : List ℕ → List ℕ → List ℕ × List ℕ
both text after = (text, after)

-- a text and what is behind it are read in one way
pub same_read : (text text' after after' : List ℕ) → read_ok text after ≡ read_ok text' after' → (text ≡ text') × (after ≡ after')
same_read text text' after after' h = let q : both text after ≡ both text' after' = cc in (ap (λ x. x.0) q, ap (λ x. x.1) q)

-- what is read from here on, where a quote was just read or not
abbrev Found : Bool → List ℕ → List ℕ → List ℕ → List ℕ → Type 0
Found false rest out text after = (t : List ℕ) × (text ≡ out ++ t) × IsSingleQuoted rest t after
Found true rest out text after = (t : List ℕ) × (text ≡ out ++ t)
    × (((t ≡ []) × (rest ≡ after) × (begins 39 after ≡ false)) ⊎ ((more t' : List ℕ) × (rest ≡ 39 ∷ more) × (t ≡ 39 ∷ t') × IsSingleQuoted more t' after))

closing : (c : ℕ) (cs out text after : List ℕ) → c ≡ 39 → Found true cs out text after → Found false (c ∷ cs) out text after
closing c cs out text after e (t, is, inl w) = (
  t,
  is,
  record {
    spelled = ap (λ (x : ℕ). x ∷ cs) e ∙ ap (λ xs. 39 ∷ xs) w.1 ∙ ap (λ us. doubled us ++ 39 ∷ after) (sym w.0);
    kept = ap (list_all is_kept) w.0;
    ended = w.2;
  },
)
closing c cs out text after e (t, is, inr w) = (
  t,
  is,
  record {
    spelled = ap (λ (x : ℕ). x ∷ cs) e ∙ ap (λ xs. 39 ∷ xs) w.2 ∙ ap (λ xs. 39 ∷ 39 ∷ xs) w.4.spelled ∙ ap (λ us. doubled us ++ 39 ∷ after) (sym w.3);
    kept = ap (list_all is_kept) w.3 ∙ w.4.kept;
    ended = w.4.ended;
  },
)

quote_more : (c : ℕ) (cs out text after : List ℕ) → c ≡ 39 → Found false cs (out ++ 39 ∷ []) text after → Found true (c ∷ cs) out text after
quote_more c cs out text after e (t, is, w) = (39 ∷ t, is ∙ append_assoc out (39 ∷ []) t, inr (cs, t, ap (λ (x : ℕ). x ∷ cs) e, refl, w))

kept_more : (c : ℕ) (cs out text after : List ℕ) → c == 39 ≡ false → is_kept c ≡ true → Found false cs (out ++ c ∷ []) text after → Found false (c ∷ cs) out text after
kept_more c cs out text after e k (t, is, w) = (
  c ∷ t,
  is ∙ append_assoc out (c ∷ []) t,
  record {
    spelled = ap (λ xs. c ∷ xs) w.spelled ∙ ap (λ b. cond b (39 ∷ 39 ∷ doubled t) (c ∷ doubled t) ++ 39 ∷ after) (sym e);
    kept = ap (λ b. b && list_all is_kept t) k ∙ w.kept;
    ended = w.ended;
  },
)

found : (rest : List ℕ) (seen : Bool) (out text after : List ℕ) → single_from seen out rest ≡ Ok (text, after) → Found seen rest out text after
unfolding single_from
found [] true out text after h =
    let e = same_read out text [] after h in
    ([], sym e.0 ∙ sym (append-nil out), inl (refl, e.1, ap (begins 39) (sym e.1)))
found [] false out text after h = absurd cc
found (c ∷ cs) true out text after h = by_test (c == 39) refl h (found cs false (out ++ 39 ∷ []) text after)
  where
    by_test : (b : Bool) → c == 39 ≡ b → cond b (single_from false (out ++ 39 ∷ []) cs) (read_ok out (c ∷ cs)) ≡ read_ok text after
        → (single_from false (out ++ 39 ∷ []) cs ≡ Ok (text, after) → Found false cs (out ++ 39 ∷ []) text after) → Found true (c ∷ cs) out text after
    by_test true e g rec = quote_more c cs out text after (same c 39 e) (rec g)
    by_test false e g rec =
        let w = same_read out text (c ∷ cs) after g in
        ([], sym w.0 ∙ sym (append-nil out), inl (refl, w.1, ap (begins 39) (sym w.1) ∙ e))
found (c ∷ cs) false out text after h = by_tests (c == 39) (is_kept c) refl refl h (found cs true out text after) (found cs false (out ++ c ∷ []) text after)
  where
    by_tests : (b k : Bool) → c == 39 ≡ b → is_kept c ≡ k → cond b (single_from true out cs) (cond k (single_from false (out ++ c ∷ []) cs) (Err Syntax)) ≡ read_ok text after
        → (single_from true out cs ≡ Ok (text, after) → Found true cs out text after) → (single_from false (out ++ c ∷ []) cs ≡ Ok (text, after) → Found false cs (out ++ c ∷ []) text after)
        → Found false (c ∷ cs) out text after
    by_tests true k e f g rec rec' = closing c cs out text after (same c 39 e) (rec g)
    by_tests false true e f g rec rec' = kept_more c cs out text after e f (rec' g)
    by_tests false false e f g rec rec' = absurd cc

pub single_found : (rest text after : List ℕ) → single_from false [] rest ≡ Ok (text, after) → IsSingleQuoted rest text after
single_found rest text after h = of_found (found rest false [] text after h)
  where
    of_found : Found false rest [] text after → IsSingleQuoted rest text after
    of_found (t, is, w) = record { spelled = w.spelled ∙ ap (λ us. doubled us ++ 39 ∷ after) (sym is); kept = ap (list_all is_kept) is ∙ w.kept; ended = w.ended }

closes : (out after : List ℕ) → begins 39 after ≡ false → single_from true out after ≡ Ok (out, after)
unfolding single_from
closes out [] h = refl
closes out (c ∷ cs) h = rw h refl

and_left : (a b : Bool) → a && b ≡ true → a ≡ true
and_left true b h = refl
and_left false b h = h

and_right : (a b : Bool) → a && b ≡ true → b ≡ true
and_right true b h = h
and_right false b h = absurd cc

read : (text out after : List ℕ) → list_all is_kept text ≡ true → begins 39 after ≡ false → single_from false out (doubled text ++ 39 ∷ after) ≡ Ok (out ++ text, after)
unfolding single_from
read [] out after k e = closes out after e ∙ ap (λ us. Ok (us, after)) (sym (append-nil out))
read (c ∷ cs) out after k e = by_test (c == 39) refl (λ us. read cs us after (and_right (is_kept c) (list_all is_kept cs) k) e)
  where
    by_test : (b : Bool) → c == 39 ≡ b → ((us : List ℕ) → single_from false us (doubled cs ++ 39 ∷ after) ≡ Ok (us ++ cs, after))
        → single_from false out (cond b (39 ∷ 39 ∷ doubled cs) (c ∷ doubled cs) ++ 39 ∷ after) ≡ Ok (out ++ c ∷ cs, after)
    by_test true f rec = rec (out ++ 39 ∷ []) ∙ ap (λ us. Ok (us, after)) (append_assoc out (39 ∷ []) cs ∙ ap (λ (x : ℕ). out ++ x ∷ cs) (sym (same c 39 f)))
    by_test false f rec = rw (f, and_left (is_kept c) (list_all is_kept cs) k) (rec (out ++ c ∷ []) ∙ ap (λ us. Ok (us, after)) (append_assoc out (c ∷ []) cs))

pub single_read : (rest text after : List ℕ) → IsSingleQuoted rest text after → single_from false [] rest ≡ Ok (text, after)
single_read rest text after w = ap (single_from false []) w.spelled ∙ read text [] after w.kept w.ended
