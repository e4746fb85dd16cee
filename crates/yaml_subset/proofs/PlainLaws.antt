-- A plain scalar is read up to the first place where one ends, without the spaces before it.
use Rattle.std.proofs.Common.{◌≡◌, ◌⊎◌, inl, inr, ℕ, ◌-◌, ◌==◌, Bool, true, false, cond, not, ◌&&◌, List, [], ◌∷◌, ◌++◌, length, length-append, take, Result, Ok, Err, refl, sym, ◌∙◌, ap, subst, arith, append_assoc}
use Rattle.std.proofs.lemmas.Bool.Decides.{nat_tests}
use Rattle.std.specs.List.{list_all}
use Rattle.yaml_subset.specs.declared.fault.YamlCause.{YamlCause}
use Rattle.yaml_subset.specs.declared.fault.YamlCause.TheVariants.{Tab, Syntax}
use Rattle.yaml_subset.specs.declared.scalars.Scanned.{Scanned}
use Rattle.yaml_subset.specs.Characters.{is_empty, is_control}
use Rattle.yaml_subset.specs.Plain.{plain_ends, plain_from}
use Rattle.yaml_subset.specs.Scalars.{plain_scalar}
use Rattle.yaml_subset.specs.PlainText.{runs_on, stops, ends_in_space, IsPlain}
use Rattle.yaml_subset.proofs.LineValues.{bind_ok}

abbrev span_ok : List ℕ → List ℕ → Result (List ℕ × List ℕ) YamlCause
span_ok end after = Ok (end, after)

abbrev both : List ℕ → List ℕ → List ℕ × List ℕ
both end after = (end, after)

same_span : (end end' after after' : List ℕ) → span_ok end after ≡ span_ok end' after' → (end ≡ end') × (after ≡ after')
same_span end end' after after' h = let q : both end after ≡ both end' after' = cc in (ap (λ x. x.0) q, ap (λ x. x.1) q)

-- what the last character that is no space is followed by: `end`, or the spaces of this scalar
abbrev pub EndsAt : List ℕ → List ℕ → List ℕ → List ℕ → List ℕ → Type 0
EndsAt text spaces after end end' = ((text ≡ []) × (end' ≡ end)) ⊎ ((is_empty text ≡ false) × (end' ≡ spaces ++ after))

pub record Spans (flow : Bool) (end rest end' after : List ℕ) : Type 0 where
  pub text : List ℕ
  pub is : IsPlain flow rest text after
  pub last : EndsAt text is.spaces after end end'

none_spans : (flow : Bool) (end rest end' after : List ℕ) → stops flow rest ≡ true → span_ok end rest ≡ span_ok end' after → Spans flow end rest end' after
none_spans flow end rest end' after s h =
    let e = same_span end end' rest after h in
    record {
      text = [];
      is = record { spaces = []; spelled = e.1; blank = refl; trimmed = refl; runs = refl; ends = ap (stops flow) (sym e.1) ∙ s };
      last = inl (refl, sym e.0);
    }

runs_more : (flow : Bool) (c : ℕ) (cs front after : List ℕ) → cs ≡ front ++ after → plain_ends flow c cs ≡ false → is_control c ≡ false → runs_on flow front after ≡ true → runs_on flow (c ∷ front) after ≡ true
runs_more flow c cs front after e p k r = rw (ap (plain_ends flow c) (sym e) ∙ p, k) r

spans_more : (flow : Bool) (end : List ℕ) (c : ℕ) (cs end' after : List ℕ) → plain_ends flow c cs ≡ false → is_control c ≡ false → (b : Bool) → c == 32 ≡ b → Spans flow (cond b end cs) cs end' after → Spans flow end (c ∷ cs) end' after
spans_more flow end c cs end' after p k b e s = by_cases b e s.last
  where
    longer : ends_in_space (c ∷ s.text) ≡ false → is_empty s.text ≡ false → end' ≡ s.is.spaces ++ after → Spans flow end (c ∷ cs) end' after
    longer trimmed some last = record {
      text = c ∷ s.text;
      is = record {
        spaces = s.is.spaces;
        spelled = ap (λ xs. c ∷ xs) s.is.spelled;
        blank = s.is.blank;
        trimmed = trimmed;
        runs = runs_more flow c cs (s.text ++ s.is.spaces) after s.is.spelled p k s.is.runs;
        ends = s.is.ends;
      };
      last = inr (refl, last);
    }

    only_spaces : s.text ≡ [] → cs ≡ s.is.spaces ++ after
    only_spaces t = s.is.spelled ∙ ap (λ xs. (xs ++ s.is.spaces) ++ after) t

    runs_spaces : s.text ≡ [] → runs_on flow (c ∷ s.is.spaces) after ≡ true
    runs_spaces t = runs_more flow c cs s.is.spaces after (only_spaces t) p k (ap (λ xs. runs_on flow (xs ++ s.is.spaces) after) (sym t) ∙ s.is.runs)

    some_trimmed : (xs : List ℕ) → ends_in_space xs ≡ false → is_empty xs ≡ false → ends_in_space (c ∷ xs) ≡ false
    some_trimmed [] h g = absurd cc
    some_trimmed (x ∷ xs) h g = h

    by_cases : (b : Bool) → c == 32 ≡ b → EndsAt s.text s.is.spaces after (cond b end cs) end' → Spans flow end (c ∷ cs) end' after
    by_cases true e (inl w) = record {
      text = [];
      is = record { spaces = c ∷ s.is.spaces; spelled = ap (λ xs. c ∷ xs) (only_spaces w.0); blank = rw e s.is.blank; trimmed = refl; runs = runs_spaces w.0; ends = s.is.ends };
      last = inl (refl, w.1);
    }
    by_cases false e (inl w) = record {
      text = c ∷ [];
      is = record { spaces = s.is.spaces; spelled = ap (λ xs. c ∷ xs) (only_spaces w.0); blank = s.is.blank; trimmed = e; runs = runs_spaces w.0; ends = s.is.ends };
      last = inr (refl, w.1 ∙ only_spaces w.0);
    }
    by_cases true e (inr w) = longer (some_trimmed s.text s.is.trimmed w.0) w.0 w.1
    by_cases false e (inr w) = longer (some_trimmed s.text s.is.trimmed w.0) w.0 w.1

pub plain_spans : (flow : Bool) (end rest end' after : List ℕ) → plain_from flow end rest ≡ Ok (end', after) → Spans flow end rest end' after
unfolding plain_from
plain_spans flow end [] end' after h = none_spans flow end [] end' after refl h
plain_spans flow end (c ∷ cs) end' after h = by_tests (plain_ends flow c cs) (c == 9) (is_control c) refl refl h (plain_spans flow (cond (c == 32) end cs) cs end' after)
  where
    by_tests : (p t k : Bool) → plain_ends flow c cs ≡ p → is_control c ≡ k → cond p (span_ok end (c ∷ cs)) (cond t (Err Tab) (cond k (Err Syntax) (plain_from flow (cond (c == 32) end cs) cs))) ≡ span_ok end' after
        → (plain_from flow (cond (c == 32) end cs) cs ≡ Ok (end', after) → Spans flow (cond (c == 32) end cs) cs end' after) → Spans flow end (c ∷ cs) end' after
    by_tests true t k e f g rec = none_spans flow end (c ∷ cs) end' after e g
    by_tests false true k e f g rec = absurd cc
    by_tests false false true e f g rec = absurd cc
    by_tests false false false e f g rec = spans_more flow end c cs end' after e f (c == 32) refl (rec g)

take_front : (xs ys : List ℕ) → take (length xs) (xs ++ ys) ≡ xs
take_front [] ys = refl
take_front (x ∷ xs) ys = ap (λ us. x ∷ us) (take_front xs ys)

front_of : (rest text spaces after end : List ℕ) → rest ≡ text ++ (spaces ++ after) → EndsAt text spaces after rest end → take (length rest - length end) rest ≡ text
front_of rest text spaces after end s (inl w) =
    let l : length rest - length end ≡ 0 = let q : length end ≡ length rest = ap length w.1 in omega arith in
    ap (λ n. take n rest) l ∙ sym w.0
front_of rest text spaces after end s (inr w) =
    let q : length end ≡ length (spaces ++ after) = ap length w.1 in
    let r : length rest ≡ length (text ++ (spaces ++ after)) = ap length s in
    let l : length rest - length end ≡ length text = omega (arith, length-append text (spaces ++ after)) in
    ap (λ n. take n rest) l ∙ ap (take (length text)) s ∙ take_front text (spaces ++ after)

abbrev plain_ok : List ℕ → List ℕ → Result (Scanned × List ℕ) YamlCause
plain_ok text after = Ok (record { plain = true; text = text }, after)

abbrev plain_pair : List ℕ → List ℕ → Scanned × List ℕ
plain_pair text after = (record { plain = true; text = text }, after)

same_plain : (text text' after after' : List ℕ) → plain_ok text after ≡ plain_ok text' after' → (text ≡ text') × (after ≡ after')
same_plain text text' after after' h = let q : plain_pair text after ≡ plain_pair text' after' = cc in (ap (λ (x : Scanned × List ℕ). x.0.text) q, ap (λ x. x.1) q)

pub plain_found : (flow : Bool) (rest text after : List ℕ) → plain_scalar flow rest ≡ Ok (record { plain = true; text = text }, after) → IsPlain flow rest text after
unfolding plain_scalar
plain_found flow rest text after h =
    let b = bind_ok (plain_from flow rest rest) (λ span. plain_ok (take (length rest - length span.0) rest) span.1) (plain_pair text after) h in
    let e = same_plain (take (length rest - length b.0.0) rest) text b.0.1 after b.2 in
    let s = plain_spans flow rest rest b.0.0 b.0.1 b.1 in
    let t : s.text ≡ text = sym (front_of rest s.text s.is.spaces b.0.1 b.0.0 (s.is.spelled ∙ append_assoc s.text s.is.spaces b.0.1) s.last) ∙ e.0 in
    subst (λ xs. IsPlain flow rest text xs) e.1 (subst (λ us. IsPlain flow rest us b.0.1) t s.is)

not_parts : (p k r : Bool) → not p && not k && r ≡ true → (p ≡ false) × (k ≡ false) × (r ≡ true)
not_parts true k r h = absurd cc
not_parts false true r h = absurd cc
not_parts false false r h = (refl, refl, h)

no_tab : (c : ℕ) → is_control c ≡ false → c == 9 ≡ false
no_tab c h = grind (arith, nat_tests)

and_parts : (a b : Bool) → a && b ≡ true → (a ≡ true) × (b ≡ true)
and_parts true b h = (refl, h)
and_parts false b h = absurd cc

ends_here : (flow : Bool) (end after : List ℕ) → stops flow after ≡ true → plain_from flow end after ≡ Ok (end, after)
unfolding plain_from
ends_here flow end [] h = refl
ends_here flow end (c ∷ cs) h = rw h refl

goes_on : (flow : Bool) (end : List ℕ) (c : ℕ) (cs after : List ℕ) → runs_on flow (c ∷ cs) after ≡ true → plain_from flow end (c ∷ cs ++ after) ≡ plain_from flow (cond (c == 32) end (cs ++ after)) (cs ++ after)
unfolding plain_from
goes_on flow end c cs after h =
    let n = not_parts (plain_ends flow c (cs ++ after)) (is_control c) (runs_on flow cs after) h in
    rw (n.0, no_tab c n.1, n.1) refl

runs_later : (flow : Bool) (c : ℕ) (cs after : List ℕ) → runs_on flow (c ∷ cs) after ≡ true → runs_on flow cs after ≡ true
runs_later flow c cs after h = let n = not_parts (plain_ends flow c (cs ++ after)) (is_control c) (runs_on flow cs after) h in n.2

spaces_read : (flow : Bool) (spaces end after : List ℕ) → list_all (λ c. c == 32) spaces ≡ true → runs_on flow spaces after ≡ true → stops flow after ≡ true → plain_from flow end (spaces ++ after) ≡ Ok (end, after)
spaces_read flow [] end after b r s = ends_here flow end after s
spaces_read flow (c ∷ cs) end after b r s =
    let a = and_parts (c == 32) (list_all (λ c. c == 32) cs) b in
    goes_on flow end c cs after r ∙ ap (λ k. plain_from flow (cond k end (cs ++ after)) (cs ++ after)) a.0 ∙ spaces_read flow cs end after a.1 (runs_later flow c cs after r) s

text_read : (flow : Bool) (c : ℕ) (cs spaces end after : List ℕ) → ends_in_space (c ∷ cs) ≡ false → list_all (λ c. c == 32) spaces ≡ true → runs_on flow ((c ∷ cs) ++ spaces) after ≡ true → stops flow after ≡ true
    → plain_from flow end (((c ∷ cs) ++ spaces) ++ after) ≡ Ok (spaces ++ after, after)
text_read flow c [] spaces end after t b r s =
    goes_on flow end c spaces after r ∙ ap (λ k. plain_from flow (cond k end (spaces ++ after)) (spaces ++ after)) t ∙ spaces_read flow spaces (spaces ++ after) after b (runs_later flow c spaces after r) s
text_read flow c (d ∷ ds) spaces end after t b r s =
    goes_on flow end c ((d ∷ ds) ++ spaces) after r ∙ text_read flow d ds spaces (cond (c == 32) end (((d ∷ ds) ++ spaces) ++ after)) after t b (runs_later flow c ((d ∷ ds) ++ spaces) after r) s

scalar_is : (flow : Bool) (rest end after : List ℕ) → plain_from flow rest rest ≡ Ok (end, after) → plain_scalar flow rest ≡ plain_ok (take (length rest - length end) rest) after
unfolding plain_scalar
scalar_is flow rest end after h = rw h refl

pub plain_read : (flow : Bool) (rest text after : List ℕ) → IsPlain flow rest text after → plain_scalar flow rest ≡ Ok (record { plain = true; text = text }, after)
plain_read flow rest [] after w =
    let whole : rest ≡ w.spaces ++ after = w.spelled in
    let e : plain_from flow rest rest ≡ Ok (rest, after) = ap (plain_from flow rest) whole ∙ spaces_read flow w.spaces rest after w.blank w.runs w.ends in
    scalar_is flow rest rest after e ∙ ap (λ us. plain_ok us after) (front_of rest [] w.spaces after rest w.spelled (inl (refl, refl)))
plain_read flow rest (c ∷ cs) after w =
    let e : plain_from flow rest rest ≡ Ok (w.spaces ++ after, after) = ap (plain_from flow rest) w.spelled ∙ text_read flow c cs w.spaces rest after w.trimmed w.blank w.runs w.ends in
    scalar_is flow rest (w.spaces ++ after) after e ∙ ap (λ us. plain_ok us after) (front_of rest (c ∷ cs) w.spaces after (w.spaces ++ after) (w.spelled ∙ append_assoc (c ∷ cs) w.spaces after) (inr (refl, refl)))
