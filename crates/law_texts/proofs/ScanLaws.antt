-- Scalars are read as they are written.
use Rattle.std.proofs.Common.{◌≡◌, ℕ, ◌==◌, Bool, true, false, cond, not, ◌||◌, ◌&&◌, List, [], ◌∷◌, drop, Option, Some, None, Result, Ok, refl, sym, ◌∙◌, ap, arith}
use Rattle.std.specs.Prelude.{length, take, ◌-◌}
use Rattle.std.proofs.lemmas.Bool.Decides.{nat_tests}
use Rattle.yaml_subset.specs.declared.fault.YamlForm.{YamlForm}
use Rattle.yaml_subset.specs.declared.fault.YamlForm.TheVariants.{Anchor, Alias, Tag, BlockScalar, ComplexKey, LongFlow}
use Rattle.yaml_subset.specs.declared.fault.YamlCause.{YamlCause}
use Rattle.yaml_subset.specs.declared.fault.YamlCause.TheVariants.{Tab, LeftOut, Syntax}
use Rattle.yaml_subset.specs.declared.quoted.Escape.TheVariants.{Outside}
use Rattle.yaml_subset.specs.declared.scalars.Scanned.{Scanned}
use Rattle.yaml_subset.specs.Characters.{is_empty, begins, at_gap, is_control, left_out}
use Rattle.yaml_subset.specs.Plain.{is_flow, is_reserved, start_fault, plain_fault, plain_from}
use Rattle.yaml_subset.specs.Quoted.{single_from, double_from}
use Rattle.yaml_subset.specs.ScalarFaults.{is_indicator, is_lone_mark}
use Rattle.yaml_subset.specs.Scalars.{plain_scalar, unless_fault, as_quoted, scan}
use Rattle.yaml_subset.specs.Gives.{◌>>=◌}
use Rattle.yaml_subset.proofs.DoubleQuotes.{double_found, double_read}
use Rattle.yaml_subset.proofs.LineValues.{bind_ok, same}
use Rattle.yaml_subset.proofs.PlainLaws.{plain_found, plain_read}
use Rattle.yaml_subset.proofs.QuoteLaws.{single_found, single_read}
use Rattle.law_texts.specs.Scalars.{may_begin, begins_plain, IsScanned, double_quoted, single_quoted, plain}

-- ---- tests

or_neither : (a b : Bool) → a || b ≡ false → (a ≡ false) × (b ≡ false)
or_neither true b h = absurd cc
or_neither false b h = (refl, h)

not_true : (b : Bool) → not b ≡ true → b ≡ false
not_true true h = absurd cc
not_true false h = refl

and_false : (b : Bool) → b && false ≡ false
and_false true = refl
and_false false = refl

lone_parts : (a b d g : Bool) → (a || b || d) && g ≡ false → (b && g ≡ false) × ((a || d) && g ≡ false)
lone_parts true b d true h = absurd cc
lone_parts false true d true h = absurd cc
lone_parts false false true true h = absurd cc
lone_parts false false false true h = (refl, refl)
lone_parts a b d false h = (and_false b, and_false (a || d))

lone_whole : (a b d g : Bool) → b && g ≡ false → (a || d) && g ≡ false → (a || b || d) && g ≡ false
lone_whole true b d true h k = absurd cc
lone_whole false true d true h k = absurd cc
lone_whole false false true true h k = absurd cc
lone_whole false false false true h k = refl
lone_whole a b d false h k = and_false (a || b || d)

-- ---- where a plain scalar begins

abbrev form : YamlForm → Option YamlForm
form f = Some f

abbrev wrong : YamlCause → Option YamlCause
wrong c = Some c

left_none : (c : ℕ) (cs : List ℕ) → is_indicator c ≡ false → c == 63 && at_gap cs ≡ false → left_out (c ∷ cs) ≡ None
left_none c cs i q =
    let a = or_neither (c == 38 || c == 42 || c == 33 || c == 124) (c == 62) i in
    let b = or_neither (c == 38 || c == 42 || c == 33) (c == 124) a.0 in
    let d = or_neither (c == 38 || c == 42) (c == 33) b.0 in
    let e = or_neither (c == 38) (c == 42) d.0 in
    rw (e.0, e.1, d.1, b.1, a.1, q) refl

left_tests : (c : ℕ) (cs : List ℕ) → left_out (c ∷ cs) ≡ None → (is_indicator c ≡ false) × (c == 63 && at_gap cs ≡ false)
left_tests c cs h = by (c == 38) (c == 42) (c == 33) (c == 124) (c == 62) (c == 63 && at_gap cs) h
  where
    by : (a b d e f q : Bool) → cond a (form Anchor) (cond b (form Alias) (cond d (form Tag) (cond (e || f) (form BlockScalar) (cond q (form ComplexKey) None)))) ≡ None
        → (a || b || d || e || f ≡ false) × (q ≡ false)
    by true b d e f q h = absurd cc
    by false true d e f q h = absurd cc
    by false false true e f q h = absurd cc
    by false false false true f q h = absurd cc
    by false false false false true q h = absurd cc
    by false false false false false true h = absurd cc
    by false false false false false false h = (refl, refl)

no_tab : (c : ℕ) → is_control c ≡ false → c == 9 ≡ false
no_tab c h = grind (arith, nat_tests)

start_none : (flow : Bool) (c : ℕ) (cs : List ℕ) → is_control c || is_flow c || is_reserved c ≡ false → (c == 45 || c == 58) && at_gap cs ≡ false → start_fault flow c cs None ≡ None
start_none flow c cs b g =
    let k = or_neither (is_control c || is_flow c) (is_reserved c) b in
    let t = no_tab c (or_neither (is_control c) (is_flow c) k.0).0 in
    by_tests (c == 9) (is_control c || is_flow c || is_reserved c) ((c == 45 || c == 58) && at_gap cs) t b g
  where
    by_tests : (t b g : Bool) → t ≡ false → b ≡ false → g ≡ false → cond t (wrong Tab) (cond b (wrong Syntax) (cond g (wrong (cond (flow && is_empty cs) (LeftOut LongFlow) Syntax)) None)) ≡ None
    by_tests true b g e f h = absurd cc
    by_tests false true g e f h = absurd cc
    by_tests false false true e f h = absurd cc
    by_tests false false false e f h = refl

start_tests : (flow : Bool) (c : ℕ) (cs : List ℕ) → start_fault flow c cs None ≡ None → (is_control c || is_flow c || is_reserved c ≡ false) × ((c == 45 || c == 58) && at_gap cs ≡ false)
start_tests flow c cs h = by_tests (c == 9) (is_control c || is_flow c || is_reserved c) ((c == 45 || c == 58) && at_gap cs) h
  where
    by_tests : (t b g : Bool) → cond t (wrong Tab) (cond b (wrong Syntax) (cond g (wrong (cond (flow && is_empty cs) (LeftOut LongFlow) Syntax)) None)) ≡ None → (b ≡ false) × (g ≡ false)
    by_tests true b g h = absurd cc
    by_tests false true g h = absurd cc
    by_tests false false true h = absurd cc
    by_tests false false false h = (refl, refl)

plain_none : (flow : Bool) (rest : List ℕ) → begins_plain rest ≡ true → plain_fault flow rest ≡ None
plain_none flow [] h = absurd cc
plain_none flow (c ∷ cs) h =
    let f = not_true (is_control c || is_flow c || is_reserved c || is_indicator c || is_lone_mark c cs) h in
    let p = or_neither (is_control c || is_flow c || is_reserved c || is_indicator c) (is_lone_mark c cs) f in
    let q = or_neither (is_control c || is_flow c || is_reserved c) (is_indicator c) p.0 in
    let l = lone_parts (c == 45) (c == 63) (c == 58) (at_gap cs) p.1 in
    ap (start_fault flow c cs) (left_none c cs q.1 l.0) ∙ start_none flow c cs q.0 l.1

none_plain : (flow : Bool) (rest : List ℕ) → plain_fault flow rest ≡ None → begins_plain rest ≡ true
none_plain flow [] h = absurd cc
none_plain flow (c ∷ cs) h = by_form (left_out (c ∷ cs)) refl h
  where
    by_form : (f : Option YamlForm) → left_out (c ∷ cs) ≡ f → start_fault flow c cs f ≡ None → may_begin c cs ≡ true
    by_form (Some f) e h = absurd cc
    by_form None e h =
        let i = left_tests c cs e in
        let s = start_tests flow c cs h in
        let l : is_lone_mark c cs ≡ false = lone_whole (c == 45) (c == 63) (c == 58) (at_gap cs) i.1 s.1 in
        all_false (is_control c || is_flow c || is_reserved c) (is_indicator c) (is_lone_mark c cs) s.0 i.0 l
      where
        all_false : (a b d : Bool) → a ≡ false → b ≡ false → d ≡ false → not (a || b || d) ≡ true
        all_false true b d h k l = absurd cc
        all_false false true d h k l = absurd cc
        all_false false false true h k l = absurd cc
        all_false false false false h k l = refl

no_quotes : (rest : List ℕ) → begins_plain rest ≡ true → (begins 34 rest ≡ false) × (begins 39 rest ≡ false)
no_quotes [] h = absurd cc
no_quotes (c ∷ cs) h =
    let f = not_true (is_control c || is_flow c || is_reserved c || is_indicator c || is_lone_mark c cs) h in
    let p = or_neither (is_control c || is_flow c || is_reserved c || is_indicator c) (is_lone_mark c cs) f in
    let q = or_neither (is_control c || is_flow c || is_reserved c) (is_indicator c) p.0 in
    let r = or_neither (is_control c || is_flow c) (is_reserved c) q.0 in
    let a = or_neither (c == 35 || c == 39 || c == 34 || c == 37 || c == 64) (c == 96) r.1 in
    let b = or_neither (c == 35 || c == 39 || c == 34 || c == 37) (c == 64) a.0 in
    let d = or_neither (c == 35 || c == 39 || c == 34) (c == 37) b.0 in
    let e = or_neither (c == 35 || c == 39) (c == 34) d.0 in
    (e.1, (or_neither (c == 35) (c == 39) e.0).1)

-- ---- scalars

abbrev made : Scanned → List ℕ → Result (Scanned × List ℕ) YamlCause
made s after = Ok (s, after)

abbrev both : Scanned → List ℕ → Scanned × List ℕ
both s after = (s, after)

same_made : (s t : Scanned) (after behind : List ℕ) → made s after ≡ made t behind → (s ≡ t) × (after ≡ behind)
same_made s t after behind h = let q : both s after ≡ both t behind = cc in (ap (λ (x : Scanned × List ℕ). x.0) q, ap (λ (x : Scanned × List ℕ). x.1) q)

with_plain : (s : Scanned) (b : Bool) → s.plain ≡ b → record { plain = b; text = s.text } ≡ s
with_plain s b e = ap (λ (p : Bool). record { plain = p; text = s.text }) (sym e)

at_character : (c : ℕ) (rest : List ℕ) → begins c rest ≡ true → rest ≡ c ∷ drop 1 rest
at_character c [] h = absurd cc
at_character c (x ∷ xs) h = ap (λ (y : ℕ). y ∷ xs) (same x c h)

plain_is : (flow : Bool) (rest : List ℕ) (s : Scanned) (after : List ℕ) → plain_scalar flow rest ≡ Ok (s, after) → s.plain ≡ true
unfolding plain_scalar
plain_is flow rest s after h =
    let b = bind_ok (plain_from flow rest rest) (λ span. made (record { plain = true; text = take (length rest - length span.0) rest }) span.1) (s, after) h in
    sym (ap (λ (t : Scanned). t.plain) (same_made (record { plain = true; text = take (length rest - length b.0.0) rest }) s b.0.1 after b.2).0)

pub scan_found : (flow : Bool) (rest : List ℕ) (s : Scanned) (after : List ℕ) → scan flow rest ≡ Ok (s, after) → IsScanned flow rest s after
unfolding scan
scan_found flow rest s after h = by_quotes (begins 34 rest) (begins 39 rest) refl refl h
  where
    double : Result (Scanned × List ℕ) YamlCause
    double = double_from Outside [] (drop 1 rest) >>= λ quote. Ok (as_quoted quote)

    single : Result (Scanned × List ℕ) YamlCause
    single = single_from false [] (drop 1 rest) >>= λ quote. Ok (as_quoted quote)

    in_double : begins 34 rest ≡ true → double ≡ made s after → IsScanned flow rest s after
    in_double e h =
        let b = bind_ok (double_from Outside [] (drop 1 rest)) (λ quote. made (as_quoted quote).0 (as_quoted quote).1) (s, after) h in
        let m = same_made (record { plain = false; text = b.0.0 }) s b.0.1 after b.2 in
        let t : b.0.0 ≡ s.text = ap (λ (x : Scanned). x.text) m.0 in
        let found = double_found (drop 1 rest) b.0.0 b.0.1 b.1 in
        double_quoted (drop 1 rest) (at_character 34 rest e) (sym (ap (λ (x : Scanned). x.plain) m.0)) (rw (t, m.1) at found)

    in_single : begins 39 rest ≡ true → single ≡ made s after → IsScanned flow rest s after
    in_single e h =
        let b = bind_ok (single_from false [] (drop 1 rest)) (λ quote. made (as_quoted quote).0 (as_quoted quote).1) (s, after) h in
        let m = same_made (record { plain = false; text = b.0.0 }) s b.0.1 after b.2 in
        let t : b.0.0 ≡ s.text = ap (λ (x : Scanned). x.text) m.0 in
        let found = single_found (drop 1 rest) b.0.0 b.0.1 b.1 in
        single_quoted (drop 1 rest) (at_character 39 rest e) (sym (ap (λ (x : Scanned). x.plain) m.0)) (rw (t, m.1) at found)

    in_plain : (f : Option YamlCause) → plain_fault flow rest ≡ f → unless_fault f (plain_scalar flow rest) ≡ made s after → IsScanned flow rest s after
    in_plain (Some c) e h = absurd cc
    in_plain None e h =
        let p = plain_is flow rest s after h in
        plain (none_plain flow rest e) p (plain_found flow rest s.text after (h ∙ ap (λ (t : Scanned). made t after) (sym (with_plain s true p))))

    by_quotes : (d q : Bool) → begins 34 rest ≡ d → begins 39 rest ≡ q → cond d double (cond q single (unless_fault (plain_fault flow rest) (plain_scalar flow rest))) ≡ made s after → IsScanned flow rest s after
    by_quotes true q e f h = in_double e h
    by_quotes false true e f h = in_single f h
    by_quotes false false e f h = in_plain (plain_fault flow rest) refl h

double_is : (flow : Bool) (inside text after : List ℕ) → double_from Outside [] inside ≡ Ok (text, after) → scan flow (34 ∷ inside) ≡ made (record { plain = false; text = text }) after
unfolding scan
double_is flow inside text after h = rw h refl

single_is : (flow : Bool) (inside text after : List ℕ) → single_from false [] inside ≡ Ok (text, after) → scan flow (39 ∷ inside) ≡ made (record { plain = false; text = text }) after
unfolding scan
single_is flow inside text after h = rw h refl

plain_scan : (flow : Bool) (rest text after : List ℕ) → begins_plain rest ≡ true → plain_scalar flow rest ≡ made (record { plain = true; text = text }) after → scan flow rest ≡ made (record { plain = true; text = text }) after
unfolding scan
plain_scan flow rest text after b h =
    let n = no_quotes rest b in
    let f = plain_none flow rest b in
    rw (n.0, n.1, f) h

pub scan_read : (flow : Bool) (rest : List ℕ) (s : Scanned) (after : List ℕ) → IsScanned flow rest s after → scan flow rest ≡ Ok (s, after)
scan_read flow rest s after (double_quoted inside e p q) =
    ap (scan flow) e ∙ double_is flow inside s.text after (double_read inside s.text after q) ∙ ap (λ (t : Scanned). made t after) (with_plain s false p)
scan_read flow rest s after (single_quoted inside e p q) =
    ap (scan flow) e ∙ single_is flow inside s.text after (single_read inside s.text after q) ∙ ap (λ (t : Scanned). made t after) (with_plain s false p)
scan_read flow rest s after (plain b p q) = plain_scan flow rest s.text after b (plain_read flow rest s.text after q) ∙ ap (λ (t : Scanned). made t after) (with_plain s true p)
