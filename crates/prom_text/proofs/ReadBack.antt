-- What is spelled is read back, piece by piece.
use Rattle.std.proofs.Common.{◌≡◌, ℕ, ◌-◌, ◌<◌, Bool, true, false, eqb, ltb, leb, ◌&&◌, ◌||◌, List, [], ◌∷◌, ◌++◌, length, codes, Option, Some, None, refl, sym, ap, ◌∙◌, subst, arith, append_assoc, true≢false}
use Rattle.std.specs.Char.{digit_value, is_ascii_digit}
use Rattle.std.specs.Fmt.{decimal}
use Rattle.std.specs.List.{AllByRecursion, flat_map, list_all}
use Rattle.std.specs.Str.{bytes_eq}
use Rattle.std.specs.Str.Parse.{AllDigits, digits_value}
use Rattle.std.proofs.lemmas.Bool.{eqb-true, ltb-true, ltb-false, le-leb}
use Rattle.std.proofs.lemmas.Fmt.{decimal_is_IsNumeral}
use Rattle.std.proofs.lemmas.List.{append-nil}
use Rattle.std.proofs.lemmas.Slice.Eq.{bytes_eq-Decides}
use Rattle.prom_text.specs.Samples.{Label, Metric, Sample, block_text, escaped, escaped_byte, label_text, labels_text, metric_text, sample_line, sample_text, type_line}
use Rattle.prom_text.specs.Reading.{IsMetric, IsSample, Place, Reader, Under, at_label, at_start, behind_label, behind_labels, begun, in_comment, in_label, in_name, in_number, in_value, is_blank, is_kind, is_label_name, is_metric_name, is_of_label, is_of_metric, read, read_byte, read_on, starts_label, starts_metric, step, with_label, with_last}

-- ---- tests

both : (a b : Bool) → a && b ≡ true → (a ≡ true) × (b ≡ true)
both true true e = (refl, refl)
both true false e = absurd (cc)
both false b e = absurd (cc)

-- a byte that passes a test isn't one that fails it
other : (P : ℕ → Bool) (k b : ℕ) → P b ≡ true → P k ≡ false → eqb b k ≡ false
other P k b is not_k = by (eqb b k) refl
  where
    by : (c : Bool) → eqb b k ≡ c → eqb b k ≡ false
    by false e = e
    by true e = (let same : P k ≡ true = ap P (sym (eqb-true b k e)) ∙ is in absurd (true≢false (sym same ∙ not_k)))

no_blank : (P : ℕ → Bool) (b : ℕ) → P b ≡ true → P 32 ≡ false → P 9 ≡ false → is_blank b ≡ false
no_blank P b is space tab =
    let s = other P 32 b is space in
    let t = other P 9 b is tab in
    rw (s, t) refl

-- ---- reading on

pub read_on-append : (r : Reader) (xs ys : List ℕ) → read_on r (xs ++ ys) ≡ read_on (read_on r xs) ys
read_on-append r [] ys = refl
read_on-append r (x ∷ xs) ys = read_on-append (read_byte r x) xs ys

-- one piece and then another
then_read : (r s t : Reader) (xs ys : List ℕ) → read_on r xs ≡ s → read_on s ys ≡ t → read_on r (xs ++ ys) ≡ t
then_read r s t xs ys p q = read_on-append r xs ys ∙ ap (λ u. read_on u ys) p ∙ q

module _ (before : List Metric) (last : Option Metric) where
  abbrev pub at : Place → Reader
  at place = record { before = before; last = last; place = place }

  one_byte : (place : Place) (b : ℕ) → eqb b 10 ≡ false → read_byte (at place) b ≡ at (step place b)
  one_byte place b e = rw e refl

  -- ---- words of comments

  word_byte : (words : List (List ℕ)) (word : List ℕ) (b : ℕ) → is_of_metric b ≡ true → read_byte (at (in_comment words word)) b ≡ at (in_comment words (word ++ b ∷ []))
  word_byte words word b is =
      let line = other is_of_metric 10 b is refl in
      let blank = no_blank is_of_metric b is refl refl in
      one_byte (in_comment words word) b line ∙ ap at (by_blank blank)
    where
      by_blank : is_blank b ≡ false → step (in_comment words word) b ≡ in_comment words (word ++ b ∷ [])
      by_blank e = rw e refl

  word_read : (words : List (List ℕ)) (word more : List ℕ) → list_all is_of_metric more ≡ true → read_on (at (in_comment words word)) more ≡ at (in_comment words (word ++ more))
  word_read words word [] e = ap (λ w. at (in_comment words w)) (sym (append-nil word))
  word_read words word (b ∷ more) e =
      let each = both _ _ e in
      ap (λ r. read_on r more) (word_byte words word b each.0) ∙ word_read words (word ++ b ∷ []) more each.1 ∙ ap (λ w. at (in_comment words w)) (append_assoc word (b ∷ []) more)

  -- ---- the name of a metric

  name_byte : (name : List ℕ) (b : ℕ) → is_of_metric b ≡ true → read_byte (at (in_name name)) b ≡ at (in_name (name ++ b ∷ []))
  name_byte name b is = one_byte (in_name name) b (other is_of_metric 10 b is refl) ∙ ap at (by_name is)
    where
      by_name : is_of_metric b ≡ true → step (in_name name) b ≡ in_name (name ++ b ∷ [])
      by_name e = rw e refl

  name_goes : (name more : List ℕ) → list_all is_of_metric more ≡ true → read_on (at (in_name name)) more ≡ at (in_name (name ++ more))
  name_goes name [] e = ap (λ w. at (in_name w)) (sym (append-nil name))
  name_goes name (b ∷ more) e =
      let each = both _ _ e in
      ap (λ r. read_on r more) (name_byte name b each.0) ∙ name_goes (name ++ b ∷ []) more each.1 ∙ ap (λ w. at (in_name w)) (append_assoc name (b ∷ []) more)

  name_begins : (b : ℕ) → starts_metric b ≡ true → read_byte (at at_start) b ≡ at (in_name (b ∷ []))
  name_begins b is = one_byte at_start b (other starts_metric 10 b is refl) ∙ ap at (by_start (other starts_metric 35 b is refl) is)
    where
      by_start : eqb b 35 ≡ false → starts_metric b ≡ true → step at_start b ≡ in_name (b ∷ [])
      by_start e f = rw (e, f) refl

  name_read : (name : List ℕ) → is_metric_name name ≡ true → read_on (at at_start) name ≡ at (in_name name)
  name_read [] e = absurd (cc)
  name_read (b ∷ more) e = let each = both _ _ e in ap (λ r. read_on r more) (name_begins b each.0) ∙ name_goes (b ∷ []) more each.1

  -- ---- labels

  label_byte : (u : Under) (name : List ℕ) (b : ℕ) → is_of_label b ≡ true → read_byte (at (in_label u name)) b ≡ at (in_label u (name ++ b ∷ []))
  label_byte u name b is = one_byte (in_label u name) b (other is_of_label 10 b is refl) ∙ ap at (by_label is)
    where
      by_label : is_of_label b ≡ true → step (in_label u name) b ≡ in_label u (name ++ b ∷ [])
      by_label e = rw e refl

  label_goes : (u : Under) (name more : List ℕ) → list_all is_of_label more ≡ true → read_on (at (in_label u name)) more ≡ at (in_label u (name ++ more))
  label_goes u name [] e = ap (λ w. at (in_label u w)) (sym (append-nil name))
  label_goes u name (b ∷ more) e =
      let each = both _ _ e in
      ap (λ r. read_on r more) (label_byte u name b each.0) ∙ label_goes u (name ++ b ∷ []) more each.1 ∙ ap (λ w. at (in_label u w)) (append_assoc name (b ∷ []) more)

  label_begins : (u : Under) (b : ℕ) → starts_label b ≡ true → read_byte (at (at_label u)) b ≡ at (in_label u (b ∷ []))
  label_begins u b is = one_byte (at_label u) b (other starts_label 10 b is refl) ∙ ap at (by_start is)
    where
      by_start : starts_label b ≡ true → step (at_label u) b ≡ in_label u (b ∷ [])
      by_start e = rw e refl

  label_name_read : (u : Under) (name : List ℕ) → is_label_name name ≡ true → read_on (at (at_label u)) name ≡ at (in_label u name)
  label_name_read u [] e = absurd (cc)
  label_name_read u (b ∷ more) e = let each = both _ _ e in ap (λ r. read_on r more) (label_begins u b each.0) ∙ label_goes u (b ∷ []) more each.1

  -- a byte of a value, escaped or not
  escape_read : (u : Under) (name value : List ℕ) (b : ℕ) → read_on (at (in_value u name value)) (escaped_byte b) ≡ at (in_value u name (value ++ b ∷ []))
  escape_read u name value b = by (eqb b 92) (eqb b 34) (eqb b 10) refl refl refl
    where
      as_it_is : (k : ℕ) → b ≡ k → read_on (at (in_value u name value)) (escaped_byte k) ≡ at (in_value u name (value ++ k ∷ [])) → read_on (at (in_value u name value)) (escaped_byte b) ≡ at (in_value u name (value ++ b ∷ []))
      as_it_is k e p = subst (λ n. read_on (at (in_value u name value)) (escaped_byte n) ≡ at (in_value u name (value ++ n ∷ []))) (sym e) p

      by : (c d f : Bool) → eqb b 92 ≡ c → eqb b 34 ≡ d → eqb b 10 ≡ f → read_on (at (in_value u name value)) (escaped_byte b) ≡ at (in_value u name (value ++ b ∷ []))
      by true d f x y z = as_it_is 92 (eqb-true b 92 x) refl
      by false true f x y z = as_it_is 34 (eqb-true b 34 y) refl
      by false false true x y z = as_it_is 10 (eqb-true b 10 z) refl
      by false false false x y z = rw (x, y, z) (rw (x, y, z) refl)

  value_read : (u : Under) (name value more : List ℕ) → read_on (at (in_value u name value)) (escaped more) ≡ at (in_value u name (value ++ more))
  value_read u name value [] = ap (λ w. at (in_value u name w)) (sym (append-nil value))
  value_read u name value (b ∷ more) =
      then_read (at (in_value u name value)) (at (in_value u name (value ++ b ∷ []))) (at (in_value u name (value ++ b ∷ more))) (escaped_byte b) (escaped more) (escape_read u name value b)
      (value_read u name (value ++ b ∷ []) more ∙ ap (λ w. at (in_value u name w)) (append_assoc value (b ∷ []) more))

  label_read : (u : Under) (l : Label) → is_label_name l.name ≡ true → read_on (at (at_label u)) (label_text l) ≡ at (behind_label (with_label u l.name l.value))
  unfolding label_text
  label_read u l is =
      let start = at (at_label u) in
      let equals = codes "=\"" in
      let opened : read_on start (l.name ++ equals) ≡ at (in_value u l.name []) = then_read start (at (in_label u l.name)) (at (in_value u l.name [])) l.name equals (label_name_read u l.name is) refl in
      let valued : read_on start (l.name ++ equals ++ escaped l.value) ≡ at (in_value u l.name l.value) =
      then_read start (at (in_value u l.name [])) (at (in_value u l.name l.value)) (l.name ++ equals) (escaped l.value) opened (value_read u l.name [] l.value) in
      then_read start (at (in_value u l.name l.value)) (at (behind_label (with_label u l.name l.value))) (l.name ++ equals ++ escaped l.value) (codes "\"") valued refl

  abbrev extended : Under → List Label → Under
  extended u labels = record u { labels = u.labels ++ labels }

  labels_read : (u : Under) (labels : List Label) → AllByRecursion (λ l. is_label_name l.name ≡ true) labels
      → read_on (at (at_label u)) (labels_text labels ++ codes "} ") ≡ at (behind_labels (extended u labels))
  labels_read u [] are = ap (λ (ls : List Label). at (behind_labels (record u { labels = ls }))) (sym (append-nil u.labels))
  labels_read u (l ∷ []) are = then_read (at (at_label u)) (at (behind_label (with_label u l.name l.value))) (at (behind_labels (with_label u l.name l.value))) (label_text l) (codes "} ") (label_read u l are.0) refl
  labels_read u (l ∷ m ∷ more) are =
      let next = with_label u l.name l.value in
      let rest = labels_text (m ∷ more) in
      let first : read_on (at (at_label u)) (label_text l ++ codes ",") ≡ at (at_label next) =
      then_read (at (at_label u)) (at (behind_label next)) (at (at_label next)) (label_text l) (codes ",") (label_read u l are.0) refl in
      ap (read_on (at (at_label u))) (append_assoc (label_text l ++ codes ",") rest (codes "} "))
      ∙ then_read (at (at_label u)) (at (at_label next)) (at (behind_labels (extended next (m ∷ more)))) (label_text l ++ codes ",") (rest ++ codes "} ") first (labels_read next (m ∷ more) are.1)
      ∙ ap (λ (ls : List Label). at (behind_labels (record u { labels = ls }))) (append_assoc u.labels (l ∷ []) (m ∷ more))

  -- ---- numbers

  digit_goes : (u : Under) (digits : List ℕ) (c : ℕ) → is_ascii_digit c ≡ true → read_byte (at (in_number u digits)) c ≡ at (in_number u (digits ++ c ∷ []))
  digit_goes u digits c is = one_byte (in_number u digits) c (other is_ascii_digit 10 c is refl) ∙ ap at (by_digit is)
    where
      by_digit : is_ascii_digit c ≡ true → step (in_number u digits) c ≡ in_number u (digits ++ c ∷ [])
      by_digit e = rw e refl

  digit_begins : (u : Under) (c : ℕ) → is_ascii_digit c ≡ true → read_byte (at (behind_labels u)) c ≡ at (in_number u (c ∷ []))
  digit_begins u c is = one_byte (behind_labels u) c (other is_ascii_digit 10 c is refl) ∙ ap at (by_digit is)
    where
      by_digit : is_ascii_digit c ≡ true → step (behind_labels u) c ≡ in_number u (c ∷ [])
      by_digit e = rw e refl

  by_test : {P : Type 0} (b : Bool) → (b ≡ true → P) → (b ≡ false → P) → P
  by_test true t f = t refl
  by_test false t f = f refl

  is_digit : (c : ℕ) → digit_value c < 10 → is_ascii_digit c ≡ true
  is_digit c small =
      by_test (ltb c 48)
      (λ a. absurd (let v : digit_value c ≡ 36 = rw a refl in omega arith))
      (λ a. by_test (ltb c 58)
      (λ b. (let least : leb 48 c ≡ true = le-leb _ _ (ltb-false c 48 a) in let most : leb c 57 ≡ true = le-leb _ _ (omega (arith, ltb-true c 58 b)) in rw (least, most) refl))
      (λ b. absurd (high a b)))
    where
      high : ltb c 48 ≡ false → ltb c 58 ≡ false → ⊥
      high a b =
          by_test (ltb c 65) (λ d. (let v : digit_value c ≡ 36 = rw (a, b, d) refl in omega arith))
          (λ d. by_test (ltb c 91) (λ e. (let v : digit_value c ≡ c - 55 = rw (a, b, d, e) refl in omega (arith, ltb-false c 65 d)))
          (λ e. by_test (ltb c 97) (λ f. (let v : digit_value c ≡ 36 = rw (a, b, d, e, f) refl in omega arith))
          (λ f. by_test (ltb c 123) (λ g. (let v : digit_value c ≡ c - 87 = rw (a, b, d, e, f, g) refl in omega (arith, ltb-false c 97 f)))
          (λ g. (let v : digit_value c ≡ 36 = rw (a, b, d, e, f, g) refl in omega arith)))))

  digits_go : (u : Under) (digits more : List ℕ) → AllDigits 10 more → read_on (at (in_number u digits)) more ≡ at (in_number u (digits ++ more))
  digits_go u digits [] are = ap (λ w. at (in_number u w)) (sym (append-nil digits))
  digits_go u digits (c ∷ more) are =
      ap (λ r. read_on r more) (digit_goes u digits c (is_digit c are.0)) ∙ digits_go u (digits ++ c ∷ []) more are.1 ∙ ap (λ w. at (in_number u w)) (append_assoc digits (c ∷ []) more)

  digits_read : (u : Under) (digits : List ℕ) → 0 < length digits → AllDigits 10 digits → read_on (at (behind_labels u)) digits ≡ at (in_number u digits)
  digits_read u [] some are = absurd (omega arith)
  digits_read u (c ∷ more) some are = ap (λ r. read_on r more) (digit_begins u c (is_digit c are.0)) ∙ digits_go u (c ∷ []) more are.1

-- ---- a metric

same_text : (text : List ℕ) → bytes_eq text text ≡ true
same_text text = (bytes_eq-Decides text text).1 refl

abbrev with_sample : Metric → Sample → Metric
with_sample m s = record m { samples = m.samples ++ s ∷ [] }

sample_ends : (before : List Metric) (m : Metric) (u : Under) (digits : List ℕ) → u.name ≡ m.name
    → read_on (at before (Some m) (in_number u digits)) (codes "\n") ≡ at before (Some (with_sample m (record { labels = u.labels; value = digits_value 10 digits }))) at_start
sample_ends before m u digits e =
    let same : bytes_eq m.name u.name ≡ true = ap (bytes_eq m.name) e ∙ same_text m.name in
    rw same refl

sample_read : (before : List Metric) (m : Metric) (s : Sample) → is_metric_name m.name ≡ true → IsSample s
    → read_on (at before (Some m) at_start) (sample_text m.name s) ≡ at before (Some (with_sample m s)) at_start
unfolding sample_line
sample_read before m s named is =
    let here = at before (Some m) in
    let start = here at_start in
    let u : Under = record { name = m.name; labels = [] } in
    let full : Under = record { name = m.name; labels = s.labels } in
    let numeral = decimal_is_IsNumeral s.value is.value in
    let value : digits_value 10 (decimal s.value) ≡ s.value = numeral.1 in
    let labels = labels_text s.labels in
    let digits = decimal s.value in
    let opened : read_on start (m.name ++ codes "{") ≡ here (at_label u) = then_read start (here (in_name m.name)) (here (at_label u)) m.name (codes "{") (name_read before (Some m) m.name named) refl in
    let closed : read_on start (m.name ++ codes "{" ++ labels ++ codes "} ") ≡ here (behind_labels full) =
    ap (read_on start) (append_assoc (m.name ++ codes "{") labels (codes "} "))
    ∙ then_read start (here (at_label u)) (here (behind_labels full)) (m.name ++ codes "{") (labels ++ codes "} ") opened (labels_read before (Some m) u s.labels is.labels) in
    let counted : read_on start (m.name ++ codes "{" ++ labels ++ codes "} " ++ digits) ≡ here (in_number full digits) =
    then_read start (here (behind_labels full)) (here (in_number full digits)) (m.name ++ codes "{" ++ labels ++ codes "} ") digits closed (digits_read before (Some m) full digits numeral.0.0 numeral.0.1) in
    then_read start (here (in_number full digits)) (at before (Some (with_sample m s)) at_start) (m.name ++ codes "{" ++ labels ++ codes "} " ++ digits) (codes "\n") counted
    (sample_ends before m full digits refl ∙ ap (λ v. at before (Some (with_sample m (record { labels = s.labels; value = v }))) at_start) value)

samples_read : (before : List Metric) (m : Metric) (samples : List Sample) → is_metric_name m.name ≡ true → AllByRecursion IsSample samples
    → read_on (at before (Some m) at_start) (flat_map (sample_text m.name) samples) ≡ at before (Some (record m { samples = m.samples ++ samples })) at_start
samples_read before m [] named are = ap (λ ss. at before (Some (record m { samples = ss })) at_start) (sym (append-nil m.samples))
samples_read before m (s ∷ more) named are =
    then_read (at before (Some m) at_start) (at before (Some (with_sample m s)) at_start) _ (sample_text m.name s) _ (sample_read before m s named are.0)
    (samples_read before (with_sample m s) more named are.1 ∙ ap (λ ss. at before (Some (record m { samples = ss })) at_start) (append_assoc m.samples (s ∷ []) more))

-- the letters of a kind
kind_letters : (kind : List ℕ) → is_kind kind ≡ true → list_all is_of_metric kind ≡ true
kind_letters kind e = by (bytes_eq kind (codes "counter")) (bytes_eq kind (codes "gauge")) (bytes_eq kind (codes "histogram")) (bytes_eq kind (codes "summary")) (bytes_eq kind (codes "untyped")) refl refl refl refl refl e
  where
    word : (w : List ℕ) → bytes_eq kind w ≡ true → list_all is_of_metric w ≡ true → list_all is_of_metric kind ≡ true
    word w same is = ap (list_all is_of_metric) ((bytes_eq-Decides kind w).0 same) ∙ is

    by : (c g h s u : Bool) → bytes_eq kind (codes "counter") ≡ c → bytes_eq kind (codes "gauge") ≡ g → bytes_eq kind (codes "histogram") ≡ h → bytes_eq kind (codes "summary") ≡ s → bytes_eq kind (codes "untyped") ≡ u
        → c || (g || (h || (s || u))) ≡ true → list_all is_of_metric kind ≡ true
    by true g h s u cc₁ gg hh ss uu e = word (codes "counter") cc₁ refl
    by false true h s u cc₁ gg hh ss uu e = word (codes "gauge") gg refl
    by false false true s u cc₁ gg hh ss uu e = word (codes "histogram") hh refl
    by false false false true u cc₁ gg hh ss uu e = word (codes "summary") ss refl
    by false false false false true cc₁ gg hh ss uu e = word (codes "untyped") uu refl
    by false false false false false cc₁ gg hh ss uu e = absurd (cc)

name_letters : (name : List ℕ) → is_metric_name name ≡ true → list_all is_of_metric name ≡ true
name_letters [] e = absurd (cc)
name_letters (b ∷ more) e =
    let each = both _ _ e in
    let rest = each.1 in
    let first = first_of b each.0 in
    rw (first, rest) refl
  where
    first_of : (b : ℕ) → starts_metric b ≡ true → is_of_metric b ≡ true
    first_of b is = by (starts_label b) (is_ascii_digit b) (eqb b 58) is
      where
        by : (l d c : Bool) → l || c ≡ true → (l || d) || c ≡ true
        by true d c e = refl
        by false true c e = refl
        by false false c e = e

type_read : (before : List Metric) (last : Option Metric) (name kind : List ℕ) → is_metric_name name ≡ true → is_kind kind ≡ true
    → read_on (at before last at_start) (type_line name kind) ≡ at (with_last before last) (Some (record { name = name; kind = kind; samples = [] })) at_start
unfolding type_line
type_read before last [] kind named known = absurd (cc)
type_read before last (b ∷ more) [] named known = absurd (cc)
type_read before last (b ∷ more) (k ∷ ks) named known =
    let name = b ∷ more in
    let kind = k ∷ ks in
    let here = at before last in
    let start = here at_start in
    let word = codes "TYPE" ∷ [] in
    let both_words = codes "TYPE" ∷ name ∷ [] in
    let began : read_on start (codes "# TYPE ") ≡ here (in_comment word []) = refl in
    let named_it : read_on start (codes "# TYPE " ++ name) ≡ here (in_comment word name) =
    then_read start (here (in_comment word [])) (here (in_comment word name)) (codes "# TYPE ") name began (word_read before last word [] name (name_letters name named)) in
    let spaced : read_on start (codes "# TYPE " ++ name ++ codes " ") ≡ here (in_comment both_words []) =
    then_read start (here (in_comment word name)) (here (in_comment both_words [])) (codes "# TYPE " ++ name) (codes " ") named_it refl in
    let kinded : read_on start (codes "# TYPE " ++ name ++ codes " " ++ kind) ≡ here (in_comment both_words kind) =
    then_read start (here (in_comment both_words [])) (here (in_comment both_words kind)) (codes "# TYPE " ++ name ++ codes " ") kind spaced (word_read before last both_words [] kind (kind_letters kind known)) in
    then_read start (here (in_comment both_words kind)) (at (with_last before last) (Some (record { name = name; kind = kind; samples = [] })) at_start)
    (codes "# TYPE " ++ name ++ codes " " ++ kind) (codes "\n") kinded (rw (named, known) refl)

metric_read : (before : List Metric) (last : Option Metric) (m : Metric) → IsMetric m → read_on (at before last at_start) (metric_text m) ≡ at (with_last before last) (Some m) at_start
metric_read before last m is =
    then_read (at before last at_start) (at (with_last before last) (Some (record m { samples = [] })) at_start) _ (type_line m.name m.kind) _ (type_read before last m.name m.kind is.name is.kind)
    (samples_read (with_last before last) (record m { samples = [] }) m.samples is.name is.samples)

-- ---- a block

record AllRead (before : List Metric) (last : Option Metric) (metrics : List Metric) : Type 0 where
  pub front : List Metric
  pub final : Option Metric
  pub is : read_on (at before last at_start) (flat_map metric_text metrics) ≡ at front final at_start
  pub all : with_last front final ≡ with_last before last ++ metrics

metrics_read : (before : List Metric) (last : Option Metric) (metrics : List Metric) → AllByRecursion IsMetric metrics → AllRead before last metrics
metrics_read before last [] are = record { front = before; final = last; is = refl; all = sym (append-nil (with_last before last)) }
metrics_read before last (m ∷ more) are =
    let rest = metrics_read (with_last before last) (Some m) more are.1 in
    record {
      front = rest.front;
      final = rest.final;
      is = then_read (at before last at_start) (at (with_last before last) (Some m) at_start) _ (metric_text m) _ (metric_read before last m are.0) rest.is;
      all = rest.all ∙ append_assoc (with_last before last) (m ∷ []) more;
    }

pub block_read : (block : List Metric) → AllByRecursion IsMetric block → read (block_text block) ≡ Some block
unfolding read block_text
block_read block are =
    let r = metrics_read [] None block are in
    let ends : read_on begun (block_text block) ≡ at r.front r.final at_start = then_read begun (at r.front r.final at_start) _ (flat_map metric_text block) (codes "\n") r.is refl in
    rw ends (ap Some r.all)
