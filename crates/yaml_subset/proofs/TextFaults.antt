-- Reading a text tells its fault.
use Rattle.std.proofs.Common.{◌≡◌, inl, inr, ℕ, ◌+◌, ◌<◌, nat_lt, Bool, true, false, cond, List, [], ◌∷◌, ◌++◌, length, Result, Ok, Err, refl, sym, ◌∙◌, ap, subst, arith}
use Rattle.std.proofs.lemmas.Bool.Decides.{nat_tests}
use Rattle.std.specs.Str.{is_utf8}
use Rattle.std.specs.Str.Lines.{lines}
use Rattle.yaml_subset.specs.declared.fault.YamlCause.{YamlCause}
use Rattle.yaml_subset.specs.declared.fault.YamlCause.TheVariants.{NotUtf8, TooLong}
use Rattle.yaml_subset.specs.declared.fault.YamlFault.{YamlFault}
use Rattle.yaml_subset.specs.declared.fault.YamlRefused.{YamlRefused}
use Rattle.yaml_subset.specs.declared.fault.YamlRefused.TheVariants as refused
use Rattle.yaml_subset.specs.declared.blocks.State.{State}
use Rattle.yaml_subset.specs.declared.blocks.State.TheVariants.{Start}
use Rattle.yaml_tree.specs.declared.tree.Tree.{Tree}
use Rattle.yaml_subset.specs.Blocks.{step, finish}
use Rattle.yaml_subset.specs.Reading.{fault_at, at_line, lines_from, line_not_utf8, read_of, GivesTree}
use Rattle.yaml_subset.specs.FirstFault.{IsFirst, Tells}
use Rattle.yaml_subset.specs.LineFaults.{LineFault}
use Rattle.yaml_subset.specs.TextFault.{Lead, BreaksText, IsFault, text_too_long, text_not_utf8, text_broken, HasTreeOrItsFault, TellsFault}
use Rattle.yaml_subset.proofs.FaultsBehind.{one_first}
use Rattle.yaml_subset.proofs.LineFaults.{line_tells}
use Rattle.yaml_subset.proofs.ReadingLaws.{err, line_same}
use Rattle.yaml_subset.proofs.GrammarTexts.{lines_run, not_long, text_read}
use Rattle.yaml_subset.proofs.GrammarLines.{lines_split, not_over, text_split}

cause_same : (m n : ℕ) (c d : YamlCause) → err (fault_at m c) ≡ err (fault_at n d) → c ≡ d
cause_same m n c d h = let e : fault_at m c ≡ fault_at n d = cc in ap (λ (f : YamlFault). f.cause) e

-- the lines up to the first that is refused
record Refused (ls : List (List ℕ)) (k : ℕ) (state : State) (n : ℕ) (cause : YamlCause) : Type 0 where
  pub before : List (List ℕ)
  pub line : List ℕ
  pub later : List (List ℕ)
  pub there : ls ≡ before ++ line ∷ later
  pub number : n ≡ k + length before + 1
  pub end : State
  pub lead : Lead state before end
  pub is : step end line ≡ Err cause

refused_at : (ls : List (List ℕ)) (k : ℕ) (state : State) (n : ℕ) (cause : YamlCause) → lines_from k state ls ≡ Err (fault_at n cause) → Refused ls k state n cause
unfolding lines_from
refused_at [] k state n cause h = absurd cc
refused_at (line ∷ more) k state n cause h = by_step (step state line) refl h (λ next. refused_at more (k + 1) next n cause)
  where
    by_step : (r : Result State YamlCause) → step state line ≡ r → at_line (k + 1) r (λ next. lines_from (k + 1) next more) ≡ Err (fault_at n cause)
        → ((next : State) → lines_from (k + 1) next more ≡ Err (fault_at n cause) → Refused more (k + 1) next n cause) → Refused (line ∷ more) k state n cause
    by_step (Err c) e h rec = record {
      before = [];
      line = line;
      later = more;
      there = refl;
      number = omega (arith, line_same (k + 1) n c cause h);
      end = state;
      lead = refl;
      is = e ∙ ap Err (cause_same (k + 1) n c cause h);
    }
    by_step (Ok next) e h rec = let r = rec next h in record {
      before = line ∷ r.before;
      line = r.line;
      later = r.later;
      there = ap (λ xs. line ∷ xs) r.there;
      number = omega (arith, r.number);
      end = r.end;
      lead = (next, e, r.lead);
      is = r.is;
    }

lead_read : (before : List (List ℕ)) (k : ℕ) (state end : State) → Lead state before end → lines_from k state before ≡ Ok (finish end)
unfolding lines_from
lead_read [] k state end e = ap (λ s. Ok (finish s)) e
lead_read (line ∷ more) k state end w = ap (λ r. at_line (k + 1) r (λ next. lines_from (k + 1) next more)) w.1 ∙ lead_read more (k + 1) w.0 end w.2

lead_refused : (before : List (List ℕ)) (line : List ℕ) (later : List (List ℕ)) (k : ℕ) (state end : State) (cause : YamlCause) → Lead state before end → step end line ≡ Err cause
    → lines_from k state (before ++ line ∷ later) ≡ Err (fault_at (k + length before + 1) cause)
unfolding lines_from
lead_refused [] line later k state end cause e h =
    ap (λ r. at_line (k + 1) r (λ next. lines_from (k + 1) next later)) (ap (λ s. step s line) e ∙ h) ∙ ap (λ n. Err (fault_at n cause)) (omega arith)
lead_refused (first ∷ more) line later k state end cause w h =
    ap (λ r. at_line (k + 1) r (λ next. lines_from (k + 1) next (more ++ line ∷ later))) w.1 ∙ lead_refused more line later (k + 1) w.0 end cause w.2 h ∙ ap (λ n. Err (fault_at n cause)) (omega arith)

never_both : (r : Result Tree YamlFault) (t : Tree) (fault : YamlFault) → r ≡ Err fault → r ≡ Ok t → ⊥
never_both r t fault e h = cc

abbrev refuses : YamlCause → Result State YamlCause
refuses c = Err c

first_of : (S : ℕ → YamlCause → Type 0) (r : Result State YamlCause) (cause : YamlCause) → r ≡ Err cause → Tells S r → (at : ℕ) × IsFirst S at cause
first_of S r cause e t = let u : Tells S (refuses cause) = subst (Tells S) e t in u

broken : (text : List ℕ) (n : ℕ) (cause : YamlCause) → lines_from 0 Start (lines text) ≡ Err (fault_at n cause) → BreaksText text n cause
broken text n cause h =
    let r = refused_at (lines text) 0 Start n cause h in
    let f = first_of (LineFault r.end r.line) (step r.end r.line) cause r.is (line_tells r.end r.line) in
    record {
      before = r.before;
      line = r.line;
      later = r.later;
      there = r.there;
      number = omega (arith, r.number);
      tree = finish r.end;
      accepted = lines_split r.before 0 (finish r.end) (lead_read r.before 0 Start r.end r.lead);
      refused = λ t w. never_both (lines_from 0 Start (r.before ++ r.line ∷ [])) t _ (lead_refused r.before r.line [] 0 Start r.end cause r.lead r.is) (lines_run (r.before ++ r.line ∷ []) t w 0);
      state = r.end;
      lead = r.lead;
      at = f.0;
      first = f.1;
    }

step_refused : (S : ℕ → YamlCause → Type 0) (at : ℕ) (cause : YamlCause) (r : Result State YamlCause) → IsFirst S at cause → Tells S r → r ≡ Err cause
step_refused S at cause (Ok next) f t = absurd (t at cause f.there)
step_refused S at cause (Err c) f t = ap Err (one_first S t.0 at c cause t.1 f)

broken_back : (text : List ℕ) (n : ℕ) (cause : YamlCause) → BreaksText text n cause → lines_from 0 Start (lines text) ≡ Err (fault_at n cause)
broken_back text n cause b =
    let s = step_refused (LineFault b.state b.line) b.at cause (step b.state b.line) b.first (line_tells b.state b.line) in
    ap (lines_from 0 Start) b.there ∙ lead_refused b.before b.line b.later 0 Start b.state cause b.lead s ∙ ap (λ m. Err (fault_at m cause)) (omega (arith, b.number))

over : (n : ℕ) → nat_lt 1048576 n ≡ true → 1048576 < n
over n h = grind (arith, nat_tests)

long : (n : ℕ) → 1048576 < n → nat_lt 1048576 n ≡ true
long n h = grind (arith, nat_tests)

same_fault : (f g : YamlFault) → err f ≡ err g → g ≡ f
same_fault f g e = cc

-- a fault that is told is that of the text
pub text_told : (text : List ℕ) (fault : YamlFault) → read_of text ≡ Err fault → IsFault text fault
unfolding read_of
text_told text fault h = by_tests (nat_lt 1048576 (length text)) (is_utf8 text) refl refl h
  where
    by_tests : (l u : Bool) → nat_lt 1048576 (length text) ≡ l → is_utf8 text ≡ u
        → cond l (err (fault_at 0 TooLong)) (cond u (lines_from 0 Start (lines text)) (err (fault_at (line_not_utf8 text) NotUtf8))) ≡ Err fault → IsFault text fault
    by_tests true u el eu g = text_too_long (over (length text) el) (same_fault (fault_at 0 TooLong) fault g)
    by_tests false false el eu g = text_not_utf8 (not_over (length text) el) eu (same_fault (fault_at (line_not_utf8 text) NotUtf8) fault g)
    by_tests false true el eu g = text_broken (not_over (length text) el) eu (broken text fault.line fault.cause g)

-- and the text's fault is told
pub text_tells : (text : List ℕ) (fault : YamlFault) → IsFault text fault → read_of text ≡ Err fault
unfolding read_of
text_tells text fault (text_too_long l e) = rw (long (length text) l) (ap Err (sym e))
text_tells text fault (text_not_utf8 l u e) = rw (not_long (length text) l, u) (ap Err (sym e))
text_tells text fault (text_broken l u b) = rw (not_long (length text) l, u) (broken_back text fault.line fault.cause b)

pub one_fault : (text : List ℕ) (f g : YamlFault) → IsFault text f → IsFault text g → f ≡ g
one_fault text f g p q = same_fault g f (sym (text_tells text g q) ∙ text_tells text f p)

pub tree_or_its_fault : (text : List ℕ) → HasTreeOrItsFault text
tree_or_its_fault text = by_read (read_of text) refl
  where
    by_read : (r : Result Tree YamlFault) → read_of text ≡ r → HasTreeOrItsFault text
    by_read (Ok t) e = inl (t, text_split text t e, λ fault f. never_both (read_of text) t fault (text_tells text fault f) e)
    by_read (Err fault) e = inr (fault, text_told text fault e, λ t r. never_both (read_of text) t fault e (text_read text t r))

-- what the reader answers tells the text's fault
pub tells_fault : (result : Result Tree YamlRefused) (text : List ℕ) → GivesTree result (read_of text) → TellsFault result text
tells_fault (Ok t) text h = λ fault f. never_both (read_of text) t fault (text_tells text fault f) h
tells_fault (Err refused.Memory) text h = tt
tells_fault (Err (refused.At fault)) text h = (text_told text fault h, λ other f. one_fault text other fault f (text_told text fault h))
