-- What is of the grammar is read: whole texts.
use Rattle.std.proofs.Common.{◌≡◌, ◌⊎◌, inl, inr, ℕ, ◌+◌, ◌≤◌, nat_lt, Bool, true, false, cond, not, ◌&&◌, List, [], ◌∷◌, length, drop, Result, Ok, refl, sym, ◌∙◌, ap, subst, arith}
use Rattle.std.proofs.lemmas.Bool.Decides.{nat_tests}
use Rattle.std.specs.Str.Lines.{lines}
use Rattle.yaml_subset.specs.declared.fault.YamlCause.{YamlCause}
use Rattle.yaml_subset.specs.declared.blocks.Place.TheVariants.{Document}
use Rattle.yaml_subset.specs.declared.blocks.State.{State}
use Rattle.yaml_subset.specs.declared.blocks.State.TheVariants.{Start, Headed, Alone, Blocks}
use Rattle.yaml_tree.specs.declared.tree.Tree.{Tree}
use Rattle.yaml_tree.specs.declared.tree.Tree.TheVariants as tree
use Rattle.yaml_subset.specs.Characters.{next_part, is_empty}
use Rattle.yaml_subset.specs.Blocks.{content, close_all, is_marker, is_start, at_start, by_state, counted_line, step, finish}
use Rattle.yaml_subset.specs.Gives.{◌>>=◌}
use Rattle.yaml_subset.specs.Reading.{at_line, lines_from, read_of}
use Rattle.yaml_subset.specs.Grammar.{Line, IsDocument, document_nothing, document_value, document_block, IsPassed, Counts, AreLater, IsHead, IsNoHead, ReadsLines, Reads}
use Rattle.yaml_subset.proofs.FlowGrammar.{line_value_read}
use Rattle.yaml_subset.proofs.LineValues.{bind_ok, value_read}
use Rattle.yaml_subset.proofs.Steps.{later_step, steps}
use Rattle.yaml_subset.proofs.GrammarRead.{block_runs}

-- the lines lead from a state to one whose tree is t
abbrev pub Finishes : State → List Line → Tree → Type 0
Finishes state ls t = (end : State) × (steps state ls ≡ Ok end) × (finish end ≡ t)

pub close_none : (v : Tree) → close_all [] v ≡ v
unfolding close_all
close_none v = refl

-- a document is read, where none of its lines has been read
document_runs : (state : State) → ((l : Line) → later_step state l ≡ content 32 Document [] l.0 l.1) → finish state ≡ tree.Null → (block : List Line) (t : Tree) → IsDocument 32 block t → Finishes state block t
document_runs state begins none block t (document_nothing b e) = subst (λ ls. Finishes state ls t) (sym b) (state, refl, none ∙ sym e)
document_runs state begins none block t (document_value line b e) =
    subst (λ ls. Finishes state ls t) (sym b)
    (Alone line.0 t, ap (λ r. r >>= λ next. Ok next) (begins line ∙ value_read 32 Document [] line.0 line.1 t refl (line_value_read 32 line.1 t e)), refl)
document_runs state begins none block t (document_block form indent b) =
    let r = block_runs 32 form indent block t b [] refl in
    let w = r.runs Document in
    subst (λ ls. Finishes state ls t) (sym r.split)
    (Blocks w.0 w.1, ap (λ q. q >>= λ next. steps next r.more) (begins (indent, r.first)) ∙ w.2, w.3.closes ∙ close_none t)

pub step_passed : (state : State) (line : List ℕ) → IsPassed line → step state line ≡ Ok state
unfolding step
step_passed state line p = rw p refl

and_not_true : (b : Bool) → b && not true ≡ false
and_not_true true = refl
and_not_true false = refl

step_counted : (state : State) (line : List ℕ) (l : Line) → Counts line l → (is_marker 45 line && not (is_start state)) ≡ false → step state line ≡ by_state state line l.0 l.1
unfolding step counted_line
step_counted state line l c m = rw (c.rest, c.some, c.no_directive, c.no_end, m, sym c.indent) refl

pub by_later : (state : State) (line : List ℕ) (l : Line) → is_marker 45 line ≡ false → by_state state line l.0 l.1 ≡ later_step state l
unfolding at_start
by_later Start line l m = rw m refl
by_later Headed line l m = refl
by_later (Alone at v) line l m = refl
by_later (Blocks frames slot) line l m = refl

step_later : (state : State) (line : List ℕ) (l : Line) → Counts line l → is_marker 45 line ≡ false → step state line ≡ later_step state l
step_later state line l c m = step_counted state line l c (ap (λ b. b && not (is_start state)) m) ∙ by_later state line l m

line_ok : (k : ℕ) (r : Result State YamlCause) (next : State) (more : List (List ℕ)) → r ≡ Ok next → at_line k r (λ next. lines_from k next more) ≡ lines_from k next more
line_ok k r next more e = rw e refl

line_more : (k : ℕ) (state next : State) (line : List ℕ) (more : List (List ℕ)) → step state line ≡ Ok next → lines_from k state (line ∷ more) ≡ lines_from (k + 1) next more
unfolding lines_from
line_more k state next line more e = line_ok (k + 1) (step state line) next more e

-- the lines behind the first one are read as those that count among them
later_runs : (more : List (List ℕ)) (later : List Line) → AreLater more later → (k : ℕ) (state end : State) → steps state later ≡ Ok end → lines_from k state more ≡ Ok (finish end)
unfolding lines_from
later_runs [] later none k state end h =
    let e : Ok state ≡ Ok end = ap (steps state) (sym none) ∙ h in
    let same : state ≡ end = cc in
    ap (λ s. Ok (finish s)) same
later_runs (line ∷ more) later (inl are) k state end h = line_more k state state line more (step_passed state line are.0) ∙ later_runs more later are.1 (k + 1) state end h
later_runs (line ∷ more) later (inr are) k state end h =
    let h1 : (later_step state are.0 >>= λ next. steps next are.1) ≡ Ok end = ap (steps state) (sym are.4) ∙ h in
    let b = bind_ok (later_step state are.0) (λ next. steps next are.1) end h1 in
    line_more k state b.0 line more (step_later state line are.0 are.2 are.3 ∙ b.1) ∙ later_runs more are.1 are.5 (k + 1) b.0 end b.2

head_step : (line : List ℕ) (l : Line) → Counts line l → IsHead line → step Start line ≡ Ok Headed
unfolding at_start
head_step line l c h = step_counted Start line l c (and_not_true (is_marker 45 line)) ∙ rw (h.dashes, h.alone) refl

no_head_step : (line : List ℕ) (l : Line) → Counts line l → IsNoHead line → step Start line ≡ content 32 Document [] l.0 l.1
unfolding at_start
no_head_step line l c (inl m) = step_counted Start line l c (and_not_true (is_marker 45 line)) ∙ rw m refl
no_head_step line l c (inr p) = step_counted Start line l c (and_not_true (is_marker 45 line)) ∙ by_test (is_marker 45 line)
  where
    by_test : (b : Bool) → cond b (next_part false (drop 3 line) >>= λ part. cond (is_empty part) (Ok Headed) (content 32 Document [] l.0 l.1)) (content 32 Document [] l.0 l.1) ≡ content 32 Document [] l.0 l.1
    by_test true = rw (p.1, p.2) refl
    by_test false = refl

pub lines_run : (ls : List (List ℕ)) (t : Tree) → ReadsLines 32 ls t → (k : ℕ) → lines_from k Start ls ≡ Ok t
unfolding lines_from
lines_run [] t h k = ap Ok (sym h)
lines_run (line ∷ more) t (inl r) k = line_more k Start Start line more (step_passed Start line r.0) ∙ lines_run more t r.1 (k + 1)
lines_run (line ∷ more) t (inr r) k = by_head r.4
  where
    by_head : (IsHead line × IsDocument 32 r.1 t) ⊎ (IsNoHead line × IsDocument 32 (r.0 ∷ r.1) t) → lines_from k Start (line ∷ more) ≡ Ok t
    by_head (inl d) =
        let f = document_runs Headed (λ l. refl) refl r.1 t d.1 in
        line_more k Start Headed line more (head_step line r.0 r.2 d.0) ∙ later_runs more r.1 r.3 (k + 1) Headed f.0 f.1 ∙ ap Ok f.2
    by_head (inr d) =
        let f = document_runs Start (λ l. refl) refl (r.0 ∷ r.1) t d.1 in
        let b = bind_ok (content 32 Document [] r.0.0 r.0.1) (λ next. steps next r.1) f.0 f.1 in
        line_more k Start b.0 line more (no_head_step line r.0 r.2 d.0 ∙ b.1) ∙ later_runs more r.1 r.3 (k + 1) b.0 f.0 b.2 ∙ ap Ok f.2

pub not_long : (n : ℕ) → n ≤ 1048576 → nat_lt 1048576 n ≡ false
not_long n h = grind (arith, nat_tests)

pub text_read : (text : List ℕ) (t : Tree) → Reads text t → read_of text ≡ Ok t
unfolding read_of
text_read text t r = rw (not_long (length text) r.short, r.utf8) (lines_run (lines text) t r.reads 0)
