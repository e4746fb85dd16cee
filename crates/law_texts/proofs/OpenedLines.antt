-- Lines leave open exactly what the grammar says.
use Rattle.std.proofs.Common.{◌≡◌, ◌⊎◌, inl, inr, ℕ, Bool, true, false, cond, not, ◌&&◌, List, [], ◌∷◌, drop, Result, Ok, refl, sym, ◌∙◌, ap, subst}
use Rattle.yaml_subset.specs.declared.fault.YamlCause.{YamlCause}
use Rattle.yaml_subset.specs.declared.fault.YamlFault.{YamlFault}
use Rattle.yaml_subset.specs.declared.blocks.Place.TheVariants.{Document}
use Rattle.yaml_subset.specs.declared.blocks.State.{State}
use Rattle.yaml_subset.specs.declared.blocks.State.TheVariants.{Start, Headed, Alone, Blocks}
use Rattle.yaml_tree.specs.declared.tree.Tree.{Tree}
use Rattle.yaml_subset.specs.Characters.{next_part, is_empty}
use Rattle.yaml_subset.specs.Blocks.{content, is_marker, at_start, counted_line, step, finish}
use Rattle.yaml_subset.specs.Gives.{◌>>=◌}
use Rattle.yaml_subset.specs.Grammar.{Line, IsDocument, document_nothing, document_value, document_block, Counts, AreLater, IsHead, IsNoHead, ReadsLines}
use Rattle.yaml_subset.specs.TextFault.{Lead, BreaksText, IsFault, text_too_long, text_not_utf8, text_broken}
use Rattle.yaml_subset.proofs.FlowGrammar.{line_value_read}
use Rattle.yaml_subset.proofs.LineValues.{bind_ok, value_read}
use Rattle.yaml_subset.proofs.Steps.{later_step, steps, then_steps}
use Rattle.yaml_subset.proofs.GrammarTexts.{step_passed, by_later}
use Rattle.law_texts.specs.Opened.{OpenDocument, open_nothing, open_value, open_blocks, LeavesOpen}
use Rattle.law_texts.specs.TextFault.{IsBroken, HasFault, too_long, not_utf8, broken}
use Rattle.law_texts.proofs.OpenLaws.{open_read, one_open}
use Rattle.law_texts.proofs.OpenThere.{block_open}
use Rattle.law_texts.proofs.OpenRuns.{open_runs}

-- ---- what has a tree leaves something open

document_open : (nothing : State) (block : List Line) (t : Tree) → IsDocument 32 block t → (state : State) × OpenDocument nothing block state
document_open nothing block t (document_nothing b e) = (nothing, open_nothing b refl)
document_open nothing block t (document_value line b is) = (Alone line.0 t, open_value line t b is refl)
document_open nothing block t (document_block form indent b) = let w = block_open 32 form indent block t b [] in (Blocks w.0 w.1, open_blocks form indent w.0 w.1 w.2 refl)

lines_open : (before : List (List ℕ)) (t : Tree) → ReadsLines 32 before t → (state : State) × LeavesOpen before state
lines_open [] t h = (Start, refl)
lines_open (line ∷ more) t (inl r) = let w = lines_open more t r.1 in (w.0, inl (r.0, w.1))
lines_open (line ∷ more) t (inr r) = by_head r.4
  where
    by_head : (IsHead line × IsDocument 32 r.1 t) ⊎ (IsNoHead line × IsDocument 32 (r.0 ∷ r.1) t) → (state : State) × LeavesOpen (line ∷ more) state
    by_head (inl d) = let w = document_open Headed r.1 t d.1 in (w.0, inr (r.0, r.1, r.2, r.3, inl (d.0, w.1)))
    by_head (inr d) = let w = document_open Start (r.0 ∷ r.1) t d.1 in (w.0, inr (r.0, r.1, r.2, r.3, inr (d.0, w.1)))

-- ---- to what is open the lines lead

abbrev ok : State → Result State YamlCause
ok s = Ok s

document_leads : (state : State) → ((l : Line) → later_step state l ≡ content 32 Document [] l.0 l.1) → (block : List Line) (end : State) → OpenDocument state block end → steps state block ≡ ok end
document_leads state begins block end (open_nothing b e) = ap (steps state) b ∙ ap ok (sym e)
document_leads state begins block end (open_value line v b is e) =
    ap (steps state) b ∙ ap (λ r. r >>= λ next. Ok next) (begins line ∙ value_read 32 Document [] line.0 line.1 v refl (line_value_read 32 line.1 v is)) ∙ ap ok (sym e)
document_leads state begins block end (open_blocks form indent frames slot opens e) =
    let r = open_runs 32 form indent block [] frames slot opens refl in
    ap (steps state) r.split ∙ ap (λ q. then_steps q r.more) (begins (indent, r.first)) ∙ r.runs Document ∙ ap ok (sym e)

-- what a line that counts does, behind the first one and as the first
step_later : (state : State) (line : List ℕ) (l : Line) → Counts line l → is_marker 45 line ≡ false → step state line ≡ later_step state l
unfolding step counted_line
step_later state line l c m = rw (c.rest, c.some, c.no_directive, c.no_end, m, sym c.indent) (by_later state line l m)

step_first : (line : List ℕ) (l : Line) → Counts line l → step Start line ≡ at_start line l.0 l.1
unfolding step counted_line
step_first line l c =
    let goes_on : (is_marker 45 line && not true) ≡ false = elim (is_marker 45 line) as (λ b. (b && not true) ≡ false) [ true ↦ refl | false ↦ refl ] in
    rw (c.rest, c.some, c.no_directive, c.no_end, goes_on, sym c.indent) refl

head_step : (line : List ℕ) (l : Line) → Counts line l → IsHead line → step Start line ≡ Ok Headed
unfolding at_start
head_step line l c h = step_first line l c ∙ rw (h.dashes, h.alone) refl

no_head_step : (line : List ℕ) (l : Line) → Counts line l → IsNoHead line → step Start line ≡ content 32 Document [] l.0 l.1
unfolding at_start
no_head_step line l c (inl m) = step_first line l c ∙ rw m refl
no_head_step line l c (inr p) = step_first line l c ∙ either (is_marker 45 line)
  where
    either : (b : Bool) → cond b (next_part false (drop 3 line) >>= λ part. cond (is_empty part) (Ok Headed) (content 32 Document [] l.0 l.1)) (content 32 Document [] l.0 l.1) ≡ content 32 Document [] l.0 l.1
    either true = rw (p.1, p.2) refl
    either false = refl

same_state : (a b : State) → ok a ≡ ok b → a ≡ b
same_state a b e = cc

later_leads : (more : List (List ℕ)) (later : List Line) → AreLater more later → (state end : State) → steps state later ≡ ok end → Lead state more end
later_leads [] later none state end h = same_state state end (ap (steps state) (sym none) ∙ h)
later_leads (line ∷ more) later (inl are) state end h = (state, step_passed state line are.0, later_leads more later are.1 state end h)
later_leads (line ∷ more) later (inr are) state end h =
    let h1 : then_steps (later_step state are.0) are.1 ≡ Ok end = ap (steps state) (sym are.4) ∙ h in
    let b = bind_ok (later_step state are.0) (λ next. steps next are.1) end h1 in
    (b.0, step_later state line are.0 are.2 are.3 ∙ b.1, later_leads more are.1 are.5 b.0 end b.2)

pub open_leads : (before : List (List ℕ)) (end : State) → LeavesOpen before end → Lead Start before end
open_leads [] end e = sym e
open_leads (line ∷ more) end (inl r) = (Start, step_passed Start line r.0, open_leads more end r.1)
open_leads (line ∷ more) end (inr r) = by_head r.4
  where
    by_head : (IsHead line × OpenDocument Headed r.1 end) ⊎ (IsNoHead line × OpenDocument Start (r.0 ∷ r.1) end) → Lead Start (line ∷ more) end
    by_head (inl d) = (Headed, head_step line r.0 r.2 d.0, later_leads more r.1 r.3 Headed end (document_leads Headed (λ l. refl) r.1 end d.1))
    by_head (inr d) =
        let h = document_leads Start (λ l. refl) (r.0 ∷ r.1) end d.1 in
        let b = bind_ok (content 32 Document [] r.0.0 r.0.1) (λ next. steps next r.1) end h in
        (b.0, no_head_step line r.0 r.2 d.0 ∙ b.1, later_leads more r.1 r.3 b.0 end b.2)

-- ---- and to nothing else

pub leads_open : (before : List (List ℕ)) (end : State) → Lead Start before end → LeavesOpen before end
leads_open before end lead =
    let w = lines_open before (finish end) (open_read before (finish end) (end, lead, refl)) in
    subst (λ (s : State). LeavesOpen before s) (one_open before Start w.0 end (open_leads before w.0 w.1) lead) w.1

-- ---- faults

broken_there : (text : List ℕ) (n : ℕ) (cause : YamlCause) → BreaksText text n cause → IsBroken text n cause
broken_there text n cause b = record {
  before = b.before;
  line = b.line;
  stands = record { later = b.later; there = b.there; number = b.number };
  breaks = record { tree = b.tree; accepted = b.accepted; refused = b.refused };
  told = record { state = b.state; opened = leads_open b.before b.state b.lead; at = b.at; first = b.first };
}

broken_told : (text : List ℕ) (n : ℕ) (cause : YamlCause) → IsBroken text n cause → BreaksText text n cause
broken_told text n cause b = record {
  before = b.before;
  line = b.line;
  later = b.stands.later;
  there = b.stands.there;
  number = b.stands.number;
  tree = b.breaks.tree;
  accepted = b.breaks.accepted;
  refused = b.breaks.refused;
  state = b.told.state;
  lead = open_leads b.before b.told.state b.told.opened;
  at = b.told.at;
  first = b.told.first;
}

pub fault_there : (text : List ℕ) (f : YamlFault) → IsFault text f → HasFault text f
fault_there text f (text_too_long l e) = too_long l e
fault_there text f (text_not_utf8 l u e) = not_utf8 l u e
fault_there text f (text_broken l u b) = broken l u (broken_there text f.line f.cause b)

pub fault_told : (text : List ℕ) (f : YamlFault) → HasFault text f → IsFault text f
fault_told text f (too_long l e) = text_too_long l e
fault_told text f (not_utf8 l u e) = text_not_utf8 l u e
fault_told text f (broken l u b) = text_broken l u (broken_told text f.line f.cause b)
