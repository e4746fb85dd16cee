-- Lines that are accepted leave open what closes to their tree.
use Rattle.std.proofs.Common.{◌≡◌, ℕ, ◌+◌, List, [], ◌∷◌, Result, Ok, Err, refl, sym, ◌∙◌, ap, subst}
use Rattle.yaml_subset.specs.declared.fault.YamlCause.{YamlCause}
use Rattle.yaml_subset.specs.declared.blocks.State.{State}
use Rattle.yaml_subset.specs.declared.blocks.State.TheVariants.{Start}
use Rattle.yaml_tree.specs.declared.tree.Tree.{Tree}
use Rattle.yaml_subset.specs.Blocks.{step, finish}
use Rattle.yaml_subset.specs.Grammar.{ReadsLines}
use Rattle.yaml_subset.specs.Reading.{at_line, lines_from}
use Rattle.yaml_subset.specs.TextFault.{Lead}
use Rattle.yaml_subset.proofs.GrammarLines.{lines_split}
use Rattle.yaml_subset.proofs.GrammarTexts.{lines_run}

-- a state behind the lines, which closes to the tree
abbrev pub ClosesTo : State → List (List ℕ) → Tree → Type 0
ClosesTo state before t = (end : State) × Lead state before end × (finish end ≡ t)

lead_read : (before : List (List ℕ)) (k : ℕ) (state end : State) → Lead state before end → lines_from k state before ≡ Ok (finish end)
unfolding lines_from
lead_read [] k state end e = ap (λ s. Ok (finish s)) e
lead_read (line ∷ more) k state end w = ap (λ r. at_line (k + 1) r (λ next. lines_from (k + 1) next more)) w.1 ∙ lead_read more (k + 1) w.0 end w.2

read_leads : (before : List (List ℕ)) (k : ℕ) (state : State) (t : Tree) → lines_from k state before ≡ Ok t → ClosesTo state before t
unfolding lines_from
read_leads [] k state t h = let e : finish state ≡ t = cc in (state, refl, e)
read_leads (line ∷ more) k state t h = by_step (step state line) refl h (λ next g. read_leads more (k + 1) next t g)
  where
    by_step : (r : Result State YamlCause) → step state line ≡ r → at_line (k + 1) r (λ next. lines_from (k + 1) next more) ≡ Ok t
        → ((next : State) → lines_from (k + 1) next more ≡ Ok t → ClosesTo next more t) → ClosesTo state (line ∷ more) t
    by_step (Ok next) e h rec = let w = rec next h in (w.0, (next, e, w.1), w.2)
    by_step (Err cause) e h rec = absurd cc

pub open_found : (before : List (List ℕ)) (t : Tree) → ReadsLines 32 before t → ClosesTo Start before t
open_found before t reads = read_leads before 0 Start t (lines_run before t reads 0)

pub open_read : (before : List (List ℕ)) (t : Tree) → ClosesTo Start before t → ReadsLines 32 before t
open_read before t w = lines_split before 0 t (lead_read before 0 Start w.0 w.1 ∙ ap (λ (u : Tree). Ok u) w.2)

same_state : (r : Result State YamlCause) (a b : State) → r ≡ Ok a → r ≡ Ok b → a ≡ b
same_state r a b e f = cc

pub one_open : (before : List (List ℕ)) (state a b : State) → Lead state before a → Lead state before b → a ≡ b
one_open [] state a b e f = sym e ∙ f
one_open (line ∷ more) state a b v w = one_open more w.0 a b (subst (λ (s : State). Lead s more a) (same_state (step state line) v.0 w.0 v.1 w.1) v.2) w.2
