-- A text is read line by line, so its first lines alone are read in the same way.
use Rattle.std.proofs.Common.{◌≡◌, ℕ, ◌+◌, List, [], ◌∷◌, ◌++◌, Result, Ok, Err, refl, ap}
use Rattle.yaml_subset.specs.declared.fault.YamlCause.{YamlCause}
use Rattle.yaml_subset.specs.declared.fault.YamlFault.{YamlFault}
use Rattle.yaml_subset.specs.declared.blocks.State.{State}
use Rattle.yaml_tree.specs.declared.tree.Tree.{Tree}
use Rattle.yaml_subset.specs.Blocks.{step, finish}
use Rattle.yaml_subset.specs.Reading.{fault_at, at_line, lines_from}

abbrev pub err : YamlFault → Result Tree YamlFault
err fault = Err fault

-- equal faults stand on one line
pub line_same : (m n : ℕ) (c d : YamlCause) → err (fault_at m c) ≡ err (fault_at n d) → m ≡ n
line_same m n c d h = let e : fault_at m c ≡ fault_at n d = cc in ap (λ (f : YamlFault). f.line) e

-- a reading that gives a tree
abbrev pub HasTree : Result Tree YamlFault → Type 0
HasTree read = (t : Tree) × (read ≡ Ok t)

-- what is accepted with further lines is accepted without them
accepted_at : (r : Result State YamlCause) (k : ℕ) (more others : List (List ℕ))
    → ((next : State) → HasTree (lines_from (k + 1) next (more ++ others)) → HasTree (lines_from (k + 1) next more))
    → HasTree (at_line (k + 1) r (λ next. lines_from (k + 1) next (more ++ others))) → HasTree (at_line (k + 1) r (λ next. lines_from (k + 1) next more))
accepted_at (Ok next) k more others later h = later next h
accepted_at (Err c) k more others later h = absurd (none h)
  where
    none : HasTree (Err (fault_at (k + 1) c)) → ⊥
    none w = let e = w.1 in cc

pub accepted_front : (ls others : List (List ℕ)) (k : ℕ) (state : State) → HasTree (lines_from k state (ls ++ others)) → HasTree (lines_from k state ls)
unfolding lines_from
accepted_front [] others k state h = (finish state, refl)
accepted_front (line ∷ more) others k state h = accepted_at (step state line) k more others (λ next. accepted_front more others (k + 1) next) h
