-- The fault of a whole text by the grammar alone.
use Rattle.std.specs.Prelude.{◌≡◌, ℕ, ◌+◌, ◌<◌, ◌≤◌, false, true, List, [], ◌∷◌, ◌++◌, length}
use Rattle.std.specs.Str.{is_utf8}
use Rattle.std.specs.Str.Lines.{lines}
use Rattle.yaml_subset.specs.declared.fault.YamlCause.{YamlCause}
use Rattle.yaml_subset.specs.declared.fault.YamlCause.TheVariants.{NotUtf8, TooLong}
use Rattle.yaml_subset.specs.declared.fault.YamlFault.{YamlFault}
use Rattle.yaml_subset.specs.declared.blocks.State.{State}
use Rattle.yaml_tree.specs.declared.tree.Tree.{Tree}
use Rattle.yaml_subset.specs.Grammar.{ReadsLines}
use Rattle.yaml_subset.specs.Reading.{fault_at, line_not_utf8}
use Rattle.yaml_subset.specs.FirstFault.{IsFirst}
use Rattle.yaml_subset.specs.LineFaults.{LineFault}
use Rattle.law_texts.specs.Opened.{LeavesOpen}

-- this is line n of the text, behind those before it
pub record IsLine (text : List ℕ) (n : ℕ) (before : List (List ℕ)) (line : List ℕ) : Type 0 where
  pub later : List (List ℕ)
  pub there : lines text ≡ before ++ line ∷ later
  pub number : n ≡ length before + 1

-- these lines alone have a tree, and with this line they have none
pub record Breaks (before : List (List ℕ)) (line : List ℕ) : Type 0 where
  pub tree : Tree
  pub accepted : ReadsLines 32 before tree
  pub refused : (t : Tree) → ReadsLines 32 (before ++ line ∷ []) t → ⊥

-- the cause is that of the first fault in the line, behind what these lines leave open
pub record HasCause (before : List (List ℕ)) (line : List ℕ) (cause : YamlCause) : Type 0 where
  pub state : State
  pub opened : LeavesOpen before state
  pub at : ℕ
  pub first : IsFirst (LineFault state line) at cause

-- line n is the first that breaks the text, for this cause
pub record IsBroken (text : List ℕ) (n : ℕ) (cause : YamlCause) : Type 0 where
  pub before : List (List ℕ)
  pub line : List ℕ
  pub stands : IsLine text n before line
  pub breaks : Breaks before line
  pub told : HasCause before line cause

-- the fault of a text: it is too long, else it isn't UTF-8, else a line breaks it
pub data HasFault (text : List ℕ) (fault : YamlFault) : Type 0 where
  too_long : 1048576 < length text → fault ≡ fault_at 0 TooLong → HasFault text fault
  not_utf8 : length text ≤ 1048576 → is_utf8 text ≡ false → fault ≡ fault_at (line_not_utf8 text) NotUtf8 → HasFault text fault
  broken : length text ≤ 1048576 → is_utf8 text ≡ true → IsBroken text fault.line fault.cause → HasFault text fault
