-- The fault of a whole text: which line is the first that breaks it, and the first fault in that line.
use Rattle.std.specs.Prelude.{◌≡◌, ◌⊎◌, ℕ, ◌+◌, ◌<◌, ◌≤◌, true, false, List, [], ◌∷◌, ◌++◌, length, Result, Ok, Err}
use Rattle.std.specs.Str.{is_utf8}
use Rattle.std.specs.Str.Lines.{lines}
use Rattle.yaml_subset.specs.declared.fault.YamlCause.{YamlCause}
use Rattle.yaml_subset.specs.declared.fault.YamlCause.TheVariants.{NotUtf8, TooLong}
use Rattle.yaml_subset.specs.declared.fault.YamlFault.{YamlFault}
use Rattle.yaml_subset.specs.declared.fault.YamlRefused.{YamlRefused}
use Rattle.yaml_subset.specs.declared.fault.YamlRefused.TheVariants as refused
use Rattle.yaml_subset.specs.declared.blocks.State.{State}
use Rattle.yaml_subset.specs.declared.blocks.State.TheVariants.{Start}
use Rattle.yaml_tree.specs.declared.tree.Tree.{Tree}
use Rattle.yaml_subset.specs.Blocks.{step}
use Rattle.yaml_subset.specs.Reading.{fault_at, line_not_utf8}
use Rattle.yaml_subset.specs.Grammar.{ReadsLines, Reads}
use Rattle.yaml_subset.specs.FirstFault.{IsFirst}
use Rattle.yaml_subset.specs.LineFaults.{LineFault}

-- lines lead from what is open before them to what is open behind them
abbrev pub Lead : State → List (List ℕ) → State → Type 0
Lead state [] end = state ≡ end
Lead state (line ∷ more) end = (next : State) × (step state line ≡ Ok next) × Lead next more end

-- Line n is the first that breaks the text: the lines before it alone are an accepted text by the grammar,
-- and with it they are none. The cause is the first of the faults in the line, behind what they leave open.
pub record BreaksText (text : List ℕ) (n : ℕ) (cause : YamlCause) : Type 0 where
  pub before : List (List ℕ)
  pub line : List ℕ
  pub later : List (List ℕ)
  pub there : lines text ≡ before ++ line ∷ later
  pub number : n ≡ length before + 1
  pub tree : Tree
  pub accepted : ReadsLines 32 before tree
  pub refused : (t : Tree) → ReadsLines 32 (before ++ line ∷ []) t → ⊥
  pub state : State
  pub lead : Lead Start before state
  pub at : ℕ
  pub first : IsFirst (LineFault state line) at cause

-- the fault of a text: it is too long, else it isn't UTF-8, else a line breaks it
pub data IsFault (text : List ℕ) (fault : YamlFault) : Type 0 where
  text_too_long : 1048576 < length text → fault ≡ fault_at 0 TooLong → IsFault text fault
  text_not_utf8 : length text ≤ 1048576 → is_utf8 text ≡ false → fault ≡ fault_at (line_not_utf8 text) NotUtf8 → IsFault text fault
  text_broken : length text ≤ 1048576 → is_utf8 text ≡ true → BreaksText text fault.line fault.cause → IsFault text fault

-- the text has a tree by the grammar or a fault, and never both
abbrev pub HasTreeOrItsFault : List ℕ → Type 0
HasTreeOrItsFault text = ((t : Tree) × Reads text t × ((fault : YamlFault) → IsFault text fault → ⊥)) ⊎ ((fault : YamlFault) × IsFault text fault × ((t : Tree) → Reads text t → ⊥))

-- A text that is answered with a tree has no fault, and one that is refused has the fault that is told, and
-- no other, unless memory ran out.
abbrev pub TellsFault : Result Tree YamlRefused → List ℕ → Type 0
TellsFault (Ok t) text = (fault : YamlFault) → IsFault text fault → ⊥
TellsFault (Err refused.Memory) text = Unit {0}
TellsFault (Err (refused.At fault)) text = IsFault text fault × ((other : YamlFault) → IsFault text other → other ≡ fault)
