-- A whole text: its lines one after the other, and the first fault.
use Rattle.std.specs.Prelude.{◌≡◌, ℕ, ◌+◌, nat_lt, ◌==◌, if◌then◌else◌, List, [], ◌∷◌, length, take, count_by, Result, Ok, Err}
use Rattle.std.specs.Str.{is_utf8}
use Rattle.std.specs.Str.Lines.{lines}
use Rattle.std.specs.Str.Lossy.{utf8_valid_len}
use Rattle.yaml_subset.specs.declared.fault.YamlCause.{YamlCause}
use Rattle.yaml_subset.specs.declared.fault.YamlCause.TheVariants.{NotUtf8, TooLong}
use Rattle.yaml_subset.specs.declared.fault.YamlFault.{YamlFault}
use Rattle.yaml_subset.specs.declared.fault.YamlRefused.{YamlRefused}
use Rattle.yaml_subset.specs.declared.fault.YamlRefused.TheVariants as refused
use Rattle.yaml_subset.specs.declared.blocks.State.{State}
use Rattle.yaml_subset.specs.declared.blocks.State.TheVariants.{Start}
use Rattle.yaml_tree.specs.declared.tree.Tree.{Tree}
use Rattle.yaml_subset.specs.Blocks.{step, finish}

abbrev pub fault_at : ℕ → YamlCause → YamlFault
fault_at line cause = record { line = line; cause = cause }

abbrev pub at_line : ℕ → Result State YamlCause → (State → Result Tree YamlFault) → Result Tree YamlFault
at_line n (Ok state) more = more state
at_line n (Err cause) more = Err (fault_at n cause)

-- the lines behind the first n, one after the other
unfoldable pub lines_from : ℕ → State → List (List ℕ) → Result Tree YamlFault
lines_from n state [] = Ok (finish state)
lines_from n state (line ∷ more) = at_line (n + 1) (step state line) (λ next. lines_from (n + 1) next more)

-- the line in which the bytes stop being UTF-8
abbrev pub line_not_utf8 : List ℕ → ℕ
line_not_utf8 text = count_by (λ b. b == 10) (take (utf8_valid_len text) text) + 1

-- the tree of a text, or its first fault
unfoldable pub read_of : List ℕ → Result Tree YamlFault
read_of text = if nat_lt 1048576 (length text) then Err (fault_at 0 TooLong)
    else if is_utf8 text then lines_from 0 Start (lines text)
    else Err (fault_at (line_not_utf8 text) NotUtf8)

-- a refusal is the fault of the text, unless memory ran out
abbrev pub FailsText : {Y : Type 0} → YamlRefused → Result Y YamlFault → Type 0
FailsText refused.Memory read = Unit {0}
FailsText (refused.At fault) read = read ≡ Err fault

-- the answer is the tree or the first fault of the text, unless memory ran out
abbrev pub GivesTree : Result Tree YamlRefused → Result Tree YamlFault → Type 0
GivesTree (Ok tree) read = read ≡ Ok tree
GivesTree (Err e) read = FailsText e read
