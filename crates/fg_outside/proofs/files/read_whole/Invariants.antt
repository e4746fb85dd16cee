use Rattle.std.proofs.Common.{◌≡◌, ◌-◌, ◌≤◌, List, length, take, ℕ, Some}
use Rattle.fg_outside.specs.Contents.{Tells}
use Rattle.fg_outside.proofs.files.read_whole.Given as goal

abbrev pub invariant-loop-bytes : goal.invariant-loop-bytes
invariant-loop-bytes g l = record {
  most : length l.bytes ≤ l.most;
  front : (file : List ℕ) → Tells (g.F.Files.contents l.initial.files) l.name (Some file) → l.bytes ≡ take (length l.bytes) file;
  contents : g.F.Files.contents l.files ≡ g.F.Files.contents l.initial.files;
  faults : g.F.Files.faults l.files ≡ g.F.Files.faults l.initial.files;
  absences : g.F.Files.absences l.files ≡ g.F.Files.absences l.initial.files;
  refused : g.F.Files.refused l.files ≡ g.F.Files.refused l.initial.files;
}

abbrev pub decreases-loop-bytes : goal.decreases-loop-bytes
decreases-loop-bytes g l = l.most - length l.bytes
