use Rattle.std.proofs.Common.{◌≡◌, ◌+◌, ◌*◌, Some, Ok, drop, ℕ, List}
use Rattle.fg_outside.specs.Contents.{Contents}
use Rattle.conf_gather.specs.Files.{ReadsFiles}
use Rattle.conf_gather.specs.Gathered.{held_by, each, gather}
use Rattle.conf_gather.proofs.GatherLemmas.{Left}
use Rattle.conf_gather.proofs.gathering.+walk.Given as goal

-- what is left gives what all give, and the files are as they were
abbrev pub invariant-gather_all-loop-include : goal.invariant-gather_all-loop-include
invariant-gather_all-loop-include g l = record {
  told : (held : Contents) → g.F.Files.contents l.initial.files ≡ Some held → each (gather (held_by (held 0)) l.levels) (drop l.include-index l.includes) l.all ≡ each (gather (held_by (held 0)) l.levels) l.includes l.initial.all;
  unread : (held : Contents) (file : List ℕ) → g.F.Files.contents l.initial.files ≡ Some held → Left file (held 0) l.levels l.include-index l.includes l.initial.all l.all;
  files : ReadsFiles g.F.Files.contents g.F.Files.faults g.F.Files.absences g.F.Files.refused l.initial.files l.files (Ok l.all);
}

abbrev pub decreases-gather_file : goal.decreases-gather_file
decreases-gather_file g l = 2 * l.levels

abbrev pub decreases-gather_all : goal.decreases-gather_all
decreases-gather_all g l = 2 * l.levels + 1
