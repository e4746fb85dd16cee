-- What callers see of files in memory.
use Rattle.std.specs.Prelude.{ℕ, ◌+◌, List, Option, Some}
use Rattle.fg_outside.specs.declared.mem_files.FilesInMemory.{FilesInMemory}
use Rattle.fg_outside.specs.Contents.{Contents}
use Rattle.fg_outside.specs.Folders.{contents_of}

-- what they hold after so many more refreshes
abbrev pub held_in : {P : Type 0} → FilesInMemory P → Option Contents
held_in files = Some (λ later. contents_of files.folders (files.at + later))

-- how often a file wasn't there
abbrev pub absences_of : {P : Type 0} → FilesInMemory P → ℕ
absences_of files = files.absences

-- the name at which a read last failed or found no file
abbrev pub refused_of : {P : Type 0} → FilesInMemory P → List ℕ
refused_of files = files.refused.name

-- which of the calls are to fail
abbrev pub plan_of : {P : Type 0} → FilesInMemory P → P
plan_of files = files.plan
