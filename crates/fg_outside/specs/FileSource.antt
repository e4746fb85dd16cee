-- What callers see of a file that is read as a source.
use Rattle.std.specs.Prelude.{◌≡◌, ◌≢◌, ◌⊎◌, ℕ, ◌+◌, ◌-◌, ◌^◌, ◌<◌, ◌≤◌, List, ◌++◌, take, drop, min, Option, Some, None}
use Rattle.fg_outside.specs.declared.file_source.FileSource.{FileSource}
use Rattle.fg_outside.specs.Contents.{Contents, Tells, told_now}
use Rattle.fg_outside.specs.Counts.{Rose}

-- the files that it reads from
abbrev pub files_of : {F : Type 0} → FileSource F → F
files_of source = source.files

-- the name of its file, as UTF-8 bytes
abbrev pub name_of : {F : Type 0} → FileSource F → List ℕ
name_of source = source.name

-- how often a read found no file, as a counter that stays at its last value
abbrev pub missing_of : {F : Type 0} → FileSource F → ℕ
missing_of source = source.missing

-- what of a file that is told lies behind a place, with what was read ahead in front of it
abbrev pub left_of : List ℕ → ℕ → Option (Option (List ℕ)) → Option (List ℕ)
left_of ahead place None = None
left_of ahead place (Some None) = None
left_of ahead place (Some (Some file)) = Some (ahead ++ drop place file)

-- what it has left, where its file is told and is there
abbrev pub left_in : {F : Type 0} → (F → Option Contents) → FileSource F → Option (List ℕ)
left_in contents source = left_of (take (source.end - source.start) (drop source.start source.ahead)) source.place (told_now (contents source.files) source.name)

-- how often a read failed: those of the files, and those that found no file, as a counter that stays at its last value
abbrev pub faults_of : {F : Type 0} → (F → ℕ) → FileSource F → ℕ
faults_of faults source = min (faults source.files + source.missing) (2 ^ 64 - 1)

-- the steps of the source: its files hold what they held, it reads the file of that name, and the counts don't fall; where it
-- counts that it found no file, its files count that too, and the name at which they last refused a read is its own, where its
-- faults grew
pub record KeepsFiles {F : Type 0} (contents : F → Option Contents) (faults absences : F → ℕ) (refused : F → List ℕ) (old new : FileSource F) : Type 0 where
  pub same_contents : contents (files_of new) ≡ contents (files_of old)
  pub same_name : name_of new ≡ name_of old
  pub files_faults : faults (files_of old) ≤ faults (files_of new)
  pub files_absences : absences (files_of old) ≤ absences (files_of new)
  pub missing : missing_of new ≢ missing_of old → Rose (absences (files_of old)) (absences (files_of new))
  -- a file that is told isn't missed
  pub here : (file : List ℕ) → Tells (contents (files_of old)) (name_of old) (Some file) → missing_of new ≡ missing_of old
  pub all_faults : faults_of faults old ≤ faults_of faults new
  pub named : faults_of faults old < faults_of faults new → refused (files_of new) ≡ name_of new
  pub no_other : (refused (files_of new) ≡ refused (files_of old)) ⊎ (refused (files_of new) ≡ name_of new)
