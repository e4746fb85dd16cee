-- A configuration file that is looked at from time to time.
use Rattle.std.specs.Prelude.{◌≡◌, ◌≤◌, ℕ, List, Option, OnSome}
use Rattle.fg_outside.specs.Contents.{Contents, refreshed}
use Rattle.fg_outside.specs.Counts.{Rose}
use Rattle.watch_hub.specs.declared.file_watch.FileWatch.{FileWatch}
use Rattle.watch_hub.specs.Look.{Finds}
use Rattle.watch_hub.specs.Watched.{differs, last_after}

-- the file is another look further: its files were refreshed once, and it has the text that was found
pub record Looks {F : Type 0} (contents : F → Option Contents) (faults absences : F → ℕ) (moment : ℕ) (old new : FileWatch F) : Type 0 where
  pub text : Option (List ℕ)
  pub finds : Finds (contents new.files) old.name text (Rose (faults old.files) (faults new.files)) (Rose (absences old.files) (absences new.files))
  pub no_fault : OnSome text (faults new.files ≡ faults old.files)
  pub refreshes : contents new.files ≡ refreshed (contents old.files)
  pub looked : new.looked ≡ moment
  pub last : new.last ≡ last_after old.last text
  pub waits : new.waits ≡ differs old.last text

-- it is the same file, looked at as often, and the counts of its files don't fall
pub record Keeps {F : Type 0} (faults absences : F → ℕ) (old new : FileWatch F) : Type 0 where
  pub name : new.name ≡ old.name
  pub every : new.every ≡ old.every
  pub counted_faults : faults old.files ≤ faults new.files
  pub counted_absences : absences old.files ≤ absences new.files
