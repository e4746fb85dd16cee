-- What becomes of the files that an answer was read from.
use Rattle.std.specs.Prelude.{◌≡◌, ◌≤◌, IsErrOf, ℕ, List, Option, Result}
use Rattle.fg_outside.specs.Contents.{Contents}
use Rattle.fg_outside.specs.Counts.{Rose}
use Rattle.conf_gather.specs.declared.refused.LoadRefused.{LoadRefused}
use Rattle.conf_gather.specs.declared.refused.LoadRefused.TheVariants.{Read, Absent}

-- What the files tell of themselves, between the call and the answer.
pub record ReadsFiles {F Y : Type 0} (contents : F → Option Contents) (faults absences : F → ℕ) (refused : F → List ℕ) (old new : F) (answer : Result Y LoadRefused) : Type 0 where
  -- a read failed only where the faults rose, and else they are as they were
  pub read : (file : List ℕ) → IsErrOf answer (Read file) → Rose (faults old) (faults new)
  pub no_fault : ((file : List ℕ) → IsErrOf answer (Read file) → ⊥) → faults new ≡ faults old
  -- a file that has to be there is missing only where the absences rose
  pub absent : (file : List ℕ) → IsErrOf answer (Absent file) → Rose (absences old) (absences new)
  -- the file that wasn't read or wasn't there is the one that was refused last
  pub unread_file : (file : List ℕ) → IsErrOf answer (Read file) → refused new ≡ file
  pub absent_file : (file : List ℕ) → IsErrOf answer (Absent file) → refused new ≡ file
  pub counted_faults : faults old ≤ faults new
  pub counted_absences : absences old ≤ absences new
  pub same_contents : contents new ≡ contents old
