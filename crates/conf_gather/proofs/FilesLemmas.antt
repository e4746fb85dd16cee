-- What becomes of the files over steps that stand one behind the other.
use Rattle.std.proofs.Common.{◌≡◌, ◌∙◌, ℕ, List, Option, Result, Ok, Err, subst, arith}
use Rattle.std.specs.Prelude.{IfErr, IsErrOf}
use Rattle.fg_outside.specs.Contents.{Contents}
use Rattle.conf_gather.specs.declared.refused.LoadRefused.{LoadRefused}
use Rattle.conf_gather.specs.declared.refused.LoadRefused.TheVariants.{Read, Absent}
use Rattle.conf_gather.specs.Gives.{IsWithin}
use Rattle.conf_gather.specs.Files.{ReadsFiles}

-- what a text, a name or want of memory decides is refused for no read
pub never_unread : {Y : Type 0} (r : Result Y LoadRefused) (file : List ℕ) → IfErr r IsWithin → IsErrOf r (Read file) → ⊥
never_unread {Y} r file within is = subst (λ (x : Result Y LoadRefused). IfErr x IsWithin) is within

never_refused : {X : Type 0} (x : X) (e : LoadRefused) → IsErrOf (Ok x) e → ⊥
never_refused x e is = cc

same_refusal : {X Y : Type 0} (e other : LoadRefused) → IsErrOf {T = X} (Err e) other → IsErrOf {T = Y} (Err e) other
same_refusal e other is = cc

module _ {F X Y : Type 0} {contents : F → Option Contents} {faults absences : F → ℕ} {refused : F → List ℕ} where
  -- files are read, and then more of them
  pub read_on : {old mid new : F} {x : X} {r : Result Y LoadRefused} → ReadsFiles contents faults absences refused old mid (Ok x) → ReadsFiles contents faults absences refused mid new r
      → ReadsFiles contents faults absences refused old new r
  read_on {old} {mid} {new} {x} {r} first later =
      let none : faults mid ≡ faults old = first.no_fault (λ file is. never_refused x (Read file) is) in
      record {
        read = λ file is. rw none at (later.read file is);
        no_fault = λ never. later.no_fault never ∙ none;
        absent = λ file is. omega (arith, first.counted_absences, later.absent file is);
        unread_file = later.unread_file;
        absent_file = later.absent_file;
        counted_faults = omega (arith, first.counted_faults, later.counted_faults);
        counted_absences = omega (arith, first.counted_absences, later.counted_absences);
        same_contents = later.same_contents ∙ first.same_contents;
      }

  -- a refusal is passed on
  pub passed_on : {old new : F} {e : LoadRefused} → ReadsFiles {Y = X} contents faults absences refused old new (Err e) → ReadsFiles {Y = Y} contents faults absences refused old new (Err e)
  passed_on {old} {new} {e} first = record {
    read = λ file is. first.read file (same_refusal e (Read file) is);
    no_fault = λ never. first.no_fault (λ file is. never file (same_refusal e (Read file) is));
    absent = λ file is. first.absent file (same_refusal e (Absent file) is);
    unread_file = λ file is. first.unread_file file (same_refusal e (Read file) is);
    absent_file = λ file is. first.absent_file file (same_refusal e (Absent file) is);
    counted_faults = first.counted_faults;
    counted_absences = first.counted_absences;
    same_contents = first.same_contents;
  }
