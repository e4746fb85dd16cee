-- What a run of `check` delivers, file by file.
use Rattle.std.proofs.Common.{◌≡◌, ℕ, ◌-◌, ◌≤◌, inl, inr, List, [], ◌∷◌, map, length, take, drop, get_or, Option, Some, None, Result, Ok, Err, refl, sym, ap, ◌∙◌, subst, arith}
use Rattle.std.proofs.lemmas.Grind.{common_steps}
use Rattle.std.specs.List.{AllByRecursion}
use Rattle.std.specs.Prelude.{IsErrOf}
use Rattle.fg_outside.specs.Contents.{Contents}
use Rattle.fg_outside.specs.Counts.{Rose}
use Rattle.fg_outside.specs.Wrote.{appended, AppendsFront}
use Rattle.fg_outside.proofs.CountLemmas.{Rose-since}
use Rattle.fg_outside.proofs.SinkLemmas.{appended-append, appended-nil, AppendsFront-none, AppendsFront-first, AppendsFront-second}
use Rattle.conf_types.specs.Configuration.{Configuration}
use Rattle.conf_gather.specs.declared.refused.LoadRefused.{LoadRefused}
use Rattle.conf_gather.specs.declared.refused.LoadRefused.TheVariants.{Read, Yaml, Conf, IncludeTwice, IncludeDepth, Absent, Memory}
use Rattle.conf_gather.specs.Files.{ReadsFiles}
use Rattle.conf_gather.specs.Gathered.{Held}
use Rattle.conf_gather.specs.Gives.{Fails}
use Rattle.conf_load.specs.Loaded.{loaded}
use Rattle.faucet_top.specs.declared.deliver.Status.{Status}
use Rattle.faucet_top.specs.declared.deliver.Status.TheVariants as statuses
use Rattle.faucet_top.specs.Answer.{Answer, Load, refusal, json_line, check_step, check_answer}
use Rattle.faucet_top.specs.Ends.{Ends, refused_status}
use Rattle.faucet_top.specs.Given.{Loads, LoadsBy, Delivers, Checks, GoesOn}
use Rattle.faucet_top.specs.Status.{number_of_status}
use Rattle.faucet_top.proofs.ReadLemmas.{refused_by}

abbrev pub File : Type 0
File = List ℕ × Load

-- ---- what loading tells

pub memory_loads : {A : Type 0} (given : Held → List ℕ → Result A LoadRefused) (contents : Option Contents) (absence fault : Type 0) (refused name : List ℕ) → LoadsBy given contents absence fault refused name (Err Memory)
memory_loads given contents absence fault refused name = record { told = λ held told. tt; absent = λ file is. absurd cc; unread = λ file is. absurd cc; named = λ file is. elim is [ inl none ↦ absurd cc | inr failed ↦ absurd cc ] }

-- a file that gave a configuration was refused by no read, whatever was counted
pub accepted_loads : {A : Type 0} (given : Held → List ℕ → Result A LoadRefused) (contents : Option Contents) (absence fault : Type 0) (refused name : List ℕ) (conf : A)
    → ((held : Contents) → contents ≡ Some held → given (held 0) name ≡ Ok conf) → LoadsBy given contents absence fault refused name (Ok conf)
accepted_loads given contents absence fault refused name conf told = record { told = told; absent = λ file is. absurd cc; unread = λ file is. absurd cc; named = λ file is. elim is [ inl none ↦ absurd cc | inr failed ↦ absurd cc ] }

-- a refusal is the same with another thing in the place of what wasn't given
err_as : {A B : Type 0} (why cause : LoadRefused) → IsErrOf {T = B} (Err why) cause → IsErrOf {T = A} (Err why) cause
err_as why cause is = ap (λ (e : LoadRefused). Err e) (refused_by why cause is)

-- a file was refused, of which this or more would have been given; the file that the refusal names is the one that was refused
pub refused_loads : {A B F : Type 0} (given : Held → List ℕ → Result A LoadRefused) (contents : F → Option Contents) (faults absences : F → ℕ) (refused : F → List ℕ) (old new : F) (name : List ℕ) (why : LoadRefused)
    → ((held : Contents) → contents old ≡ Some held → Fails why (given (held 0) name)) → ReadsFiles {Y = B} contents faults absences refused old new (Err why)
    → LoadsBy given (contents old) (Rose (absences old) (absences new)) (Rose (faults old) (faults new)) (refused new) name (Err why)
refused_loads given contents faults absences refused old new name why told files = record {
  told = told;
  absent = λ file is. files.absent file (err_as why (Absent file) is);
  unread = λ file is. files.read file (err_as why (Read file) is);
  named = λ file is. elim is [ inl none ↦ files.absent_file file (err_as why (Absent file) none) | inr failed ↦ files.unread_file file (err_as why (Read file) failed) ];
}

-- what was counted by a part of a call was counted by the whole
module _ (contents : Option Contents) (absence fault absence2 fault2 : Type 0) (f : absence → absence2) (g : fault → fault2) (refused : List ℕ) where
  each_later : (files : List File) → AllByRecursion (λ file. Loads contents absence fault refused file.0 file.1) files → AllByRecursion (λ file. Loads contents absence2 fault2 refused file.0 file.1) files
  each_later [] all = tt
  each_later (file ∷ files) all =
      let loads = all.0 in
      (record { told = loads.told; absent = λ name is. f (loads.absent name is); unread = λ name is. g (loads.unread name is); named = loads.named }, each_later files all.1)

-- ---- one file

module _ (name : List ℕ) (o0 o1 e0 e1 : Option (List ℕ)) (m0 m1 n0 n1 : ℕ) where
  abbrev Line : LoadRefused → Status → Type 0
  Line why ended = Ends (refused_status why) (refusal name why).err e0 e1 n0 n1 ended

  pub line_delivered : (a : Answer) (status ended : Status) → a.out ≡ [] → a.status ≡ number_of_status status → Ends status a.err e0 e1 n0 n1 ended → Delivers a (number_of_status ended) o0 o0 e0 e1 m0 m0 n0 n1
  line_delivered a status ended none is (inl whole) = inl (ap number_of_status whole.0 ∙ sym is, sym (appended-nil o0) ∙ ap (λ l. appended o0 l) (sym none), whole.1, refl, whole.2)
  line_delivered a status ended none is (inr front) = inr (ap number_of_status front.0, AppendsFront-none o0 a.out, front.1, inr front.2)

  pub refused : (why : LoadRefused) (ended : Status) → Line why ended → Delivers (refusal name why) (number_of_status ended) o0 o0 e0 e1 m0 m0 n0 n1
  refused (Read file) ended ends = line_delivered (refusal name (Read file)) statuses.Unread ended refl refl ends
  refused (Absent file) ended ends = line_delivered (refusal name (Absent file)) statuses.Unread ended refl refl ends
  refused (Yaml file fault) ended ends = line_delivered (refusal name (Yaml file fault)) statuses.Refused ended refl refl ends
  refused (Conf fault) ended ends = line_delivered (refusal name (Conf fault)) statuses.Refused ended refl refl ends
  refused (IncludeTwice file) ended ends = line_delivered (refusal name (IncludeTwice file)) statuses.Refused ended refl refl ends
  refused (IncludeDepth file) ended ends = line_delivered (refusal name (IncludeDepth file)) statuses.Refused ended refl refl ends
  refused Memory ended ends = line_delivered (refusal name Memory) statuses.Memory ended refl refl ends

  pub cut : (conf : Configuration) → AppendsFront o0 o1 (json_line conf) → Rose m0 m1 → (more : Answer) → Delivers (check_step name (Ok conf) more) 4 o0 o1 e0 e0 m0 m1 n0 n0
  cut conf front rose more = inr (refl, AppendsFront-first o0 o1 (json_line conf) more.out front, AppendsFront-none e0 more.err, inl rose)

-- ---- files in order

module _ (o0 o1 o2 e0 e1 e2 : Option (List ℕ)) (m0 m1 m2 n0 n1 n2 : ℕ) (status : ℕ) where
  -- a line was written, and then what follows
  behind_delivered : (name : List ℕ) (conf : Configuration) (more : Answer) → o1 ≡ appended o0 (json_line conf) → e1 ≡ e0 → m1 ≡ m0 → n1 ≡ n0
      → Delivers more status o1 o2 e1 e2 m1 m2 n1 n2 → Delivers (check_step name (Ok conf) more) status o0 o2 e0 e2 m0 m2 n0 n2
  behind_delivered name conf more line quiet outs errs (inl whole) =
      inl (whole.0, whole.1 ∙ ap (λ o. appended o more.out) line ∙ appended-append o0 (json_line conf) more.out, whole.2 ∙ ap (λ e. appended e more.err) quiet, whole.3 ∙ outs, whole.4 ∙ errs)
  behind_delivered name conf more line quiet outs errs (inr front) =
      inr (front.0, AppendsFront-second o0 o1 o2 (json_line conf) more.out line front.1, rw quiet at front.2, elim front.3 [ inl rose ↦ inl (rw outs at rose) | inr rose ↦ inr (rw errs at rose) ])

module _ (contents : Option Contents) (a0 a1 a2 f0 f1 f2 : ℕ) (o0 o1 o2 e0 e1 e2 : Option (List ℕ)) (m0 m1 m2 n0 n1 n2 : ℕ) (refused1 refused2 name : List ℕ) (names : List (List ℕ)) where
  pub none_checked : Checks contents (Rose a0 a0) (Rose f0 f0) refused1 [] 0 o0 o0 e0 e0 m0 m0 n0 n0
  none_checked = ([], (refl, tt), inl (refl, sym (appended-nil o0), sym (appended-nil e0), refl, refl))

  -- a file whose line was written, and the others
  pub next_checked : (status : ℕ) (made : Load) → Loads contents (Rose a0 a1) (Rose f0 f1) refused1 name made → GoesOn name made None o0 o1 e0 e1 m0 m1 n0 n1
      → a0 ≤ a1 → f0 ≤ f1
      → Checks contents (Rose a1 a2) (Rose f1 f2) refused2 names status o1 o2 e1 e2 m1 m2 n1 n2 → Checks contents (Rose a0 a2) (Rose f0 f2) refused2 (name ∷ names) status o0 o2 e0 e2 m0 m2 n0 n2
  next_checked status made loads (conf, is, line, quiet, outs, errs) le_a le_f (files, (are, all), delivers) = (
    (name, made) ∷ files,
    (
      ap (λ ns. name ∷ ns) are,
      (
        subst (λ (l : Load). Loads contents (Rose a0 a2) (Rose f0 f2) refused2 name l) (sym is)
            (accepted_loads loaded contents (Rose a0 a2) (Rose f0 f2) refused2 name conf (subst (λ (l : Load). Loads contents (Rose a0 a1) (Rose f0 f1) refused1 name l) is loads).told),
        each_later contents (Rose a1 a2) (Rose f1 f2) (Rose a0 a2) (Rose f0 f2) (λ r. Rose-since a0 a1 a2 le_a r) (λ r. Rose-since f0 f1 f2 le_f r) refused2 files all,
      ),
    ),
    rw is (behind_delivered o0 o1 o2 e0 e1 e2 m0 m1 m2 n0 n1 n2 status name conf (check_answer files) line quiet outs errs delivers),
  )

  abbrev unloaded : List (List ℕ) → List File
  unloaded ns = map (λ n. (n, Err Memory)) ns

  unloaded_named : (ns : List (List ℕ)) → map (λ (file : File). file.0) (unloaded ns) ≡ ns
  unloaded_named [] = refl
  unloaded_named (n ∷ ns) = ap (λ more. n ∷ more) (unloaded_named ns)

  unloaded_loads : (ns : List (List ℕ)) → AllByRecursion (λ (file : File). Loads contents (Rose a0 a1) (Rose f0 f1) refused1 file.0 file.1) (unloaded ns)
  unloaded_loads [] = tt
  unloaded_loads (n ∷ ns) = (memory_loads loaded contents (Rose a0 a1) (Rose f0 f1) refused1 n, unloaded_loads ns)

  -- a file that ended the run: the others weren't looked at
  pub last_checked : (status : Status) (made : Load) → Loads contents (Rose a0 a1) (Rose f0 f1) refused1 name made → GoesOn name made (Some status) o0 o1 e0 e1 m0 m1 n0 n1
      → Checks contents (Rose a0 a1) (Rose f0 f1) refused1 (name ∷ names) (number_of_status status) o0 o1 e0 e1 m0 m1 n0 n1
  last_checked status made loads goes = (
    (name, made) ∷ unloaded names,
    (ap (λ ns. name ∷ ns) (unloaded_named names), (loads, unloaded_loads names)),
    goes (check_answer (unloaded names)),
  )

-- ---- names in a slice

-- the first of several names
pub front_name : (names : List (List ℕ)) (name : List ℕ) → 1 ≤ length names → name ≡ get_or names 0 name → names ≡ name ∷ take (length names - 1) (drop 1 names)
front_name [] name some is = absurd (omega arith)
front_name (other ∷ names) name some is = grind (arith, common_steps)
