-- What calls in turn make of a source.
use Rattle.std.proofs.Common.{◌≡◌, ◌≢◌, ◌⊎◌, ◌==◌, ℕ, zero, suc, ◌+◌, ◌-◌, ◌^◌, ◌<◌, ◌≤◌, Bool, true, false, List, Option, Some, refl, sym, ◌∙◌, subst, inl, inr, arith, min, eqb-true, eq-eqb, true≢false}
use Rattle.fg_outside.specs.declared.file_source.FileSource.{FileSource}
use Rattle.fg_outside.specs.Contents.{Contents, Tells, told_now}
use Rattle.fg_outside.specs.Counts.{Rose}
use Rattle.fg_outside.specs.FileSource.{files_of, name_of, missing_of, faults_of, KeepsFiles}
use Rattle.fg_outside.specs.Steps.{Went, stay, on}
use Rattle.fg_outside.proofs.CountLemmas.{Rose-later, Rose-since}

module _ {S : Type 0} (may : S → S → Type 0) where
  -- one call
  pub Went-one : (from to : S) → may from to → Went may from to
  Went-one from to step = on from to stay step

  -- calls behind calls
  pub Went-append : (from mid : S) → Went may from mid → (to : S) → Went may mid to → Went may from to
  Went-append from mid first _ stay = first
  Went-append from mid first _ (on last to second step) = on last to (Went-append from mid first last second) step

  -- what each step has, and calls in turn have, all calls have
  pub Went-all : (P : S → S → Type 0) → ((s : S) → P s s) → ((a b c : S) → P a b → P b c → P a c) → ((a b : S) → may a b → P a b) → (from to : S) → Went may from to → P from to
  Went-all P none both each from _ stay = none from
  Went-all P none both each from _ (on mid to way step) = both from mid to (Went-all P none both each from mid way) (each mid to step)

-- calls in turn, as `using(fg_outside::proofs::StepLemmas::calls)` takes them
pub ruleset calls = (stay, Went-one, Went-append)

-- ---- a file as a source

rose_at : (one two three a b c : ℕ) → a ≤ b → b ≤ c → (two ≢ one → Rose a b) → (three ≢ two → Rose b c) → three ≢ one → (same : Bool) → (two == one) ≡ same → Rose a c
rose_at one two three a b c first second rose later other true is = Rose-since a b c first (later (λ h. other (h ∙ eqb-true two one is)))
rose_at one two three a b c first second rose later other false is = Rose-later a b c (rose (λ h. true≢false (sym (eq-eqb two one h) ∙ is))) second

-- where a number changed over two steps, it changed in one of them
rose_in_turn : (one two three a b c : ℕ) → a ≤ b → b ≤ c → (two ≢ one → Rose a b) → (three ≢ two → Rose b c) → three ≢ one → Rose a c
rose_in_turn one two three a b c first second rose later other = rose_at one two three a b c first second rose later other (two == one) refl

rose_of_either : (faults now missed : ℕ) (P : Type 0) → (missed ≢ 0 → P) → Rose (min (faults + 0) (2 ^ 64 - 1)) (min (now + missed) (2 ^ 64 - 1)) → faults ≤ now → Rose faults now ⊎ P
rose_of_either faults now zero P missing rose le = inl (omega (arith, rose, le))
rose_of_either faults now (suc n) P missing rose le = inr (missing (λ h. omega (arith, h)))

-- where a number grew over two steps, it grew in one of them; and a name that each step leaves, or sets to this one, is this one
named_at : (one two three : ℕ) (a b c name : List ℕ) → two ≤ three → (one < two → b ≡ name) → (two < three → c ≡ name) → c ≡ b → one < three → (same : Bool) → (two == three) ≡ same → c ≡ name
named_at one two three a b c name up first second kept grew true is = kept ∙ first (omega (arith, grew, eqb-true two three is))
named_at one two three a b c name up first second kept grew false is = second (omega (arith, up, (λ (h : two ≡ three). true≢false (sym (eq-eqb two three h) ∙ is))))

named_in_turn : (one two three : ℕ) (a b c name : List ℕ) → two ≤ three → (one < two → b ≡ name) → (two < three → c ≡ name) → (c ≡ b) ⊎ (c ≡ name) → one < three → c ≡ name
named_in_turn one two three a b c name up first second (inl kept) grew = named_at one two three a b c name up first second kept grew (two == three) refl
named_in_turn one two three a b c name up first second (inr is) grew = is

either_in_turn : (a b c name : List ℕ) → (b ≡ a) ⊎ (b ≡ name) → (c ≡ b) ⊎ (c ≡ name) → (c ≡ a) ⊎ (c ≡ name)
either_in_turn a b c name first (inr is) = inr is
either_in_turn a b c name (inl one) (inl two) = inl (two ∙ one)
either_in_turn a b c name (inr one) (inl two) = inr (two ∙ one)

either_named : (a b name other : List ℕ) → name ≡ other → (b ≡ a) ⊎ (b ≡ name) → (b ≡ a) ⊎ (b ≡ other)
either_named a b name other same (inl kept) = inl kept
either_named a b name other same (inr is) = inr (is ∙ same)

module _ {F : Type 0} (contents : F → Option Contents) (faults absences : F → ℕ) (refused : F → List ℕ) where
  pub KeepsFiles-same : (source : FileSource F) → KeepsFiles contents faults absences refused source source
  KeepsFiles-same source = record { same_contents = refl; same_name = refl; files_faults = omega arith; files_absences = omega arith; missing = λ other. absurd (other refl); here = λ file tells. refl; all_faults = omega arith; named = λ grew. absurd (omega (arith, grew)); no_other = inl refl }

  pub KeepsFiles-then : (a b c : FileSource F) → KeepsFiles contents faults absences refused a b → KeepsFiles contents faults absences refused b c → KeepsFiles contents faults absences refused a c
  KeepsFiles-then a b c first second = record {
    same_contents = second.same_contents ∙ first.same_contents;
    same_name = second.same_name ∙ first.same_name;
    files_faults = omega (arith, first.files_faults, second.files_faults);
    files_absences = omega (arith, first.files_absences, second.files_absences);
    missing = rose_in_turn (missing_of a) (missing_of b) (missing_of c) _ _ _ first.files_absences second.files_absences first.missing second.missing;
    here = λ file tells.
        second.here file (subst (λ (cs : Option Contents). told_now cs (name_of b) ≡ Some (Some file)) (sym first.same_contents)
        (subst (λ (name : List ℕ). told_now (contents (files_of a)) name ≡ Some (Some file)) (sym first.same_name) tells))
        ∙ first.here file tells;
    all_faults = omega (arith, first.all_faults, second.all_faults);
    named =
        named_in_turn (faults_of faults a) (faults_of faults b) (faults_of faults c) (refused (files_of a)) (refused (files_of b)) (refused (files_of c)) (name_of c)
        second.all_faults (λ grew. first.named grew ∙ sym second.same_name) second.named second.no_other;
    no_other =
        either_in_turn (refused (files_of a)) (refused (files_of b)) (refused (files_of c)) (name_of c)
        (either_named (refused (files_of a)) (refused (files_of b)) (name_of b) (name_of c) (sym second.same_name) first.no_other) second.no_other;
  }

  pub KeepsFiles-fault : (old new : FileSource F) → missing_of old ≡ 0 → KeepsFiles contents faults absences refused old new → Rose (faults_of faults old) (faults_of faults new) → Rose (faults (files_of old)) (faults (files_of new)) ⊎ Rose (absences (files_of old)) (absences (files_of new))
  KeepsFiles-fault old new none keeps rose =
      rose_of_either (faults (files_of old)) (faults (files_of new)) (missing_of new) (Rose (absences (files_of old)) (absences (files_of new)))
      (λ some. keeps.missing (λ h. some (h ∙ none)))
      (subst (λ k. Rose (min (faults (files_of old) + k) (2 ^ 64 - 1)) (faults_of faults new)) none rose)
      keeps.files_faults

  -- a file that is told wasn't missed
  pub KeepsFiles-read : (old new : FileSource F) (file : List ℕ) → missing_of old ≡ 0 → Tells (contents (files_of old)) (name_of old) (Some file) → KeepsFiles contents faults absences refused old new → Rose (faults_of faults old) (faults_of faults new) → Rose (faults (files_of old)) (faults (files_of new))
  KeepsFiles-read old new file none tells keeps rose =
      elim (rose_of_either (faults (files_of old)) (faults (files_of new)) (missing_of new) ⊥
      (λ some. some (keeps.here file tells ∙ none))
      (subst (λ k. Rose (min (faults (files_of old) + k) (2 ^ 64 - 1)) (faults_of faults new)) none rose)
      keeps.files_faults) [ inl read ↦ read | inr never ↦ absurd never ]
