-- What a look finds, by what gathering and reading give.
use Rattle.std.proofs.Common.{◌≡◌, ◌≤◌, ◌⊎◌, inl, inr, ℕ, List, [], Option, Some, None, Result, Ok, Err, refl, sym, ap, ◌∙◌, subst, arith}
use Rattle.std.specs.Prelude.{unwrap_or, IfSome, IfNone, IfOk, OnSome}
use Rattle.fg_outside.specs.Contents.{Contents, Tells, told_now}
use Rattle.fg_outside.specs.Counts.{Rose}
use Rattle.yaml_tree.specs.declared.tree.Tree.{Tree}
use Rattle.yaml_subset.specs.Printed.{printed}
use Rattle.conf_gather.specs.declared.refused.LoadRefused.{LoadRefused}
use Rattle.conf_gather.specs.declared.refused.LoadRefused.TheVariants.{Read, Yaml, Conf, IncludeTwice, IncludeDepth, Absent, Memory}
use Rattle.conf_gather.specs.Gives.{Fails}
use Rattle.conf_gather.specs.Gathered.{Held, gather, gathered}
use Rattle.watch_hub.specs.declared.look.Unread.TheVariants as causes
use Rattle.watch_hub.specs.Causes.{cause_of}
use Rattle.watch_hub.specs.Look.{Finds, front_of, gathered_text, refused_text, text_of}

abbrev Given : Type 0
Given = Result Tree LoadRefused

some_is_none : {A P : Type 0} {x : A} → Some x ≡ None → P
some_is_none h = absurd (cc)

none_is_some : {A P : Type 0} {x : A} → None ≡ Some x → P
none_is_some h = absurd (cc)

-- ---- lacks text

pub only_absent : (main : List ℕ) (given : Given) → gathered_text main given ≡ None → (file : List ℕ) × (given ≡ Err (Absent file))
only_absent main (Ok t) none = some_is_none none
only_absent main (Err (Read name)) none = some_is_none none
only_absent main (Err (Yaml name fault)) none = some_is_none none
only_absent main (Err (Conf fault)) none = some_is_none none
only_absent main (Err (IncludeTwice name)) none = some_is_none none
only_absent main (Err (IncludeDepth name)) none = some_is_none none
only_absent main (Err (Absent name)) none = (name, refl)
only_absent main (Err Memory) none = some_is_none none

-- a main file that isn't there is what gathering tells
main_absent : (held : Held) (name : List ℕ) → held name ≡ None → gathered held name ≡ Err (Absent name)
unfolding gather
main_absent held name is = rw is refl

-- what was read is refused
pub record IsRefusal (e : LoadRefused) : Type 0 where
  pub not_read : (file : List ℕ) → e ≡ Read file → ⊥
  pub not_absent : (file : List ℕ) → e ≡ Absent file → ⊥
  pub not_memory : e ≡ Memory → ⊥

refusal_given : (e : LoadRefused) (given : Given) → IsRefusal e → Fails e given → given ≡ Err e
refusal_given (Read file) given refuses fails = absurd (refuses.not_read file refl)
refusal_given (Yaml file why) given refuses fails = fails
refusal_given (Conf why) given refuses fails = fails
refusal_given (IncludeTwice file) given refuses fails = fails
refusal_given (IncludeDepth file) given refuses fails = fails
refusal_given (Absent file) given refuses fails = absurd (refuses.not_absent file refl)
refusal_given Memory given refuses fails = absurd (refuses.not_memory refl)

refusal_text : (main : List ℕ) (e : LoadRefused) → IsRefusal e → refused_text main e ≡ Some (front_of main)
refusal_text main (Read file) refuses = refl
refusal_text main (Yaml file why) refuses = refl
refusal_text main (Conf why) refuses = refl
refusal_text main (IncludeTwice file) refuses = refl
refusal_text main (IncludeDepth file) refuses = refl
refusal_text main (Absent file) refuses = absurd (refuses.not_absent file refl)
refusal_text main Memory refuses = refl

pub is_refusal : (e : LoadRefused) → cause_of e ≡ causes.Refused → IsRefusal e
is_refusal e cause = record {
  not_read = λ file is. differ (sym (ap cause_of is) ∙ cause);
  not_absent = λ file is. differ (sym (ap cause_of is) ∙ cause);
  not_memory = λ is. apart (sym (ap cause_of is) ∙ cause);
}
  where
    differ : causes.Missing ≡ causes.Refused → ⊥
    differ h = cc

    apart : causes.Memory ≡ causes.Refused → ⊥
    apart h = cc

-- ---- what is found

module _ (contents : Option Contents) (name : List ℕ) (fault absence : Type 0) where
  pub finds_tree : (out : List ℕ) (t : Tree) → out ≡ printed t → ((held : Contents) → contents ≡ Some held → gathered (held 0) name ≡ Ok t) → Finds contents name (Some out) fault absence
  finds_tree out t canonical gives = record {
    told = λ held found is same. ap (gathered_text (unwrap_or (held 0 name) [])) (gives held is) ∙ ap (λ (l : List ℕ). Some l) (sym canonical) ∙ same;
    missing = λ held is none. some_is_none none;
    unread = λ none. some_is_none none;
  }

  pub finds_unread : fault → Finds contents name None fault absence
  finds_unread failed = record {
    told = λ held found is same. none_is_some same;
    missing = λ held is none. inl failed;
    unread = λ none. inl failed;
  }

  pub finds_absent : (file : List ℕ) → absence → ((held : Contents) → contents ≡ Some held → gathered (held 0) name ≡ Err (Absent file)) → Finds contents name None fault absence
  finds_absent file absent gives = record {
    told = λ held found is same. none_is_some same;
    missing = λ held is none. inr (ap (gathered_text (unwrap_or (held 0 name) [])) (gives held is));
    unread = λ none. inr absent;
  }

  pub finds_front : (e : LoadRefused) (text : Option (List ℕ)) → IsRefusal e → ((held : Contents) → contents ≡ Some held → Fails e (gathered (held 0) name))
      → ((file : List ℕ) → Tells contents name (Some file) → IfSome text (λ front. front ≡ front_of file)) → (Tells contents name None → text ≡ None)
      → ((file : List ℕ) → Tells contents name (Some file) → IfNone text fault) → IfNone text (fault ⊎ absence) → Finds contents name text fault absence
  finds_front e text refuses fails front missing unread none = record {
    told = λ held found is same. found_at held found is same (held 0 name) refl;
    missing = λ held is lacks. missing_at held is lacks (held 0 name) refl;
    unread = λ lacks. of_none text lacks none;
  }
    where
      tells : (held : Contents) (file : Option (List ℕ)) → contents ≡ Some held → held 0 name ≡ file → Tells contents name file
      tells held file is at = ap (λ (c : Option Contents). told_now c name) is ∙ ap (λ (f : Option (List ℕ)). Some f) at

      given : (held : Contents) → contents ≡ Some held → gathered (held 0) name ≡ Err e
      given held is = refusal_given e (gathered (held 0) name) refuses (fails held is)

      text_is : (held : Contents) → contents ≡ Some held → (file : List ℕ) → held 0 name ≡ Some file → text_of (held 0) name ≡ Some (front_of file)
      text_is held is file at =
          ap (gathered_text (unwrap_or (held 0 name) [])) (given held is)
          ∙ refusal_text (unwrap_or (held 0 name) []) e refuses
          ∙ ap (λ (f : Option (List ℕ)). Some (front_of (unwrap_or f []))) at

      of_none : {P : Type 0} (t : Option (List ℕ)) → t ≡ None → IfNone t P → P
      of_none (Some t) lacks holds = some_is_none lacks
      of_none None lacks holds = holds

      of_some : (P : List ℕ → Type 0) (t : Option (List ℕ)) (found : List ℕ) → t ≡ Some found → IfSome t P → P found
      of_some P t found same holds = let Holds : Option (List ℕ) → Type 0 = λ o. IfSome o P in subst Holds same holds

      found_at : (held : Contents) (found : List ℕ) → contents ≡ Some held → text ≡ Some found → (file : Option (List ℕ)) → held 0 name ≡ file → text_of (held 0) name ≡ Some found
      found_at held found is same None at = none_is_some (sym (missing (tells held None is at)) ∙ same)
      found_at held found is same (Some file) at =
          text_is held is file at ∙ ap (λ (l : List ℕ). Some l) (sym (of_some (λ (l : List ℕ). l ≡ front_of file) text found same (front file (tells held (Some file) is at))))

      missing_at : (held : Contents) → contents ≡ Some held → text ≡ None → (file : Option (List ℕ)) → held 0 name ≡ file → fault ⊎ (text_of (held 0) name ≡ None)
      missing_at held is lacks None at = inr (ap (gathered_text (unwrap_or (held 0 name) [])) (main_absent (held 0) name at))
      missing_at held is lacks (Some file) at = inl (of_none text lacks (unread file (tells held (Some file) is at)))

-- ---- the front that is read behind a refusal

none_by : {P Q : Type 0} (t : Option (List ℕ)) → (P → Q) → IfNone t P → IfNone t Q
none_by None f holds = f holds
none_by (Some t) f holds = holds

pub rose_before : (a b c : ℕ) → a ≤ b → Rose b c → Rose a c
rose_before a b c le rose = omega (arith, le, rose)

pub finds_refused : {E : Type 0} (contents mid before : Option Contents) (name : List ℕ) (fault absence later_fault later_absence : Type 0) → (later_fault → fault) → (later_absence → absence)
    → (e : LoadRefused) (r : Result (Option (List ℕ)) E) → IsRefusal e → contents ≡ mid → mid ≡ before → ((held : Contents) → before ≡ Some held → Fails e (gathered (held 0) name))
    → ((file : List ℕ) → Tells mid name (Some file) → IfOk r (λ text. IfSome text (λ front. front ≡ front_of file))) → (Tells mid name None → IfOk r (λ text. text ≡ None))
    → ((file : List ℕ) → Tells mid name (Some file) → IfOk r (λ text. IfNone text later_fault)) → IfOk r (λ text. IfNone text (later_fault ⊎ later_absence))
    → IfOk r (λ text. Finds contents name text fault absence)
finds_refused contents mid before name fault absence later_fault later_absence by_fault by_absence e (Err x) refuses same so_far fails front missing unread none = tt
finds_refused contents mid before name fault absence later_fault later_absence by_fault by_absence e (Ok text) refuses same so_far fails front missing unread none =
    finds_front contents name fault absence e text refuses (λ held is. fails held (sym so_far ∙ (sym same ∙ is))) (λ file tells. front file (there (Some file) tells)) (λ tells. missing (there None tells))
    (λ file tells. none_by text by_fault (unread file (there (Some file) tells)))
    (none_by text (λ (s : later_fault ⊎ later_absence). by_either s) none)
  where
    there : (file : Option (List ℕ)) → Tells contents name file → Tells mid name file
    there file tells = ap (λ (c : Option Contents). told_now c name) (sym same) ∙ tells

    by_either : later_fault ⊎ later_absence → fault ⊎ absence
    by_either (inl f) = inl (by_fault f)
    by_either (inr a) = inr (by_absence a)

missing_refused : {P : Type 0} → causes.Refused ≡ causes.Missing → P
missing_refused h = absurd (cc)

memory_missing : {P : Type 0} → causes.Memory ≡ causes.Missing → P
memory_missing h = absurd (cc)

-- a read failed, or a needed file isn't there
pub finds_missing : (contents before : Option Contents) (name : List ℕ) (fault absence : Type 0) (e : LoadRefused) → cause_of e ≡ causes.Missing → contents ≡ before
    → ((held : Contents) → before ≡ Some held → Fails e (gathered (held 0) name)) → ((file : List ℕ) → e ≡ Read file → fault) → ((file : List ℕ) → e ≡ Absent file → absence)
    → Finds contents name None fault absence
finds_missing contents before name fault absence (Read file) cause same fails read absent = finds_unread contents name fault absence (read file refl)
finds_missing contents before name fault absence (Absent file) cause same fails read absent =
    finds_absent contents name fault absence file (absent file refl) (λ held is. fails held (sym same ∙ is))
finds_missing contents before name fault absence (Yaml file why) cause same fails read absent = missing_refused cause
finds_missing contents before name fault absence (Conf why) cause same fails read absent = missing_refused cause
finds_missing contents before name fault absence (IncludeTwice file) cause same fails read absent = missing_refused cause
finds_missing contents before name fault absence (IncludeDepth file) cause same fails read absent = missing_refused cause
finds_missing contents before name fault absence Memory cause same fails read absent = memory_missing cause

-- a text that is found changes no count
pub counts_same : {E : Type 0} (r : Result (Option (List ℕ)) E) (a b c : ℕ) → b ≡ a → IfOk r (λ text. OnSome text (c ≡ b)) → IfOk r (λ text. OnSome text (c ≡ a))
counts_same (Err x) a b c same holds = tt
counts_same (Ok None) a b c same holds = tt
counts_same (Ok (Some text)) a b c same holds = holds ∙ same
