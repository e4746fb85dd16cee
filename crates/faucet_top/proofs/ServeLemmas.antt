-- From what serving came to, to the reply that was given.
use Rattle.std.proofs.Common.{◌≡◌, ◌≢◌, ℕ, ◌+◌, ◌-◌, ◌^◌, ◌≤◌, min, ◌⊎◌, List, [], length, take, drop, Option, Some, Result, Ok, Err, refl, sym, ap, subst, ◌∙◌}
use Rattle.std.proofs.lemmas.List.{take-append-drop}
use Rattle.fg_outside.specs.Contents.{Contents}
use Rattle.fg_outside.specs.Counts.{Rose}
use Rattle.fg_outside.specs.HubStep.{HubStep}
use Rattle.fg_outside.specs.declared.hub.Happening.{Happening}
use Rattle.fg_outside.specs.Wrote.{appended, AppendsFront}
use Rattle.fg_outside.proofs.SinkLemmas.{appended-nil, AppendsFront-none}
use Rattle.yaml_tree.specs.declared.tree.Tree.{Tree}
use Rattle.yaml_subset.specs.Printed.{printed}
use Rattle.conf_types.specs.Configuration.{Configuration}
use Rattle.conf_gather.specs.declared.refused.LoadRefused.{LoadRefused}
use Rattle.conf_gather.specs.declared.refused.LoadRefused.TheVariants.{Read, Yaml, Conf, IncludeTwice, IncludeDepth, Absent, Memory}
use Rattle.conf_gather.specs.Gathered.{Held, gathered}
use Rattle.conf_gather.specs.Gives as load
use Rattle.conf_gather.specs.Gives.{◌>>=◌}
use Rattle.conf_load.specs.Loaded.{checked, checked_with_text, loaded, loaded_with_text}
use Rattle.watch_hub.specs.Look.{gathered_text, text_of}
use Rattle.watch_hub.specs.Texts.{missed, refreshed_by}
use Rattle.ctl_world.specs.World.{World, first}
use Rattle.hub_drive.specs.declared.drive.Drove.{Drove}
use Rattle.hub_drive.specs.declared.drive.Drove.TheVariants as drove
use Rattle.ctl_drive.specs.Driving.{lines_of}
use Rattle.ctl_serve.specs.Served.{Served, ServedPart, ServesTo}
use Rattle.faucet_top.specs.declared.deliver.Status.{Status}
use Rattle.faucet_top.specs.Answer.{Load, served_line}
use Rattle.faucet_top.specs.Ends.{Ends, status_served}
use Rattle.faucet_top.specs.Given.{BreaksOff, Delivers}
use Rattle.faucet_top.specs.Serving.{ServesUntil, served_answer}
use Rattle.faucet_top.specs.Status.{number_of_status}
use Rattle.faucet_top.proofs.ReplyLemmas.{line_behind, nothing_behind}

-- ---- loading with the text

abbrev pub WithText : Type 0
WithText = Result (Configuration × List ℕ) LoadRefused

abbrev pub conf_in : WithText → Load
conf_in (Ok x) = Ok x.0
conf_in (Err e) = Err e

abbrev text_in : WithText → List ℕ
text_in (Ok x) = x.1
text_in (Err e) = []

checked_alone : (c : Load) (text : List ℕ) → conf_in (c >>= λ conf. Ok (conf, text)) ≡ c
checked_alone (Ok conf) text = refl
checked_alone (Err e) text = refl

loaded_alone : (given : Result Tree LoadRefused) → conf_in (given >>= checked_with_text) ≡ given >>= checked
loaded_alone (Ok t) = checked_alone (checked t) (printed t)
loaded_alone (Err e) = refl

gives_conf : (made given : WithText) → load.Gives made given → load.Gives (conf_in made) (conf_in given)
gives_conf (Ok x) given is = ap conf_in is
gives_conf (Err (Read name)) given fails = tt
gives_conf (Err (Yaml name fault)) given fails = ap conf_in fails
gives_conf (Err (Conf fault)) given fails = ap conf_in fails
gives_conf (Err (IncludeTwice name)) given fails = ap conf_in fails
gives_conf (Err (IncludeDepth name)) given fails = ap conf_in fails
gives_conf (Err (Absent name)) given fails = ap conf_in fails
gives_conf (Err Memory) given fails = tt

-- what files give with the text of the document
abbrev Told : Option Contents → (name : List ℕ) → WithText → Type 0
Told contents name made = (held : Contents) → contents ≡ Some held → load.Gives made (loaded_with_text (held 0) name)

-- what is given with the text is what is given
pub told_alone : (contents : Option Contents) (name : List ℕ) (made : WithText) → Told contents name made → (held : Contents) → contents ≡ Some held → load.Gives (conf_in made) (loaded (held 0) name)
told_alone contents name made told held is =
    subst (λ (l : Load). load.Gives (conf_in made) l) (loaded_alone (gathered (held 0) name)) (gives_conf made (loaded_with_text (held 0) name) (told held is))

the_text : (c : Load) (text : List ℕ) (x : Configuration × List ℕ) → (c >>= λ conf. Ok (conf, text)) ≡ Ok x → text ≡ x.1
the_text (Ok conf) text x is = ap text_in is
the_text (Err e) text x is = absurd cc

gathered_with : (main : List ℕ) (given : Result Tree LoadRefused) (x : Configuration × List ℕ) → (given >>= checked_with_text) ≡ Ok x → gathered_text main given ≡ Some x.1
gathered_with main (Ok t) x is = ap (λ (l : List ℕ). Some l) (the_text (checked t) (printed t) x is)
gathered_with main (Err e) x is = absurd cc

-- the text is that of the gathered document
pub told_text : (held : Held) (name : List ℕ) (x : Configuration × List ℕ) → loaded_with_text held name ≡ Ok x → text_of held name ≡ Some x.1
told_text held name x is = gathered_with _ (gathered held name) x is

-- ---- files that hold the same

module _ {H F : Type 0} (may : H → HubStep → H → Type 0) (contents : F → Option Contents) (faults : F → ℕ) (config text : List ℕ) (reload_ms : ℕ) (hub0 hub1 : H) (files0 loaded_from files1 : F)
    (same : contents loaded_from ≡ contents files0) (as_often : faults loaded_from ≡ faults files0) where
  pub served_since : (most : ℕ) (w : World) (happened : List Happening) (end : Drove) → Served may contents faults config text reload_ms most w happened end hub0 hub1 loaded_from files1
      → Served may contents faults config text reload_ms most w happened end hub0 hub1 files0 files1
  served_since most w happened end s = record {
    steps = s.steps;
    went_on = s.went_on;
    leads = s.leads;
    texts = s.texts;
    watches = s.watches;
    bytes = s.bytes;
    events = s.events;
    put_in = s.put_in;
    told = s.told;
    looks = s.looks;
    refreshes = s.refreshes ∙ ap (λ (c : Option Contents). refreshed_by (length s.texts) c) same;
    are_told = λ held is. s.are_told held (same ∙ is);
    few_missed = λ held is. subst (λ n. min (n + missed held config 1 s.texts) (2 ^ 64 - 1) ≤ faults files1) as_often (s.few_missed held (same ∙ is));
  }

  pub part_since : (w : World) (happened : List Happening) → ServedPart may contents faults config text reload_ms w happened hub0 hub1 loaded_from files1 → ServedPart may contents faults config text reload_ms w happened hub0 hub1 files0 files1
  part_since w happened s = record {
    steps = s.steps;
    leads = s.leads;
    taken_in = s.taken_in;
    lost = s.lost;
    few = s.few;
    gave = s.gave;
    texts = s.texts;
    watches = s.watches;
    bytes = s.bytes;
    events = s.events;
    put_in = s.put_in;
    all = s.all;
    told = s.told;
    looks = s.looks;
    are_told = λ held is. s.are_told held (same ∙ is);
    few_missed = λ held is. subst (λ n. min (n + missed held config 1 s.texts) (2 ^ 64 - 1) ≤ faults files1) as_often (s.few_missed held (same ∙ is));
  }

  pub serves_since : (most : ℕ) (conf : Configuration) (e0 e1 : Option (List ℕ)) (end : Drove) → ServesTo may contents faults config text reload_ms most conf hub0 hub1 loaded_from files1 e0 e1 end
      → ServesTo may contents faults config text reload_ms most conf hub0 hub1 files0 files1 e0 e1 end
  serves_since most conf e0 e1 drove.Done (happened, few, served, said) = (happened, few, served_since most (first conf) happened drove.Done served, said)
  serves_since most conf e0 e1 drove.HubFault (happened, few, served, said) = (happened, few, served_since most (first conf) happened drove.HubFault served, said)
  serves_since most conf e0 e1 drove.Spent (happened, all, served, said) = (happened, all, served_since most (first conf) happened drove.Spent served, said)
  serves_since most conf e0 e1 drove.WriteFault (happened, few, served, front) = (happened, few, served_since (length happened) (first conf) happened drove.WriteFault served, front)
  serves_since most conf e0 e1 drove.Memory (happened, few, part, front) = (happened, few, part_since (first conf) happened part, front)

-- ---- until it ended

module _ {H F : Type 0} (may : H → HubStep → H → Type 0) (contents : F → Option Contents) (faults : F → ℕ) (config text : List ℕ) (reload_ms events : ℕ) (conf : Configuration) (hub0 hub1 : H) (files0 files1 : F)
    (o0 o1 e0 e1 e2 : Option (List ℕ)) (m0 m1 n0 n1 n2 : ℕ) (ended : Status) where
  abbrev Until : Drove → Type 0
  Until end =
      ServesUntil may contents faults config text reload_ms events conf hub0 hub1 files0 files1
      (λ a. Delivers a (number_of_status ended) o0 o1 e0 e2 m0 m1 n0 n2) (λ a. BreaksOff a (number_of_status ended) o0 o1 e0 e2 m0 m1 n0 n2) end

  -- the line that says how it ended stands behind the controller's
  pub last_line_behind : (lines : List ℕ) (end : Drove) → o1 ≡ o0 → e1 ≡ appended e0 lines → (m1 ≡ m0) × (n1 ≡ n0) → Ends (status_served end) (served_line end) e1 e2 n1 n2 ended
      → Delivers (served_answer lines end) (number_of_status ended) o0 o1 e0 e2 m0 m1 n0 n2
  last_line_behind lines end quiet said kept ends =
      line_behind o0 o1 e0 e1 e2 m0 m1 n0 n1 n2 [] lines (served_line end) (status_served end) ended (quiet ∙ sym (appended-nil o0)) said kept.0 kept.1 ends

  pub serves_until : (end : Drove) → ServesTo may contents faults config text reload_ms events conf hub0 hub1 files0 files1 e0 e1 end → o1 ≡ o0 → Ends (status_served end) (served_line end) e1 e2 n1 n2 ended
      → (end ≡ drove.WriteFault → Rose m0 m1 ⊎ Rose n0 n1) → (end ≢ drove.WriteFault → (m1 ≡ m0) × (n1 ≡ n0)) → n1 ≤ n2 → Until end
  serves_until drove.Done (happened, few, served, said) quiet ends failed kept le =
      (happened, few, served, last_line_behind (lines_of (first conf) happened) drove.Done quiet said (kept (λ is. cc)) ends)
  serves_until drove.HubFault (happened, few, served, said) quiet ends failed kept le =
      (happened, few, served, last_line_behind (lines_of (first conf) happened) drove.HubFault quiet said (kept (λ is. cc)) ends)
  serves_until drove.Spent (happened, all, served, said) quiet ends failed kept le =
      (happened, all, served, last_line_behind (lines_of (first conf) happened) drove.Spent quiet said (kept (λ is. cc)) ends)
  serves_until drove.WriteFault (happened, few, served, front) quiet ends failed kept le = (
    happened,
    few,
    served,
    nothing_behind o0 o1 e0 e1 e2 m0 m1 n0 n1 n2 [] (lines_of (first conf) happened) [] 4 ended
        (subst (λ (o : Option (List ℕ)). AppendsFront o0 o []) (sym quiet) (AppendsFront-none o0 [])) front (failed refl) le ends,
  )
  serves_until drove.Memory (happened, few, part, front) quiet ends failed kept le =
      let lines = lines_of (first conf) happened in (
        happened,
        few,
        part,
        (
          take front.count lines,
          record { rest = drop front.count lines; parts = sym (take-append-drop front.count lines) },
          last_line_behind (take front.count lines) drove.Memory quiet front.front (kept (λ is. cc)) ends,
        ),
      )
