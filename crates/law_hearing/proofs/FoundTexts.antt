-- The text that a look finds gives what the files give.
use Rattle.std.proofs.Common.{◌≡◌, ◌≤◌, ℕ, List, length, true, Some, Result, Ok, Err, sym, ◌∙◌, ap}
use Rattle.std.specs.Prelude.{◌↔◌, unwrap_or, []}
use Rattle.yaml_tree.specs.declared.tree.Tree.{Tree}
use Rattle.yaml_subset.specs.Grammar.{Reads}
use Rattle.yaml_subset.specs.Levels.{levels}
use Rattle.yaml_subset.specs.Printed.{printed}
use Rattle.yaml_subset.specs.ReadBack.{is_sound, IsSpelled}
use Rattle.yaml_subset.specs.Reading.{read_of}
use Rattle.conf_types.specs.Configuration.{Configuration}
use Rattle.conf_shape.specs.declared.refused.ConfFault.{ConfFault}
use Rattle.conf_check.specs.Accepted.{conf_of}
use Rattle.conf_gather.specs.declared.refused.LoadRefused.{LoadRefused}
use Rattle.conf_gather.specs.Gives.{◌>>=◌}
use Rattle.conf_gather.specs.Gathered.{Held, gathered}
use Rattle.conf_gather.proofs.ReadLemmas.{read_front}
use Rattle.conf_load.specs.Loaded.{unless_fault, checked, loaded}
use Rattle.watch_hub.specs.Look.{front_of, gathered_text, text_of}
use Rattle.ctl_core.specs.Reloading.{of_tree, of_text, accepted}

-- a document gives one configuration to a reload and to a load
same_conf : (r : Result Configuration ConfFault) (conf : Configuration) → (of_tree r ≡ Ok conf) ↔ (unless_fault r ≡ Ok conf)
same_conf (Ok x) conf = (λ e. let same : x ≡ conf = cc in ap (λ (c : Configuration). Ok c) same, λ e. let same : x ≡ conf = cc in ap (λ (c : Configuration). Ok c) same)
same_conf (Err f) conf = (λ e. absurd cc, λ e. absurd cc)

loaded_is : (held : Held) (name : List ℕ) (t : Tree) → gathered held name ≡ Ok t → loaded held name ≡ unless_fault (conf_of t)
loaded_is held name t e = ap (λ (r : Result Tree LoadRefused). r >>= checked) e

accepted_is : (t : Tree) → read_of (printed t) ≡ Ok t → accepted (printed t) ≡ of_tree (conf_of t)
accepted_is t e = ap of_text e

pub look_gives : (sound : (held : Held) (name : List ℕ) (t : Tree) → gathered held name ≡ Ok t → (is_sound t ≡ true) × (levels t ≤ 32))
    → (has : (t : Tree) → IsSpelled t → Reads (printed t) t) → (read : (text : List ℕ) (t : Tree) → Reads text t → read_of text ≡ Ok t)
    → (held : Held) (name : List ℕ) (t : Tree) (conf : Configuration) → gathered held name ≡ Ok t → length (printed t) ≤ 1048576
    → (text : List ℕ) × (text_of held name ≡ Some text) × ((accepted text ≡ Ok conf) ↔ (loaded held name ≡ Ok conf))
look_gives sound has read held name t conf e short =
    let s = sound held name t e in
    let r = has t (record { sound = s.0; nested = s.1; short = short }) in
    let a = accepted_is t (read (printed t) t r) in
    let l = loaded_is held name t e in
    let w = same_conf (conf_of t) conf in (
      printed t,
      ap (gathered_text (unwrap_or (held name) [])) e,
      (λ h. l ∙ w.0 (sym a ∙ h), λ h. a ∙ w.1 (sym l ∙ h)),
    )

pub front_gives : (main : List ℕ) → accepted (front_of main) ≡ accepted main
front_gives main = ap of_text (read_front main)
