-- What a reload makes of a text, by the grammar.
use Rattle.std.proofs.Common.{◌≡◌, inl, inr, ℕ, List, Result, Ok, Err, refl, sym, ◌∙◌, ap}
use Rattle.std.specs.Prelude.{◌↔◌}
use Rattle.yaml_tree.specs.declared.tree.Tree.{Tree}
use Rattle.yaml_subset.specs.declared.fault.YamlFault.{YamlFault}
use Rattle.yaml_subset.specs.Grammar.{Reads}
use Rattle.yaml_subset.specs.Reading.{read_of}
use Rattle.yaml_subset.specs.TextFault.{IsFault}
use Rattle.conf_types.specs.Configuration.{Configuration}
use Rattle.conf_shape.specs.declared.refused.ConfFault.{ConfFault}
use Rattle.conf_causes.specs.Causes.{fault_text}
use Rattle.conf_check.specs.Accepted.{conf_of}
use Rattle.ctl_core.specs.Reloading.{of_tree, yaml_fault_text, of_text, accepted}
use Rattle.law_hearing.specs.Refused.{IsRefusedFor}

abbrev Read : Type 0
Read = Result Configuration (List ℕ)

conf_given : (r : Result Configuration ConfFault) (conf : Configuration) → of_tree r ≡ Ok conf → r ≡ Ok conf
conf_given (Ok x) conf e = let same : x ≡ conf = cc in ap (λ (c : Configuration). Ok c) same
conf_given (Err f) conf e = absurd cc

cause_given : (r : Result Configuration ConfFault) (cause : List ℕ) → of_tree r ≡ Err cause → (f : ConfFault) × (r ≡ Err f) × (cause ≡ fault_text f)
cause_given (Ok x) cause e = absurd cc
cause_given (Err f) cause e = (f, refl, let same : fault_text f ≡ cause = cc in sym same)

module _ (text : List ℕ) (tree : (t : Tree) → (read_of text ≡ Ok t) ↔ Reads text t) (fault : (f : YamlFault) → (read_of text ≡ Err f) ↔ IsFault text f) where
  accepts : (r : Result Tree YamlFault) → read_of text ≡ r → (conf : Configuration) → of_text r ≡ Ok conf → (t : Tree) × Reads text t × (conf_of t ≡ Ok conf)
  accepts (Ok t) e conf h = (t, (tree t).0 e, conf_given (conf_of t) conf h)
  accepts (Err f) e conf h = absurd cc

  accepts_back : (conf : Configuration) → (t : Tree) × Reads text t × (conf_of t ≡ Ok conf) → accepted text ≡ Ok conf
  accepts_back conf w = ap of_text ((tree w.0).1 w.1) ∙ ap of_tree w.2

  pub text_accepted : (conf : Configuration) → (accepted text ≡ Ok conf) ↔ ((t : Tree) × Reads text t × (conf_of t ≡ Ok conf))
  text_accepted conf = (accepts (read_of text) refl conf, accepts_back conf)

  refuses : (r : Result Tree YamlFault) → read_of text ≡ r → (cause : List ℕ) → of_text r ≡ Err cause → IsRefusedFor text cause
  refuses (Ok t) e cause h = let w = cause_given (conf_of t) cause h in inr (t, w.0, (tree t).0 e, w.1, w.2)
  refuses (Err f) e cause h = inl (f, (fault f).0 e, let same : yaml_fault_text f ≡ cause = cc in sym same)

  refuses_back : (cause : List ℕ) → IsRefusedFor text cause → accepted text ≡ Err cause
  refuses_back cause (inl w) = ap of_text ((fault w.0).1 w.1) ∙ ap (λ (c : List ℕ). Err c) (sym w.2)
  refuses_back cause (inr w) = ap of_text ((tree w.0).1 w.2) ∙ ap of_tree w.3 ∙ ap (λ (c : List ℕ). Err c) (sym w.4)

  pub text_refused : (cause : List ℕ) → (accepted text ≡ Err cause) ↔ IsRefusedFor text cause
  text_refused cause = (refuses (read_of text) refl cause, refuses_back cause)
