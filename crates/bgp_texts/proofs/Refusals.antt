-- A text that is refused isn't accepted.
use Rattle.std.proofs.Common.{◌≡◌, ℕ, Bool, true, false, List, Some, None, Result, Ok, Err, refl, sym, ap, ◌∙◌, inl, inr}
use Rattle.std.specs.Prelude.{is_ok, if◌then◌else◌}
use Rattle.yaml_tree.specs.declared.tree.Key.{Key}
use Rattle.yaml_tree.specs.declared.tree.Tree.{Tree}
use Rattle.yaml_subset.specs.declared.fault.YamlFault.{YamlFault}
use Rattle.yaml_subset.specs.Grammar.{Reads}
use Rattle.yaml_subset.specs.TextFault.{IsFault}
use Rattle.yaml_subset.specs.Printed.{printed}
use Rattle.yaml_subset.specs.Reading.{read_of}
use Rattle.yaml_subset.proofs.GrammarLaws.{by_grammar, one_tree}
use Rattle.yaml_subset.proofs.TextFaults.{text_told, tree_or_its_fault}
use Rattle.conf_types.specs.Configuration.{Configuration}
use Rattle.conf_shape.specs.declared.refused.ConfFault.{ConfFault}
use Rattle.conf_check.specs.Accepted.{conf_of}
use Rattle.bgp_routes.specs.declared.routes.BgpRoute.{BgpRoute}
use Rattle.bgp_texts.specs.Taking.{gives, taken_of, with_taken, text_of, IsAccepted}

pub fault_refuses : (text : List ℕ) (fault : YamlFault) → IsFault text fault → IsAccepted text → ⊥
fault_refuses text fault f a = elim (tree_or_its_fault text) [
  | inl has ↦ has.2 fault f
  | inr none ↦ none.2 a.tree a.reads
]

fault_refuses_tree : (text : List ℕ) (fault : YamlFault) → IsFault text fault → (t : Tree) → Reads text t → ⊥
fault_refuses_tree text fault f t reads = elim (tree_or_its_fault text) [
  | inl has ↦ has.2 fault f
  | inr none ↦ none.2 t reads
]

pub rule_refuses : (text : List ℕ) (fault : ConfFault) → (t : Tree) × Reads text t × (conf_of t ≡ Err fault) → IsAccepted text → ⊥
rule_refuses text fault r a =
    let same : r.0 ≡ a.tree = one_tree text r.0 a.tree r.1 a.reads in
    let both : ◌≡◌ {A = Result Configuration ConfFault} (Err fault) (Ok a.conf) = sym r.2 ∙ ap conf_of same ∙ a.gives in
    cc

tree_read : (text : List ℕ) (t : Tree) → Reads text t → read_of text ≡ Ok t
tree_read text t reads = by (read_of text) refl
  where
    by : (r : Result Tree YamlFault) → read_of text ≡ r → read_of text ≡ Ok t
    by (Ok u) is = is ∙ ap (λ (x : Tree). Ok x) (one_tree text u t (by_grammar (Ok u) text is) reads)
    by (Err fault) is = absurd (fault_refuses_tree text fault (text_told text fault is) t reads)

-- a text is given where it gives a configuration, and where it gives none there is none
pub gives_when : (text : List ℕ) → IsAccepted text → gives (read_of text) ≡ true
gives_when text a = ap gives (tree_read text a.tree a.reads) ∙ by (conf_of a.tree) a.gives
  where
    by : (r : Result Configuration ConfFault) → r ≡ Ok a.conf → is_ok r ≡ true
    by (Ok conf) e = refl
    by (Err fault) e = absurd cc

pub accepted_when : (text : List ℕ) → gives (read_of text) ≡ true → IsAccepted text
accepted_when text is = by (read_of text) refl is
  where
    of_conf : (t : Tree) → Reads text t → (r : Result Configuration ConfFault) → conf_of t ≡ r → is_ok r ≡ true → IsAccepted text
    of_conf t reads (Ok conf) e is = record { tree = t; conf = conf; reads = reads; gives = e }
    of_conf t reads (Err fault) e is = absurd cc

    by : (r : Result Tree YamlFault) → read_of text ≡ r → gives r ≡ true → IsAccepted text
    by (Ok t) e is = of_conf t (by_grammar (Ok t) text e) (conf_of t) refl is
    by (Err fault) e is = absurd cc

-- the text is given, or none is
pub given_some : (text made : List ℕ) → made ≡ text → IsAccepted made → Some made ≡ (if gives (read_of text) then Some text else None)
given_some text made same a = ap (λ (it : List ℕ). Some it) same ∙ ap (λ (b : Bool). if b then Some text else None) (sym (ap (λ (it : List ℕ). gives (read_of it)) (sym same) ∙ gives_when made a))

pub given_none : (text made : List ℕ) → made ≡ text → (IsAccepted made → ⊥) → None ≡ (if gives (read_of text) then Some text else None)
given_none text made same none = by (gives (read_of text)) refl
  where
    by : (b : Bool) → gives (read_of text) ≡ b → None ≡ (if b then Some text else None)
    by true is = absurd (none (accepted_when made (ap (λ (it : List ℕ). gives (read_of it)) same ∙ is)))
    by false is = refl

-- the text that is made
pub text_same : (vlan : Key) (t : Tree) (routes taken list : List BgpRoute) (document : Tree) (text : List ℕ)
    → taken ≡ taken_of vlan t routes → list ≡ taken → document ≡ with_taken vlan list t → text ≡ printed document → text ≡ text_of vlan t routes
text_same vlan t routes taken list document text a b d e = e ∙ ap printed (d ∙ ap (λ (rs : List BgpRoute). with_taken vlan rs t) (b ∙ a))
