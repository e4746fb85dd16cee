-- Whole texts are read by the grammar.
use Rattle.std.proofs.Common.{◌≡◌, inl, inr, ℕ, List, subst}
use Rattle.yaml_subset.specs.declared.fault.YamlFault.{YamlFault}
use Rattle.yaml_tree.specs.declared.tree.Tree.{Tree}
use Rattle.yaml_subset.specs.Grammar.{Reads}
use Rattle.yaml_subset.specs.Printed.{printed}
use Rattle.yaml_subset.specs.ReadBack.{IsSpelled}
use Rattle.yaml_subset.specs.TextFault.{IsFault, HasTreeOrItsFault}
use Rattle.yaml_subset.proofs.GrammarLaws.{one_tree}
use Rattle.yaml_subset.proofs.PrintedText.{reads_back}
use Rattle.yaml_subset.proofs.TextFaults.{tree_or_its_fault}

pub no_tree : (text : List ℕ) → (f : YamlFault) × IsFault text f → (t : Tree) → Reads text t → ⊥
no_tree text w t r = by_either (tree_or_its_fault text)
  where
    by_either : HasTreeOrItsFault text → ⊥
    by_either (inl has) = has.2 w.0 w.1
    by_either (inr has) = has.2 t r

pub its_fault : (text : List ℕ) → ((t : Tree) → Reads text t → ⊥) → (f : YamlFault) × IsFault text f
its_fault text none = by_either (tree_or_its_fault text)
  where
    by_either : HasTreeOrItsFault text → (f : YamlFault) × IsFault text f
    by_either (inl has) = absurd (none has.0 has.1)
    by_either (inr has) = (has.0, has.1)

pub printed_alone : (t u : Tree) → IsSpelled t → Reads (printed t) u → u ≡ t
printed_alone t u spelled reads = one_tree (printed t) u t reads (reads_back t spelled)

pub printed_one : (t u : Tree) → IsSpelled t → IsSpelled u → printed t ≡ printed u → t ≡ u
printed_one t u spelled also same = printed_alone u t also (subst (λ (text : List ℕ). Reads text t) same (reads_back t spelled))
