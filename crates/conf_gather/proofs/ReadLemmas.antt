-- Reading a text by its lines is reading it by the grammar, and a front of one byte more than the limit tells all.
use Rattle.std.proofs.Common.{◌≡◌, ℕ, ◌<◌, inl, inr, List, length, take, Result, Ok, Err, true, refl, sym, ap, ◌∙◌, arith}
use Rattle.std.specs.Prelude.{nat_lt}
use Rattle.std.proofs.lemmas.Bool.{cases_lt, lt-ltb}
use Rattle.std.proofs.lemmas.List.{take_all, length-take}
use Rattle.yaml_subset.specs.Grammar.{Reads}
use Rattle.yaml_subset.specs.Reading.{read_of, fault_at}
use Rattle.yaml_subset.specs.TextFault.{IsFault, HasTreeOrItsFault}
use Rattle.yaml_subset.specs.declared.fault.YamlCause.TheVariants.{TooLong}
use Rattle.yaml_subset.specs.declared.fault.YamlFault.{YamlFault}
use Rattle.yaml_tree.specs.declared.tree.Tree.{Tree}
use Rattle.yaml_subset.proofs.GrammarLaws.{by_grammar, one_tree}
use Rattle.yaml_subset.proofs.TextFaults.{text_told, text_tells, tree_or_its_fault}

never_both : (text : List ℕ) → HasTreeOrItsFault text → (t : Tree) (f : YamlFault) → Reads text t → IsFault text f → ⊥
never_both text (inl has) t f reads fault = has.2 f fault
never_both text (inr has) t f reads fault = has.2 t reads

pub tree_read : (text : List ℕ) (t : Tree) → Reads text t → read_of text ≡ Ok t
tree_read text t reads = by_result (read_of text) refl
  where
    by_result : (r : Result Tree YamlFault) → read_of text ≡ r → read_of text ≡ Ok t
    by_result (Ok u) is = is ∙ ap (λ (x : Tree). Ok x) (one_tree text u t (by_grammar (Ok u) text is) reads)
    by_result (Err f) is = absurd (never_both text (tree_or_its_fault text) t f reads (text_told text f is))

pub read_tree_of : (text : List ℕ) (t : Tree) → read_of text ≡ Ok t → Reads text t
read_tree_of text t is = by_grammar (Ok t) text is

pub fault_read : (text : List ℕ) (f : YamlFault) → IsFault text f → read_of text ≡ Err f
fault_read = text_tells

too_long : (text : List ℕ) → 1048576 < length text → read_of text ≡ Err (fault_at 0 TooLong)
unfolding read_of
too_long text long = let lt : nat_lt 1048576 (length text) ≡ true = lt-ltb 1048576 (length text) long in rw lt refl

pub read_front : (text : List ℕ) → read_of (take 1048577 text) ≡ read_of text
read_front text =
    elim (cases_lt 1048577 (length text)) [
      | inl longer ↦ too_long (take 1048577 text) (omega (arith, length-take 1048577 text)) ∙ sym (too_long text (omega arith))
      | inr short ↦ ap read_of (take_all 1048577 text short)
    ]
