-- Two documents that are the same but for the order of entries give the same configuration.
use Rattle.std.proofs.Common.{◌≡◌, ℕ, List, Option, Some, None, Ok, refl, sym, ap, ◌∙◌, subst}
use Rattle.std.specs.Prelude.{◌↔◌}
use Rattle.std.specs.Option.{option_map}
use Rattle.yaml_tree.specs.declared.tree.Tree.{Tree}
use Rattle.yaml_subset.specs.Grammar.{Reads}
use Rattle.conf_types.specs.Configuration.{Configuration}
use Rattle.conf_types.specs.Valid.{IsValid}
use Rattle.conf_shape.specs.declared.kinds.Kind.TheVariants.{Map}
use Rattle.conf_shape.specs.declared.kinds.MapKind.TheVariants.{Top}
use Rattle.conf_shape.specs.declared.raw.RawConf.{RawConf}
use Rattle.conf_shape.specs.declared.refused.ConfFault.{ConfFault}
use Rattle.conf_shape.specs.Faults.{first, fault_of, first_fault}
use Rattle.conf_shape.specs.Raw.{raw_of}
use Rattle.conf_resolve.specs.declared.ordered.OrderedConf.{OrderedConf}
use Rattle.conf_resolve.specs.InOrder.{ordered}
use Rattle.conf_resolve.specs.Resolved.{resolved}
use Rattle.conf_rules.specs.Rules.{first_broken}
use Rattle.conf_check.specs.Accepted.{unless, meant_by, broken_rule, conf_of}
use Rattle.law_checks.proofs.Right.{document_fine}
use Rattle.law_documents.specs.Gives.{Gives}
use Rattle.law_documents.specs.SameButOrder.{SameButOrder}
use Rattle.law_documents.proofs.Back.{same_back}
use Rattle.law_documents.proofs.Fits.{fine_same}
use Rattle.law_documents.proofs.Ordered.{valid_rises, ordered_equal}
use Rattle.law_documents.proofs.Raw.{raw_same}

-- ---- what a document gives, by its parts

record IsAccepted (t : Tree) (conf : Configuration) : Type 0 where
  shape : first_fault t ≡ None
  rules : broken_rule (raw_of t) ≡ None
  meant : meant_by (raw_of t) ≡ conf

of_conf : (t : Tree) (conf : Configuration) → conf_of t ≡ Ok conf → IsAccepted t conf
unfolding conf_of
of_conf t conf is = let m = by (first_fault t) (broken_rule (raw_of t)) is in record { shape = m.0; rules = m.1; meant = m.2 }
  where
    by : (shape rule : Option ConfFault) → unless shape (unless rule (Ok (meant_by (raw_of t)))) ≡ Ok conf → (shape ≡ None) × (rule ≡ None) × (meant_by (raw_of t) ≡ conf)
    by None None is = (refl, refl, cc)
    by None (Some fault) is = absurd cc
    by (Some fault) rule is = absurd cc

into_conf : (t : Tree) (conf : Configuration) → IsAccepted t conf → conf_of t ≡ Ok conf
unfolding conf_of
into_conf t conf a =
    ap (λ shape. unless shape (unless (broken_rule (raw_of t)) (Ok (meant_by (raw_of t))))) a.shape
    ∙ ap (λ rule. unless rule (Ok (meant_by (raw_of t)))) a.rules
    ∙ ap (λ (c : Configuration). Ok c) a.meant

-- ---- the parts of two raw configurations that are one in order

meant_valid : (raw : RawConf) → IsValid (meant_by raw) → IsValid (resolved (ordered raw))
unfolding meant_by
meant_valid raw valid = valid

meant_same : (a b : RawConf) → ordered a ≡ ordered b → meant_by a ≡ meant_by b
unfolding meant_by
meant_same a b is = ap resolved is

rules_same : (a b : RawConf) → ordered a ≡ ordered b → broken_rule a ≡ broken_rule b
unfolding broken_rule
rules_same a b is = ap (λ (o : OrderedConf). first_broken o (resolved o)) is

-- ---- the law

abbrev pub ValidLaw : Type 0
ValidLaw = (t : Tree) (conf : Configuration) → conf_of t ≡ Ok conf → IsValid conf

one_way : ValidLaw → (t u : Tree) (conf : Configuration) → SameButOrder t u → conf_of t ≡ Ok conf → conf_of u ≡ Ok conf
one_way valid t u conf same is =
    let a = of_conf t conf is in
    let right = document_fine t a.shape in
    let rises = valid_rises (raw_of t) (meant_valid (raw_of t) (subst IsValid (sym a.meant) (valid t conf is))) in
    let order = ordered_equal (raw_of t) (raw_of u) (raw_same t u right same) rises in
    into_conf u conf (record {
      shape = ap (λ fs. option_map fault_of (first fs)) (fine_same t u same (Map Top) right);
      rules = sym (rules_same (raw_of t) (raw_of u) order) ∙ a.rules;
      meant = sym (meant_same (raw_of t) (raw_of u) order) ∙ a.meant;
    })

pub law : ValidLaw → (t u : Tree) (conf : Configuration) → SameButOrder t u → (conf_of t ≡ Ok conf) ↔ (conf_of u ≡ Ok conf)
law valid t u conf same = (one_way valid t u conf same, one_way valid u t conf (same_back t u same))

-- ---- of texts

pub text_law : ((t u : Tree) (conf : Configuration) → SameButOrder t u → (conf_of t ≡ Ok conf) ↔ (conf_of u ≡ Ok conf)) → ((text : List ℕ) (t u : Tree) → Reads text t → Reads text u → t ≡ u)
    → (text other : List ℕ) (t u : Tree) (conf : Configuration) → Reads text t → Reads other u → SameButOrder t u → Gives text conf ↔ Gives other conf
text_law both one text other t u conf read also same =
    ((λ g. (u, also, (both t u conf same).0 (ap conf_of (one text t g.0 read g.1) ∙ g.2))), (λ g. (t, read, (both t u conf same).1 (ap conf_of (one other u g.0 also g.1) ∙ g.2))))
