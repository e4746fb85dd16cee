-- What a document gives, by its keys and what is written under them.
use Rattle.std.specs.Prelude.{◌≡◌, ◌↔◌, List, [], ◌∷◌, Option, None, Some, Result, Ok, Err}
use Rattle.std.proofs.Common.{inl, inr, refl, sym, ap, ◌∙◌}
use Rattle.std.proofs.lemmas.Option.{none-some}
use Rattle.yaml_tree.specs.declared.tree.Tree.{Tree}
use Rattle.conf_types.specs.Configuration.{Configuration}
use Rattle.conf_shape.specs.declared.raw.RawConf.{RawConf}
use Rattle.conf_shape.specs.declared.refused.ConfFault.{ConfFault}
use Rattle.conf_shape.specs.Faults.{first_fault}
use Rattle.conf_shape.specs.Raw.{raw_of}
use Rattle.conf_resolve.specs.InOrder.{ordered}
use Rattle.conf_resolve.specs.Resolved.{resolved}
use Rattle.conf_rules.specs.Places.{first}
use Rattle.conf_rules.specs.Rules.{faults, first_broken}
use Rattle.conf_check.specs.Accepted.{unless, meant_by, broken_rule, conf_of}
use Rattle.law_checks.specs.Says.{Says}
use Rattle.law_keys.specs.Causes.{IsFaultOf}
use Rattle.law_keys.specs.Grammar.{IsDocument}
use Rattle.law_keys.specs.Means.{Means, IsRefusedFor}

-- ---- what conf_of is made of

abbrev stands_for : RawConf → Configuration
stands_for raw = resolved (ordered raw)

abbrev first_of : RawConf → Option ConfFault
first_of raw = first_broken (ordered raw) (resolved (ordered raw))

abbrev GivenBy : Option ConfFault → Option ConfFault → Configuration → Result Configuration ConfFault
GivenBy shape rule conf = unless shape (unless rule (Ok conf))

conf_is : (t : Tree) → conf_of t ≡ GivenBy (first_fault t) (first_of (raw_of t)) (stands_for (raw_of t))
unfolding conf_of broken_rule meant_by
conf_is t = refl

none_first : (fs : List ConfFault) → first fs ≡ None → fs ≡ []
none_first [] e = refl
none_first (f ∷ fs) e = absurd (none-some f (sym e))

module _ (no_fault : (t : Tree) → (first_fault t ≡ None) ↔ IsDocument t)
    (written : (t : Tree) → first_fault t ≡ None → Says t (raw_of t))
    (alone : (t : Tree) (raw other : RawConf) → Says t raw → Says t other → raw ≡ other) where
  its_own : (t : Tree) (raw : RawConf) → IsDocument t → Says t raw → raw ≡ raw_of t
  its_own t raw right says = alone t raw (raw_of t) says (written t ((no_fault t).1 right))

  accepted : (t : Tree) (conf : Configuration) → conf_of t ≡ Ok conf → Means t conf
  accepted t conf is = by (first_fault t) (first_of (raw_of t)) refl refl (sym (conf_is t) ∙ is)
    where
      by : (shape rule : Option ConfFault) → first_fault t ≡ shape → first_of (raw_of t) ≡ rule → GivenBy shape rule (stands_for (raw_of t)) ≡ Ok conf → Means t conf
      by None None s r e = record { right = (no_fault t).0 s; raw = raw_of t; says = written t s; unbroken = none_first (faults (ordered (raw_of t)) (resolved (ordered (raw_of t)))) r; is = cc }
      by None (Some fault) s r e = absurd cc
      by (Some fault) rule s r e = absurd cc

  gives : (t : Tree) (conf : Configuration) → Means t conf → conf_of t ≡ Ok conf
  gives t conf m =
      let own = its_own t m.raw m.right m.says in
      conf_is t ∙ ap (λ s. GivenBy s (first_of (raw_of t)) (stands_for (raw_of t))) ((no_fault t).1 m.right)
      ∙ ap (λ (raw : RawConf). GivenBy None (first_of raw) (stands_for raw)) (sym own)
      ∙ ap (λ fs. GivenBy None (first fs) (stands_for m.raw)) m.unbroken
      ∙ ap (λ (c : Configuration). Ok c) (sym m.is)

  refused : ((t : Tree) (fault : ConfFault) → (first_fault t ≡ Some fault) ↔ IsFaultOf t fault) → (t : Tree) (fault : ConfFault) → conf_of t ≡ Err fault → IsRefusedFor t fault
  refused told t fault is = by (first_fault t) (first_of (raw_of t)) refl refl (sym (conf_is t) ∙ is)
    where
      by : (shape rule : Option ConfFault) → first_fault t ≡ shape → first_of (raw_of t) ≡ rule → GivenBy shape rule (stands_for (raw_of t)) ≡ Err fault → IsRefusedFor t fault
      by None None s r e = absurd cc
      by None (Some f) s r e = let same : f ≡ fault = cc in inr (record { right = (no_fault t).0 s; raw = raw_of t; says = written t s; first = r ∙ ap Some same })
      by (Some f) rule s r e = let same : f ≡ fault = cc in inl ((told t fault).0 (s ∙ ap Some same))

  refuses : ((t : Tree) (fault : ConfFault) → (first_fault t ≡ Some fault) ↔ IsFaultOf t fault) → (t : Tree) (fault : ConfFault) → IsRefusedFor t fault → conf_of t ≡ Err fault
  refuses told t fault (inl f) = conf_is t ∙ ap (λ s. GivenBy s (first_of (raw_of t)) (stands_for (raw_of t))) ((told t fault).1 f)
  refuses told t fault (inr b) =
      conf_is t ∙ ap (λ s. GivenBy s (first_of (raw_of t)) (stands_for (raw_of t))) ((no_fault t).1 b.right)
      ∙ ap (λ (raw : RawConf). GivenBy None (first_of raw) (stands_for raw)) (sym (its_own t b.raw b.right b.says))
      ∙ ap (λ r. GivenBy None r (stands_for b.raw)) b.first

  pub law : (t : Tree) (conf : Configuration) → (conf_of t ≡ Ok conf) ↔ Means t conf
  law t conf = (accepted t conf, gives t conf)

  pub refusal_law : ((t : Tree) (fault : ConfFault) → (first_fault t ≡ Some fault) ↔ IsFaultOf t fault) → (t : Tree) (fault : ConfFault) → (conf_of t ≡ Err fault) ↔ IsRefusedFor t fault
  refusal_law told t fault = (refused told t fault, refuses told t fault)
