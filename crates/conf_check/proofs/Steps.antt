-- From the parts of a check to the whole.
use Rattle.std.proofs.Common.{◌≡◌, Option, Some, None, Result, Ok, Err, List, [], ◌∷◌, refl, ap, sym, ◌∙◌, subst, IfOk, OnOk}
use Rattle.yaml_tree.specs.declared.tree.Tree.{Tree}
use Rattle.conf_types.specs.declared.acl.Acl.{Acl}
use Rattle.conf_types.specs.declared.datapath.Dp.{Dp}
use Rattle.conf_types.specs.declared.vlan.Router.{Router}
use Rattle.conf_types.specs.declared.vlan.Vlan.{Vlan}
use Rattle.conf_types.specs.Configuration.{Configuration}
use Rattle.conf_types.specs.Valid.{IsValid}
use Rattle.conf_shape.specs.declared.raw.RawConf.{RawConf}
use Rattle.conf_shape.specs.declared.refused.ConfFault.{ConfFault}
use Rattle.conf_shape.specs.declared.refused.ConfRefused.{ConfRefused}
use Rattle.conf_shape.specs.declared.refused.ConfRefused.TheVariants as refused
use Rattle.conf_shape.specs.Faults.{first_fault}
use Rattle.conf_shape.specs.Refused as shape
use Rattle.conf_shape.specs.Raw.{raw_of}
use Rattle.conf_resolve.specs.declared.ordered.OrderedConf.{OrderedConf}
use Rattle.conf_resolve.specs.InOrder.{ordered}
use Rattle.conf_resolve.specs.InRange.{IsInRange}
use Rattle.conf_resolve.specs.Resolved.{resolved}
use Rattle.conf_rules.specs.Places.{first}
use Rattle.conf_rules.specs.Rules.{faults, first_broken}
use Rattle.conf_check.specs.Accepted.{unless, meant_by, broken_rule, conf_of, BreaksRule, IsRefused}

none_first : {A : Type 0} (xs : List A) → first xs ≡ None → xs ≡ []
none_first [] is = refl
none_first (x ∷ xs) is = absurd (cc)

-- no rule is broken
no_faults : (raw : RawConf) → broken_rule raw ≡ None → faults (ordered raw) (resolved (ordered raw)) ≡ []
unfolding broken_rule
no_faults raw is = none_first (faults (ordered raw) (resolved (ordered raw))) is

-- ---- what is found of a raw configuration

pub rule_found : (raw : RawConf) (o : OrderedConf) (conf : Configuration) (fault : Option ConfFault) → o ≡ ordered raw → conf ≡ resolved o → fault ≡ first_broken o conf → fault ≡ broken_rule raw
unfolding broken_rule
rule_found raw o conf fault in_order meant found =
    found ∙ ap (first_broken o) meant ∙ ap (λ (p : OrderedConf). first_broken p (resolved p)) in_order

pub conf_found : (raw : RawConf) (o : OrderedConf) (conf : Configuration) → o ≡ ordered raw → conf ≡ resolved o → conf ≡ meant_by raw
unfolding meant_by
conf_found raw o conf in_order meant = meant ∙ ap resolved in_order

abbrev pub of_lists : List Dp × List Vlan × List Acl × List Router → Configuration
of_lists p = record { dps = p.0; vlans = p.1; acls = p.2; routers = p.3 }

pub same_lists : (conf : Configuration) (p : List Dp × List Vlan × List Acl × List Router) → p ≡ (conf.dps, conf.vlans, conf.acls, conf.routers) → of_lists p ≡ conf
same_lists conf p is = ap of_lists is

-- ---- of a document

pub conf_of_is : (t : Tree) (shape rule : Option ConfFault) → first_fault t ≡ shape → broken_rule (raw_of t) ≡ rule → conf_of t ≡ unless shape (unless rule (Ok (meant_by (raw_of t))))
unfolding conf_of
conf_of_is t shape rule s r =
    ap (λ o. unless o (unless (broken_rule (raw_of t)) (Ok (meant_by (raw_of t))))) s
    ∙ ap (λ o. unless shape (unless o (Ok (meant_by (raw_of t))))) r

pub tree_made : (t : Tree) (raw : RawConf) (r : Result Configuration ConfRefused) → first_fault t ≡ None → raw ≡ raw_of t → IfOk r (λ conf. conf ≡ meant_by raw) → OnOk r (broken_rule raw ≡ None) → IfOk r (λ conf. conf_of t ≡ Ok conf)
tree_made t raw (Ok conf) right is made unbroken =
    conf_of_is t None None right (sym (ap broken_rule is) ∙ unbroken) ∙ ap (λ (c : Configuration). Ok c) (sym (ap meant_by is) ∙ sym made)
tree_made t raw (Err e) right is made unbroken = tt

pub tree_broken : (t : Tree) (raw : RawConf) (e : ConfRefused) → first_fault t ≡ None → raw ≡ raw_of t → BreaksRule raw e → IsRefused t e
tree_broken t raw (refused.At fault) right is broken = conf_of_is t None (Some fault) right (sym (ap broken_rule is) ∙ broken)
tree_broken t raw refused.Memory right is broken = tt

pub tree_misshaped : (t : Tree) (e : ConfRefused) → shape.IsRefused t e → IsRefused t e
tree_misshaped t (refused.At fault) is = conf_of_is t (Some fault) (broken_rule (raw_of t)) is refl
tree_misshaped t refused.Memory is = tt

-- ---- what is accepted is valid

abbrev pub RangeLaw : Type 0
RangeLaw = (t : Tree) → first_fault t ≡ None → IsInRange (raw_of t)

abbrev pub ValidLaw : Type 0
ValidLaw = (raw : RawConf) → IsInRange raw → faults (ordered raw) (resolved (ordered raw)) ≡ [] → IsValid (resolved (ordered raw))

pub meant_is_valid : ValidLaw → (raw : RawConf) → IsInRange raw → broken_rule raw ≡ None → IsValid (meant_by raw)
unfolding meant_by
meant_is_valid valid raw range none = valid raw range (no_faults raw none)

by_parts : (made conf : Configuration) (shape rule : Option ConfFault) → unless shape (unless rule (Ok made)) ≡ Ok conf → (shape ≡ None) × (rule ≡ None) × (made ≡ conf)
by_parts made conf None None is = (refl, refl, cc)
by_parts made conf None (Some fault) is = absurd (cc)
by_parts made conf (Some fault) rule is = absurd (cc)

pub accepted_is_valid : RangeLaw → ValidLaw → (t : Tree) (conf : Configuration) → conf_of t ≡ Ok conf → IsValid conf
accepted_is_valid range valid t conf is =
    let parts = by_parts (meant_by (raw_of t)) conf (first_fault t) (broken_rule (raw_of t)) (sym (conf_of_is t (first_fault t) (broken_rule (raw_of t)) refl refl) ∙ is) in
    subst IsValid parts.2 (meant_is_valid valid (raw_of t) (range t parts.0) parts.1)
