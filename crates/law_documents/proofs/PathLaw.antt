-- The path of the rule that is told, and of any refusal.
use Rattle.std.specs.Prelude.{◌≡◌, ◌⊎◌, List, [], ◌∷◌, ◌++◌, Option, None, Some, Ok, Err}
use Rattle.std.specs.List.{AllByRecursion}
use Rattle.std.proofs.Common.{inl, inr, refl, ap, ◌∙◌, subst}
use Rattle.std.proofs.lemmas.Option.{none-some, same_Some}
use Rattle.yaml_tree.specs.declared.tree.Pair.{Pair}
use Rattle.yaml_tree.specs.declared.tree.Tree.{Tree}
use Rattle.yaml_tree.specs.declared.tree.Tree.TheOpen.{Tree-F}
use Rattle.conf_types.specs.Configuration.{Configuration}
use Rattle.conf_shape.specs.declared.refused.ConfFault.{ConfFault}
use Rattle.conf_shape.specs.Faults.{first_fault}
use Rattle.conf_shape.specs.Raw.{raw_of}
use Rattle.conf_resolve.specs.declared.ordered.OrderedConf.{OrderedConf}
use Rattle.conf_resolve.specs.InOrder.{ordered}
use Rattle.conf_resolve.specs.Resolved.{resolved}
use Rattle.conf_rules.specs.Limits.{passed_limits}
use Rattle.conf_rules.specs.Names.{repeated_vlans, repeated_dps, repeated_ports, unknown_vlans, vlans_twice, unknown_acls, acls_twice}
use Rattle.conf_rules.specs.Places.{first}
use Rattle.conf_rules.specs.Ports.{wrong_acl_ports, lacking_rules, wrong_mirrors, wrong_stacks}
use Rattle.conf_rules.specs.Routing.{overlapping_vips, shared_vlans, wrong_routes, repeated_routes}
use Rattle.conf_rules.specs.Rules.{name_faults, port_faults, routing_faults, faults}
use Rattle.conf_check.specs.Accepted.{unless, meant_by, broken_rule, conf_of}
use Rattle.law_checks.proofs.Says.{document_says}
use Rattle.law_checks.proofs.Members.{all_joined}
use Rattle.law_documents.specs.Forms.{IsWritten, IsScalar, IsSection, IsOwn, NamesVlan, NamesPort, NamesPorts, NamesNoVlan, NamesNoAcl, SpellsNetwork, SpellsRoute}
use Rattle.law_documents.specs.Leads.{PathLeads, PathsLead}
use Rattle.law_documents.specs.Rules.{NamePathsLead, PortPathsLead, RoutingPathsLead, LimitPathsLead, IsOfNumbers}
use Rattle.law_documents.specs.Shape.{IsOfMissing}
use Rattle.law_documents.proofs.Limits.{limits_lead}
use Rattle.law_documents.proofs.Names.{names_lead}
use Rattle.law_documents.proofs.Ports.{ports_lead}
use Rattle.law_documents.proofs.Routing.{routing_leads}
use Rattle.law_documents.proofs.Shape.{shape_leads}

pub names_law : (t : Tree) → first_fault t ≡ None → NamePathsLead t (ordered (raw_of t)) (resolved (ordered (raw_of t)))
names_law t none = names_lead t (raw_of t) (document_says t none)

pub ports_law : (t : Tree) → first_fault t ≡ None → PortPathsLead t (ordered (raw_of t)) (resolved (ordered (raw_of t)))
ports_law t none = ports_lead t (raw_of t) (document_says t none)

pub routing_law : (t : Tree) → first_fault t ≡ None → RoutingPathsLead t (ordered (raw_of t)) (resolved (ordered (raw_of t)))
routing_law t none = routing_leads t (raw_of t) (document_says t none)

pub limits_law : (t : Tree) → first_fault t ≡ None → LimitPathsLead t (ordered (raw_of t)) (resolved (ordered (raw_of t)))
limits_law t none = limits_lead t (raw_of t) (document_says t none)

-- ---- all of them

first_is : (P : ConfFault → Type 0) (xs : List ConfFault) (x : ConfFault) → AllByRecursion P xs → first xs ≡ Some x → P x
first_is P [] x all is = absurd (none-some x is)
first_is P (y ∷ ys) x all is = subst P (same_Some y x is) all.0

module _ (t : Tree) where
  abbrev IsTold : ConfFault → Type 0
  IsTold fault = PathLeads t IsWritten fault ⊎ IsOfNumbers t fault

  any_form : (Form : Tree-F Tree Pair → Type 0) (xs : List ConfFault) → PathsLead t Form xs → AllByRecursion IsTold xs
  any_form Form [] all = tt
  any_form Form (x ∷ xs) all = (inl (all.0.0, all.0.1, all.0.2, all.0.3, tt), any_form Form xs all.1)

  of_limits : (xs : List ConfFault) → AllByRecursion (λ fault. PathLeads t IsOwn fault ⊎ IsOfNumbers t fault) xs → AllByRecursion IsTold xs
  of_limits [] all = tt
  of_limits (x ∷ xs) all = (by all.0, of_limits xs all.1)
    where
      by : PathLeads t IsOwn x ⊎ IsOfNumbers t x → IsTold x
      by (inl leads) = inl (leads.0, leads.1, leads.2, leads.3, tt)
      by (inr numbers) = inr numbers

  joined : (xs ys : List ConfFault) → AllByRecursion IsTold xs → AllByRecursion IsTold ys → AllByRecursion IsTold (xs ++ ys)
  joined xs ys a b = all_joined IsTold xs ys a b

  module _ (o : OrderedConf) (conf : Configuration) where
    names_told : NamePathsLead t o conf → AllByRecursion IsTold (name_faults o conf)
    names_told n =
        joined (repeated_vlans o) _ (any_form IsOwn (repeated_vlans o) n.repeated_vlans)
        (joined (repeated_dps o) _ (any_form IsOwn (repeated_dps o) n.repeated_dps)
        (joined (repeated_ports o) _ (any_form IsOwn (repeated_ports o) n.repeated_ports)
        (joined (unknown_vlans o) _ (any_form (NamesNoVlan o) (unknown_vlans o) n.unknown_vlans)
        (joined (vlans_twice o) _ (any_form NamesVlan (vlans_twice o) n.vlans_twice)
        (joined (unknown_acls o conf) (acls_twice o) (any_form (NamesNoAcl conf) (unknown_acls o conf) n.unknown_acls)
        (any_form IsSection (acls_twice o) n.acls_twice))))))

    ports_told : PortPathsLead t o conf → AllByRecursion IsTold (port_faults o conf)
    ports_told p =
        joined (wrong_acl_ports o conf) _ (any_form NamesPort (wrong_acl_ports o conf) p.acl_ports)
        (joined (lacking_rules o) _ (any_form IsScalar (lacking_rules o) p.fields)
        (joined (wrong_mirrors o conf) (wrong_stacks o conf) (any_form NamesPorts (wrong_mirrors o conf) p.mirrors)
        (any_form IsSection (wrong_stacks o conf) p.stacks)))

    routing_told : RoutingPathsLead t o conf → AllByRecursion IsTold (routing_faults o conf)
    routing_told r =
        joined (overlapping_vips o conf) _ (any_form SpellsNetwork (overlapping_vips o conf) r.vips)
        (joined (shared_vlans o conf) _ (any_form NamesVlan (shared_vlans o conf) r.routers)
        (joined (wrong_routes o conf) (repeated_routes o conf) (any_form SpellsRoute (wrong_routes o conf) r.routes)
        (any_form SpellsNetwork (repeated_routes o conf) r.repeats)))

    all_told : NamePathsLead t o conf → PortPathsLead t o conf → RoutingPathsLead t o conf → LimitPathsLead t o conf → AllByRecursion IsTold (faults o conf)
    all_told n p r l =
        joined (name_faults o conf) _ (names_told n)
        (joined (port_faults o conf) _ (ports_told p)
        (joined (routing_faults o conf) (passed_limits o conf) (routing_told r) (of_limits (passed_limits o conf) l)))

pub law : (t : Tree) (fault : ConfFault) → first_fault t ≡ None → broken_rule (raw_of t) ≡ Some fault → PathLeads t IsWritten fault ⊎ IsOfNumbers t fault
unfolding broken_rule
law t fault none is =
    first_is (IsTold t) (faults (ordered (raw_of t)) (resolved (ordered (raw_of t)))) fault
    (all_told t (ordered (raw_of t)) (resolved (ordered (raw_of t))) (names_law t none) (ports_law t none) (routing_law t none) (limits_law t none)) is

-- ---- a refusal

abbrev LeadsIn : Tree → ConfFault → Type 0
LeadsIn t fault = PathLeads t IsWritten fault ⊎ (IsOfMissing t fault ⊎ IsOfNumbers t fault)

of_shape : (t : Tree) (fault : ConfFault) → PathLeads t IsWritten fault ⊎ IsOfMissing t fault → LeadsIn t fault
of_shape t fault (inl leads) = inl leads
of_shape t fault (inr missing) = inr (inl missing)

of_rule : (t : Tree) (fault : ConfFault) → PathLeads t IsWritten fault ⊎ IsOfNumbers t fault → LeadsIn t fault
of_rule t fault (inl leads) = inl leads
of_rule t fault (inr numbers) = inr (inr numbers)

pub refusal_leads : (t : Tree) (fault : ConfFault) → conf_of t ≡ Err fault → PathLeads t IsWritten fault ⊎ (IsOfMissing t fault ⊎ IsOfNumbers t fault)
unfolding conf_of
refusal_leads t fault is = by (first_fault t) refl is
  where
    checked : first_fault t ≡ None → (o : Option ConfFault) → broken_rule (raw_of t) ≡ o → unless o (Ok (meant_by (raw_of t))) ≡ Err fault → LeadsIn t fault
    checked right None broken e = absurd cc
    checked right (Some f) broken e = let same : f ≡ fault = cc in of_rule t fault (law t fault right (broken ∙ ap Some same))

    by : (o : Option ConfFault) → first_fault t ≡ o → unless o (unless (broken_rule (raw_of t)) (Ok (meant_by (raw_of t)))) ≡ Err fault → LeadsIn t fault
    by None right e = checked right (broken_rule (raw_of t)) refl e
    by (Some f) wrong e = let same : f ≡ fault = cc in of_shape t fault (shape_leads t fault (wrong ∙ ap Some same))
