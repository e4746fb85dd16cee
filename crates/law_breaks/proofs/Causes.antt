-- The causes of rules 4, 6 and 7.
use Rattle.std.specs.Prelude.{Bool, true, false, is_none, List, ◌++◌}
use Rattle.std.specs.List.{AllByRecursion, flat_map}
use Rattle.std.proofs.Common.{◌≡◌, ℕ, refl}
use Rattle.conf_types.specs.Configuration.{Configuration}
use Rattle.conf_shape.specs.declared.raw.RawAclNames.{RawAclNames}
use Rattle.conf_shape.specs.declared.refused.ConfCause.{ConfCause}
use Rattle.conf_shape.specs.declared.refused.ConfCause.TheVariants.{Unresolved, Conflict}
use Rattle.conf_shape.specs.declared.refused.ConfFault.{ConfFault}
use Rattle.conf_resolve.specs.declared.ordered.OrderedConf.{OrderedConf}
use Rattle.conf_resolve.specs.InOrder.{port_site}
use Rattle.conf_rules.specs.Names.{unknown_vlan, native_at, tagged_at, routed_at, peer_at, unknown_of_port, unknown_of_dp, unknown_of_router, unknown_vlans, unknown_acl, unknown_at, unknown_acls_of_vlan, unknown_acls_of_port, unknown_acls_of_dp, unknown_acls, are_both, both_of_vlan, both_of_dp, acls_twice}
use Rattle.conf_rules.specs.Places.{fault_if, one_at, list_at}
use Rattle.law_checks.proofs.Members.{IsIn, all_joined}
use Rattle.law_documents.proofs.Told.{each_of}
use Rattle.law_breaks.specs.Found.{AreToldAs}

module _ (cause : ConfCause) where
  told : (test : Bool) (site : List (List ℕ)) → AreToldAs cause (fault_if test cause site)
  told true site = (refl, tt)
  told false site = tt

  each : {A : Type 0} (f : A → List ConfFault) (xs : List A) → ((x : A) → IsIn xs x → AreToldAs cause (f x)) → AreToldAs cause (flat_map f xs)
  each f xs h = each_of (λ (fault : ConfFault). fault.cause ≡ cause) f xs h

  both : (xs ys : List ConfFault) → AreToldAs cause xs → AreToldAs cause ys → AreToldAs cause (xs ++ ys)
  both xs ys a b = all_joined (λ (fault : ConfFault). fault.cause ≡ cause) xs ys a b

pub rule4 : (o : OrderedConf) → AreToldAs Unresolved (unknown_vlans o)
rule4 o =
    both Unresolved (flat_map (unknown_of_dp o) o.dps) (flat_map (unknown_of_router o) o.routers)
    (each Unresolved (unknown_of_dp o) o.dps (λ d c. each Unresolved (unknown_of_port o d) d.ports (λ p j.
    both Unresolved (flat_map (unknown_vlan o) (native_at d p)) (flat_map (unknown_vlan o) (tagged_at d p))
    (each Unresolved (unknown_vlan o) (native_at d p) (λ item i. told Unresolved _ item.0))
    (each Unresolved (unknown_vlan o) (tagged_at d p) (λ item i. told Unresolved _ item.0)))))
    (each Unresolved (unknown_of_router o) o.routers (λ r c.
    both Unresolved (flat_map (unknown_vlan o) (routed_at r)) (flat_map (unknown_vlan o) (peer_at r))
    (each Unresolved (unknown_vlan o) (routed_at r) (λ item i. told Unresolved _ item.0))
    (each Unresolved (unknown_vlan o) (peer_at r) (λ item i. told Unresolved _ item.0))))

at_site : (conf : Configuration) (site : List (List ℕ)) (acls : RawAclNames) → AreToldAs Unresolved (unknown_at conf site acls)
at_site conf site acls =
    both Unresolved (flat_map (unknown_acl conf) (one_at site acls)) (flat_map (unknown_acl conf) (list_at site acls))
    (each Unresolved (unknown_acl conf) (one_at site acls) (λ item i. told Unresolved _ item.0))
    (each Unresolved (unknown_acl conf) (list_at site acls) (λ item i. told Unresolved _ item.0))

pub rule6 : (o : OrderedConf) (conf : Configuration) → AreToldAs Unresolved (unknown_acls o conf)
rule6 o conf =
    both Unresolved (flat_map (unknown_acls_of_vlan conf) o.vlans) (flat_map (unknown_acls_of_dp conf) o.dps)
    (each Unresolved (unknown_acls_of_vlan conf) o.vlans (λ v c. at_site conf v.site v.vlan.acls))
    (each Unresolved (unknown_acls_of_dp conf) o.dps (λ d c. each Unresolved (unknown_acls_of_port conf d) d.ports (λ p j. at_site conf (port_site d p) p.acls)))

pub rule7 : (o : OrderedConf) → AreToldAs (Conflict 7) (acls_twice o)
rule7 o =
    both (Conflict 7) (flat_map both_of_vlan o.vlans) (flat_map both_of_dp o.dps)
    (each (Conflict 7) both_of_vlan o.vlans (λ v c. told (Conflict 7) (are_both v.vlan.acls) v.site))
    (each (Conflict 7) both_of_dp o.dps (λ d c. each (Conflict 7) (λ p. fault_if (are_both p.acls) (Conflict 7) (port_site d p)) d.ports (λ p j. told (Conflict 7) (are_both p.acls) (port_site d p))))
