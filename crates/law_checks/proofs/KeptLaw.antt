-- What is valid breaks no rule.
use Rattle.std.specs.Prelude.{◌≡◌, []}
use Rattle.std.specs.List.{AllByRecursion}
use Rattle.conf_types.specs.declared.acl.Acl.{Acl}
use Rattle.conf_types.specs.Valid.{IsValid, IsRule}
use Rattle.conf_shape.specs.declared.raw.RawDp.{RawDp}
use Rattle.conf_shape.specs.declared.raw.RawPort.{RawPort}
use Rattle.conf_resolve.specs.declared.ordered.OrderedConf.{OrderedConf}
use Rattle.conf_resolve.specs.Resolved.{resolved}
use Rattle.conf_rules.specs.Names.{acls_twice}
use Rattle.conf_rules.specs.Rules.{faults}
use Rattle.law_checks.specs.Resolves.{PortResolves, Resolves}
use Rattle.law_checks.proofs.Kept.{both_empty}
use Rattle.law_checks.proofs.KeptAcls.{targets_kept, fields_kept}
use Rattle.law_checks.proofs.KeptLimits.{limits_kept}
use Rattle.law_checks.proofs.KeptLinks.{mirrors_kept, stacks_kept}
use Rattle.law_checks.proofs.KeptNames.{vlans_kept, dps_kept, numbers_differ, ports_kept, named_once, once_kept, acls_kept}
use Rattle.law_checks.proofs.KeptNetworks.{vips_kept, routes_kept, routers_kept, leads_kept}
use Rattle.law_checks.proofs.Members.{IsIn, of_all, all_by}

pub law : (o : OrderedConf) → Resolves o → acls_twice o ≡ [] → IsValid (resolved o) → faults o (resolved o) ≡ []
law o names single valid =
    both_empty _ _
    (both_empty _ _ (vlans_kept o valid)
    (both_empty _ _ (dps_kept o valid)
    (both_empty _ _ (ports_kept o valid)
    (both_empty _ _ names.vlans
    (both_empty _ _ (once_kept o (named_once o valid))
    (both_empty _ _ (acls_kept o single valid.acls.of_vlans valid.acls.of_ports) single))))))
    (both_empty _ _
    (both_empty _ _ (targets_kept o valid.acls.in_order valid.acls.ports_on valid.acls.vlans_on)
    (both_empty _ _ (fields_kept o (all_by _ (resolved o).acls (λ a i. all_by _ a.rules (λ r j. (of_all IsRule a.rules (of_all (λ (a : Acl). AllByRecursion IsRule a.rules) (resolved o).acls valid.acls.rules a i) r j).fields.prerequisites))))
    (both_empty _ _ (mirrors_kept o (numbers_differ o valid) (all_by _ o.dps (λ d i. all_by _ d.ports (λ p j. (port_resolves d i p j).mirrored))) valid.mirrors) (stacks_kept o (all_by _ o.dps (λ d i. all_by _ d.ports (λ p j. (port_resolves d i p j).far_end))) valid.stacks))))
    (both_empty _ _
    (both_empty _ _ (vips_kept o valid)
    (both_empty _ _ (routers_kept o valid.routing.apart)
    (both_empty _ _ (leads_kept o valid.routing.each) (routes_kept o valid))))
    (limits_kept o valid.limits)))
  where
    port_resolves : (d : RawDp) → IsIn o.dps d → (p : RawPort) → IsIn d.ports p → PortResolves o d p
    port_resolves d i p j = of_all (PortResolves o d) d.ports (of_all (λ (d : RawDp). AllByRecursion (PortResolves o d) d.ports) o.dps names.ports d i) p j
