-- Numbers and names that are given once, rules 1 to 3.
use Rattle.std.specs.Prelude.{◌≡◌, []}
use Rattle.std.specs.List.{AllByRecursion, filter_map}
use Rattle.conf_types.specs.declared.datapath.Dp.{Dp}
use Rattle.conf_types.specs.declared.datapath.Port.{Port}
use Rattle.conf_types.specs.declared.vlan.Router.{Router}
use Rattle.conf_types.specs.Configuration.{Configuration}
use Rattle.conf_types.specs.Lists.{EachBefore, AreDistinct}
use Rattle.conf_shape.specs.declared.raw.RawRouter.{RawRouter}
use Rattle.conf_resolve.specs.declared.ordered.OrderedConf.{OrderedConf}
use Rattle.conf_resolve.specs.Resolved.{dp_of, router_of, resolved, vid_of}
use Rattle.conf_rules.specs.Names.{repeated_vlans, repeated_dps, repeated_ports_of, repeated_ports}
use Rattle.law_checks.proofs.Apart.{vids_differ, vlan_names_differ, no_vlan_twice, ids_differ, dp_names_differ, no_dp_twice, port_numbers_differ, port_names_differ, no_port_twice}
use Rattle.law_checks.proofs.Empty.{none_at}
use Rattle.law_checks.proofs.Kept.{all_empty}
use Rattle.law_checks.proofs.Members.{of_all, all_by, all_mapped, in_mapped}
use Rattle.law_checks.proofs.Once.{once_distinct}
use Rattle.law_rules.specs.Limits.{AreTold}
use Rattle.law_rules.specs.Rules.{VlansDiffer, DatapathsDiffer, InterfacesDiffer}

module _ (o : OrderedConf) where
  abbrev conf : Configuration
  conf = resolved o

  pub vlans_differ : repeated_vlans o ≡ [] → VlansDiffer conf
  vlans_differ none = record { numbers = vids_differ o none; names = vlan_names_differ o none }

  pub differing_vlans : VlansDiffer conf → repeated_vlans o ≡ []
  differing_vlans is = no_vlan_twice o is.numbers is.names

  pub dps_differ : repeated_dps o ≡ [] → DatapathsDiffer conf
  dps_differ none = record { ids = ids_differ o none; names = dp_names_differ o none }

  pub differing_dps : DatapathsDiffer conf → repeated_dps o ≡ []
  differing_dps is = no_dp_twice o is.ids is.names

  pub ports_differ : repeated_ports o ≡ [] → AllByRecursion InterfacesDiffer conf.dps
  ports_differ none = all_mapped InterfacesDiffer (dp_of o) o.dps (all_by (λ d. InterfacesDiffer (dp_of o d)) o.dps (λ d i.
      let here = none_at repeated_ports_of o.dps none d i in
      record { numbers = port_numbers_differ o d here; names = port_names_differ o d here }))

  pub differing_ports : AllByRecursion InterfacesDiffer conf.dps → repeated_ports o ≡ []
  differing_ports all = all_empty repeated_ports_of o.dps (λ d i.
      let is = of_all InterfacesDiffer conf.dps all (dp_of o d) (in_mapped (dp_of o) o.dps d i) in
      no_port_twice o d is.numbers is.names)

  pub numbers_differ : AllByRecursion InterfacesDiffer conf.dps → AllByRecursion (λ d. EachBefore (λ p q. p.no ≡ q.no → ⊥) d.ports) conf.dps
  numbers_differ all = all_by (λ (d : Dp). EachBefore (λ (p q : Port). p.no ≡ q.no → ⊥) d.ports) conf.dps (λ d i. (of_all InterfacesDiffer conf.dps all d i).numbers)

  -- so numbers tell them apart; a router's VLANs are gathered so
  pub told : repeated_vlans o ≡ [] → repeated_dps o ≡ [] → repeated_ports o ≡ [] → AreTold conf
  told vlans dps ports = record {
    vlans = vids_differ o vlans;
    dps = ids_differ o dps;
    ports = numbers_differ (ports_differ ports);
    routers = all_mapped (λ (r : Router). AreDistinct r.vlans) (router_of o) o.routers (all_by (λ (r : RawRouter). AreDistinct (router_of o r).vlans) o.routers (λ r i. once_distinct (filter_map (vid_of o.vlans) r.vlans)));
  }
