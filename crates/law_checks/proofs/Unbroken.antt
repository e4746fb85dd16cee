-- That a configuration breaks no rule, rule by rule.
use Rattle.std.specs.Prelude.{◌≡◌, []}
use Rattle.conf_types.specs.Configuration.{Configuration}
use Rattle.conf_resolve.specs.declared.ordered.OrderedConf.{OrderedConf}
use Rattle.conf_rules.specs.Limits.{passed_limits}
use Rattle.conf_rules.specs.Names.{repeated_vlans, repeated_dps, repeated_ports, unknown_vlans, vlans_twice, unknown_acls}
use Rattle.conf_rules.specs.Ports.{wrong_acl_ports, lacking_rules, wrong_mirrors, wrong_stacks}
use Rattle.conf_rules.specs.Routing.{overlapping_vips, shared_vlans, wrong_routes, repeated_routes}
use Rattle.conf_rules.specs.Rules.{faults, name_faults, port_faults, routing_faults}
use Rattle.law_checks.proofs.Empty.{none_left, none_right}

pub record BreaksNone (o : OrderedConf) (conf : Configuration) : Type 0 where
  pub vlans_differ : repeated_vlans o ≡ []
  pub dps_differ : repeated_dps o ≡ []
  pub ports_differ : repeated_ports o ≡ []
  pub vlans_exist : unknown_vlans o ≡ []
  pub named_once : vlans_twice o ≡ []
  pub acls_exist : unknown_acls o conf ≡ []
  pub targets_exist : wrong_acl_ports o conf ≡ []
  pub fields_stand : lacking_rules o ≡ []
  pub mirrors : wrong_mirrors o conf ≡ []
  pub stacks : wrong_stacks o conf ≡ []
  pub vips_apart : overlapping_vips o conf ≡ []
  pub one_router : shared_vlans o conf ≡ []
  pub routes_lead_out : wrong_routes o conf ≡ []
  pub routes_differ : repeated_routes o conf ≡ []
  pub limits : passed_limits o conf ≡ []

pub unbroken : (o : OrderedConf) (conf : Configuration) → faults o conf ≡ [] → BreaksNone o conf
unbroken o conf none =
    let names = none_left (name_faults o conf) _ none in
    let rest = none_right (name_faults o conf) _ none in
    let ports = none_left (port_faults o conf) _ rest in
    let rest2 = none_right (port_faults o conf) _ rest in
    let routing = none_left (routing_faults o conf) _ rest2 in
    let n2 = none_right (repeated_vlans o) _ names in
    let n3 = none_right (repeated_dps o) _ n2 in
    let n4 = none_right (repeated_ports o) _ n3 in
    let n5 = none_right (unknown_vlans o) _ n4 in
    let n6 = none_right (vlans_twice o) _ n5 in
    let p2 = none_right (wrong_acl_ports o conf) _ ports in
    let p3 = none_right (lacking_rules o) _ p2 in
    let r2 = none_right (overlapping_vips o conf) _ routing in
    let r3 = none_right (shared_vlans o conf) _ r2 in
    record {
      vlans_differ = none_left (repeated_vlans o) _ names;
      dps_differ = none_left (repeated_dps o) _ n2;
      ports_differ = none_left (repeated_ports o) _ n3;
      vlans_exist = none_left (unknown_vlans o) _ n4;
      named_once = none_left (vlans_twice o) _ n5;
      acls_exist = none_left (unknown_acls o conf) _ n6;
      targets_exist = none_left (wrong_acl_ports o conf) _ ports;
      fields_stand = none_left (lacking_rules o) _ p2;
      mirrors = none_left (wrong_mirrors o conf) _ p3;
      stacks = none_right (wrong_mirrors o conf) _ p3;
      vips_apart = none_left (overlapping_vips o conf) _ routing;
      one_router = none_left (shared_vlans o conf) _ r2;
      routes_lead_out = none_left (wrong_routes o conf) _ r3;
      routes_differ = none_right (wrong_routes o conf) _ r3;
      limits = none_right (routing_faults o conf) _ rest2;
    }
