-- The rules of a configuration in their order, and the first place where one is broken.
use Rattle.std.specs.Prelude.{List, ◌++◌, Option}
use Rattle.conf_types.specs.Configuration.{Configuration}
use Rattle.conf_shape.specs.declared.refused.ConfFault.{ConfFault}
use Rattle.conf_resolve.specs.declared.ordered.OrderedConf.{OrderedConf}
use Rattle.conf_rules.specs.Limits.{passed_limits}
use Rattle.conf_rules.specs.Names.{repeated_vlans, repeated_dps, repeated_ports, unknown_vlans, vlans_twice, unknown_acls, acls_twice}
use Rattle.conf_rules.specs.Places.{first}
use Rattle.conf_rules.specs.Ports.{wrong_acl_ports, lacking_rules, wrong_mirrors, wrong_stacks}
use Rattle.conf_rules.specs.Routing.{overlapping_vips, shared_vlans, wrong_routes, repeated_routes}

-- names that are given twice or stand for nothing
abbrev pub name_faults : OrderedConf → Configuration → List ConfFault
name_faults o conf =
    repeated_vlans o
    ++ (repeated_dps o
    ++ (repeated_ports o
    ++ (unknown_vlans o
    ++ (vlans_twice o
    ++ (unknown_acls o conf
    ++ acls_twice o)))))

abbrev pub port_faults : OrderedConf → Configuration → List ConfFault
port_faults o conf =
    wrong_acl_ports o conf
    ++ (lacking_rules o
    ++ (wrong_mirrors o conf
    ++ wrong_stacks o conf))

abbrev pub routing_faults : OrderedConf → Configuration → List ConfFault
routing_faults o conf =
    overlapping_vips o conf
    ++ (shared_vlans o conf
    ++ (wrong_routes o conf
    ++ repeated_routes o conf))

-- every place where a rule is broken, rule by rule
abbrev pub faults : OrderedConf → Configuration → List ConfFault
faults o conf = name_faults o conf ++ (port_faults o conf ++ (routing_faults o conf ++ passed_limits o conf))

abbrev pub first_broken : OrderedConf → Configuration → Option ConfFault
first_broken o conf = first (faults o conf)
