-- What the paths of each rule lead to.
use Rattle.std.specs.Prelude.{◌≡◌, ◌⊎◌, codes, None}
use Rattle.std.specs.List.{AllByRecursion}
use Rattle.yaml_tree.specs.declared.tree.Tree.{Tree}
use Rattle.conf_types.specs.Configuration.{Configuration}
use Rattle.conf_shape.specs.declared.refused.ConfCause.TheVariants.{TooMany}
use Rattle.conf_shape.specs.declared.refused.ConfFault.{ConfFault}
use Rattle.conf_shape.specs.declared.refused.LimitName.TheVariants as limit
use Rattle.conf_shape.specs.Reads.{value_at, entries_of}
use Rattle.conf_resolve.specs.declared.ordered.OrderedConf.{OrderedConf}
use Rattle.conf_rules.specs.Limits.{passed_limits}
use Rattle.conf_rules.specs.Names.{repeated_vlans, repeated_dps, repeated_ports, unknown_vlans, vlans_twice, unknown_acls, acls_twice}
use Rattle.conf_rules.specs.Ports.{wrong_acl_ports, lacking_rules, wrong_mirrors, wrong_stacks}
use Rattle.conf_rules.specs.Routing.{overlapping_vips, shared_vlans, wrong_routes, repeated_routes}
use Rattle.law_documents.specs.Forms.{IsScalar, IsSection, IsOwn, NamesVlan, NamesPort, NamesPorts, NamesNoVlan, NamesNoAcl, SpellsNetwork, SpellsRoute}
use Rattle.law_documents.specs.Leads.{PathLeads, PathsLead}

-- rules 1 to 7
pub record NamePathsLead (t : Tree) (o : OrderedConf) (conf : Configuration) : Type 0 where
  -- to the number or the name, or what stands under it where it is a key
  pub repeated_vlans : PathsLead t IsOwn (repeated_vlans o)
  pub repeated_dps : PathsLead t IsOwn (repeated_dps o)
  pub repeated_ports : PathsLead t IsOwn (repeated_ports o)
  -- to the name
  pub unknown_vlans : PathsLead t (NamesNoVlan o) (unknown_vlans o)
  -- to the item
  pub vlans_twice : PathsLead t NamesVlan (vlans_twice o)
  -- to the name
  pub unknown_acls : PathsLead t (NamesNoAcl conf) (unknown_acls o conf)
  -- to the VLAN or the interface
  pub acls_twice : PathsLead t IsSection (acls_twice o)

-- rules 8 to 11
pub record PortPathsLead (t : Tree) (o : OrderedConf) (conf : Configuration) : Type 0 where
  -- to the port
  pub acl_ports : PathsLead t NamesPort (wrong_acl_ports o conf)
  -- to the value of the match key
  pub fields : PathsLead t IsScalar (lacking_rules o)
  -- to the item, or to all that `mirror` gives
  pub mirrors : PathsLead t NamesPorts (wrong_mirrors o conf)
  -- to `stack`
  pub stacks : PathsLead t IsSection (wrong_stacks o conf)

-- rules 12 to 15
pub record RoutingPathsLead (t : Tree) (o : OrderedConf) (conf : Configuration) : Type 0 where
  -- to the VIP
  pub vips : PathsLead t SpellsNetwork (overlapping_vips o conf)
  -- to the item of the router
  pub routers : PathsLead t NamesVlan (shared_vlans o conf)
  -- to `ip_dst` or `ip_gw`
  pub routes : PathsLead t SpellsRoute (wrong_routes o conf)
  -- to `ip_dst`
  pub repeats : PathsLead t SpellsNetwork (repeated_routes o conf)

-- more VLANs than a configuration may have, where `vlans` isn't written
abbrev pub IsOfNumbers : Tree → ConfFault → Type 0
IsOfNumbers t fault = (fault ≡ record { path = codes "vlans"; cause = TooMany limit.Vlans }) × (value_at (codes "vlans") (entries_of t) ≡ None)

-- rule 16: to the map of what passes the limit, or to the number that names a VLAN
abbrev pub LimitPathsLead : Tree → OrderedConf → Configuration → Type 0
LimitPathsLead t o conf = AllByRecursion (λ fault. PathLeads t IsOwn fault ⊎ IsOfNumbers t fault) (passed_limits o conf)
